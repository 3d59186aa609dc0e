use native.Mathlib.Omega.{arith}
use Rattle.text.proofs.Decimal.{digits_none, digits_one, digits_more, digits-room}
use lib.ListN.{length}
use mathlib.Core.Path.{ap}
use Prim.Native.Nat.{◌+◌, ◌%◌}
use Rattle.text.proofs.Appending.{nothing, one, then}
use Rattle.text.proofs.page.+digits.Goals as goal

pub returns-then-k-eq0 : goal.returns-then-k-eq0
returns-then-k-eq0 t c = rw (digits_none _ _ c.if-k-eq0.true) (nothing _ _)

pub bounds-out-at : goal.bounds-out-at
bounds-out-at t c = omega (arith, ap length (digits_one c.args.k c.args.n c.if-k-eq0.false c.if-n-lt10.true))

pub returns-then-n-lt10 : goal.returns-then-n-lt10
returns-then-n-lt10 t c =
    let a = c.args in
    let e = digits_one a.k a.n c.if-k-eq0.false (omega arith) in
    rw e (one a.out.now a.at (48 + a.n % 10) (omega (arith, ap length e)))

pub digits-next-requires : goal.digits-next-requires
digits-next-requires t c =
    let a = c.args in (omega arith, omega (arith, digits-room a.k a.n c.if-k-eq0.false c.if-n-lt10.false))

pub bounds-out-next : goal.bounds-out-next
bounds-out-next t c =
    let a = c.args in
    omega (arith, c.digits-next.ensures.stored.next, digits-room a.k a.n c.if-k-eq0.false c.if-n-lt10.false)

pub returns : goal.returns
returns t c =
    let d = c.digits-next in
    let a = c.args in
    rw (digits_more a.k a.n c.if-k-eq0.false (omega arith)) (then d.ensures (one d.new.out d.result _ (omega (arith, d.ensures.stored.next, digits-room a.k a.n c.if-k-eq0.false c.if-n-lt10.false))))
