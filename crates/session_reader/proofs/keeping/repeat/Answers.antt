use Rattle.std.proofs.Common.{◌≡◌, ◌+◌, ◌-◌, ◌*◌, ◌≤◌, arith}
use native.Mathlib.Nat.{mul-le-mul_right}
use Rattle.session_reader.proofs.Repeated as repeated
use Rattle.session_reader.proofs.keeping.repeat.Goals as goal

pub loop-to-init : goal.loop-to-init
loop-to-init c = let a = c.args in repeated.copied_start a.words.now a.n a.m a.c (omega arith) (omega arith) (omega arith)

pub loop-to-preserved : goal.loop-to-preserved
loop-to-preserved c = let a = c.args in let l = c.loop-to in repeated.copied_more a.words.now a.n a.m a.c (omega arith) (omega arith) (omega arith) l.invariant (omega arith) (omega arith) (omega arith)

pub returns : goal.returns
returns c =
    let a = c.args in
    let l = c.loop-to in
    let once : 1 * (a.m - a.n) ≤ a.c * (a.m - a.n) = mul-le-mul_right {m = 1} {n = a.c} (a.m - a.n) (omega arith) in
    let e : l.to ≡ a.n + a.c * (a.m - a.n) = omega arith in
    rw e at (repeated.copied_end a.words.now a.n a.m a.c (omega arith) (omega arith) (omega arith) l.invariant e)
