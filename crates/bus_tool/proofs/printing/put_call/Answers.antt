use mathlib.Core.List.{[], ◌∷◌}
use Prim.Native.Nat.{◌/◌}
use Rattle.text.specs.Bytes.{bytes}
use Rattle.bus_tool.proofs.Lengths.{line-room, call-short}
use native.Mathlib.Omega.{arith}
use Rattle.bus_tool.proofs.printing.put_call.Goals as goal

pub line-requires : goal.line-requires
line-requires c = let w = c.from in
    let w2 = c.from-2 in
    let u = c.up in
    let a = c.args in
    omega (arith, line-room (bytes "(bus") (w.result ∷ w2.result ∷ a.c.least / 10 ∷ u.result ∷ []) (omega (arith, w.ensures), (omega (arith, w2.ensures), (omega arith, (omega arith, tt)))))

pub returns-clause-upper_bound : goal.returns-clause-upper_bound
returns-clause-upper_bound c = let w = c.from in
    let w2 = c.from-2 in
    let u = c.up in
    λ z. omega (arith, c.line.ensures.appended.stored.next, call-short w.result w2.result (c.args.c.least / 10) u.result (omega (arith, z.0, w.ensures)) (omega (arith, z.1, w2.ensures)) (omega (arith, z.2)) (omega (arith, z.3, u.ensures)))
