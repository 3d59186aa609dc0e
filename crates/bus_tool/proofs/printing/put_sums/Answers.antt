use mathlib.Core.List.{[], ◌∷◌}
use Prim.Native.Nat.{◌/◌}
use Rattle.text.specs.Bytes.{bytes}
use Rattle.bus_tool.proofs.Lengths.{line-room}
use native.Mathlib.Omega.{arith}
use Rattle.bus_tool.proofs.printing.put_sums.Goals as goal

pub line-requires : goal.line-requires
line-requires c = let w = c.from in
    let w2 = c.from-2 in
    let u = c.up in
    let a = c.args in
    omega (arith, line-room (bytes "(all") (a.least / 10 ∷ u.result ∷ w.result ∷ w2.result ∷ []) (omega arith, (omega arith, (omega (arith, w.ensures), (omega (arith, w2.ensures), tt)))))
