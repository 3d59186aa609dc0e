use mathlib.Core.Path.{◌≡◌}
use Prim.Native.Nat.{◌+◌, ◌*◌, ◌-◌}
use native.Mathlib.Omega.{arith}
use Rattle.cells_spec.proofs.Parts.{filled}
use Rattle.cells_step.proofs.memory.fill.Goals as goal

pub returns : goal.returns
returns c = let b = c.args.block in
    let e : (5 * b + 5) - 5 * b ≡ 5 = omega arith in
    rw (c.copy_from_slice.ensures.after, e) (filled b c.args.pool.now c.args.v c.requires)
