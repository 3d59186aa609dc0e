use mathlib.Core.Path.{◌≡◌}
use native.Mathlib.Omega.{arith}
use Rattle.cells_step.proofs.filling.fill_line.Goals as goal

pub store-requires : goal.store-requires
store-requires c = rw c.in-5.is at c.requires.within 0

pub store-requires-in-6 : goal.store-requires-in-6
store-requires-in-6 c = rw c.in-6.is at c.requires.within 0

pub store-requires-in-7 : goal.store-requires-in-7
store-requires-in-7 c = rw c.in-7.is at c.requires.within 0

pub store-requires-in_default : goal.store-requires-in_default
store-requires-in_default c = let e : c.args.r.now.line ≡ 8 = omega arith in rw e at c.requires.within 0
