use mathlib.Core.Path.{◌≡◌}
use native.Mathlib.Omega.{arith}
use Rattle.cells_step.proofs.reading.read_line.Goals as goal

pub load-requires : goal.load-requires
load-requires c = rw c.in-11.is at c.requires.within 0

pub load-requires-in_default : goal.load-requires-in_default
load-requires-in_default c = let e : c.args.r.now.line ≡ 12 = omega arith in rw e at c.requires.within 0
