-- The statement holds of the history that specs/Examples.antt calls right.
use mathlib.Core.Path.{refl, subst}
use Rattle.once_spec.specs.Entries.{once_opened, once_start}
use Rattle.once_spec.specs.Consensus.{RightOnce}
use Rattle.once_spec.specs.Examples.{right, moves, is_right}
use Rattle.once_spec.proofs.Agrees.{once_cells_agree}

pub right-holds : RightOnce 1 right
unfolding once_opened
right-holds = subst (RightOnce 1) is_right (once_cells_agree (once_start 2 1) 2 1 refl (moves right))
