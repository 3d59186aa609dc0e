-- An entry's promise as a move of the machine.
use Rattle.std.proofs.Common.{◌≡◌, ℕ, List, ap}
use Rattle.cells_spec.specs.declared.State.{State}
use Rattle.cells_spec.specs.Answers.{Said}
use Rattle.cells_spec.specs.Open.{After, leaving}
use Rattle.cells_spec.specs.Machine.{Pool}

abbrev left : After → Pool
left x = (x.state, x.pool)

pub moves : {s : State} {p : List ℕ} {o : Said} {x : After} → leaving s p o ≡ x → (s, p) ≡ left x
moves e = ap left e
