-- The questions of a begin and a step in the parts in which the code asks them: an offer and a cell are there only once 7 and 8 are answered yes.
use Rattle.std.specs.Prelude.{Bool, not, List, [], ◌∷◌, ℕ, eqb, ltb}
use Rattle.figure_lines.specs.Record.{no_value}
use Rattle.cells_spec.specs.Questions.{Question}
use Rattle.once_spec.specs.declared.Offer.{Offer}
use Rattle.once_spec.specs.declared.OnceState.{OnceState}
use Rattle.once_spec.specs.Questions.{is_idle_offer, once_fit}

abbrev pub task_questions : OnceState → (task : ℕ) → List Question
task_questions s t = (6, once_fit s) ∷ (7, ltb t s.tasks) ∷ []

abbrev pub place_questions : OnceState → (task cell : ℕ) → List Question
place_questions s t k = (6, once_fit s) ∷ (7, ltb t s.tasks) ∷ (8, ltb k s.cells) ∷ []

-- of the task's offer, and whether the task has offered on the cell
abbrev pub last_questions : Offer → (offered : Bool) → (value : ℕ) → List Question
last_questions r o w = (9, is_idle_offer r) ∷ (16, not o) ∷ (10, not (eqb w no_value)) ∷ []

abbrev pub busy_questions : Offer → List Question
busy_questions r = (11, not (is_idle_offer r)) ∷ []
