-- Demands 2 and 3 of the cells whose steps are lent the task's own record: their machine is the cells'.
use mathlib.Core.Path.{◌≡◌}
use mathlib.Core.Option.{none}
use mathlib.Core.List.{List}
use Prim.Native.Nat.{ℕ}
use lib.ListN.{get_or, length}
use Rattle.cells_spec.specs.declared.State.{State}
use Rattle.cells_spec.specs.Questions.{refusal, open_questions}
use Rattle.history_spec.specs.History.{Action, history}
use Rattle.history_spec.specs.Demand3.{Meets, clear_after}
use Rattle.figure.specs.Figure.{figure, opening, clear}
use Rattle.cells_spec.specs.Machine.{lent_pool}
use Rattle.cells_spec.proofs.LentLaw.{lent_machine}
use Rattle.cells_theorems.specs.Terms.{start}
use Rattle.cells_theorems.proofs.Refines.{same-history}
use Rattle.cells_theorems.proofs.Demand3.{cells_meet_demand_3}

module _ (old : State) (words : List ℕ) (tasks cells blocks : ℕ) (values : List ℕ) (allowed : refusal (open_questions (length words) tasks cells blocks values) ≡ none) where
  pub lent_same_history : (actions : List Action) → history lent_pool (start old words tasks cells blocks values) actions ≡ history figure (opening tasks cells values) actions
  lent_same_history = rw lent_machine (same-history old words tasks cells blocks values allowed)

  pub lent_cells_meet_demand_3 : Meets lent_pool (start old words tasks cells blocks values) (clear_after figure (opening tasks cells values) clear) cells (λ k. get_or values k 0)
  lent_cells_meet_demand_3 = rw lent_machine (cells_meet_demand_3 old words tasks cells blocks values allowed)
