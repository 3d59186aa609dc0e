-- What the cells can come to: an opening that is not refused, and a list of actions after it.
use Rattle.std.specs.Prelude.{◌≡◌, List, ℕ, length}
use Rattle.std.proofs.Math.Option.{none}
use Rattle.cells_spec.specs.declared.State.{State}
use Rattle.cells_spec.specs.Questions.{refusal, open_questions}
use Rattle.history_spec.specs.History.{Action, run}
use Rattle.cells_spec.specs.Machine.{pool}
use Rattle.cells_theorems.specs.Terms.{start}

pub record Reached (tasks cells : ℕ) (s : State) (p : List ℕ) : Type 0 where
  -- before the opening
  pub old : State
  pub words : List ℕ
  -- the opening
  pub blocks : ℕ
  pub values : List ℕ
  pub allowed : refusal (open_questions (length words) tasks cells blocks values) ≡ none
  pub actions : List Action
  pub came : (s, p) ≡ run pool (start old words tasks cells blocks values) actions
