-- An exchange, as the code tries it: from the state before the two actions.
use Rattle.std.specs.Prelude.{Bool, false, not, ◌&&◌, List, [], ◌∷◌, ℕ, eqb, drop}
use Rattle.std.proofs.Math.Option.{Option, none, some}
use Rattle.cells_spec.specs.Questions.{refusal, step_questions}
use Rattle.figure_lines.specs.declared.Record.{Record}
use Rattle.figure_lines.specs.Record.{record_at}
use Rattle.cells_spec.specs.Machine.{Pool, pool}
use Rattle.figure.specs.Exchange.{if_accepted}
use Rattle.history_spec.specs.History as History
use Rattle.history_spec.specs.History.{Action, begin, step, task_of, Response, history}
use Rattle.nudge_spec.specs.Exchange.{exchanged, moved_to}
use Rattle.nudge_spec.specs.Nudge.{answers_still}
use Rattle.nudge_tool.specs.Calls.{calls, answer_of_call}

-- which cell an action touches: figure/specs/Exchange.antt, of any tasks' records
abbrev pub touched_by : (tasks : ℕ) → (ℕ → Record) → Action → Option ℕ
touched_by n r (begin t op) = none
touched_by n r (step t) = if_accepted (refusal (step_questions n (r t) t)) (r t).cell
touched_by n r (History.drop t) = none

abbrev pub same_cell : Option ℕ → Option ℕ → Bool
same_cell none o = false
same_cell (some j) none = false
same_cell (some j) (some k) = eqb j k

-- actions of two tasks that touch the same cell
abbrev pub collides : (tasks : ℕ) → (ℕ → Record) → (a b : Action) → Bool
collides n r a b = not (eqb (task_of a) (task_of b)) && same_cell (touched_by n r a) (touched_by n r b)

abbrev pub first_two : (Action → Action → Bool) → List Action → Bool
first_two f [] = false
first_two f (a ∷ []) = false
first_two f (a ∷ b ∷ l) = f a b

-- exchange i of the actions l, from the state before it, for the task's call begun at m that answers a; the task's call was begun at k, if it has one
abbrev pub nudges_at : Pool → List Action → (task k m : ℕ) → Response → (i : ℕ) → Bool
nudges_at x l t k m a i =
    first_two (collides x.0.tasks (record_at x.0.records)) (drop i l) && not (answers_still a (answer_of_call (moved_to i m) (calls t k i (history pool x (drop i (exchanged i l))))))
