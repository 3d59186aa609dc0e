-- The calls of one task, as the code follows them through a history.
use Rattle.std.specs.Prelude.{◌≡◌, cond, List, [], ◌∷◌, ℕ, ◌+◌, eqb}
use Rattle.std.proofs.Math.Option.{Option, none, some}
use Rattle.std.specs.Prelude as Rust
use Rattle.std.specs.Prelude.{None, Some}
use Rattle.history_spec.specs.Basics.{◌∈◌}
use Rattle.history_spec.specs.History.{Action, begin, step, drop, task_of, Response, Event, refused, accepted, answered, FinishedCall, calls_of}
use Rattle.figure_lines.specs.Answers.{answer_of}
use Rattle.figure_lines.specs.declared.Answer.{Answer}
use Rattle.nudge_tool.specs.declared.calls.CallSummary.{CallSummary}

-- what is kept of a finished call: the numbers of its begin and of its last step, and its answer
pub record Summary : Type 0 where
  pub at : ℕ
  pub last : ℕ
  pub answer : Response

abbrev pub summary : FinishedCall → Summary
summary f = record { at = f.call.start.at; last = f.call.last; answer = f.report.answer }

-- what an action leaves of the task's call: the number of its begin, or the answer of the call that it ended. Where the task has no call, as after
-- a drop, the number says nothing.
pub data Note : Type 0 where
  pending : (at : ℕ) → Note
  ended : Response → Note

-- action i, of the task itself; its call was begun at k, if it has one
abbrev pub begun_by : Action → (k i : ℕ) → ℕ
begun_by (begin t op) k i = i
begun_by (step t) k i = k
begun_by (drop t) k i = k

abbrev pub own_note : (k i : ℕ) → Action → Event → Note
own_note k i a (refused n) = pending k
own_note k i a (accepted x) = pending (begun_by a k i)
own_note k i a (answered x r) = ended r.answer

abbrev pub note_of : (task k i : ℕ) → Action → Event → Note
note_of t k i a e = cond (eqb (task_of a) t) (own_note k i a e) (pending k)

abbrev pub begun_after : Note → (k : ℕ) → ℕ
begun_after (pending j) k = j
begun_after (ended r) k = k

-- the task's finished calls in their order, from action i on
abbrev pub listing : Note → (k i : ℕ) → ((k : ℕ) → List Summary) → List Summary
listing (pending j) k i later = later j
listing (ended r) k i later = record { at = k; last = i; answer = r } ∷ later k

abbrev pub calls : (task k i : ℕ) → List (Action × Event) → List Summary
calls t k i [] = []
calls t k i (x ∷ h) = listing (note_of t k i x.0 x.1) k i (λ k. calls t k (i + 1) h)

-- what the one begun at m answers
abbrev pub answer_of_call : (m : ℕ) → List Summary → Option Response
answer_of_call m [] = none
answer_of_call m (c ∷ l) = cond (eqb c.at m) (some c.answer) (answer_of_call m l)

-- a finished call of the task
pub record Summarizes (h : List (Action × Event)) (task : ℕ) (c : Summary) : Type 0 where
  pub call : FinishedCall
  pub finished : call ∈ (calls_of h).finished
  pub its-task : call.call.start.task ≡ task
  pub kept : summary call ≡ c

-- THE CODE'S ANSWERS

-- what the task's call answers that an action ended, or none; after it the call was begun at k
abbrev pub note_in : (k : ℕ) → Rust.Option Answer → Note
note_in k None = pending k
note_in k (Some a) = ended (answer_of a)

abbrev pub summary_of : CallSummary → Summary
summary_of c = record { at = c.at; last = c.last; answer = answer_of c.answer }

abbrev pub sought_of : Rust.Option CallSummary → Option Summary
sought_of None = none
sought_of (Some c) = some (summary_of c)
