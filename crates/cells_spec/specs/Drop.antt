-- A drop: the task's call is withdrawn. Its record is idle, its other fields 0, and the blocks that it held or had taken are released.
use Rattle.std.specs.Prelude.{List, ◌∷◌, ℕ}
use Rattle.cells_spec.specs.declared.State.{State}
use Rattle.figure_lines.specs.Record.{idle, record_at}
use Rattle.cells_spec.specs.Questions.{Question, refusal, fit, step_questions}
use Rattle.cells_spec.specs.Answers.{Acted}
use Rattle.cells_spec.specs.Open.{After, leaving, unless}
use Rattle.cells_spec.specs.Begin.{with_record}
use Rattle.cells_spec.specs.StoredCounts.{released}
use Rattle.cells_spec.specs.Step.{with_counts}

-- it asks what a step asks, but for a block
abbrev pub drop_asks : State → List ℕ → (task : ℕ) → List Question
drop_asks s p t = (6, fit s p) ∷ step_questions s.tasks (record_at s.records t) t

abbrev pub call_withdrawn : State → List ℕ → (task : ℕ) → After
call_withdrawn s p t = leaving (with_counts (with_record s t idle) (released s.counts (record_at s.records t))) p Acted

unfoldable pub dropped : State → List ℕ → (task : ℕ) → After
dropped s p t = unless (refusal (drop_asks s p t)) s p (call_withdrawn s p t)
