-- One step: questions, then the task's turn on numbers of the state, which are put back.
use Rattle.std.specs.Prelude.{List, ◌∷◌, ℕ, get_or, set}
use Rattle.figure_lines.specs.declared.Record.{Record}
use Rattle.figure_lines.specs.declared.Access.{Access}
use Rattle.cells_spec.specs.declared.State.{State}
use Rattle.figure_lines.specs.Record.{record_at}
use Rattle.cells_spec.specs.Questions.{Question, refusal, fit, pool_step_questions}
use Rattle.cells_spec.specs.Blocks.{unused, is_found}
use Rattle.cells_spec.specs.Open.{After, leaving, unless}
use Rattle.cells_spec.specs.Begin.{with_record}
use Rattle.cells_spec.specs.StoredCounts.{recounted}
use Rattle.cells_spec.specs.Memory.{performed}
use Rattle.cells_spec.specs.Turn.{Turned, turn}
use Rattle.cells_spec.specs.Events.{tried}
use Rattle.history_spec.specs.History.{Attempt}

abbrev pub current : State → ℕ → ℕ
current s k = get_or s.current k 0

-- cell k names the block c, and l was taken last
abbrev pub with_blocks : State → (k c l : ℕ) → State
with_blocks s k c l = record { tasks = s.tasks; cells = s.cells; blocks = s.blocks; last = l; current = set s.current k c; records = s.records; counts = s.counts }

abbrev pub with_counts : State → List ℕ → State
with_counts s l = record { tasks = s.tasks; cells = s.cells; blocks = s.blocks; last = s.last; current = s.current; records = s.records; counts = l }

-- of a task whose record was r
abbrev pub put_back : State → (task : ℕ) → Record → Turned → After
put_back s t r x =
    let k = r.cell in
    leaving (with_counts (with_record (with_blocks s k x.current x.last) t x.record) (recounted s.counts r x.record (current s k) x.current)) x.pool x.outcome

-- the value that memory answers to an access of task t's record
abbrev pub memory_answers : State → List ℕ → Record → Access → ℕ
memory_answers s p r a = (performed p (current s r.cell) s.last (unused s) a).value

-- what becomes of the hardware CAS of that record's next line
abbrev pub tried_at : State → List ℕ → ℕ → Record → Attempt
tried_at s p t r = tried t r (memory_answers s p r)

-- a busy task's next line
unfoldable pub ran : State → List ℕ → ℕ → Record → After
ran s p t r = put_back s t r (turn p t r (current s r.cell) s.last (unused s))

abbrev pub step_asks : State → List ℕ → (task : ℕ) → List Question
step_asks s p t = (6, fit s p) ∷ pool_step_questions s.tasks (record_at s.records t) t (is_found (unused s))

unfoldable pub stepped : State → List ℕ → (task : ℕ) → After
stepped s p t = unless (refusal (step_asks s p t)) s p (ran s p t (record_at s.records t))
