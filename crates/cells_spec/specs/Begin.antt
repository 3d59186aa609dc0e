-- The begins of a read and of a swap.
use Rattle.std.specs.Prelude.{List, ◌∷◌, ℕ, set}
use Rattle.figure_lines.specs.declared.Record.{Record}
use Rattle.cells_spec.specs.declared.State.{State}
use Rattle.cells_spec.specs.Answers.{Acted}
use Rattle.figure_lines.specs.Record.{record_at, first_read, first_swap}
use Rattle.cells_spec.specs.Questions.{refusal, fit, begin_questions, swap_questions}
use Rattle.cells_spec.specs.Open.{After, unless}

-- a call that begins names no block yet, so the counts stay
abbrev pub with_record : State → ℕ → Record → State
with_record s t r = record { tasks = s.tasks; cells = s.cells; blocks = s.blocks; last = s.last; current = s.current; records = set s.records t r; counts = s.counts }

abbrev pub started : State → List ℕ → ℕ → Record → After
started s p t r = record { state = with_record s t r; pool = p; outcome = Acted }

-- a begin whose first record is q
unfoldable pub begun : State → List ℕ → (task : ℕ) → (q : Record) → After
begun s p t q = unless (refusal ((6, fit s p) ∷ swap_questions s.tasks s.cells (record_at s.records t) t q.cell q.expected q.new)) s p (started s p t q)

-- the same where question 6 is not asked
abbrev pub begun_unasked : State → List ℕ → (task : ℕ) → (q : Record) → After
begun_unasked s p t q = unless (refusal (swap_questions s.tasks s.cells (record_at s.records t) t q.cell q.expected q.new)) s p (started s p t q)

unfoldable pub read_begun : State → List ℕ → (task cell : ℕ) → After
read_begun s p t k = unless (refusal ((6, fit s p) ∷ begin_questions s.tasks s.cells (record_at s.records t) t k)) s p (started s p t (first_read k))

unfoldable pub swap_begun : State → List ℕ → (task cell expected new : ℕ) → After
swap_begun s p t k e n = unless (refusal ((6, fit s p) ∷ swap_questions s.tasks s.cells (record_at s.records t) t k e n)) s p (started s p t (first_swap k e n))
