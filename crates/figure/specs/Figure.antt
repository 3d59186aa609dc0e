-- Figure 2 with a new block each time: the machine. The lines are those of `lines`.
use Rattle.std.specs.Prelude.{◌≡◌, List, ℕ, get_or}
use Rattle.std.proofs.Math.Option.{Option, none, some}
use Rattle.figure_lines.specs.declared.Record.{Record}
use Rattle.cells_spec.specs.Answers.{Said, Refused, Acted, Seen}
use Rattle.figure_lines.specs.declared.Field.{Field}
use Rattle.figure_lines.specs.declared.Field.TheVariants.{X, Y, C, D}
use Rattle.figure_lines.specs.declared.Access.{Access}
use Rattle.figure_lines.specs.Record.{idle}
use Rattle.figure_lines.specs.Lines.{access_of, next_of}
use Rattle.cells_spec.specs.Pool.{fresh}
use Rattle.cells_spec.specs.Questions.{refusal, begin_questions, swap_questions, step_questions, look_questions}
use Rattle.figure_lines.specs.Record.{first_read, first_swap}
use Rattle.cells_spec.specs.Look.{shown_value, shown}
use Rattle.cells_spec.specs.Events.{event_of, tried}
use Rattle.cells_spec.specs.Turn.{record_after, outcome_of}
use Rattle.history_spec.specs.Basics.{upd}
use Rattle.history_spec.specs.History.{Op, read, swap, Action, begin, step, drop, Attempt, untried, Event}
use Rattle.figure_cell.specs.Memory.{Cell, access_cell}

pub record World : Type 0 where
  pub tasks : ℕ
  pub cells : ℕ
  pub cell : ℕ → Cell
  pub records : ℕ → Record

abbrev pub with_task : World → ℕ → Record → World
with_task w t q = record { tasks = w.tasks; cells = w.cells; cell = w.cell; records = upd w.records t q }

-- cell k and task t changed
abbrev pub with_both : World → ℕ → Cell → ℕ → Record → World
with_both w k m t q = record { tasks = w.tasks; cells = w.cells; cell = upd w.cell k m; records = upd w.records t q }

pub record WorldAfter : Type 0 where
  pub world : World
  pub outcome : Said

abbrev pub world_after : World → Said → WorldAfter
world_after w o = record { world = w; outcome = o }

abbrev pub unless_refused : Option ℕ → World → WorldAfter → WorldAfter
unless_refused none w acted = acted
unless_refused (some n) w acted = world_after w (Refused n)

-- a busy task's next line: its access on its own cell, and what follows
unfoldable pub figure_ran : World → ℕ → Record → WorldAfter
figure_ran w t q = let m = access_cell (w.cell q.cell) (access_of t q) in let n = next_of t q m.value in world_after (with_both w q.cell m.cell t (record_after n)) (outcome_of n)

unfoldable pub figure_stepped : World → ℕ → WorldAfter
figure_stepped w t = unless_refused (refusal (step_questions w.tasks (w.records t) t)) w (figure_ran w t (w.records t))

-- the record of a call as begun
abbrev pub first_of : Op → Record
first_of (read k) = first_read k
first_of (swap k e n) = first_swap k e n

unfoldable pub figure_begun : World → ℕ → Op → WorldAfter
figure_begun w t (read k) = unless_refused (refusal (begin_questions w.tasks w.cells (w.records t) t k)) w (world_after (with_task w t (first_of (read k))) Acted)
figure_begun w t (swap k e n) = unless_refused (refusal (swap_questions w.tasks w.cells (w.records t) t k e n)) w (world_after (with_task w t (first_of (swap k e n))) Acted)

-- a busy task's call is withdrawn
unfoldable pub figure_dropped : World → ℕ → WorldAfter
figure_dropped w t = unless_refused (refusal (step_questions w.tasks (w.records t) t)) w (world_after (with_task w t idle) Acted)

-- cell k's first block, number 0, has its starting value
abbrev pub opening : (tasks cells : ℕ) → List ℕ → World
opening n v vs = record {
  tasks = n;
  cells = v;
  records = λ t. idle;
  cell = λ k. record { current = 0; next = 1; x = λ b. fresh (get_or vs k 0) X; y = λ b. fresh (get_or vs k 0) Y; c = λ b. fresh (get_or vs k 0) C; v = λ b. fresh (get_or vs k 0) Field.V; d = λ b. fresh (get_or vs k 0) D };
}

unfoldable pub figure_looked : World → ℕ → Seen
figure_looked w k = let m = w.cell k in let b = m.current in shown (refusal (look_questions w.cells k)) (shown_value (m.c b) (m.v b) (m.d b))

-- AS A MACHINE THAT TAKES ACTIONS AND GIVES EVENTS

-- the value that memory answers to an access of a task's record
abbrev pub figure_answers : World → Record → Access → ℕ
figure_answers w q a = (access_cell (w.cell q.cell) a).value

-- what becomes of the hardware CAS of a task's next step
abbrev pub tried_in : World → ℕ → Record → Attempt
tried_in w t q = tried t q (figure_answers w q)

abbrev pub figure : World → Action → World × Event
figure w (begin t op) = let r = figure_begun w t op in (r.world, event_of untried r.outcome)
figure w (step t) = let r = figure_stepped w t in (r.world, event_of (tried_in w t (w.records t)) r.outcome)
figure w (drop t) = let r = figure_dropped w t in (r.world, event_of untried r.outcome)

-- the current block of cell k is active
abbrev pub active : World → ℕ → Type 0
active w k = let m = w.cell k in m.c m.current ≡ 0

-- nothing is left of an earlier collision: the block is active; and its Y is false, which a withdrawn winner leaves true
abbrev pub clear : World → ℕ → Type 0
clear w k = let m = w.cell k in active w k × (m.y m.current ≡ 0)
