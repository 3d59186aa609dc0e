-- The reserved value, and a task's record.
use Rattle.std.specs.Prelude.{Bool, cond, List, ℕ, eqb, get_or}
use Rattle.history_spec.specs.History.{Op, read, swap}
use Rattle.figure_lines.specs.declared.Record.{Record}

-- document 01's "none": from a fresh opening it never enters or leaves a cell
abbrev pub no_value : ℕ
no_value = 4294967295

abbrev pub idle : Record
idle = record { line = 0; wanted = 0; kind = 0; cell = 0; expected = 0; new = 0; held = 0; taken = 0; loaded = 0; steps = 0; won = 0; lost = 0 }

abbrev pub is_idle : Record → Bool
is_idle r = eqb r.line 0

-- the record of task t; idle beyond the list
abbrev pub record_at : List Record → ℕ → Record
record_at l t = get_or l t idle

-- WHEN A CALL BEGINS

abbrev pub first : (line kind cell expected new : ℕ) → Record
first l d k e n = record { line = l; wanted = 0; kind = d; cell = k; expected = e; new = n; held = 0; taken = 0; loaded = 0; steps = 0; won = 0; lost = 0 }

abbrev pub first_read : ℕ → Record
first_read k = first 10 1 k 0 0

-- line 14: a swap of equal values reads
abbrev pub first_swap : (cell expected new : ℕ) → Record
first_swap k e n = first (cond (eqb e n) 10 15) 2 k e n

-- the operation that a record was begun with
abbrev pub op_of : Record → Op
op_of q = cond (eqb q.kind 1) (read q.cell) (swap q.cell q.expected q.new)
