-- The terms of the theorems: a fresh opening, records equal apart from block numbers, and a read that runs alone.
use Rattle.std.specs.Prelude.{Bool, cond, List, [], ◌∷◌, ℕ, eqb, replicate}
use Rattle.std.proofs.Math.Option.{Option, none, some}
use Rattle.figure_lines.specs.declared.Record.{Record}
use Rattle.cells_spec.specs.declared.State.{State}
use Rattle.figure_lines.specs.declared.Field.TheVariants.{C, D}
use Rattle.figure_lines.specs.Record.{no_value}
use Rattle.cells_spec.specs.Pool.{word}
use Rattle.cells_spec.specs.Open.{opened}
use Rattle.cells_spec.specs.Step.{current}
use Rattle.history_spec.specs.History.{Action, begin, step, read, a_read, Value, Report, Attempt, success, failure, untried, wins, losses, Event}
use Rattle.cells_spec.specs.Machine.{Pool}

abbrev pub start : State → List ℕ → (tasks cells blocks : ℕ) → List ℕ → Pool
start s p n v b vs = let r = opened s p n v b vs in (r.state, r.pool)

-- the record with other block numbers
abbrev pub named : Record → (held taken : ℕ) → Record
named q h k = record { line = q.line; wanted = q.wanted; kind = q.kind; cell = q.cell; expected = q.expected; new = q.new; held = h; taken = k; loaded = q.loaded; steps = q.steps; won = q.won; lost = q.lost }

-- C of the cell's current block is false
abbrev pub is_active : Pool → (cell : ℕ) → Bool
is_active x k = eqb (word x.1 (current x.0 k) C) 0

-- D of the cell's current block is none
abbrev pub is_undecided : Pool → (cell : ℕ) → Bool
is_undecided x k = eqb (word x.1 (current x.0 k) D) no_value

-- a read of the cell, and so many steps of it
abbrev pub lone_read : (task cell steps : ℕ) → List Action
lone_read t k i = begin t (read k) ∷ replicate i (step t)

-- what becomes of its hardware CAS
abbrev pub lone_attempt : (active undecided : Bool) → Attempt
lone_attempt a u = cond a untried (cond u success failure)

-- what a read of cell k reports that found v, with at most one hardware CAS
abbrev pub read_report : (cell value steps : ℕ) → Attempt → Report
read_report k v n x = record { kind = a_read; cell = k; answer = Value v; steps = n; won = wins x; lost = losses x }

abbrev pub last_event : List (Action × Event) → Option Event
last_event [] = none
last_event (x ∷ []) = some x.1
last_event (x ∷ y ∷ h) = last_event (y ∷ h)
