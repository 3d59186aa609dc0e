-- A busy task's next line, given numbers only: the block that its cell names, the block taken last, and what the search for an unused block
-- answers.
use Rattle.std.proofs.Math.Option.{Option}
use Rattle.std.specs.Prelude.{List, ℕ, ◌+◌, ◌≤◌}
use Rattle.figure_lines.specs.declared.Record.{Record}
use Rattle.cells_spec.specs.Answers.{Said, Acted, Ended}
use Rattle.figure_lines.specs.Answers.{Next, Go, Done}
use Rattle.figure_lines.specs.Record.{idle}
use Rattle.figure_lines.specs.Lines.{access_of, next_of}
use Rattle.cells_spec.specs.Memory.{Touched, performed, Reaches}

pub record Turned : Type 0 where
  pub «record» : Record
  pub current : ℕ
  pub last : ℕ
  pub pool : List ℕ
  pub outcome : Said

abbrev pub turned : Record → (current last : ℕ) → List ℕ → Said → Turned
turned r c l p o = record { «record» = r; current = c; last = l; pool = p; outcome = o }

-- what follows a line: a finished call leaves an idle record
abbrev pub record_after : Next → Record
record_after (Go r) = r
record_after (Done f) = idle

abbrev pub outcome_of : Next → Said
outcome_of (Go r) = Acted
outcome_of (Done f) = Ended f

abbrev pub ending : Touched → Next → Turned
ending m n = turned (record_after n) m.current m.last m.pool (outcome_of n)

abbrev pub turn : (pool : List ℕ) (task : ℕ) (r : Record) (current last : ℕ) (free : Option ℕ) → Turned
turn p t r c l f = let m = performed p c l f (access_of t r) in ending m (next_of t r m.value)

-- WHAT IT NEEDS of its record (this part only helps the proofs)
pub record Ready (words : ℕ) (r : Record) : Type 0 where
  pub reaches : (t : ℕ) → Reaches words (access_of t r)
  pub steps : r.steps ≤ 20
  pub hard : r.won + r.lost ≤ 3
