-- A line of figure 2 run on the pool: what its access leaves of memory, and what follows from memory's answer.
use Rattle.std.specs.Prelude.{◌≡◌, List, ℕ, ◌+◌, None, Some}
use Rattle.std.specs.Prelude as Code
use Rattle.std.proofs.Math.Option.{Option}
use Rattle.figure_lines.specs.declared.Record.{Record}
use Rattle.figure_lines.specs.declared.Finished.{Finished}
use Rattle.figure_lines.specs.Answers.{result_of, Next, Go, Done}
use Rattle.figure_lines.specs.Lines.{line_of, access_of, next_at, next_of, attempt}
use Rattle.history_spec.specs.History.{Attempt, wins, losses}
use Rattle.cells_spec.specs.Memory.{performed, Reaches}

pub record Left : Type 0 where
  pub pool : List ℕ
  pub current : ℕ
  pub last : ℕ
  pub next : Next

abbrev pub left : List ℕ → (current last : ℕ) → Next → Left
left p c l n = record { pool = p; current = c; last = l; next = n }

abbrev pub line_run : (pool : List ℕ) (task : ℕ) (r : Record) (current last : ℕ) (free : Option ℕ) → Left
line_run p t r c l f = let m = performed p c l f (access_of t r) in left m.pool m.current m.last (next_of t r m.value)

-- what the code says: the record as a line leaves it, or the finished call
abbrev pub followed : Record → Code.Option Finished → Next
followed r None = Go r
followed r (Some f) = Done (result_of f)

-- (what follows only helps the proofs)

-- the step counted; the hardware CAS too
abbrev pub step_done : Record → Record
step_done r = record r { steps = r.steps + 1 }

abbrev pub attempt_counted : Record → Attempt → Record
attempt_counted r x = record r { won = r.won + wins x; lost = r.lost + losses x }

-- the same of a record in which the step is counted
abbrev pub line_done : (pool : List ℕ) (task : ℕ) (r : Record) (current last : ℕ) (free : Option ℕ) → Left
line_done p t r c l f =
    let a = access_of t r in
    let m = performed p c l f a in
    left m.pool m.current m.last (next_at (line_of r) t (attempt_counted r (attempt a m.value)) m.value)

-- a line that changes no cell's block and takes none, with what follows it: each but 4 and 30
abbrev pub Does : (pool pool' : List ℕ) → Record → Next → (task current : ℕ) → Type 0
Does p p' r x t c = (l : ℕ) (f : Option ℕ) → left p' c l x ≡ line_done p t r c l f

-- the block that the line names is among the words
abbrev pub Within : (words : ℕ) → Record → Type 0
Within n r = (t : ℕ) → Reaches n (access_of t r)
