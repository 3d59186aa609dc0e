-- What bus prints: of each finished call, in order of finishing, the least and the greatest total time that its accesses can take; then of all.
use Rattle.std.specs.Prelude.{Bool, cond, List, [], ◌∷◌, ◌++◌, ℕ, ◌+◌, ◌*◌, ◌/◌, eqb, leb, ltb}
use Rattle.std.proofs.Math.Option.{Option, none, some}
use Rattle.figure_lines.specs.Basics.{ands}
use Rattle.figure_lines.specs.Paths.{row_of}
use Rattle.cells_spec.specs.Questions.{Question, refusal}
use Rattle.cells_spec.specs.Machine.{Pool, pool}
use Rattle.history_spec.specs.History.{Action, task_of, Report, Event, refused, accepted, answered, history}
use Rattle.session_spec.specs.Tools.{tool_printed, tool_within}
use Rattle.text.specs.Bytes.{bytes}
use Rattle.text.specs.Lines.{line, bad_line}

-- TIMES, in tenths of a nanosecond

-- a number for each kind of access: a load, a store, a hardware CAS
pub record PerKind : Type 0 where
  pub load : ℕ
  pub store : ℕ
  pub hardware : ℕ

abbrev pub per_kind : (load store hardware : ℕ) → PerKind
per_kind l s h = record { load = l; store = s; hardware = h }

-- the ranges: low times and high times
pub record Times : Type 0 where
  pub low : PerKind
  pub high : PerKind

-- in the order of the arguments
abbrev pub times_from : (ll lh sl sh hl hh : ℕ) → Times
times_from ll lh sl sh hl hh = record { low = per_kind ll sl hl; high = per_kind lh sh hh }

-- 21. Is no low time above its high one?
abbrev pub ordered : Times → Bool
ordered w = ands (leb w.low.load w.high.load ∷ leb w.low.store w.high.store ∷ leb w.low.hardware w.high.hardware ∷ [])

abbrev pub at_most : ℕ → PerKind → Bool
at_most n c = ands (leb c.load n ∷ leb c.store n ∷ leb c.hardware n ∷ [])

-- 22. Is no time above 1,000,000?
abbrev pub short_times : Times → Bool
short_times w = ands (at_most 1000000 w.low ∷ at_most 1000000 w.high ∷ [])

-- all three ranges are asked 21 before any is asked 22
abbrev pub bus_questions : Times → List Question
bus_questions w = (21, ordered w) ∷ (22, short_times w) ∷ []

-- whole nanoseconds
abbrev pub rounded_down : ℕ → ℕ
rounded_down n = n / 10

abbrev pub rounded_up : ℕ → ℕ
rounded_up n = (n + 9) / 10

-- A FINISHED CALL

-- loads and stores of its row of the table, found by its steps and hardware CAS attempts
abbrev pub in_row : (hardware : ℕ) → Option (ℕ × ℕ) → PerKind
in_row h none = per_kind 0 0 0
in_row h (some (l, s)) = per_kind l s h

-- how many accesses it did; every call from an opening has a row, which is that of its lines (`counts_are`, proofs/Between.antt)
abbrev pub counts_of : Report → PerKind
counts_of r = let h = r.won + r.lost in in_row h (row_of r.steps h)

-- the time of so many accesses
abbrev pub total : (time counts : PerKind) → ℕ
total t c = t.load * c.load + t.store * c.store + t.hardware * c.hardware

-- the finished calls of a history in order of finishing: each one's task, and what its last step reported
abbrev pub finished_calls : List (Action × Event) → List (ℕ × Report)
finished_calls [] = []
finished_calls ((a, refused n) ∷ h) = finished_calls h
finished_calls ((a, accepted x) ∷ h) = finished_calls h
finished_calls ((a, answered x r) ∷ h) = (task_of a, r) ∷ finished_calls h

-- how many of the calls are the task's
abbrev pub finished_count : (task : ℕ) → List (ℕ × Report) → ℕ
finished_count t [] = 0
finished_count t (f ∷ l) = cond (eqb f.0 t) 1 0 + finished_count t l

-- its task, how many calls of the task finished before it, and its two totals before rounding
pub record Timed : Type 0 where
  pub task : ℕ
  pub earlier : ℕ
  pub least : ℕ
  pub greatest : ℕ

module _ (w : Times) where
  abbrev pub timed : (earlier : ℕ) → ℕ × Report → Timed
  timed n (t, r) = record { task = t; earlier = n; least = total w.low (counts_of r); greatest = total w.high (counts_of r) }

  -- the calls of the list, after those before
  abbrev pub timed_from : (before : List (ℕ × Report)) → List (ℕ × Report) → List Timed
  timed_from before [] = []
  timed_from before (f ∷ l) = timed (finished_count f.0 before) f ∷ timed_from (f ∷ before) l

-- ALL FINISHED CALLS

-- totals before rounding, and the call with the greatest
pub record Sums : Type 0 where
  pub least : ℕ
  pub greatest : ℕ
  pub longest : Option Timed

abbrev pub no_sums : Sums
no_sums = record { least = 0; greatest = 0; longest = none }

abbrev pub exceeds : Timed → Timed → Bool
exceeds c d = ltb d.greatest c.greatest

-- of equals the first to finish
abbrev pub longer : Option Timed → Timed → Timed
longer none c = c
longer (some d) c = cond (exceeds c d) c d

abbrev pub add_call : Sums → Timed → Sums
add_call z c = record { least = z.least + c.least; greatest = z.greatest + c.greatest; longest = some (longer z.longest c) }

abbrev pub add_calls : Sums → List Timed → Sums
add_calls z [] = z
add_calls z (c ∷ l) = add_calls (add_call z c) l

-- OF A SESSION

abbrev pub bus_calls : Times → Pool → List Action → List Timed
bus_calls w x l = timed_from w [] (finished_calls (history pool x l))

abbrev pub sums_of : List Timed → Sums
sums_of = add_calls no_sums

-- WHAT IS PRINTED

abbrev pub call_line : Timed → List ℕ
call_line c = line (bytes "(bus") (c.task ∷ c.earlier ∷ rounded_down c.least ∷ rounded_up c.greatest ∷ [])

unfoldable pub call_lines : List Timed → List ℕ
call_lines [] = []
call_lines (c ∷ l) = call_line c ++ call_lines l

abbrev pub all_line : Sums → Option Timed → List ℕ
all_line z none = bytes "(all 0 0 none)\n"
all_line z (some c) = line (bytes "(all") (rounded_down z.least ∷ rounded_up z.greatest ∷ c.task ∷ c.earlier ∷ [])

abbrev pub calls_text : List Timed → List ℕ
calls_text l = let z = sums_of l in call_lines l ++ all_line z z.longest

-- before 21 and 22 what every tool asks: 12 to 15, and the questions of open
unfoldable pub bus_text : Times → (tasks : ℕ) → Pool → List Action → List ℕ
bus_text w n x l = elim (refusal (bus_questions w)) [ none ↦ calls_text (bus_calls w x l) | some q ↦ bad_line q ]

abbrev pub bus_printed : Times → List ℕ → List ℕ
bus_printed w = tool_printed (bus_text w)

abbrev pub bus_within : Times → (room : ℕ) → List ℕ → List ℕ
bus_within w = tool_within 2400000 (bus_text w)
