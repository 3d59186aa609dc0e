-- The terms of the theorem on bus times: the accesses that a call did, a choice of their times, and two numbers that bound the total of every
-- choice and are met by some.
use Rattle.std.specs.Prelude.{◌≡◌, List, [], ◌∷◌, ◌++◌, reverse, ℕ, ◌+◌, ◌≤◌, ◌<◌}
use Rattle.std.proofs.Math.Option.{Option, none, some}
use Rattle.figure_lines.specs.declared.Access.{Access}
use Rattle.figure_lines.specs.declared.Access.TheVariants.{LoadCell, Load, Store, DecideCas, InstallCas, Allocate, Nothing}
use Rattle.figure_lines.specs.Record.{idle}
use Rattle.figure_lines.specs.Lines.{Line, access_at, loads, stores, hardware}
use Rattle.figure_cell.specs.Paths.{access_count}
use Rattle.figure.specs.Traces.{Traced}
use Rattle.history_spec.specs.History.{Action, Report, FinishedCall}
use Rattle.cells_spec.specs.Machine.{Pool}
use Rattle.cells_theorems.specs.Traces.{trace}
use Rattle.bus_spec.specs.Bus.{PerKind, per_kind, Times, Timed}

-- ACCESSES

-- the finished calls of a session with the lines that each did, in order of finishing; the trace has the last one first
abbrev pub traced_calls : Pool → List Action → List Traced
traced_calls x l = reverse (trace x l).done

-- those of the lines that a call did; of which kind they are does not depend on task and record (`kind_of_line`, proofs/Totals.antt)
abbrev pub accesses : List Line → List Access
accesses [] = []
accesses (l ∷ ls) = access_at l 0 idle ∷ accesses ls

-- how many of each kind
abbrev pub did_per_kind : List Line → PerKind
did_per_kind p = per_kind (access_count loads p) (access_count stores p) (access_count hardware p)

-- those of several calls
abbrev pub all_accesses : List Traced → List Access
all_accesses [] = []
all_accesses (x ∷ l) = accesses x.lines ++ all_accesses l

-- CHOICES OF TIMES

-- the number of an access's kind
abbrev pub number_for : PerKind → Access → ℕ
number_for c (LoadCell k) = c.load
number_for c (Load b f) = c.load
number_for c (Store b f v) = c.store
number_for c (DecideCas b v) = c.hardware
number_for c (InstallCas k b n) = c.hardware
number_for c Allocate = c.store
number_for c Nothing = 0

abbrev pub sum : List ℕ → ℕ
sum [] = 0
sum (t ∷ l) = t + sum l

-- one time for each access, within the range of its kind
abbrev pub EachWithin : Times → List Access → List ℕ → Type 0
EachWithin w [] [] = Unit {0}
EachWithin w [] (t ∷ ts) = ⊥
EachWithin w (a ∷ l) [] = ⊥
EachWithin w (a ∷ l) (t ∷ ts) = ((number_for w.low a ≤ t) × (t ≤ number_for w.high a)) × EachWithin w l ts

-- one time for each kind, within its range
pub record KindsWithin (w : Times) (c : PerKind) : Type 0 where
  pub load : (w.low.load ≤ c.load) × (c.load ≤ w.high.load)
  pub store : (w.low.store ≤ c.store) × (c.store ≤ w.high.store)
  pub hardware : (w.low.hardware ≤ c.hardware) × (c.hardware ≤ w.high.hardware)

-- then each access takes the time of its kind
abbrev pub by_kind : PerKind → List Access → List ℕ
by_kind c [] = []
by_kind c (a ∷ l) = number_for c a ∷ by_kind c l

-- THE TWO ENDS

-- every choice gives these accesses a total from the least to the greatest, and some choices give just these two
pub record Between (w : Times) (l : List Access) (least greatest : ℕ) : Type 0 where
  pub each : (ts : List ℕ) → EachWithin w l ts → (least ≤ sum ts) × (sum ts ≤ greatest)
  pub each-least : (ts : List ℕ) × EachWithin w l ts × (sum ts ≡ least)
  pub each-greatest : (ts : List ℕ) × EachWithin w l ts × (sum ts ≡ greatest)
  pub kinds : (c : PerKind) → KindsWithin w c → (least ≤ sum (by_kind c l)) × (sum (by_kind c l) ≤ greatest)
  pub kinds-least : (c : PerKind) × KindsWithin w c × (sum (by_kind c l) ≡ least)
  pub kinds-greatest : (c : PerKind) × KindsWithin w c × (sum (by_kind c l) ≡ greatest)

-- call by call
abbrev pub AllBetween : Times → List Traced → List Timed → Type 0
AllBetween w [] [] = Unit {0}
AllBetween w [] (c ∷ cs) = ⊥
AllBetween w (x ∷ xs) [] = ⊥
AllBetween w (x ∷ xs) (c ∷ cs) = Between w (accesses x.lines) c.least c.greatest × AllBetween w xs cs

-- a finished call of a history as bus has it
abbrev pub task_and_report : FinishedCall → ℕ × Report
task_and_report f = (f.call.start.task, f.report)

-- THE LONGEST CALL

abbrev pub Every : {A : Type 0} → (A → Type 0) → List A → Type 0
Every P [] = Unit {0}
Every P (a ∷ l) = P a × Every P l

-- all that finished before it are shorter, and none that finished after it is longer
pub record FirstLongest (d : Timed) (calls : List Timed) : Type 0 where
  pub earlier : List Timed
  pub later : List Timed
  pub parts : calls ≡ earlier ++ (d ∷ later)
  pub shorter : Every (λ c. c.greatest < d.greatest) earlier
  pub no_longer : Every (λ c. c.greatest ≤ d.greatest) later

-- what the search for it found: nothing where there is no call
abbrev pub LongestOf : Option Timed → List Timed → Type 0
LongestOf none l = l ≡ []
LongestOf (some d) l = FirstLongest d l
