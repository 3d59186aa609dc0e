-- The printed totals bound the time that the accesses of a call can take, and so do the sums for all calls.
use mathlib.Core.Path.{◌≡◌, refl, sym, ap, ◌∙◌}
use mathlib.Core.Logic.{◌⊎◌, inl, inr}
use mathlib.Core.Bool.{true}
use mathlib.Core.Option.{none}
use mathlib.Core.List.{List, [], ◌∷◌, map, reverse, reverse_aux}
use Prim.Native.Nat.{ℕ, ◌+◌}
use native.Mathlib.Nat.{zero-add}
use native.Mathlib.Omega.{arith}
use lib.ListN.{length}
use Rattle.figure_lines.specs.Lines.{Line, loads, stores}
use Rattle.cells_spec.specs.declared.State.{State}
use Rattle.cells_spec.specs.Questions.{refusal, open_questions}
use Rattle.cells_spec.specs.Machine.{pool}
use Rattle.history_spec.specs.Basics.{◌∈◌}
use Rattle.history_spec.specs.History.{Action, Report, history, calls_of}
use Rattle.figure_cell.specs.Paths.{access_count}
use Rattle.figure.specs.Traces.{Traced}
use Rattle.cells_theorems.specs.Terms.{start}
use Rattle.cells_theorems.specs.Traces.{trace}
use Rattle.cells_theorems.proofs.Demand3.{cells_meet_demand_3}
use Rattle.cells_theorems.proofs.Counts.{calls_traced, calls-counted, calls_find_rows}
use Rattle.bus_spec.specs.Bus.{PerKind, per_kind, Times, ordered, in_row, counts_of, total, finished_calls, finished_count, timed, timed_from, Sums, no_sums, add_call, add_calls, bus_calls, sums_of}
use Rattle.bus_spec.specs.Choices.{traced_calls, accesses, did_per_kind, all_accesses, sum, by_kind, Between, AllBetween, task_and_report}
use Rattle.bus_spec.proofs.Totals.{sum_by_kind, sum_append, ends_between}
use Rattle.bus_spec.proofs.Calls.{finished-calls, report_of, second, traced_reports}

-- CALLS WITH THEIR LINES

zero_one : ◌≡◌ {A = ℕ} 0 1 → ⊥
zero_one e = omega (arith, e)

-- each call has the counts of the lines beside it
abbrev Counts : List Traced → List (ℕ × Report) → Type 0
Counts [] [] = Unit {0}
Counts [] (f ∷ fs) = ⊥
Counts (x ∷ xs) [] = ⊥
Counts (x ∷ xs) (f ∷ fs) = (counts_of f.1 ≡ did_per_kind x.lines) × Counts xs fs

counts-beside : (xs : List Traced) (fs : List (ℕ × Report)) → map report_of xs ≡ map second fs → ((x : Traced) → x ∈ xs → counts_of x.report ≡ did_per_kind x.lines) → Counts xs fs
counts-beside [] [] e h = tt
counts-beside [] (f ∷ fs) e h = absurd (zero_one cc)
counts-beside (x ∷ xs) [] e h = absurd (zero_one cc)
counts-beside (x ∷ xs) (f ∷ fs) e h =
    let same : x.report ≡ f.1 = cc in
    let rest : map report_of xs ≡ map second fs = cc in
    (ap counts_of (sym same) ∙ h x (inl refl), counts-beside xs fs rest (λ y i. h y (inr i)))

-- with one time for each kind, a call's accesses take what its counts say
time_of : (c : PerKind) (p : List Line) (r : Report) → counts_of r ≡ did_per_kind p → sum (by_kind c (accesses p)) ≡ total c (counts_of r)
time_of c p r e = sum_by_kind c p ∙ ap (total c) (sym e)

module _ (w : Times) where
  each_between : ordered w ≡ true → (xs : List Traced) (fs before : List (ℕ × Report)) → Counts xs fs → AllBetween w xs (timed_from w before fs)
  each_between o [] [] before h = tt
  each_between o [] (f ∷ fs) before h = absurd h
  each_between o (x ∷ xs) [] before h = absurd h
  each_between o (x ∷ xs) (f ∷ fs) before h =
      (rw (← time_of w.low x.lines f.1 h.0, ← time_of w.high x.lines f.1 h.0) (ends_between w o (accesses x.lines)), each_between o xs fs (f ∷ before) h.1)

  sums_are : (xs : List Traced) (fs before : List (ℕ × Report)) (z : Sums) → Counts xs fs →
      let s = add_calls z (timed_from w before fs) in
      (s.least ≡ z.least + sum (by_kind w.low (all_accesses xs))) × (s.greatest ≡ z.greatest + sum (by_kind w.high (all_accesses xs)))
  sums_are [] [] before z h = (omega arith, omega arith)
  sums_are [] (f ∷ fs) before z h = absurd h
  sums_are (x ∷ xs) [] before z h = absurd h
  sums_are (x ∷ xs) (f ∷ fs) before z h =
      let r = sums_are xs fs (f ∷ before) (add_call z (timed w (finished_count f.0 before) f)) h.1 in
      let a = accesses x.lines in (
        omega (arith, r.0, time_of w.low x.lines f.1 h.0, sum_append w.low a (all_accesses xs)),
        omega (arith, r.1, time_of w.high x.lines f.1 h.0, sum_append w.high a (all_accesses xs)),
      )

-- IN EVERY SESSION

in_onto : {A : Type 0} (a : A) (l r : List A) → a ∈ reverse_aux l r → (a ∈ l) ⊎ (a ∈ r)
in_onto a [] r i = inr i
in_onto a (x ∷ l) r i = go (in_onto a l (x ∷ r) i)
  where
    go : (a ∈ l) ⊎ ((a ≡ x) ⊎ (a ∈ r)) → ((a ≡ x) ⊎ (a ∈ l)) ⊎ (a ∈ r)
    go (inl i) = inl (inr i)
    go (inr (inl e)) = inl (inl e)
    go (inr (inr i)) = inr i

from_reverse : {A : Type 0} (a : A) (l : List A) → a ∈ reverse l → a ∈ l
from_reverse a l i = go (in_onto a l [] i)
  where
    go : (a ∈ l) ⊎ ⊥ → a ∈ l
    go (inl i) = i
    go (inr z) = absurd z

module _ (old : State) (words : List ℕ) (tasks cells blocks : ℕ) (values : List ℕ) (allowed : refusal (open_questions (length words) tasks cells blocks values) ≡ none) (actions : List Action) where
  -- The loads, stores and hardware CAS attempts that a call did are those of its row.
  pub counts_are : (call : Traced) → call ∈ (trace (start old words tasks cells blocks values) actions).done → counts_of call.report ≡ did_per_kind call.lines
  counts_are x i =
      ap (in_row (x.report.won + x.report.lost)) (calls_find_rows old words tasks cells blocks values allowed actions x i) ∙
      ap (per_kind (access_count loads x.lines) (access_count stores x.lines)) (calls-counted old words tasks cells blocks values allowed actions x i).all-hard

  -- The calls that are printed are the history's finished calls, in order of finishing; the history has the last one first.
  pub calls-printed : let h = history pool (start old words tasks cells blocks values) actions in map task_and_report (calls_of h).finished ≡ reverse (finished_calls h)
  calls-printed = finished-calls cells (history pool (start old words tasks cells blocks values) actions) (cells_meet_demand_3 old words tasks cells blocks values allowed actions).well_formed

  beside : Counts (traced_calls (start old words tasks cells blocks values) actions) (finished_calls (history pool (start old words tasks cells blocks values) actions))
  beside =
      let x = start old words tasks cells blocks values in
      let done = (trace x actions).done in
      let h = history pool x actions in
      counts-beside (reverse done) (finished_calls h) (traced_reports done (calls_of h).finished (finished_calls h) (calls_traced old words tasks cells blocks values allowed actions) calls-printed)
      (λ y i. counts_are y (from_reverse y done i))

  module _ (w : Times) (is-ordered : ordered w ≡ true) where
    -- EACH CALL BETWEEN ITS TWO TOTALS. From a fresh opening, for every list of actions, of every finished call in order of finishing:
    -- whatever time within its range each of its accesses takes, or each kind of access, all its accesses together take no less than its
    -- least total and no more than its greatest, before rounding; and both are met by some choice, of each access and of each kind.
    pub calls_between : let x = start old words tasks cells blocks values in AllBetween w (traced_calls x actions) (bus_calls w x actions)
    calls_between = let x = start old words tasks cells blocks values in each_between w is-ordered (traced_calls x actions) (finished_calls (history pool x actions)) [] beside

    -- ALL CALLS BETWEEN THE TWO SUMS, in the same way.
    pub sums_between : let x = start old words tasks cells blocks values in let z = sums_of (bus_calls w x actions) in Between w (all_accesses (traced_calls x actions)) z.least z.greatest
    sums_between =
        let x = start old words tasks cells blocks values in
        let s = sums_are w (traced_calls x actions) (finished_calls (history pool x actions)) [] no_sums beside in
        rw (s.0 ∙ zero-add _, s.1 ∙ zero-add _) (ends_between w is-ordered (all_accesses (traced_calls x actions)))
