-- Every finished call did the lines of one of the thirteen paths, so its counts are a row of the table.
use mathlib.Core.Path.{◌≡◌, refl, sym, ap, ◌∙◌}
use mathlib.Core.Logic.{inl, inr}
use mathlib.Core.Bool.{cond}
use mathlib.Core.List.{List, [], ◌∷◌, ◌++◌}
use Prim.Native.Nat.{ℕ, ◌<◌}
use lib.Dec.{eqb, eqb→eq}
use Rattle.figure_lines.specs.declared.Record.{Record}
use Rattle.figure_lines.specs.Answers.{Next, Go, Done}
use Rattle.figure_lines.specs.Lines.{Line, for13, for25, for28, l2, l3, l30, nowhere, line_of, access_at, access_of, counted, next_of, hardware}
use Rattle.figure_lines.specs.Record.{first_swap}
use Rattle.history_spec.specs.Basics.{◌∈◌}
use Rattle.history_spec.specs.History.{Op, Action, begin, step, drop, untried, No}
use Rattle.figure_cell.specs.Memory.{access_cell}
use Rattle.cells_spec.specs.Turn.{outcome_of}
use Rattle.figure.specs.Figure.{World, WorldAfter, figure_ran, opening, figure, tried_in}
use Rattle.cells_spec.specs.Events.{event_of}
use Rattle.figure_lines.specs.Paths.{table}
use Rattle.figure_cell.specs.Paths.{paths, by25, path_counts, count_rows}
use Rattle.figure.specs.Traces.{Traced, Trace, no_trace, enter_line, figure_traces}
use Rattle.history_spec.proofs.ListTests.{has}
use Rattle.figure_cell.proofs.LineLaws.{every_line, same, Leads, goes, done}
use Rattle.figure.proofs.Records.{Pending, Complete, Then, led, one_line, Begun, starts, begin-cases, Stepped, runs, step-cases, Dropped, leaves, drop-cases, Sound, its-op, with_first, act_sound}

-- FINISHED CALLS

abbrev pub CompleteCall : Traced → Type 0
CompleteCall x = Complete x.op x.lines x.report

abbrev AllComplete : Trace → Type 0
AllComplete r = (x : Traced) → x ∈ r.done → CompleteCall x

module _ (w : World) (r : Trace) (s : Sound w r) (h : AllComplete r) where
  abbrev now : ℕ → Line
  now t = line_of (w.records t)

  -- the line that ends a call completes it
  line_complete : (t : ℕ) (m : t < w.tasks) (o : Pending w.cells (r.did t) (w.records t)) {n : Next} → Leads (now t) (counted (w.records t) (tried_in w t (w.records t))) n →
      Then w.cells (r.did t) (w.records t) o n → AllComplete (enter_line now r (step t) (event_of (tried_in w t (w.records t)) (outcome_of n)))
  line_complete t m o (goes f) k = h
  line_complete t m o (done f) k = with_first CompleteCall _ r.done (rw (its-op w r s t m o) k) h

  step_complete : (t : ℕ) {f : WorldAfter} → Stepped w t (r.did t) f → AllComplete (enter_line now r (step t) (event_of (tried_in w t (w.records t)) f.outcome))
  unfolding figure_ran
  step_complete t (Stepped.refuses n i) = h
  step_complete t (runs m o) =
      let c = access_cell (w.cell (w.records t).cell) (access_of t (w.records t)) in
      line_complete t m o (led w.cells (r.did t) (w.records t) o t c.value) (one_line w.cells (r.did t) (w.records t) o t c.value)

  begin_complete : (t : ℕ) (op : Op) {f : WorldAfter} → Begun w t op f → AllComplete (enter_line now r (begin t op) (event_of untried f.outcome))
  begin_complete t op (Begun.refuses n) = h
  begin_complete t op (starts a) = h

  drop_complete : (t : ℕ) {f : WorldAfter} → Dropped w t (r.did t) f → AllComplete (enter_line now r (drop t) (event_of untried f.outcome))
  drop_complete t (Dropped.refuses n i) = h
  drop_complete t (leaves m o) = h

  act_complete : (a : Action) → AllComplete (enter_line now r a (figure w a).1)
  act_complete (begin t op) = begin_complete t op (begin-cases w t op)
  act_complete (step t) = step_complete t (step-cases w t (r.did t) (s.pending t))
  act_complete (drop t) = drop_complete t (drop-cases w t (r.did t) (s.pending t))

traces_complete : (w : World) (r : Trace) → Sound w r → AllComplete r → (l : List Action) → AllComplete (figure_traces w r l)
traces_complete w r s h [] = h
traces_complete w r s h (a ∷ l) = traces_complete (figure w a).0 (enter_line (λ t. line_of (w.records t)) r a (figure w a).1) (act_sound w r s a) (act_complete w r s h a) l

pub start_sound : (n v : ℕ) (vs : List ℕ) → Sound (opening n v vs) no_trace
start_sound n v vs = record { pending = λ t. inl (refl, refl); as_begun = λ t. inl refl }

pub calls_on_paths : (n v : ℕ) (vs : List ℕ) (l : List Action) (x : Traced) → x ∈ (figure_traces (opening n v vs) no_trace l).done → CompleteCall x
calls_on_paths n v vs l = traces_complete (opening n v vs) no_trace (start_sound n v vs) (λ x i. absurd i) l

-- THE TABLE

pub table_is : count_rows paths ≡ table
table_is = refl

pub row : (p : List Line) → p ∈ paths → path_counts p ∈ table
row p i = go paths i
  where
    go : (ps : List (List Line)) → p ∈ ps → path_counts p ∈ count_rows ps
    go [] i = i
    go (x ∷ ps) (inl e) = inl (ap path_counts e)
    go (x ∷ ps) (inr i) = inr (go ps i)

-- a hardware CAS is tried at lines 2 and 30, and nowhere else
pub hardware-lines : (l : Line) (p : ℕ) (q : Record) → hardware (access_at l p q) ≡ cond (has same (l2 for13 ∷ l2 for25 ∷ l2 for28 ∷ l30 ∷ []) l) 1 0
hardware-lines l p q = eqb→eq _ _ (every_line (λ k. eqb (hardware (access_at k p q)) (cond (has same (l2 for13 ∷ l2 for25 ∷ l2 for28 ∷ l30 ∷ []) k) 1 0)) tt l)

-- THE NINTH PATH

-- a task's lines while memory gives these answers, and where they lead
abbrev pub visits : ℕ → List ℕ → Next → List Line × Next
visits t [] n = ([], n)
visits t (x ∷ l) (Done f) = ([], Done f)
visits t (x ∷ l) (Go q) = let r = visits t l (next_of t q x) in (line_of q ∷ r.0, r.1)

-- "no from 28 by 25" is a path of the lines, for some answers of memory
pub ninth_is_a_path : visits 0 (0 ∷ 0 ∷ 0 ∷ 0 ∷ 0 ∷ 5 ∷ 0 ∷ 0 ∷ 1 ∷ 6 ∷ 0 ∷ 6 ∷ 6 ∷ 0 ∷ 6 ∷ []) (Go (first_swap 0 5 7))
    ≡ (by25, Done (record { kind = 2; cell = 0; answer = No; steps = 15; won = 0; lost = 2 }))
ninth_is_a_path = refl

abbrev ending : Line → List Line → Line
ending l [] = l
ending l (a ∷ x) = ending a x

ending-is : (k : Line) (d : List Line) (l : Line) → ending k (d ++ (l ∷ [])) ≡ l
ending-is k [] l = refl
ending-is k (a ∷ d) l = ending-is a d l

pub last_line : (did : List Line) (l : Line) → did ++ (l ∷ []) ≡ by25 → l ≡ l3 for28
last_line did l e = sym (ending-is nowhere did l) ∙ ap (ending nowhere) e
