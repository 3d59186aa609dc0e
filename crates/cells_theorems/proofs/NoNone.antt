-- None never enters or leaves a cell: the figure's invariant has no current block with V none, and an answered value was seen not to be none.
use mathlib.Core.Path.{◌≡◌, sym, subst, ◌∙◌, refl}
use mathlib.Core.Logic.{◌≢◌}
use mathlib.Core.Option.{Option, none, some}
use mathlib.Core.List.{List, [], ◌∷◌}
use Prim.Native.Nat.{ℕ, ◌<◌}
use native.Mathlib.Omega.{arith}
use lib.Dec.{eqb}
use lib.ListN.{length}
use borrow.Author.Tests.{eqb-false}
use Rattle.cells_spec.specs.declared.State.{State}
use Rattle.cells_spec.specs.Answers.{Shown}
use Rattle.figure_lines.specs.declared.Field.{Field}
use Rattle.figure_lines.specs.Answers.{Next, Go, Done}
use Rattle.figure_lines.specs.Record.{no_value}
use Rattle.figure_lines.specs.Lines.{Line}
use Rattle.cells_spec.specs.Pool.{word}
use Rattle.cells_spec.specs.Questions.{refusal, open_questions, look_questions}
use Rattle.cells_spec.specs.Step.{current}
use Rattle.cells_spec.specs.Look.{looked, shown, shown_value}
use Rattle.history_spec.specs.Basics.{◌∈◌}
use Rattle.history_spec.specs.History.{Op, Action, begin, step, drop, Attempt, untried, Response, Value, Yes, No, Report, Event, refused, accepted, answered, history, run, Call, Calls, FinishedCall, no_calls, advanced, closed, enter, enter_all, calls_of}
use Rattle.cells_spec.specs.Turn.{outcome_of}
use Rattle.figure.specs.Figure.{World, WorldAfter, tried_in, figure_ran, figure, opening, figure_looked}
use Rattle.cells_spec.specs.Events.{event_of}
use Rattle.history_spec.proofs.ListTests.{by_test}
use Rattle.figure.proofs.Records.{Begun, starts, begin-cases, Stepped, runs, step-cases, Dropped, leaves, drop-cases, with_first}
use Rattle.figure_cell.proofs.Invariant as Invariant
use Rattle.figure_cell.proofs.Invariant.{View, Knowledge}
use Rattle.figure_cell.proofs.Steps.{Change, Reason, acts, acted, reads, declines}
use Rattle.figure.proofs.Worlds.{next_after}
use Rattle.figure_moments.proofs.Reachable.{Reachable, reached-path, reached-answer, reached-some, next_reachable, opening_reachable, reachable}
use Rattle.cells_spec.specs.Machine.{pool}
use Rattle.cells_theorems.specs.Terms.{start}
use Rattle.cells_theorems.proofs.Refines.{together, same-history, same_look, same-words}
use Rattle.cells_theorems.proofs.Traces.{same-event}
use Rattle.cells_theorems.proofs.Demand3.{starting_values}

-- ANSWERS

abbrev Proper : Response → Type 0
Proper a = a ≢ Value no_value

abbrev ProperEvent : Event → Type 0
ProperEvent (refused n) = Unit {0}
ProperEvent (accepted x) = Unit {0}
ProperEvent (answered x r) = Proper r.answer

yes_proper : Proper Yes
yes_proper e = let z : ◌≡◌ {A = ℕ} 0 1 = cc in omega arith

no_proper : Proper No
no_proper e = let z : ◌≡◌ {A = ℕ} 0 1 = cc in omega arith

value_proper : (v : ℕ) → v ≢ no_value → Proper (Value v)
value_proper v n e = n (cc)

-- a call answers yes, no, or a value that it saw and that is not none
reason_proper : (s : View) (κ : Knowledge) (t : ℕ) (a : Response) {x : Change} → Reason s κ t a x → Proper a
unfolding Invariant.none
reason_proper s κ t a (acts e from) = rw e yes_proper
reason_proper s κ t a (acted placed swaps e from) = rw e yes_proper
reason_proper s κ t a (declines v saw other swaps e placed late) = rw e no_proper
reason_proper s κ t a (reads v saw other swaps e placed late) =
    rw e (by_test Proper (eqb (s.task t).kind 2) _ _ (λ k. by_test Proper (eqb v (s.task t).expected) _ _ (λ y. yes_proper) (λ y. no_proper)) (λ k. value_proper v other))

module _ (v : ℕ) (w : World) (i : Reachable v w) where
  begin_proper : (t : ℕ) (op : Op) {f : WorldAfter} → Begun w t op f → ProperEvent (event_of untried f.outcome)
  begin_proper t op (Begun.refuses n) = tt
  begin_proper t op (starts a) = tt

  step_proper : (t : ℕ) (did : List Line) {f : WorldAfter} → Stepped w t did f → ProperEvent (event_of (tried_in w t (w.records t)) f.outcome)
  unfolding figure_ran
  step_proper t did (Stepped.refuses n e) = tt
  step_proper t did (runs l o) = go (next_after w t) refl
    where
      go : (n : Next) → next_after w t ≡ n → ProperEvent (event_of (tried_in w t (w.records t)) (outcome_of n))
      go (Go q) e = tt
      go (Done f) e = reached-answer v w i t l did o Proper (λ s κ a x r. reason_proper s κ t a r) f e

  drop_proper : (t : ℕ) (did : List Line) {f : WorldAfter} → Dropped w t did f → ProperEvent (event_of untried f.outcome)
  drop_proper t did (Dropped.refuses n e) = tt
  drop_proper t did (leaves l o) = tt

  act_proper : (a : Action) → ProperEvent (figure w a).1
  act_proper (begin t op) = begin_proper t op (begin-cases w t op)
  act_proper (step t) = let p = reached-path v w i t in step_proper t p.0 (step-cases w t p.0 p.1)
  act_proper (drop t) = let p = reached-path v w i t in drop_proper t p.0 (drop-cases w t p.0 p.1)

-- so no finished call of a history does
abbrev ProperCalls : Calls → Type 0
ProperCalls b = (f : FinishedCall) → f ∈ b.finished → Proper f.report.answer

enter_proper : (b : Calls) (a : Action) (e : Event) → ProperEvent e → ProperCalls b → ProperCalls (enter b a e)
enter_proper b a (refused n) p h = h
enter_proper b (begin t op) (accepted x) p h = h
enter_proper b (begin t op) (answered x r) p h = h
enter_proper b (step t) (accepted x) p h = h
enter_proper b (drop t) (accepted x) p h = h
enter_proper b (drop t) (answered x r) p h = h
enter_proper b (step t) (answered x r) p h = go (advanced b x (b.pending t))
  where
    go : (o : Option Call) (f : FinishedCall) → f ∈ closed o r b.finished → Proper f.report.answer
    go none = h
    go (some c) = with_first (λ (f : FinishedCall). Proper f.report.answer) _ b.finished p h

history_proper : (v : ℕ) (l : List Action) (w : World) → Reachable v w → (b : Calls) → ProperCalls b → ProperCalls (enter_all b (history figure w l))
history_proper v [] w i b h = h
history_proper v (a ∷ l) w i b h = history_proper v l (figure w a).0 (next_reachable v w i a) (enter b a (figure w a).1) (enter_proper b a (figure w a).1 (act_proper v w i a) h)

-- LOOKS

shown-some : (o : Option ℕ) (x : ℕ) → x ≢ no_value → shown o x ≢ Shown no_value
shown-some none x n e = n (cc)
shown-some (some r) x n e = let z : ◌≡◌ {A = ℕ} 0 1 = cc in omega arith

shown-value : (c v d : ℕ) → v ≢ no_value → shown_value c v d ≢ no_value
shown-value c v d n = let P : ℕ → Type 0 = λ x. x ≢ no_value in by_test P (eqb c 0) _ _ (λ z. n) (λ z. by_test P (eqb d no_value) _ _ (λ z. n) (λ z. eqb-false _ _ z))

-- V of the figure's current block
current-some : (v : ℕ) (w : World) → Reachable v w → (k : ℕ) → (w.cell k).v (w.cell k).current ≢ no_value
unfolding Invariant.none
current-some v w i k = reached-some v w i k

look_some : (v : ℕ) (w : World) → Reachable v w → (k : ℕ) → figure_looked w k ≢ Shown no_value
unfolding figure_looked
look_some v w i k = let m = w.cell k in let b = m.current in shown-some (refusal (look_questions w.cells k)) _ (shown-value (m.c b) (m.v b) (m.d b) (current-some v w i k))

-- THE CELLS, from an opening that is not refused, after any list of actions

module _ (old : State) (words : List ℕ) (tasks cells blocks : ℕ) (values : List ℕ) (allowed : refusal (open_questions (length words) tasks cells blocks values) ≡ none) (actions : List Action) where
  reached : Reachable cells (run figure (opening tasks cells values) actions)
  reached = reachable tasks cells values (starting_values old words tasks cells blocks values allowed) actions

  -- The next step of a task, whichever it is, does not answer none.
  pub no_step_answers_none : (task : ℕ) (attempt : Attempt) (report : Report) → (pool (run pool (start old words tasks cells blocks values) actions) (step task)).1 ≡ answered attempt report → report.answer ≢ Value no_value
  no_step_answers_none t y r e = subst ProperEvent (sym (same-event (together old words tasks cells blocks values allowed actions) (step t)) ∙ e) (act_proper cells _ reached (step t))

  -- No finished call answered none.
  pub no_call_answers_none : (call : FinishedCall) → call ∈ (calls_of (history pool (start old words tasks cells blocks values) actions)).finished → call.report.answer ≢ Value no_value
  no_call_answers_none = subst (λ h. ProperCalls (calls_of h)) (sym (same-history old words tasks cells blocks values allowed actions))
      (history_proper cells actions (opening tasks cells values) (opening_reachable tasks cells values (starting_values old words tasks cells blocks values allowed)) no_calls (λ f i. absurd i))

  -- No look shows none.
  pub no_look_shows_none : (cell : ℕ) → let now = run pool (start old words tasks cells blocks values) actions in looked now.0 now.1 cell ≢ Shown no_value
  no_look_shows_none k e = look_some cells _ reached k (sym (same_look old words tasks cells blocks values allowed actions k) ∙ e)

  -- No cell's current block has V none.
  pub no_cell_has_none : (cell : ℕ) → cell < cells → let now = run pool (start old words tasks cells blocks values) actions in word now.1 (current now.0 cell) Field.V ≢ no_value
  no_cell_has_none k h e = current-some cells _ reached k (sym (same-words (together old words tasks cells blocks values allowed actions) k h Field.V) ∙ e)
