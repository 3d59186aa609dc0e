-- The calls on the pool do the lines that they do in the figure: same events, and records that are at the same line.
use mathlib.Core.Path.{◌≡◌, refl, ap, ◌∙◌}
use mathlib.Core.Option.{none}
use mathlib.Core.List.{List, [], ◌∷◌}
use Prim.Native.Nat.{ℕ, ◌≤◌}
use native.Mathlib.Decide.{dec_le}
use native.Mathlib.Omega.{arith}
use lib.ListN.{get_or, length}
use borrow.Author.Tests.{le-ltb}
use Rattle.cells_spec.specs.declared.State.{State}
use Rattle.figure_lines.specs.Lines.{Line, line_of}
use Rattle.cells_spec.specs.Questions.{refusal, open_questions}
use Rattle.history_spec.specs.History.{Action, begin, step, drop, untried, Event, refused, accepted, answered, run}
use Rattle.figure.specs.Figure.{World, figure, opening, figure_stepped, figure_dropped}
use Rattle.figure.specs.Traces.{Trace, no_trace, enter_line, traces, figure_traces}
use Rattle.cells_spec.specs.Machine.{Pool, pool}
use Rattle.cells_theorems.specs.Terms.{start}
use Rattle.cells_theorems.specs.Traces.{next_line, trace}
use Rattle.cells_theorems.proofs.Refines.{Together, histories, together}

-- what an action enters depends on its own task's line only
module _ (f g : ℕ → Line) (r : Trace) where
  abbrev Alike : Action → Type 0
  Alike (begin t op) = Unit {0}
  Alike (step t) = f t ≡ g t
  Alike (drop t) = Unit {0}

  enters : (a : Action) (e : Event) → Alike a → enter_line f r a e ≡ enter_line g r a e
  enters a (refused n) h = refl
  enters (begin t op) (accepted x) h = refl
  enters (begin t op) (answered x y) h = refl
  enters (step t) (accepted x) h = rw h
  enters (step t) (answered x y) h = rw h
  enters (drop t) (accepted x) h = refl
  enters (drop t) (answered x y) h = refl

module _ {n v : ℕ} {x : Pool} {w : World} (g : Together n v x w) where
  pub same-event : (a : Action) → (pool x a).1 ≡ (figure w a).1
  same-event a = ap (λ (h : List (Action × Event)). (get_or h 0 (a, accepted untried)).1) (histories (a ∷ []) g)

  -- the step of a task that is not there is refused, whatever its record
  pub no_task_lem : (t : ℕ) → n ≤ t → (figure w (step t)).1 ≡ refused 7
  unfolding figure_stepped
  no_task_lem t h = rw (g.agree.sizes.tasks_too, le-ltb t n h)

  pub no_drop : (t : ℕ) → n ≤ t → (figure w (drop t)).1 ≡ refused 7
  unfolding figure_dropped
  no_drop t h = rw (g.agree.sizes.tasks_too, le-ltb t n h)

  abbrev now : ℕ → Line
  now t = line_of (w.records t)

  same-entry : (r : Trace) (a : Action) → enter_line (next_line x) r a (pool x a).1 ≡ enter_line now r a (figure w a).1
  same-entry r a = ap (enter_line (next_line x) r a) (same-event a) ∙ go a
    where
      at : (t : ℕ) → Dec (n ≤ t) → enter_line (next_line x) r (step t) (figure w (step t)).1 ≡ enter_line now r (step t) (figure w (step t)).1
      at t (yes h) = rw (no_task_lem t h)
      at t (no h) = enters (next_line x) now r (step t) (figure w (step t)).1 (ap line_of (g.agree.records t (omega arith)).same)

      go : (a : Action) → enter_line (next_line x) r a (figure w a).1 ≡ enter_line now r a (figure w a).1
      go (begin t op) = enters (next_line x) now r (begin t op) (figure w (begin t op)).1 tt
      go (step t) = at t (dec_le n t)
      go (drop t) = enters (next_line x) now r (drop t) (figure w (drop t)).1 tt

-- pool and figure together, for as long as they run on
same-traces : {n v : ℕ} (l : List Action) (x : Pool) (w : World) (r : Trace) → ((m : List Action) → Together n v (run pool x m) (run figure w m)) → traces pool next_line x r l ≡ figure_traces w r l
same-traces [] x w r g = refl
same-traces (a ∷ l) x w r g =
    ap (λ r. traces pool next_line (pool x a).0 r l) (same-entry (g []) r a) ∙ same-traces l (pool x a).0 (figure w a).0 (enter_line (λ t. line_of (w.records t)) r a (figure w a).1) (λ m. g (a ∷ m))

-- From an opening that is not refused, for every list of actions, each call on the pool does line for line what it does in figure 2 with a
-- new block each time, and reports the same.
pub same-trace : (old : State) (words : List ℕ) (tasks cells blocks : ℕ) (values : List ℕ) → refusal (open_questions (length words) tasks cells blocks values) ≡ none → (actions : List Action)
    → trace (start old words tasks cells blocks values) actions ≡ figure_traces (opening tasks cells values) no_trace actions
same-trace old words tasks cells blocks values allowed actions = same-traces actions (start old words tasks cells blocks values) (opening tasks cells values) no_trace (together old words tasks cells blocks values allowed)
