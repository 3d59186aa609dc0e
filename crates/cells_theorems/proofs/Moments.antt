-- The moments named beside the pool are those named beside the figure: a sight has no block numbers, so both see the same and note the same.
use mathlib.Core.Path.{◌≡◌, refl, sym, ap, ap₂, ◌∙◌, subst}
use mathlib.Core.Logic.{◌≢◌, inl, inr}
use mathlib.Core.Bool.{Bool, true, false, ◌&&◌, cond}
use mathlib.Core.Option.{Option, none}
use mathlib.Core.List.{List, [], ◌∷◌, ◌++◌, map}
use Prim.Native.Nat.{ℕ, zero, suc, ◌≤◌, ◌<◌}
use native.Mathlib.Decide.{dec_le}
use native.Mathlib.Omega.{arith}
use lib.Dec.{eqb, T, eqb→eq}
use lib.ListN.{get_or, length}
use Rattle.figure_lines.specs.declared.Record.{Record}
use Rattle.figure_lines.specs.declared.Field.{Field}
use Rattle.figure_lines.specs.declared.Field.TheVariants.{C, D}
use Rattle.figure_lines.specs.Basics.{within}
use Rattle.figure_lines.specs.Record.{no_value, record_at}
use Rattle.cells_spec.specs.declared.State.{State}
use Rattle.cells_spec.specs.Questions.{refusal, open_questions}
use Rattle.cells_spec.specs.Pool.{word}
use Rattle.cells_spec.specs.Step.{current}
use Rattle.history_spec.specs.History.{Action, begin, step, drop, Response, Value, Yes, No, Event, refused, accepted, answered, history, run, Calls, no_calls, calls_of}
use Rattle.history_spec.specs.Basics.{◌∈◌}
use Rattle.history_spec.specs.Linearization.{replies, Linearizes}
use Rattle.history_spec.specs.Moments.{before, Spot, Mark, point_of, reply_of, mark_of, mark_of_pending, mark_of_landed, marked, pending_marks, marks, sort, ListedExactly}
use Rattle.figure_cell.specs.Memory.{word_of}
use Rattle.figure.specs.Figure.{World, figure, opening}
use Rattle.figure_moments.specs.Moments.{holds_block, Sight, Notes, no_notes, nothing_noted, drop_noted, note_step, note_drop, note, noting, names, lands, ruled, stands, sees, moments}
use Rattle.figure.proofs.Records.{WellRecord}
use Rattle.figure_moments.specs.WithdrawnRule.{Withdrawal, withdrawals, withdrawn_spot}
use Rattle.figure_moments.proofs.WithdrawnRule.{withdrawn-rule}
use Rattle.figure_moments.proofs.Simulation.{moments_linearize, moments-answers, never_before}
use Rattle.cells_spec.specs.Machine.{Pool, pool}
use Rattle.cells_theorems.specs.Terms.{start, named}
use Rattle.cells_theorems.specs.Moments.{sees_pool, pool_moments}
use Rattle.cells_theorems.proofs.Agree.{Whole}
use Rattle.cells_theorems.proofs.Memory as Memory
use Rattle.cells_theorems.proofs.Refines.{Together, together, same-history}
use Rattle.cells_theorems.proofs.Demand3.{starting_values}
use Rattle.cells_theorems.proofs.Traces.{same-event, no_task_lem, no_drop}

-- ONE TASK'S PART: of a sight, whether it is a holder; of the notes, its own. The agreement says nothing of the records of tasks that are not there.

abbrev sight_of : ℕ → Sight → Sight
sight_of u x = record { line = x.line; figure_line = x.figure_line; swaps = x.swaps; active = x.active; undecided = x.undecided; current = x.current; as_expected = x.as_expected; as_new = x.as_new; holders = λ _. x.holders u; cell = x.cell; loaded = x.loaded; new = x.new }

abbrev notes_of : ℕ → Notes → Notes
notes_of u o = record { now = o.now; loaded = λ _. o.loaded u; stored = λ _. o.stored u; stored_active = λ _. o.stored_active u; inactive = λ _. o.inactive u; decided = λ _. o.decided u; replaced = λ _. o.replaced u; waiting = o.waiting }

-- a task's next notes are made of its own part
own_part : (u : ℕ) (e : Event) (o : Notes) (t : ℕ) (x : Sight) → notes_of u (note_step e o t x) ≡ notes_of u (note_step e (notes_of u o) t (sight_of u x))
own_part u (refused r) o t x = refl
own_part u (accepted y) o t x = refl
own_part u (answered y r) o t x = refl

-- the notes of n tasks are the same
abbrev Alike : ℕ → Notes → Notes → Type 0
Alike n o o' = (u : ℕ) → u < n → notes_of u o ≡ notes_of u o'

-- THE SAME SIGHT

-- under a test, equal if it passes
guarded : {b c x y : Bool} → b ≡ c → (T c → x ≡ y) → (b && x) ≡ (c && y)
guarded {b} {c} {x} {y} e f = ap (λ b. b && x) e ∙ go c f
  where
    go : (c : Bool) → (T c → x ≡ y) → (c && x) ≡ (c && y)
    go true f = f tt
    go false f = refl

module _ {n v : ℕ} {x : Pool} {w : World} (g : Together n v x w) where
  abbrev r : ℕ → Record
  r t = record_at x.0.records t

  abbrev q : ℕ → Record
  q t = w.records t

  cell_below : (t : ℕ) → T (holds_block (q t)) → (q t).cell < v
  cell_below t h = go (g.well [] t)
    where
      go : WellRecord v (q t) → (q t).cell < v
      go (inl e) = absurd (rw e at h)
      go (inr y) = y.cell

  module _ (t : ℕ) (l : t < n) where
    same : r t ≡ named (q t) (r t).held (r t).taken
    same = (g.agree.records t l).same

    same-cell : (r t).cell ≡ (q t).cell
    same-cell = ap (λ (r : Record). r.cell) same

    same-holds : holds_block (r t) ≡ holds_block (q t)
    same-holds = ap holds_block same

    linked : T (holds_block (q t)) → Whole g.R (q t).cell (q t).held (r t).held
    linked = (g.agree.records t l).held

    same_word : (f : Field) → T (holds_block (q t)) → word x.1 (r t).held f ≡ word_of (w.cell (q t).cell) (q t).held f
    same_word f h = g.agree.blocks.words (q t).cell (q t).held (r t).held f (linked h f)

    same-current : T (holds_block (q t)) → eqb (current x.0 (r t).cell) (r t).held ≡ eqb (w.cell (q t).cell).current (q t).held
    same-current h = rw same-cell (Memory.names g.agree (q t).cell (q t).held (r t).held (cell_below t h) (linked h))

  -- two tasks hold one block
  same_held : (t u : ℕ) (l : t < n) (m : u < n) → T (holds_block (q t)) → T (holds_block (q u))
      → (eqb (r u).cell (r t).cell && eqb (r u).held (r t).held) ≡ (eqb (q u).cell (q t).cell && eqb (q u).held (q t).held)
  same_held t u l m h i = guarded (ap₂ eqb (same-cell u m) (same-cell t l))
      (λ e. Memory.one_block g.agree (q t).cell (q u).held (r u).held (q t).held (r t).held C C (rw (eqb→eq (q u).cell (q t).cell e) at (linked u m i C)) (linked t l h C))

  same-sight : (t u : ℕ) → t < n → u < n → sight_of u (sees_pool x t) ≡ sight_of u (sees w t)
  same-sight t u l m =
      let holds = same-holds t l in
      λ i. record {
        line = (same t l i).line;
        figure_line = ap (λ (r : Record). cond (within r.line 1 3) r.wanted r.line) (same t l) i;
        swaps = eqb (same t l i).kind 2;
        active = guarded holds (λ h. ap (λ n. eqb n 0) (same_word t l C h)) i;
        undecided = guarded holds (λ h. ap (λ n. eqb n no_value) (same_word t l D h)) i;
        current = guarded holds (same-current t l) i;
        as_expected = guarded holds (λ h. ap₂ eqb (same_word t l D h) (ap (λ (r : Record). r.expected) (same t l))) i;
        as_new = guarded holds (λ h. ap₂ eqb (same_word t l D h) (ap (λ (r : Record). r.new) (same t l))) i;
        holders = λ _. guarded holds (λ h. guarded (same-holds u m) (same_held t u l m h)) i;
        cell = (same t l i).cell;
        loaded = (same t l i).loaded;
        new = (same t l i).new;
      }

  -- THE SAME NOTES AND MARKS

  -- a step of a task that is not there is refused
  by-step : (t : ℕ) (P : Event → Type 0) → P (refused 7) → (t < n → (e : Event) → P e) → P (figure w (step t)).1
  by-step t P z f = go (dec_le n t)
    where
      go : Dec (n ≤ t) → P (figure w (step t)).1
      go (yes h) = rw (no_task_lem g t h) z
      go (no h) = f (omega arith) (figure w (step t)).1

  by-drop : (t : ℕ) (P : Event → Type 0) → P (refused 7) → (t < n → (e : Event) → P e) → P (figure w (drop t)).1
  by-drop t P z f = go (dec_le n t)
    where
      go : Dec (n ≤ t) → P (figure w (drop t)).1
      go (yes h) = rw (no_drop g t h) z
      go (no h) = f (omega arith) (figure w (drop t)).1

  module _ {o o' : Notes} (same-notes : Alike n o o') where
    alike : {A : Type 0} (f : Notes → Sight → A) (t u : ℕ) → t < n → u < n → f (notes_of u o) (sight_of u (sees_pool x t)) ≡ f (notes_of u o') (sight_of u (sees w t))
    alike f t u l m = ap₂ f (same-notes u m) (same-sight t u l m)

    same-ending : (t : ℕ) (a : Response) → t < n → ruled o t (sees_pool x t) a ≡ ruled o' t (sees w t) a
    same-ending t (Value i) l = alike (λ o x. ruled o t x (Value i)) t t l l
    same-ending t Yes l = alike (λ o x. ruled o t x Yes) t t l l
    same-ending t No l = alike (λ o x. ruled o t x No) t t l l

    same-standing : (t : ℕ) → t < n → stands o t (sees_pool x t) ≡ stands o' t (sees w t)
    same-standing t l = alike (λ o x. stands o t x) t t l l

    step_notes : (t : ℕ) → t < n → (e : Event) → Alike n (note_step e o t (sees_pool x t)) (note_step e o' t (sees w t))
    step_notes t l e u m = own_part u e o t (sees_pool x t) ∙ alike (λ o x. notes_of u (note_step e o t x)) t u l m ∙ sym (own_part u e o' t (sees w t))

    nothing_noted_lem : Alike n (nothing_noted o) (nothing_noted o')
    nothing_noted_lem u m = ap nothing_noted (same-notes u m)

    -- a drop notes of its own call alone
    drop_notes : (t : ℕ) → t < n → (e : Event) → Alike n (note_drop e o t (sees_pool x t)) (note_drop e o' t (sees w t))
    drop_notes t l (refused r) = nothing_noted_lem
    drop_notes t l (answered y r) = nothing_noted_lem
    drop_notes t l (accepted y) = λ u m i. let s = same-notes u m i in record {
      now = suc s.now;
      loaded = s.loaded;
      stored = s.stored;
      stored_active = s.stored_active;
      inactive = s.inactive;
      decided = s.decided;
      replaced = s.replaced;
      waiting = alike (λ o x. (drop_noted o t x).waiting) t t l l i;
    }

    next_notes : (a : Action) → Alike n (note pool sees_pool o x a (figure w a).1) (note figure sees o' w a (figure w a).1)
    next_notes (begin t op) = nothing_noted_lem
    next_notes (step t) = by-step t (λ e. Alike n (note_step e o t (sees_pool x t)) (note_step e o' t (sees w t))) nothing_noted_lem (step_notes t)
    next_notes (drop t) = by-drop t (λ e. Alike n (note_drop e o t (sees_pool x t)) (note_drop e o' t (sees w t))) nothing_noted_lem (drop_notes t)

    abbrev SameMark : Calls → Action → Event → Type 0
    SameMark b a e = marked (noting pool sees_pool) (names pool sees_pool) (x, o) b a e ≡ marked (noting figure sees) (names figure sees) (w, o') b a e

    step_mark : (b : Calls) (t : ℕ) → t < n → (e : Event) → SameMark b (step t) e
    step_mark b t l (refused r) = refl
    step_mark b t l (accepted y) = ap (λ (o : Option (ℕ × Spot)). mark_of_landed (noting figure sees) (names figure sees) o b.withdrawn) (alike (λ o x. lands o x) t t l l)
    step_mark b t l (answered y r) = ap (mark_of (noting figure sees) (names figure sees) (b.pending t) r.answer) (same-ending t r.answer l)

    drop_mark : (b : Calls) (t : ℕ) → t < n → (e : Event) → SameMark b (drop t) e
    drop_mark b t l (refused r) = refl
    drop_mark b t l (accepted y) = ap (λ (o : Option Spot). mark_of_pending (noting figure sees) (names figure sees) o (b.pending t)) (same-standing t l)
    drop_mark b t l (answered y r) = refl

    next_mark : (b : Calls) (a : Action) → SameMark b a (figure w a).1
    next_mark b (begin t op) = refl
    next_mark b (step t) = by-step t (SameMark b (step t)) refl (step_mark b t)
    next_mark b (drop t) = by-drop t (SameMark b (drop t)) refl (drop_mark b t)

    last-marks : (b : Calls) (i : ℕ) → i ≤ n → pending_marks (noting pool sees_pool) (names pool sees_pool) (x, o) b i ≡ pending_marks (noting figure sees) (names figure sees) (w, o') b i
    last-marks b zero h = refl
    last-marks b (suc t) h = ap₂ (λ (p : Option Spot) (l : List Mark). mark_of_pending (noting figure sees) (names figure sees) p (b.pending t) ++ l) (same-standing t (omega arith)) (last-marks b t (omega arith))

-- pool and figure together, for as long as they run on
same-marks : {n v : ℕ} (l : List Action) (x : Pool) (w : World) (o o' : Notes) → ((m : List Action) → Together n v (run pool x m) (run figure w m)) → Alike n o o' → (b : Calls) (ms : List Mark)
    → marks (noting pool sees_pool) (names pool sees_pool) n (x, o) b ms l ≡ marks (noting figure sees) (names figure sees) n (w, o') b ms l
same-marks {n} [] x w o o' g s b ms = ap (λ (l : List Mark). l ++ ms) (last-marks (g []) s b n (omega arith))
same-marks (a ∷ l) x w o o' g s b ms =
    rw (same-event (g []) a, next_mark (g []) s b a)
    (same-marks l (pool x a).0 (figure w a).0 (note pool sees_pool o x a (figure w a).1) (note figure sees o' w a (figure w a).1) (λ m. g (a ∷ m)) (next_notes (g []) s a) _ _)

-- ALL OF IT, from an opening that is not refused

module _ (old : State) (words : List ℕ) (tasks cells blocks : ℕ) (values : List ℕ) (allowed : refusal (open_questions (length words) tasks cells blocks values) ≡ none) (actions : List Action) where
  -- The moments named beside the pool, where blocks are taken again, are those named beside figure 2 with a new block each time.
  pub same-moments : pool_moments tasks (start old words tasks cells blocks values) actions ≡ moments tasks cells values actions
  same-moments = ap sort (same-marks actions (start old words tasks cells blocks values) (opening tasks cells values) no_notes no_notes (together old words tasks cells blocks values allowed) (λ u m. refl) no_calls [])

  -- The source's linearization points, beside the pool and in their order, are a linearization of the cells' calls: of every finished call,
  -- and of the listed pending and withdrawn swaps.
  pub cell_moments_linearize : Linearizes (λ k. get_or values k 0) (calls_of (history pool (start old words tasks cells blocks values) actions)) (map point_of (pool_moments tasks (start old words tasks cells blocks values) actions))
  cell_moments_linearize = subst (λ (m : List Mark). Linearizes (λ k. get_or values k 0) (calls_of (history pool (start old words tasks cells blocks values) actions)) (map point_of m)) (sym same-moments)
      (subst (λ (h : List (Action × Event)). Linearizes (λ k. get_or values k 0) (calls_of h) (map point_of (moments tasks cells values actions))) (sym (same-history old words tasks cells blocks values allowed actions)) (moments_linearize tasks cells values (starting_values old words tasks cells blocks values allowed) actions))

  -- Fed the calls in this order, the sequential cells give each the answer that it had, and yes to the listed pending and withdrawn swaps.
  pub cell_moments_answers : replies (λ k. get_or values k 0) (map point_of (pool_moments tasks (start old words tasks cells blocks values) actions)) ≡ map reply_of (pool_moments tasks (start old words tasks cells blocks values) actions)
  cell_moments_answers = subst (λ (m : List Mark). replies (λ k. get_or values k 0) (map point_of m) ≡ map reply_of m) (sym same-moments) (moments-answers tasks cells values (starting_values old words tasks cells blocks values allowed) actions)

  -- No call takes effect immediately before an action.
  pub cell_never_before : (mark : Mark) → mark ∈ pool_moments tasks (start old words tasks cells blocks values) actions → mark.spot.side ≢ before
  cell_never_before m i = never_before tasks cells values (starting_values old words tasks cells blocks values allowed) actions m (subst (λ (k : List Mark). m ∈ k) same-moments i)

  -- A withdrawn call is listed exactly where the rule for withdrawn swaps says. The rule is looked up in figure 2 at the end of the list.
  pub cell_withdrawn_rule : (x : Withdrawal) → x ∈ withdrawals (opening tasks cells values) no_notes no_calls [] actions → ListedExactly (pool_moments tasks (start old words tasks cells blocks values) actions) x.call (withdrawn_spot (run figure (opening tasks cells values) actions) x)
  cell_withdrawn_rule = rw same-moments (withdrawn-rule tasks cells values (starting_values old words tasks cells blocks values allowed) actions)
