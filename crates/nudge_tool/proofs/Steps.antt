-- One action of each loop.
use mathlib.Core.Path.{◌≡◌, refl, sym, ap, subst, ◌∙◌}
use mathlib.Core.Bool.{Bool, true, false, not, ◌&&◌, cond}
use mathlib.Core.Option.{Option, none, some}
use mathlib.Core.List.{List, [], ◌∷◌, ◌++◌, map}
use Prim.Native.Nat.{ℕ, zero, suc, ◌+◌, ◌-◌, ◌≤◌, ◌<◌}
use native.Mathlib.Numerals.{add-one}
use native.Mathlib.Omega.{arith}
use lib.ListN.{length, take, drop, get_or, length-map}
use lib.Seq.{take-add, length-take-le}
use borrow.Author.Tests.{eq-eqb, ne_eqb}
use Rattle.cells_spec.specs.declared.State.{State}
use Rattle.cells_spec.proofs.Fits.{sizes}
use Rattle.figure_lines.specs.Answers.{answer_of}
use Rattle.figure_lines.specs.Record.{record_at}
use Rattle.figure_lines.specs.declared.Answer.{Answer}
use Rattle.cells_spec.specs.Machine.{Pool, pool}
use Rattle.history_spec.specs.History.{Action, Response, Event, Calls, no_calls, enter, enter_all, history, run}
use Rattle.history_spec.proofs.Basics.{history_append, enter_append}
use Rattle.history_linearization.proofs.EveryAction.{run-snoc}
use Rattle.session_engine.proofs.Listed.{action_then, no_action}
use Rattle.cells_theorems.specs.Reached.{Reached}
use Rattle.cells_theorems.proofs.Reaching.{reached-fit, reached-next}
use Rattle.nudge_spec.specs.Exchange.{exchanged, moved_to, answer_at}
use Rattle.nudge_spec.specs.Nudge.{at_place, answers_still, nudges, earliest}
use Rattle.nudge_spec.proofs.Nudge.{alone, later_no_nudge}
use Rattle.std.specs.Prelude as Rust
use Rattle.std.proofs.Common.{None, Some}
use Rattle.cells_theorems.proofs.Refines.{together}
use Rattle.session_engine.specs.Tool.{Fresh}
use Rattle.nudge_tool.proofs.Asking.{started}
use Rattle.nudge_tool.specs.Calls.{Summary, Note, pending, ended, note_of, begun_after, listing, calls, answer_of_call, note_in, Summarizes}
use Rattle.nudge_tool.specs.Exchange.{collides, nudges_at}
use Rattle.nudge_tool.proofs.Following.{BegunAt, begun-next}
use Rattle.nudge_tool.proofs.Exchanging.{exchanged_map, now-after}

-- THE TASK'S CALLS

-- a call that an action ends was begun where the task's call was, before it and after it
begun-same : (n : Note) (k k' i : ℕ) (later : ℕ → List Summary) → k' ≡ begun_after n k → listing n k i later ≡ listing n k' i later
begun-same (pending j) k k' i later e = refl
begun-same (ended r) k k' i later e = ap (λ (m : ℕ). listing (ended r) m i later) (sym e)

module _ (t : ℕ) (f : ℕ → Action) (l : List ℕ) (i k : ℕ) (x : Pool) where
  abbrev here : List Summary
  here = calls t k i (history pool x (drop i (map f l)))

  abbrev there : Pool → ℕ → List Summary
  there y j = calls t j (i + 1) (history pool y (drop (i + 1) (map f l)))

  pub no_calls_lem : length l ≤ i → here ≡ []
  no_calls_lem h = ap (λ (r : List Action). calls t k i (history pool x r)) (no_action f l i h)

  -- of action a, which leaves y, and o for the task's call, which after it was begun at k'
  module _ {a : Action} {y : Pool} {k' : ℕ} (o : Rust.Option Answer) (h : i < length l) (ea : a ≡ f (get_or l i 0)) (ey : y ≡ (pool x a).0) (en : note_in k' o ≡ note_of t k i a (pool x a).1) (ek : k' ≡ begun_after (note_in k' o) k) where
    listed : here ≡ listing (note_in k' o) k' i (there y)
    listed =
        ap (λ (r : List Action). calls t k i (history pool x r)) (action_then f l i h ∙ ap (λ (b : Action). b ∷ drop (i + 1) (map f l)) (sym ea))
        ∙ ap (λ (n : Note). listing n k i (there (pool x a).0)) (sym en) ∙ ap (λ (z : Pool). listing (note_in k' o) k i (there z)) (sym ey)
        ∙ begun-same (note_in k' o) k k' i (there y) ek

    pub then_none : o ≡ None → here ≡ there y k'
    then_none e = listed ∙ ap (λ (o : Rust.Option Answer). listing (note_in k' o) k' i (there y)) e

    pub then_some : {r : Answer} → o ≡ Some r → here ≡ record { at = k'; last = i; answer = answer_of r } ∷ there y k'
    then_some e = listed ∙ ap (λ (o : Rust.Option Answer). listing (note_in k' o) k' i (there y)) e

    -- the call that it ended is the one begun at m, or another
    pub then_it : (m : ℕ) {r : Answer} → o ≡ Some r → k' ≡ m → answer_of_call m here ≡ some (answer_of r)
    then_it m {r} e q = ap (answer_of_call m) (then_some e) ∙ ap (λ (c : Bool). cond c (some (answer_of r)) (answer_of_call m (there y k'))) (eq-eqb k' m q)

    pub then_other : (m : ℕ) {r : Answer} → o ≡ Some r → (k' ≡ m → ⊥) → answer_of_call m here ≡ answer_of_call m (there y k')
    then_other m {r} e q = ap (answer_of_call m) (then_some e) ∙ ap (λ (c : Bool). cond c (some (answer_of r)) (answer_of_call m (there y k'))) (ne_eqb k' m q)

pub after_first : (n : ℕ) (c : Summary) (l : List Summary) → n ≡ 0 → at_place n (c ∷ l) ≡ some c
after_first zero c l e = refl
after_first (suc n) c l e = absurd (omega (arith, e))

pub after_next : (n : ℕ) (c : Summary) (l : List Summary) → (n ≡ 0 → ⊥) → at_place n (c ∷ l) ≡ at_place (n - 1) l
after_next zero c l e = absurd (e refl)
after_next (suc n) c l e = let z : suc n - 1 ≡ n = omega arith in ap (λ (m : ℕ). at_place m l) (sym z)

-- ONE EXCHANGE, of the actions a and b

tried-two : (x : Pool) (f : ℕ → Action) (l : List ℕ) (t k m : ℕ) (r : Response) (i : ℕ) {a b : Action} → i + 1 < length l → a ≡ f (get_or l i 0) → b ≡ f (get_or l (i + 1) 0)
    → nudges_at x (map f l) t k m r i ≡ (collides x.0.tasks (record_at x.0.records) a b && not (answers_still r (answer_of_call (moved_to i m) (calls t k i (history pool x (drop i (exchanged i (map f l))))))))
tried-two x f l t k m r i {a} {b} h ea eb =
    let two : drop i (map f l) ≡ a ∷ b ∷ drop ((i + 1) + 1) (map f l) =
    action_then f l i (omega (arith, h)) ∙ (ap (λ (c : Action). c ∷ drop (i + 1) (map f l)) (sym ea) ∙ ap (λ (r : List Action). a ∷ r) (action_then f l (i + 1) h ∙ ap (λ (c : Action). c ∷ drop ((i + 1) + 1) (map f l)) (sym eb)))
    in rw two

module _ (x : Pool) (f : ℕ → Action) (l : List ℕ) (t k m : ℕ) (r : Response) (i : ℕ) {a b : Action} {c : Bool} (h : i + 1 < length l) (ea : a ≡ f (get_or l i 0)) (eb : b ≡ f (get_or l (i + 1) 0)) (ec : collides x.0.tasks (record_at x.0.records) a b ≡ c) where
  abbrev followed : Option Response
  followed = answer_of_call (moved_to i m) (calls t k i (history pool x (drop i (exchanged i (map f l)))))

  two_are : (d : Bool) → not c ≡ d → nudges_at x (map f l) t k m r i ≡ (not d && not (answers_still r followed))
  two_are d e = tried-two x f l t k m r i h ea eb ∙ ap (λ (z : Bool). z && not (answers_still r followed)) (ec ∙ (sym (twice c) ∙ ap not e))
    where
      twice : (z : Bool) → not (not z) ≡ z
      twice true = refl
      twice false = refl

  pub tried_apart : not c ≡ true → false ≡ nudges_at x (map f l) t k m r i
  tried_apart e = sym (two_are true e)

  pub tried-close : not c ≡ false → {d : Bool} → d ≡ answers_still r followed → not d ≡ nudges_at x (map f l) t k m r i
  tried-close e q = ap not q ∙ sym (two_are false e)

-- THE STATE BEFORE ACTION i, and the begin of the task's call

pub record Before (x₀ : Pool) (l : List Action) (t i : ℕ) (x : Pool) (k : ℕ) : Type 0 where
  pub state : x ≡ run pool x₀ (take i l)
  pub begins-at : BegunAt (enter_all no_calls (history pool x₀ (take i l))) t k

pub before-next : {x₀ : Pool} (f : ℕ → Action) (l : List ℕ) (t i k : ℕ) {k' : ℕ} {x y : Pool} {a : Action} {n : Note} → i < length l → a ≡ f (get_or l i 0) → y ≡ (pool x a).0 → n ≡ note_of t k i a (pool x a).1
    → k' ≡ begun_after n k → Before x₀ (map f l) t i x k → Before x₀ (map f l) t (i + 1) y k'
before-next {x₀} f l t i k {k'} {x} {y} {a} {n} h ea ey en ek B = record {
  state = ey ∙ (ap (λ (x : Pool). (pool x a).0) B.state ∙ (sym (run-snoc pool x₀ (take i (map f l)) a) ∙ ap (run pool x₀) (sym more)));
  begins-at = subst (λ (b : Calls). BegunAt b t k') (sym calls_then) (subst (BegunAt (enter b a e) t) (ap (λ (n : Note). begun_after n k) notes ∙ sym ek) (begun-next b t k a e B.begins-at));
}
  where
    b : Calls
    b = enter_all no_calls (history pool x₀ (take i (map f l)))

    e : Event
    e = (pool x a).1

    more : take (i + 1) (map f l) ≡ take i (map f l) ++ (a ∷ [])
    more = take-add i 1 (map f l) ∙ ap (λ (r : List Action). take i (map f l) ++ take 1 r) (action_then f l i h ∙ ap (λ (c : Action). c ∷ drop (i + 1) (map f l)) (sym ea))

    now : b.now ≡ i
    now = omega (arith, now-after pool x₀ (take i (map f l)) no_calls, length-take-le i (map f l) (omega (arith, h, length-map l f)))

    notes : note_of t k b.now a e ≡ n
    notes = ap (λ (m : ℕ). note_of t k m a e) now ∙ sym en

    calls_then : enter_all no_calls (history pool x₀ (take (i + 1) (map f l))) ≡ enter b a e
    calls_then =
        ap (λ (r : List Action). enter_all no_calls (history pool x₀ r)) more
        ∙ (ap (enter_all no_calls) (history_append pool x₀ (take i (map f l)) (a ∷ []))
        ∙ (enter_append no_calls (history pool x₀ (take i (map f l))) (history pool (run pool x₀ (take i (map f l))) (a ∷ []))
        ∙ ap (λ (x : Pool). enter b a (pool x a).1) (sym B.state)))

-- the state's own sizes are those of its opening
pub own-sizes : {n v : ℕ} {s : State} {p : List ℕ} → Reached n v s p → Reached s.tasks s.cells s p
own-sizes {n} {v} {s} {p} r =
    let sizes = (together r.old r.words n v r.blocks r.values r.allowed r.actions).agree.sizes in
    let en : n ≡ s.tasks = sym (ap (λ (x : Pool). x.0.tasks) r.came ∙ sizes.same-tasks) in
    let ev : v ≡ s.cells = sym (ap (λ (x : Pool). x.0.cells) r.came ∙ sizes.same-cells) in
    subst (λ (m : ℕ). Reached s.tasks m s p) ev (subst (λ (m : ℕ). Reached m v s p) en r)

pub reached-before : {s : State} {p : List ℕ} (l : List Action) (t i : ℕ) {s' : State} {p' : List ℕ} {k : ℕ} → Fresh s p → Before (s, p) l t i (s', p') k → Reached s'.tasks s'.cells s' p'
reached-before {s} {p} l t i F B = let g = started F in let r : Reached s.tasks s.cells _ _ = record {
  old = g.old;
  words = g.words;
  blocks = g.blocks;
  values = g.values;
  allowed = g.allowed;
  actions = take i l;
  came = B.state ∙ ap (λ (x : Pool). run pool x (take i l)) g.came;
} in own-sizes r

pub reached-on : {n v : ℕ} {s : State} {p : List ℕ} {s' : State} {p' : List ℕ} → Reached n v s p → (a : Action) → (s', p') ≡ (pool (s, p) a).0 → Reached n v s' p'
reached-on {n} {v} r a e = subst (λ (x : Pool). Reached n v x.0 x.1) (sym e) (reached-next r a)

pub reached-words : {n v : ℕ} {s : State} {p : List ℕ} → Reached n v s p → length p ≤ 640
reached-words {s = s} {p} r = let z = sizes s p (reached-fit r) in omega (arith, z.words, z.blocks)

-- THE EARLIEST

module _ (g : ℕ → Bool) where
  pub earliest_hit : (i n : ℕ) → i < n → g i ≡ true → earliest g i (n - i) ≡ some i
  unfolding earliest
  earliest_hit i n h e = let z : n - i ≡ suc (n - (i + 1)) = omega (arith, h) in rw (z, e)

  pub earliest_skip : (i n : ℕ) → i < n → g i ≡ false → earliest g i (n - i) ≡ earliest g (i + 1) (n - (i + 1))
  unfolding earliest
  earliest_skip i n h e = let z : n - i ≡ suc (n - (i + 1)) = omega (arith, h) in rw (z, e)

  earliest_never : (k i : ℕ) → ((j : ℕ) → i ≤ j → g j ≡ false) → earliest g i k ≡ none
  unfolding earliest
  earliest_never zero i h = refl
  earliest_never (suc k) i h = rw (h i (omega arith)) (earliest_never k (i + 1) (λ j o. h j (omega (arith, o))))

module _ (x : Pool) (l : List Action) where
  -- no exchange is left
  pub none_left : (m : ℕ) (r : Response) (i k : ℕ) → length l ≤ i + 1 → earliest (nudges x l m r) i k ≡ none
  none_left m r i k h = earliest_never (nudges x l m r) k i (λ j o. ap (λ (c : Bool). c && not (answers_still r (answer_at (moved_to j m) (history pool x (exchanged j l))))) (alone j l (omega (arith, h, o, add-one i))))

  -- none nudges the call after its last step
  pub none_later : (t : ℕ) (c : Summary) → Summarizes (history pool x l) t c → (i k : ℕ) → c.last < i → earliest (nudges x l c.at c.answer) i k ≡ none
  none_later t c N i k h =
      earliest_never (nudges x l c.at c.answer) k i (λ j o.
      subst (λ (c : Summary). c.last < j → nudges x l c.at c.answer j ≡ false) N.kept (later_no_nudge x l N.call N.finished j) (omega (arith, h, o)))

-- what the followed call answers, in the words of the promise: the actions exchanged, or their forms
pub followed_to : (r : Response) (f : ℕ → Action) (l : List ℕ) (i t k : ℕ) (x : Pool) (b : ℕ) {m : ℕ} {o : Option Response} → m ≡ moved_to i b → o ≡ answer_of_call m (calls t k i (history pool x (drop i (map f (exchanged i l)))))
    → answers_still r o ≡ answers_still r (answer_of_call (moved_to i b) (calls t k i (history pool x (drop i (exchanged i (map f l))))))
followed_to r f l i t k x b em eo =
    ap (answers_still r) (eo ∙ (ap (λ (m : ℕ). answer_of_call m (calls t k i (history pool x (drop i (map f (exchanged i l)))))) em ∙ ap (λ (e : List Action). answer_of_call (moved_to i b) (calls t k i (history pool x (drop i e)))) (exchanged_map f i l)))
