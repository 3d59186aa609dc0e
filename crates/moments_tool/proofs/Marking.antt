-- The loop over the actions: the words are those of the marks so far, and what is left from here on makes the whole.
use mathlib.Core.Path.{◌≡◌, refl, sym, ap, subst, ◌∙◌}
use mathlib.Core.Bool.{Bool, true, false, false≢true, ◌&&◌, cond}
use mathlib.Core.Option as Math
use Rattle.std.specs.Prelude.{Option, Some, None}
use mathlib.Core.List.{List, [], ◌∷◌, ◌++◌, append_assoc}
use Prim.Native.Nat.{ℕ, zero, suc, ◌+◌, ◌≤◌, ◌<◌}
use native.Mathlib.Omega.{arith}
use lib.ListN.{length, get_or, set, replicate}
use borrow.Author.Tests.{eqb-true, eq-eqb, lt-ltb}
use Rattle.figure_lines.specs.declared.Record.{Record}
use Rattle.figure_lines.specs.Record.{idle, is_idle, record_at, op_of}
use Rattle.cells_spec.specs.declared.State.{State}
use Rattle.cells_spec.specs.Answers.{Said}
use Rattle.cells_spec.specs.Open.{After, leaving}
use Rattle.cells_spec.specs.Step.{current}
use Rattle.cells_spec.specs.Events.{event_of}
use Rattle.cells_spec.specs.Machine.{Pool, does, tried_by, pool}
use Rattle.history_spec.specs.Basics.{upd}
use Rattle.history_spec.specs.History.{cell_of, Action, begin, step, drop, task_of, Response, Value, Yes, No, Attempt, Event, refused, accepted, Call, Calls, no_calls, enter}
use Rattle.history_spec.specs.Moments.{Spot, C3, Mark, marks, marked, mark_of, mark_of_pending, pending_marks}
use Rattle.figure_moments.specs.Moments.{Notes, Waiting, no_notes, nothing_noted, noted, note, noting, names, spot_at, ruled, stands, waits}
use Rattle.figure_cell.proofs.AsBegun.{cell_of_lem}
use Rattle.cells_theorems.specs.Moments.{sees_pool}
use Rattle.moments_tool.specs.declared.sights.Sight.{Sight}
use Rattle.moments_tool.specs.declared.sights.Own.{Own}
use Rattle.moments_tool.specs.declared.sights.Waiter.{Waiter}
use Rattle.moments_tool.specs.Words.{mark_word, encode, entered, IsWord, IsMade, Listed}
use Rattle.moments_tool.specs.Notes.{slot, sight_in, holds_with, sight_of, nobody_waits, with_waiting, notes_of, no_own, own_at, waiter_at}
use Rattle.moments_tool.specs.Loop.{Deed, Nothing, Moved, Dropped, Answered, deed_of, deed_is_step, notes_after, decides, spreads, ending_spot, stand_word, made_word, next_waiter, closing, Closing}
use Rattle.moments_tool.proofs.Encoding.{none_listed, entered_listed}
use Rattle.history_spec.proofs.Basics.{replicate_at}
use Rattle.moments_tool.proofs.Doing.{Steps, Did, refuses, begins, moves, ends, drops, did, AllBegun, begun-next}
use Rattle.moments_tool.proofs.Seeing.{Who, same_noted}
use Rattle.moments_tool.proofs.Keeping.{Kept, Keeps, AllKept, later, kept_on, kept_put, landed_listed}

abbrev left : ℕ → Pool → Notes → Calls → List Mark → List Action → List Mark
left n x o b l r = marks (noting pool sees_pool) (names pool sees_pool) n (x, o) b l r

abbrev marks_of : Pool → Notes → Calls → Action → Event → List Mark
marks_of x o b a u = marked (noting pool sees_pool) (names pool sees_pool) (x, o) b a u

pub record Marking (n : ℕ) (whole : List Mark) (x : Pool) (o : Notes) (ks : List (Option Waiter)) (words : List ℕ) (rest : List Action) : Type 0 where
  pub calls : Calls
  pub found : List Mark
  pub waiting : ℕ → Math.Option Waiting
  pub goes : left n x (with_waiting waiting o) calls found rest ≡ whole
  pub listed : Listed words found
  pub begun : AllBegun x.0.records calls.pending
  pub same-now : calls.now ≡ o.now
  pub kept : AllKept calls ks waiting

-- a call that took effect there, among the words
one_more : {words : List ℕ} {l : List Mark} → Listed words l → (p : Spot) (a : Response) (t : ℕ) (r : Record) (c : Call)
    → c.start.op ≡ op_of r → c.start.task ≡ t → IsWord (mark_word p (op_of r) t a) → t < 32 → r.cell < 16
    → Listed (entered (Some (mark_word p (op_of r) t a)) words) (record { spot = p; call = c.start; answer = a } ∷ l)
one_more {words} {l} x p a t r c eo et h k j =
    let m : Mark = record { spot = p; call = c.start; answer = a } in
    let e : encode m ≡ mark_word p (op_of r) t a = λ i. mark_word p (eo i) (et i) a in
    subst (λ (w : ℕ). Listed (entered (Some w) words) (m ∷ l)) e
    (entered_listed x m (subst IsWord (sym e) h) (omega (arith, et, k)) (omega (arith, ap cell_of eo, cell_of_lem r, j)))

-- A PENDING SWAP

module _ (s : State) (p : List ℕ) (o : Notes) (b : Calls) (begun : AllBegun s.records b.pending) where
  standing-busy : (t : ℕ) {q : Spot} → stands o t (sees_pool (s, p) t) ≡ Math.some q → is_idle (record_at s.records t) ≡ false
  standing-busy t {q} e = go (is_idle (record_at s.records t)) refl
    where
      go : (z : Bool) → is_idle (record_at s.records t) ≡ z → z ≡ false
      go false g = refl
      go true g = let k : Math.none ≡ Math.some q = rw (eqb-true (record_at s.records t).line 0 g) at e in let y : ◌≡◌ {A = ℕ} 0 1 = cc in absurd (omega arith)

  one_pending : {words : List ℕ} {l : List Mark} (t : ℕ) → t < 32 → (record_at s.records t).cell < 16 → Listed words l → (q : Math.Option Spot) → stands o t (sees_pool (s, p) t) ≡ q
      → IsMade (stand_word q (op_of (record_at s.records t)) t)
      → Listed (entered (stand_word q (op_of (record_at s.records t)) t) words) (mark_of_pending (noting pool sees_pool) (names pool sees_pool) q (b.pending t) ++ l)
  one_pending t h k x Math.none e f = x
  one_pending {words} {l} t h k x (Math.some q) e f = go (begun t (standing-busy t e))
    where
      r : Record
      r = record_at s.records t

      go : (c : Call) × (b.pending t ≡ Math.some c) × (c.start.op ≡ op_of r) × (c.start.task ≡ t)
          → Listed (entered (Some (mark_word q (op_of r) t Yes)) words) (mark_of (noting pool sees_pool) (names pool sees_pool) (b.pending t) Yes q ++ l)
      go (c, y, eo, et) = rw y (one_more x q Yes t r c eo et f h k)

-- ONE ACTION

module _ (s : State) (p : List ℕ) (records : length s.records ≡ 32) (tasks : s.tasks ≤ 32) (i : ℕ) (ns : List Own) (ks : List (Option Waiter)) where
  abbrev notes : Notes
  notes = notes_of i ns

  abbrev rec : ℕ → Record
  rec t = record_at s.records t

  abbrev sees : ℕ → Sight
  sees t = sight_in p (rec t) (current s (slot (rec t).cell s.cells))

  abbrev own : ℕ → Own
  own t = own_at ns t

  abbrev made : ℕ → Deed → Option ℕ
  made t d = made_word d i t (rec t) (sees t) (own t) (waiter_at ks (rec t).cell)

  -- what the code does at task t's place
  pub record Coded (t : ℕ) (d : Deed) (words words' : List ℕ) (ks' : List (Option Waiter)) (o' : Notes) : Type 0 where
    pub list : List Bool
    pub who : Who s p t (rec t).line (sees t) list
    pub cell : (rec t).cell < 16
    pub noted_here : o' ≡ notes_after d notes t (sight_of (rec t).line (rec t) (sees t) list)
    pub words-here : words' ≡ entered (made t d) words
    pub word-here : IsMade (made t d)
    pub kept_here : ks' ≡ set ks (rec t).cell (next_waiter d t (rec t) (sees t) (own t) (waiter_at ks (rec t).cell))

  -- with what the code found for these
  pub coded : (t : ℕ) (d : Deed) (words words' : List ℕ) (ks' : List (Option Waiter)) (o' : Notes) {r : Record} {x : Sight} {o : Own} {word : Option ℕ} {v : Option Waiter} (w : List Bool) {b : Bool}
      → r ≡ rec t → x ≡ sight_in p r (current s (slot r.cell s.cells)) → o ≡ own t → b ≡ spreads r.line x
      → ((u : ℕ) → u < 32 → get_or w u false ≡ (b && holds_with (rec u) r)) → length w ≡ 32 → (rec t).cell < 16
      → o' ≡ notes_after d notes t (sight_of r.line r x w) → word ≡ made_word d i t r x o (waiter_at ks r.cell) → words' ≡ entered word words → IsMade word
      → v ≡ next_waiter d t r x o (waiter_at ks r.cell) → ks' ≡ set ks r.cell v → Coded t d words words' ks' o'
  coded t d words words' ks' o' {r} {x} {o} {word} {v} w {b} er ex eo eb came size small en em ew f ev ek = record {
    list = w;
    who = record { who = λ e u h. came u h ∙ λ j. (eb ∙ (λ k. spreads (er k).line (sight k)) ∙ e) j && holds_with (rec u) (er j); size = size };
    cell = small;
    noted_here = en ∙ λ j. notes_after d notes t (sight_of (er j).line (er j) (sight j) w);
    words-here = ew ∙ ap (λ (k : Option ℕ). entered k words) word_at;
    word-here = subst IsMade word_at f;
    kept_here = ek ∙ λ j. set ks (er j).cell ((ev ∙ λ k. next_waiter d t (er k) (sight k) (eo k) (waiter_at ks (er k).cell)) j);
  }
    where
      sight : x ≡ sees t
      sight = ex ∙ ap (λ (q : Record). sight_in p q (current s (slot q.cell s.cells))) er

      word_at : word ≡ made t d
      word_at = em ∙ λ j. made_word d i t (er j) (sight j) (eo j) (waiter_at ks (er j).cell)

  in_tasks : {t : ℕ} → t < s.tasks → slot t s.tasks ≡ t
  in_tasks h = rw (lt-ltb _ _ h)

  module _ {t : ℕ} (z : Steps s p t) where
    in_cells : slot (rec t).cell s.cells ≡ (rec t).cell
    in_cells = rw (lt-ltb _ _ z.acting.named)

    same_spot : (f : ℕ → Math.Option Waiting) (a : Response) → ending_spot i (own t) (rec t) (sees t) a ≡ ruled (with_waiting f notes) t (sees_pool (s, p) t) a
    same_spot f (Value v) = refl
    same_spot f Yes = refl
    same_spot f No = refl

    -- whoever waits
    notes_step : {w : List Bool} {o' : Notes} → Who s p t (rec t).line (sees t) w → o' ≡ with_waiting nobody_waits (noted notes t (sight_of (rec t).line (rec t) (sees t) w))
        → (f : ℕ → Math.Option Waiting) → with_waiting f o' ≡ with_waiting f (noted notes t (sees_pool (s, p) t))
    notes_step {w} h e f =
        ap (with_waiting f) e ∙ ap (λ (k : ℕ). with_waiting f (noted notes t (sight_of (rec t).line idle (sight_in p (rec t) (current s k)) w))) in_cells
        ∙ same_noted s p t records w (subst (λ (k : ℕ). Who s p t (rec t).line (sight_in p (rec t) (current s k)) w) in_cells h) notes f

  module _ (b : Calls) (l : List Mark) (begun : AllBegun s.records b.pending) (f : ℕ → Math.Option Waiting) (same-now : b.now ≡ i) (kept : AllKept b ks f)
      (words words' : List ℕ) (ks' : List (Option Waiter)) (o' : Notes) (listed : Listed words l) (x : Attempt) where
    abbrev then : Action → Event → Notes
    then a u = note pool sees_pool (with_waiting f notes) (s, p) a u

    abbrev Next : Action → Event → Type 0
    Next a u = (with_waiting (then a u).waiting o' ≡ then a u)
        × Listed words' (marks_of (s, p) (with_waiting f notes) b a u ++ l)
        × AllKept (enter b a u) ks' (then a u).waiting

    -- who waits at a task's cell: q, if the test passes
    waiters : (a : Action) (u : Event) (t : ℕ) → (rec t).cell < 16 → (test : Bool) (q : Option Waiter) (w : Math.Option Waiting) → ks' ≡ set ks (rec t).cell (cond test q (waiter_at ks (rec t).cell))
        → (test ≡ true → Keeps (enter b a u) q w) → AllKept (enter b a u) ks' (cond test (upd f (rec t).cell w) f)
    waiters a u t h test q w e k = subst (λ (v : List (Option Waiter)). AllKept (enter b a u) v (cond test (upd f (rec t).cell w) f)) (sym e) (kept_put (kept_on (later b a u) kept) (rec t).cell h test q w k)

    unmoved : (a : Action) (u : Event) (t : ℕ) → Coded t Nothing words words' ks' o' → (with_waiting f o' ≡ nothing_noted (with_waiting f notes)) × Listed words' l × AllKept (enter b a u) ks' f
    unmoved a u t c = (
      ap (with_waiting f) c.noted_here,
      subst (λ (w : List ℕ). Listed w l) (sym c.words-here) listed,
      waiters a u t c.cell false None Math.none c.kept_here (λ e. absurd (false≢true e)),
    )

    -- a step, whether it goes on or ends: its notes, and who waits
    stepped : (u : Event) (t : ℕ) → Steps s p t → (d : Deed) → deed_is_step d ≡ true → Coded t d words words' ks' o'
        → ks' ≡ set ks (rec t).cell (cond (decides (rec t).line (sees t)) None (waiter_at ks (rec t).cell))
        → (g : ℕ → Math.Option Waiting) → (with_waiting g o' ≡ with_waiting g (noted notes t (sees_pool (s, p) t))) × AllKept (enter b (step t) u) ks' (cond (decides (rec t).line (sees t)) (upd f (rec t).cell Math.none) f)
    stepped u t z d e c k g = (
      notes_step z c.who (c.noted_here ∙ λ j. cond (e j) (with_waiting nobody_waits (noted notes t (sight_of (rec t).line (rec t) (sees t) c.list))) (nothing_noted notes)) g,
      waiters (step t) u t c.cell (decides (rec t).line (sees t)) None Math.none k (λ _. tt),
    )

    ended : (t : ℕ) → Steps s p t → (a : Response) → Coded t (Answered a) words words' ks' o'
        → Listed words' (mark_of (noting pool sees_pool) (names pool sees_pool) (b.pending t) a (ruled (with_waiting f notes) t (sees_pool (s, p) t) a) ++ l)
    ended t z a k = go (begun t z.busy)
      where
        go : (c : Call) × (b.pending t ≡ Math.some c) × (c.start.op ≡ op_of (rec t)) × (c.start.task ≡ t)
            → Listed words' (mark_of (noting pool sees_pool) (names pool sees_pool) (b.pending t) a (ruled (with_waiting f notes) t (sees_pool (s, p) t) a) ++ l)
        go (c, y, eo, et) = rw (y, k.words-here, ← (same_spot z f a)) (one_more listed (ending_spot i (own t) (rec t) (sees t) a) a t (rec t) c eo et k.word-here (omega (arith, z.below, tasks)) k.cell)

    landed-here : (t : ℕ) → Coded t Moved words words' ks' o' → Listed words' (marks_of (s, p) (with_waiting f notes) b (step t) (accepted x) ++ l)
    landed-here t k =
        subst (λ (w : List ℕ). Listed w (marks_of (s, p) (with_waiting f notes) b (step t) (accepted x) ++ l)) (sym k.words-here)
        (landed_listed b (rec t) (sees t) (waiter_at ks (rec t).cell) (f (rec t).cell) (kept.each (rec t).cell) listed k.word-here)

    -- a drop: it waits, or is listed, or nothing is known of it
    withdrawn : (t : ℕ) → t < s.tasks → is_idle (rec t) ≡ false → Coded t Dropped words words' ks' o' → Next (drop t) (accepted x)
    withdrawn t h g k = (
      ap (with_waiting (then (drop t) (accepted x)).waiting) k.noted_here,
      subst (λ (w : List ℕ). Listed w (marks_of (s, p) (with_waiting f notes) b (drop t) (accepted x) ++ l)) (sym k.words-here)
          (one_pending s p notes b begun t (omega (arith, h, tasks)) k.cell listed (stands notes t (sees_pool (s, p) t)) refl k.word-here),
      waiters (drop t) (accepted x) t k.cell (waits notes t (sees_pool (s, p) t)) (Some late) (Math.some waiting) k.kept_here (λ _. new (begun t g)),
    )
      where
        late : Waiter
        late = record { mark = mark_word (spot_at (notes.inactive t) C3) (op_of (rec t)) t Yes; new = (rec t).new }

        waiting : Waiting
        waiting = record { drop = i; new = (rec t).new; inactive = notes.inactive t }

        new : (c : Call) × (b.pending t ≡ Math.some c) × (c.start.op ≡ op_of (rec t)) × (c.start.task ≡ t) → Kept (enter b (drop t) (accepted x)) late waiting
        new (c, y, eo, et) = record {
          call = c;
          known = rw (y, eq-eqb i b.now (sym same-now));
          earlier = omega (arith, same-now);
          task = omega (arith, et, h, tasks);
          cell = omega (arith, ap cell_of eo, cell_of_lem (rec t), k.cell);
          word = sym (λ j. mark_word (spot_at (notes.inactive t) C3) (eo j) (et j) Yes);
          new = refl;
        }

    next : (a : Action) (y : After) (t : ℕ) → Did s p a y → t ≡ slot (task_of a) s.tasks → Coded t (deed_of a y.outcome) words words' ks' o' → Next a (event_of x y.outcome)
    next (begin u op) y t (refuses n) e c = unmoved (begin u op) (refused n) t c
    next (step u) y t (refuses n) e c = unmoved (step u) (refused n) t c
    next (drop u) y t (refuses n) e c = unmoved (drop u) (refused n) t c
    next (begin u op) y t (begins q h g) e c = unmoved (begin u op) (accepted x) t c
    next (step u) y t (moves q z g h) e c =
        let k = subst (λ (v : ℕ). Coded v Moved words words' ks' o') (e ∙ in_tasks z.below) c in
        let r = stepped (accepted x) u z Moved refl k k.kept_here (then (step u) (accepted x)).waiting in (r.0, landed-here u k, r.1)
    next (step u) y t (ends q z g) e c =
        let k = subst (λ (v : ℕ). Coded v (Answered q.answer) words words' ks' o') (e ∙ in_tasks z.below) c in
        let v = event_of x y.outcome in
        let r = stepped v u z (Answered q.answer) refl k k.kept_here (then (step u) v).waiting in (r.0, ended u z q.answer k, r.1)
    next (drop u) y t (drops h g) e c = withdrawn u h g (subst (λ (v : ℕ). Coded v Dropped words words' ks' o') (e ∙ in_tasks h) c)

  pub marks_on : {n : ℕ} {whole : List Mark} {words words' : List ℕ} {ks' : List (Option Waiter)} {o' : Notes} {rest : List Action} {s' : State} {p' : List ℕ} {u : Said} {d : Deed} (a : Action) (t : ℕ)
      → Marking n whole (s, p) notes ks words (a ∷ rest) → leaving s' p' u ≡ does s p a → t ≡ slot (task_of a) s.tasks → d ≡ deed_of a u → o'.now ≡ i + 1 → Coded t d words words' ks' o'
      → Marking n whole (s', p') o' ks' words' rest
  marks_on {n} {whole} {words} {words'} {ks'} {o'} {rest} a t m e q ed at c =
      subst (λ (y : After). Marking n whole (y.state, y.pool) o' ks' words' rest) (sym e) here
    where
      y : After
      y = does s p a

      x : Attempt
      x = tried_by s p a

      v : Event
      v = event_of x y.outcome

      k : Next m.calls m.found m.begun m.waiting m.same-now m.kept words words' ks' o' m.listed x a v
      k =
          next m.calls m.found m.begun m.waiting m.same-now m.kept words words' ks' o' m.listed x a y t (did s p a) q
          (subst (λ (z : After). Coded t (deed_of a z.outcome) words words' ks' o') e (subst (λ (z : Deed). Coded t z words words' ks' o') ed c))

      here : Marking n whole (y.state, y.pool) o' ks' words' rest
      here = record {
        calls = enter m.calls a v;
        found = marks_of (s, p) (with_waiting m.waiting notes) m.calls a v ++ m.found;
        waiting = (note pool sees_pool (with_waiting m.waiting notes) (s, p) a v).waiting;
        goes =
            subst (λ (z : Notes). left n (y.state, y.pool) z (enter m.calls a v) (marks_of (s, p) (with_waiting m.waiting notes) m.calls a v ++ m.found) rest ≡ whole) (sym k.0)
            m.goes;
        listed = k.1;
        begun = begun-next records tasks m.calls x m.begun a y (did s p a);
        same-now = omega (arith, (later m.calls a v).now, m.same-now, at);
        kept = k.2;
      }

-- AT FIRST

idle-at : (n t : ℕ) → record_at (replicate n idle) t ≡ idle
idle-at zero t = refl
idle-at (suc n) zero = refl
idle-at (suc n) (suc t) = idle-at n t

no_notes_lem : notes_of 0 (replicate 32 no_own) ≡ no_notes
no_notes_lem = λ j. record {
  now = 0;
  loaded = λ u. (replicate_at no_own 32 u j).loaded;
  stored = λ u. (replicate_at no_own 32 u j).stored;
  stored_active = λ u. (replicate_at no_own 32 u j).active;
  inactive = λ u. (replicate_at no_own 32 u j).inactive;
  decided = λ u. (replicate_at no_own 32 u j).decided;
  replaced = λ u. (replicate_at no_own 32 u j).replaced;
  waiting = nobody_waits;
}

pub marks-start : (n : ℕ) (s : State) (p : List ℕ) (l : List Action) → s.records ≡ replicate 32 idle
    → Marking n (left n (s, p) no_notes no_calls [] l) (s, p) (notes_of 0 (replicate 32 no_own)) (replicate 16 None) [] l
marks-start n s p l e = record {
  calls = no_calls;
  found = [];
  waiting = nobody_waits;
  goes = ap (λ (o : Notes). left n (s, p) o no_calls [] l) no_notes_lem;
  listed = none_listed;
  begun = λ t h. absurd (false≢true (sym (rw (e, idle-at 32 t) at h)));
  same-now = refl;
  kept = record { sixteen = refl; each = λ k. subst (λ (w : Option Waiter). Keeps no_calls w Math.none) (sym (replicate_at {A = Option Waiter} None 16 k)) tt };
}

-- AFTER THE LAST ACTION

module _ (s : State) (p : List ℕ) (i : ℕ) (ns : List Own) (f : ℕ → Math.Option Waiting) (b : Calls) (begun : AllBegun s.records b.pending) where
  abbrev noted-at : ℕ → Notes
  noted-at j = notes_of j ns

  pub all-pending : {words : List ℕ} {l : List Mark} (n : ℕ) → n ≤ 32 → ((t : ℕ) → t < n → (record_at s.records t).cell < 16) → Listed words l → Closing (s, p) (noted-at 0) n
      → Listed (closing (s, p) (noted-at 0) n words) (pending_marks (noting pool sees_pool) (names pool sees_pool) ((s, p), with_waiting f (noted-at i)) b n ++ l)
  unfolding closing Closing
  all-pending zero h k x c = x
  all-pending {l = l} (suc t) h k x c =
      let q = stands (noted-at 0) t (sees_pool (s, p) t) in
      subst (Listed _) (sym (append_assoc (mark_of_pending (noting pool sees_pool) (names pool sees_pool) q (b.pending t)) (pending_marks (noting pool sees_pool) (names pool sees_pool) ((s, p), with_waiting f (noted-at i)) b t) l))
      (one_pending s p (noted-at 0) b begun t (omega arith) (k t (omega arith)) (all-pending t (omega arith) (λ u m. k u (omega (arith, m))) x c.1) q refl c.0)

pub marks-end : (n : ℕ) (s : State) (p : List ℕ) (i : ℕ) (ns : List Own) {ks : List (Option Waiter)} {whole : List Mark} {words : List ℕ}
    → Marking n whole (s, p) (notes_of i ns) ks words [] → n ≤ 32 → ((t : ℕ) → t < n → (record_at s.records t).cell < 16)
    → Closing (s, p) (notes_of 0 ns) n → Listed (closing (s, p) (notes_of 0 ns) n words) whole
marks-end n s p i ns m h k f =
    subst (Listed _) m.goes (all-pending s p i ns m.waiting m.calls m.begun n h k m.listed f)
