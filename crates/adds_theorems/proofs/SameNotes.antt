-- What is noted and listed at requests is what is noted and listed at their plain actions, at the clock's moments.
use mathlib.Core.Path.{◌≡◌, refl, sym, ap, ◌∙◌, subst}
use mathlib.Core.Logic.{◌≢◌, ◌⊎◌, inl, inr}
use mathlib.Core.Bool.{Bool, true, false, not, cond, ◌&&◌, ◌||◌}
use mathlib.Core.Option.{Option, none, some}
use mathlib.Core.List.{List, [], ◌∷◌, ◌++◌, map}
use Prim.Native.Nat.{ℕ, zero, suc, ◌≤◌, ◌<◌}
use native.Mathlib.Omega.{arith}
use lib.Dec.{eqb, leb}
use borrow.Author.Tests.{eq-eqb, ne_eqb, le-leb, lt-leb}
use Rattle.figure_lines.specs.Basics.{within}
use Rattle.history_spec.specs.Basics.{upd, ◌∈◌}
use Rattle.history_spec.specs.History.{Action, begin, step, drop, Event, refused, accepted, answered, Response, Value, Yes, No, Call, WithdrawnCall, Calls}
use Rattle.history_spec.specs.Moments.{Rule, C3, C4, Spot, Mark, withdrawn_at, mark_of, marked, mark_of_pending, mark_of_landed, pending_marks}
use Rattle.history_spec.proofs.Basics.{either, upd-at, upd_off}
use Rattle.history_linearization.proofs.Timeline.{le_or_lt}
use Rattle.figure_moments.specs.Moments.{Sight, Waiting, Notes, nothing_noted, noted, drop_noted, note, noting, names, spot_at, line_c6, effect, rules, rule_at, ruled, stands, waits, landed, lands}
use Rattle.adds_spec.proofs.Images.{begin_at, call_at, pending_at, withdrawn_as, Image}

module _ (φ : ℕ → ℕ) where
  -- the first plain action of its request
  abbrev pub First : ℕ → Type 0
  First n = (j : ℕ) → j < n → φ j < φ n

  -- a moment and its request's
  abbrev pub Clocked : ℕ → ℕ → Type 0
  Clocked n n' = First n × (n' ≡ φ n)

  -- the same, or neither is noted yet
  abbrev pub Tie : ℕ → ℕ → Type 0
  Tie n n' = ((n ≡ 0) × (n' ≡ 0)) ⊎ Clocked n n'

  pub record SameWaiting (w w' : Waiting) : Type 0 where
    pub drop : Clocked w.drop w'.drop
    pub new : w'.new ≡ w.new
    pub inactive : Tie w.inactive w'.inactive

  abbrev pub Both : {A B : Type 0} → (A → B → Type 0) → Option A → Option B → Type 0
  Both P none none = Unit {0}
  Both P none (some q) = ⊥
  Both P (some p) none = ⊥
  Both P (some p) (some q) = P p q

  pub record Tied (o o' : Notes) : Type 0 where
    pub loaded : (u : ℕ) → Tie (o.loaded u) (o'.loaded u)
    pub stored : (u : ℕ) → Tie (o.stored u) (o'.stored u)
    pub stored_active : (u : ℕ) → o.stored_active u ≡ o'.stored_active u
    pub inactive : (u : ℕ) → Tie (o.inactive u) (o'.inactive u)
    pub decided : (u : ℕ) → Tie (o.decided u) (o'.decided u)
    pub replaced : (u : ℕ) → Tie (o.replaced u) (o'.replaced u)
    pub waiting : (k : ℕ) → Both SameWaiting (o.waiting k) (o'.waiting k)

  -- where one side goes on and notes nothing
  pub tied_on : {o o' : Notes} → Tied o o' → Tied (nothing_noted o) o'
  tied_on T = record { loaded = T.loaded; stored = T.stored; stored_active = T.stored_active; inactive = T.inactive; decided = T.decided; replaced = T.replaced; waiting = T.waiting }

  pub tied_on' : {o o' : Notes} → Tied o o' → Tied o (nothing_noted o')
  tied_on' T = record { loaded = T.loaded; stored = T.stored; stored_active = T.stored_active; inactive = T.inactive; decided = T.decided; replaced = T.replaced; waiting = T.waiting }

  tie_cond : (b : Bool) {a a' c c' : ℕ} → Tie a a' → Tie c c' → Tie (cond b a c) (cond b a' c')
  tie_cond true p q = p
  tie_cond false p q = q

  same_cond : (b a c c' : Bool) → c ≡ c' → cond b a c ≡ cond b a c'
  same_cond true a c c' e = refl
  same_cond false a c c' e = e

  abbrev SameWaitings : (ℕ → Option Waiting) → (ℕ → Option Waiting) → Type 0
  SameWaitings f f' = (k : ℕ) → Both SameWaiting (f k) (f' k)

  waiting_set : (b : Bool) (f f' : ℕ → Option Waiting) (c : ℕ) (v v' : Option Waiting) → SameWaitings f f' → Both SameWaiting v v' → SameWaitings (cond b (upd f c v) f) (cond b (upd f' c v') f')
  waiting_set false f f' c v v' h i k = h k
  waiting_set true f f' c v v' h i k = go (either k c)
    where
      go : (k ≡ c) ⊎ (k ≢ c) → Both SameWaiting (upd f c v k) (upd f' c v' k)
      go (inl e) = rw (upd-at f c v k e, upd-at f' c v' k e) i
      go (inr e) = rw (upd_off f c v k e, upd_off f' c v' k e) (h k)

  -- SPOTS

  pub record SameSpot (p p' : Spot) : Type 0 where
    pub moment : Tie p.moment p'.moment
    pub side : p'.side ≡ p.side
    pub rule : p'.rule ≡ p.rule

  at-spot : {n n' : ℕ} (r : Rule) → Tie n n' → SameSpot (spot_at n r) (spot_at n' r)
  at-spot r t = record { moment = t; side = refl; rule = refl }

  abbrev SameRules : List (ℕ × Spot) → List (ℕ × Spot) → Type 0
  SameRules [] [] = Unit {0}
  SameRules [] (q ∷ m) = ⊥
  SameRules (p ∷ l) [] = ⊥
  SameRules (p ∷ l) (q ∷ m) = (q.0 ≡ p.0) × SameSpot p.1 q.1 × SameRules l m

  at-rule : (n : ℕ) (l m : List (ℕ × Spot)) → SameRules l m → SameSpot (rule_at n l) (rule_at n m)
  at-rule n [] [] h = at-spot _ (inl (refl, refl))
  at-rule n (p ∷ l) (q ∷ m) h = rw h.0 (go (eqb n p.0) (at-rule n l m h.2))
    where
      go : (b : Bool) → SameSpot (rule_at n l) (rule_at n m) → SameSpot (cond b p.1 (rule_at n l)) (cond b q.1 (rule_at n m))
      go true r = h.1
      go false r = r
  at-rule n [] (q ∷ m) h = elim h [ ]
  at-rule n (p ∷ l) [] h = elim h [ ]

  -- the number of a drop, and where its swap takes effect
  abbrev SameLanding : ℕ × Spot → ℕ × Spot → Type 0
  SameLanding x x' = Clocked x.0 x'.0 × SameSpot x.1 x'.1

  same-landed : (w w' : Option Waiting) → Both SameWaiting w w' → (v : ℕ) → Both SameLanding (landed w v) (landed w' v)
  same-landed none none h v = tt
  same-landed (some w) (some w') h v = rw h.new (go (eqb v w.new))
    where
      go : (b : Bool) → Both SameLanding (cond b (some (w.drop, spot_at w.inactive C3)) none) (cond b (some (w'.drop, spot_at w'.inactive C3)) none)
      go true = (h.drop, at-spot _ h.inactive)
      go false = tt
  same-landed none (some w') h v = elim h [ ]
  same-landed (some w) none h v = elim h [ ]

  -- NOTES

  module _ (o o' : Notes) (T : Tied o o') (now : Clocked o.now o'.now) where
    noted_tied : (t : ℕ) (x : Sight) → Tied (noted o t x) (noted o' t x)
    noted_tied t x = record {
      loaded = λ u. tie_cond ((eqb x.line 11 || eqb x.line 20) && eqb u t) (inr now) (T.loaded u);
      stored = λ u. tie_cond (eqb x.line 23 && eqb u t) (inr now) (T.stored u);
      stored_active = λ u. same_cond (eqb x.line 23 && eqb u t) x.active (o.stored_active u) (o'.stored_active u) (T.stored_active u);
      inactive = λ u. tie_cond ((eqb x.line 27 && x.active) && x.holders u) (inr now) (T.inactive u);
      decided = λ u. tie_cond (((eqb x.line 10 || eqb x.line 15) && eqb u t) || ((eqb x.line 2 && x.undecided) && x.holders u)) (inr now) (T.decided u);
      replaced = λ u. tie_cond ((eqb x.line 30 && x.current) && x.holders u) (inr now) (T.replaced u);
      waiting = waiting_set (eqb x.line 2 && x.undecided) o.waiting o'.waiting x.cell none none T.waiting tt;
    }

    drop_tied : (t : ℕ) (x : Sight) → Tied (drop_noted o t x) (drop_noted o' t x)
    drop_tied t x = record {
      loaded = T.loaded;
      stored = T.stored;
      stored_active = T.stored_active;
      inactive = T.inactive;
      decided = T.decided;
      replaced = T.replaced;
      waiting = subst (λ (b : Bool). SameWaitings (cond (within x.figure_line 24 26 && (not (o.stored_active t) && x.undecided)) (upd o.waiting x.cell (some here)) o.waiting)
          (cond (within x.figure_line 24 26 && (not b && x.undecided)) (upd o'.waiting x.cell (some here')) o'.waiting)) (T.stored_active t)
          (waiting_set (waits o t x) o.waiting o'.waiting x.cell (some here) (some here') T.waiting (record { drop = now; new = refl; inactive = T.inactive t }));
    }
      where
        here : Waiting
        here = record { drop = o.now; new = x.new; inactive = o.inactive t }

        here' : Waiting
        here' = record { drop = o'.now; new = x.new; inactive = o'.inactive t }

    pub note_tied : {S : Type 0} (machine : S → Action → S × Event) (see : S → ℕ → Sight) (s : S) (a : Action) (e : Event) → Tied (note machine see o s a e) (note machine see o' s a e)
    note_tied machine see s (begin t op) e = tied_on (tied_on' T)
    note_tied machine see s (step t) (refused n) = tied_on (tied_on' T)
    note_tied machine see s (step t) (accepted y) = noted_tied t (see s t)
    note_tied machine see s (step t) (answered y r) = noted_tied t (see s t)
    note_tied machine see s (drop t) (refused n) = tied_on (tied_on' T)
    note_tied machine see s (drop t) (accepted y) = drop_tied t (see s t)
    note_tied machine see s (drop t) (answered y r) = tied_on (tied_on' T)

    -- where calls take effect

    same_c6 : (t : ℕ) (x : Sight) (a : Response) → SameSpot (line_c6 o t x a) (line_c6 o' t x a)
    same_c6 t x (Value v) = at-spot _ (inr now)
    same_c6 t x Yes = at-spot _ (inr now)
    same_c6 t x No = record { moment = T.replaced t; side = refl; rule = refl }

    same_effect : (t : ℕ) → Tie (effect o t) (effect o' t)
    same_effect t = subst (λ (b : Bool). Tie (effect o t) (cond b (o'.stored t) (o'.inactive t))) (T.stored_active t) (tie_cond (o.stored_active t) (T.stored t) (T.inactive t))

    pub same-ruled : (t : ℕ) (x : Sight) (a : Response) → SameSpot (ruled o t x a) (ruled o' t x a)
    same-ruled t x a = at-rule x.figure_line (rules o t x a) (rules o' t x a)
        ((refl, at-spot _ (T.loaded t), (refl, at-spot _ (T.decided t), (refl, at-spot _ (T.loaded t), (refl, at-spot _ (same_effect t), (refl, at-spot _ (T.stored t), (refl, at-spot _ (T.decided t), (refl, same_c6 t x a, tt))))))))

    same-stands : (t : ℕ) (x : Sight) → Both SameSpot (stands o t x) (stands o' t x)
    same-stands t x = outer (within x.figure_line 24 26)
      where
        inner : (c : Bool) → Both SameSpot (cond c (some (spot_at (o.inactive t) C3)) none) (cond c (some (spot_at (o'.inactive t) C3)) none)
        inner true = at-spot _ (T.inactive t)
        inner false = tt

        middle : (b : Bool) → Both SameSpot (cond b (some (spot_at (o.stored t) C4)) (cond x.as_new (some (spot_at (o.inactive t) C3)) none)) (cond b (some (spot_at (o'.stored t) C4)) (cond x.as_new (some (spot_at (o'.inactive t) C3)) none))
        middle true = at-spot _ (T.stored t)
        middle false = inner x.as_new

        outer : (a : Bool) → Both SameSpot (cond a (cond (o.stored_active t) (some (spot_at (o.stored t) C4)) (cond x.as_new (some (spot_at (o.inactive t) C3)) none)) none)
            (cond a (cond (o'.stored_active t) (some (spot_at (o'.stored t) C4)) (cond x.as_new (some (spot_at (o'.inactive t) C3)) none)) none)
        outer true = rw (← T.stored_active t) (middle (o.stored_active t))
        outer false = tt

    same-lands : (x : Sight) → Both SameLanding (lands o x) (lands o' x)
    same-lands x = go (eqb x.line 2 && x.undecided)
      where
        go : (b : Bool) → Both SameLanding (cond b (landed (o.waiting x.cell) x.loaded) none) (cond b (landed (o'.waiting x.cell) x.loaded) none)
        go true = same-landed (o.waiting x.cell) (o'.waiting x.cell) (T.waiting x.cell) x.loaded
        go false = tt

  -- ON FIRST ACTIONS the clock only goes forward

  pub same_order : (a b : ℕ) → First a → First b → (eqb (φ a) (φ b) ≡ eqb a b) × (leb (φ a) (φ b) ≡ leb a b)
  same_order a b p q = go (either a b) (le_or_lt a b)
    where
      go : (a ≡ b) ⊎ (a ≢ b) → (a ≤ b) ⊎ (b < a) → (eqb (φ a) (φ b) ≡ eqb a b) × (leb (φ a) (φ b) ≡ leb a b)
      go (inl e) o = let f = ap φ e in (eq-eqb (φ a) (φ b) f ∙ sym (eq-eqb a b e), le-leb (φ a) (φ b) (omega (arith, f)) ∙ sym (le-leb a b (omega arith)))
      go (inr e) (inl o) = let l = q a (omega arith) in (ne_eqb (φ a) (φ b) (λ z. omega (arith, z, l)) ∙ sym (ne_eqb a b e), le-leb (φ a) (φ b) (omega (arith, l)) ∙ sym (le-leb a b o))
      go (inr e) (inr o) = let l = p b o in (ne_eqb (φ a) (φ b) (λ z. omega (arith, z, l)) ∙ sym (ne_eqb a b e), lt-leb (φ a) (φ b) l ∙ sym (lt-leb a b o))

  -- every drop is the first plain action of its request
  abbrev pub FirstDrops : List WithdrawnCall → Type 0
  FirstDrops l = (w : WithdrawnCall) → w ∈ l → First w.end

  -- so it is found by its request's number
  found : (l : List WithdrawnCall) → FirstDrops l → (n : ℕ) → First n → withdrawn_at (map (withdrawn_as φ) l) (φ n) ≡ pending_at φ (withdrawn_at l n)
  found [] d n p = refl
  found (w ∷ l) d n p = rw (same_order n w.end p (d w (inl refl))).0 (go (eqb n w.end) (found l (λ v i. d v (inr i)) n p))
    where
      go : (b : Bool) → withdrawn_at (map (withdrawn_as φ) l) (φ n) ≡ pending_at φ (withdrawn_at l n) → cond b (some (call_at φ w.call)) (withdrawn_at (map (withdrawn_as φ) l) (φ n)) ≡ pending_at φ (cond b (some w.call) (withdrawn_at l n))
      go true h = refl
      go false h = h

  -- MARKS

  abbrev pub mark_at : Mark → Mark
  mark_at m = record { spot = record { moment = φ m.spot.moment; side = m.spot.side; rule = m.spot.rule }; call = begin_at φ m.call; answer = m.answer }

  pub record SameMark (m m' : Mark) : Type 0 where
    pub moment : Tie m.spot.moment m'.spot.moment
    pub side : m'.spot.side ≡ m.spot.side
    pub rule : m'.spot.rule ≡ m.spot.rule
    pub call : m'.call ≡ begin_at φ m.call
    pub answer : m'.answer ≡ m.answer

  abbrev pub SameMarks : List Mark → List Mark → Type 0
  SameMarks [] [] = Unit {0}
  SameMarks [] (q ∷ m) = ⊥
  SameMarks (p ∷ l) [] = ⊥
  SameMarks (p ∷ l) (q ∷ m) = SameMark p q × SameMarks l m

  pub both_marks : (a a' b b'' : List Mark) → SameMarks a a' → SameMarks b b'' → SameMarks (a ++ b) (a' ++ b'')
  both_marks [] [] b b'' h i = i
  both_marks (x ∷ a) (y ∷ a') b b'' h i = (h.0, both_marks a a' b b'' h.1 i)
  both_marks [] (y ∷ a') b b'' h i = elim h [ ]
  both_marks (x ∷ a) [] b b'' h i = elim h [ ]

  module _ {S : Type 0} (machine : S → Action → S × Event) (see : S → ℕ → Sight) (s : S) (o o' : Notes) (T : Tied o o') (now : Clocked o.now o'.now) (b b'' : Calls) (i : Image φ b b'') (drops : FirstDrops b.withdrawn) where
    same_mark : (p p' : Spot) → SameSpot p p' → (a : Response) (c : Option Call) → SameMarks (mark_of (noting machine see) (names machine see) c a p) (mark_of (noting machine see) (names machine see) (pending_at φ c) a p')
    same_mark p p' h a none = tt
    same_mark p p' h a (some c) = (record { moment = h.moment; side = h.side; rule = h.rule; call = refl; answer = refl }, tt)

    pending_mark : (p p' : Option Spot) → Both SameSpot p p' → (c : Option Call) → SameMarks (mark_of_pending (noting machine see) (names machine see) p c) (mark_of_pending (noting machine see) (names machine see) p' (pending_at φ c))
    pending_mark none none h c = tt
    pending_mark (some p) (some p') h c = same_mark p p' h Yes c
    pending_mark none (some p') h c = elim h [ ]
    pending_mark (some p) none h c = elim h [ ]

    landed_mark : (x x' : Option (ℕ × Spot)) → Both SameLanding x x' → SameMarks (mark_of_landed (noting machine see) (names machine see) x b.withdrawn) (mark_of_landed (noting machine see) (names machine see) x' b''.withdrawn)
    landed_mark none none h = tt
    landed_mark (some (n, p)) (some (n', p')) h = rw (i.withdrawn, h.0.1, found b.withdrawn drops n h.0.0) (same_mark p p' h.1 Yes (withdrawn_at b.withdrawn n))
    landed_mark none (some _) h = elim h [ ]
    landed_mark (some (n, p)) none h = elim h [ ]

    pub marked-same : (a : Action) (e : Event) → SameMarks (marked (noting machine see) (names machine see) (s, o) b a e) (marked (noting machine see) (names machine see) (s, o') b'' a e)
    marked-same (begin t op) e = tt
    marked-same (step t) (refused n) = tt
    marked-same (step t) (accepted x) = landed_mark (lands o (see s t)) (lands o' (see s t)) (same-lands o o' T now (see s t))
    marked-same (step t) (answered x r) = rw (i.pending t) (same_mark (ruled o t (see s t) r.answer) (ruled o' t (see s t) r.answer) (same-ruled o o' T now t (see s t) r.answer) r.answer (b.pending t))
    marked-same (drop t) (refused n) = tt
    marked-same (drop t) (accepted x) = rw (i.pending t) (pending_mark (stands o t (see s t)) (stands o' t (see s t)) (same-stands o o' T now t (see s t)) (b.pending t))
    marked-same (drop t) (answered x r) = tt

    pub pending-same : (n : ℕ) → SameMarks (pending_marks (noting machine see) (names machine see) (s, o) b n) (pending_marks (noting machine see) (names machine see) (s, o') b'' n)
    pending-same zero = tt
    pending-same (suc t) = both_marks (mark_of_pending (noting machine see) (names machine see) (stands o t (see s t)) (b.pending t)) (mark_of_pending (noting machine see) (names machine see) (stands o' t (see s t)) (b''.pending t))
        (pending_marks (noting machine see) (names machine see) (s, o) b t) (pending_marks (noting machine see) (names machine see) (s, o') b'' t) (rw (i.pending t) (pending_mark (stands o t (see s t)) (stands o' t (see s t)) (same-stands o o' T now t (see s t)) (b.pending t))) (pending-same t)
