-- Lines 4 to 8 and 30: a new block that nobody knows is taken and filled, word by word, and the cell gets it.
use mathlib.Core.Path.{◌≡◌, refl, sym, ap, ◌∙◌}
use mathlib.Core.Logic.{◌≢◌, ◌⊎◌, inl, inr}
use mathlib.Core.Bool.{Bool, true}
use mathlib.Core.List.{[], ◌∷◌}
use Prim.Native.Nat.{ℕ, ◌≤◌, ◌<◌}
use native.Mathlib.Omega.{arith}
use lib.Dec.{T}
use Rattle.figure_lines.specs.declared.Record.{Record}
use Rattle.figure_lines.specs.declared.Field.{Field}
use Rattle.figure_lines.specs.declared.Field.TheVariants.{X, Y, C, D}
use Rattle.figure_lines.specs.Lines.{Line, l4, l5, l6, l7, l8, l10, l15, l30, nowhere, line_of, at, counted}
use Rattle.history_spec.specs.History.{Attempt}
use Rattle.history_spec.specs.Basics.{upd, ◌∈◌}
use Rattle.history_spec.proofs.Basics.{either, upd_same, upd_off}
use Rattle.history_linearization.proofs.Simulation.{Phase, settled, late}
use Rattle.figure_cell.specs.Memory.{Cell, word_of, store, install, allocate}
use Rattle.figure_cell.proofs.Classes.{is, holding, racing, won, stored, taking, lies_in, holds_not}
use Rattle.figure_cell.proofs.Stores.{store_else, store-next, store-current}
use Rattle.figure_cell.proofs.Invariant.{none, View, Knowledge, Store, Split, Value, Decided, Seen, Planned, Fresh, Owner, TaskOf, line, held, Inv}
use Rattle.figure_cell.proofs.Frame.{moved, Rest, Mine, finish, was, undecided, decided-with}
use Rattle.figure_cell.proofs.Looking.{off, same_unheld, idle_mine, not_late, settled≢late, decided_settled}

-- LINE 30, where the held block is the current one

module _ (s : View) (κ : Knowledge) (t : ℕ) (i : Inv s κ) (e : line s t ≡ l30) (h : held s t ≡ s.cell.current) where
  abbrev q : Record
  q = s.task t

  abbrev L : ℕ
  L = s.cell.current

  here : Mine s κ t l30 q
  here = was s κ t l30 e i

  d-is : s.cell.d L ≡ q.expected
  d-is = rw h at (here.task.decided.expected tt)

  d-some : s.cell.d L ≢ none
  d-some z = here.task.self.ev_some tt (sym d-is ∙ z)

  pub replaced_settled : s.phase ≡ settled
  replaced_settled = decided_settled s κ i d-some

  -- the sequential cell has the expected value
  pub replaced-right : s.value ≡ q.expected
  replaced-right = sym (i.current.decision d-some) ∙ d-is

  -- whatever is held is decided
  all-decided : (u : ℕ) → T (holding (line s u)) → s.cell.d (held s u) ≢ none
  all-decided u b z = d-some (rw (undecided s κ i u b z) at z)

  made : Fresh l30 q.taken q.new s.cell.next (s.cell.v q.taken) (s.cell.d q.taken) (s.cell.y q.taken) (s.cell.c q.taken) L
  made = here.task.fresh tt

  module _ (now : (u : ℕ) → T (holding (line s u)) → held s u ≡ L → κ.replaced u q.new) where
    abbrev pub renewed : View
    renewed = record { cell = install s.cell q.taken; task = s.task; value = q.new; placed = upd s.placed t true; phase = s.phase }

    -- every holder has now seen a value other than its block's decision
    other : (u : ℕ) → T (holding (line s u)) → (held s u ≡ L) ⊎ (held s u ≢ L) → (n : ℕ) × κ.replaced u n × (n ≢ s.cell.d (held s u))
    other u b (inl z) = (q.new, now u b z, λ g. here.task.self.differ tt (sym (g ∙ ap s.cell.d z ∙ d-is)))
    other u b (inr z) = (i.tasks u).seen.replaced b z

    rest_renewed : Rest renewed κ t
    rest_renewed = record {
      rivals = λ u w ne ne'. i.rivals u w;
      apart = λ u w ne ne'. i.apart u w;
      unheld = λ u w ne ne'. i.unheld u w;
      current = record {
        low = made.below;
        P-some = here.task.self.nv_some tt;
        v-some = λ z. here.task.self.nv_some tt (sym (made.v-is tt) ∙ z);
        decided-inactive = λ z. absurd (z (made.d-is tt));
        decision = λ z. absurd (z (made.d-is tt));
        phase_is = rw replaced_settled (λ z. (made.c-is tt, made.v-is tt));
      };
      tasks = λ u ne. let k = i.tasks u in rw (upd_off s.placed t true u ne) record {
        self = k.self;
        split = k.split;
        value = k.value;
        early = k.early;
        store = k.store;
        decided = let r = k.decided in decided-with r (λ z. z) (λ b. refl) (λ b z. all-decided u b) (λ b g z. absurd (all-decided u (lies_in stored holding tt (line s u) b) z)) r.late_phase;
        seen = let r = k.seen in record { active-value = r.active-value; refusing = r.refusing; decision = r.decision; replaced = λ b z. other u b (either (held s u) L) };
        planned = record { plan_some = k.planned.plan_some; plan = λ b z. absurd (all-decided u (lies_in (is 2) holding tt (line s u) b) z) };
        fresh = λ b. let f = k.fresh b in record { below = f.below; other = i.apart u t ne b (rw e tt); v-is = f.v-is; d-is = f.d-is; y-is = f.y-is; c-is = f.c-is };
        owner = λ z. absurd (settled≢late u (sym replaced_settled ∙ z));
      };
    }

    pub kept_renewed : (q' : Record) → line_of q' ≡ nowhere → Inv (moved renewed t q') κ
    kept_renewed q' e' = finish renewed κ t nowhere q' e' rest_renewed (idle_mine renewed κ t q' (λ z. settled≢late t (sym replaced_settled ∙ z)))

-- LINES 4 TO 8

-- what is said of the words of the block that a task holds; of one that holds nothing, nothing
module _ (u : ℕ) (q : Record) (κ : Knowledge) (next : ℕ) (placed : Bool) (L P : ℕ) (phase : Phase) where
  abbrev Words : Line → (x y c v d vL : ℕ) → Type 0
  Words ℓ x y c v d vL = Split u ℓ x y × Value ℓ q.new q.held q.loaded next v × Decided u ℓ q placed d c L P phase ×
      Seen ℓ q.held q.loaded (κ.loaded u) (κ.decided u) (κ.replaced u) d c L × Planned ℓ q.loaded d P vL × Store ℓ (κ.stored_active u) placed d c

  holds_nothing : (ℓ : Line) → ℓ ∈ (nowhere ∷ l10 ∷ l15 ∷ []) → (x y c v d vL : ℕ) → Words ℓ x y c v d vL
  holds_nothing ℓ (inl e) x y c v d vL = rw e (search off, search off, search off, search off, search off, search off)
  holds_nothing ℓ (inr (inl e)) x y c v d vL = rw e (search off, search off, search off, search off, search off, search off)
  holds_nothing ℓ (inr (inr (inl e))) x y c v d vL = rw e (search off, search off, search off, search off, search off, search off)
  holds_nothing ℓ (inr (inr (inr x7))) x y c v d vL = elim x7 [ ]

-- block b, which nobody but the stepper knows, changes, and blocks may have come: everybody else has what it had
module _ (s : View) (κ : Knowledge) (t : ℕ) (i : Inv s κ) (m' : Cell) (b : ℕ) (same : (a : ℕ) → a ≢ b → (f : Field) → word_of m' a f ≡ word_of s.cell a f)
    (current : m'.current ≡ s.cell.current) (more : s.cell.next ≤ m'.next)
    (not_held : (u : ℕ) → T (holding (line s u)) → held s u ≢ b) (not_taken : (u : ℕ) → u ≢ t → T (taking (line s u)) → (s.task u).taken ≢ b) (not_current : s.cell.current ≢ b) where
  abbrev m : Cell
  m = s.cell

  abbrev pub refilled : View
  refilled = record { cell = m'; task = s.task; value = s.value; placed = s.placed; phase = s.phase }

  same-L : (f : Field) → word_of m' m.current f ≡ word_of m m.current f
  same-L = same m.current not_current

  abbrev Says : ℕ → Line → Record → Type 0
  Says u ℓ q = Words u q κ m'.next (s.placed u) m.current s.value s.phase ℓ (m'.x q.held) (m'.y q.held) (m'.c q.held) (m'.v q.held) (m'.d q.held) (m'.v m.current)

  pub words : (u : ℕ) (ℓ : Line) (q : Record) → (T (holding ℓ) → q.held ≢ b) → TaskOf s κ u ℓ q → Says u ℓ q
  words u ℓ q far k = go (either q.held b)
    where
      go : (q.held ≡ b) ⊎ (q.held ≢ b) → Says u ℓ q
      go (inl z) = holds_nothing u q κ m'.next (s.placed u) m.current s.value s.phase ℓ (holds_not ℓ (λ x. far x z)) _ _ _ _ _ _
      go (inr z) = let o = same q.held z in rw (o X, o Y, o C, o Field.V, o D, same-L Field.V)
          (let v = k.value in (k.split, record { there = λ x. let g : q.held < m.next = v.there x in omega (arith, more); some = v.some; still_loaded = v.still_loaded; still-stored = v.still-stored }, k.decided, k.seen, k.planned, k.store))

  older : (ℓ : Line) (a nv : ℕ) → a ≢ b → Fresh ℓ a nv m.next (m.v a) (m.d a) (m.y a) (m.c a) m.current → Fresh ℓ a nv m'.next (m'.v a) (m'.d a) (m'.y a) (m'.c a) m.current
  older ℓ a nv far f = let o = same a far in rw (o Field.V, o D, o Y, o C) record { below = omega (arith, f.below, more); other = f.other; v-is = f.v-is; d-is = f.d-is; y-is = f.y-is; c-is = f.c-is }

  pub kept_owner : (u : ℕ) (ℓ : Line) (q : Record) → TaskOf s κ u ℓ q → s.phase ≡ late u → Owner ℓ q (s.placed u) m.current s.value (m'.v m.current)
  kept_owner u ℓ q k z = rw (same-L Field.V) (k.owner z)

  pub rest_refilled : Rest refilled κ t
  rest_refilled = rw current record {
    apart = λ u w ne ne'. i.apart u w;
    unheld = λ u w ne ne'. i.unheld u w;
    current = let k = i.current in rw (same-L C, same-L Field.V, same-L D) record
        { low = omega (arith, k.low, more); P-some = k.P-some; v-some = k.v-some; decided-inactive = k.decided-inactive; decision = k.decision; phase_is = k.phase_is };
    tasks = λ u ne. let k = i.tasks u in let g = words u (line s u) (s.task u) (not_held u) k in record
        { self = k.self; split = g.0; value = g.1; decided = g.2; seen = g.3; planned = g.4; store = g.5; early = k.early; fresh = λ x. older (line s u) (s.task u).taken (s.task u).new (not_taken u ne x) (k.fresh x); owner = kept_owner u (line s u) (s.task u) k };
    rivals = λ u w ne ne' z g. let k = i.rivals u w z g in record
        { one_won = k.one_won; no_race = λ x y. rw (same (held s w) (not_held w (lies_in racing holding tt (line s w) y)) X) (k.no_race x y) };
  }

-- LINE 4 takes it

module _ (s : View) (κ : Knowledge) (t : ℕ) (i : Inv s κ) (e : line s t ≡ l4) (a : Attempt) (n w : ℕ) where
  abbrev pub p : Record
  p = s.task t

  abbrev pub c₀ : Cell
  c₀ = s.cell

  abbrev pub taken_now : Record
  taken_now = at (counted p a) n w p.held c₀.next p.loaded

  pub old : (b : ℕ) → b ≢ c₀.next → (f : Field) → word_of (allocate c₀) b f ≡ word_of c₀ b f
  old b h X = upd_off c₀.x c₀.next _ b h
  old b h Y = refl
  old b h C = refl
  old b h Field.V = refl
  old b h D = refl

  pub held_before : (u : ℕ) → T (holding (line s u)) → held s u ≢ c₀.next
  held_before u b z = let g : held s u < c₀.next = (i.tasks u).value.there b in omega arith

  pub taken_before_lem : (u : ℕ) → u ≢ t → T (taking (line s u)) → (s.task u).taken ≢ c₀.next
  taken_before_lem u ne b z = let g = ((i.tasks u).fresh b).below in omega arith

  pub low : c₀.current ≢ c₀.next
  low z = omega (arith, i.current.low)

  mine_taken : Mine (refilled s κ t i (allocate c₀) c₀.next old refl (omega arith) held_before taken_before_lem low) κ t l5 taken_now
  mine_taken =
      let k = was s κ t l4 e i in
      let o : s.phase ≢ late t = not_late s κ t l4 p (λ x. x) k.task in
      let g = words s κ t i (allocate c₀) c₀.next old refl (omega arith) held_before taken_before_lem low t l4 p (λ b. held_before t (rw e b)) k.task in
      let d = g.2 in
      let f : Fresh l5 c₀.next p.new (allocate c₀).next (c₀.v c₀.next) (c₀.d c₀.next) (c₀.y c₀.next) (c₀.c c₀.next) c₀.current
      = record { below = omega arith; other = λ z. low (sym z); v-is = λ x. absurd x; d-is = λ x. absurd x; y-is = λ x. absurd x; c-is = λ x. absurd x } in
      record {
        task = record { self = search off; split = search off; value = let v = g.1 in search off; decided = search off; seen = let v = g.3 in search off; planned = search off; store = search off; early = search off; fresh = λ b. f; owner = λ z. absurd (o z) };
        wins = λ u ne z. record { one_won = λ b. absurd b; no_race = λ b. absurd b };
        loses = λ u ne z. record { one_won = λ b c. c; no_race = λ b c. absurd c };
        apart = λ u ne b c z. taken_before_lem u ne c (sym z);
        unheld = record { mine = λ u ne b c z. held_before u c (sym z); theirs = λ u ne b c. k.unheld.theirs u ne b tt; own = λ b c z. held_before t (rw e tt) (sym z) };
      }

  pub kept_taken : line_of taken_now ≡ l5 → Inv (moved (refilled s κ t i (allocate c₀) c₀.next old refl (omega arith) held_before taken_before_lem low) t taken_now) κ
  kept_taken e' = finish (refilled s κ t i (allocate c₀) c₀.next old refl (omega arith) held_before taken_before_lem low) κ t l5 taken_now e' (rest_refilled s κ t i (allocate c₀) c₀.next old refl (omega arith) held_before taken_before_lem low) mine_taken

-- LINES 5 TO 8 store one word more

module _ (s : View) (κ : Knowledge) (t : ℕ) (i : Inv s κ) (took : T (taking (line s t))) (f : Field) (v : ℕ) where
  abbrev pub r : Record
  r = s.task t

  abbrev pub c₁ : Cell
  c₁ = store s.cell r.taken f v

  pub else_same : (a : ℕ) → a ≢ r.taken → (g : Field) → word_of c₁ a g ≡ word_of s.cell a g
  else_same a h g = store_else s.cell r.taken v a f g h

  pub no_fewer : s.cell.next ≤ c₁.next
  no_fewer = rw (store-next s.cell r.taken v f) (omega arith)

  pub nobody-holds : (u : ℕ) → T (holding (line s u)) → held s u ≢ r.taken
  nobody-holds u b z = i.unheld t u took b (sym z)

  pub nobody_took : (u : ℕ) → u ≢ t → T (taking (line s u)) → (s.task u).taken ≢ r.taken
  nobody_took u ne b = i.apart u t ne b took

  pub not_named : s.cell.current ≢ r.taken
  not_named z = ((i.tasks t).fresh took).other (sym z)

  abbrev pub filled : View
  filled = refilled s κ t i c₁ r.taken else_same (store-current s.cell r.taken v f) no_fewer nobody-holds nobody_took not_named

  rest-filled : Rest filled κ t
  rest-filled = rest_refilled s κ t i c₁ r.taken else_same (store-current s.cell r.taken v f) no_fewer nobody-holds nobody_took not_named

  says : (ℓ : Line) → line s t ≡ ℓ → TaskOf s κ t ℓ r → Says s κ t i c₁ r.taken else_same (store-current s.cell r.taken v f) no_fewer nobody-holds nobody_took not_named t ℓ r
  says ℓ e k = words s κ t i c₁ r.taken else_same (store-current s.cell r.taken v f) no_fewer nobody-holds nobody_took not_named t ℓ r (λ b. nobody-holds t (rw e b)) k

  -- the stepper's other facts, from line ℓ to line ℓ'
  stepper : (ℓ ℓ' : Line) (q : Record) → q.held ≡ r.held → q.taken ≡ r.taken → line s t ≡ ℓ → T (taking ℓ) → T (holding ℓ) → (T (won ℓ') → ⊥) → (T (racing ℓ') → ⊥) → TaskOf filled κ t ℓ' q → Mine filled κ t ℓ' q
  stepper ℓ ℓ' q h b e k g no-win no_race x = let o = was s κ t ℓ e i in record {
    task = x;
    wins = λ u ne z. record { one_won = λ y. absurd (no-win y); no_race = λ y. absurd (no-win y) };
    loses = λ u ne z. record { one_won = λ y c. no-win c; no_race = λ y c. absurd (no_race c) };
    apart = λ u ne y. rw b (o.apart u ne k);
    unheld = let z = same_unheld s κ t ℓ ℓ' r (λ y. k) (λ y. g) o in rw (h, b) record { mine = z.mine; theirs = z.theirs; own = z.own };
  }

module _ (s : View) (κ : Knowledge) (t : ℕ) (i : Inv s κ) (a : Attempt) (n w : ℕ) where
  abbrev pub q₀ : Record
  q₀ = s.task t

  abbrev pub on_now : Record
  on_now = at (counted q₀ a) n w q₀.held q₀.taken q₀.loaded

  task5 : (e : line s t ≡ l5) → TaskOf (filled s κ t i (rw e tt) Y 0) κ t l6 on_now
  task5 e =
      let k = (was s κ t l5 e i).task in
      let o : s.phase ≢ late t = not_late s κ t l5 q₀ (λ x. x) k in
      let g = says s κ t i (rw e tt) Y 0 l5 e k in
      let d = g.2 in
      let f = k.fresh tt in
      record {
        self = search off;
        split = search off;
        value = let v = g.1 in search off;
        decided = search off;
        seen = let v = g.3 in search off;
        planned = search off;
        store = search off;
        early = search off;
        owner = λ z. absurd (o z);
        fresh = λ b. record { below = f.below; other = f.other; y-is = λ x. upd_same s.cell.y q₀.taken 0; c-is = λ x. absurd x; d-is = λ x. absurd x; v-is = λ x. absurd x };
      }

  pub kept5 : (e : line s t ≡ l5) → line_of on_now ≡ l6 → Inv (moved (filled s κ t i (rw e tt) Y 0) t on_now) κ
  kept5 e e' = finish (filled s κ t i (rw e tt) Y 0) κ t l6 on_now e' (rest-filled s κ t i (rw e tt) Y 0) (stepper s κ t i (rw e tt) Y 0 l5 l6 on_now refl refl e tt tt (λ x. x) (λ x. x) (task5 e))

  task6 : (e : line s t ≡ l6) → TaskOf (filled s κ t i (rw e tt) C 0) κ t l7 on_now
  task6 e =
      let k = (was s κ t l6 e i).task in
      let o : s.phase ≢ late t = not_late s κ t l6 q₀ (λ x. x) k in
      let g = says s κ t i (rw e tt) C 0 l6 e k in
      let d = g.2 in
      let f = k.fresh tt in
      record {
        self = search off;
        split = search off;
        value = let v = g.1 in search off;
        decided = search off;
        seen = let v = g.3 in search off;
        planned = search off;
        store = search off;
        early = search off;
        owner = λ z. absurd (o z);
        fresh = λ b. record { below = f.below; other = f.other; y-is = λ x. f.y-is tt; c-is = λ x. upd_same s.cell.c q₀.taken 0; d-is = λ x. absurd x; v-is = λ x. absurd x };
      }

  pub kept6 : (e : line s t ≡ l6) → line_of on_now ≡ l7 → Inv (moved (filled s κ t i (rw e tt) C 0) t on_now) κ
  kept6 e e' = finish (filled s κ t i (rw e tt) C 0) κ t l7 on_now e' (rest-filled s κ t i (rw e tt) C 0) (stepper s κ t i (rw e tt) C 0 l6 l7 on_now refl refl e tt tt (λ x. x) (λ x. x) (task6 e))

  task7 : (e : line s t ≡ l7) → TaskOf (filled s κ t i (rw e tt) D none) κ t l8 on_now
  task7 e =
      let k = (was s κ t l7 e i).task in
      let o : s.phase ≢ late t = not_late s κ t l7 q₀ (λ x. x) k in
      let g = says s κ t i (rw e tt) D none l7 e k in
      let d = g.2 in
      let f = k.fresh tt in
      record {
        self = search off;
        split = search off;
        value = let v = g.1 in search off;
        decided = search off;
        seen = let v = g.3 in search off;
        planned = search off;
        store = search off;
        early = search off;
        owner = λ z. absurd (o z);
        fresh = λ b. record { below = f.below; other = f.other; y-is = λ x. f.y-is tt; c-is = λ x. f.c-is tt; d-is = λ x. upd_same s.cell.d q₀.taken none; v-is = λ x. absurd x };
      }

  pub kept7 : (e : line s t ≡ l7) → line_of on_now ≡ l8 → Inv (moved (filled s κ t i (rw e tt) D none) t on_now) κ
  kept7 e e' = finish (filled s κ t i (rw e tt) D none) κ t l8 on_now e' (rest-filled s κ t i (rw e tt) D none) (stepper s κ t i (rw e tt) D none l7 l8 on_now refl refl e tt tt (λ x. x) (λ x. x) (task7 e))

  task8 : (e : line s t ≡ l8) → TaskOf (filled s κ t i (rw e tt) Field.V q₀.new) κ t l30 on_now
  task8 e =
      let k = (was s κ t l8 e i).task in
      let o : s.phase ≢ late t = not_late s κ t l8 q₀ (λ x. x) k in
      let g = says s κ t i (rw e tt) Field.V q₀.new l8 e k in
      let d = g.2 in
      let f = k.fresh tt in
      record {
        self = search off;
        split = search off;
        value = let v = g.1 in search off;
        decided = search off;
        seen = let v = g.3 in search off;
        planned = search off;
        store = search off;
        early = search off;
        owner = λ z. absurd (o z);
        fresh = λ b. record { below = f.below; other = f.other; y-is = λ x. f.y-is tt; c-is = λ x. f.c-is tt; d-is = λ x. f.d-is tt; v-is = λ x. upd_same s.cell.v q₀.taken q₀.new };
      }

  pub kept8 : (e : line s t ≡ l8) → line_of on_now ≡ l30 → Inv (moved (filled s κ t i (rw e tt) Field.V q₀.new) t on_now) κ
  kept8 e e' = finish (filled s κ t i (rw e tt) Field.V q₀.new) κ t l30 on_now e' (rest-filled s κ t i (rw e tt) Field.V q₀.new) (stepper s κ t i (rw e tt) Field.V q₀.new l8 l30 on_now refl refl e tt tt (λ x. x) (λ x. x) (task8 e))
