-- Every line of a busy task, on one cell: it keeps the invariant, says what it does to the ghost, and why it may answer.
use mathlib.Core.Path.{◌≡◌, refl, sym, ap, subst, ◌∙◌}
use mathlib.Core.Logic.{◌≢◌, ◌⊎◌, inl, inr}
use mathlib.Core.Bool.{Bool, true, not, ◌||◌}
use Prim.Native.Nat.{ℕ}
use native.Mathlib.Omega.{arith}
use lib.Dec.{eqb, T, T_not, not_T}
use borrow.Author.Tests.{eqb-true, eqb-false, eq-eqb, ne_eqb}
use Rattle.figure_lines.specs.declared.Record.{Record}
use Rattle.figure_lines.specs.declared.Field.{Field}
use Rattle.figure_lines.specs.declared.Field.TheVariants.{C, D}
use Rattle.figure_lines.specs.Answers.{Next, Go, Done}
use Rattle.figure_lines.specs.Record.{idle}
use Rattle.figure_lines.specs.Lines.{Wanted, for13, for25, for28, Line, l1, l2, l3, l4, l5, l6, l7, l8, l10, l11, l12, l15, l16, l17, l18, l19, l20, l21, l22, l23, l24, l26, l27, l30, nowhere, line_at, line_of, access_at, at, attempt, counted, next_at, read_answer}
use Rattle.history_spec.specs.Basics.{upd}
use Rattle.history_spec.specs.History.{Response, Yes, No, Attempt, success, failure, untried}
use Rattle.history_spec.proofs.Basics.{either, upd-at, upd_off}
use Rattle.history_linearization.proofs.Simulation.{Phase, settled, frozen, late}
use Rattle.figure_cell.specs.Memory.{Cell, store, install, Accessed, access_cell}
use Rattle.figure_cell.proofs.Classes.{is, figure_line, busy, holding, swapping, stored, lies_in}
use Rattle.history_spec.proofs.ListTests.{by_test}
use Rattle.figure_cell.proofs.LineLaws.{wanted_is}
use Rattle.figure_cell.proofs.Invariant.{none, View, Knowledge, PhaseIs, line, held, Inv}
use Rattle.figure_cell.proofs.Frame.{Mine, quiet, was, Grows, grow, undecided, active-current, active-undecided}
use Rattle.figure_cell.proofs.Looking.{idle_mine, not_late, T_of, settled≢late, active_settled, value_of, decided_not_late, from1, from2, from3_25, from3_28, from10, from11, from12, from15, from17_18, from17_27, from19_20, from19_27, from20, from21_1, from21_22, from21_23, from24_1, from24_26}
use Rattle.figure_cell.proofs.Splitter.{keeps16, keeps18, keeps_leaving, keeps27, not_zero}
use Rattle.figure_cell.proofs.Storing as Storing
use Rattle.figure_cell.proofs.Deciding as Deciding
use Rattle.figure_cell.proofs.Replacing as Replacing

-- in the deciding part the wanted line stays
same_wanted : (q : Record) (x : Wanted) → (line_of q ≡ l1 x → line_at 2 q.wanted ≡ l2 x) × (line_of q ≡ l2 x → line_at 3 q.wanted ≡ l3 x)
same_wanted q for13 = ((λ e. ap (line_at 2) (wanted_is q e tt)), λ e. ap (line_at 3) (wanted_is q e tt))
same_wanted q for25 = ((λ e. ap (line_at 2) (wanted_is q e tt)), λ e. ap (line_at 3) (wanted_is q e tt))
same_wanted q for28 = ((λ e. ap (line_at 2) (wanted_is q e tt)), λ e. ap (line_at 3) (wanted_is q e tt))

-- WHAT A STEP DOES TO THE GHOST, of one cell (the moves of `Simulation`)

pub data Change : Type 0 where
  still act freeze delay settle : Change
  land : (u : ℕ) → Change

abbrev pub value_after : View → ℕ → Change → ℕ
value_after s t still = s.value
value_after s t act = (s.task t).new
value_after s t freeze = s.value
value_after s t delay = s.value
value_after s t settle = s.value
value_after s t (land u) = (s.task u).new

abbrev pub placed_after : View → ℕ → Change → ℕ → Bool
placed_after s t still = s.placed
placed_after s t act = upd s.placed t true
placed_after s t freeze = s.placed
placed_after s t delay = s.placed
placed_after s t settle = s.placed
placed_after s t (land u) = upd s.placed u true

abbrev pub phase_after : View → ℕ → Change → Phase
phase_after s t still = s.phase
phase_after s t act = s.phase
phase_after s t freeze = frozen
phase_after s t delay = late t
phase_after s t settle = settled
phase_after s t (land u) = settled

abbrev pub view_after : View → ℕ → Cell → Record → Change → View
view_after s t m q x = record { cell = m; task = upd s.task t q; value = value_after s t x; placed = placed_after s t x; phase = phase_after s t x }

-- when it may
abbrev pub Can : View → Knowledge → ℕ → Change → Type 0
Can s κ t still = Unit {0}
Can s κ t act = T (not (s.placed t)) × (s.phase ≡ settled) × (s.value ≡ (s.task t).expected) × T (swapping (line s t)) × ((T (is 23 (line s t)) × (s.cell.c (held s t) ≡ 0)) ⊎ T (is 30 (line s t)))
Can s κ t freeze = (s.phase ≡ settled) × T (is 27 (line s t)) × (s.cell.c (held s t) ≡ 0) × (held s t ≡ s.cell.current)
Can s κ t delay = T (not (s.placed t)) × (s.phase ≡ frozen) × κ.early t × T (is 23 (line s t))
Can s κ t settle = T (is 2 (line s t)) × (s.cell.d (held s t) ≡ none) × ((s.task t).loaded ≡ s.value)
Can s κ t (land u) = (s.phase ≡ late u) × (s.value ≡ (s.task u).expected) × T (swapping (line s u)) × T (is 2 (line s t)) × (s.cell.d (held s t) ≡ none) × ((s.task t).loaded ≡ (s.task u).new)

-- what is known after t's step, if the cell has the phase p and the value v then: what was, and in a settled cell its value by those for
-- whom this step is noted
pub record Future (s : View) (κ : Knowledge) (κ⁺ : Phase → ℕ → Knowledge) (t : ℕ) : Type 0 where
  pub grows : (p : Phase) (v : ℕ) (u : ℕ) → Grows s κ (κ⁺ p v) u (line s u)
  pub at-hold : T (is 10 (line s t) || is 15 (line s t)) → (p : Phase) (v : ℕ) → p ≡ settled → (κ⁺ p v).decided t v
  pub at_load : T (is 11 (line s t) || is 20 (line s t)) → (p : Phase) (v : ℕ) → p ≡ settled → (κ⁺ p v).loaded t v
  pub at-decide : T (is 2 (line s t)) → s.cell.d (held s t) ≡ none → (u : ℕ) → T (holding (line s u)) → held s u ≡ held s t → (p : Phase) (v : ℕ) → p ≡ settled → (κ⁺ p v).decided u v
  pub at-replace : T (is 30 (line s t)) → held s t ≡ s.cell.current → (u : ℕ) → T (holding (line s u)) → held s u ≡ s.cell.current → (p : Phase) (v : ℕ) → p ≡ settled → (κ⁺ p v).replaced u v
  pub at_store : T (is 23 (line s t)) → (p : Phase) (v : ℕ) → (κ⁺ p v).stored_active t ≡ eqb (s.cell.c (held s t)) 0

-- the block that is current changes in a settled cell only
pub record Step (s : View) (κ : Knowledge) (κ⁺ : Phase → ℕ → Knowledge) (t : ℕ) (m : Cell) (q : Record) : Type 0 where
  pub change : Change
  pub can : Can s κ t change
  pub kept : Inv (view_after s t m q change) (κ⁺ (phase_after s t change) (value_after s t change))
  pub current : phase_after s t change ≢ settled → m.current ≡ s.cell.current

-- the value v that a call has seen which answers a, by the number of the rule that names the moment
pub data Saw (κ : Knowledge) (t v : ℕ) (a : Response) : ℕ → Type 0 where
  loaded12 : κ.loaded t v → Saw κ t v a 12
  decided13 : κ.decided t v → Saw κ t v a 13
  loaded22 : κ.loaded t v → Saw κ t v a 22
  decided28 : κ.decided t v → Saw κ t v a 28
  replaced30 : κ.replaced t v → a ≡ No → Saw κ t v a 30

-- why a call may answer a: its swap takes effect now; it did before; it is a read of a value seen; it is a swap that saw another value
-- than it expects
pub data Reason (s : View) (κ : Knowledge) (t : ℕ) (a : Response) : Change → Type 0 where
  acts : a ≡ Yes → figure_line (line s t) ≡ 30 → Reason s κ t a act
  acted : T (s.placed t) → T (swapping (line s t)) → a ≡ Yes → (figure_line (line s t) ≡ 25) ⊎ ((figure_line (line s t) ≡ 26) × T (κ.stored_active t)) → Reason s κ t a still
  reads : (v : ℕ) → Saw κ t v a (figure_line (line s t)) → v ≢ none → T (not (swapping (line s t))) → a ≡ read_answer (s.task t) v → T (not (s.placed t)) → s.phase ≢ late t → Reason s κ t a still
  declines : (v : ℕ) → Saw κ t v a (figure_line (line s t)) → v ≢ (s.task t).expected → T (swapping (line s t)) → a ≡ No → T (not (s.placed t)) → s.phase ≢ late t → Reason s κ t a still

abbrev pub Out : View → Knowledge → (Phase → ℕ → Knowledge) → ℕ → Cell → Next → Type 0
Out s κ κ⁺ t m (Go q) = Step s κ κ⁺ t m q
Out s κ κ⁺ t m (Done f) = (x : Step s κ κ⁺ t m idle) × Reason s κ t f.answer x.change

module _ (s : View) (κ : Knowledge) (κ⁺ : Phase → ℕ → Knowledge) (t : ℕ) (i : Inv s κ) (eager : s.phase ≡ settled → κ.early t) (F : Future s κ κ⁺ t) where
  abbrev q : Record
  q = s.task t

  abbrev m : Cell
  m = s.cell

  more : (p : Phase) (v : ℕ) → Inv s (κ⁺ p v)
  more p v = grow s κ (κ⁺ p v) (F.grows p v) i

  abbrev κ₁ : Knowledge
  κ₁ = κ⁺ s.phase s.value

  i⁺ : Inv s κ₁
  i⁺ = more s.phase s.value

  at-line : (ℓ : Line) → line s t ≡ ℓ → Mine s κ₁ t ℓ q
  at-line ℓ e = was s κ₁ t ℓ e i⁺

  known : (ℓ : Line) → line s t ≡ ℓ → Mine s κ t ℓ q
  known ℓ e = was s κ t ℓ e i

  -- a line that only looks
  abbrev looks : (ℓ : Line) (r : Record) → line_of r ≡ ℓ → Mine s κ₁ t ℓ r → Step s κ κ⁺ t m r
  looks ℓ r e o = record { change = still; can = tt; kept = quiet s κ₁ t ℓ r e i⁺ o; current = λ n. refl }

  -- the call ends where its late store is not awaited
  abbrev leaves : s.phase ≢ late t → Step s κ κ⁺ t m idle
  leaves n = looks nowhere idle refl (idle_mine s κ₁ t idle n)

  -- who has not stored is not awaited, and its swap stands nowhere
  unawaited : (ℓ : Line) → line s t ≡ ℓ → (T (stored ℓ) → ⊥) → s.phase ≢ late t
  unawaited ℓ e n = not_late s κ t ℓ q n (known ℓ e).task

  unplaced : (ℓ : Line) → line s t ≡ ℓ → T (busy ℓ) → (T (stored ℓ) → ⊥) → T (not (s.placed t))
  unplaced ℓ e b n = not_T (s.placed t) (λ z. n ((known ℓ e).task.self.placed-stored b z))

  reads_it : (ℓ : Line) → line s t ≡ ℓ → T (busy ℓ) → T (not (swapping ℓ)) → (T (stored ℓ) → ⊥) → (v : ℕ) → Saw κ t v (read_answer q v) (figure_line ℓ) → v ≢ none → (x : Step s κ κ⁺ t m idle) × Reason s κ t (read_answer q v) x.change
  reads_it ℓ e b r n v z g = (leaves (unawaited ℓ e n), reads v (rw e z) g (rw e r) refl (unplaced ℓ e b n) (unawaited ℓ e n))

  declines_it : (ℓ : Line) → line s t ≡ ℓ → T (busy ℓ) → T (swapping ℓ) → (T (stored ℓ) → ⊥) → (v : ℕ) → Saw κ t v No (figure_line ℓ) → v ≢ q.expected → Reason s κ t No still
  declines_it ℓ e b w n v z g = declines v (rw e z) g (rw e w) refl (unplaced ℓ e b n) (unawaited ℓ e n)

  -- LINE 2

  decides : (x : Wanted) → line s t ≡ l2 x → m.d q.held ≡ none → Step s κ κ⁺ t (store m q.held D q.loaded) (at (counted q success) 3 q.wanted q.held q.taken q.loaded)
  decides x e d = go (either q.loaded s.value)
    where
      a : Attempt
      a = success

      r : Record
      r = at (counted q success) 3 q.wanted q.held q.taken q.loaded

      seen : (v : ℕ) → v ≡ q.loaded → (u : ℕ) → T (holding (line s u)) → held s u ≡ q.held → (κ⁺ settled v).decided u q.loaded
      seen v z u b h = subst (λ n. (κ⁺ settled v).decided u n) z (F.at-decide (rw e tt) d u b h settled v refl)

      go : (q.loaded ≡ s.value) ⊎ (q.loaded ≢ s.value) → Step s κ κ⁺ t (store m q.held D q.loaded) r
      go (inl p) = record {
        change = settle;
        can = (rw e tt, d, p);
        current = λ n. refl;
        kept = subst (λ v. Inv (record { cell = store m q.held D q.loaded; task = upd s.task t r; value = v; placed = s.placed; phase = settled }) (κ⁺ settled s.value)) p
            (Deciding.kept-done s (κ⁺ settled s.value) t x (more settled s.value) e d a 3 q.wanted s.placed
            (Deciding.same s (κ⁺ settled s.value) t x (more settled s.value) e d a 3 q.wanted p) (seen s.value (sym p)) ((same_wanted q x).1 e));
      }
      go (inr p) =
          let o = Deciding.who s κ t x i e d a 3 q.wanted p in
          let k = Deciding.owner s κ t x i e d a 3 q.wanted p in
          let new = Deciding.its-new s κ t x i e d a 3 q.wanted p in
          let κ' = κ⁺ settled (s.task o.0).new in
          record {
            change = land o.0;
            current = λ n. refl;
            can = (o.1, sym k.expected_is, lies_in stored swapping tt (line s o.0) k.has_stored, rw e tt, d, sym new);
            kept = subst (λ v. Inv (record { cell = store m q.held D q.loaded; task = upd s.task t r; value = v; placed = upd s.placed o.0 true; phase = settled }) κ') (sym new)
                (Deciding.kept-done s κ' t x (more settled (s.task o.0).new) e d a 3 q.wanted (upd s.placed o.0 true)
                (Deciding.land s κ t x i e d a 3 q.wanted p) (seen (s.task o.0).new new) ((same_wanted q x).1 e));
          }

  -- LINE 23

  -- the current block is inactive and undecided, and nobody stored late: frozen
  frozen_of : (p : Phase) → PhaseIs p (m.c m.current) (m.v m.current) (m.d m.current) s.value → s.phase ≡ p → m.c m.current ≢ 0 → m.d m.current ≡ none → ((u : ℕ) → s.phase ≢ late u)
      → (s.phase ≡ frozen) × (m.v m.current ≡ s.value)
  frozen_of settled z e c d n = absurd (c (z d).0)
  frozen_of frozen z e c d n = (e, z.2)
  frozen_of (late u) z e c d n = absurd (n u e)

  stores : line s t ≡ l23 → Step s κ κ⁺ t (store m q.held Field.V q.new) (at (counted q untried) 24 q.wanted q.held q.taken q.loaded)
  stores e = go (either (m.c q.held) 0) (either (m.d q.held) none)
    where
      a : Attempt
      a = untried

      r : Record
      r = at (counted q untried) 24 q.wanted q.held q.taken q.loaded

      not_active : (p : Phase) (v : ℕ) → m.c q.held ≢ 0 → T (not ((κ⁺ p v).stored_active t))
      not_active p v c = rw (F.at_store (rw e tt) p v, ne_eqb (m.c q.held) 0 c) tt

      go : (m.c q.held ≡ 0) ⊎ (m.c q.held ≢ 0) → (m.d q.held ≡ none) ⊎ (m.d q.held ≢ none) → Step s κ κ⁺ t (store m q.held Field.V q.new) r
      go (inl c) d = record {
        change = act;
        current = λ n. refl;
        can = (Storing.unplaced s κ t i e a 24 q.wanted, Storing.live_settled s κ t i e a 24 q.wanted c, Storing.live_right s κ t i e a 24 q.wanted c, rw e tt, inl (rw e tt, c));
        kept = Storing.kept_live s (κ⁺ s.phase q.new) t (more s.phase q.new) e a 24 q.wanted c (rw (F.at_store (rw e tt) s.phase q.new, eq-eqb (m.c q.held) 0 c) tt) refl;
      }
      go (inr c) (inl d) =
          let h = undecided s κ i t (rw e tt) d in
          let f = frozen_of s.phase i.current.phase_is refl (rw h at c) (rw h at d) (Storing.none_awaited s κ t i e a 24 q.wanted h) in
          let x = (known l23 e).task in
          record {
            change = delay;
            current = λ n. refl;
            can = (Storing.unplaced s κ t i e a 24 q.wanted, f.0, x.early tt, rw e tt);
            kept = Storing.kept_delayed s (κ⁺ (late t) s.value) t (more (late t) s.value) e a 24 q.wanted c (late t)
                (λ u ne. ((λ z. absurd (Storing.none_awaited s κ t i e a 24 q.wanted h u z)), λ z. absurd (ne (late_is t u z))))
                (rw h at c, rw h at d) (λ z. refl) (λ z. (h, sym (x.self.same-loaded tt) ∙ sym (x.value.still_loaded tt) ∙ ap m.v h ∙ f.1)) (λ z g. f.1) (not_active (late t) s.value c) refl;
          }
        where
          late_is : (t u : ℕ) → late t ≡ late u → u ≡ t
          late_is t u z = cc
      go (inr c) (inr d) = record {
        change = still;
        can = tt;
        current = λ n. refl;
        kept = Storing.kept_delayed s κ₁ t i⁺ e a 24 q.wanted c s.phase
            (λ u ne. ((λ z. z), λ z. (z, λ h. Storing.none_awaited s κ t i e a 24 q.wanted (sym h) u z)))
            (phase_stays s.phase i.current.phase_is refl) (λ z. absurd (d z)) (λ z. absurd (unawaited l23 e (λ x. x) z)) (λ z h. absurd (d (ap m.d h ∙ z))) (not_active s.phase s.value c) refl;
      }
        where
          V' : ℕ → ℕ
          V' = upd m.v q.held q.new

          -- V of the current block changes only where it is decided
          v_stays : m.d m.current ≡ none → V' m.current ≡ m.v m.current
          v_stays z = upd_off m.v q.held q.new m.current (λ h. d (ap m.d (sym h) ∙ z))

          phase_stays : (p : Phase) → PhaseIs p (m.c m.current) (m.v m.current) (m.d m.current) s.value → s.phase ≡ p → PhaseIs p (m.c m.current) (V' m.current) (m.d m.current) s.value
          phase_stays settled z g = λ n. ((z n).0, v_stays n ∙ (z n).1)
          phase_stays frozen z g = (z.0, z.1, v_stays z.1 ∙ z.2)
          phase_stays (late u) z g = z

  -- LINE 27

  freezes : line s t ≡ l27 → Step s κ κ⁺ t (store m q.held C 1) (at (counted q untried) 1 28 q.held q.taken q.loaded)
  freezes e = go (either (m.c q.held) 0)
    where
      go : (m.c q.held ≡ 0) ⊎ (m.c q.held ≢ 0) → Step s κ κ⁺ t (store m q.held C 1) (at (counted q untried) 1 28 q.held q.taken q.loaded)
      go (inl c) =
          let h = active-current s κ i t (rw e tt) c in
          let p = active_settled s κ i t (rw e tt) c in
          let d = rw h at (active-undecided s κ i t (rw e tt) c) in
          record {
            change = freeze;
            current = λ n. refl;
            can = (p, rw e tt, c, h);
            kept = keeps27 s (κ⁺ frozen s.value) t (more frozen s.value) untried 1 28 e refl frozen
                ((λ z. omega (arith, sym (upd-at m.c q.held 1 m.current (sym h)) ∙ z)), d, value_of s.phase _ _ _ _ i.current.phase_is (rw h at c) d)
                (λ u. ((λ z. absurd (settled≢late u (sym p ∙ z))), λ z. absurd (frozen≢late u z)));
          }
        where
          frozen≢late : (u : ℕ) → frozen ≡ late u → ⊥
          frozen≢late u z = let x : ◌≡◌ {A = ℕ} 0 1 = cc in omega arith
      go (inr c) = record {
        change = still;
        can = tt;
        current = λ n. refl;
        kept = keeps27 s κ₁ t i⁺ untried 1 28 e refl s.phase (phase_stays s.phase i.current.phase_is) (λ u. ((λ z. z), λ z. z));
      }
        where
          -- an active current block is not the stepper's
          c_stays : m.c m.current ≡ 0 → upd m.c q.held 1 m.current ≡ 0
          c_stays z = upd_off m.c q.held 1 m.current (λ h. c (ap m.c (sym h) ∙ z)) ∙ z

          phase_stays : (p : Phase) → PhaseIs p (m.c m.current) (m.v m.current) (m.d m.current) s.value → PhaseIs p (upd m.c q.held 1 m.current) (m.v m.current) (m.d m.current) s.value
          phase_stays settled z = λ n. (c_stays (z n).0, (z n).1)
          phase_stays frozen z = (not_zero m.c q.held m.current z.0, z.1, z.2)
          phase_stays (late u) z = (not_zero m.c q.held m.current z.0, z.1)

  -- LINE 30

  abbrev installs : line s t ≡ l30 → held s t ≡ m.current → Step s κ κ⁺ t (install m q.taken) idle
  installs e h = let p = Replacing.replaced_settled s κ t i e h in record {
    change = act;
    current = λ n. absurd (n p);
    can = (unplaced l30 e tt (λ x. x), p, Replacing.replaced-right s κ t i e h, rw e tt, inr (rw e tt));
    kept = Replacing.kept_renewed s (κ⁺ s.phase q.new) t (more s.phase q.new) e h (λ u b z. F.at-replace (rw e tt) h u b z s.phase q.new p) idle refl;
  }

  -- ALL LINES

  abbrev Does : Line → Accessed → Type 0
  Does ℓ x = Out s κ κ⁺ t x.cell (next_at ℓ t (counted q (attempt (access_at ℓ t q) x.value)) x.value)

  pub each : (ℓ : Line) → line s t ≡ ℓ → T (busy ℓ) → Does ℓ (access_cell m (access_at ℓ t q))
  unfolding none
  each (l1 x) e b = looks (l2 x) _ ((same_wanted q x).0 e) (from1 s κ₁ i⁺ t untried 2 q.wanted x e (at-line (l1 x) e))
  each (l2 x) e b = go (either (m.d q.held) none)
    where
      go : (m.d q.held ≡ none) ⊎ (m.d q.held ≢ none) → Does (l2 x) (access_cell m (access_at (l2 x) t q))
      go (inl d) = rw (eq-eqb (m.d q.held) none d) (decides x e d)
      go (inr d) = rw (ne_eqb (m.d q.held) none d) (looks (l3 x) _ ((same_wanted q x).1 e) (from2 s κ₁ i⁺ t failure 3 q.wanted x (at-line (l2 x) e) d))
  each (l3 for13) e b = let k = (known (l3 for13) e).task in let d = k.decided.decided tt in reads_it (l3 for13) e tt tt (λ x. x) (m.d q.held) (decided13 (k.seen.decision tt d)) d
  each (l3 for25) e b =
      let k = (known (l3 for25) e).task in
      by_test (Out s κ κ⁺ t m) (eqb (m.d q.held) q.new) _ _
      (λ z. (
        leaves (decided_not_late s κ i t untried 0 0 for25 (known (l3 for25) e)),
        acted (T_of (s.placed t) (λ n. k.self.differ tt (sym (k.decided.late_decided tt n (k.decided.decided tt)) ∙ eqb-true _ _ z))) (rw e tt) refl (inl (rw e refl)),
      ))
      (λ z. looks (l1 for28) _ refl (from3_25 s κ₁ i⁺ t untried 1 28 (at-line (l3 for25) e) (eqb-false _ _ z)))
  each (l3 for28) e b =
      let k = (known (l3 for28) e).task in
      by_test (Out s κ κ⁺ t m) (eqb (m.d q.held) q.expected) _ _
      (λ z. looks l4 _ refl (from3_28 s κ₁ i⁺ t untried 4 q.wanted (at-line (l3 for28) e) (eqb-true _ _ z)))
      (λ z. (leaves (unawaited (l3 for28) e (λ x. x)), declines_it (l3 for28) e tt tt (λ x. x) (m.d q.held) (decided28 (k.seen.decision tt (k.decided.decided tt))) (eqb-false _ _ z)))
  each l4 e b = record { change = still; can = tt; kept = Replacing.kept_taken s κ₁ t i⁺ e untried 5 q.wanted refl; current = λ n. refl }
  each l5 e b = record { change = still; can = tt; kept = Replacing.kept5 s κ₁ t i⁺ untried 6 q.wanted e refl; current = λ n. refl }
  each l6 e b = record { change = still; can = tt; kept = Replacing.kept6 s κ₁ t i⁺ untried 7 q.wanted e refl; current = λ n. refl }
  each l7 e b = record { change = still; can = tt; kept = Replacing.kept7 s κ₁ t i⁺ untried 8 q.wanted e refl; current = λ n. refl }
  each l8 e b = record { change = still; can = tt; kept = Replacing.kept8 s κ₁ t i⁺ untried 30 q.wanted e refl; current = λ n. refl }
  each l10 e b = looks l11 _ refl (from10 s κ₁ i⁺ t untried 11 q.wanted (unawaited l10 e (λ x. x)) (F.at-hold (rw e tt) s.phase s.value) (at-line l10 e))
  each l11 e b = looks l12 _ refl (from11 s κ₁ i⁺ t untried 12 q.wanted (unawaited l11 e (λ x. x)) (F.at_load (rw e tt) s.phase s.value) e (at-line l11 e))
  each l12 e b =
      let k = (known l12 e).task in
      by_test (Out s κ κ⁺ t m) (eqb (m.c q.held) 0) _ _
      (λ z. reads_it l12 e tt tt (λ x. x) q.loaded (loaded12 (k.seen.active-value tt (eqb-true _ _ z))) (k.self.loaded-some tt))
      (λ z. looks (l1 for13) _ refl (from12 s κ₁ i⁺ t untried 1 13 (unawaited l12 e (λ x. x)) (at-line l12 e) (eqb-false _ _ z)))
  each l15 e b = looks l16 _ refl (from15 s κ₁ i⁺ t untried 16 q.wanted (unawaited l15 e (λ x. x)) (F.at-hold (rw e tt) s.phase s.value) (at-line l15 e))
  each l16 e b = record { change = still; can = tt; kept = keeps16 s κ₁ t i⁺ untried 17 q.wanted e refl; current = λ n. refl }
  each l17 e b =
      by_test (Out s κ κ⁺ t m) (eqb (m.y q.held) 0) _ _
      (λ z. looks l18 _ refl (from17_18 s κ₁ i⁺ t untried 18 q.wanted (unawaited l17 e (λ x. x)) (at-line l17 e) (eqb-true _ _ z)))
      (λ z. looks l27 _ refl (from17_27 s κ₁ i⁺ t untried 27 q.wanted (unawaited l17 e (λ x. x)) (at-line l17 e)))
  each l18 e b = record { change = still; can = tt; kept = keeps18 s κ₁ t i⁺ untried 19 q.wanted e refl; current = λ n. refl }
  each l19 e b =
      by_test (Out s κ κ⁺ t m) (eqb (m.x q.held) t) _ _
      (λ z. looks l20 _ refl (from19_20 s κ₁ i⁺ t untried 20 q.wanted (unawaited l19 e (λ x. x)) (at-line l19 e) (eqb-true _ _ z)))
      (λ z. looks l27 _ refl (from19_27 s κ₁ i⁺ t untried 27 q.wanted (unawaited l19 e (λ x. x)) (at-line l19 e)))
  each l20 e b = looks l21 _ refl (from20 s κ₁ i⁺ t untried 21 q.wanted (unawaited l20 e (λ x. x)) (F.at_load (rw e tt) s.phase s.value) e (at-line l20 e))
  each l21 e b =
      by_test (Out s κ κ⁺ t m) (eqb (m.c q.held) 0) _ _
      (λ c. by_test (Out s κ κ⁺ t m) (eqb q.loaded q.expected) _ _
      (λ z. looks l23 _ refl (from21_23 s κ₁ i⁺ t untried 23 q.wanted (unawaited l21 e (λ x. x)) (at-line l21 e) (eqb-true _ _ c) (eqb-true _ _ z) ((F.grows s.phase s.value t).early (rw e tt) (eager (active_settled s κ i t (rw e tt) (eqb-true _ _ c))))))
      (λ z. looks l22 _ refl (from21_22 s κ₁ i⁺ t untried 22 q.wanted (unawaited l21 e (λ x. x)) (at-line l21 e) (eqb-true _ _ c) (eqb-false _ _ z))))
      (λ c. looks (l1 for28) _ refl (from21_1 s κ₁ i⁺ t untried 1 28 (unawaited l21 e (λ x. x)) (at-line l21 e) (eqb-false _ _ c)))
  each l22 e b =
      let k = (known l22 e).task in (
        record { change = still; can = tt; kept = keeps_leaving s κ₁ t i⁺ untried 0 0 l22 e tt (unawaited l22 e (λ x. x)) idle refl; current = λ n. refl },
        declines_it l22 e tt tt (λ x. x) q.loaded (loaded22 (k.seen.refusing tt)) (k.self.other_loaded tt),
      )
  each l23 e b = stores e
  each l24 e b =
      by_test (Out s κ κ⁺ t m) (eqb (m.c q.held) 0) _ _
      (λ z. looks l26 _ refl (from24_26 s κ₁ i⁺ t untried 26 q.wanted (at-line l24 e) (eqb-true _ _ z)))
      (λ z. looks (l1 for25) _ refl (from24_1 s κ₁ i⁺ t untried 1 25 (at-line l24 e) (eqb-false _ _ z)))
  each l26 e b =
      let k = (known l26 e).task in (
        record { change = still; can = tt; kept = keeps_leaving s κ₁ t i⁺ untried 0 0 l26 e tt (λ z. T_not (s.placed t) (k.owner z).not_placed (k.self.yes-placed tt)) idle refl; current = λ n. refl },
        acted (k.self.yes-placed tt) (rw e tt) refl (inr (rw e refl, k.store.yes-active tt)),
      )
  each l27 e b = freezes e
  each l30 e b = go (either m.current q.held)
    where
      go : (m.current ≡ q.held) ⊎ (m.current ≢ q.held) → Does l30 (access_cell m (access_at l30 t q))
      go (inl h) = rw (eq-eqb m.current q.held h) (installs e (sym h), acts refl (rw e refl))
      go (inr h) = rw (ne_eqb m.current q.held h) (let k = (known l30 e).task in let r = k.seen.replaced tt (λ g. h (sym g)) in
          (leaves (unawaited l30 e (λ x. x)), declines_it l30 e tt tt (λ x. x) r.0 (replaced30 r.1 refl) (λ g. r.2 (g ∙ sym (k.decided.expected tt)))))
  each nowhere e b = absurd b
