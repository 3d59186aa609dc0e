-- A decided block that nobody has taken: every action but one that takes it leaves it so, and no action wins a decision at it.
use mathlib.Core.Path.{◌≡◌, refl, sym, ap, subst, ◌∙◌}
use mathlib.Core.Logic.{◌≢◌, ◌⊎◌, inl, inr}
use mathlib.Core.Bool.{Bool, true, false, ◌&&◌, cond, false≢true}
use mathlib.Core.Option.{Option, none, some}
use mathlib.Core.List.{List}
use Prim.Native.Nat.{ℕ, ◌+◌, ◌*◌, ◌<◌}
use native.Mathlib.Omega.{arith}
use lib.Dec.{eqb, T, T_not}
use lib.ListN.{set}
use lib.Seq.{get_or-set_other}
use borrow.Author.Tests.{eqb-true, eq-eqb}
use Rattle.cells_spec.specs.Turn.{record_after}
use Rattle.figure_lines.specs.declared.Record.{Record}
use Rattle.cells_spec.specs.declared.State.{State}
use Rattle.figure_lines.specs.declared.Field.{Field}
use Rattle.figure_lines.specs.declared.Field.TheVariants.{X, D}
use Rattle.figure_lines.specs.declared.Access.{Access}
use Rattle.figure_lines.specs.declared.Access.TheVariants.{LoadCell, Load, Store, DecideCas, InstallCas, Allocate, Nothing}
use Rattle.figure_lines.specs.Answers.{Next}
use Rattle.figure_lines.specs.Record.{no_value, record_at, idle}
use Rattle.figure_lines.specs.Lines.{Line, for13, for25, for28, l1, l2, l3, l4, l5, l6, l7, l8, l10, l11, l12, l15, l16, l17, l18, l19, l20, l21, l22, l23, l24, l26, l27, l30, nowhere, line_of, access_at, next_at, counted}
use Rattle.cells_spec.specs.Questions.{taken_before, has_taken}
use Rattle.cells_spec.proofs.Tests.{both}
use Rattle.cells_spec.proofs.Numbers.{number}
use Rattle.cells_spec.specs.Blocks.{unused}
use Rattle.cells_spec.specs.Pool.{offset, word, set_word}
use Rattle.cells_spec.specs.Open.{After}
use Rattle.cells_spec.specs.Memory.{Touched, touched, performed}
use Rattle.cells_spec.specs.Step.{current}
use Rattle.cells_spec.specs.Machine.{Pool}
use Rattle.cells_spec.proofs.Words.{fields, set_else}
use Rattle.history_spec.proofs.ListTests.{by_test}
use Rattle.figure_cell.proofs.LineLaws.{same, same-is}
use Rattle.figure_cell.proofs.Classes.{lies_in}
use Rattle.cells_theorems.proofs.Stepped.{set_either, touched_at, tries_at, following, ran_at, Runs, Stepped, refuses, runs, Began, declines, starts, Dropped, keeps, leaves}

pub record Kept (x : Pool) (b : ℕ) : Type 0 where
  pub decided : word x.1 b D ≢ no_value
  pub untaken : (u : ℕ) → u < x.0.tasks → T (has_taken (record_at x.0.records u)) → (record_at x.0.records u).taken ≢ b

-- D STAYS, unless it is stored

abbrev stores_d : Access → Bool
stores_d (LoadCell k) = false
stores_d (Load b f) = false
stores_d (Store b f v) = eqb (offset f) (offset D)
stores_d (DecideCas b v) = false
stores_d (InstallCas k b n) = false
stores_d Allocate = false
stores_d Nothing = false

-- a store of another word
other_word : (p : List ℕ) (c : ℕ) (f : Field) (v b : ℕ) → eqb (offset f) (offset D) ≡ false → word (set_word p c f v) b D ≡ word p b D
other_word p c f v b = fields (λ f. eqb (offset f) (offset D) ≡ false → word (set_word p c f v) b D ≡ word p b D) (λ _. at 0 (omega arith)) (λ _. at 1 (omega arith)) (λ _. at 2 (omega arith)) (λ _. at 3 (omega arith)) (λ e. absurd (false≢true (sym e))) f
  where
    at : (n : ℕ) → n < 4 → word (set p (5 * c + n) v) b D ≡ word p b D
    at n l = get_or-set_other p (5 * c + n) (5 * b + 4) v 0 (λ e. omega arith)

d_stays : (p : List ℕ) (c l : ℕ) (f : Option ℕ) (b : ℕ) → word p b D ≢ no_value → (a : Access) → stores_d a ≡ false → word (performed p c l f a).pool b D ≡ word p b D
d_stays p c l f b n (LoadCell k) e = refl
d_stays p c l f b n (Load h g) e = refl
d_stays p c l f b n (Store h g v) e = other_word p h g v b e
d_stays p c l f b n (DecideCas h v) e = by_test (λ (m : Touched). word m.pool b D ≡ word p b D) (eqb (word p h D) no_value) (touched (set_word p h D v) c l 1) (touched p c l 0)
    (λ z. set_else p h D v b D (λ q. n (ap (λ b. word p b D) q ∙ eqb-true _ _ z))) (λ z. refl)
d_stays p c l f b n (InstallCas k h m) e = by_test (λ (m : Touched). word m.pool b D ≡ word p b D) (eqb c h) (touched p m l 1) (touched p c l 0) (λ z. refl) (λ z. refl)
d_stays p c l none b n Allocate e = refl
d_stays p c l (some u) b n Allocate e = other_word p u X 255 b refl
d_stays p c l f b n Nothing e = refl

-- WHO HAS TAKEN A BLOCK had taken it before, or comes from line 4

no-T : {A : Type 0} → T false → A
no-T e = absurd e

abbrev Taken : Line → Record → Record → Type 0
Taken ℓ r q = T (has_taken q) → (T (taken_before (number ℓ)) × (q.taken ≡ r.taken)) ⊎ ((number ℓ ≡ 4) × (q.line ≡ 5))

module _ (t : ℕ) (r : Record) (v : ℕ) where
  abbrev TakenBy : Line → Next → Type 0
  TakenBy ℓ n = Taken ℓ r (record_after n)

  which : (ℓ : Line) (c : Bool) (x y : Next) → TakenBy ℓ x → TakenBy ℓ y → TakenBy ℓ (cond c x y)
  which ℓ c x y f g = by_test (TakenBy ℓ) c x y (λ _. f) (λ _. g)

  ruleset taking = (which, inl, inr, no-T)

  -- whatever a line tests
  taken_by : (ℓ : Line) → r.line ≡ number ℓ → TakenBy ℓ (next_at ℓ t r v)
  taken_by (l1 w) e = search taking
  taken_by (l2 w) e = search taking
  taken_by (l3 for13) e = search taking
  taken_by (l3 for25) e = search taking
  taken_by (l3 for28) e = search taking
  taken_by l4 e = search taking
  taken_by l5 e = search taking
  taken_by l6 e = search taking
  taken_by l7 e = search taking
  taken_by l8 e = search taking
  taken_by l10 e = search taking
  taken_by l11 e = search taking
  taken_by l12 e = search taking
  taken_by l15 e = search taking
  taken_by l16 e = search taking
  taken_by l17 e = search taking
  taken_by l18 e = search taking
  taken_by l19 e = search taking
  taken_by l20 e = search taking
  taken_by l21 e = search taking
  taken_by l22 e = search taking
  taken_by l23 e = search taking
  taken_by l24 e = search taking
  taken_by l26 e = search taking
  taken_by l27 e = search taking
  taken_by l30 e = search taking
  taken_by nowhere e = λ h. absurd (rw e at h)

-- AN ACTION

module _ (s : State) (p : List ℕ) (t b : ℕ) where
  abbrev r : Record
  r = record_at s.records t

  -- the step that leaves f takes b
  abbrev takes_by : After → Bool
  takes_by f = let q = record_at f.state.records t in eqb r.line 4 && (eqb q.line 5 && eqb q.taken b)

  pub begin_keeps : Kept (s, p) b → {f : After} → Began s p t f → Kept (f.state, f.pool) b
  begin_keeps k (declines n) = k
  begin_keeps k (starts q n) = record { decided = k.decided; untaken = λ u l. go u l (set_either s.records t q idle u) }
    where
      go : (u : ℕ) → u < s.tasks → let now = record_at (set s.records t q) u in ((u ≡ t) × (now ≡ q)) ⊎ (now ≡ record_at s.records u) → T (has_taken now) → now.taken ≢ b
      go u l (inl (e, g)) = λ h. absurd (T_not (has_taken q) n (subst (λ (q : Record). T (has_taken q)) g h))
      go u l (inr g) = subst (λ (q : Record). T (has_taken q) → q.taken ≢ b) (sym g) (k.untaken u l)

  pub drop_keeps : Kept (s, p) b → {f : After} → Dropped s p t f → Kept (f.state, f.pool) b
  drop_keeps k (keeps n) = k
  drop_keeps k leaves = let z = begin_keeps k (starts idle tt) in record { decided = z.decided; untaken = z.untaken }

  module _ (k : Kept (s, p) b) where
    -- t runs its line
    module _ (y : Runs s p t) where
      abbrev ℓ : Line
      ℓ = line_of r

      own : T (taken_before (number ℓ)) → r.taken ≢ b
      own h = k.untaken t y.task (rw y.line h)

      still-decided : word (touched_at s p t ℓ).pool b D ≢ no_value
      still-decided = go (stores_d (access_at ℓ t r)) refl
        where
          stays : word (touched_at s p t ℓ).pool b D ≡ word p b D → word (touched_at s p t ℓ).pool b D ≢ no_value
          stays e = subst (λ d. d ≢ no_value) (sym e) k.decided

          go : (c : Bool) → stores_d (access_at ℓ t r) ≡ c → word (touched_at s p t ℓ).pool b D ≢ no_value
          go true e =
              let at : ℓ ≡ l7 = same-is ℓ l7 (lies_in (λ ℓ. stores_d (access_at ℓ t r)) (λ ℓ. same ℓ l7) tt ℓ (rw e tt)) in
              stays (subst (λ ℓ. word (touched_at s p t ℓ).pool b D ≡ word p b D) (sym at) (set_else p r.taken D no_value b D (λ z. own (rw at tt) (sym z))))
          go false e = stays (d_stays p (current s r.cell) s.last (unused s) b k.decided (access_at ℓ t r) e)

      abbrev next : Record
      next = record_after (following s p t ℓ)

      its_taken : Taken ℓ r next
      its_taken = taken_by t (counted r (tries_at s p t ℓ)) (touched_at s p t ℓ).value ℓ y.line

      -- the record of task u after it
      abbrev now : ℕ → Record
      now u = record_at (set s.records t next) u

      still_untaken : takes_by (ran_at s p t ℓ) ≡ false → (u : ℕ) → u < s.tasks → T (has_taken (now u)) → (now u).taken ≢ b
      still_untaken d u l = go (set_either s.records t next idle u)
        where
          by : (u ≡ t) → (now u ≡ next) → (now u).taken ≡ b → (T (taken_before (number ℓ)) × (next.taken ≡ r.taken)) ⊎ ((number ℓ ≡ 4) × (next.line ≡ 5)) → ⊥
          by e g z (inl (a, c)) = own a (sym c ∙ (sym (ap (λ (q : Record). q.taken) g) ∙ z))
          by e g z (inr (a, c)) =
              let at-t : now t ≡ now u = ap now (sym e) in
              let five : (now t).line ≡ 5 = ap (λ (q : Record). q.line) (at-t ∙ g) ∙ c in
              let it : (now t).taken ≡ b = ap (λ (q : Record). q.taken) at-t ∙ z in
              false≢true (sym d ∙ both (eq-eqb r.line 4 (y.line ∙ a)) (both (eq-eqb (now t).line 5 five) (eq-eqb (now t).taken b it)))

          go : ((u ≡ t) × (now u ≡ next)) ⊎ (now u ≡ record_at s.records u) → T (has_taken (now u)) → (now u).taken ≢ b
          go (inr g) = subst (λ (q : Record). T (has_taken q) → q.taken ≢ b) (sym g) (k.untaken u l)
          go (inl (e, g)) = λ h z. by e g z (its_taken (subst (λ (q : Record). T (has_taken q)) g h))

    pub step_keeps : {f : After} → Stepped s p t f → takes_by f ≡ false → Kept (f.state, f.pool) b
    step_keeps (refuses n) d = k
    step_keeps (runs y) d = record { decided = still-decided y; untaken = still_untaken y d }
