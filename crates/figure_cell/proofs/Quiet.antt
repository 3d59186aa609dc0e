-- No hardware CAS without contention: a call that begins on an active block, with no other swap of unequal values there, stays on the
-- lines that attempt none.
use mathlib.Core.Path.{◌≡◌, refl, sym, ap, ◌∙◌}
use mathlib.Core.Logic.{◌≢◌}
use mathlib.Core.Bool.{Bool, true, false, not}
use Prim.Native.Nat.{ℕ}
use lib.Dec.{eqb, T, not_T, eqb→eq}
use borrow.Author.Tests.{eqb-false}
use Rattle.figure_lines.specs.declared.Record.{Record}
use Rattle.figure_lines.specs.declared.Field.{Field}
use Rattle.figure_lines.specs.declared.Field.TheVariants.{X, Y, D}
use Rattle.figure_lines.specs.declared.Access.{Access}
use Rattle.figure_lines.specs.declared.Access.TheVariants.{LoadCell, Load, Store, DecideCas, InstallCas, Allocate, Nothing}
use Rattle.figure_lines.specs.Answers.{Next, Go, Done}
use Rattle.figure_lines.specs.Basics.{within}
use Rattle.figure_lines.specs.Record.{no_value}
use Rattle.figure_lines.specs.Lines.{Line, l1, l2, l3, l4, l5, l6, l7, l8, l10, l11, l12, l15, l16, l17, l18, l19, l20, l21, l22, l23, l24, l26, l27, l30, nowhere, line_of, access_at, counted, next_at, hardware, attempt}
use Rattle.figure_cell.proofs.Tries.{none_tried}
use Rattle.cells_spec.proofs.Numbers.{number}
use Rattle.history_spec.specs.Basics.{upd}
use Rattle.history_spec.specs.History.{untried}
use Rattle.history_spec.proofs.Basics.{upd-at, upd_same, upd_off, upd-cases}
use Rattle.figure_cell.specs.Memory.{Cell, store, Accessed, accessed, access_cell}
use Rattle.history_spec.proofs.ListTests.{by_test}
use Rattle.figure_cell.proofs.Classes.{holding, swapping, uncontended, lies_in}

-- has not set Y yet; has written X and not yet looked at it
abbrev pub entering : Line → Bool
entering ℓ = within (number ℓ) 15 18

abbrev pub signed : Line → Bool
signed ℓ = within (number ℓ) 17 19

-- task t meets no contention on its cell, of which m is the memory and f the records
pub record Quiet (m : Cell) (f : ℕ → Record) (t : ℕ) : Type 0 where
  pub active : m.c m.current ≡ 0
  pub line : T (uncontended (line_of (f t)))
  pub here : T (holding (line_of (f t))) → (f t).held ≡ m.current
  pub clear : T (entering (line_of (f t))) → m.y m.current ≡ 0
  pub mine : T (signed (line_of (f t))) → m.x m.current ≡ t
  pub lonely : (u : ℕ) → u ≢ t → T (swapping (line_of (f u))) → ⊥

-- ITS OWN STEP

module _ (m : Cell) (f : ℕ → Record) (t : ℕ) (z : Quiet m f t) where
  abbrev q : Record
  q = f t

  abbrev L : ℕ
  L = m.current

  -- at the next line, with memory m'
  quiet_at : (m' : Cell) (ℓ : Line) (r : Record) → line_of r ≡ ℓ → T (uncontended ℓ) → m'.c m'.current ≡ 0 → (T (holding ℓ) → r.held ≡ m'.current)
      → (T (entering ℓ) → m'.y m'.current ≡ 0) → (T (signed ℓ) → m'.x m'.current ≡ t) → Quiet m' (upd f t r) t
  quiet_at m' ℓ r e b c h y x = record {
    active = c;
    line = rw (upd_same f t r, e) b;
    here = rw (upd_same f t r, e) h;
    clear = rw (upd_same f t r, e) y;
    mine = rw (upd_same f t r, e) x;
    lonely = λ u ne. rw (upd_off f t r u ne) (z.lonely u ne);
  }

  -- what is known at the line ℓ
  module _ (ℓ : Line) (e : line_of q ≡ ℓ) where
    here-at : T (holding ℓ) → q.held ≡ L
    here-at b = z.here (rw e b)

    clear_at : T (entering ℓ) → m.y L ≡ 0
    clear_at b = z.clear (rw e b)

    mine_at : T (signed ℓ) → m.x L ≡ t
    mine_at b = z.mine (rw e b)

    active-at : T (holding ℓ) → m.c q.held ≡ 0
    active-at b = ap m.c (here-at b) ∙ z.active

    -- to a line that only looked
    onward : (ℓ' : Line) (r : Record) → line_of r ≡ ℓ' → T (uncontended ℓ') → r.held ≡ L → (T (entering ℓ') → m.y L ≡ 0) → (T (signed ℓ') → m.x L ≡ t) → Quiet m (upd f t r) t
    onward ℓ' r e' b h y x = quiet_at m ℓ' r e' b z.active (λ c. h) y x

  abbrev Goes : Cell → Next → Type 0
  Goes m' (Go r) = Quiet m' (upd f t r) t
  Goes m' (Done x) = Unit {0}

  abbrev Does : Line → Accessed → Type 0
  Does ℓ x = Goes x.cell (next_at ℓ t (counted q (attempt (access_at ℓ t q) x.value)) x.value)

  pub quiet_step : (ℓ : Line) → line_of q ≡ ℓ → T (uncontended ℓ) → Does ℓ (access_cell m (access_at ℓ t q))
  quiet_step l10 e b = onward l10 e l11 _ refl tt refl (λ x. absurd x) (λ x. absurd x)
  quiet_step l11 e b = onward l11 e l12 _ refl tt (here-at l11 e tt) (λ x. absurd x) (λ x. absurd x)
  quiet_step l12 e b = by_test (Goes m) (eqb (m.c q.held) 0) _ _ (λ x. tt) (λ x. absurd (eqb-false _ _ x (active-at l12 e tt)))
  quiet_step l15 e b = onward l15 e l16 _ refl tt refl (λ x. clear_at l15 e tt) (λ x. absurd x)
  quiet_step l16 e b = quiet_at (store m q.held X t) l17 _ refl tt z.active (λ x. here-at l16 e tt) (λ x. clear_at l16 e tt) (λ x. upd-at m.x q.held t L (sym (here-at l16 e tt)))
  quiet_step l17 e b =
      by_test (Goes m) (eqb (m.y q.held) 0) _ _ (λ x. onward l17 e l18 _ refl tt (here-at l17 e tt) (λ x. clear_at l17 e tt) (λ x. mine_at l17 e tt))
      (λ x. absurd (eqb-false _ _ x (ap m.y (here-at l17 e tt) ∙ clear_at l17 e tt)))
  quiet_step l18 e b = quiet_at (store m q.held Y 1) l19 _ refl tt z.active (λ x. here-at l18 e tt) (λ x. absurd x) (λ x. mine_at l18 e tt)
  quiet_step l19 e b =
      by_test (Goes m) (eqb (m.x q.held) t) _ _ (λ x. onward l19 e l20 _ refl tt (here-at l19 e tt) (λ x. absurd x) (λ x. absurd x))
      (λ x. absurd (eqb-false _ _ x (ap m.x (here-at l19 e tt) ∙ mine_at l19 e tt)))
  quiet_step l20 e b = onward l20 e l21 _ refl tt (here-at l20 e tt) (λ x. absurd x) (λ x. absurd x)
  quiet_step l21 e b =
      by_test (Goes m) (eqb (m.c q.held) 0) _ _
      (λ x. by_test (Goes m) (eqb q.loaded q.expected) _ _ (λ x. onward l21 e l23 _ refl tt (here-at l21 e tt) (λ x. absurd x) (λ x. absurd x)) (λ x. onward l21 e l22 _ refl tt (here-at l21 e tt) (λ x. absurd x) (λ x. absurd x)))
      (λ x. absurd (eqb-false _ _ x (active-at l21 e tt)))
  quiet_step l22 e b = tt
  quiet_step l23 e b = quiet_at (store m q.held Field.V q.new) l24 _ refl tt z.active (λ x. here-at l23 e tt) (λ x. absurd x) (λ x. absurd x)
  quiet_step l24 e b =
      by_test (Goes m) (eqb (m.c q.held) 0) _ _ (λ x. onward l24 e l26 _ refl tt (here-at l24 e tt) (λ x. absurd x) (λ x. absurd x))
      (λ x. absurd (eqb-false _ _ x (active-at l24 e tt)))
  quiet_step l26 e b = tt
  quiet_step (l1 x) e b = absurd b
  quiet_step (l2 x) e b = absurd b
  quiet_step (l3 x) e b = absurd b
  quiet_step l27 e b = absurd b
  quiet_step l4 e b = absurd b
  quiet_step l5 e b = absurd b
  quiet_step l6 e b = absurd b
  quiet_step l7 e b = absurd b
  quiet_step l8 e b = absurd b
  quiet_step l30 e b = absurd b
  quiet_step nowhere e b = absurd b

  pub no_attempt : (v : ℕ) → attempt (access_at (line_of q) t q) v ≡ untried
  no_attempt v = none_tried (access_at (line_of q) t q) v (eqb→eq _ _ (lies_in uncontended (λ l. eqb (hardware (access_at l t q)) 0) tt (line_of q) z.line))

-- THE STEPS OF OTHERS

-- an access that changes at most a decision
abbrev harmless : Access → Bool
harmless (LoadCell k) = true
harmless (Load b f) = true
harmless (Store b f n) = false
harmless (DecideCas b n) = true
harmless (InstallCas k b n) = false
harmless Allocate = false
harmless Nothing = true

-- the words that quietness looks at
abbrev SameWords : Cell → Cell → Type 0
SameWords m m' = (m'.current ≡ m.current) × (m'.c ≡ m.c) × (m'.y ≡ m.y) × (m'.x ≡ m.x)

same-words : (m : Cell) (a : Access) → T (harmless a) → SameWords m (access_cell m a).cell
same-words m (LoadCell k) h = (refl, refl, refl, refl)
same-words m (Load b f) h = (refl, refl, refl, refl)
same-words m (DecideCas b n) h = by_test (λ (x : Accessed). SameWords m x.cell) (eqb (m.d b) no_value) (accessed (store m b D n) 1) (accessed m 0) (λ z. (refl, refl, refl, refl)) (λ z. (refl, refl, refl, refl))
same-words m Nothing h = (refl, refl, refl, refl)
same-words m (Store b f n) h = absurd h
same-words m (InstallCas k b n) h = absurd h
same-words m Allocate h = absurd h

-- another record of task u, at a line that swaps nothing, and these words as they were
others : (m m' : Cell) (f : ℕ → Record) (t u : ℕ) (r : Record) → SameWords m m' → Quiet m f t → t ≢ u → (T (swapping (line_of r)) → ⊥) → Quiet m' (upd f u r) t
others m m' f t u r w z ne n =
    let e = upd_off f u r t ne in
    record {
      active = at w.1 w.0 ∙ z.active;
      line = rw e z.line;
      here = rw e (λ b. z.here b ∙ sym w.0);
      clear = rw e (λ b. at w.2 w.0 ∙ z.clear b);
      mine = rw e (λ b. at w.3 w.0 ∙ z.mine b);
      lonely = λ v nv. upd-cases (λ (x : Record). T (swapping (line_of x)) → ⊥) f u r v (λ x. n) (λ x. z.lonely v nv);
    }
  where
    at : {g g' : ℕ → ℕ} {i i' : ℕ} → g' ≡ g → i' ≡ i → g' i' ≡ g i
    at p q = λ j. p j (q j)

-- a task u that swaps nothing takes a step, to another line that swaps nothing
pub others_step : (m : Cell) (f : ℕ → Record) (t u : ℕ) (r : Record) → Quiet m f t → t ≢ u → (T (swapping (line_of r)) → ⊥) → (T (swapping (line_of (f u))) → ⊥) → Quiet (access_cell m (access_at (line_of (f u)) u (f u))).cell (upd f u r) t
others_step m f t u r z ne n n' = others m _ f t u r
    (same-words m (access_at (line_of (f u)) u (f u)) (lies_in (λ l. not (swapping l)) (λ l. harmless (access_at l u (f u))) tt (line_of (f u)) (not_T (swapping (line_of (f u))) n'))) z ne n

-- another call begins, with a record that swaps nothing or on another cell
pub others_begin : (m : Cell) (f : ℕ → Record) (t u : ℕ) (r : Record) → Quiet m f t → t ≢ u → (T (swapping (line_of r)) → ⊥) → Quiet m (upd f u r) t
others_begin m f t u r z ne n = others m m f t u r (refl, refl, refl, refl) z ne n
