-- A decision stays: what is decided of a block in the figure is never stored again, also when nobody holds the block any more.
use mathlib.Core.Path.{◌≡◌, refl, sym, ap, subst, ◌∙◌}
use mathlib.Core.Logic.{◌≢◌, ◌⊎◌, inl, inr}
use mathlib.Core.Bool.{Bool, true, false, not, false≢true}
use mathlib.Core.List.{List}
use Prim.Native.Nat.{ℕ, ◌≤◌, ◌<◌}
use native.Mathlib.Omega.{arith}
use lib.Dec.{eqb, T}
use borrow.Author.Tests.{eqb-true}
use Rattle.figure_lines.specs.declared.Record.{Record}
use Rattle.figure_lines.specs.declared.Field.{Field}
use Rattle.figure_lines.specs.declared.Field.TheVariants.{X, Y, C, D}
use Rattle.figure_lines.specs.declared.Access.{Access}
use Rattle.figure_lines.specs.declared.Access.TheVariants.{LoadCell, Load, Store, DecideCas, InstallCas, Allocate, Nothing}
use Rattle.figure_lines.specs.Answers.{Next, Go, Done}
use Rattle.figure_lines.specs.Record.{no_value, idle}
use Rattle.figure_lines.specs.Lines.{Line, l7, line_of, access_at, access_of, counted}
use Rattle.cells_spec.specs.Pool.{offset}
use Rattle.cells_spec.specs.Questions.{reads, swaps, taken_before, has_taken}
use Rattle.cells_spec.specs.Turn.{record_after}
use Rattle.cells_spec.proofs.Numbers.{number, at-number}
use Rattle.cells_spec.proofs.Named.{LeavesNamed, GivesNamed, line-named}
use Rattle.history_spec.specs.History.{Op, read, swap, Action, begin, step, drop}
use Rattle.history_spec.proofs.Basics.{upd_off, upd-cases}
use Rattle.history_spec.proofs.ListTests.{by_test}
use Rattle.figure_cell.specs.Memory.{Cell, Accessed, access_cell}
use Rattle.figure_cell.proofs.LineLaws.{same, same-is}
use Rattle.figure_cell.proofs.Classes.{is, lies_in}
use Rattle.figure.specs.Figure.{World, with_task, WorldAfter, figure_ran, figure, tried_in, first_of}
use Rattle.figure.proofs.Records.{Pending, AllOnPath, Begun, starts, begin-cases, Stepped, runs, step-cases, Dropped, leaves, drop-cases}
use Rattle.figure.proofs.Worlds.{next_after, cell_after, step_after}
use Rattle.figure.proofs.Quietly.{stays}

-- ONE ACCESS

-- it stores to no D
abbrev spares : Access → Bool
spares (LoadCell k) = true
spares (Load b f) = true
spares (Store b f n) = not (eqb (offset f) (offset D))
spares (DecideCas b n) = true
spares (InstallCas k b n) = true
spares Allocate = true
spares Nothing = true

decision_stays : (m : Cell) (a : Access) (b : ℕ) → T (spares a) → m.d b ≢ no_value → (access_cell m a).cell.d b ≡ m.d b
decision_stays m (LoadCell k) b s n = refl
decision_stays m (Load c f) b s n = refl
decision_stays m (Store c X x) b s n = refl
decision_stays m (Store c Y x) b s n = refl
decision_stays m (Store c C x) b s n = refl
decision_stays m (Store c Field.V x) b s n = refl
decision_stays m (Store c D x) b s n = absurd s
decision_stays m (DecideCas c x) b s n = by_test (λ (z : Accessed). z.cell.d b ≡ m.d b) (eqb (m.d c) no_value) _ _
    (λ z. upd_off m.d c x b (λ e. n (ap m.d e ∙ eqb-true _ _ z))) (λ z. refl)
decision_stays m (InstallCas k c x) b s n = by_test (λ (z : Accessed). z.cell.d b ≡ m.d b) (eqb m.current c) _ _ (λ z. refl) (λ z. refl)
decision_stays m Allocate b s n = refl
decision_stays m Nothing b s n = refl

-- no block's number is given again
next_grows : (m : Cell) (a : Access) → m.next ≤ (access_cell m a).cell.next
next_grows m (LoadCell k) = omega arith
next_grows m (Load c f) = omega arith
next_grows m (Store c X x) = omega arith
next_grows m (Store c Y x) = omega arith
next_grows m (Store c C x) = omega arith
next_grows m (Store c Field.V x) = omega arith
next_grows m (Store c D x) = omega arith
next_grows m (DecideCas c x) = by_test (λ (z : Accessed). m.next ≤ z.cell.next) (eqb (m.d c) no_value) _ _ (λ z. omega arith) (λ z. omega arith)
next_grows m (InstallCas k c x) = by_test (λ (z : Accessed). m.next ≤ z.cell.next) (eqb m.current c) _ _ (λ z. omega arith) (λ z. omega arith)
next_grows m Allocate = omega arith
next_grows m Nothing = omega arith

-- BLOCK b OF CELL k is decided as d for good: its number is given, and nobody fills it

pub record Fixed (w : World) (k b d : ℕ) : Type 0 where
  pub some : d ≢ no_value
  pub below : b < (w.cell k).next
  pub untaken : (u : ℕ) → (w.records u).cell ≡ k → has_taken (w.records u) ≡ true → (w.records u).taken ≢ b
  pub is : (w.cell k).d b ≡ d

module _ (w : World) (k b d : ℕ) (f : Fixed w k b d) (t : ℕ) where
  abbrev Untaken : Record → Type 0
  Untaken r = r.cell ≡ k → has_taken r ≡ true → r.taken ≢ b

  -- another record for t, at a line before its block is taken
  fixed_put : (q : Record) → has_taken q ≡ false → Fixed (with_task w t q) k b d
  fixed_put q n = record { some = f.some; below = f.below; untaken = λ u. upd-cases Untaken w.records t q u (λ z e i. absurd (false≢true (sym n ∙ i))) (λ z. f.untaken u); is = f.is }

  module _ (did : List Line) (o : Pending w.cells did (w.records t)) where
    abbrev q : Record
    q = w.records t

    abbrev m : Cell
    m = w.cell q.cell

    taken_here : q.cell ≡ k → taken_before (number (line_of q)) ≡ true → q.taken ≢ b
    taken_here e h = f.untaken t e (ap taken_before (at-number q o.line) ∙ h)

    -- t has taken its block before, or takes the next one
    its_taken : Untaken (record_after (next_after w t))
    its_taken e = go (stays w t did o).0
      where
        gives : q.cell ≡ k → (a : Access) → GivesNamed (λ c. Unit {0}) (λ c. c ≢ b) (Unit {0}) a (access_cell m a).value
        gives e (LoadCell c) = (tt, tt)
        gives e (Load c x) = tt
        gives e (Store c x n) = tt
        gives e (DecideCas c n) = tt
        gives e (InstallCas c x n) = tt
        gives e Allocate = ((λ z. omega (arith, z, subst (λ k. b < (w.cell k).next) (sym e) f.below)), tt)
        gives e Nothing = tt

        after : (n : Next) → LeavesNamed (λ c. Unit {0}) (λ c. c ≢ b) (Unit {0}) n → has_taken (record_after n) ≡ true → (record_after n).taken ≢ b
        after (Go r) h = h.1
        after (Done x) h = λ i. absurd (false≢true i)

        go : ((record_after (next_after w t)).cell ≡ q.cell) ⊎ (record_after (next_after w t) ≡ idle) → has_taken (record_after (next_after w t)) ≡ true → (record_after (next_after w t)).taken ≢ b
        go (inl c) = let z = sym c ∙ e in after (next_after w t)
            (line-named (λ c. Unit {0}) (λ c. c ≢ b) (Unit {0}) t q (counted q (tried_in w t q)) _ (line_of q) (reads q) (swaps q) o.line (λ i. tt) (taken_here z) (gives z (access_of t q)))
        go (inr c) = λ i. absurd (false≢true (ap has_taken (sym c) ∙ i))

    its-decision : k ≡ q.cell → (cell_after w t).d b ≡ d
    its-decision e = go (is 7 (line_of q)) refl
      where
        now : m.d b ≡ d
        now = subst (λ k. (w.cell k).d b ≡ d) e f.is

        go : (x : Bool) → is 7 (line_of q) ≡ x → (cell_after w t).d b ≡ d
        go true z =
            let at7 : line_of q ≡ l7 = same-is (line_of q) l7 (lies_in (is 7) (λ k. same k l7) tt (line_of q) (rw z tt)) in
            subst (λ ℓ. (access_cell m (access_at ℓ t q)).cell.d b ≡ d) (sym at7) (upd_off m.d q.taken no_value b (λ g. taken_here (sym e) (rw at7) (sym g)) ∙ now)
        go false z = decision_stays m (access_of t q) b (lies_in (λ k. not (is 7 k)) (λ k. spares (access_at k t q)) tt (line_of q) (rw z tt)) (λ h. f.some (sym now ∙ h)) ∙ now

    fixed_step : Fixed (step_after w t) k b d
    fixed_step = record {
      some = f.some;
      below = upd-cases (λ (c : Cell). b < c.next) w.cell q.cell (cell_after w t) k (λ e. omega (arith, next_grows m (access_of t q), subst (λ k. b < (w.cell k).next) e f.below)) (λ e. f.below);
      untaken = λ u. upd-cases Untaken w.records t (record_after (next_after w t)) u (λ e. its_taken) (λ e. f.untaken u);
      is = upd-cases (λ (c : Cell). c.d b ≡ d) w.cell q.cell (cell_after w t) k its-decision (λ e. f.is);
    }

not_taking : (op : Op) → has_taken (first_of op) ≡ false
not_taking (read k) = refl
not_taking (swap k e n) = by_test (λ l. taken_before l ≡ false) (eqb e n) 10 15 (λ z. refl) (λ z. refl)

-- whatever the action
pub fixed_next : (w : World) → AllOnPath w → (k b d : ℕ) → Fixed w k b d → (a : Action) → Fixed (figure w a).0 k b d
unfolding figure_ran
fixed_next w p k b d f (begin t op) = go (begin-cases w t op)
  where
    go : {x : WorldAfter} → Begun w t op x → Fixed x.world k b d
    go (Begun.refuses n) = f
    go (starts a) = fixed_put w k b d f t (first_of op) (not_taking op)
fixed_next w p k b d f (step t) = go (step-cases w t (p t).0 (p t).1)
  where
    go : {x : WorldAfter} → Stepped w t (p t).0 x → Fixed x.world k b d
    go (Stepped.refuses n e) = f
    go (runs l o) = fixed_step w k b d f t (p t).0 o
fixed_next w p k b d f (drop t) = go (drop-cases w t (p t).0 (p t).1)
  where
    go : {x : WorldAfter} → Dropped w t (p t).0 x → Fixed x.world k b d
    go (Dropped.refuses n e) = f
    go (leaves l o) = fixed_put w k b d f t idle refl
