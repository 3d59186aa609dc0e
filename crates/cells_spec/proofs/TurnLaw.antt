-- A turn is a step given numbers: what it needs, and when it needs no unused block.
use mathlib.Core.Path.{◌≡◌, refl, ap}
use mathlib.Core.Logic.{inl, inr}
use mathlib.Core.Bool.{true, ◌||◌, not, and-eq-true_iff}
use mathlib.Core.Option.{Option}
use mathlib.Core.List.{List}
use Prim.Native.Nat.{ℕ, ◌+◌, ◌*◌, ◌<◌}
use native.Mathlib.Omega.{arith}
use lib.Dec.{ltb}
use borrow.Author.Tests.{ltb-true, leb-true}
use Rattle.figure_lines.specs.declared.Record.{Record}
use Rattle.figure_lines.specs.declared.Access.{Access}
use Rattle.figure_lines.specs.declared.Access.TheVariants.{LoadCell, Load, Store, DecideCas, InstallCas, Allocate, Nothing}
use Rattle.figure_lines.specs.Lines.{line_of, access_of, next_of}
use Rattle.cells_spec.specs.Questions.{record_fit, holds, has_taken}
use Rattle.cells_spec.specs.Memory.{Touched, performed, Reaches}
use Rattle.cells_spec.specs.Turn.{ending, turn, Ready}
use Rattle.cells_spec.proofs.Fits.{busy_test}
use Rattle.cells_spec.proofs.Numbers.{number, at-number}
use Rattle.cells_spec.proofs.Accesses.{Holds, HasTaken, Keeps, keeps}

-- WHAT IT NEEDS, in a fit state
module _ (r : Record) (v b words : ℕ) (fits : record_fit r v b ≡ true) (busy : r.line ≡ 0 → ⊥) (size : words ≡ 5 * b) where
  -- the held block, and the taken one
  blocks : ((not (holds r) || ltb r.held b) ≡ true) × ((not (has_taken r) || ltb r.taken b) ≡ true)
  blocks = (and-eq-true_iff (not (holds r) || ltb r.held b) (not (has_taken r) || ltb r.taken b)).0 (busy_test r v b fits busy 2)

  its-number : r.line ≡ number (line_of r)
  its-number = at-number r (busy_test r v b fits busy 1)

  there : {h : ℕ} → (h ≡ r.held) × Holds (line_of r) → 5 * h + 4 < words
  there (e, h) = let g : r.held < b = ltb-true _ _ (rw (its-number, h) at blocks.0) in rw e (omega arith)

  there_taken : {h : ℕ} → (h ≡ r.taken) × HasTaken (line_of r) → 5 * h + 4 < words
  there_taken (e, h) = let g : r.taken < b = ltb-true _ _ (rw (its-number, h) at blocks.1) in rw e (omega arith)

  reaches : (a : Access) → Keeps (line_of r) r a → Reaches words a
  reaches (LoadCell k) h = tt
  reaches (Load b f) h = there h
  reaches (Store b f v) (inl h) = there h
  reaches (Store b f v) (inr h) = there_taken h
  reaches (DecideCas b v) h = there h
  reaches (InstallCas k b n) h = tt
  reaches Allocate h = tt
  reaches Nothing h = tt

  pub ready : Ready words r
  ready = record { reaches = λ t. reaches (access_of t r) (keeps t r (line_of r)); steps = leb-true _ _ (busy_test r v b fits busy 4); hard = leb-true _ _ (busy_test r v b fits busy 5) }

-- ONLY LINE 4 ASKS FOR AN UNUSED BLOCK

module _ (p : List ℕ) (t : ℕ) (r : Record) (c l : ℕ) (f g : Option ℕ) (other : number (line_of r) ≡ 4 → ⊥) where
  alike : (a : Access) → Keeps (line_of r) r a → performed p c l f a ≡ performed p c l g a
  alike (LoadCell k) h = refl
  alike (Load b x) h = refl
  alike (Store b x v) h = refl
  alike (DecideCas b v) h = refl
  alike (InstallCas k b n) h = refl
  alike Allocate h = absurd (other h)
  alike Nothing h = refl

  pub turn_free : turn p t r c l f ≡ turn p t r c l g
  turn_free = ap (λ (m : Touched). ending m (next_of t r m.value)) (alike (access_of t r) (keeps t r (line_of r)))
