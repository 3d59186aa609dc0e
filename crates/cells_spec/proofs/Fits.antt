-- The tests of a fit state, in the groups that the code asks; what a fit state gives.
use mathlib.Core.Path.{◌≡◌, refl}
use mathlib.Core.Bool.{Bool, true, false, ◌&&◌, and-true, and-eq-true_iff}
use mathlib.Core.List.{List, [], ◌∷◌}
use Prim.Native.Nat.{ℕ, ◌*◌, ◌≤◌, ◌<◌, ◌+◌}
use native.Mathlib.Omega.{arith}
use lib.Dec.{ltb}
use lib.ListN.{get_or, length}
use borrow.Author.Tests.{ltb-true, ne_eqb}
use Rattle.figure_lines.specs.declared.Record.{Record}
use Rattle.cells_spec.specs.declared.State.{State}
use Rattle.figure_lines.specs.Basics.{ands}
use Rattle.cells_spec.specs.Questions.{tasks_ok, cells_ok, blocks_ok, busy_tests, record_fit, cells_fit, records_fit, counts_true, fit, fit_tests}
use Rattle.cells_spec.proofs.Tests.{nth, within_true, blocks_true, blocks-most, all-at}

regroup : (a b c d e f g : Bool) → ands (a ∷ b ∷ c ∷ d ∷ e ∷ f ∷ g ∷ []) ≡ (a && (b && c)) && ((d && e) && (f && g))
regroup false b c d e f g = refl
regroup true false c d e f g = refl
regroup true true false d e f g = refl
regroup true true true false e f g = refl
regroup true true true true false f g = refl
regroup true true true true true f g = rw (and-true g)

-- the k-th test of a busy record that fits
pub busy_test : (r : Record) (v b : ℕ) → record_fit r v b ≡ true → (r.line ≡ 0 → ⊥) → (k : ℕ) → get_or (busy_tests r v b) k true ≡ true
unfolding record_fit
busy_test r v b e busy = nth (busy_tests r v b) (rw (ne_eqb _ _ busy) at e)

module _ (s : State) (p : List ℕ) where
  abbrev pub sizes_ok : Bool
  sizes_ok = tasks_ok s.tasks && (cells_ok s.cells && blocks_ok s.tasks s.cells s.blocks (length p))

  pub grouped : fit s p ≡ sizes_ok && ((cells_fit s && ltb s.last s.blocks) && (records_fit s && counts_true s))
  unfolding fit
  grouped = regroup (tasks_ok s.tasks) (cells_ok s.cells) (blocks_ok s.tasks s.cells s.blocks (length p)) (cells_fit s) (ltb s.last s.blocks) (records_fit s) (counts_true s)

  pub sizes_below : sizes_ok ≡ true → (s.tasks ≤ 32) × (s.cells ≤ 16) × (s.blocks ≤ 128)
  sizes_below e =
      let q = (and-eq-true_iff (tasks_ok s.tasks) _).0 e in
      let r = (and-eq-true_iff (cells_ok s.cells) _).0 q.1 in
      ((within_true _ 1 32 q.0).1, (within_true _ 1 16 r.0).1, blocks-most s.tasks s.cells s.blocks (length p) r.1)

  module _ (e : fit s p ≡ true) where
    pub record Sizes : Type 0 where
      pub tasks : s.tasks ≤ 32
      pub cells : s.cells ≤ 16
      pub blocks : s.blocks ≤ 128
      pub last : s.last < s.blocks
      pub words : length p ≡ 5 * s.blocks

    pub sizes : Sizes
    unfolding fit
    sizes =
        let test = nth (fit_tests s p) e in
        record {
          tasks = (within_true _ 1 32 (test 0)).1;
          cells = (within_true _ 1 16 (test 1)).1;
          blocks = blocks-most s.tasks s.cells s.blocks (length p) (test 2);
          last = ltb-true _ _ (test 4);
          words = (blocks_true s.tasks s.cells s.blocks (length p) (test 2)).1;
        }

    -- a cell's current block is one of the pool's
    pub current-below : (k : ℕ) → k < s.cells → (k < 16) × (5 * get_or s.current k 0 + 4 < length p)
    unfolding fit cells_fit
    current-below k l =
        let z = sizes in
        let b : get_or s.current k 0 < s.blocks = ltb-true _ _ (all-at (λ k. ltb (get_or s.current k 0) s.blocks) 0 s.cells (nth (fit_tests s p) e 3) k (omega arith) (omega arith)) in
        (omega arith, omega arith)
