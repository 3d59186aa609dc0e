-- A state's fitness from the tests that the code asks, in their order.
use mathlib.Core.Path.{◌≡◌, sym, ◌∙◌}
use mathlib.Core.Bool.{true, false, ◌&&◌, and-false}
use mathlib.Core.List.{List}
use Prim.Native.Nat.{ℕ, ◌≤◌, ◌<◌}
use native.Mathlib.Omega.{arith}
use lib.Dec.{ltb}
use lib.ListN.{get_or}
use borrow.Author.Tests.{le-ltb, lt-ltb, ltb-true}
use Rattle.cells_spec.specs.declared.State.{State}
use Rattle.cells_spec.specs.Questions.{cells_fit, records_fit, counts_true, fit}
use Rattle.cells_spec.proofs.Tests.{all-at}
use Rattle.cells_spec.proofs.Fits.{sizes_ok, grouped}

module _ (s : State) (p : List ℕ) where
  pub no_sizes : sizes_ok s p ≡ false → false ≡ fit s p
  no_sizes e = sym (grouped s p ∙ rw e)

  module _ (e : sizes_ok s p ≡ true) where
    pub no_last : s.blocks ≤ s.last → false ≡ fit s p
    no_last h = sym (grouped s p ∙ rw (e, le-ltb _ _ h, and-false (cells_fit s)))

    pub no_cells : cells_fit s ≡ false → false ≡ fit s p
    no_cells h = sym (grouped s p ∙ rw (e, h))

    module _ (last : s.last < s.blocks) (cells : cells_fit s ≡ true) where
      pub left : records_fit s && counts_true s ≡ fit s p
      left = sym (grouped s p ∙ rw (e, cells, lt-ltb _ _ last))

pub below-128 : (s : State) → cells_fit s ≡ true → s.blocks ≤ 128 → (k : ℕ) → k < s.cells → get_or s.current k 0 < 128
unfolding cells_fit
below-128 s e h k l =
    let b : get_or s.current k 0 < s.blocks = ltb-true _ _ (all-at (λ k. ltb (get_or s.current k 0) s.blocks) 0 s.cells e k (omega arith) (omega arith)) in
    omega (arith, b)
