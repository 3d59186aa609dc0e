-- The shape of a text, from a place of it on.
use mathlib.Core.Path.{◌≡◌, refl}
use mathlib.Core.Bool.{Bool, true, false, ◌&&◌, and-eq-true_iff}
use mathlib.Core.List.{List}
use Prim.Native.Nat.{ℕ, ◌+◌, ◌≤◌, ◌<◌}
use native.Mathlib.Omega.{arith}
use lib.Dec.{eqb}
use borrow.Author.Tests.{ltb-true}
use lib.ListN.{length, drop, get_or, drop_of_length-le}
use Rattle.text.proofs.Reading.{drop_byte}
use Rattle.session_spec.specs.Shape.{fits, deeper, shaped_after}

module _ (s : List ℕ) (d p i : ℕ) where
  pub shaped-end : length s ≤ i → shaped_after d p (drop i s) ≡ eqb p 10
  unfolding shaped_after
  shaped-end h = rw (drop_of_length-le s h)

  pub shaped-more : i < length s → shaped_after d p (drop i s) ≡ (fits d p (get_or s i 0) && shaped_after (deeper d (get_or s i 0)) (get_or s i 0) (drop (i + 1) s))
  unfolding shaped_after
  shaped-more h = rw (drop_byte s i h)

-- brackets are at most 8 deep
pub still_8 : (d p b : ℕ) → d ≤ 8 → fits d p b ≡ true → deeper d b ≤ 8
unfolding fits deeper
still_8 d p b h e = go (eqb b 40) (eqb b 41) refl refl
  where
    go : (x y : Bool) → eqb b 40 ≡ x → eqb b 41 ≡ y → deeper d b ≤ 8
    go true y f g = rw f (omega (arith, ltb-true d _ ((and-eq-true_iff _ _).0 (rw f at e)).0))
    go false true f g = rw (f, g) (omega arith)
    go false false f g = rw (f, g) h
