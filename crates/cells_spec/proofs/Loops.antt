-- Loops that test number after number: what is left from i on decides the whole, w.
use mathlib.Core.Path.{◌≡◌, sym, ap, ◌∙◌}
use mathlib.Core.Bool.{Bool, true, false}
use Prim.Native.Nat.{ℕ, suc, ◌+◌, ◌-◌, ◌≤◌, ◌<◌}
use native.Mathlib.Omega.{arith}
use Rattle.figure_lines.specs.Basics.{all_from}

module _ (i n : ℕ) where
  more : i < n → n - i ≡ suc (n - (i + 1))
  more l = omega arith

  done : n ≤ i → n - i ≡ 0
  done l = omega arith

module _ (f : ℕ → Bool) (i n : ℕ) {w : Bool} (left : all_from f i (n - i) ≡ w) where
  pub all_no : i < n → f i ≡ false → false ≡ w
  all_no l e = sym (ap (all_from f i) (more i n l) ∙ rw e) ∙ left

  pub all_yes : i < n → f i ≡ true → all_from f (i + 1) (n - (i + 1)) ≡ w
  all_yes l e = sym (ap (all_from f i) (more i n l) ∙ rw e) ∙ left

  pub all_end : n ≤ i → true ≡ w
  all_end l = sym (ap (all_from f i) (done i n l)) ∙ left
