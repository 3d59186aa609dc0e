-- Looking row after row downward, what is left below row i decides the whole search, w.
use mathlib.Core.Path.{◌≡◌, sym, ap, ◌∙◌}
use mathlib.Core.Bool.{and-false}
use mathlib.Core.Option.{Option, none, some}
use Prim.Native.Nat.{ℕ, suc, ◌-◌, ◌≤◌, ◌<◌}
use native.Mathlib.Omega.{arith}
use lib.Dec.{eqb}
use borrow.Author.Tests.{eq-eqb, ne_eqb}
use Rattle.figure_lines.specs.Paths.{entry, row_below}

module _ (i s h : ℕ) {w : Option (ℕ × ℕ)} (left : row_below i s h ≡ w) where
  one_less : 0 < i → row_below i s h ≡ row_below (suc (i - 1)) s h
  one_less b = let e : i ≡ suc (i - 1) = omega arith in ap (λ (n : ℕ). row_below n s h) e

  pub row_here : 0 < i → entry (i - 1) 0 ≡ s → entry (i - 1) 3 ≡ h → some (entry (i - 1) 1, entry (i - 1) 2) ≡ w
  row_here b e g = sym (one_less b ∙ rw (eq-eqb _ _ e, eq-eqb _ _ g)) ∙ left

  -- other steps, or other attempts
  pub row-steps : 0 < i → (entry (i - 1) 0 ≡ s → ⊥) → row_below (i - 1) s h ≡ w
  row-steps b e = sym (one_less b ∙ rw (ne_eqb _ _ e)) ∙ left

  pub row-hard : 0 < i → (entry (i - 1) 3 ≡ h → ⊥) → row_below (i - 1) s h ≡ w
  row-hard b e = sym (one_less b ∙ rw (ne_eqb _ _ e, and-false (eqb (entry (i - 1) 0) s))) ∙ left

  pub row_none : i ≤ 0 → none ≡ w
  row_none b = let e : i ≡ 0 = omega arith in sym (ap (λ (n : ℕ). row_below n s h) e) ∙ left
