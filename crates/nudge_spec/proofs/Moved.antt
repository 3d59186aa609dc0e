-- Where an entry stands after the exchange of entries i and i + 1.
use mathlib.Core.Path.{◌≡◌, refl, sym, ap, ◌∙◌}
use mathlib.Core.Logic.{◌≢◌, ◌⊎◌, inl, inr}
use Prim.Native.Nat.{ℕ, suc, ◌<◌}
use lib.Dec.{eqb}
use native.Mathlib.Omega.{arith}
use borrow.Author.Tests.{eq-eqb, ne_eqb}
use Rattle.history_spec.proofs.Basics.{either}
use Rattle.nudge_spec.specs.Exchange.{moved_to}

pub moved-first : (i m : ℕ) → m ≡ i → moved_to i m ≡ suc i
moved-first i m e = rw (eq-eqb m i e)

pub moved_second : (i m : ℕ) → m ≡ suc i → moved_to i m ≡ i
moved_second i m e = rw (ne_eqb m i (λ z. omega (arith, e, z)), eq-eqb m (suc i) e)

pub moved_other : (i m : ℕ) → m ≢ i → m ≢ suc i → moved_to i m ≡ m
moved_other i m n o = rw (ne_eqb m i n, ne_eqb m (suc i) o)

pub moved_early : (i m : ℕ) → m < i → moved_to i m ≡ m
moved_early i m l = moved_other i m (λ e. omega (arith, l, e)) (λ e. omega (arith, l, e))

pub moved_late : (i m : ℕ) → suc i < m → moved_to i m ≡ m
moved_late i m l = moved_other i m (λ e. omega (arith, l, e)) (λ e. omega (arith, l, e))

-- exchanged twice it is where it was
pub moved_back : (i m : ℕ) → moved_to i (moved_to i m) ≡ m
moved_back i m = go (either m i) (either m (suc i))
  where
    go : (m ≡ i) ⊎ (m ≢ i) → (m ≡ suc i) ⊎ (m ≢ suc i) → moved_to i (moved_to i m) ≡ m
    go (inl e) z = ap (moved_to i) (moved-first i m e) ∙ (moved_second i (suc i) refl ∙ sym e)
    go (inr n) (inl e) = ap (moved_to i) (moved_second i m e) ∙ (moved-first i i refl ∙ sym e)
    go (inr n) (inr o) = ap (moved_to i) (moved_other i m n o) ∙ moved_other i m n o

pub moved_eqb : (i k m : ℕ) → eqb (moved_to i k) (moved_to i m) ≡ eqb k m
moved_eqb i k m = go (either k m)
  where
    go : (k ≡ m) ⊎ (k ≢ m) → eqb (moved_to i k) (moved_to i m) ≡ eqb k m
    go (inl e) = eq-eqb (moved_to i k) (moved_to i m) (ap (moved_to i) e) ∙ sym (eq-eqb k m e)
    go (inr n) = ne_eqb (moved_to i k) (moved_to i m) (λ e. n (sym (moved_back i k) ∙ (ap (moved_to i) e ∙ moved_back i m))) ∙ sym (ne_eqb k m n)
