-- The digits of a number.
use mathlib.Core.Path.{◌≡◌, refl, ap, ◌∙◌}
use mathlib.Core.Bool.{Bool, true, false, cond}
use mathlib.Core.List.{[], ◌∷◌, ◌++◌}
use Prim.Native.Nat.{ℕ, zero, suc, ◌+◌, ◌-◌, ◌/◌, ◌%◌, ◌^◌, ◌≤◌, ◌<◌}
use native.Mathlib.Nat.{div-lt_iff_lt-mul, pow-suc}
use native.Mathlib.Numerals.{sub-one}
use native.Mathlib.Omega.{arith}
use borrow.Author.Tests.{lt-ltb, le-ltb}
use lib.Dec.{ltb}
use lib.ListN.{length, length-append}
use Rattle.text.specs.Bytes.{digits, decimal}

pub digits_none : (k n : ℕ) → k ≡ 0 → digits k n ≡ []
unfolding digits
digits_none k n e = rw e

pub digits_one : (k n : ℕ) → (k ≡ 0 → ⊥) → n < 10 → digits k n ≡ (48 + n % 10) ∷ []
unfolding digits
digits_one zero n f h = absurd (f refl)
digits_one (suc k) n f h = rw (lt-ltb n 10 h)

pub digits_more : (k n : ℕ) → (k ≡ 0 → ⊥) → 10 ≤ n → digits k n ≡ digits (k - 1) (n / 10) ++ ((48 + n % 10) ∷ [])
unfolding digits
digits_more zero n f h = absurd (f refl)
digits_more (suc k) n f h = rw (le-ltb n 10 h, sub-one)

-- the last digit's place, and room for those before it
pub digits-room : (k n : ℕ) → (k ≡ 0 → ⊥) → 10 ≤ n → length (digits k n) ≡ length (digits (k - 1) (n / 10)) + 1
digits-room k n f h = ap length (digits_more k n f h) ∙ length-append (digits (k - 1) (n / 10)) ((48 + n % 10) ∷ [])

-- a number below 10 ^ (k + 1) has at most k + 1 digits
pub short : (j k n : ℕ) → n < 10 ^ suc k → length (digits j n) ≤ suc k
unfolding digits
short zero k n h = omega arith
short (suc j) zero n h = rw (lt-ltb n 10 h) (omega arith)
short (suc j) (suc k) n h =
    let below : n / 10 < 10 ^ suc k = (div-lt_iff_lt-mul {k = 10} {x = n} {y = 10 ^ suc k} (omega arith)).1 (rw pow-suc at h) in
    one_more (ltb n 10) (short j k (n / 10) below)
  where
    one_more : (b : Bool) → length (digits j (n / 10)) ≤ suc k → length (cond b [] (digits j (n / 10)) ++ ((48 + n % 10) ∷ [])) ≤ suc (suc k)
    one_more true h = omega arith
    one_more false h = omega (arith, length-append (digits j (n / 10)) ((48 + n % 10) ∷ []))

pub decimal-short : (k n : ℕ) → n < 10 ^ suc k → length (decimal n) ≤ suc k
decimal-short k n h = short 20 k n h
