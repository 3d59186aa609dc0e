-- Sums over numbers in a row.
use mathlib.Core.Path.{◌≡◌, refl, ap}
use mathlib.Core.Logic.{⊎_elim}
use mathlib.Core.Bool.{Bool, true, false, cond}
use Prim.Native.Nat.{ℕ, zero, suc, ◌+◌, ◌*◌, ◌≤◌, ◌<◌}
use native.Mathlib.Omega.{arith}
use native.Mathlib.Nat.{eq-or-lt_of_le}
use Rattle.figure_lines.specs.Basics.{sum_from}

-- 1 if so
abbrev pub once : Bool → ℕ
once b = cond b 1 0

pub once-most : (b : Bool) → once b ≤ 1
once-most true = omega arith
once-most false = omega arith

plus_zero : (i : ℕ) → i + 0 ≡ i
plus_zero i = omega arith

pub sum-last : (f : ℕ → ℕ) (i k : ℕ) → sum_from f i (suc k) ≡ sum_from f i k + f (i + k)
sum-last f i zero = omega (arith, ap f (plus_zero i))
sum-last f i (suc k) = omega (arith, sum-last f (i + 1) k, ap f (moved i k))
  where
    moved : (i k : ℕ) → i + 1 + k ≡ i + suc k
    moved i k = omega arith

-- of two functions with the same values
pub sum_same : (f g : ℕ → ℕ) (i k : ℕ) → ((j : ℕ) → i ≤ j → j < i + k → g j ≡ f j) → sum_from g i k ≡ sum_from f i k
sum_same f g i zero h = refl
sum_same f g i (suc k) h = rw (h i (omega arith) (omega arith), sum_same f g (i + 1) k (λ j l m. h j (omega arith) (omega arith)))

-- in two parts
pub sum_split : (f : ℕ → ℕ) (i k n : ℕ) → sum_from f i (k + n) ≡ sum_from f i k + sum_from f (i + k) n
sum_split f i zero n =
    let e : i + zero ≡ i = omega arith in
    let z : zero + n ≡ n = omega arith in
    rw (e, z) (omega arith)
sum_split f i (suc k) n =
    let e : suc k + n ≡ suc (k + n) = omega arith in
    let g : i + 1 + k ≡ i + suc k = omega arith in
    rw (e, ← g) (omega (arith, sum_split f (i + 1) k n))

-- of two functions that differ at one place alone
pub sum_changed : (f g : ℕ → ℕ) (t i k : ℕ) → i ≤ t → t < i + k → ((j : ℕ) → (j ≡ t → ⊥) → g j ≡ f j) → sum_from g i k + f t ≡ sum_from f i k + g t
sum_changed f g t i zero l m h = absurd (omega arith)
sum_changed f g t i (suc k) l m h =
    ⊎_elim
    (λ q. rw (← q, sum_same f g (i + 1) k (λ j a b. h j (λ e. omega arith))) (omega arith))
    (λ lt. rw (h i (λ e. omega arith)) (omega (arith, sum_changed f g t (i + 1) k (omega arith) (omega arith) h)))
    (eq-or-lt_of_le l)

-- each value is at most the sum
pub sum-at : (f : ℕ → ℕ) (t i k : ℕ) → i ≤ t → t < i + k → f t ≤ sum_from f i k
sum-at f t i zero l m = absurd (omega arith)
sum-at f t i (suc k) l m = ⊎_elim (λ q. rw (← q) (omega arith)) (λ lt. omega (arith, sum-at f t (i + 1) k (omega arith) (omega arith))) (eq-or-lt_of_le l)

pub sum_zero : (f : ℕ → ℕ) (i k : ℕ) → ((j : ℕ) → i ≤ j → j < i + k → f j ≡ 0) → sum_from f i k ≡ 0
sum_zero f i zero h = refl
sum_zero f i (suc k) h = rw (h i (omega arith) (omega arith), sum_zero f (i + 1) k (λ j l m. h j (omega arith) (omega arith)))

-- each value is at most m
pub sum-most : (f : ℕ → ℕ) (m i k : ℕ) → ((j : ℕ) → f j ≤ m) → sum_from f i k ≤ k * m
sum-most f m i zero h = omega arith
sum-most f m i (suc k) h = omega (arith, h i, sum-most f m (i + 1) k h)

-- each value is at most 1, and one of them is 0
pub sum_less : (f : ℕ → ℕ) (t i k : ℕ) → ((j : ℕ) → f j ≤ 1) → f t ≡ 0 → i ≤ t → t < i + k → sum_from f i k < k
sum_less f t i zero h d l m = absurd (omega arith)
sum_less f t i (suc k) h d l m =
    ⊎_elim
    (λ q. omega (arith, rw (← q) at d, sum-most f 1 (i + 1) k h))
    (λ lt. omega (arith, h i, sum_less f t (i + 1) k h d (omega arith) (omega arith)))
    (eq-or-lt_of_le l)

pub sum-add : (f g : ℕ → ℕ) (i k : ℕ) → sum_from (λ j. f j + g j) i k ≡ sum_from f i k + sum_from g i k
sum-add f g i zero = refl
sum-add f g i (suc k) = omega (arith, sum-add f g (i + 1) k)

-- rows first, or columns first
pub sum-turned : (f : ℕ → ℕ → ℕ) (i k j n : ℕ) → sum_from (λ a. sum_from (f a) j n) i k ≡ sum_from (λ b. sum_from (λ a. f a b) i k) j n
sum-turned f i zero j n = rw (sum_zero (λ b. 0) j n (λ b l m. refl))
sum-turned f i (suc k) j n = rw (sum-turned f (i + 1) k j n, sum-add (f i) (λ b. sum_from (λ a. f a b) (i + 1) k) j n)
