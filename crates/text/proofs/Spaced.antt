-- Lines that end in numbers: one number after another, and how long they are.
use mathlib.Core.Path.{◌≡◌, ap, ◌∙◌}
use mathlib.Core.List.{List, [], ◌∷◌, ◌++◌}
use Prim.Native.Nat.{ℕ, ◌+◌, ◌≤◌, ◌<◌}
use native.Mathlib.Numerals.{add-one}
use native.Mathlib.Omega.{arith}
use lib.ListN.{length, drop, get_or, length-append, drop_of_length-le}
use lib.Seq.{drop-cons}
use Rattle.text.specs.Bytes.{bytes, decimal}
use Rattle.text.specs.Lines.{numbers, line}
use Rattle.text.proofs.Decimal.{decimal-short}

pub numbers-at : (l : List ℕ) (i : ℕ) → i < length l → numbers (drop i l) ≡ (bytes " " ++ decimal (get_or l i 0)) ++ numbers (drop (i + 1) l)
unfolding numbers
numbers-at l i h = rw (drop-cons l i 0 h, add-one)

pub numbers-room : (l : List ℕ) (i : ℕ) → i < length l → length (numbers (drop i l)) ≡ 1 + (length (decimal (get_or l i 0)) + length (numbers (drop (i + 1) l)))
numbers-room l i h = ap length (numbers-at l i h) ∙ omega (arith, length-append (bytes " " ++ decimal (get_or l i 0)) (numbers (drop (i + 1) l)))

pub numbers-end : (l : List ℕ) (i : ℕ) → length l ≤ i → numbers (drop i l) ≡ []
unfolding numbers
numbers-end l i h = rw (drop_of_length-le l h)

-- LENGTHS

pub decimal_32 : (n : ℕ) → n ≤ 4294967295 → length (decimal n) ≤ 10
decimal_32 n h = decimal-short 9 n (omega arith)

pub decimal_64 : (n : ℕ) → n ≤ 18446744073709551615 → length (decimal n) ≤ 20
decimal_64 n h = decimal-short 19 n (omega arith)

pub numbers_length : (n : ℕ) (l : List ℕ) → length (numbers (n ∷ l)) ≡ 1 + (length (decimal n) + length (numbers l))
unfolding numbers
numbers_length n l = omega (arith, length-append (decimal n) (numbers l))

pub none_length : length (numbers []) ≡ 0
unfolding numbers
none_length = omega arith

pub numbers_2 : (a b : ℕ) → a ≤ 4294967295 → b ≤ 4294967295 → length (numbers (a ∷ b ∷ [])) ≤ 22
numbers_2 a b h k = omega (arith, numbers_length a (b ∷ []), numbers_length b [], none_length, decimal_32 a h, decimal_32 b k)

pub numbers_3 : (a b c : ℕ) → a ≤ 4294967295 → b ≤ 4294967295 → c ≤ 4294967295 → length (numbers (a ∷ b ∷ c ∷ [])) ≤ 33
numbers_3 a b c h i j = omega (arith, numbers_length a (b ∷ c ∷ []), numbers_2 b c i j, decimal_32 a h)

pub line_length : (s l : List ℕ) → length (line s l) ≡ length s + length (numbers l) + 2
line_length s l = length-append (s ++ numbers l) (bytes ")\n") ∙ ap (λ (n : ℕ). n + 2) (length-append s (numbers l))

pub line_1 : (s : List ℕ) (a : ℕ) → a ≤ 4294967295 → length (line s (a ∷ [])) ≤ length s + 13
line_1 s a h = omega (arith, line_length s (a ∷ []), numbers_length a [], none_length, decimal_32 a h)
