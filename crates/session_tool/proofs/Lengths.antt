-- How long the lines are.
use mathlib.Core.Path.{◌≡◌}
use mathlib.Core.List.{List, [], ◌∷◌}
use Prim.Native.Nat.{ℕ, ◌+◌, ◌≤◌, ◌<◌}
use native.Mathlib.Omega.{arith}
use lib.ListN.{length}
use Rattle.text.specs.Bytes.{bytes, decimal}
use Rattle.text.proofs.Decimal.{decimal-short}
use Rattle.text.specs.Lines.{numbers, line}
use Rattle.text.proofs.Spaced.{decimal_64, numbers_length, none_length, numbers_2, line_length}

pub line_2 : (s : List ℕ) (a b : ℕ) → a ≤ 4294967295 → b ≤ 4294967295 → length (line s (a ∷ b ∷ [])) ≤ length s + 24
line_2 s a b h k = omega (arith, line_length s (a ∷ b ∷ []), numbers_2 a b h k)

pub line_4 : (s : List ℕ) (a b c d : ℕ) → a ≤ 18446744073709551615 → b ≤ 18446744073709551615 → c ≤ 18446744073709551615 → d ≤ 18446744073709551615 → length (line s (a ∷ b ∷ c ∷ d ∷ [])) ≤ length s + 86
line_4 s a b c d h i j k =
    omega (arith, line_length s (a ∷ b ∷ c ∷ d ∷ []), numbers_length a (b ∷ c ∷ d ∷ []), numbers_length b (c ∷ d ∷ []), numbers_length c (d ∷ []), numbers_length d [], none_length, decimal_64 a h, decimal_64 b i, decimal_64 c j, decimal_64 d k)

-- the line of a finished call, where it starts at a, its numbers at d, and its last part at e
pub done-short : (at d e t k s w l : ℕ) → d ≤ at + 23 + (length (decimal t) + length (decimal k)) → e ≡ d + length (numbers (s ∷ w ∷ l ∷ [])) → (t < 100) × (k < 100) × (s < 100) × (w < 10) × (l < 10) → e + 2 ≤ at + 36
done-short at d e t k s w l x y z =
    omega (arith, x, y, numbers_length s (w ∷ l ∷ []), numbers_length w (l ∷ []), numbers_length l [], none_length, decimal-short 1 t z.0, decimal-short 1 k z.1, decimal-short 1 s z.2, decimal-short 0 w z.3, decimal-short 0 l z.4)

-- the line of a refusal
pub no_length : (i n : ℕ) → i < 100000 → n < 100 → length (line (bytes "(no") (i ∷ n ∷ [])) ≤ 14
no_length i n h k = omega (arith, line_length (bytes "(no") (i ∷ n ∷ []), numbers_length i (n ∷ []), numbers_length n [], none_length, decimal-short 4 i h, decimal-short 1 n k)
