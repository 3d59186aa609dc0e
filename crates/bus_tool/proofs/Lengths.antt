-- How long the lines are.
use mathlib.Core.List.{List, [], ◌∷◌}
use Prim.Native.Nat.{ℕ, ◌+◌, ◌*◌, ◌≤◌, ◌<◌}
use native.Mathlib.Omega.{arith}
use lib.ListN.{length}
use Rattle.text.specs.Bytes.{bytes}
use Rattle.text.specs.Lines.{numbers, line}
use Rattle.text.proofs.Decimal.{decimal-short}
use Rattle.text.proofs.Spaced.{decimal_64, numbers_length, none_length, line_length}

abbrev pub All64 : List ℕ → Type 0
All64 [] = Unit {0}
All64 (n ∷ l) = (n ≤ 18446744073709551615) × All64 l

numbers-room : (l : List ℕ) → All64 l → length (numbers l) ≤ 21 * length l
numbers-room [] h = omega (arith, none_length)
numbers-room (n ∷ l) h = omega (arith, numbers_length n l, decimal_64 n h.0, numbers-room l h.1)

-- any line of numbers of 64 bits
pub line-room : (s l : List ℕ) → All64 l → length (line s l) ≤ length s + 21 * length l + 2
line-room s l h = omega (arith, line_length s l, numbers-room l h)

-- a call's line
pub call-short : (t n least greatest : ℕ) → t < 100 → n < 100000 → least < 10000000 → greatest < 10000000 → length (line (bytes "(bus") (t ∷ n ∷ least ∷ greatest ∷ [])) ≤ 31
call-short t n l g a b c d =
    omega (
      arith,
      line_length (bytes "(bus") (t ∷ n ∷ l ∷ g ∷ []),
      numbers_length t (n ∷ l ∷ g ∷ []),
      numbers_length n (l ∷ g ∷ []),
      numbers_length l (g ∷ []),
      numbers_length g [],
      none_length,
      decimal-short 1 t a,
      decimal-short 4 n b,
      decimal-short 6 l c,
      decimal-short 6 g d,
    )
