-- A line that starts with a text and ends in numbers.
use Rattle.std.specs.Prelude.{List, [], ◌∷◌, ◌++◌, ℕ}
use Rattle.text.specs.Bytes.{bytes, decimal}

-- numbers, each after a space
unfoldable pub numbers : List ℕ → List ℕ
numbers [] = []
numbers (n ∷ l) = bytes " " ++ decimal n ++ numbers l

abbrev pub line : List ℕ → List ℕ → List ℕ
line start l = start ++ numbers l ++ bytes ")\n"

-- a refusal, of every program that prints one
abbrev pub bad_line : (number : ℕ) → List ℕ
bad_line n = line (bytes "(bad") (n ∷ [])
