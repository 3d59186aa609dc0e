-- Texts as lists of bytes: quoted ones, and numbers in decimal.
use Rattle.std.specs.Prelude.{cond, List, ◌++◌, ℕ, zero, suc, ◌+◌, ◌/◌, ◌%◌, ltb}
use mathlib.Core.List as list
use Prim.Native.String.{String, [], ◌∷◌}
use Prim.Native.Char.{code}

-- the codes of the characters, each of them ASCII
abbrev pub bytes : String → List ℕ
bytes [] = list.[]
bytes (c ∷ s) = list.◌∷◌ (code c) (bytes s)

-- n in decimal, in at most k digits
unfoldable pub digits : ℕ → ℕ → List ℕ
digits zero n = list.[]
digits (suc k) n = cond (ltb n 10) list.[] (digits k (n / 10)) ++ list.◌∷◌ (48 + n % 10) list.[]

-- a 64-bit number has at most 20 digits
abbrev pub decimal : ℕ → List ℕ
decimal n = digits 20 n
