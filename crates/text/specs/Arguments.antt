-- Numbers at the start of a text, each ended by a byte that none of them has: a program's arguments by byte 0, the numbers of a
-- stored case by byte 10.
use Rattle.std.specs.Prelude.{◌≡◌, refl, Bool, true, false, List, [], ◌∷◌, ◌++◌, ℕ}
use Rattle.std.proofs.Math.Option.{Option, none, some}
use Rattle.text.specs.Bytes.{bytes}
use Rattle.text.specs.Readers.{Reader, pure, ◌>>=◌, ◌>>◌, literal, digits_after, number, several, stored}

-- a number by question 14's rule, and the byte that ends it
abbrev pub ended_by : (end : ℕ) → Reader ℕ
ended_by end = do
  n ← number
  literal (end ∷ [])
  pure n

-- an argument
abbrev pub argument : Reader ℕ
argument = ended_by 0

-- no more than were asked for
abbrev pub whole : Option (List ℕ × List ℕ) → Option (List ℕ)
whole none = none
whole (some (l, [])) = some l
whole (some (l, b ∷ s)) = none

unfoldable pub numbers_given : (k : ℕ) → List ℕ → Option (List ℕ)
numbers_given k s = whole (several argument k s)

-- what an answer of the code stands for: the numbers, or none
abbrev pub numbers_or : Bool → List ℕ → Option (List ℕ)
numbers_or true l = some l
numbers_or false l = none

-- EXAMPLES: two numbers; one missing, one too many, and what is no number

o : List ℕ
o = 0 ∷ []

two : numbers_given 2 (bytes "7" ++ o ++ bytes "4294967295" ++ o) ≡ some (7 ∷ 4294967295 ∷ [])
unfolding o literal digits_after number several numbers_given
two = refl

no-two :
    (numbers_given 2 (bytes "7" ++ o) ≡ none)
    × (numbers_given 2 (bytes "7" ++ o ++ bytes "8" ++ o ++ bytes "9" ++ o) ≡ none)
    × (numbers_given 2 (bytes "7" ++ o ++ bytes "4294967296" ++ o) ≡ none)
    × (numbers_given 2 (bytes "07" ++ o ++ bytes "8" ++ o) ≡ none)
    × (numbers_given 2 (bytes "7" ++ o ++ o) ≡ none)
    × (numbers_given 2 (bytes "-7" ++ o ++ bytes "8" ++ o) ≡ none)
    × (numbers_given 2 (bytes "7 8" ++ o) ≡ none)
unfolding o literal digits_after number several numbers_given
no-two = (refl, refl, refl, refl, refl, refl, refl)

-- what is stored over 1, 2 and 3: all that are asked for, those before what is no number, and none
some_stored :
    (stored argument 3 (bytes "7" ++ o ++ bytes "8" ++ o ++ bytes "9" ++ o) (1 ∷ 2 ∷ 3 ∷ []) ≡ 7 ∷ 8 ∷ 9 ∷ [])
    × (stored argument 2 (bytes "7" ++ o ++ bytes "8" ++ o ++ bytes "9" ++ o) (1 ∷ 2 ∷ 3 ∷ []) ≡ 7 ∷ 8 ∷ 3 ∷ [])
    × (stored argument 3 (bytes "7" ++ o ++ bytes "08" ++ o ++ bytes "9" ++ o) (1 ∷ 2 ∷ 3 ∷ []) ≡ 7 ∷ 2 ∷ 3 ∷ [])
    × (stored argument 3 (bytes "7 8") (1 ∷ 2 ∷ 3 ∷ []) ≡ 1 ∷ 2 ∷ 3 ∷ [])
    × (stored (ended_by 10) 3 (bytes "7\n8\n(read") (1 ∷ 2 ∷ 3 ∷ []) ≡ 7 ∷ 8 ∷ 3 ∷ [])
unfolding o literal digits_after number stored
some_stored = (refl, refl, refl, refl, refl)
