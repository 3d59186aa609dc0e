-- Question 13, after document 01's "Session file": brackets, spaces and lines.
use Rattle.std.specs.Prelude.{Bool, cond, not, ◌&&◌, ◌||◌, List, [], ◌∷◌, ℕ, ◌+◌, ◌-◌, ltb, eqb}

-- 13. Are brackets balanced and at most 8 deep, the items of a list parted by exactly one space with no other space,
-- and each line, the last included, just one bracketed form ended by byte 10?

-- right before an item: a bracket that opens, or a space
abbrev pub starts_item : ℕ → Bool
starts_item p = eqb p 40 || eqb p 32

-- d brackets are open and p is the byte before, at first 10: may b stand here?
unfoldable pub fits : (d p b : ℕ) → Bool
fits d p b =
    cond (eqb b 40) (ltb d 8 && (eqb p 10 || starts_item p))
    (cond (eqb b 41) (ltb 0 d && not (eqb p 32))
    (cond (eqb b 32) (ltb 0 d && not (starts_item p))
    (cond (eqb b 10) (eqb d 0 && eqb p 41)
    (ltb 0 d && not (eqb p 41)))))

-- how many brackets are open after b
unfoldable pub deeper : (d b : ℕ) → ℕ
deeper d b = cond (eqb b 40) (d + 1) (cond (eqb b 41) (d - 1) d)

unfoldable pub shaped_after : (d p : ℕ) → List ℕ → Bool
shaped_after d p [] = eqb p 10
shaped_after d p (b ∷ s) = fits d p b && shaped_after (deeper d b) b s

abbrev pub shaped : List ℕ → Bool
shaped s = shaped_after 0 10 s
