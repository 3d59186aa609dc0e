-- Document 01's table of complete paths, the last four rows as change request 2 has them (four steps and five stores more), and the row of
-- a finished call.
use Rattle.std.specs.Prelude.{◌&&◌, cond, List, [], ◌∷◌, ℕ, zero, suc, eqb, get_or}
use Rattle.std.proofs.Math.Option.{Option, none, some}

-- steps, loads, stores and hardware CAS attempts: read, active; read, decided; no from 22; yes from 26; yes from 25; no from 28 by 17, 19, 21,
-- 25 (which no fresh opening reaches); end at 30 by 17, 19, 21, 25. That these are the counts of the lines is a theorem (`table_is`, figure/proofs/Paths.antt).
abbrev pub table : List (List ℕ)
table =
    (3 ∷ 3 ∷ 0 ∷ 0 ∷ []) ∷ (6 ∷ 5 ∷ 0 ∷ 1 ∷ []) ∷ (8 ∷ 5 ∷ 3 ∷ 0 ∷ []) ∷ (10 ∷ 6 ∷ 4 ∷ 0 ∷ []) ∷ (12 ∷ 8 ∷ 3 ∷ 1 ∷ []) ∷
    (7 ∷ 4 ∷ 2 ∷ 1 ∷ []) ∷ (9 ∷ 5 ∷ 3 ∷ 1 ∷ []) ∷ (10 ∷ 7 ∷ 2 ∷ 1 ∷ []) ∷ (15 ∷ 10 ∷ 3 ∷ 2 ∷ []) ∷
    (13 ∷ 4 ∷ 7 ∷ 2 ∷ []) ∷ (15 ∷ 5 ∷ 8 ∷ 2 ∷ []) ∷ (16 ∷ 7 ∷ 7 ∷ 2 ∷ []) ∷ (21 ∷ 10 ∷ 8 ∷ 3 ∷ []) ∷ []

-- one number of one row
abbrev pub entry : (row which : ℕ) → ℕ
entry i n = get_or (get_or table i []) n 0

-- loads and stores of the last of the first n rows that has these steps and hardware CAS attempts
abbrev pub row_below : ℕ → (steps hard : ℕ) → Option (ℕ × ℕ)
row_below zero s h = none
row_below (suc i) s h = cond (eqb (entry i 0) s && eqb (entry i 3) h) (some (entry i 1, entry i 2)) (row_below i s h)

-- Two rows have 15 steps and 2 hardware CAS attempts. The ninth no opening reaches, so the later one is meant.
unfoldable pub row_of : (steps hard : ℕ) → Option (ℕ × ℕ)
row_of = row_below 13
