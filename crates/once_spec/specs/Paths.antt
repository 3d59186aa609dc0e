-- The eleven complete paths of figure 1 in the variant, and their counts.
use Rattle.std.specs.Prelude.{◌≡◌, refl, List, [], ◌∷◌, ◌++◌, map, ℕ, length}
use Rattle.once_spec.specs.Figure.{Stage, write_x, read_y, write_y, read_x, store_v, read_c, store_d, set_c, test_v, load_v, look_d, cas_d, read_d}
use Rattle.once_spec.specs.History.{attempts_in}

-- lost at Y; lost at X; won
abbrev pub by_y : List Stage
by_y = write_x ∷ read_y ∷ set_c ∷ test_v ∷ []

abbrev pub by_x : List Stage
by_x = write_x ∷ read_y ∷ write_y ∷ read_x ∷ set_c ∷ test_v ∷ []

abbrev pub won_splitter : List Stage
won_splitter = write_x ∷ read_y ∷ write_y ∷ read_x ∷ store_v ∷ read_c ∷ []

-- V was there: its value is taken over
abbrev pub with_v : List Stage
with_v = load_v ∷ []

-- D was found; D was none, and the hardware CAS is tried
abbrev pub with_d : List Stage
with_d = look_d ∷ []

abbrev pub trying : List Stage
trying = look_d ∷ cas_d ∷ read_d ∷ []

abbrev pub once_paths : List (List Stage)
once_paths =
    (by_y ++ with_d) ∷ (by_y ++ (with_v ++ with_d)) ∷ (by_y ++ trying) ∷ (by_y ++ (with_v ++ trying)) ∷
    (by_x ++ with_d) ∷ (by_x ++ (with_v ++ with_d)) ∷ (by_x ++ trying) ∷ (by_x ++ (with_v ++ trying)) ∷
    (won_splitter ++ (store_d ∷ [])) ∷ (won_splitter ++ with_d) ∷ (won_splitter ++ trying) ∷ []

-- steps and hardware CAS attempts of each
abbrev pub once_table : List (ℕ × ℕ)
once_table =
    (5, 0) ∷ (6, 0) ∷ (7, 1) ∷ (8, 1) ∷
    (7, 0) ∷ (8, 0) ∷ (9, 1) ∷ (10, 1) ∷
    (7, 0) ∷ (7, 0) ∷ (9, 1) ∷ []

-- each count is the steps done
pub table_is : map (λ p. (length p, attempts_in p)) once_paths ≡ once_table
table_is = refl
