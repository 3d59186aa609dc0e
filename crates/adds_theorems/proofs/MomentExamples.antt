-- When the parts of adds happen, worked out: what is listed, at which request, of which task, and by which rule.
use mathlib.Core.Path.{◌≡◌, refl}
use mathlib.Core.List.{List, [], ◌∷◌, ◌++◌, map}
use Prim.Native.Nat.{ℕ}
use lib.ListN.{replicate}
use Rattle.cells_spec.specs.Questions.{fit, record_fit, cells_fit, records_fit, has_none, open_questions, uses, counts_true}
use Rattle.cells_spec.specs.Blocks.{first_unused}
use Rattle.history_spec.specs.Basics.{upd}
use Rattle.history_spec.specs.History.{swap, begin, drop}
use Rattle.history_spec.specs.Moments.{Mark, Rule, R1, R2, C2, C3, C4, C5, C6}
use Rattle.cells_spec.specs.Open.{blank, opened}
use Rattle.cells_spec.specs.Begin.{read_begun, swap_begun}
use Rattle.cells_spec.specs.StoredCounts.{recounted}
use Rattle.cells_spec.specs.Step.{ran, stepped}
use Rattle.cells_spec.specs.Drop.{dropped}
use Rattle.adds_spec.specs.Requests.{Request, act, add}
use Rattle.adds_spec.proofs.AddExamples.{steps, stored_then_withdrawn}
use Rattle.adds_theorems.specs.Moments.{pool_request_moments}

abbrev listed : List Request → List (ℕ × ℕ × Rule)
listed l = let r = opened blank (replicate 20 0) 2 1 4 (5 ∷ []) in map (λ (m : Mark). (m.spot.moment, m.call.task, m.spot.rule)) (pool_request_moments 2 (r.state, r.pool) l)

abbrev Lists : List (List Request × List (ℕ × ℕ × Rule)) → Type 0
Lists [] = Unit {0}
Lists (x ∷ l) = (listed x.0 ≡ x.1) × Lists l

-- task 1's add of 4 has read 5, task 0 swaps 5 to 7; it makes the block inactive (request 15), then the add's swap stores 9, late (request 16)
abbrev late_store : List Request
late_store = (add 1 0 4 2 ∷ steps 1 3) ++ (act (begin 0 (swap 0 5 7)) ∷ steps 0 2) ++ steps 1 7 ++ steps 0 2 ++ steps 1 1

pub listed_moments : Lists (
    -- a refused add is a request too; the add's read, another's swap, the add's swap that finds it, and its second try
    ((add 0 0 3 0 ∷ add 0 0 3 2 ∷ steps 0 3) ++ (act (begin 1 (swap 0 5 9)) ∷ steps 1 10) ++ steps 0 21, (3, 0, R1) ∷ (13, 1, C4) ∷ (21, 0, C2) ∷ (25, 0, R1) ∷ (34, 0, C4) ∷ []) ∷
    -- of a withdrawn add: its read is finished, its swap has stored, and another add goes on from there
    (stored_then_withdrawn ++ add 1 0 4 2 ∷ steps 1 16, (2, 0, R1) ∷ (11, 0, C4) ∷ (16, 1, R1) ∷ (30, 1, C6) ∷ []) ∷
    -- its swap had not stored
    ((add 0 0 3 1 ∷ steps 0 10) ++ act (drop 0) ∷ add 1 0 4 2 ∷ steps 1 16, (2, 0, R1) ∷ (14, 1, R1) ∷ (28, 1, C6) ∷ []) ∷
    -- its swap had stored late: listed as soon as its value is decided (request 19), where the block became inactive, and not before
    (late_store ++ act (drop 1) ∷ steps 0 1, (2, 1, R1) ∷ []) ∷
    (late_store ++ act (drop 1) ∷ steps 0 2, (2, 1, R1) ∷ (15, 1, C3) ∷ []) ∷
    -- also where its task has begun another add by then, which replaces the block
    (late_store ++ act (drop 1) ∷ add 1 0 1 2 ∷ steps 0 3 ++ steps 1 19, (2, 1, R1) ∷ (15, 1, C3) ∷ (20, 0, C5) ∷ (22, 1, R2) ∷ (40, 1, C6) ∷ []) ∷
    []
    )
unfolding fit record_fit cells_fit records_fit has_none open_questions uses counts_true first_unused recounted opened read_begun swap_begun ran stepped dropped upd
listed_moments = (refl, (refl, (refl, (refl, (refl, (refl, tt))))))
