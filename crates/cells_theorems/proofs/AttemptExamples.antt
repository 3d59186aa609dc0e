-- The decisions of a block over two of its lives, computed: 1 in each, and none right after it was taken again.
use mathlib.Core.Path.{◌≡◌, refl}
use mathlib.Core.List.{List, [], ◌∷◌, ◌++◌}
use Prim.Native.Nat.{ℕ, ◌+◌}
use lib.ListN.{replicate}
use Rattle.cells_spec.specs.Questions.{has_none, open_questions, record_fit, cells_fit, records_fit, uses, counts_true, fit}
use Rattle.cells_spec.specs.Blocks.{first_unused}
use Rattle.figure_lines.specs.Record.{idle}
use Rattle.history_spec.specs.History.{swap, Action, begin, step, run}
use Rattle.cells_spec.specs.Open.{opened}
use Rattle.cells_spec.specs.StoredCounts.{recounted}
use Rattle.cells_spec.specs.Begin.{swap_begun}
use Rattle.cells_spec.specs.Step.{current, ran, stepped}
use Rattle.cells_spec.specs.Machine.{Pool, pool}
use Rattle.cells_theorems.specs.Terms.{start}
use Rattle.cells_theorems.specs.Attempts.{decisions}

-- two tasks, four blocks and one cell that holds 5
abbrev first : Pool
first = start (record { tasks = 7; cells = 7; blocks = 7; last = 7; current = replicate 16 7; records = replicate 32 idle; counts = replicate 128 7 }) (replicate 20 9) 2 1 4 (5 ∷ [])

-- they collide on the cell's block: task 1 decides it and replaces it, putting v + 1 for v; task 0, which expects e, comes too late
abbrev collision : (e v steps : ℕ) → List Action
collision e v i = begin 0 (swap 0 e 99) ∷ begin 1 (swap 0 v (v + 1)) ∷ replicate 4 (step 0) ++ replicate i (step 1)

-- expecting the same, task 0 takes a block, and leaves it; expecting another value, it answers no
abbrev rounds : List Action
rounds = collision 5 5 13 ++ replicate 11 (step 0) ++ collision 9 6 13 ++ replicate 5 (step 0) ++ collision 9 7 13 ++ replicate 5 (step 0)

abbrev Decisions : List (List Action × ℕ) → Type 0
Decisions [] = Unit {0}
Decisions ((l, n) ∷ c) = (decisions first (λ b. 0) l 0 ≡ n) × Decisions c

-- the decisions of block 0
examples :
    Decisions (
    -- task 1's sixth step is its deciding attempt; task 0's comes later and is lost
    (collision 5 5 5, 0) ∷
    (collision 5 5 6, 1) ∷
    -- block 0 is taken again: its new life
    (rounds, 0) ∷
    (rounds ++ collision 8 8 6, 1) ∷ [])
unfolding opened open_questions has_none fit record_fit cells_fit records_fit uses counts_true first_unused recounted swap_begun ran stepped
examples = (refl, (refl, (refl, (refl, tt))))

-- and is the cell's once more
again : current (run pool first rounds).0 0 ≡ 0
unfolding opened open_questions has_none fit record_fit cells_fit records_fit uses counts_true first_unused recounted swap_begun ran stepped
again = refl
