use mathlib.Core.Path.{◌≡◌}
use Prim.Native.Nat.{ℕ, ◌<◌}
use lib.ListN.{get_or, length}
use Rattle.cells_spec.specs.Questions.{names_of}
use Rattle.cells_questions.proofs.counting.count_cells.Given as goal

-- The loop: the table holds what the cells so far name.
abbrev pub invariant-loop-b : goal.invariant-loop-b
invariant-loop-b l = (length l.table ≡ 128) × ((b : ℕ) → b < 128 → get_or l.table b 0 ≡ names_of l.current b l.b-index)
