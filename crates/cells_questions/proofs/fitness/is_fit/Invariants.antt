use mathlib.Core.Path.{◌≡◌}
use mathlib.Core.Bool.{Bool, ◌&&◌}
use Prim.Native.Nat.{ℕ, ◌≤◌, ◌-◌}
use Rattle.cells_spec.specs.declared.State.{State}
use Rattle.figure_lines.specs.Basics.{all_from}
use Rattle.figure_lines.specs.Record.{record_at}
use Rattle.cells_spec.specs.Questions.{record_fit, records_fit, counts_true, fit}
use Rattle.cells_spec.proofs.Counted.{Counted}
use Rattle.cells_questions.proofs.fitness.is_fit.Given as goal

-- The loop: what is left from here on answers for the records, and the table holds what the cells and the tasks so far use.
abbrev pub test : State → ℕ → Bool
test s t = record_fit (record_at s.records t) s.cells s.blocks

abbrev pub invariant-loop-r : goal.invariant-loop-r
invariant-loop-r l =
    (l.r-index ≤ l.s.tasks) × (all_from (test l.s) l.r-index (l.s.tasks - l.r-index) ≡ records_fit l.s) × (records_fit l.s && counts_true l.s ≡ fit l.s l.pool) × Counted l.s l.table l.r-index
