use mathlib.Core.Path.{◌≡◌}
use Rattle.figure_lines.specs.Paths.{row_below, row_of}
use Rattle.cells_step.proofs.paths.row_of.Given as goal

-- What is left below finds what the whole search finds.
abbrev pub invariant-loop-i : goal.invariant-loop-i
invariant-loop-i l = row_below l.i l.steps l.hard ≡ row_of l.steps l.hard
