use Prim.Native.Nat.{◌+◌, ◌-◌, ◌*◌, ◌≤◌}
use Rattle.session_spec.specs.Printed.{cell_lines}
use Rattle.text.proofs.Pages.{Onward}
use Rattle.session_tool.proofs.play.put_cells.Given as goal

abbrev pub invariant-loop-k : goal.invariant-loop-k
invariant-loop-k l = Onward l.initial.page l.page (cell_lines l.s l.pool l.k (l.s.cells - l.k)) (cell_lines l.s l.pool 0 l.s.cells) × (l.page.at ≤ l.initial.page.at + 67 * l.k)
