use Prim.Native.Nat.{◌+◌, ◌*◌, ◌≤◌}
use lib.ListN.{drop}
use Rattle.cells_theorems.specs.Reached.{Reached}
use Rattle.session_engine.specs.Tool.{all_of}
use Rattle.session_spec.specs.Printed.{played}
use Rattle.session_tool.specs.Loop.{played_on}
use Rattle.session_tool.specs.Totals.{totals_of}
use Rattle.text.proofs.Pages.{Onward}
use Rattle.session_tool.proofs.Room.{weights}
use Rattle.session_tool.proofs.play.play.Given as goal

abbrev pub invariant-loop-i : goal.invariant-loop-i
invariant-loop-i l =
    let n = l.fn.first.tasks in
    let v = l.fn.first.cells in
    Onward l.initial.page l.page (played_on n v l.i (totals_of l.z) (l.s, l.pool) (drop l.i (all_of l.fn.actions))) (played n v (l.fn.first, l.initial.pool) (all_of l.fn.actions))
    × (l.page.at + weights l.s.records ≤ l.initial.page.at + 14 * l.i + 896) × (l.z.finished ≤ l.i) × (l.z.hard ≤ l.i * 100) × Reached n v l.s l.pool
