use Rattle.std.proofs.Common.{List, ℕ, ◌+◌, ◌*◌, ◌≤◌, drop}
use Rattle.cells_theorems.specs.Reached.{Reached}
use Rattle.history_spec.specs.History.{Report}
use Rattle.session_engine.specs.Tool.{all_of}
use Rattle.text.proofs.Pages.{Onward}
use Rattle.bus_spec.specs.Bus.{bus_calls, calls_text}
use Rattle.bus_tool.specs.Structs.{times_of, sums_in}
use Rattle.bus_tool.specs.Loop.{bus_on}
use Rattle.bus_tool.proofs.Playing.{SoFar}
use Rattle.bus_tool.proofs.play.play.Given as goal

-- with the calls before
abbrev pub invariant-loop-i : goal.invariant-loop-i
invariant-loop-i l =
    let w = times_of l.ranges in
    let all = all_of l.actions in
    let z = sums_in l.tally.totals in
    (before : List (ℕ × Report))
    × Onward l.initial.page l.page (bus_on w before z (l.s, l.pool) (drop l.i all)) (calls_text (bus_calls w (l.initial.s, l.initial.pool) all))
    × SoFar l.i l.tally.finished z before × (l.page.at ≤ l.initial.page.at + 31 * l.i) × Reached l.initial.s.tasks l.initial.s.cells l.s l.pool
