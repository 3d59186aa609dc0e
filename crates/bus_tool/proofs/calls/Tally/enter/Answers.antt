use Rattle.std.proofs.Common.{get_or, arith}
use Rattle.figure_lines.specs.Answers.{result_of}
use Rattle.cells_spec.specs.Events.{report_of}
use Rattle.bus_tool.specs.Structs.{times_of}
use Rattle.bus_tool.proofs.Laws.{are_short, call_known}
use Rattle.bus_tool.proofs.calls.Tally.enter.Goals as goal

pub add-requires : goal.add-requires
add-requires c = let a = c.args in
    let k = call_known (times_of a.ranges) (are_short a.ranges) (get_or a.self.now.finished a.task 0) (a.task, report_of (result_of a.f)) c.timed-call.ensures in
    (omega (arith, k.0, c.requires.totals_bound), omega (arith, k.1, c.requires.totals_bound))
