use Rattle.std.proofs.Common.{ap, ◌+◌}
use Rattle.figure_lines.specs.Answers.{result_of}
use Rattle.cells_spec.specs.Events.{report_of}
use Rattle.bus_spec.specs.Bus.{in_row}
use Rattle.bus_tool.proofs.Laws.{too_many, few_of}
use Rattle.bus_tool.proofs.calls.counts_of.Goals as goal

pub returns-then-f-clause-counts_value : goal.returns-then-f-clause-counts_value
returns-then-f-clause-counts_value c = too_many (report_of (result_of c.args.f)) c.if-f.true

pub returns-clause-hardware_bound : goal.returns-clause-hardware_bound
returns-clause-hardware_bound c = let f = c.args.f in few_of _ (report_of (result_of f)) (ap (in_row (f.won + f.lost)) c.in-Some.ensures)
