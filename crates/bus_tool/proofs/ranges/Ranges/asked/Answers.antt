use Rattle.bus_tool.specs.Kinds.{times_between}
use Rattle.bus_tool.proofs.Laws.{refused-21, refused-22, none_refused}
use Rattle.bus_tool.proofs.ranges.Ranges.asked.Goals as goal

pub returns-then-not-are_within : goal.returns-then-not-are_within
returns-then-not-are_within c = refused-21 (times_between c.args.low c.args.high) c.are_within.ensures c.if-not-are_within.true

pub returns-then-not-are_short : goal.returns-then-not-are_short
returns-then-not-are_short c = refused-22 (times_between c.args.low c.args.high) c.are_within.ensures c.if-not-are_within.false c.are_short.ensures c.if-not-are_short.true

pub invariant_of-result : goal.invariant_of-result
invariant_of-result c = record { allowed = none_refused (times_between c.args.low c.args.high) c.are_within.ensures c.if-not-are_within.false c.are_short.ensures c.if-not-are_short.false }
