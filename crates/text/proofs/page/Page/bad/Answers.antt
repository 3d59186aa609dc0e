use Rattle.std.proofs.Common.{arith}
use Rattle.text.proofs.Spaced.{line_1}
use Rattle.text.specs.Bytes.{bytes}
use Rattle.text.proofs.page.Page.bad.Goals as goal

pub line-requires : goal.line-requires
line-requires c = omega (arith, line_1 (bytes "(bad") c.from.result (omega arith))

pub returns-clause-upper_bound : goal.returns-clause-upper_bound
returns-clause-upper_bound c = omega (arith, line_1 (bytes "(bad") c.from.result (omega arith), c.line.ensures.appended.stored.next)

pub returns-clause-written : goal.returns-clause-written
returns-clause-written c = rw (← c.from.ensures) c.line.ensures
