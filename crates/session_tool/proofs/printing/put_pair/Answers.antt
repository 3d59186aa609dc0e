use native.Mathlib.Omega.{arith}
use Rattle.session_tool.proofs.Lengths.{line_2}
use Rattle.session_tool.proofs.printing.put_pair.Goals as goal

pub line-requires : goal.line-requires
line-requires c = omega (arith, line_2 c.args.start.now c.from.result c.from-2.result (omega arith) (omega arith), c.requires.1)

pub returns-clause-upper_bound : goal.returns-clause-upper_bound
returns-clause-upper_bound c = omega (arith, line_2 c.args.start.now c.from.result c.from-2.result (omega arith) (omega arith), c.line.ensures.appended.stored.next, c.requires.1)
