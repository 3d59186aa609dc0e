use native.Mathlib.Omega.{arith}
use Rattle.text.proofs.Spaced.{decimal_32}
use Rattle.session_tool.proofs.printing.put_small.Goals as goal

pub number-requires : goal.number-requires
number-requires c = omega (arith, decimal_32 c.from.result (omega arith))

pub returns-clause-upper_bound : goal.returns-clause-upper_bound
returns-clause-upper_bound c = omega (arith, decimal_32 c.from.result (omega arith), c.number.ensures.appended.stored.next)
