use native.Mathlib.Omega.{arith}
use Rattle.text.proofs.Decimal.{decimal-short}
use Rattle.moments_tool.proofs.words.put_small.Goals as goal

pub number-requires : goal.number-requires
number-requires c = omega (arith, c.from.ensures, decimal-short 4 c.from.result (omega (arith, c.from.ensures, c.requires.1)))

pub returns-clause-upper_bound : goal.returns-clause-upper_bound
returns-clause-upper_bound c = let w = c.from in
    let p = c.number.ensures.appended.stored.next in
    (omega (arith, p, decimal-short 4 w.result (omega (arith, w.ensures, c.requires.1))), λ h. omega (arith, p, decimal-short 1 w.result (omega (arith, w.ensures, h))))
