use Rattle.std.proofs.Common.{rules}
use Rattle.text.proofs.Counted.{given}
use Rattle.text.proofs.arguments.numbers.Goals as goal

pub returns-clause-out_after : goal.returns-clause-out_after
returns-clause-out_after c =
    let x = c.ended_numbers in
    rw c.eq.ensures (given c.args.line.now x.new.out _ x.result (search rules) x.ensures.several_is)
