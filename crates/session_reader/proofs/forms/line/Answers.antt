use Rattle.std.proofs.Common.{arith}
use Rattle.session_spec.specs.Session as specs
use Rattle.session_reader.proofs.forms.line.Goals as goal

pub returns-in_err-over-clause-got : goal.returns-in_err-over-clause-got
unfolding specs.read_line
returns-in_err-over-clause-got c = rw (c.from_residual.ensures, c.in_err-over.ensures.got)

pub returns-in_err-next-clause-got : goal.returns-in_err-next-clause-got
unfolding specs.read_line
returns-in_err-next-clause-got c = rw (c.from_residual-in_err-next.ensures, c.in_ok-over.ensures.got.1.finds, c.in_err-next.ensures)

pub returns-clause-got : goal.returns-clause-got
unfolding specs.read_line
returns-clause-got c =
    let x = c.in_ok-over.ensures.got in
    let y = c.in_ok-next.ensures in
    (x.0, record { finds = rw (x.1.finds, y.finds); past = omega (arith, x.1.past, y.past); within = y.within }, x.2, omega (arith, x.3, y.past))
