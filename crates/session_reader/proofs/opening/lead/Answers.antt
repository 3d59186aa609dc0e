use Rattle.session_reader.proofs.Arms.{lead_ends}
use Rattle.session_spec.specs.Session.{read_opening}
use Rattle.session_reader.proofs.opening.lead.Goals as goal

pub returns-in_err-a : goal.returns-in_err-a
unfolding read_opening
returns-in_err-a c = rw (c.from_residual.ensures, c.in_err-a.ensures)

pub returns-in_err-b : goal.returns-in_err-b
unfolding read_opening
returns-in_err-b c = rw (c.from_residual-in_err-b.ensures, c.in_ok-a.ensures.finds, c.in_err-b.ensures.several_is)

pub returns : goal.returns
returns c = lead_ends c.args.s.now c.numbers.new.out c.in_ok-a.ensures c.in_ok-b.ensures.several_is c.starts_with-2.result c.starts_with-2.ensures
