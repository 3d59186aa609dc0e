use Rattle.session_reader.proofs.Arms.{values_wrong, end_wrong, opening-at}
use Rattle.session_reader.proofs.opening.opening.Goals as goal

pub returns-in_err-count-clause-opened_is : goal.returns-in_err-count-clause-opened_is
returns-in_err-count-clause-opened_is c =
    rw c.from_residual-in_err-count.ensures (values_wrong _ _ c.in_ok-c.ensures c.in_err-count.ensures.values_are)

pub returns-in_err-next-clause-opened_is : goal.returns-in_err-next-clause-opened_is
returns-in_err-next-clause-opened_is c =
    rw c.from_residual-in_err-next.ensures (end_wrong _ _ c.in_ok-c.ensures c.in_ok-count.ensures.values_are c.in_err-next.ensures)

pub returns-clause-opened_is : goal.returns-clause-opened_is
returns-clause-opened_is c =
    opening-at c.args.s.now c.lead.new.out c.in_ok-c.ensures c.in_ok-count.ensures.values_are c.in_ok-next.ensures
