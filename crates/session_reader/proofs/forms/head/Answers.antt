use Rattle.session_reader.proofs.Arms.{numbers-rest, head_no, head_at}
use Rattle.session_spec.specs.Session.{head}
use Rattle.session_reader.proofs.forms.head.Goals as goal

pub returns-in_err-word : goal.returns-in_err-word
unfolding head
returns-in_err-word c = rw (c.from_residual.ensures, c.in_err-word.ensures)

pub returns-in_err-next : goal.returns-in_err-next
returns-in_err-next c =
    let a = c.args in
    rw c.from_residual-in_err-next.ensures (head_no a.s.now a.at c.in_ok-word.ensures (rw c.arity.ensures at c.in_err-next.ensures.several_is))

pub returns : goal.returns
returns c =
    let a = c.args in
    let x = c.in_ok-word.ensures in
    (head_at a.s.now a.at x (rw c.arity.ensures at c.in_ok-next.ensures.several_is), numbers-rest _ _ c.arity.ensures c.numbers.ensures.out_after)
