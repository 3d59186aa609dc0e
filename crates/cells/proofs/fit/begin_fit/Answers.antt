-- A begin without question 6.
-- Of a fit state it is the definition's begin; of any state it is the begin that does not ask question 6.
use borrow.Author.Tests.{le-ltb}
use Rattle.cells_spec.specs.Begin.{begun}
use Rattle.std.proofs.lemmas.Result.{err_from_is_err_and}
use Rattle.cells.proofs.Asked.{refuses}
use Rattle.cells.proofs.fit.begin_fit.Goals as goal

-- No such task.
-- It is refused with 7.

pub returns-then-s-task-clause-of_a_fit_state : goal.returns-then-s-task-clause-of_a_fit_state
unfolding begun
returns-then-s-task-clause-of_a_fit_state c p e = rw (e, le-ltb _ _ c.if-s-task.true)

pub returns-then-s-task-clause-of_any_state : goal.returns-then-s-task-clause-of_any_state
returns-then-s-task-clause-of_any_state c p = rw (le-ltb _ _ c.if-s-task.true)

pub returns-in_err-begin_questions-clause-of_a_fit_state : goal.returns-in_err-begin_questions-clause-of_a_fit_state
unfolding begun
returns-in_err-begin_questions-clause-of_a_fit_state c p e =
    let k = err_from_is_err_and c.from_residual.result c.from_residual.ensures.1 in
    rw (k.1, k.2, e) (refuses _ _ _ c.in_err-begin_questions.ensures)

pub returns-in_err-begin_questions-clause-of_any_state : goal.returns-in_err-begin_questions-clause-of_any_state
returns-in_err-begin_questions-clause-of_any_state c p =
    let k = err_from_is_err_and c.from_residual.result c.from_residual.ensures.1 in
    rw (k.1, k.2) (refuses _ _ _ c.in_err-begin_questions.ensures)

pub returns-clause-of_a_fit_state : goal.returns-clause-of_a_fit_state
unfolding begun
returns-clause-of_a_fit_state c p e = rw (e, ← c.in_ok-begin_questions.ensures)

pub returns-clause-of_any_state : goal.returns-clause-of_any_state
returns-clause-of_any_state c p = rw (← c.in_ok-begin_questions.ensures)
