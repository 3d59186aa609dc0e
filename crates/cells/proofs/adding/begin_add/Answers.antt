use Rattle.std.proofs.lemmas.Result.{err_from_is_err_and}
use Rattle.adds_spec.proofs.Entries.{read-below, add_unfit, add_refused, add_23, add_acted}
use Rattle.cells.proofs.adding.begin_add.Goals as goal

-- What the begin of the first read leaves, with the add; then question 23.
pub returns-then-not-adds_fit : goal.returns-then-not-adds_fit
returns-then-not-adds_fit c = let e = c.args in add_unfit e.s.now e.pool.now e.task e.cell e.amount e.tries c.if-not-adds_fit.ensures

pub returns-in_err-begin_read : goal.returns-in_err-begin_read
returns-in_err-begin_read c = let e = c.args in
    let k = err_from_is_err_and c.from_residual.result c.from_residual.ensures.1 in
    rw (k.1, k.2) (add_refused e.s.now e.pool.now e.task e.cell e.amount e.tries c.if-not-adds_fit.ensures c.in_err-begin_read.ensures)

pub returns-then-not-tries_ok : goal.returns-then-not-tries_ok
returns-then-not-tries_ok c = let e = c.args in
    add_23 e.s.now e.pool.now e.task e.cell e.amount e.tries c.if-not-adds_fit.ensures c.in_ok-begin_read.ensures c.if-not-tries_ok.ensures

pub bounds-s-task : goal.bounds-s-task
bounds-s-task c = let e = c.args in read-below e.s.now.cells e.pool.now e.task e.cell c.in_ok-begin_read.ensures

pub returns : goal.returns
returns c = let e = c.args in
    rw c.begun.ensures (add_acted e.s.now e.pool.now e.task e.cell e.amount e.tries c.if-not-adds_fit.ensures c.in_ok-begin_read.ensures c.if-not-tries_ok.ensures)
