use Rattle.std.proofs.lemmas.Result.{err_from_is_err_and}
use Rattle.cells_spec.proofs.Acts.{drop_untouched}
use Rattle.adds_spec.specs.Adding.{no_add, adding_dropped}
use Rattle.adds_spec.proofs.Entries.{then_kept, then_acted, drop-below}
use Rattle.cells.proofs.adding.drop.Goals as goal

-- Refused, the cells' own entry left what it was given.
pub returns-in_err-drop : goal.returns-in_err-drop
unfolding adding_dropped
returns-in_err-drop c = let e = c.args in
    let k = err_from_is_err_and c.from_residual.result c.from_residual.ensures.1 in
    rw (k.1, k.2) (then_kept e.s.now e.pool.now e.task no_add c.if-not-adds_fit.ensures (drop_untouched e.s.now.cells e.pool.now e.task) c.in_err-drop.ensures)

pub bounds-s-task : goal.bounds-s-task
bounds-s-task c = let e = c.args in drop-below e.s.now.cells e.pool.now e.task c.in_ok-drop.ensures

pub returns : goal.returns
unfolding adding_dropped
returns c = let e = c.args in rw c.none.ensures (then_acted e.s.now e.pool.now e.task no_add c.if-not-adds_fit.ensures c.in_ok-drop.ensures)
