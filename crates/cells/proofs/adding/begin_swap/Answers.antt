use Rattle.std.proofs.lemmas.Result.{err_from_is_err_and}
use Rattle.cells_spec.proofs.Acts.{swap_untouched}
use Rattle.adds_spec.specs.Adding.{no_add, adding_begun}
use Rattle.adds_spec.proofs.Entries.{then_kept, then_acted, swap-below}
use Rattle.cells.proofs.adding.begin_swap.Goals as goal

-- Refused, the cells' own entry left what it was given.
pub returns-in_err-begin_swap : goal.returns-in_err-begin_swap
unfolding adding_begun
returns-in_err-begin_swap c = let e = c.args in
    let k = err_from_is_err_and c.from_residual.result c.from_residual.ensures.1 in
    rw (k.1, k.2) (then_kept e.s.now e.pool.now e.task no_add c.if-not-adds_fit.ensures (swap_untouched e.s.now.cells e.pool.now e.task e.cell e.expected e.new) c.in_err-begin_swap.ensures)

pub bounds-s-task : goal.bounds-s-task
bounds-s-task c = let e = c.args in swap-below e.s.now.cells e.pool.now e.task e.cell e.expected e.new c.in_ok-begin_swap.ensures

pub returns : goal.returns
unfolding adding_begun
returns c = let e = c.args in rw c.none.ensures (then_acted e.s.now e.pool.now e.task no_add c.if-not-adds_fit.ensures c.in_ok-begin_swap.ensures)
