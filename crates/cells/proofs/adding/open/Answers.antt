use Rattle.std.proofs.lemmas.Result.{err_from_is_err_and}
use Rattle.adds_spec.proofs.Entries.{open_refused, open_acted}
use Rattle.cells.proofs.adding.open.Goals as goal

-- By whether the cells' own opening is refused.
pub returns-in_err-open : goal.returns-in_err-open
returns-in_err-open c = let e = c.args in
    let k = err_from_is_err_and c.from_residual.result c.from_residual.ensures.1 in
    rw (k.1, k.2) (open_refused e.s.now e.pool.now e.tasks e.cells e.blocks e.values.now c.in_err-open.ensures)

pub returns : goal.returns
returns c = let e = c.args in rw c.none-s.ensures (open_acted e.s.now e.pool.now e.tasks e.cells e.blocks e.values.now c.in_ok-open.ensures)
