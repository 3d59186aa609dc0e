use mathlib.Core.Path.{sym, ◌∙◌}
use Rattle.cells_spec.specs.Begin.{begun}
use Rattle.cells_spec.proofs.Fits.{sizes}
use Rattle.cells.proofs.begins.begin.Goals as goal

pub returns-then-not-is_fit : goal.returns-then-not-is_fit
unfolding begun
returns-then-not-is_fit c = rw (sym c.is_fit.ensures ∙ c.if-not-is_fit.true)

pub begin_fit-requires : goal.begin_fit-requires
begin_fit-requires c = (sizes c.args.s.now c.args.pool.now (sym c.is_fit.ensures ∙ c.if-not-is_fit.false)).tasks
