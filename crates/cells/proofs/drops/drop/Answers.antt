use mathlib.Core.Path.{sym, ◌∙◌}
use Rattle.cells_spec.specs.Drop.{dropped}
use Rattle.cells.proofs.drops.drop.Goals as goal

pub returns-then-not-is_fit : goal.returns-then-not-is_fit
unfolding dropped
returns-then-not-is_fit c = rw (sym c.is_fit.ensures ∙ c.if-not-is_fit.true)
