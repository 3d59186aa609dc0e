use mathlib.Core.Path.{sym, ◌∙◌}
use Rattle.cells_spec.specs.Step.{stepped}
use Rattle.cells.proofs.steps.step.Goals as goal

pub returns-then-not-is_fit : goal.returns-then-not-is_fit
unfolding stepped
returns-then-not-is_fit c = rw (sym c.is_fit.ensures ∙ c.if-not-is_fit.true)
