use mathlib.Core.Path.{sym, ◌∙◌}
use Rattle.cells_spec.specs.Questions.{has_none}
use Rattle.cells_questions.proofs.Ranges.{any_listed}
use Rattle.cells_questions.proofs.open_refusals.has_none.Goals as goal

pub returns : goal.returns
unfolding has_none
returns c = c.contains.ensures.value ∙ sym (any_listed _ c.args.values.now)
