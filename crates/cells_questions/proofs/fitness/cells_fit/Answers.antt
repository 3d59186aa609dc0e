use mathlib.Core.Path.{◌≡◌, sym, ◌∙◌}
use native.Mathlib.Omega.{arith}
use lib.ListN.{length}
use Rattle.cells_spec.specs.Questions.{cells_fit}
use Rattle.std.proofs.Common.{rules}
use Rattle.cells_questions.proofs.Ranges.{all_listed}
use Rattle.cells_questions.proofs.fitness.cells_fit.Goals as goal

pub returns : goal.returns
unfolding cells_fit
returns c =
    let s = c.args.s.now in
    let long : length s.current ≡ 16 = search rules in
    c.all_below.ensures ∙ sym (all_listed _ s.current s.cells (omega (arith, long, c.requires)))
