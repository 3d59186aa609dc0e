use Rattle.std.proofs.Common.{◌≡◌, ◌∙◌, sym, true, arith}
use Rattle.once_spec.specs.Questions.{once_fit}
use Rattle.once.proofs.Fits.{sizes}
use Rattle.once.proofs.questions.ask_task.Goals as goal

pub returns-clause-within : goal.returns-clause-within
returns-clause-within c = let s = c.args.s.now in
    let fit : once_fit s ≡ true = sym c.is_fit.ensures ∙ c.if-not-is_fit.false in
    omega (arith, (sizes s fit).0)
