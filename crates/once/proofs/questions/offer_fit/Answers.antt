use borrow.Author.Tests.{eq-eqb, ne_eqb}
use Rattle.once_spec.specs.Questions.{offer_fit}
use Rattle.once_spec.proofs.Numbers.{is-step}
use Rattle.once.proofs.Fits.{regroup_4}
use Rattle.once.proofs.questions.offer_fit.Goals as goal

-- A busy offer's number is one of 1 to 13.
pub returns-then-r-eq0 : goal.returns-then-r-eq0
unfolding offer_fit
returns-then-r-eq0 c = rw (eq-eqb _ _ c.if-r-eq0.true)

pub returns-else-r-eq0 : goal.returns-else-r-eq0
unfolding offer_fit
returns-else-r-eq0 c = let busy = c.if-r-eq0.false in
    rw (ne_eqb _ _ busy, is-step _ busy, regroup_4)
