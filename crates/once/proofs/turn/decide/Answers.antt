use Rattle.std.proofs.Common.{◌≡◌, arith}
use borrow.Author.Tests.{ne_eqb}
use Rattle.once.proofs.turn.decide.Goals as goal

pub returns-else-m : goal.returns-else-m
returns-else-m c = λ p. rw (c.in-11.is, ne_eqb _ _ c.if-m.false) (c.agree.ensures _)

pub returns-in_default : goal.returns-in_default
returns-in_default c = λ p.
    let last : c.args.r.now.line ≡ 13 = omega (arith, c.requires) in
    rw last (c.agree-in_default.ensures _)
