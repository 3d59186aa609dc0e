use Rattle.std.proofs.Common.{◌≡◌, arith}
use Rattle.once.proofs.turn.win.Goals as goal

pub returns-in_default : goal.returns-in_default
returns-in_default c = λ p.
    let last : c.args.r.now.line ≡ 7 = omega (arith, c.requires) in
    rw last (c.agree.ensures _)
