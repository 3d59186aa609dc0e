use Rattle.std.proofs.Common.{arith, ap, length}
use Rattle.text.proofs.Decimal.{digits_one}
use Rattle.text.proofs.page.Page.number.Goals as goal

pub put-requires : goal.put-requires
put-requires c = omega (arith, ap length (digits_one 20 c.args.n (λ z. omega arith) c.if-n-lt10.true))

pub returns-then-n-lt10 : goal.returns-then-n-lt10
returns-then-n-lt10 c = rw (digits_one 20 c.args.n (λ z. omega arith) c.if-n-lt10.true) c.put.ensures
