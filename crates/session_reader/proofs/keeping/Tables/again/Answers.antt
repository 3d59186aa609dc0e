use Rattle.std.proofs.Common.{refl, arith}
use Rattle.session_reader.proofs.Standing.{again-over, again-many, again-fits}
use Rattle.session_reader.proofs.keeping.Tables.again.Goals as goal

pub returns-then-over-clause-kept : goal.returns-then-over-clause-kept
returns-then-over-clause-kept c = λ F A t w e x. (again-over (rw c.if-over.true at x) c.args.c refl (λ z. omega arith), omega arith)

pub returns-then-self-n-clause-kept : goal.returns-then-self-n-clause-kept
returns-then-self-n-clause-kept c = λ F A t w e x. (again-many (rw c.if-over.false at x) c.args.c refl (rw e c.if-self-n.true), omega arith)

pub returns-clause-kept : goal.returns-clause-kept
returns-clause-kept c = λ F A t w e x. (again-fits (rw c.if-over.false at x) c.args.c refl (λ z. omega arith) c.repeat-self.ensures (rw e c.if-self-n.false), omega arith)
