use Rattle.std.proofs.Common.{arith}
use Rattle.text.proofs.Reading.{word_no, word_at}
use Rattle.text.proofs.readers.starts_with.Goals as goal

pub returns-in_err-rest : goal.returns-in_err-rest
returns-in_err-rest c = let a = c.args in rw c.from_residual.ensures (word_no a.word.now a.s.now a.at c.in_err-rest.ensures.cases)

pub returns : goal.returns
returns c = let a = c.args in let found = c.in_ok-rest.ensures.cases in word_at a.word.now a.s.now a.at _ (omega arith) found.0 found.2
