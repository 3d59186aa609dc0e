use Rattle.session_spec.specs.Lines.{done_start}
use native.Mathlib.Omega.{arith}
use Rattle.text.proofs.Pages.{written_then}
use Rattle.text.proofs.Spaced.{numbers_3}
use Rattle.session_tool.proofs.Lengths.{done-short}
use Rattle.session_tool.proofs.printing.put_done.Goals as goal

pub numbers-requires : goal.numbers-requires
numbers-requires c = omega (arith, numbers_3 c.from.result c.from-2.result c.from-3.result (omega arith) (omega arith) (omega arith))

pub put-requires : goal.put-requires
put-requires c = omega (arith, numbers_3 c.from.result c.from-2.result c.from-3.result (omega arith) (omega arith) (omega arith), c.numbers.ensures.appended.stored.next)

pub returns : goal.returns
unfolding done_start
returns c = let a = c.args in let st = c.put_done_start.ensures in let w = c.from in let w2 = c.from-2 in let w3 = c.from-3 in let n = c.numbers.ensures in let p = c.put.ensures in record {
  written = rw (← w.ensures, ← w2.ensures, ← w3.ensures) (written_then (written_then st.written n) p);
  few_digits = λ z. omega (arith, p.appended.stored.next, done-short a.page.now.at _ _ a.task a.f.cell w.result w2.result w3.result st.few_digits.1 n.appended.stored.next (z.0, z.1, omega (arith, z.2, w.ensures), omega (arith, z.3, w2.ensures), omega (arith, z.4, w3.ensures)));
}
