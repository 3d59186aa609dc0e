use native.Mathlib.Omega.{arith}
use lib.ListN.{drop_of_length-le}
use Rattle.std.proofs.Common.{ap}
use Rattle.text.proofs.Pages.{onward_more, onward_end}
use Rattle.moments_tool.specs.Words.{word_lines}
use Rattle.moments_tool.proofs.Printing.{lines_from}
use Rattle.moments_tool.proofs.words.put_marks.Goals as goal

pub loop-w-preserved : goal.loop-w-preserved
loop-w-preserved c = let l = c.loop-w in let p = c.put_mark.ensures in
    (onward_more l.invariant.0 p.written (lines_from c.args.words.now l.w-index c.loop-w-test.true), omega (arith, l.invariant.1, p.upper_bound))

pub returns : goal.returns
unfolding word_lines
returns c = let l = c.loop-w in onward_end l.invariant.0 (ap word_lines (drop_of_length-le c.args.words.now c.loop-w-test.false))
