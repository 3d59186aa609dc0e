use native.Mathlib.Omega.{arith}
use Rattle.text.proofs.Pages.{onward_more, onward_end}
use Rattle.session_tool.proofs.Loops.{cell_at, cell-end}
use Rattle.session_tool.proofs.play.put_cells.Goals as goal

pub loop-k-preserved : goal.loop-k-preserved
loop-k-preserved c = let l = c.loop-k in let a = c.args in let p = c.put_look.ensures in
    (onward_more l.invariant.0 (rw c.look.ensures at p.written) (cell_at a.s.now a.pool.now l.k a.s.now.cells c.loop-k-test.true), omega (arith, l.invariant.1, p.upper_bound))

pub returns-clause-written : goal.returns-clause-written
returns-clause-written c = let l = c.loop-k in let a = c.args in onward_end l.invariant.0 (cell-end a.s.now a.pool.now l.k a.s.now.cells c.loop-k-test.false)
