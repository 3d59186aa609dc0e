use mathlib.Core.Path.{refl}
use Rattle.figure_lines.specs.Paths.{row_of}
use Rattle.cells_step.proofs.Search.{row_here, row-steps, row-hard, row_none}
use Rattle.cells_step.proofs.paths.row_of.Goals as goal
use Rattle.cells_step.proofs.paths.row_of.Goals.{else-s-steps-via-then-s-steps+else-h-hard, else-s-steps-via-else-s-steps}

pub loop-i-init : goal.loop-i-init
unfolding row_of
loop-i-init c = refl

pub returns-then-h-hard : goal.returns-then-h-hard
returns-then-h-hard c = row_here c.loop-i.i c.args.steps c.args.hard c.loop-i.invariant c.loop-i-test.true c.if-s-steps.true c.if-h-hard.true

pub loop-i-preserved : goal.loop-i-preserved
loop-i-preserved c = elim c.else-s-steps.branch [
  | else-s-steps-via-then-s-steps+else-h-hard w ↦ row-hard c.loop-i.i c.args.steps c.args.hard c.loop-i.invariant c.loop-i-test.true w.if-h-hard.false
  | else-s-steps-via-else-s-steps w ↦ row-steps c.loop-i.i c.args.steps c.args.hard c.loop-i.invariant c.loop-i-test.true w.if-s-steps.false
]

pub returns : goal.returns
returns c = row_none c.loop-i.i c.args.steps c.args.hard c.loop-i.invariant c.loop-i-test.false
