use Rattle.std.proofs.Common.{arith}
use Rattle.shake_spec.proofs.Draws.{draws-begin, draws-step}
use Rattle.shake_tool.proofs.Sizing.{fits}
use Rattle.shake_tool.proofs.drawing.draw_action.Goals as goal

pub draw-task-requires : goal.draw-task-requires
draw-task-requires c = (fits c.args.sizes).0

pub bounds-s-task : goal.bounds-s-task
bounds-s-task c = omega (arith, c.draw-task.ensures.bound, fits c.args.sizes)

pub draw_begin-requires : goal.draw_begin-requires
draw_begin-requires c = (fits c.args.sizes).2

pub returns-then-r-eq0 : goal.returns-then-r-eq0
returns-then-r-eq0 c = let a = c.args in
    let w = a.sizes in
    let task = c.draw-task.ensures in
    draws-begin w.tasks w.cells a.g.now.state a.s.now task.moved task.drawn c.if-r-eq0.true c.draw_begin.ensures

pub returns : goal.returns
returns c = let a = c.args in
    let w = a.sizes in
    let task = c.draw-task.ensures in
    draws-step w.tasks w.cells a.g.now.state a.s.now task.moved task.drawn c.if-r-eq0.false
