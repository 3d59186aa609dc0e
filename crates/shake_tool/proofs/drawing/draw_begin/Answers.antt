use Rattle.shake_spec.proofs.Draws.{begins-read, begins-swap}
use Rattle.shake_tool.proofs.drawing.draw_begin.Goals as goal

pub returns-then-kind-eq0 : goal.returns-then-kind-eq0
returns-then-kind-eq0 c = let a = c.args in
    let kind = c.draw-kind.ensures in
    let cell = c.draw-cell.ensures in
    begins-read a.task a.cells a.g.now.state kind.moved cell.moved kind.drawn cell.drawn c.if-kind-eq0.true

pub returns : goal.returns
returns c = let a = c.args in
    let kind = c.draw-kind.ensures in
    let cell = c.draw-cell.ensures in
    let expected = c.draw-expected.ensures in
    let new = c.draw-new.ensures in
    begins-swap a.task a.cells a.g.now.state kind.moved cell.moved kind.drawn cell.drawn c.if-kind-eq0.false expected.moved new.moved expected.drawn new.drawn
