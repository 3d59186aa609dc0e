use Rattle.std.proofs.Common.{subst}
use Rattle.text.specs.Page.{Written}
use Rattle.session_engine.specs.Tool.{all_of}
use Rattle.bus_tool.proofs.Laws.{calls_printed, refusal-printed}
use Rattle.bus_tool.proofs.BusTool.play.Goals as goal

pub returns-in-Ok : goal.returns-in-Ok
returns-in-Ok c = let a = c.args in
    let b = a.self.now in
    subst (Written _ _) (calls_printed c.in-Ok.ranges b.low b.high (rw c.in-Ok.is at c.asked.ensures) a.first.tasks (a.first, a.pool.now) (all_of a.actions)) c.play.ensures

pub returns-in-Err : goal.returns-in-Err
returns-in-Err c = let a = c.args in
    let b = a.self.now in
    subst (Written _ _) (refusal-printed b.low b.high c.in-Err.refusal (rw c.in-Err.is at c.asked.ensures) c.from.ensures a.first.tasks (a.first, a.pool.now) (all_of a.actions)) c.bad.ensures.written
