use Rattle.std.proofs.Common.{subst}
use Rattle.text.specs.Page.{Written}
use Rattle.shake_tool.proofs.Sizing.{session-drawn, refusal-drawn}
use Rattle.shake_tool.proofs.print.Goals as goal

pub returns-in-Ok : goal.returns-in-Ok
returns-in-Ok c = let a = c.args in
    subst (Written _ _) (session-drawn a.seed a.tasks a.cells a.blocks a.count c.in-Ok.sizes (rw c.in-Ok.is at c.asked.ensures)) c.put_session.ensures

pub returns-in-Err : goal.returns-in-Err
returns-in-Err c = let a = c.args in
    subst (Written _ _) (refusal-drawn a.seed a.tasks a.cells a.blocks a.count c.in-Err.refusal (rw c.in-Err.is at c.asked.ensures) c.from.ensures) c.bad.ensures.written
