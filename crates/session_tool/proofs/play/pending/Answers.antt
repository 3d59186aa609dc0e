use Rattle.session_tool.proofs.Loops.{busy_tasks}
use Rattle.session_tool.proofs.play.pending.Goals as goal

pub returns : goal.returns
returns c = rw (c.busy.ensures) (busy_tasks c.args.s.now c.args.s.now.tasks)
