use Rattle.session_tool.proofs.Playing.{text-is}
use Rattle.session_tool.proofs.run_session.Goals as goal

pub returns : goal.returns
returns c = rw (← text-is) c.run_tool.ensures
