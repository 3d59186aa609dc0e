use Rattle.session_engine.proofs.Texts.{tool_text_within}
use Rattle.nudge_spec.specs.Nudge.{nudge_text}
use Rattle.nudge_tool.proofs.run_nudge.Goals as goal

pub returns : goal.returns
returns c = rw (← (tool_text_within 67 (nudge_text c.args.task c.args.n))) c.run_tool.ensures
