use Rattle.moments_spec.specs.Printed.{moments_text}
use Rattle.session_engine.proofs.Texts.{tool_text_within}
use Rattle.moments_tool.proofs.run_moments.Goals as goal

pub returns : goal.returns
returns c = rw (← (tool_text_within 2400000 moments_text)) c.run_tool.ensures
