use Rattle.session_spec.specs.Lines.{event_line}
use Rattle.text.proofs.Pages.{unwritten}
use Rattle.std.proofs.Common.{rules}
use Rattle.session_tool.proofs.play.report.Goals as goal

pub returns-in-Err-clause-written : goal.returns-in-Err-clause-written
unfolding event_line
returns-in-Err-clause-written c = search rules

pub returns-in-Ok-None-clause-written : goal.returns-in-Ok-None-clause-written
unfolding event_line
returns-in-Ok-None-clause-written c = search (rules, unwritten)

pub returns-in-Ok-Some-clause-written : goal.returns-in-Ok-Some-clause-written
unfolding event_line
returns-in-Ok-Some-clause-written c = search rules
