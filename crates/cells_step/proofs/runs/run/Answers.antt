use mathlib.Core.Path.{◌∙◌}
use Rattle.figure_lines.specs.Basics.{option_of}
use Rattle.cells_spec.proofs.LineRuns.{within_steps, done-run}
use Rattle.cells_step.proofs.runs.run.Goals as goal

pub other_line-requires-clause-within : goal.other_line-requires-clause-within
other_line-requires-clause-within c t = within_steps t c.args.r.now _ _ (c.requires.ready.reaches t)

pub returns-in-4 : goal.returns-in-4
returns-in-4 c = let a = c.args in c.allocate.ensures a.task a.current.now ∙ done-run _ a.task a.r.now _ _ _

pub returns-in-30 : goal.returns-in-30
returns-in-30 c = let a = c.args in c.install.ensures a.pool.now a.task a.last.now (option_of a.free) ∙ done-run _ a.task a.r.now _ _ _

pub returns-in_default : goal.returns-in_default
returns-in_default c = let a = c.args in c.other_line.ensures a.last.now (option_of a.free) ∙ done-run _ a.task a.r.now _ _ _
