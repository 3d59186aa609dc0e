use Rattle.std.proofs.Common.{rules}
use Rattle.session_engine.proofs.Acting as acting
use Rattle.session_engine.proofs.actions.action_at.Goals as goal

pub returns-in-1 : goal.returns-in-1
returns-in-1 c = let a = c.args in acting.reads a.forms.now a.f c.in-1.is

pub returns-in-2 : goal.returns-in-2
returns-in-2 c = let a = c.args in acting.swaps a.forms.now a.f c.in-2.is

pub returns-in-3 : goal.returns-in-3
returns-in-3 c = let a = c.args in acting.steps a.forms.now a.f c.in-3.is

pub returns-in_default : goal.returns-in_default
returns-in_default c = let a = c.args in search (rules, acting.drops a.forms.now a.f)
