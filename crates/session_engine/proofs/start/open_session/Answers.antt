use mathlib.Core.Path.{ap, ◌∙◌}
use Rattle.session_reader.specs.Tables.{buffers}
use Rattle.session_reader.proofs.Verdicts.{right-left}
use Rattle.session_engine.specs.Start.{start_of, pool_of}
use Rattle.session_engine.proofs.Starting.{judged-is, is-error}
use Rattle.session_engine.proofs.start.open_session.Goals as goal

pub returns-in_err-session-clause-pool_after : goal.returns-in_err-session-clause-pool_after
returns-in_err-session-clause-pool_after c = let p = c.requires in rw (is-error _ _ c.from_residual.ensures.1) (ap start_of (judged-is c.args.file.now c.in_err-session.ensures.actions_after p.0 p.1 p.2))

pub returns-in_err-session-clause-kept_after : goal.returns-in_err-session-clause-kept_after
returns-in_err-session-clause-kept_after c = let a = c.args in let p = c.requires in c.read_session.ensures.actions_after_2 ∙ right-left a.file.now (buffers a.values.now a.forms.now a.kept.now) p.0 p.1 p.2

pub returns-in_err-session-clause-pool_after_2 : goal.returns-in_err-session-clause-pool_after_2
returns-in_err-session-clause-pool_after_2 c = let p = c.requires in rw (is-error _ _ c.from_residual.ensures.1, p.3) (ap pool_of (judged-is c.args.file.now c.in_err-session.ensures.actions_after p.0 p.1 p.2))

pub returns-clause-pool_after : goal.returns-clause-pool_after
returns-clause-pool_after c = let p = c.requires in c.open_pool.ensures.by_index _ _ ∙ ap start_of (judged-is c.args.file.now c.in_ok-session.ensures.actions_after p.0 p.1 p.2)

pub returns-clause-kept_after : goal.returns-clause-kept_after
returns-clause-kept_after c = let a = c.args in let p = c.requires in c.read_session.ensures.actions_after_2 ∙ right-left a.file.now (buffers a.values.now a.forms.now a.kept.now) p.0 p.1 p.2

pub returns-clause-pool_after_2 : goal.returns-clause-pool_after_2
returns-clause-pool_after_2 c = let p = c.requires in c.open_pool.ensures.pool_after ∙ ap pool_of (judged-is c.args.file.now c.in_ok-session.ensures.actions_after p.0 p.1 p.2)
