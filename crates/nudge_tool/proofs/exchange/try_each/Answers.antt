use Rattle.std.proofs.Common.{sym, ◌∙◌, ◌+◌, ◌<◌, length, arith}
use lib.ListN.{length-map}
use Rattle.cells_spec.specs.Machine.{Pool}
use Rattle.figure_lines.specs.Answers.{answer_of}
use Rattle.cells_theorems.proofs.Reaching.{reached-fit}
use Rattle.session_engine.specs.Tool.{all_of}
use Rattle.session_reader.specs.Reading.{act_at}
use Rattle.nudge_spec.specs.Nudge.{nudges}
use Rattle.nudge_tool.specs.Calls.{summary_of}
use Rattle.nudge_tool.proofs.Asking.{started}
use Rattle.nudge_tool.proofs.Exchanging.{tried-is}
use Rattle.nudge_tool.proofs.Steps.{before-next, reached-before, earliest_hit, earliest_skip, none_left, none_later}
use Rattle.nudge_tool.proofs.exchange.try_each.Goals as goal

pub returns-then-call-i : goal.returns-then-call-i
returns-then-call-i c = let a = c.args in
    let l = c.loop-i in
    sym (none_later (a.first, a.pool.now) (all_of a.actions) a.task (summary_of a.call) c.requires.summarizes l.i _ c.if-call-i.true) ∙ l.invariant.0

pub try_exchange-requires-clause-reached : goal.try_exchange-requires-clause-reached
try_exchange-requires-clause-reached c = let l = c.loop-i in reached-before (all_of c.args.actions) l.before.task l.i c.requires.fresh l.invariant.1

pub returns-then-try_exchange : goal.returns-then-try_exchange
returns-then-try_exchange c = let a = c.args in
    let l = c.loop-i in
    let m = all_of a.actions in
    let n = length a.actions.kept.now in
    let h : l.i + 1 < n = omega (arith, c.loop-i-test.true, c.saturating_sub-i-end.ensures, c.len.ensures) in
    let x₀ : Pool = (a.first, a.pool.now) in
    let b = l.before in
    let e = tried-is (started c.requires.fresh) m b.task (summary_of a.call) (rw l.invariant.2 c.requires.summarizes) l.i (omega (arith, h, length-map a.actions.kept.now (act_at a.actions.forms.now))) (omega (arith, c.if-call-i.false)) _ l.invariant.1.state b.begun l.invariant.1.begins-at in
    sym (earliest_hit (nudges x₀ m a.call.at (answer_of a.call.answer)) l.i n (omega (arith, h)) (sym e ∙ (sym c.try_exchange.ensures ∙ c.if-try_exchange.true))) ∙ l.invariant.0

pub act-requires : goal.act-requires
act-requires c = let l = c.loop-i in reached-fit (reached-before (all_of c.args.actions) l.before.task l.i c.requires.fresh l.invariant.1)

pub loop-i-preserved : goal.loop-i-preserved
loop-i-preserved c = let a = c.args in
    let l = c.loop-i in
    let m = all_of a.actions in
    let n = length a.actions.kept.now in
    let h : l.i + 1 < n = omega (arith, c.loop-i-test.true, c.saturating_sub-i-end.ensures, c.len.ensures) in
    let x₀ : Pool = (a.first, a.pool.now) in
    let b = l.before in
    let d = c.act.ensures in
    let e = tried-is (started c.requires.fresh) m b.task (summary_of a.call) (rw l.invariant.2 c.requires.summarizes) l.i (omega (arith, h, length-map a.actions.kept.now (act_at a.actions.forms.now))) (omega (arith, c.if-call-i.false)) _ l.invariant.1.state b.begun l.invariant.1.begins-at in (
      sym (earliest_skip (nudges x₀ m a.call.at (answer_of a.call.answer)) l.i n (omega (arith, h)) (sym e ∙ (sym c.try_exchange.ensures ∙ c.if-try_exchange.false))) ∙ l.invariant.0,
      rw d.task (before-next (act_at a.actions.forms.now) a.actions.kept.now b.task l.i b.begun (omega (arith, h)) c.at.ensures d.done d.noted d.begun l.invariant.1),
      d.task ∙ l.invariant.2,
    )

pub returns : goal.returns
returns c = let a = c.args in
    let l = c.loop-i in
    sym (none_left (a.first, a.pool.now) (all_of a.actions) a.call.at (answer_of a.call.answer) l.i _ (omega (arith, c.loop-i-test.false, c.saturating_sub-i-end.ensures, c.len.ensures, length-map a.actions.kept.now (act_at a.actions.forms.now)))) ∙ l.invariant.0
