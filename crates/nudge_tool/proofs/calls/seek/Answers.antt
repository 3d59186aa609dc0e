use Rattle.std.proofs.Common.{sym, ap, ◌∙◌, ◌<◌, length, arith}
use Rattle.cells_spec.specs.Answers.{act_of}
use Rattle.cells_theorems.proofs.Reaching.{reached-fit}
use Rattle.session_reader.specs.Reading.{act_at}
use Rattle.nudge_spec.specs.Nudge.{at_place}
use Rattle.nudge_tool.proofs.Steps.{then_none, then_some, after_first, after_next, reached-on}
use Rattle.nudge_tool.proofs.calls.seek.Goals as goal
use Rattle.nudge_tool.proofs.calls.seek.Goals.{in-Some+else-left-eq0, in_default}

pub act-requires : goal.act-requires
act-requires c = reached-fit c.loop-i.invariant.1

pub returns-then-left-eq0 : goal.returns-then-left-eq0
returns-then-left-eq0 c = let l = c.loop-i in
    let a = c.args.actions in
    let f = l.follower in
    let e = c.act.ensures in
    let h : l.i < length a.kept.now = omega (arith, c.loop-i-test.true, c.len-i-end.ensures) in
    let is = then_some f.task (act_at a.forms.now) a.kept.now l.i f.begun (f.s, l.pool) c.act.result h c.at.ensures e.done e.noted e.begun c.in-Some.is in
    sym (ap (at_place l.left) is ∙ after_first l.left _ _ c.if-left-eq0.true) ∙ l.invariant.0

pub loop-i-preserved : goal.loop-i-preserved
loop-i-preserved c = let l = c.loop-i in
    let a = c.args.actions in
    let f = l.follower in
    let e = c.act.ensures in
    let h : l.i < length a.kept.now = omega (arith, c.loop-i-test.true, c.len-i-end.ensures) in (
      rw e.task (elim c.match-act.branch [
        | in-Some+else-left-eq0 w ↦ rw w.left-is (sym (ap (at_place l.left) (then_some f.task (act_at a.forms.now) a.kept.now l.i f.begun (f.s, l.pool) c.act.result h c.at.ensures e.done e.noted e.begun w.in-Some.is) ∙ after_next l.left _ _ w.if-left-eq0.false) ∙ l.invariant.0)
        | in_default w ↦ rw w.left-is (sym (ap (at_place l.left) (then_none f.task (act_at a.forms.now) a.kept.now l.i f.begun (f.s, l.pool) c.act.result h c.at.ensures e.done e.noted e.begun w.in_default.is)) ∙ l.invariant.0)
      ]),
      reached-on l.invariant.1 (act_of c.at.result) e.done,
      e.task ∙ l.invariant.2,
    )
