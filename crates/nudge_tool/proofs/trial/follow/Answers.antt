use Rattle.std.proofs.Common.{ℕ, suc, sym, ap, ◌∙◌, ◌<◌, length, get_or, arith}
use Rattle.figure_lines.specs.Answers.{answer_of}
use Rattle.cells_spec.specs.Answers.{act_of}
use Rattle.cells_theorems.proofs.Reaching.{reached-fit}
use Rattle.session_reader.specs.Reading.{act_at}
use Rattle.nudge_spec.specs.Exchange.{exchanged}
use Rattle.nudge_tool.specs.Calls.{answer_of_call}
use Rattle.nudge_tool.proofs.Exchanging.{exchanged_length, exchanged-at}
use Rattle.nudge_tool.proofs.Steps.{no_calls_lem, then_none, then_it, then_other, reached-on, followed_to}
use Rattle.nudge_tool.proofs.trial.follow.Goals as goal
use Rattle.nudge_tool.proofs.trial.follow.Goals.{in-Some+else-follower-target, in_default}

pub act-requires : goal.act-requires
act-requires c = reached-fit c.loop-j.invariant.1

pub returns-then-follower-target : goal.returns-then-follower-target
returns-then-follower-target c = let l = c.loop-j in
    let a = c.args in
    let k = a.actions.kept.now in
    let f = act_at a.actions.forms.now in
    let w = l.follower in
    let b = a.before in
    let e = c.act.ensures in
    let test : l.j < length k = omega (arith, c.loop-j-test.true, c.len-j-end.ensures) in
    let two : suc a.i < length k = omega (arith, c.requires.two) in
    let ea = c.at.ensures ∙ (ap (λ (m : ℕ). f (get_or k m 0)) c.moved_to.ensures ∙ ap f (sym (exchanged-at a.i l.j k two))) in
    let h : l.j < length (exchanged a.i k) = omega (arith, exchanged_length a.i k, test) in
    let is = then_it w.task f (exchanged a.i k) l.j w.begun (w.s, l.pool) c.act.result h ea e.done e.noted e.begun c.moved_to-target.result c.in-Some.is c.if-follower-target.true in
    c.same_answer.ensures ∙ followed_to (answer_of a.call.answer) f k a.i b.task b.begun (b.s, a.pool.now) a.call.at c.moved_to-target.ensures (sym is ∙ l.invariant.0)

pub loop-j-preserved : goal.loop-j-preserved
loop-j-preserved c = let l = c.loop-j in
    let a = c.args in
    let k = a.actions.kept.now in
    let f = act_at a.actions.forms.now in
    let w = l.follower in
    let e = c.act.ensures in
    let target = c.moved_to-target.result in
    let test : l.j < length k = omega (arith, c.loop-j-test.true, c.len-j-end.ensures) in
    let two : suc a.i < length k = omega (arith, c.requires.two) in
    let ea = c.at.ensures ∙ (ap (λ (m : ℕ). f (get_or k m 0)) c.moved_to.ensures ∙ ap f (sym (exchanged-at a.i l.j k two))) in
    let h : l.j < length (exchanged a.i k) = omega (arith, exchanged_length a.i k, test) in (
      rw e.task (elim c.match-act.branch [
        | in-Some+else-follower-target v ↦ sym (then_other w.task f (exchanged a.i k) l.j w.begun (w.s, l.pool) c.act.result h ea e.done e.noted e.begun target v.in-Some.is v.if-follower-target.false) ∙ l.invariant.0
        | in_default v ↦ sym (ap (answer_of_call target) (then_none w.task f (exchanged a.i k) l.j w.begun (w.s, l.pool) c.act.result h ea e.done e.noted e.begun v.in_default.is)) ∙ l.invariant.0
      ]),
      reached-on l.invariant.1 (act_of c.at.result) e.done,
      e.task ∙ l.invariant.2,
    )

pub returns : goal.returns
returns c = let l = c.loop-j in
    let a = c.args in
    let k = a.actions.kept.now in
    let f = act_at a.actions.forms.now in
    let w = l.follower in
    let b = a.before in
    let e = no_calls_lem w.task f (exchanged a.i k) l.j w.begun (w.s, l.pool) (omega (arith, exchanged_length a.i k, c.loop-j-test.false, c.len-j-end.ensures)) in
    followed_to (answer_of a.call.answer) f k a.i b.task b.begun (b.s, a.pool.now) a.call.at c.moved_to-target.ensures (sym (ap (answer_of_call c.moved_to-target.result) e) ∙ l.invariant.0)
