use Rattle.std.proofs.Common.{[], ◌∷◌, ◌++◌, ◌<◌, length, arith}
use Rattle.cells_spec.specs.Answers.{answered, act_of}
use Rattle.cells_spec.specs.Events.{event_of}
use Rattle.history_spec.specs.History.{untried}
use Rattle.cells_theorems.proofs.Reaching.{reached-fit}
use Rattle.session_engine.specs.Tool.{all_of}
use Rattle.session_engine.proofs.Turning.{reached_then}
use Rattle.session_reader.specs.Reading.{act_at}
use Rattle.text.proofs.Pages.{onward_start, onward_more, onward_last}
use Rattle.bus_spec.specs.Bus.{finished_calls}
use Rattle.bus_spec.proofs.Fits.{within-fits}
use Rattle.bus_tool.specs.Structs.{times_of, sums_in}
use Rattle.bus_tool.proofs.Laws.{are_short}
use Rattle.bus_tool.proofs.Playing.{none_yet, one_more, ends_now, one_action, no_action, start-text}
use Rattle.bus_tool.proofs.play.play.Goals as goal

pub loop-i-init : goal.loop-i-init
loop-i-init c = let a = c.args in
    let e = c.new-tally.ensures in
    ([], rw (← (start-text (times_of a.ranges) (sums_in c.new-tally.result.totals) a.first a.pool.now (all_of a.actions) e.1)) (onward_start _ _), none_yet e.0 e.1, omega arith, c.requires.fresh.reached)

pub advance-answer-requires : goal.advance-answer-requires
advance-answer-requires c = reached-fit c.loop-i.invariant.4

pub enter-requires-clause-totals_bound : goal.enter-requires-clause-totals_bound
enter-requires-clause-totals_bound c = let l = c.loop-i in
    let h : l.i < 65535 = omega (arith, c.loop-i-test.true, c.len-i-end.ensures, c.args.actions.few) in
    let z = within-fits l.i (sums_in l.tally.totals) l.invariant.2.within (omega (arith, h)) in
    (z.0, z.1, ends_now l.invariant.2 l.s l.pool (act_of c.at-a.result) c.advance-answer.ensures (reached-fit l.invariant.4) h)

pub loop-i-preserved : goal.loop-i-preserved
loop-i-preserved c = let l = c.loop-i in
    let a = c.args in
    let w = times_of a.ranges in
    let x = act_of c.at-a.result in
    let d = c.advance-answer.ensures in
    let u = event_of untried (answered c.advance-answer.result) in
    let r = c.enter.ensures in
    let test : l.i < length a.actions.kept.now = omega (arith, c.loop-i-test.true, c.len-i-end.ensures) in
    let e = ends_now l.invariant.2 l.s l.pool x d (reached-fit l.invariant.4) (omega (arith, test, a.actions.few)) in (
      finished_calls ((x, u) ∷ []) ++ l.invariant.0,
      onward_more l.invariant.1 r.written.0 (one_action l.invariant.2 w l.s l.pool (act_at a.actions.forms.now) a.actions.kept.now test c.at-a.ensures d e r.written.1),
      rw (r.written.2, r.written.1) (one_more l.invariant.2 w (are_short a.ranges) x u e),
      omega (arith, r.at_bound, l.invariant.3),
      reached_then l.invariant.4 x d,
    )

pub returns : goal.returns
returns c = let l = c.loop-i in
    let a = c.args in
    onward_last l.invariant.1 (rw (no_action (times_of a.ranges) l.invariant.0 (sums_in l.tally.totals) l.s l.pool (act_at a.actions.forms.now) a.actions.kept.now l.i (omega (arith, c.loop-i-test.false, c.len-i-end.ensures))) c.put_all.ensures)
