use mathlib.Core.Path.{sym, ap, subst, ◌∙◌}
use native.Mathlib.Omega.{arith}
use Prim.Native.Nat.{◌<◌}
use lib.ListN.{length, length-replicate}
use Rattle.figure_lines.specs.declared.Record.{Record}
use Rattle.figure_lines.specs.Record.{idle}
use Rattle.cells_theorems.proofs.Reaching.{reached-fit}
use Rattle.session_reader.specs.Reading.{act_at}
use Rattle.session_spec.specs.Printed.{played}
use Rattle.session_tool.specs.Loop.{played_on, Few}
use Rattle.cells_spec.specs.Answers.{act_of}
use Rattle.session_tool.specs.Totals.{totals_of}
use Rattle.text.proofs.Pages.{onward_start, onward_more, onward_last}
use Rattle.session_tool.proofs.Playing.{one_action, no_action}
use Rattle.cells_spec.specs.Open.{After}
use Rattle.cells_spec.specs.Events.{event_of}
use Rattle.history_spec.specs.History.{untried}
use Rattle.session_spec.specs.Lines.{FewDigits}
use Rattle.session_tool.proofs.Outcomes.{small}
use Rattle.session_tool.proofs.Room.{all_at_most, Paid, paid}
use Rattle.session_tool.proofs.Counting.{few}
use Rattle.session_engine.proofs.Fresh.{reached_sizes}
use Rattle.session_engine.proofs.Turning.{reached-small, reached_then}
use Rattle.std.proofs.Common.{rules}
use Rattle.session_tool.proofs.play.play.Goals as goal

pub loop-i-init : goal.loop-i-init
unfolding played played_on
loop-i-init c = let f = c.requires.fresh in
    (onward_start _ _, omega (arith, all_at_most c.args.first.records, ap length f.all-idle ∙ length-replicate {A = Record} 32 idle), search rules, search rules, f.reached)

pub advance-answer-requires : goal.advance-answer-requires
advance-answer-requires c = reached-fit c.loop-i.invariant.4

pub add-requires : goal.add-requires
add-requires c = let l = c.loop-i in
    (omega (arith, l.invariant.2, c.loop-i-test.true, c.len-i-end.ensures, c.args.actions.few), omega (arith, l.invariant.3, c.loop-i-test.true, c.len-i-end.ensures, c.args.actions.few), subst (λ (y : After). Few (event_of untried y.outcome)) (sym c.advance-answer.ensures) (few l.s l.pool (act_of c.at-a.result)))

pub loop-i-preserved : goal.loop-i-preserved
loop-i-preserved c = let l = c.loop-i in
    let a = c.args in
    let x = act_of c.at-a.result in
    let r = c.report.ensures in
    let k = c.add.ensures in
    let d = c.advance-answer.ensures in
    let h : l.i < length a.actions.kept.now = omega (arith, c.loop-i-test.true, c.len-i-end.ensures) in
    let t = c.task_of.result in
    let m : l.i < 100000 = omega (arith, h, a.actions.few) in
    let short = r.upper_bound (subst (λ (y : After). FewDigits t (event_of untried y.outcome)) (sym d) (rw c.task_of.ensures (small l.s l.pool x))) in
    let paid-here = subst (λ (y : After). Paid l.i t m l.s y) (sym d) (paid l.i t m l.s l.pool x) (omega (arith, short, r.written.appended.stored.next)) in (
      onward_more l.invariant.0 r.written (one_action a.first.tasks a.first.cells (act_at a.actions.forms.now) a.actions.kept.now l.i (totals_of l.z) l.s l.pool h c.at-a.ensures d c.task_of.ensures k.result_value),
      omega (arith, l.invariant.1, r.written.appended.stored.next, paid-here),
      omega (arith, l.invariant.2, k.finished_bound.0),
      omega (arith, l.invariant.3, k.finished_bound.1),
      reached_then l.invariant.4 x d,
    )

pub finish-requires-clause-tasks_bound : goal.finish-requires-clause-tasks_bound
finish-requires-clause-tasks_bound c = let r = c.loop-i.invariant.4 in let e = reached_sizes r in rw (← e.0, ← e.1) (reached-small r)

pub returns : goal.returns
returns c = let l = c.loop-i in
    let a = c.args in
    let e = reached_sizes l.invariant.4 in
    onward_last l.invariant.0 (rw (no_action a.first.tasks a.first.cells (act_at a.actions.forms.now) a.actions.kept.now l.i (totals_of l.z) l.s l.pool (omega (arith, c.loop-i-test.false, c.len-i-end.ensures)), e.0, e.1) c.finish.ensures)
