use Rattle.std.proofs.Common.{refl, sym, ap, subst, ◌∙◌, ℕ, ◌+◌, ◌<◌, List, ◌∷◌, length, drop, arith}
use Rattle.cells_spec.specs.Answers.{act_of}
use Rattle.history_spec.specs.History.{Action}
use Rattle.cells_theorems.proofs.Reaching.{reached-fit, reached_arrays}
use Rattle.session_reader.specs.Reading.{act_at}
use Rattle.session_engine.specs.Tool.{all_of}
use Rattle.session_engine.proofs.Fresh.{reached_sizes as same_sizes}
use Rattle.session_engine.proofs.Turning.{reached-small, reached_then}
use Rattle.session_engine.proofs.Listed.{action_then, no_action}
use Rattle.moments_tool.specs.Words.{Listed}
use Rattle.moments_tool.specs.Notes.{slot, notes_of}
use Rattle.moments_tool.specs.Loop.{deed_meant, all_marks, closing, Closing}
use Rattle.moments_tool.proofs.Sorting.{entered-length}
use Rattle.moments_tool.proofs.Marking.{Marking, marks-start, coded, marks_on, marks-end}
use Rattle.moments_tool.proofs.Starting.{reached-cell, reached_sizes, task-below, task-small}
use Rattle.moments_tool.proofs.play.list_marks.Goals as goal

pub loop-i-init : goal.loop-i-init
loop-i-init c = let a = c.args in let p = c.requires in record {
  marking = rw (c.new-notes.ensures, p.no_marks) (marks-start a.first.tasks a.first a.pool.now (all_of a.actions) p.fresh.all-idle);
  few = omega (arith, ap length p.no_marks);
  reached = p.fresh.reached;
}

pub bounds-s-t : goal.bounds-s-t
bounds-s-t c = task-below c.loop-i.invariant.reached c.task_of.result c.slot-t.ensures

pub see_cell-sight-requires : goal.see_cell-sight-requires
see_cell-sight-requires c = (reached_sizes c.loop-i.invariant.reached).1

pub advance-answer-requires : goal.advance-answer-requires
advance-answer-requires c = reached-fit c.loop-i.invariant.reached

pub own-own-requires : goal.own-own-requires
own-own-requires c = task-below c.loop-i.invariant.reached c.task_of.result c.slot-t.ensures

pub bounds-waiting-k : goal.bounds-waiting-k
bounds-waiting-k c = (task-small c.loop-i.invariant.reached c.task_of.result c.slot-t.ensures refl).1

pub invariant_of-caller : goal.invariant_of-caller
invariant_of-caller c = record { fits_word = task-small c.loop-i.invariant.reached c.task_of.result c.slot-t.ensures refl }

pub loop-i-preserved : goal.loop-i-preserved
loop-i-preserved c =
    let a = c.args in
    let l = c.loop-i in
    let f = a.first in
    let x = act_of c.at-a.result in
    let t = c.slot-t.result in
    let s = l.s in
    let z = l.invariant.reached in
    let d = c.advance-answer.ensures in
    let h : l.i < length a.actions.kept.now = omega (arith, c.loop-i-test.true, c.len-i-end.ensures) in
    let size = (reached_arrays z).1 in
    let few = (reached_sizes z).0 in
    let e = c.enter.ensures in
    let u = c.slot-t.ensures in
    let acts = all_of a.actions in
    let first = action_then (act_at a.actions.forms.now) a.actions.kept.now l.i h ∙ ap (λ (q : Action). q ∷ drop (l.i + 1) acts) (sym c.at-a.ensures) in
    let m = subst (Marking f.tasks (all_marks f.tasks (f, a.pool.now) acts) (s, l.pool) (notes_of l.i l.notes) l.waiting l.marks) first l.invariant.marking in
    record {
      marking = marks_on s l.pool size few l.i l.notes l.waiting x t m d (u ∙ ap (λ (n : ℕ). slot n s.tasks) c.task_of.ensures) c.deed_of-d.ensures refl
          (coded s l.pool size few l.i l.notes l.waiting t (deed_meant c.deed_of-d.result) l.marks _ _ _ c.holders-who.result refl c.see_cell-sight.ensures c.own-own.ensures
          c.spreads.ensures c.holders-who.ensures.by_index c.holders-who.ensures.result_len (task-small z c.task_of.result u refl).1 c.note.ensures
          c.made.ensures e.after e.made c.next_waiter.ensures refl);
      few = omega (arith, l.invariant.few, ap length e.after, entered-length c.made.result l.marks);
      reached = reached_then z x d;
    }

pub close-requires-clause-tasks_bound : goal.close-requires-clause-tasks_bound
close-requires-clause-tasks_bound c = let z = c.loop-i.invariant.reached in rw (← (same_sizes z).0) ((reached-small z).0, reached-cell z)

pub returns : goal.returns
returns c =
    let a = c.args in
    let f = a.first in
    let l = c.loop-i in
    let acts = all_of a.actions in
    let all = all_marks f.tasks (f, a.pool.now) acts in
    let z = l.invariant.reached in
    let e = same_sizes z in
    let m = subst (Marking f.tasks all (l.s, l.pool) (notes_of l.i l.notes) l.waiting l.marks) (no_action (act_at a.actions.forms.now) a.actions.kept.now l.i (omega (arith, c.loop-i-test.false, c.len-i-end.ensures))) l.invariant.marking in
    let o = notes_of 0 l.notes in
    let ended = subst (λ (n : ℕ). Closing (l.s, l.pool) o n) (sym e.0) c.close.ensures.closing in
    let listed = subst (λ (n : ℕ). Listed (closing (l.s, l.pool) o n l.marks) all) e.0 (marks-end f.tasks l.s l.pool l.i l.notes m (reached-small z).0 (reached-cell z) ended) in
    subst (λ (w : List ℕ). Listed w all) (sym c.close.ensures.marks_after) listed
