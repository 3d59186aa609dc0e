use Rattle.std.proofs.Common.{sym, ap, not}
use lib.Seq.{length-take-le}
use Rattle.figure_lines.specs.Answers.{answer_of}
use Rattle.session_engine.proofs.Turning.{reached-small}
use Rattle.session_reader.specs.Reading.{act_at}
use Rattle.nudge_tool.proofs.Steps.{tried_apart, tried-close, reached-words}
use Rattle.nudge_tool.proofs.trial.try_exchange.Goals as goal

pub collide-requires : goal.collide-requires
collide-requires c = (reached-small c.requires.reached).0

pub returns-then-not-collide : goal.returns-then-not-collide
returns-then-not-collide c = let a = c.args in
    let b = a.before.now in
    tried_apart (b.s, a.pool.now) (act_at a.actions.forms.now) a.actions.kept.now b.task b.begun a.call.at (answer_of a.call.answer) a.i c.requires.two c.at.ensures c.at-2.ensures (sym c.collide.ensures) (ap not c.if-not-collide.true)

pub slice_bounds-room-end : goal.slice_bounds-room-end
slice_bounds-room-end c = reached-words c.requires.reached

pub slice_bounds-copy-end : goal.slice_bounds-copy-end
slice_bounds-copy-end c = sym (length-take-le _ _ (reached-words c.requires.reached))

pub copy_from_slice-requires : goal.copy_from_slice-requires
copy_from_slice-requires c = length-take-le _ _ (reached-words c.requires.reached)

pub returns : goal.returns
returns c = let a = c.args in
    let b = a.before.now in
    tried-close (b.s, a.pool.now) (act_at a.actions.forms.now) a.actions.kept.now b.task b.begun a.call.at (answer_of a.call.answer) a.i c.requires.two c.at.ensures c.at-2.ensures (sym c.collide.ensures) (ap not c.if-not-collide.false)
    (rw c.copy_from_slice.ensures.after at c.follow.ensures)
