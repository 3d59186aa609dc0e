use Rattle.std.proofs.Common.{◌≡◌, map, drop}
use Rattle.cells_spec.specs.Machine.{pool as machine}
use Rattle.history_spec.specs.History.{history}
use Rattle.cells_theorems.specs.Reached.{Reached}
use Rattle.session_reader.specs.Reading.{act_at}
use Rattle.nudge_spec.specs.Exchange.{exchanged}
use Rattle.nudge_tool.specs.Calls.{calls, answer_of_call}
use Rattle.nudge_tool.proofs.trial.follow.Given as goal

abbrev pub invariant-loop-j : goal.invariant-loop-j
invariant-loop-j l =
    let f = l.follower in
    let b = l.initial.follower in
    let all = map (act_at l.actions.forms.now) (exchanged l.i l.actions.kept.now) in
    (answer_of_call l.target (calls f.task f.begun l.j (history machine (f.s, l.pool) (drop l.j all))) ≡ answer_of_call l.target (calls b.task b.begun l.i (history machine (b.s, l.initial.pool) (drop l.i all))))
    × Reached b.s.tasks b.s.cells f.s l.pool × (f.task ≡ b.task)
