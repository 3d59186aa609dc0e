use Rattle.std.proofs.Common.{◌≡◌, drop}
use Rattle.cells_spec.specs.Machine.{pool as machine}
use Rattle.history_spec.specs.History.{history}
use Rattle.cells_theorems.specs.Reached.{Reached}
use Rattle.session_engine.specs.Tool.{all_of}
use Rattle.nudge_spec.specs.Nudge.{at_place}
use Rattle.nudge_tool.specs.Calls.{calls}
use Rattle.nudge_tool.proofs.calls.seek.Given as goal

abbrev pub invariant-loop-i : goal.invariant-loop-i
invariant-loop-i l =
    let f = l.follower in
    let s = l.initial.follower.s in
    let all = all_of l.actions in
    (at_place l.left (calls f.task f.begun l.i (history machine (f.s, l.pool) (drop l.i all))) ≡ at_place l.initial.left (calls l.initial.follower.task 0 0 (history machine (s, l.initial.pool) all)))
    × Reached s.tasks s.cells f.s l.pool × (f.task ≡ l.initial.follower.task)
