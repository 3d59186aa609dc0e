use Rattle.std.proofs.Common.{◌≡◌, ◌-◌, length}
use Rattle.cells_spec.specs.Machine.{Pool}
use Rattle.figure_lines.specs.Answers.{answer_of}
use Rattle.session_engine.specs.Tool.{all_of}
use Rattle.nudge_spec.specs.Nudge.{nudges, earliest}
use Rattle.nudge_tool.proofs.Steps.{Before}
use Rattle.nudge_tool.proofs.exchange.try_each.Given as goal

abbrev pub invariant-loop-i : goal.invariant-loop-i
invariant-loop-i l =
    let f = l.before in
    let all = all_of l.actions in
    let n = length l.actions.kept.now in
    let x₀ : Pool = (l.initial.before.s, l.initial.pool) in
    (earliest (nudges x₀ all l.call.at (answer_of l.call.answer)) l.i (n - l.i) ≡ earliest (nudges x₀ all l.call.at (answer_of l.call.answer)) 0 n)
    × Before x₀ all f.task l.i (f.s, l.pool) f.begun × (f.task ≡ l.initial.before.task)
