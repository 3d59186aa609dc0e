use Rattle.std.proofs.Common.{◌≤◌, length}
use Rattle.text.specs.Arguments.{ended_by}
use Rattle.text.proofs.Several.{Storing}
use Rattle.text.proofs.arguments.ended_numbers.Given as goal

abbrev pub invariant-loop-place : goal.invariant-loop-place
invariant-loop-place l = record {
  within : l.at ≤ length l.s;
  storing : Storing (ended_by l.end) l.s 0 (length l.initial.out) l.initial.out l.out l.at l.place-index;
}
