use Rattle.std.proofs.Common.{◌≡◌, ◌+◌, ◌-◌, ◌*◌, ◌≤◌, length, take, drop}
use Rattle.session_reader.proofs.Turns.{Turn}
use Rattle.session_spec.specs.Session as specs
use Rattle.session_reader.proofs.opening.values.Given as goal

abbrev pub invariant-loop-next : goal.invariant-loop-next
invariant-loop-next l = record {
  first : l.at + 1 ≤ l.a;
  two_each : 2 * l.n ≤ l.i;
  some : 1 ≤ l.n;
  rest : drop l.n l.out ≡ drop l.n l.initial.out;
  turn : Turn specs.snoc specs.item specs.close (specs.values (drop l.at l.s)) l.s l.a l.i (take l.n l.out);
}

abbrev pub decreases-loop-next : goal.decreases-loop-next
decreases-loop-next l = length l.s - l.i
