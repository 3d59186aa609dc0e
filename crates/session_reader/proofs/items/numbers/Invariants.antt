use Rattle.std.proofs.Common.{◌≤◌, length}
use Rattle.text.proofs.Several.{Storing}
use Rattle.session_spec.specs.Session.{item}
use Rattle.session_reader.proofs.items.numbers.Given as goal

abbrev pub invariant-loop-n : goal.invariant-loop-n
invariant-loop-n l = record {
  within : l.i ≤ length l.s;
  storing : Storing item l.s l.at l.k l.initial.out l.out l.i l.n;
}
