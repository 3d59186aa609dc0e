use Rattle.session_reader.proofs.Walks.{Walk}
use Rattle.session_spec.specs.Session as specs
use lib.ListN.{length}
use Prim.Native.Nat.{◌-◌}
use Rattle.session_reader.proofs.forms.all_lines.Given as goal

abbrev pub invariant-loop-i : goal.invariant-loop-i
invariant-loop-i l = Walk specs.read_line specs.finish l.s l.at l.initial.tables l.tables l.i l.over

abbrev pub decreases-loop-i : goal.decreases-loop-i
decreases-loop-i l = length l.s - l.i
