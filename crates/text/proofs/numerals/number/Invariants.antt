use Rattle.std.proofs.Common.{◌≡◌, ◌<◌, ◌≤◌, length, drop}
use Rattle.text.specs.Readers.{number, digits_after}
use Rattle.text.proofs.numerals.number.Given as goal

abbrev pub invariant-loop-i : goal.invariant-loop-i
invariant-loop-i l = record {
  past : l.at < l.i;
  within : l.i ≤ length l.s;
  read : digits_after l.v (drop l.i l.s) ≡ number (drop l.at l.s);
}
