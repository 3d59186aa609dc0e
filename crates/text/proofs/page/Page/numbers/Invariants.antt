use Rattle.std.proofs.Common.{◌+◌, ◌≤◌, length, drop}
use Rattle.text.specs.Lines.{numbers}
use Rattle.text.proofs.Pages.{Onward}
use Rattle.text.proofs.page.Page.numbers.Given as goal

abbrev pub invariant-loop-n : goal.invariant-loop-n
invariant-loop-n l = record {
  onward : Onward l.initial.self l.self (numbers (drop l.n-index l.l)) (numbers l.l);
  room : l.self.at + length (numbers (drop l.n-index l.l)) ≤ length l.self.bytes.now;
}
