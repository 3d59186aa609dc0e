use Rattle.std.proofs.Common.{◌≡◌, ◌≤◌, drop}
use Rattle.session_spec.specs.Shape.{shaped, shaped_after}
use Rattle.session_reader.proofs.shape.shaped.Given as goal

abbrev pub invariant-loop-b : goal.invariant-loop-b
invariant-loop-b l = record {
  depth : l.d ≤ 8;
  rest : shaped_after l.d l.p (drop l.b-index l.s) ≡ shaped l.s;
}
