use Rattle.std.proofs.Common.{◌≡◌, ◌+◌, ◌≤◌, length}
use Rattle.moments_tool.specs.Notes.{notes_of}
use Rattle.moments_tool.specs.Loop.{closing, Closing}
use Rattle.moments_tool.proofs.calls.close.Given as goal

abbrev pub invariant-loop-t : goal.invariant-loop-t
invariant-loop-t l = record {
  after : l.marks ≡ closing (l.s, l.pool) (notes_of 0 l.notes) l.t l.initial.marks;
  made : Closing (l.s, l.pool) (notes_of 0 l.notes) l.t;
  few : length l.marks ≤ length l.initial.marks + l.t;
}
