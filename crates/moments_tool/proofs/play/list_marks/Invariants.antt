use Rattle.std.proofs.Common.{◌≤◌, length, drop}
use Rattle.cells_theorems.specs.Reached.{Reached}
use Rattle.session_engine.specs.Tool.{all_of}
use Rattle.moments_tool.specs.Notes.{notes_of}
use Rattle.moments_tool.specs.Loop.{all_marks}
use Rattle.moments_tool.proofs.Marking.{Marking}
use Rattle.moments_tool.proofs.play.list_marks.Given as goal

abbrev pub invariant-loop-i : goal.invariant-loop-i
invariant-loop-i l =
    let f = l.fn.first in
    let acts = all_of l.fn.actions in
    record {
      marking : Marking f.tasks (all_marks f.tasks (f, l.initial.pool) acts) (l.s, l.pool) (notes_of l.i l.notes) l.waiting l.marks (drop l.i acts);
      few : length l.marks ≤ l.i;
      reached : Reached f.tasks f.cells l.s l.pool;
    }
