use Rattle.std.proofs.Common.{◌≡◌, length}
use Rattle.moments_tool.proofs.Noting.{Spread}
use Rattle.moments_tool.proofs.notes.Notes.note.Given as goal

abbrev pub invariant-loop-u : goal.invariant-loop-u
invariant-loop-u l = Spread l.line l.c.sight l.i l.who l.initial.self-inside.own l.self-inside.own l.u × (length l.self-inside.own ≡ 32)
