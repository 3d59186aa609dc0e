use Rattle.std.proofs.Common.{◌≡◌, false, ℕ, ◌<◌, get_or, length}
use Rattle.figure_lines.specs.Record.{record_at}
use Rattle.moments_tool.specs.Notes.{holds_with}
use Rattle.moments_tool.proofs.notes.holders.Given as goal

abbrev pub invariant-loop-u : goal.invariant-loop-u
invariant-loop-u l = ((k : ℕ) → k < l.u → get_or l.who k false ≡ holds_with (record_at l.s.records k) l.r) × (length l.who ≡ 32)
