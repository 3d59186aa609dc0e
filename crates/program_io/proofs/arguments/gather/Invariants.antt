use Rattle.std.proofs.Common.{◌≡◌, ◌-◌, ◌<◌, ◌≤◌, length, slice_index}
use Rattle.program_io.proofs.arguments.gather.Given as goal

abbrev pub invariant-loop-i : goal.invariant-loop-i
invariant-loop-i g l = (l.at ≤ length l.buf) × (0 < l.at → slice_index l.buf (l.at - 1) ≡ 0)
