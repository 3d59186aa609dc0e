use mathlib.Core.Path.{◌≡◌}
use Prim.Native.Nat.{◌-◌, ◌≤◌, ◌<◌}
use Rattle.cells_spec.specs.Blocks.{block_after, unused_from, first_unused}
use Rattle.cells_step.proofs.blocks.unused_block.Given as goal

-- What is left from the next block on answers for all.
abbrev pub invariant-loop : goal.invariant-loop
invariant-loop l = (l.blocks ≤ 128) × (l.b < l.blocks) × (unused_from l.counts l.blocks (block_after l.blocks l.b) (l.blocks - l.counter) ≡ first_unused l.counts l.blocks l.last)
