use mathlib.Core.Path.{◌≡◌}
use lib.ListN.{length, drop}
use Rattle.cells_spec.specs.Open.{filled}
use Rattle.cells.proofs.opening.fill_blocks.Given as goal

-- The loop: what is left to fill from here on gives the whole pool.
abbrev pub invariant-loop-k : goal.invariant-loop-k
invariant-loop-k l = (length l.pool ≡ length l.initial.pool) × (filled l.pool (drop l.k l.values) l.k ≡ filled l.initial.pool l.values 0)
