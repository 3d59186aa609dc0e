-- A cell that there is, whatever stands for those beyond the list.
use mathlib.Core.Path.{◌≡◌}
use mathlib.Core.List.{[]}
use Prim.Native.Nat.{ℕ, ◌<◌}
use native.Mathlib.Omega.{arith}
use lib.ListN.{get_or, length}
use Rattle.std.proofs.lemmas.List.{get_or_default}
use Rattle.once_spec.specs.declared.OnceCell.{OnceCell}
use Rattle.once_spec.specs.declared.OnceState.{OnceState}
use Rattle.once_spec.specs.Questions.{once_at, fresh_cell}

-- what the code reads beyond the list
abbrev pub zero_cell : OnceCell
zero_cell = record { x = 0; y = 0; c = 0; v = 0; d = 0; offered = [] }

pub cell-is : (s : OnceState) → length s.words ≡ 16 → (k : ℕ) → k < 16 → get_or s.words k zero_cell ≡ once_at s k
cell-is s n k h = get_or_default s.words k zero_cell fresh_cell (omega (arith, n, h))
