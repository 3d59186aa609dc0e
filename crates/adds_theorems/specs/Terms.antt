-- The terms of the theorems on the entries with adds.
use Rattle.std.specs.Prelude.{List, ℕ, replicate}
use Rattle.cells_spec.specs.declared.State.{State}
use Rattle.cells_theorems.specs.Terms.{start}
use Rattle.adds_spec.specs.Adding.{AddingPool, no_add}

-- what an opening that is not refused leaves: the opened cells, and no add
abbrev pub adding_start : State → List ℕ → (tasks cells blocks : ℕ) → List ℕ → AddingPool
adding_start s p n v b vs = let x = start s p n v b vs in (record { cells = x.0; adds = replicate 32 no_add }, x.1)
