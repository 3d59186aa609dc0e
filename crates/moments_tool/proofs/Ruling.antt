-- Pending swaps, one task after another.
use mathlib.Core.Path.{◌≡◌}
use mathlib.Core.List.{List}
use Prim.Native.Nat.{ℕ, ◌+◌}
use native.Mathlib.Numerals.{add-one}
use Rattle.cells_spec.specs.Machine.{Pool}
use Rattle.figure_moments.specs.Moments.{Notes}
use Rattle.moments_tool.specs.Words.{entered, IsMade}
use Rattle.moments_tool.specs.Loop.{pending_word, closing, Closing}

module _ (x : Pool) (o : Notes) (t : ℕ) where
  pub closing-next : (l : List ℕ) → closing x o (t + 1) l ≡ entered (pending_word x o t) (closing x o t l)
  unfolding closing
  closing-next l = rw (add-one t)

  pub fits_next : IsMade (pending_word x o t) → Closing x o t → Closing x o (t + 1)
  unfolding Closing
  fits_next h k = rw (add-one t) (h, k)
