-- The row that a search finds.
use mathlib.Core.Path.{◌≡◌, refl}
use mathlib.Core.Option.{some}
use Rattle.figure_lines.specs.Paths.{row_of}

-- two rows have 15 steps and 2 hardware CAS attempts; this one openings reach
pub reached-row : row_of 15 2 ≡ some (5, 8)
unfolding row_of
reached-row = refl
