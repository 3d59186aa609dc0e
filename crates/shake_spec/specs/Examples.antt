-- Sessions, computed.
use Rattle.std.specs.Prelude.{◌≡◌, refl, List, [], ◌∷◌, ℕ}
use Prim.Native.String.{String}
use Rattle.text.specs.Bytes.{bytes, digits}
use Rattle.text.specs.Lines.{numbers}
use Rattle.cells_spec.specs.Questions.{fit, record_fit, cells_fit, records_fit, uses, counts_true, has_none, open_questions}
use Rattle.cells_spec.specs.Blocks.{first_unused}
use Rattle.cells_spec.specs.Open.{opened}
use Rattle.cells_spec.specs.StoredCounts.{recounted}
use Rattle.cells_spec.specs.Begin.{read_begun, swap_begun}
use Rattle.cells_spec.specs.Step.{ran, stepped}
use Rattle.session_spec.specs.Written.{written, written_values, opening_line, form_lines, file_text}
use Rattle.shake_spec.specs.Generator.{next, below}
use Rattle.shake_spec.specs.Drawn.{drawn_begin, drawn_action}
use Rattle.shake_spec.specs.Actions.{drawn_actions, zero_start}
use Rattle.shake_spec.specs.Shaken.{shake_questions, shaken}

-- five numbers, and what they print
abbrev Shakes : List ((ℕ × ℕ × ℕ × ℕ × ℕ) × String) → Type 0
Shakes [] = Unit {0}
Shakes (((g, n, v, b, k), r) ∷ l) = (shaken g n v b k ≡ bytes r) × Shakes l

shakes :
    Shakes (
    -- task 1's read ends with its third step, and its next begin is a swap
    ((2, 2, 2, 6, 9), "(open 2 2 6 (0 0))\n(read 1 1)\n(step 1)\n(step 1)\n(swap 0 1 0 2)\n(step 0)\n(step 0)\n(step 1)\n(swap 1 0 0 2)\n(step 1)\n") ∷
    -- one task on one cell: a draw mod 1 is a draw
    ((0, 1, 1, 3, 6), "(open 1 1 3 (0))\n(read 0 0)\n(step 0)\n(step 0)\n(step 0)\n(swap 0 0 0 2)\n(step 0)\n") ∷
    ((4294967295, 32, 16, 80, 3), "(open 32 16 80 (0 0 0 0 0 0 0 0 0 0 0 0 0 0 0 0))\n(swap 21 3 3 1)\n(swap 4 0 2 3)\n(swap 14 0 0 2)\n") ∷
    -- refusals, in their order
    ((0, 0, 0, 0, 0), "(bad 1)\n") ∷
    ((0, 33, 17, 129, 3001), "(bad 1)\n") ∷
    ((0, 32, 17, 129, 3001), "(bad 2)\n") ∷
    ((0, 32, 16, 129, 3001), "(bad 3)\n") ∷
    ((0, 2, 1, 3, 1), "(bad 3)\n") ∷
    ((0, 2, 1, 4, 0), "(bad 17)\n") ∷
    ((0, 32, 16, 128, 3001), "(bad 17)\n") ∷
    []
    )
unfolding digits numbers next below fit record_fit cells_fit records_fit has_none open_questions uses counts_true first_unused recounted opened read_begun swap_begun ran stepped written written_values opening_line form_lines file_text drawn_begin drawn_action drawn_actions zero_start shake_questions shaken
shakes = (refl, (refl, (refl, (refl, (refl, (refl, (refl, (refl, (refl, (refl, tt))))))))))
