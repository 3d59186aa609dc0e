-- Document 01's P1 to P10 (P9 and P10 with CR 2's counts) as session files with what they print: one table, computed.
use Rattle.std.specs.Prelude.{◌≡◌, refl, List, [], ◌∷◌}
use Prim.Native.String.{String}
use Rattle.text.specs.Bytes.{bytes, digits}
use Rattle.text.specs.Lines.{numbers}
use Rattle.text.specs.Readers.{literal, digits_after, number, several}
use Rattle.rate.specs.Rate.{rate}
use Rattle.cells_spec.specs.Questions.{fit, record_fit, cells_fit, records_fit, uses, counts_true, has_none, open_questions}
use Rattle.cells_spec.specs.Blocks.{first_unused}
use Rattle.cells_spec.specs.Open.{opened}
use Rattle.cells_spec.specs.StoredCounts.{recounted}
use Rattle.cells_spec.specs.Begin.{read_begun, swap_begun}
use Rattle.cells_spec.specs.Step.{ran, stepped}
use Rattle.cells_spec.specs.Drop.{dropped}
use Rattle.cells_spec.specs.Look.{looked}
use Rattle.session_spec.specs.Shape.{fits, deeper, shaped_after}
use Rattle.session_spec.specs.Session as reader
use Rattle.session_spec.specs.Lines.{done_start, event_line}
use Rattle.session_spec.specs.Printed.{event_lines, cell_lines, pending_tasks, end_text, played, after_open, printed}

abbrev pub Prints : List (String × String) → Type 0
Prints [] = Unit {0}
Prints ((s, r) ∷ l) = (printed (bytes s) ≡ bytes r) × Prints l

prints :
    Prints (
    -- P1
    ("(open 2 1 5 (5))\n(swap 0 0 5 7)\n(again 10 (step 0))\n(read 1 0)\n(again 3 (step 1))\n", "(done 0 swap 0 yes 10 0 0)\n(done 1 read 0 7 3 0 0)\n(cell 0 7)\n(end 2 0 0 0)\n") ∷
    -- P2
    ("(open 32 1 65 (5))\n", "(cell 0 5)\n(end 0 0 0 0)\n") ∷
    ("(open 33 1 67 (5))\n", "(no 0 1)\n") ∷
    -- P3
    ("(open 2 1 4 (5))\n", "(cell 0 5)\n(end 0 0 0 0)\n") ∷
    ("(open 2 1 3 (5))\n", "(no 0 3)\n") ∷
    -- P4
    ("(open 2 1 5 (4294967294))\n", "(cell 0 4294967294)\n(end 0 0 0 0)\n") ∷
    ("(open 2 1 5 (4294967295))\n", "(no 0 5)\n") ∷
    -- P5
    ("(open 2 1 5 (5))\n(swap 0 0 5 5)\n(again 3 (step 0))\n", "(done 0 swap 0 yes 3 0 0)\n(cell 0 5)\n(end 1 0 0 0)\n") ∷
    -- P6
    ("(open 2 1 5 (5))\n(swap 0 0 4 6)\n(again 8 (step 0))\n", "(done 0 swap 0 no 8 0 0)\n(cell 0 5)\n(end 1 0 0 0)\n") ∷
    -- P7
    ("(open 2 1 5 (5))\n(step 0)\n", "(no 0 11)\n(cell 0 5)\n(end 0 0 0 0)\n") ∷
    -- P8
    ("(open 2 1 5 (5))\n(read 2 1)\n(swap 2 1 5 7)\n", "(no 0 7)\n(no 1 7)\n(cell 0 5)\n(end 0 0 0 0)\n") ∷
    -- P9
    ("(open 2 1 5 (5))\n(swap 0 0 5 7)\n(swap 1 0 5 9)\n(again 2 (step 0))\n(again 7 (step 1))\n(again 2 (step 0))\n(again 5 (step 1))\n(again 3 (step 0))\n(swap 0 0 9 4)\n(again 13 (step 0))\n(swap 0 0 4 6)\n(again 10 (step 0))\n", "(done 1 swap 0 yes 12 1 0)\n(done 0 swap 0 no 7 0 1)\n(done 0 swap 0 yes 13 1 1)\n(done 0 swap 0 yes 10 0 0)\n(cell 0 6)\n(end 4 0 4 1000)\n") ∷
    -- P10
    ("(open 2 1 5 (5))\n(swap 0 0 5 7)\n(swap 1 0 5 9)\n(again 2 (step 0))\n(again 7 (step 1))\n(again 5 (step 0))\n(again 14 (step 1))\n(again 6 (step 0))\n", "(done 1 swap 0 yes 21 1 2)\n(done 0 swap 0 no 13 1 1)\n(cell 0 9)\n(end 2 0 5 2500)\n") ∷
    -- P10 and a read: a rate that is rounded up
    ("(open 2 1 5 (5))\n(swap 0 0 5 7)\n(swap 1 0 5 9)\n(again 2 (step 0))\n(again 7 (step 1))\n(again 5 (step 0))\n(again 14 (step 1))\n(again 6 (step 0))\n(read 0 0)\n(again 3 (step 0))\n", "(done 1 swap 0 yes 21 1 2)\n(done 0 swap 0 no 13 1 1)\n(done 0 read 0 9 3 0 0)\n(cell 0 9)\n(end 3 0 5 1667)\n") ∷
    -- a file that is none, a refused action and a pending call
    ("(open 2 1 5 (5))", "(bad 13)\n") ∷
    ("(open 2 1 5 (5))\n(read 1 0)\n(step 0)\n(step 1)\n", "(no 1 11)\n(cell 0 5)\n(end 0 1 0 0)\n") ∷
    -- CR 12: a call is withdrawn: its task is idle and begins another, which finds the block active and Y true; the end counts it nowhere
    ("(open 2 1 5 (5))\n(swap 0 0 5 7)\n(again 5 (step 0))\n(drop 0)\n(drop 0)\n(drop 2)\n(swap 0 0 5 9)\n(again 13 (step 0))\n", "(no 7 11)\n(no 8 7)\n(done 0 swap 0 yes 13 2 0)\n(cell 0 9)\n(end 1 0 2 2000)\n") ∷
    []
    )
unfolding digits rate literal digits_after number fit record_fit cells_fit records_fit has_none open_questions uses counts_true first_unused recounted opened read_begun swap_begun ran stepped dropped looked fits deeper shaped_after several reader.many_within reader.values reader.read_opening reader.keyword reader.head reader.body reader.form reader.read_line reader.count reader.times reader.actions reader.asked14 reader.formed reader.verdict numbers done_start event_line event_lines cell_lines pending_tasks end_text played after_open printed reader.asked15
prints = (refl, (refl, (refl, (refl, (refl, (refl, (refl, (refl, (refl, (refl, (refl, (refl, (refl, (refl, (refl, (refl, (refl, tt)))))))))))))))))
