-- Session files with the lines that moments prints of them, P1, P9 and P10 among them: one table, computed.
use Rattle.std.specs.Prelude.{◌≡◌, refl, List, [], ◌∷◌}
use Prim.Native.String.{String}
use Rattle.text.specs.Bytes.{bytes, digits}
use Rattle.text.specs.Lines.{numbers}
use Rattle.text.specs.Readers.{literal, digits_after, number, several}
use Rattle.history_spec.specs.Basics.{upd}
use Rattle.cells_spec.specs.Questions.{fit, record_fit, cells_fit, records_fit, uses, counts_true, has_none, open_questions}
use Rattle.cells_spec.specs.Blocks.{first_unused}
use Rattle.cells_spec.specs.Open.{opened}
use Rattle.cells_spec.specs.StoredCounts.{recounted}
use Rattle.cells_spec.specs.Begin.{read_begun, swap_begun}
use Rattle.cells_spec.specs.Step.{ran, stepped}
use Rattle.cells_spec.specs.Drop.{dropped}
use Rattle.session_spec.specs.Shape.{fits, deeper, shaped_after}
use Rattle.session_spec.specs.Session as reader
use Rattle.session_spec.specs.Tools.{tool_after_open, tool_printed}
use Rattle.moments_spec.specs.Lines.{at_line, mark_lines}
use Rattle.moments_spec.specs.Printed.{moments_printed}

abbrev pub PrintsMoments : List (String × String) → Type 0
PrintsMoments [] = Unit {0}
PrintsMoments ((s, r) ∷ l) = (moments_printed (bytes s) ≡ bytes r) × PrintsMoments l

prints :
    PrintsMoments (
    -- P1: a swap that is alone, and a read after it
    ("(open 2 1 5 (5))\n(swap 0 0 5 7)\n(again 10 (step 0))\n(read 1 0)\n(again 3 (step 1))\n", "(at 8 itself 0 swap 0 C4)\n(at 13 itself 1 read 0 R1)\n") ∷
    -- P9: task 1's late store counts, at the action that set C
    ("(open 2 1 5 (5))\n(swap 0 0 5 7)\n(swap 1 0 5 9)\n(again 2 (step 0))\n(again 7 (step 1))\n(again 2 (step 0))\n(again 5 (step 1))\n(again 3 (step 0))\n(swap 0 0 9 4)\n(again 13 (step 0))\n(swap 0 0 4 6)\n(again 10 (step 0))\n", "(at 12 itself 1 swap 0 C3)\n(at 16 itself 0 swap 0 C5)\n(at 34 itself 0 swap 0 C6)\n(at 43 itself 0 swap 0 C4)\n") ∷
    -- P10: task 1 replaces the block; task 0's hardware CAS fails, right after
    ("(open 2 1 5 (5))\n(swap 0 0 5 7)\n(swap 1 0 5 9)\n(again 2 (step 0))\n(again 7 (step 1))\n(again 5 (step 0))\n(again 14 (step 1))\n(again 6 (step 0))\n", "(at 29 itself 1 swap 0 C6)\n(at 29 after 0 swap 0 C6)\n") ∷
    -- three reads that go by one decision, made after their first loads: at one action lower tasks come first, in whatever order they finish
    ("(open 5 1 11 (5))\n(swap 0 0 5 7)\n(swap 1 0 5 9)\n(again 2 (step 0))\n(again 7 (step 1))\n(again 2 (step 0))\n(step 1)\n(read 4 0)\n(read 3 0)\n(read 2 0)\n(step 4)\n(step 3)\n(step 2)\n(again 2 (step 0))\n(again 5 (step 3))\n(again 5 (step 2))\n(again 5 (step 4))\n", "(at 12 itself 1 swap 0 C3)\n(at 21 itself 2 read 0 R2)\n(at 21 itself 3 read 0 R2)\n(at 21 itself 4 read 0 R2)\n") ∷
    -- a late store on a block that is not decided is not listed, nor is a pending read
    ("(open 3 1 7 (5))\n(swap 0 0 5 7)\n(swap 1 0 5 9)\n(again 2 (step 0))\n(again 7 (step 1))\n(again 2 (step 0))\n(step 1)\n(step 0)\n(read 2 0)\n(again 3 (step 2))\n", "") ∷
    -- decided, it is
    ("(open 3 1 7 (5))\n(swap 0 0 5 7)\n(swap 1 0 5 9)\n(again 2 (step 0))\n(again 7 (step 1))\n(again 2 (step 0))\n(step 1)\n(again 2 (step 0))\n(read 2 0)\n(again 3 (step 2))\n", "(at 12 itself 1 swap 0 C3)\n") ∷
    -- a swap that stored late is withdrawn (action 14): it is not listed while its block is not decided
    ("(open 3 1 7 (5))\n(swap 0 0 5 7)\n(swap 1 0 5 9)\n(again 2 (step 0))\n(again 7 (step 1))\n(again 2 (step 0))\n(step 1)\n(drop 1)\n(step 0)\n", "") ∷
    -- decided as its value, it is, at the action that set C: here by its task's next call, which then replaces the block
    ("(open 3 1 7 (5))\n(swap 0 0 5 7)\n(swap 1 0 5 9)\n(again 2 (step 0))\n(again 7 (step 1))\n(again 2 (step 0))\n(step 1)\n(drop 1)\n(swap 1 0 9 4)\n(again 13 (step 1))\n(again 3 (step 0))\n", "(at 12 itself 1 swap 0 C3)\n(at 21 itself 0 swap 0 C5)\n(at 28 itself 1 swap 0 C6)\n") ∷
    -- decided as another value, it is not: task 0 loaded V before the late store
    ("(open 3 1 7 (5))\n(swap 0 0 5 7)\n(swap 1 0 5 9)\n(again 2 (step 0))\n(again 7 (step 1))\n(again 3 (step 0))\n(step 1)\n(drop 1)\n(again 2 (step 0))\n", "") ∷
    -- a withdrawn swap that stored in an active block is listed at its store
    ("(open 2 1 5 (5))\n(swap 0 0 5 7)\n(again 8 (step 0))\n(drop 0)\n(read 1 0)\n(again 3 (step 1))\n", "(at 8 itself 0 swap 0 C4)\n(at 12 itself 1 read 0 R1)\n") ∷
    -- a file that is none; a refused open; no call
    ("(open 2 1 5 (5))", "(bad 13)\n") ∷
    ("(open 2 1 3 (5))\n", "(bad 3)\n") ∷
    ("(open 2 1 5 (5))\n(step 0)\n", "") ∷
    []
    )
unfolding upd digits literal digits_after number fit record_fit cells_fit records_fit has_none open_questions uses counts_true first_unused recounted opened read_begun swap_begun ran stepped dropped fits deeper shaped_after several reader.many_within reader.values reader.read_opening reader.keyword reader.head reader.body reader.form reader.read_line reader.count reader.times reader.actions reader.asked14 reader.formed reader.verdict reader.asked15 numbers at_line mark_lines tool_after_open tool_printed
prints = (refl, (refl, (refl, (refl, (refl, (refl, (refl, (refl, (refl, (refl, (refl, (refl, (refl, tt)))))))))))))
