-- Small sessions with what nudge prints: one table, computed.
use Rattle.std.specs.Prelude.{◌≡◌, refl, List, [], ◌∷◌, ℕ}
use Prim.Native.String.{String}
use Rattle.history_spec.specs.Basics.{upd}
use Rattle.text.specs.Bytes.{bytes, digits}
use Rattle.text.specs.Lines.{numbers}
use Rattle.text.specs.Readers.{literal, digits_after, number, several}
use Rattle.cells_spec.specs.Questions.{fit, record_fit, cells_fit, records_fit, uses, counts_true, has_none, open_questions}
use Rattle.cells_spec.specs.Blocks.{first_unused}
use Rattle.cells_spec.specs.Open.{opened}
use Rattle.cells_spec.specs.StoredCounts.{recounted}
use Rattle.cells_spec.specs.Begin.{read_begun, swap_begun}
use Rattle.cells_spec.specs.Step.{ran, stepped}
use Rattle.cells_spec.specs.Drop.{dropped}
use Rattle.session_spec.specs.Shape.{fits, deeper, shaped_after}
use Rattle.session_spec.specs.Session as reader
use Rattle.session_spec.specs.Tools.{tool_after_open, tool_printed}
use Rattle.nudge_spec.specs.Nudge.{earliest, nudge, nudged}

-- of task t's call with n finished before it, in the session s: r is printed
abbrev pub PrintsNudges : List ((ℕ × ℕ) × (String × String)) → Type 0
PrintsNudges [] = Unit {0}
PrintsNudges (((t, n), (s, r)) ∷ l) = (nudged t n (bytes s) ≡ bytes r) × PrintsNudges l

prints :
    PrintsNudges (
    -- answers otherwise: at action 10 the read loads V, at 11 the swap stores it
    ((1, 0), ("(open 2 1 5 (5))\n(swap 0 0 5 9)\n(again 7 (step 0))\n(read 1 0)\n(again 2 (step 1))\n(step 0)\n(step 1)\n", "(nudge 10)\n")) ∷
    -- the earliest: exchange 16 too has the read answer 7, because the block is then inactive, and decided
    ((1, 0), ("(open 3 1 7 (5))\n(swap 0 0 5 7)\n(again 7 (step 0))\n(swap 2 0 5 9)\n(again 3 (step 2))\n(read 1 0)\n(again 2 (step 1))\n(step 0)\n(step 1)\n(step 2)\n(again 3 (step 1))\n", "(nudge 14)\n")) ∷
    -- none for the next call of the first session's reader
    ((1, 1), ("(open 2 1 5 (5))\n(swap 0 0 5 9)\n(again 7 (step 0))\n(read 1 0)\n(again 2 (step 1))\n(step 0)\n(step 1)\n(read 1 0)\n(again 3 (step 1))\n", "(nudge none)\n")) ∷
    -- does not finish: exchanged, actions 4 and 5 leave the other task in X, and the swap has more than its ten steps to do
    ((1, 0), ("(open 2 1 5 (5))\n(swap 1 0 5 7)\n(step 1)\n(swap 0 0 5 9)\n(again 2 (step 0))\n(again 9 (step 1))\n", "(nudge 4)\n")) ∷
    -- is not begun: no exchange with another task's action has a begin refused, but one before it may leave the same task's call before it
    -- pending, and then it is refused with 9
    ((1, 1), ("(open 2 1 5 (5))\n(swap 1 0 5 7)\n(step 1)\n(swap 0 0 5 9)\n(again 2 (step 0))\n(again 9 (step 1))\n(read 1 0)\n(again 3 (step 1))\n", "(nudge 4)\n")) ∷
    -- CR 12, does not finish: exchanged, actions 6 and 7 have the swap take five steps more, and its own drop comes before these. Without the drop
    -- it would answer the same. The read that is withdrawn first does not count as finished.
    ((1, 0), ("(open 2 1 5 (5))\n(read 1 0)\n(drop 1)\n(swap 1 0 5 7)\n(step 1)\n(swap 0 0 5 9)\n(again 2 (step 0))\n(again 9 (step 1))\n(drop 1)\n(again 5 (step 1))\n", "(nudge 6)\n")) ∷
    -- none: exchanged, action 12 has the read take three steps more, to the same answer; answers are compared, not counts
    ((2, 0), ("(open 3 1 7 (5))\n(swap 1 0 5 7)\n(again 4 (step 1))\n(swap 0 0 5 9)\n(again 3 (step 0))\n(read 2 0)\n(again 3 (step 2))\n(step 0)\n(again 3 (step 2))\n", "(nudge none)\n")) ∷
    -- none: the begin is followed to place 0; a refused action of a task that there is not is of another task; a task's own are not exchanged
    ((1, 0), ("(open 2 1 5 (5))\n(step 7)\n(read 1 0)\n(again 3 (step 1))\n", "(nudge none)\n")) ∷
    -- 18: one call too far; no such task; a call that is not finished; one that is withdrawn
    ((1, 1), ("(open 2 1 5 (5))\n(step 7)\n(read 1 0)\n(again 3 (step 1))\n", "(bad 18)\n")) ∷
    ((7, 0), ("(open 2 1 5 (5))\n(step 7)\n(read 1 0)\n(again 3 (step 1))\n", "(bad 18)\n")) ∷
    ((1, 0), ("(open 2 1 5 (5))\n(read 1 0)\n(again 2 (step 1))\n", "(bad 18)\n")) ∷
    ((1, 0), ("(open 2 1 5 (5))\n(read 1 0)\n(again 2 (step 1))\n(drop 1)\n(step 1)\n", "(bad 18)\n")) ∷
    -- 19 before 18, the open's before 19, and 13 before the open's
    ((1, 0), ("(open 2 1 5 (5))\n(again 2001 (step 0))\n", "(bad 19)\n")) ∷
    ((1, 0), ("(open 2 1 3 (5))\n(again 2001 (step 0))\n", "(bad 3)\n")) ∷
    ((1, 0), ("(open 2 1 3 (5))", "(bad 13)\n")) ∷
    []
    )
unfolding digits literal digits_after number fit record_fit cells_fit records_fit has_none open_questions uses counts_true first_unused recounted opened read_begun swap_begun ran stepped dropped fits deeper shaped_after several reader.many_within reader.values reader.read_opening reader.keyword reader.head reader.body reader.form reader.read_line reader.count reader.times reader.actions reader.asked14 reader.formed reader.verdict numbers upd earliest nudge tool_after_open tool_printed reader.asked15
prints = (refl, (refl, (refl, (refl, (refl, (refl, (refl, (refl, (refl, (refl, (refl, (refl, (refl, (refl, (refl, tt)))))))))))))))
