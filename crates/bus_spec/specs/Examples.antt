-- Small sessions with what bus prints of them, P1, P9 and P10 among them: one table, computed.
use Rattle.std.specs.Prelude.{◌≡◌, refl, List, [], ◌∷◌}
use Prim.Native.String.{String}
use Rattle.text.specs.Bytes.{bytes, digits}
use Rattle.text.specs.Lines.{numbers}
use Rattle.text.specs.Readers.{literal, digits_after, number, several}
use Rattle.figure_lines.specs.Paths.{row_of}
use Rattle.cells_spec.specs.Questions.{fit, record_fit, cells_fit, records_fit, uses, counts_true, has_none, open_questions}
use Rattle.cells_spec.specs.Blocks.{first_unused}
use Rattle.cells_spec.specs.Open.{opened}
use Rattle.cells_spec.specs.StoredCounts.{recounted}
use Rattle.cells_spec.specs.Begin.{read_begun, swap_begun}
use Rattle.cells_spec.specs.Step.{ran, stepped}
use Rattle.session_spec.specs.Shape.{fits, deeper, shaped_after}
use Rattle.session_spec.specs.Session as reader
use Rattle.session_spec.specs.Tools.{tool_after_open, tool_printed}
use Rattle.bus_spec.specs.Bus.{Times, times_from, call_lines, bus_text, bus_printed}

-- with these times, of the session s: r is printed
abbrev pub PrintsTimes : List (Times × (String × String)) → Type 0
PrintsTimes [] = Unit {0}
PrintsTimes ((w, (s, r)) ∷ l) = (bus_printed w (bytes s) ≡ bytes r) × PrintsTimes l

prints :
    PrintsTimes (
    -- a lone call of 6 loads and 4 stores: 7.8 and 9.4 nanoseconds
    (times_from 5 7 12 13 100 201, ("(open 2 1 5 (5))\n(swap 0 0 5 7)\n(again 10 (step 0))\n", "(bus 0 0 7 10)\n(all 7 10 0 0)\n")) ∷
    -- whole nanoseconds are not rounded
    (times_from 10 20 5 5 0 0, ("(open 2 1 5 (5))\n(swap 0 0 5 7)\n(again 10 (step 0))\n", "(bus 0 0 8 14)\n(all 8 14 0 0)\n")) ∷
    -- P1, added before rounding: 7.8 and 1.5 are 9.3, 9.4 and 2.1 are 11.5
    (times_from 5 7 12 13 100 201, ("(open 2 1 5 (5))\n(swap 0 0 5 7)\n(again 10 (step 0))\n(read 1 0)\n(again 3 (step 1))\n", "(bus 0 0 7 10)\n(bus 1 0 1 3)\n(all 9 12 0 0)\n")) ∷
    -- two calls with equal totals: the first to finish
    (times_from 5 7 12 13 100 201, ("(open 2 1 5 (5))\n(read 0 0)\n(read 1 0)\n(again 3 (step 1))\n(again 3 (step 0))\n", "(bus 1 0 1 3)\n(bus 0 0 1 3)\n(all 3 5 1 0)\n")) ∷
    -- equal once rounded, the second is the longer: 0.3 and 0.6
    (times_from 0 1 0 0 0 0, ("(open 2 1 5 (5))\n(read 1 0)\n(again 3 (step 1))\n(swap 0 0 5 7)\n(again 10 (step 0))\n", "(bus 1 0 0 1)\n(bus 0 0 0 1)\n(all 0 1 0 0)\n")) ∷
    -- P9, by the greatest totals: 0.0 to 10.0 nanoseconds for a hardware CAS; the least totals are 2.4, 1.2, 1.2 and 1.8
    (times_from 3 3 0 0 0 100, ("(open 2 1 5 (5))\n(swap 0 0 5 7)\n(swap 1 0 5 9)\n(again 2 (step 0))\n(again 7 (step 1))\n(again 2 (step 0))\n(again 5 (step 1))\n(again 3 (step 0))\n(swap 0 0 9 4)\n(again 13 (step 0))\n(swap 0 0 4 6)\n(again 10 (step 0))\n", "(bus 1 0 2 13)\n(bus 0 0 1 12)\n(bus 0 1 1 22)\n(bus 0 2 1 2)\n(all 6 47 0 1)\n")) ∷
    -- a task's calls are numbered; refused actions are none
    (times_from 5 7 12 13 100 201, ("(open 2 1 5 (5))\n(step 0)\n(read 0 0)\n(read 0 0)\n(again 4 (step 0))\n(read 1 0)\n(again 3 (step 1))\n(swap 0 0 5 7)\n(again 10 (step 0))\n", "(bus 0 0 1 3)\n(bus 1 0 1 3)\n(bus 0 1 7 10)\n(all 10 14 0 1)\n")) ∷
    -- P10: 10 loads, 8 stores and 3 hardware CAS; 4, 7 and 2
    (times_from 5 7 12 13 100 201, ("(open 2 1 5 (5))\n(swap 0 0 5 7)\n(swap 1 0 5 9)\n(again 2 (step 0))\n(again 7 (step 1))\n(again 5 (step 0))\n(again 14 (step 1))\n(again 6 (step 0))\n", "(bus 1 0 44 78)\n(bus 0 0 30 53)\n(all 75 130 1 0)\n")) ∷
    -- 15 steps and 2 hardware CAS: the row of 5 loads and 8 stores
    (times_from 5 7 12 13 100 201, ("(open 2 1 5 (5))\n(swap 0 0 5 7)\n(swap 1 0 5 9)\n(again 3 (step 0))\n(again 2 (step 1))\n(again 12 (step 0))\n", "(bus 0 0 32 55)\n(all 32 55 0 0)\n")) ∷
    -- no finished call
    (times_from 5 7 12 13 100 201, ("(open 2 1 5 (5))\n(swap 0 0 5 7)\n(again 9 (step 0))\n", "(all 0 0 none)\n")) ∷
    -- 22, in any of the six; 1,000,000 is a time
    (times_from 0 1000001 0 0 0 0, ("(open 2 1 5 (5))\n", "(bad 22)\n")) ∷
    (times_from 0 0 0 0 1000001 1000001, ("(open 2 1 5 (5))\n", "(bad 22)\n")) ∷
    (times_from 1000000 1000000 1000000 1000000 1000000 1000000, ("(open 2 1 5 (5))\n(read 0 0)\n(again 3 (step 0))\n", "(bus 0 0 300000 300000)\n(all 300000 300000 0 0)\n")) ∷
    -- 21 before 22, of all three ranges
    (times_from 1000001 1000000 0 0 0 0, ("(open 2 1 5 (5))\n", "(bad 21)\n")) ∷
    (times_from 1000001 1000001 0 0 1 0, ("(open 2 1 5 (5))\n", "(bad 21)\n")) ∷
    -- the open's before 21, and 13 before the open's
    (times_from 1 0 0 0 0 0, ("(open 2 1 3 (5))\n", "(bad 3)\n")) ∷
    (times_from 1 0 0 0 0 0, ("(open 2 1 3 (5))", "(bad 13)\n")) ∷
    []
    )
unfolding digits literal digits_after number row_of fit record_fit cells_fit records_fit has_none open_questions uses counts_true first_unused recounted opened read_begun swap_begun ran stepped fits deeper shaped_after several reader.many_within reader.values reader.read_opening reader.keyword reader.head reader.body reader.form reader.read_line reader.count reader.times reader.actions reader.asked14 reader.formed reader.verdict numbers call_lines bus_text tool_after_open tool_printed reader.asked15
prints = (refl, (refl, (refl, (refl, (refl, (refl, (refl, (refl, (refl, (refl, (refl, (refl, (refl, (refl, (refl, (refl, (refl, tt)))))))))))))))))
