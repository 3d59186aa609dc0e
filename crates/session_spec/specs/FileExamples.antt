-- Session files and their verdicts, P1's file among them, computed.
use Rattle.std.specs.Prelude.{◌≡◌, refl, true, List, [], ◌∷◌, ◌++◌, ℕ, length, replicate}
use Prim.Native.String.{String}
use Rattle.text.specs.Bytes.{bytes, digits}
use Rattle.text.specs.Lines.{numbers as spaced}
use Rattle.text.specs.Readers.{literal, digits_after, number, several}
use Rattle.history_spec.specs.History.{read, swap, Action, begin, step, drop}
use Rattle.session_spec.specs.Shape.{fits, deeper, shaped_after}
use Rattle.session_spec.specs.Session.{Form, act, again, empty, with, Verdict, bad, session, short, many_within, values, read_opening, keyword, head, body, form, read_line, count, times, actions, formed, asked15, asked14, verdict}
use Rattle.session_spec.specs.Written.{written, written_values, opening_line, form_lines, file_text}

-- P1: its opening and 15 actions
p1 :
    verdict (bytes "(open 2 1 5 (5))\n(swap 0 0 5 7)\n(again 10 (step 0))\n(read 1 0)\n(again 3 (step 1))\n")
    ≡ session (record { tasks = 2; cells = 1; blocks = 5; values = 5 ∷ [] })
    ((begin 0 (swap 0 5 7) ∷ replicate 10 (step 0)) ++ (begin 1 (read 0) ∷ replicate 3 (step 1)))
unfolding literal digits_after number fits deeper shaped_after several many_within values read_opening keyword head body form read_line count times actions formed asked15 asked14 verdict
p1 = refl

-- the same file, written
p1-written :
    file_text (record { tasks = 2; cells = 1; blocks = 5; values = 5 ∷ [] })
    (act (begin 0 (swap 0 5 7)) ∷ again 10 (with empty (act (step 0))) ∷ act (begin 1 (read 0)) ∷ again 3 (with empty (act (step 1))) ∷ [])
    ≡ bytes "(open 2 1 5 (5))\n(swap 0 0 5 7)\n(again 10 (step 0))\n(read 1 0)\n(again 3 (step 1))\n"
unfolding digits spaced written written_values opening_line form_lines file_text
p1-written = refl

-- three times a step, and twice another: nine actions, as question 15 counts them and as they are made
abbrev nine : Form
nine = again 3 (with (with empty (act (step 0))) (again 2 (with empty (act (step 1)))))

-- a drop
written-drop : written (act (drop 12)) ≡ bytes "(drop 12)"
unfolding digits spaced written
written-drop = refl

written-nine : written nine ≡ bytes "(again 3 (step 0) (again 2 (step 1)))"
unfolding digits spaced written
written-nine = refl

-- an opening of several values, and of none
openings :
    (opening_line (record { tasks = 1; cells = 3; blocks = 5; values = 4294967294 ∷ 0 ∷ 10 ∷ [] }) ≡ bytes "(open 1 3 5 (4294967294 0 10))\n")
    × (opening_line (record { tasks = 0; cells = 0; blocks = 0; values = [] }) ≡ bytes "(open 0 0 0 ())\n")
unfolding digits spaced written_values opening_line
openings = (refl, refl)

counted : (count nine ≡ 9) × (actions nine ≡ step 0 ∷ step 1 ∷ step 1 ∷ step 0 ∷ step 1 ∷ step 1 ∷ step 0 ∷ step 1 ∷ step 1 ∷ [])
unfolding count times actions
counted = (refl, refl)

-- each file after a first line that opens 1 task, 1 cell and 3 blocks, with its verdict
abbrev Judged : List (String × Verdict) → Type 0
Judged [] = Unit {0}
Judged ((s, v) ∷ l) = (verdict (bytes "(open 1 1 3 (4294967295))\n" ++ bytes s) ≡ v) × Judged l

abbrev plays : List Action → Verdict
plays l = session (record { tasks = 1; cells = 1; blocks = 3; values = 4294967295 ∷ [] }) l

judged :
    Judged (
    ("", plays []) ∷
    ("(read 0  0)\n", bad 13) ∷
    ("(read 0 0 )\n", bad 13) ∷
    ("(read 0 0)", bad 13) ∷
    ("(read 0 0)\n\n", bad 13) ∷
    ("(read 0 0)(read 0 0)\n", bad 13) ∷
    ("(again 1 (again 1 (again 1 (again 1 (again 1 (again 1 (again 1 (again 1 (step 0)))))))))\n", bad 13) ∷
    ("(again 1 (again 1 (again 1 (again 1 (again 1 (again 1 (again 1 (step 0))))))))\n", plays (step 0 ∷ [])) ∷
    ("(read 0 4294967295)\n", plays (begin 0 (read 4294967295) ∷ [])) ∷
    ("(read 0 4294967296)\n", bad 14) ∷
    ("(read 0 00)\n", bad 14) ∷
    ("(read 0)\n", bad 14) ∷
    ("(look 0)\n", bad 14) ∷
    ("(again 2 (step 0) (drop 4))\n", plays (step 0 ∷ drop 4 ∷ step 0 ∷ drop 4 ∷ [])) ∷
    ("(drop)\n", bad 14) ∷
    ("(drop 0 0)\n", bad 14) ∷
    ("(open 1 1 3 (5))\n", bad 14) ∷
    ("(again 65536 (step 0))\n", bad 15) ∷
    ("(again 65536 (step 0))\n(step)\n", bad 14) ∷
    ("(again 0 (again 65536 (step 0)))\n", plays []) ∷
    ("(again 4294967295 (again 4294967295))\n", plays []) ∷
    []
    )
unfolding literal digits_after number fits deeper shaped_after several many_within values read_opening keyword head body form read_line count times actions formed asked15 asked14 verdict
judged = (refl, (refl, (refl, (refl, (refl, (refl, (refl, (refl, (refl, (refl, (refl, (refl, (refl, (refl, (refl, (refl, (refl, (refl, (refl, (refl, (refl, tt)))))))))))))))))))))

-- an empty file has no open
none_open : verdict [] ≡ bad 14
unfolding shaped_after read_opening literal formed asked15 asked14 verdict
none_open = refl

-- a file of 65,536 bytes is short enough, and one of 65,537 is not, whatever they are
long_enough : (s : List ℕ) → length s ≡ 65536 → short s ≡ true
long_enough s e = rw e

too_long : (s : List ℕ) → length s ≡ 65537 → verdict s ≡ bad 12
unfolding verdict
too_long s e = rw e
