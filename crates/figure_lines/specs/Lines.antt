-- Figure 2 without its memory: what each line accesses, and what follows from the value that memory answers.
-- The pool and the figure with a new block each time both run these clauses.
use Rattle.std.specs.Prelude.{cond, ℕ, ◌+◌, eqb}
use Rattle.figure_lines.specs.declared.Record.{Record}
use Rattle.figure_lines.specs.declared.Field.{Field}
use Rattle.figure_lines.specs.declared.Field.TheVariants.{X, Y, C, D}
use Rattle.figure_lines.specs.declared.Access.{Access}
use Rattle.figure_lines.specs.declared.Access.TheVariants.{LoadCell, Load, Store, DecideCas, InstallCas, Allocate, Nothing}
use Rattle.figure_lines.specs.Basics.{within}
use Rattle.figure_lines.specs.Record.{no_value}
use Rattle.figure_lines.specs.Answers.{Next, Go, Done}
use Rattle.history_spec.specs.History.{Response, Value, Yes, No, Attempt, success, failure, untried, wins, losses}

-- THE LINES

-- the line that wanted a decision
pub data Wanted : Type 0 where
  for13 for25 for28 : Wanted

-- the figure's lines that are steps; those of the deciding part with the line that wanted it
pub data Line : Type 0 where
  l1 l2 l3 : Wanted → Line
  l4 l5 l6 l7 l8 l10 l11 l12 l15 l16 l17 l18 l19 l20 l21 l22 l23 l24 l26 l27 l30 : Line
  nowhere : Line

abbrev pub deciding : (Wanted → Line) → ℕ → Line
deciding l w = cond (eqb w 13) (l for13) (cond (eqb w 25) (l for25) (cond (eqb w 28) (l for28) nowhere))

-- the line of a number; of a number in the deciding part, by the number of the line that wanted it
abbrev pub line_at : (line wanted : ℕ) → Line
line_at n w =
    cond (within n 1 3) (cond (eqb n 1) (deciding l1 w) (cond (eqb n 2) (deciding l2 w) (deciding l3 w)))
    (cond (within n 4 8) (cond (eqb n 4) l4 (cond (eqb n 5) l5 (cond (eqb n 6) l6 (cond (eqb n 7) l7 l8))))
    (cond (within n 10 12) (cond (eqb n 10) l10 (cond (eqb n 11) l11 l12))
    (cond (within n 15 24)
    (cond (eqb n 15) l15 (cond (eqb n 16) l16 (cond (eqb n 17) l17 (cond (eqb n 18) l18 (cond (eqb n 19) l19
    (cond (eqb n 20) l20 (cond (eqb n 21) l21 (cond (eqb n 22) l22 (cond (eqb n 23) l23 l24)))))))))
    (cond (within n 26 30) (cond (eqb n 26) l26 (cond (eqb n 27) l27 (cond (eqb n 30) l30 nowhere)))
    nowhere))))

abbrev pub line_of : Record → Line
line_of r = line_at r.line r.wanted

-- WHAT A LINE ACCESSES, for task p with the record r

abbrev pub access_at : Line → ℕ → Record → Access
access_at (l1 w) p r = Load r.held Field.V
access_at (l2 w) p r = DecideCas r.held r.loaded
access_at (l3 w) p r = Load r.held D
access_at l4 p r = Allocate
access_at l5 p r = Store r.taken Y 0
access_at l6 p r = Store r.taken C 0
access_at l7 p r = Store r.taken D no_value
access_at l8 p r = Store r.taken Field.V r.new
access_at l10 p r = LoadCell r.cell
access_at l11 p r = Load r.held Field.V
access_at l12 p r = Load r.held C
access_at l15 p r = LoadCell r.cell
access_at l16 p r = Store r.held X p
access_at l17 p r = Load r.held Y
access_at l18 p r = Store r.held Y 1
access_at l19 p r = Load r.held X
access_at l20 p r = Load r.held Field.V
access_at l21 p r = Load r.held C
access_at l22 p r = Store r.held Y 0
access_at l23 p r = Store r.held Field.V r.new
access_at l24 p r = Load r.held C
access_at l26 p r = Store r.held Y 0
access_at l27 p r = Store r.held C 1
access_at l30 p r = InstallCas r.cell r.held r.taken
access_at nowhere p r = Nothing

-- the loads, stores and hardware CAS attempts that an access is
abbrev pub loads : Access → ℕ
loads (LoadCell k) = 1
loads (Load b f) = 1
loads (Store b f v) = 0
loads (DecideCas b v) = 0
loads (InstallCas k b n) = 0
loads Allocate = 0
loads Nothing = 0

abbrev pub stores : Access → ℕ
stores (LoadCell k) = 0
stores (Load b f) = 0
stores (Store b f v) = 1
stores (DecideCas b v) = 0
stores (InstallCas k b n) = 0
stores Allocate = 1
stores Nothing = 0

abbrev pub hardware : Access → ℕ
hardware (LoadCell k) = 0
hardware (Load b f) = 0
hardware (Store b f v) = 0
hardware (DecideCas b v) = 1
hardware (InstallCas k b n) = 1
hardware Allocate = 0
hardware Nothing = 0

-- what became of a hardware CAS, by memory's answer alone: 1 where it found what it expected, D none or the held block current
abbrev pub found : ℕ → Attempt
found v = cond (eqb v 1) success failure

abbrev pub attempt : Access → ℕ → Attempt
attempt (LoadCell k) v = untried
attempt (Load b f) v = untried
attempt (Store b f n) v = untried
attempt (DecideCas b n) v = found v
attempt (InstallCas k b n) v = found v
attempt Allocate v = untried
attempt Nothing v = untried

-- WHAT FOLLOWS

-- the record with the fields that a line may change
abbrev pub at : Record → (line wanted held taken loaded : ℕ) → Record
at r n w h t v = record { line = n; wanted = w; kind = r.kind; cell = r.cell; expected = r.expected; new = r.new; held = h; taken = t; loaded = v; steps = r.steps; won = r.won; lost = r.lost }

abbrev pub goto : Record → ℕ → Next
goto r n = Go (at r n r.wanted r.held r.taken r.loaded)

-- to the deciding part, for a line that wants it
abbrev pub decide : Record → ℕ → Next
decide r w = Go (at r 1 w r.held r.taken r.loaded)

abbrev pub hold : Record → ℕ → ℕ → Next
hold r n b = Go (at r n r.wanted b r.taken r.loaded)

abbrev pub load : Record → ℕ → ℕ → Next
load r n v = Go (at r n r.wanted r.held r.taken v)

abbrev pub take : Record → ℕ → ℕ → Next
take r n b = Go (at r n r.wanted r.held b r.loaded)

abbrev pub answer : Record → Response → Next
answer r a = Done (record { kind = r.kind; cell = r.cell; answer = a; steps = r.steps; won = r.won; lost = r.lost })

-- what a read that found v answers: its value, or for a swap of equal values (line 14) whether it is the expected one
abbrev pub read_answer : Record → ℕ → Response
read_answer r v = cond (eqb r.kind 2) (cond (eqb v r.expected) Yes No) (Value v)

abbrev pub next_at : Line → ℕ → Record → ℕ → Next
next_at (l1 w) p r v = load r 2 v
next_at (l2 w) p r v = goto r 3
next_at (l3 for13) p r v = answer r (read_answer r v)
next_at (l3 for25) p r v = cond (eqb v r.new) (answer r Yes) (decide r 28)
next_at (l3 for28) p r v = cond (eqb v r.expected) (goto r 4) (answer r No)
next_at l4 p r v = take r 5 v
next_at l5 p r v = goto r 6
next_at l6 p r v = goto r 7
next_at l7 p r v = goto r 8
next_at l8 p r v = goto r 30
next_at l10 p r v = hold r 11 v
next_at l11 p r v = load r 12 v
next_at l12 p r v = cond (eqb v 0) (answer r (read_answer r r.loaded)) (decide r 13)
next_at l15 p r v = hold r 16 v
next_at l16 p r v = goto r 17
next_at l17 p r v = cond (eqb v 0) (goto r 18) (goto r 27)
next_at l18 p r v = goto r 19
next_at l19 p r v = cond (eqb v p) (goto r 20) (goto r 27)
next_at l20 p r v = load r 21 v
next_at l21 p r v = cond (eqb v 0) (cond (eqb r.loaded r.expected) (goto r 23) (goto r 22)) (decide r 28)
next_at l22 p r v = answer r No
next_at l23 p r v = goto r 24
next_at l24 p r v = cond (eqb v 0) (goto r 26) (decide r 25)
next_at l26 p r v = answer r Yes
next_at l27 p r v = decide r 28
next_at l30 p r v = cond (eqb v 1) (answer r Yes) (answer r No)
next_at nowhere p r v = Go r

-- ONE STEP'S TWO ENDS

abbrev pub access_of : ℕ → Record → Access
access_of p r = access_at (line_of r) p r

-- each line done counts as a step, and its hardware CAS, where it is one, as won or lost
abbrev pub counted : Record → Attempt → Record
counted r x = record { line = r.line; wanted = r.wanted; kind = r.kind; cell = r.cell; expected = r.expected; new = r.new; held = r.held; taken = r.taken; loaded = r.loaded; steps = r.steps + 1; won = r.won + wins x; lost = r.lost + losses x }

abbrev pub next_of : ℕ → Record → ℕ → Next
next_of p r v = next_at (line_of r) p (counted r (attempt (access_of p r) v)) v
