-- Which event the code's answer is in a history, three runs of the pool in which readings to keep out would answer otherwise, a fit state whose
-- step is refused with 20, and a run that one block more would let go on, computed. (P1 to P10: `prints` in session_spec.)
use mathlib.Core.Path.{◌≡◌, refl}
use mathlib.Core.Bool.{true}
use mathlib.Core.Option.{none}
use mathlib.Core.List.{List, [], ◌∷◌, ◌++◌}
use Prim.Native.Nat.{ℕ}
use lib.ListN.{replicate, set}
use Rattle.cells_spec.specs.Questions.{has_none, open_questions, record_fit, cells_fit, records_fit, uses, counts_true, fit}
use Rattle.cells_spec.specs.Blocks.{first_unused, unused}
use Rattle.figure_lines.specs.declared.Record.{Record}
use Rattle.figure_lines.specs.declared.Answer.{Answer}
use Rattle.figure_lines.specs.declared.Answer.TheVariants as code
use Rattle.cells_spec.specs.declared.State.{State}
use Rattle.figure_lines.specs.Record.{idle, record_at, first_read, first_swap}
use Rattle.history_spec.specs.History.{read, swap, Action, begin, step, drop, Kind, a_read, a_swap, Response, Value, Yes, No, Report, Attempt, success, failure, untried, Event, refused, accepted, answered, history}
use Rattle.std.specs.Prelude.{Ok, Some}
use Rattle.cells_spec.specs.Answers.{Refused, answered as says}
use Rattle.cells_spec.specs.Events.{event_of}
use Rattle.cells_spec.specs.Open.{leaving, open_state, open_pool, opened}
use Rattle.cells_spec.specs.StoredCounts.{recounted}
use Rattle.cells_spec.specs.Begin.{started, read_begun, swap_begun}
use Rattle.cells_spec.specs.Drop.{call_withdrawn}
use Rattle.cells_spec.specs.Step.{ran, stepped}
use Rattle.cells_spec.specs.Lent.{lent, stepped_lent}
use Rattle.cells_spec.specs.Machine.{Pool, pool}

-- THE CODE'S ANSWER IN A HISTORY

-- a call on cell 3 that ends: the code's kind and answer, and the event's
abbrev IsEvent : (kind : ℕ) → Answer → Attempt → Kind → Response → Type 0
IsEvent n a x k r = event_of x (says (Ok (Some (record { kind = n; cell = 3; answer = a; steps = 14; won = 1; lost = 2 })))) ≡ answered x (record { kind = k; cell = 3; answer = r; steps = 14; won = 1; lost = 2 })

events : IsEvent 2 code.Yes success a_swap Yes × IsEvent 2 code.No failure a_swap No × IsEvent 1 (code.Value 9) untried a_read (Value 9)
events = (refl, refl, refl)

-- RUNS

abbrev reports : List (Action × Event) → List Report
reports [] = []
reports ((a, refused n) ∷ l) = reports l
reports ((a, accepted x) ∷ l) = reports l
reports ((a, answered x r) ∷ l) = r ∷ reports l

-- three tasks, seven blocks and one cell that holds 5, opened over other numbers
abbrev start : Pool
start =
    let r = opened (record { tasks = 7; cells = 7; blocks = 7; last = 7; current = replicate 16 7; records = replicate 32 idle; counts = replicate 128 7 }) (replicate 35 9) 3 1 7 (5 ∷ []) in
    (r.state, r.pool)

abbrev steps : (count task : ℕ) → List Action
steps n t = replicate n (step t)

abbrev report : Kind → Response → (steps won lost : ℕ) → Report
report k a s w l = record { kind = k; cell = 0; answer = a; steps = s; won = w; lost = l }

-- tasks 1 and 2 collide on the cell's block: 2 replaces it, putting v2 for v; 1 comes too late
abbrev round : (v v1 v2 : ℕ) → List Action
round v v1 v2 = begin 1 (swap 0 v v1) ∷ begin 2 (swap 0 v v2) ∷ steps 4 1 ++ steps 13 2 ++ steps 11 1

abbrev rivals : List Report
rivals = report a_swap Yes 13 2 0 ∷ report a_swap No 15 0 2 ∷ []

abbrev Hold : List (List Action × List Report) → Type 0
Hold [] = Unit {0}
Hold ((l, r) ∷ c) = (reports (history pool start l) ≡ r) × Hold c

examples :
    Hold (
    -- task 0 stores 7 in a block that was decided for 5: a read of that block decides, and does not return its V
    (
      begin 0 (swap 0 5 7) ∷ begin 1 (swap 0 5 9) ∷ begin 2 (read 0) ∷ steps 7 0 ++ steps 1 2 ++ steps 7 1 ++ steps 1 0 ++ steps 5 2,
      report a_read (Value 5) 6 0 1 ∷ [],
    ) ∷
    -- a task that halts in a read still holds block 0 after the others went through all blocks: it is not taken again
    (
      begin 0 (read 0) ∷ steps 1 0 ++ round 5 15 6 ++ round 6 16 7 ++ round 7 17 8 ++ round 8 18 9 ++ steps 5 0,
      rivals ++ rivals ++ rivals ++ rivals ++ report a_read (Value 5) 6 0 1 ∷ [],
    ) ∷
    -- a task that halts between lines 6 and 7 has taken its block: the others go on through all other blocks and finish, and what it
    -- stores when it goes on is in nobody's block
    (
      begin 0 (swap 0 5 50) ∷ begin 1 (swap 0 5 6) ∷ steps 4 1 ++ steps 10 0 ++ steps 11 1 ++ round 6 16 7 ++ round 7 17 8 ++ round 8 18 9 ++ steps 2 0 ++ begin 1 (read 0) ∷ steps 3 1 ++ steps 1 0,
      report a_swap Yes 15 1 1 ∷ rivals ++ rivals ++ rivals ++ report a_read (Value 9) 3 0 0 ∷ report a_swap No 13 1 1 ∷ [],
    ) ∷ []
    )
unfolding opened read_begun swap_begun stepped ran fit record_fit cells_fit records_fit uses counts_true has_none open_questions first_unused recounted
examples = (refl, (refl, (refl, tt)))

-- QUESTION 20

-- one task, two cells and three blocks: the task is at line 4 and holds the block that no cell names. No opening leads to this.
abbrev asking : Record
asking = record { line = 4; wanted = 28; kind = 2; cell = 0; expected = 5; new = 7; held = 2; taken = 0; loaded = 5; steps = 7; won = 1; lost = 0 }

abbrev full : State
full = record { tasks = 1; cells = 2; blocks = 3; last = 1; current = 0 ∷ replicate 15 1; records = set (replicate 32 idle) 0 asking; counts = replicate 3 1 ++ replicate 125 0 }

abbrev words : List ℕ
words = replicate 15 0

-- the state is fit, its counts included; step and lent step are refused, and leave all as it was
finds_none : (fit full words ≡ true) × (stepped full words 0 ≡ leaving full words (Refused 20)) × (stepped_lent full words 0 asking ≡ lent (leaving full words (Refused 20)) asking)
unfolding stepped stepped_lent ran fit record_fit cells_fit records_fit uses counts_true first_unused recounted
finds_none = (refl, refl, refl)

-- ONE BLOCK FEWER STILL

-- what an action does, and no question is asked
abbrev unasked : Pool → Action → Pool
unasked (s, p) (begin t (read k)) = let r = started s p t (first_read k) in (r.state, r.pool)
unasked (s, p) (begin t (swap k e n)) = let r = started s p t (first_swap k e n) in (r.state, r.pool)
unasked (s, p) (step t) = let r = ran s p t (record_at s.records t) in (r.state, r.pool)
unasked (s, p) (drop t) = let r = call_withdrawn s p t in (r.state, r.pool)

abbrev runs : Pool → List Action → Pool
runs x [] = x
runs x (a ∷ l) = runs (unasked x a) l

-- Two tasks, two cells that hold 5, and V + 2N - 2 = 4 blocks, which open refuses: this is what it would leave. On cell 1 they collide, and
-- its block is decided. On cell 0 they collide: task 0 is to replace its block, and task 1 does it first. Then task 1 takes a block for cell 1.
-- So at line 4 task 0 finds none: it holds block 0, the cells name 2 and 1, and 3 is taken. The counts are true.
abbrev lacking : Pool
lacking =
    runs (open_state 2 2 4, open_pool (replicate 20 9) (5 ∷ 5 ∷ []))
    (begin 0 (swap 1 5 7) ∷ begin 1 (swap 1 5 9) ∷ steps 2 0 ++ steps 7 1 ++ steps 2 0 ++ steps 5 1 ++ steps 3 0
    ++ begin 0 (swap 0 5 7) ∷ begin 1 (swap 0 5 9) ∷ steps 2 0 ++ steps 7 1 ++ steps 5 0 ++ steps 14 1
    ++ begin 1 (swap 1 9 4) ∷ steps 8 1)

one_fewer_lacks : ((record_at lacking.0.records 0).line ≡ 4) × (unused lacking.0 ≡ none) × (counts_true lacking.0 ≡ true)
unfolding ran uses counts_true first_unused recounted
one_fewer_lacks = (refl, refl, refl)
