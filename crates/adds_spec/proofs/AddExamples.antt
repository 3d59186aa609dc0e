-- Adds worked out: the last event of some lists of requests on one cell, by the entries' definitions.
use mathlib.Core.Path.{◌≡◌, refl}
use mathlib.Core.Option.{Option, none, some}
use mathlib.Core.List.{List, [], ◌∷◌, ◌++◌}
use Prim.Native.Nat.{ℕ}
use lib.ListN.{replicate}
use Rattle.cells_spec.specs.Questions.{fit, record_fit, cells_fit, records_fit, has_none, open_questions, uses, counts_true}
use Rattle.cells_spec.specs.Blocks.{first_unused}
use Rattle.history_spec.specs.Basics.{upd}
use Rattle.history_spec.specs.History.{read, swap, begin, step, drop, untried, success, Value, a_read, Report, refused, answered, history, run}
use Rattle.cells_spec.specs.Answers.{Seen, Shown}
use Rattle.cells_spec.specs.Open.{blank, opened}
use Rattle.cells_spec.specs.Begin.{read_begun, swap_begun}
use Rattle.cells_spec.specs.StoredCounts.{recounted}
use Rattle.cells_spec.specs.Step.{ran, stepped}
use Rattle.cells_spec.specs.Drop.{dropped}
use Rattle.cells_spec.specs.Look.{looked}
use Rattle.adds_spec.specs.Requests.{Request, act, add, AddAnswer, AmountAdded, Over, Spent, AddReport, RequestEvent, plain, summed}
use Rattle.adds_spec.specs.Sums.{brought_to}
use Rattle.adds_spec.specs.Seen.{adds_seen}
use Rattle.adds_spec.specs.Adding.{no_add, add_fit, adds_fit, adding_opened, adding_begun, add_begun, adding_stepped, adding_dropped, adding_looked, adding_pool}

abbrev last_event : List (Request × RequestEvent) → Option RequestEvent
last_event [] = none
last_event (x ∷ []) = some x.1
last_event (x ∷ y ∷ h) = last_event (y ∷ h)

-- two tasks, one cell with the value v
abbrev ends : ℕ → List Request → Option RequestEvent
ends v l = let r = adding_opened (record { cells = blank; adds = replicate 32 no_add }) (replicate 20 0) 2 1 4 (v ∷ []) in last_event (history adding_pool (r.state, r.pool) l)

abbrev pub steps : (task times : ℕ) → List Request
steps t n = replicate n (act (step t))

abbrev reports : ℕ → AddAnswer → (steps won lost : ℕ) → AddReport
reports k a n w l = record { cell = k; answer = a; steps = n; won = w; lost = l }

-- of 3 steps
abbrev read_of : (value : ℕ) → Report
read_of v = record { kind = a_read; cell = 0; answer = Value v; steps = 3; won = 0; lost = 0 }

-- an add of 3 is withdrawn when its swap has stored
abbrev pub stored_then_withdrawn : List Request
stored_then_withdrawn = (add 0 0 3 1 ∷ steps 0 12) ++ act (drop 0) ∷ []

abbrev Holds : List (Option RequestEvent × Option RequestEvent) → Type 0
Holds [] = Unit {0}
Holds (x ∷ l) = (x.0 ≡ x.1) × Holds l

pub examples : Holds (
    -- alone: a read of 3 steps and a swap of 10
    (ends 5 (add 0 0 3 1 ∷ steps 0 13), some (summed untried (reports 0 AmountAdded 13 0 0))) ∷
    -- a read finds the sum
    (ends 5 ((add 0 0 3 1 ∷ steps 0 13) ++ act (begin 1 (read 0)) ∷ steps 1 3), some (plain (answered untried (read_of 8)))) ∷
    -- between its read and its swap another swaps: one try is spent, a second one adds
    (ends 5 ((add 0 0 3 1 ∷ steps 0 3) ++ (act (begin 1 (swap 0 5 9)) ∷ steps 1 10) ++ steps 0 8), some (summed untried (reports 0 Spent 11 0 0))) ∷
    (ends 5 ((add 0 0 3 2 ∷ steps 0 3) ++ (act (begin 1 (swap 0 5 9)) ∷ steps 1 10) ++ steps 0 21), some (summed untried (reports 0 AmountAdded 24 0 0))) ∷
    -- the sum would be none; one less is added
    (ends 5 (add 0 0 4294967290 2 ∷ steps 0 3), some (summed untried (reports 0 Over 3 0 0))) ∷
    (ends 5 (add 0 0 4294967289 2 ∷ steps 0 13), some (summed untried (reports 0 AmountAdded 13 0 0))) ∷
    -- so it is of an amount that is none: 5 more would be 4, in 32 bits
    (ends 5 (add 0 0 4294967295 2 ∷ steps 0 3), some (summed untried (reports 0 Over 3 0 0))) ∷
    -- an amount of 0: the swap of equal values is a read, by line 14
    (ends 5 (add 0 0 0 8 ∷ steps 0 6), some (summed untried (reports 0 AmountAdded 6 0 0))) ∷
    -- question 23 is the last: after 7, 8 and 9
    (ends 5 (add 0 0 0 9 ∷ []), some (plain (refused 23))) ∷
    (ends 5 (add 0 0 0 0 ∷ []), some (plain (refused 23))) ∷
    (ends 5 (add 2 0 0 0 ∷ []), some (plain (refused 7))) ∷
    (ends 5 (add 0 1 0 0 ∷ []), some (plain (refused 8))) ∷
    (ends 5 (act (begin 0 (read 0)) ∷ add 0 0 0 0 ∷ []), some (plain (refused 9))) ∷
    -- an add is withdrawn in its swap: a read that its task begins then is no part of it
    (ends 5 ((add 0 0 3 2 ∷ steps 0 5) ++ act (drop 0) ∷ act (begin 0 (read 0)) ∷ steps 0 3), some (plain (answered untried (read_of 5)))) ∷
    -- withdrawn after its store: another add finds the sum, and Y true; its two hardware CAS attempts succeed
    (ends 5 (stored_then_withdrawn ++ add 1 0 4 2 ∷ steps 1 16), some (summed success (reports 0 AmountAdded 16 2 0))) ∷
    -- a finished add is not withdrawn, nor is that of no task
    (ends 5 ((add 0 0 3 1 ∷ steps 0 13) ++ act (drop 0) ∷ []), some (plain (refused 11))) ∷
    (ends 5 (add 0 0 3 1 ∷ act (drop 2) ∷ []), some (plain (refused 7))) ∷
    []
    )
unfolding fit record_fit cells_fit records_fit has_none open_questions uses counts_true first_unused recounted opened read_begun swap_begun ran stepped dropped add_fit adds_fit adding_opened adding_begun add_begun adding_stepped adding_dropped
examples = (refl, (refl, (refl, (refl, (refl, (refl, (refl, (refl, (refl, (refl, (refl, (refl, (refl, (refl, (refl, (refl, (refl, tt)))))))))))))))))

-- what look gives after a list of requests, and what the adds seen brought
abbrev sums : ℕ → List Request → Seen × ℕ
sums v l =
    let r = adding_opened (record { cells = blank; adds = replicate 32 no_add }) (replicate 20 0) 2 1 4 (v ∷ []) in
    let x = run adding_pool (r.state, r.pool) l in
    (adding_looked x.0 x.1 0, brought_to 0 (adds_seen (history adding_pool (r.state, r.pool) l)).finished)

-- task 0's add of 3 has read 5, task 1 adds 4, and task 0's add is spent; with a second try it is added too
pub sums-shown : (sums 5 ((add 0 0 3 1 ∷ steps 0 3) ++ (add 1 0 4 2 ∷ steps 1 13) ++ steps 0 8) ≡ (Shown 9, 4)) × (sums 5 ((add 0 0 3 2 ∷ steps 0 3) ++ (add 1 0 4 2 ∷ steps 1 13) ++ steps 0 21) ≡ (Shown 12, 7))
unfolding fit record_fit cells_fit records_fit has_none open_questions uses counts_true first_unused recounted opened read_begun swap_begun ran stepped looked add_fit adds_fit adding_opened adding_begun add_begun adding_stepped adding_looked upd
sums-shown = (refl, refl)
