-- The moments of small lists of actions in the figure, those of P1, P5, P6, P9 and P10 among them, computed: spots and rules, before any text.
-- (What the cells print of P1 to P10: `prints` in session_spec; what moments prints: `prints` in moments_text.)
use Rattle.std.specs.Prelude.{◌≡◌, refl, List, [], ◌∷◌, ◌++◌, map, ℕ, replicate}
use Rattle.std.proofs.Math.Option.{Option, none, some}
use Rattle.history_spec.specs.Basics.{upd}
use Rattle.history_spec.specs.History.{Op, read, swap, Action, begin, step, drop, run, no_calls}
use Rattle.history_spec.specs.Moments.{Side, itself, after, Rule, R1, R2, C1, C2, C3, C4, C5, C6, Spot, Mark}
use Rattle.figure.specs.Figure.{opening, figure, figure_ran, figure_stepped, figure_begun, figure_dropped}
use Rattle.figure_moments.specs.Moments.{no_notes, spot_at, moments}
use Rattle.figure_moments.specs.WithdrawnRule.{withdrawals, withdrawn_spot}

-- a mark as it will be printed
record Brief : Type 0 where
  moment : ℕ
  side : Side
  task : ℕ
  rule : Rule

abbrev brief : Mark → Brief
brief m = record { moment = m.spot.moment; side = m.spot.side; task = m.call.task; rule = m.spot.rule }

abbrev entry : ℕ → Side → ℕ → Rule → Brief
entry n s t r = record { moment = n; side = s; task = t; rule = r }

abbrev pub steps_by : (count task : ℕ) → List Action
steps_by n t = replicate n (step t)

abbrev alone : ℕ → Op → ℕ → List Action
alone t op n = begin t op ∷ steps_by n t

-- task 0 swaps 5 to 7 and takes two steps, task 1 swaps 5 to 9 and takes seven (actions 0 to 10)
abbrev pub meeting : List Action
meeting = begin 0 (swap 0 5 7) ∷ begin 1 (swap 0 5 9) ∷ steps_by 2 0 ++ steps_by 7 1

-- then task 0 sets C (action 12), and task 1 stores its new value, late (action 13)
abbrev late_store : List Action
late_store = meeting ++ steps_by 2 0 ++ steps_by 1 1

-- three tasks, one cell that holds 5
abbrev Holds : List (List Action × List Brief) → Type 0
Holds [] = Unit {0}
Holds ((l, r) ∷ c) = (map brief (moments 3 1 (5 ∷ []) l) ≡ r) × Holds c

pub moments-hold :
    Holds (
    -- P1: a swap that is alone, and a read after it
    (alone 0 (swap 0 5 7) 10 ++ alone 1 (read 0) 3, entry 8 itself 0 C4 ∷ entry 13 itself 1 R1 ∷ []) ∷
    -- a pending read is not listed, though its task's swap before it stored in an active block
    (alone 0 (swap 0 5 7) 10 ++ alone 0 (read 0) 2, entry 8 itself 0 C4 ∷ []) ∷
    -- P5 and P6: a swap of equal values, at its line 11; one that expects another value, at its line 20. A refused action has its number too.
    (step 0 ∷ alone 0 (swap 0 5 5) 3 ++ alone 0 (swap 0 4 6) 8, entry 3 itself 0 C1 ∷ entry 11 itself 0 C2 ∷ []) ∷
    -- P9: task 1's late store counts, at the action that set C; task 0 answers no at the decision. Then task 0 replaces the block, alone.
    (
      late_store ++ steps_by 4 1 ++ steps_by 3 0 ++ alone 0 (swap 0 9 4) 13 ++ alone 0 (swap 0 4 6) 10,
      entry 12 itself 1 C3 ∷ entry 16 itself 0 C5 ∷ entry 34 itself 0 C6 ∷ entry 43 itself 0 C4 ∷ [],
    ) ∷
    -- P10: task 1 replaces the block; task 0's hardware CAS fails, and it took effect right after
    (meeting ++ steps_by 5 0 ++ steps_by 14 1 ++ steps_by 6 0, entry 29 itself 1 C6 ∷ entry 29 after 0 C6 ∷ []) ∷
    -- a swap that stored late and halted is listed as soon as its value is decided, and not before
    (late_store ++ steps_by 1 0, []) ∷
    (late_store ++ steps_by 2 0, entry 12 itself 1 C3 ∷ []) ∷
    -- one that stored in an active block and halted is listed at its store, also if C was set since
    (begin 0 (swap 0 5 7) ∷ steps_by 2 0 ++ alone 1 (swap 0 5 9) 8 ++ steps_by 2 0, entry 11 itself 1 C4 ∷ []) ∷
    -- a read that goes by a decision: made after its first load (task 2's, action 15), and before it
    (late_store ++ begin 2 (read 0) ∷ steps_by 1 2 ++ steps_by 2 0 ++ steps_by 5 2, entry 12 itself 1 C3 ∷ entry 17 itself 2 R2 ∷ []) ∷
    (late_store ++ steps_by 2 0 ++ alone 2 (read 0) 6, entry 12 itself 1 C3 ∷ entry 17 itself 2 R2 ∷ []) ∷
    -- the same as a swap of equal values
    (late_store ++ steps_by 2 0 ++ alone 2 (swap 0 9 9) 6, entry 12 itself 1 C3 ∷ entry 17 itself 2 C1 ∷ []) ∷
    -- CR 12: a swap that stored late is withdrawn (action 14). It is listed as soon as its value is decided, where C was set, and not before;
    -- also where its task has begun another call by then, which replaces the block.
    (late_store ++ drop 1 ∷ steps_by 1 0, []) ∷
    (late_store ++ drop 1 ∷ steps_by 2 0, entry 12 itself 1 C3 ∷ []) ∷ (
      late_store ++ drop 1 ∷ alone 1 (swap 0 9 4) 13 ++ steps_by 3 0 ++ alone 2 (swap 0 4 9) 10,
      entry 12 itself 1 C3 ∷ entry 21 itself 0 C5 ∷ entry 28 itself 1 C6 ∷ entry 40 itself 2 C4 ∷ [],
    ) ∷
    -- not if another value is decided: task 0 loaded V before the late store
    (meeting ++ steps_by 3 0 ++ steps_by 1 1 ++ drop 1 ∷ steps_by 2 0, []) ∷
    -- one that stored in an active block is listed at its store; one that has not stored is not listed
    (alone 0 (swap 0 5 7) 8 ++ drop 0 ∷ alone 1 (read 0) 3, entry 8 itself 0 C4 ∷ entry 12 itself 1 R1 ∷ []) ∷
    (alone 0 (swap 0 5 7) 7 ++ drop 0 ∷ alone 1 (read 0) 3, entry 11 itself 1 R1 ∷ []) ∷
    []
    )
unfolding upd figure_ran figure_stepped figure_begun figure_dropped
moments-hold = (refl, (refl, (refl, (refl, (refl, (refl, (refl, (refl, (refl, (refl, (refl, (refl, (refl, (refl, (refl, (refl, (refl, tt)))))))))))))))))

-- THE RULE FOR WITHDRAWN SWAPS, looked up at the end of the list

abbrev Rules : List (List Action × List (Option Spot)) → Type 0
Rules [] = Unit {0}
Rules ((l, r) ∷ c) = let w = opening 3 1 (5 ∷ []) in (map (withdrawn_spot (run figure w l)) (withdrawals w no_notes no_calls [] l) ≡ r) × Rules c

pub rules-hold :
    Rules (
    -- it stored late: its value is decided after its drop; nothing is decided yet; another value was decided, and line 25 did not answer it
    (late_store ++ drop 1 ∷ steps_by 2 0, some (spot_at 12 C3) ∷ []) ∷
    (late_store ++ drop 1 ∷ steps_by 1 0, none ∷ []) ∷
    (meeting ++ steps_by 3 0 ++ steps_by 1 1 ++ steps_by 1 0 ++ steps_by 4 1 ++ drop 1 ∷ steps_by 1 0, none ∷ []) ∷
    -- it stored in an active block; it has not stored, though its task's call before it has
    (alone 0 (swap 0 5 7) 8 ++ drop 0 ∷ alone 1 (read 0) 3, some (spot_at 8 C4) ∷ []) ∷
    (alone 0 (swap 0 5 7) 10 ++ alone 0 (swap 0 7 9) 4 ++ drop 0 ∷ [], none ∷ []) ∷
    []
    )
unfolding upd figure_ran figure_stepped figure_begun figure_dropped
rules-hold = (refl, (refl, (refl, (refl, (refl, tt)))))
