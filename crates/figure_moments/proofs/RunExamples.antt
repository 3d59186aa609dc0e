-- Document 01's P5, P6, P9 and P10 (P9 and P10 with CR 2's counts), and a task that halts while it fills a block, run in the figure with a new block each time: the
-- events that its calls end with. (The table of P1 to P10 is `prints` in session_spec, of the pool.)
use mathlib.Core.Path.{◌≡◌, refl}
use mathlib.Core.List.{List, [], ◌∷◌, ◌++◌}
use Prim.Native.Nat.{ℕ}
use Rattle.history_spec.specs.Basics.{upd}
use Rattle.history_spec.specs.History.{Op, read, swap, a_read, a_swap, Action, begin, drop, Response, Value, Yes, No, Attempt, success, failure, untried, Event, refused, accepted, answered, history}
use Rattle.figure.specs.Figure.{opening, figure_ran, figure_stepped, figure_begun, figure_dropped, figure}
use Rattle.figure_moments.specs.MomentExamples.{steps_by, meeting}

abbrev ends : List (Action × Event) → List Event
ends [] = []
ends ((a, refused r) ∷ h) = refused r ∷ ends h
ends ((a, accepted x) ∷ h) = ends h
ends ((a, answered x r) ∷ h) = answered x r ∷ ends h

abbrev swapped : Attempt → Response → (steps won lost : ℕ) → Event
swapped x a n w l = answered x (record { kind = a_swap; cell = 0; answer = a; steps = n; won = w; lost = l })

-- two tasks and a cell that holds 5
abbrev five : List Action → List Event
five l = ends (history figure (opening 2 1 (5 ∷ [])) l)

abbrev alone : Op → ℕ → List Action
alone op n = begin 0 op ∷ steps_by n 0

pub p5 : five (alone (swap 0 5 5) 3) ≡ swapped untried Yes 3 0 0 ∷ []
unfolding upd figure_ran figure_stepped figure_begun
p5 = refl

pub p6 : five (alone (swap 0 4 6) 8) ≡ swapped untried No 8 0 0 ∷ []
unfolding upd figure_ran figure_stepped figure_begun
p6 = refl

-- the inactive block is replaced by the swap of 9 to 4, and the new one is active: the next swap attempts no hardware CAS
pub p9 : five (meeting ++ steps_by 2 0 ++ steps_by 5 1 ++ steps_by 3 0 ++ alone (swap 0 9 4) 13 ++ alone (swap 0 4 6) 10) ≡
    swapped untried Yes 12 1 0 ∷ swapped untried No 7 0 1 ∷ swapped success Yes 13 1 1 ∷ swapped untried Yes 10 0 0 ∷ []
unfolding upd figure_ran figure_stepped figure_begun
p9 = refl

-- task 1 replaces the block; task 0's hardware CAS of it then fails
pub p10 : five (meeting ++ steps_by 5 0 ++ steps_by 14 1 ++ steps_by 6 0) ≡ swapped success Yes 21 1 2 ∷ swapped failure No 13 1 1 ∷ []
unfolding upd figure_ran figure_stepped figure_begun
p10 = refl

-- as P10, but task 1 halts between lines 6 and 7, its new block half filled: task 0 replaces the block, swaps again alone, and finishes
pub halted_filling : five (meeting ++ steps_by 5 0 ++ steps_by 11 1 ++ steps_by 6 0 ++ alone (swap 0 7 4) 10) ≡ swapped success Yes 13 2 0 ∷ swapped untried Yes 10 0 0 ∷ []
unfolding upd figure_ran figure_stepped figure_begun
halted_filling = refl

-- CR 12: a winner is withdrawn after it set Y (its fourth step): Y stays true, so that the next swap, though alone and on an active block, goes by
-- 27 and attempts two hardware CAS. Withdrawn one step earlier, it leaves nothing.
pub dropped_winner : five (alone (swap 0 5 7) 4 ++ drop 0 ∷ alone (swap 0 5 9) 13) ≡ swapped success Yes 13 2 0 ∷ []
unfolding upd figure_ran figure_stepped figure_begun figure_dropped
dropped_winner = refl

pub dropped-before : five (alone (swap 0 5 7) 3 ++ drop 0 ∷ alone (swap 0 5 9) 10) ≡ swapped untried Yes 10 0 0 ∷ []
unfolding upd figure_ran figure_stepped figure_begun figure_dropped
dropped-before = refl

-- a read there, and a swap of equal values, attempts none: neither looks at Y
pub dropped_winner_read : five (alone (swap 0 5 7) 4 ++ drop 0 ∷ alone (read 0) 3 ++ alone (swap 0 5 5) 3) ≡ answered untried (record { kind = a_read; cell = 0; answer = Value 5; steps = 3; won = 0; lost = 0 }) ∷ swapped untried Yes 3 0 0 ∷ []
unfolding upd figure_ran figure_stepped figure_begun figure_dropped
dropped_winner_read = refl
