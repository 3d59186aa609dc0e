-- Demand 3 rules these stand-ins out, whatever is called clear: already one task on one cell that holds 5 shows it.
use mathlib.Core.Path.{refl}
use mathlib.Core.List.{List, [], ◌∷◌}
use Prim.Native.Nat.{ℕ}
use native.Mathlib.Omega.{arith}
use lib.ListN.{replicate}
use borrow.Author.Tests.{ne_eqb}
use Rattle.history_spec.specs.Basics.{upd}
use Rattle.history_spec.specs.History.{read, swap, Action, begin, step}
use Rattle.history_spec.specs.Demand3.{Meets}
use Rattle.history_spec.proofs.Examples.{five, no_such_no}
use Rattle.figure.specs.Figure.{opening, figure_ran, figure_stepped, figure_begun}
use Rattle.figure.specs.StandIns.{denying, idling}

-- a swap alone of the value that its cell holds is answered no after its ten steps
pub denying_fails : (Clear : List Action → ℕ → Type 0) → Meets denying (opening 1 1 (5 ∷ [])) Clear 1 five → ⊥
unfolding upd figure_ran figure_stepped figure_begun
denying_fails Clear m = let calls = (m (begin 0 (swap 0 5 7) ∷ replicate 10 (step 0))).calls in
    no_such_no 10 _ (λ t p. rw (ne_eqb t 0 p)) refl refl refl calls.linearization calls.linearizes

-- a read does not end, however often it steps
pub idling_fails : (Clear : List Action → ℕ → Type 0) → Meets idling (opening 1 1 (5 ∷ [])) Clear 1 five → ⊥
unfolding upd figure_ran figure_stepped figure_begun
idling_fails Clear m = omega (arith, ((m (begin 0 (read 0) ∷ replicate 6 (step 0))).calls.bounds.unended 0 _ refl).0)
