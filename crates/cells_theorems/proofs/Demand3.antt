-- Demand 3 of the cells: it holds of the figure, and the pool has the figure's histories.
use mathlib.Core.Path.{◌≡◌, refl, sym, subst}
use mathlib.Core.Logic.{◌≢◌}
use mathlib.Core.Bool.{false}
use mathlib.Core.Option.{none, some}
use mathlib.Core.List.{List, [], ◌∷◌}
use Prim.Native.Nat.{ℕ, zero, suc, ◌≤◌}
use native.Mathlib.Decide.{dec_le}
use native.Mathlib.Omega.{arith}
use lib.Dec.{eqb}
use lib.ListN.{get_or, length}
use borrow.Author.Tests.{eqb-false, not-true}
use Rattle.cells_spec.specs.declared.State.{State}
use Rattle.figure_lines.specs.Record.{no_value}
use Rattle.cells_spec.specs.Questions.{refusal, has_none, open_questions, answers}
use Rattle.cells_spec.proofs.Tests.{nth, all_yes, none_of}
use Rattle.history_spec.specs.History.{Action, Event, history, Call, no_calls, calls_of}
use Rattle.history_spec.specs.Demand3.{most, Demand3, Meets, Finishes, NoHardware, NoHardwareReads, NoHardwareUndropped, NoDrops, clear_after}
use Rattle.history_linearization.proofs.EndsWithin.{ends_within}
use Rattle.history_linearization.proofs.Undropped.{none_withdrawn}
use Rattle.figure.specs.Figure.{figure, opening, active, clear}
use Rattle.figure_moments.proofs.Simulation.{figure_meets_demand_3, figure_reads_quietly}
use Rattle.figure_moments.proofs.Undropped.{figure_undropped_quietly}
use Rattle.cells_spec.specs.Machine.{pool}
use Rattle.cells_theorems.specs.Terms.{start}
use Rattle.cells_theorems.proofs.Refines.{same-history}

beyond : (vs : List ℕ) (k : ℕ) → length vs ≤ k → get_or vs k 0 ≡ 0
beyond [] zero h = refl
beyond [] (suc k) h = refl
beyond (x ∷ vs) zero h = absurd (omega arith)
beyond (x ∷ vs) (suc k) h = beyond vs k (omega arith)

-- question 5
pub values-some : (vs : List ℕ) → has_none vs ≡ false → (k : ℕ) → get_or vs k 0 ≢ no_value
unfolding has_none
values-some vs e k z = go (dec_le (length vs) k)
  where
    go : Dec (length vs ≤ k) → ⊥
    go (yes h) = omega (arith, beyond vs k h)
    go (no h) = eqb-false _ _ (none_of (λ k. eqb (get_or vs k 0) no_value) 0 (length vs) e k (omega arith) (omega arith)) z

-- whatever was in the state and in the pool before an opening that is not refused
module _ (old : State) (words : List ℕ) (tasks cells blocks : ℕ) (values : List ℕ) (allowed : refusal (open_questions (length words) tasks cells blocks values) ≡ none) where
  pub starting_values : (k : ℕ) → get_or values k 0 ≢ no_value
  unfolding open_questions
  starting_values = values-some values (not-true (has_none values) (nth (answers (open_questions (length words) tasks cells blocks values)) (all_yes (open_questions (length words) tasks cells blocks values) allowed) 4))

  -- DEMAND 3. For every list of begins, steps and drops from a fresh opening, with any numbers, refused ones included, wherever tasks halt:
  -- the calls can be put one after another on sequential cells. Every finished call is there once with its own answer, and some pending and
  -- withdrawn ones once each, every one after its begin and no later than its last step. A read ends within 6 own steps with at most 1
  -- hardware CAS, a swap within 21 with at most 3. A call attempts none if its cell's block was active at its begin, with Y false, and no other
  -- swap of unequal values is pending on that cell from its begin to its end. The list is any list, so a task may halt between any two of the
  -- five stores that fill a new block (lines 4 to 8), and before line 30.
  pub cells_meet_demand_3 : Meets pool (start old words tasks cells blocks values) (clear_after figure (opening tasks cells values) clear) cells (λ k. get_or values k 0)
  cells_meet_demand_3 actions =
      subst (λ (h : List (Action × Event)). Demand3 (clear_after figure (opening tasks cells values) clear) cells (λ k. get_or values k 0) h) (sym (same-history old words tasks cells blocks values allowed actions))
      (figure_meets_demand_3 tasks cells values starting_values actions)

  -- A read, and a swap of equal values, attempts none already if the block was active at its begin: Y may be true. (Judged as above, in the
  -- figure that was fed the accepted actions before it.)
  pub cells_read_quietly : (actions : List Action) → NoHardwareReads (clear_after figure (opening tasks cells values) active) (calls_of (history pool (start old words tasks cells blocks values) actions))
  cells_read_quietly actions = subst (λ (h : List (Action × Event)). NoHardwareReads (clear_after figure (opening tasks cells values) active) (calls_of h)) (sym (same-history old words tasks cells blocks values allowed actions))
      (figure_reads_quietly tasks cells values starting_values actions)

  -- So does every call, if no swap of unequal values was withdrawn on its cell before its begin.
  pub cells_undropped_quietly : (actions : List Action) → NoHardwareUndropped (clear_after figure (opening tasks cells values) active) (calls_of (history pool (start old words tasks cells blocks values) actions))
  cells_undropped_quietly actions = subst (λ (h : List (Action × Event)). NoHardwareUndropped (clear_after figure (opening tasks cells values) active) (calls_of h)) (sym (same-history old words tasks cells blocks values allowed actions))
      (figure_undropped_quietly tasks cells values starting_values actions)

  -- Demand 3's own sentence, of lists of begins and steps. A call attempts none if its cell's block was active at its begin and it is alone.
  pub cells_quietly_without_drops : (actions : List Action) → NoDrops actions → NoHardware (clear_after figure (opening tasks cells values) active) (calls_of (history pool (start old words tasks cells blocks values) actions))
  cells_quietly_without_drops actions no-drops c n i = cells_undropped_quietly actions c n i (λ w j. absurd (rw (none_withdrawn pool (start old words tasks cells blocks values) no_calls actions no-drops) at j))

  -- From anywhere in any list, at most 6 further steps of its task finish a read, and at most 21 a swap.
  pub every_call_ends : (actions : List Action) (task : ℕ) (call : Call) → (calls_of (history pool (start old words tasks cells blocks values) actions)).pending task ≡ some call
      → Finishes pool (start old words tasks cells blocks values) actions task call (most call.start.op)
  every_call_ends = ends_within pool (start old words tasks cells blocks values) cells_meet_demand_3
