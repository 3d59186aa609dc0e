-- An exchange of two neighbouring actions that are apart changes no answer: in the figure, hence in the pool.
use mathlib.Core.Path.{◌≡◌, sym, ap, ◌∙◌}
use mathlib.Core.Option.{none}
use mathlib.Core.List.{List, [], ◌∷◌}
use Prim.Native.Nat.{ℕ, zero, suc}
use lib.ListN.{length}
use Rattle.cells_spec.specs.declared.State.{State}
use Rattle.cells_spec.specs.Questions.{refusal, open_questions}
use Rattle.cells_spec.specs.Machine.{pool}
use Rattle.history_spec.specs.History.{Action, history}
use Rattle.figure.specs.Figure.{World, figure, opening}
use Rattle.figure.specs.Exchange.{ApartAt}
use Rattle.figure.proofs.Exchange.{apart}
use Rattle.cells_theorems.specs.Terms.{start}
use Rattle.cells_theorems.proofs.Refines.{same-history}
use Rattle.nudge_spec.specs.Exchange.{exchanged, moved_to, answer_at}
use Rattle.nudge_spec.proofs.Ledger.{TwoTasks, same_answer_lem}

-- IN THE FIGURE

-- the history of the exchanged actions is the history with these two entries exchanged
pub exchanged-history : (i : ℕ) (l : List Action) (w : World) → ApartAt w i l → history figure w (exchanged i l) ≡ exchanged i (history figure w l)
exchanged-history i [] w p = absurd p
exchanged-history zero (a ∷ []) w p = absurd p
exchanged-history zero (a ∷ b ∷ l) w p = let (worlds, later, sooner) = apart w a b p in λ i. (b, sym later i) ∷ (a, sooner i) ∷ history figure (sym worlds i) l
exchanged-history (suc i) (a ∷ l) w p = ap (λ h. (a, (figure w a).1) ∷ h) (exchanged-history i l (figure w a).0 p)

two-tasks : (i : ℕ) (l : List Action) (w : World) → ApartAt w i l → TwoTasks i (history figure w l)
two-tasks i [] w p = p
two-tasks zero (a ∷ []) w p = p
two-tasks zero (a ∷ b ∷ l) w p = p.tasks
two-tasks (suc i) (a ∷ l) w p = two-tasks i l (figure w a).0 p

figure-answers : (i m : ℕ) (l : List Action) (w : World) → ApartAt w i l → answer_at (moved_to i m) (history figure w (exchanged i l)) ≡ answer_at m (history figure w l)
figure-answers i m l w p = ap (answer_at (moved_to i m)) (exchanged-history i l w p) ∙ same_answer_lem i m (history figure w l) (two-tasks i l w p)

-- IN THE POOL, from an opening that is not refused

module _ (old : State) (words : List ℕ) (tasks cells blocks : ℕ) (values : List ℕ) (allowed : refusal (open_questions (length words) tasks cells blocks values) ≡ none) (actions : List Action) where
  -- Two neighbours of different tasks that do not touch the same cell: exchanged, every call answers as before, or is pending as before.
  pub apart_answers : (i m : ℕ) → ApartAt (opening tasks cells values) i actions
      → answer_at (moved_to i m) (history pool (start old words tasks cells blocks values) (exchanged i actions)) ≡ answer_at m (history pool (start old words tasks cells blocks values) actions)
  apart_answers i m p =
      let same = same-history old words tasks cells blocks values allowed in
      ap (answer_at (moved_to i m)) (same (exchanged i actions)) ∙ (figure-answers i m actions (opening tasks cells values) p ∙ ap (answer_at m) (sym (same actions)))
