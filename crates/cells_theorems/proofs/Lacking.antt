-- A STEP NEVER LACKS A BLOCK, from an opening: at line 4 one is unused, and question 20 is never answered no.
use mathlib.Core.Path.{◌≡◌, refl, sym, ◌∙◌}
use mathlib.Core.Bool.{Bool, true, false, ◌||◌}
use mathlib.Core.Option.{none, some}
use mathlib.Core.List.{List, [], ◌∷◌}
use Prim.Native.Nat.{ℕ, ◌<◌}
use native.Mathlib.Omega.{arith}
use lib.Dec.{eqb}
use lib.ListN.{length}
use borrow.Author.Tests.{eqb-false}
use Rattle.cells_spec.specs.declared.State.{State}
use Rattle.figure_lines.specs.Answers.{Next, Go, Done}
use Rattle.figure_lines.specs.Record.{record_at}
use Rattle.figure_lines.specs.Lines.{access_of, next_of}
use Rattle.cells_spec.specs.Questions.{Question, refusal, open_questions, begin_questions, swap_questions, step_questions}
use Rattle.cells_spec.proofs.Tests.{or_left, or_right}
use Rattle.cells_spec.specs.Blocks.{used, unused}
use Rattle.history_spec.specs.History.{read, swap, Action, begin, step, drop, Attempt, untried, refused, accepted, run}
use Rattle.cells_spec.specs.Events.{event_of}
use Rattle.cells_spec.specs.Machine.{pool}
use Rattle.figure_cell.specs.Memory.{access_cell}
use Rattle.cells_spec.specs.Turn.{outcome_of}
use Rattle.figure.specs.Figure.{World, WorldAfter, unless_refused, figure_ran, figure_stepped, figure_begun, figure_dropped, tried_in, opening, figure}
use Rattle.cells_theorems.specs.Terms.{start}
use Rattle.cells_theorems.proofs.Steps.{found}
use Rattle.cells_theorems.proofs.Refines.{acts, together}

-- THE FIGURE HAS NO QUESTION 20

abbrev asks : ℕ → List Question → Bool
asks n [] = false
asks n (q ∷ l) = eqb q.0 n || asks n l

module _ (n : ℕ) (w : World) (x : Attempt) (y : WorldAfter) (acted : event_of x y.outcome ≡ refused n → ⊥) where
  only_asked : (l : List Question) → asks n l ≡ false → event_of x (unless_refused (refusal l) w y).outcome ≡ refused n → ⊥
  only_asked [] h e = acted e
  only_asked ((m, true) ∷ l) h e = only_asked l (or_right (eqb m n) (asks n l) h) e
  only_asked ((m, false) ∷ l) h e = eqb-false m n (or_left (eqb m n) (asks n l) h) cc

accepts : (n : ℕ) (x : Attempt) → accepted x ≡ refused n → ⊥
accepts n x e = let z : ◌≡◌ {A = ℕ} 0 1 = cc in omega arith

goes_on : (n : ℕ) (x : Attempt) (o : Next) → event_of x (outcome_of o) ≡ refused n → ⊥
goes_on n x (Go q) e = accepts n x e
goes_on n x (Done f) e = let z : ◌≡◌ {A = ℕ} 0 1 = cc in omega arith

not_in_the_figure : (w : World) (a : Action) → (figure w a).1 ≡ refused 20 → ⊥
unfolding figure_begun figure_stepped figure_ran figure_dropped
not_in_the_figure w (begin t (read k)) = only_asked 20 w untried _ (accepts 20 untried) (begin_questions w.tasks w.cells (w.records t) t k) refl
not_in_the_figure w (begin t (swap k e n)) = only_asked 20 w untried _ (accepts 20 untried) (swap_questions w.tasks w.cells (w.records t) t k e n) refl
not_in_the_figure w (step t) =
    let q = w.records t in
    only_asked 20 w (tried_in w t q) _ (goes_on 20 (tried_in w t q) (next_of t q (access_cell (w.cell q.cell) (access_of t q)).value)) (step_questions w.tasks q t) refl
not_in_the_figure w (drop t) = only_asked 20 w untried _ (accepts 20 untried) (step_questions w.tasks (w.records t) t) refl

-- AN OPENING THAT IS NOT REFUSED, then any list of actions
module _ (old : State) (words : List ℕ) (tasks cells blocks : ℕ) (values : List ℕ) (allowed : refusal (open_questions (length words) tasks cells blocks values) ≡ none) (actions : List Action) where
  -- A task that is at line 4 finds an unused block.
  pub block-found : (task : ℕ) → task < tasks → let now = (run pool (start old words tasks cells blocks values) actions).0 in
      (record_at now.records task).line ≡ 4 → (b : ℕ) × (unused now ≡ some b) × (used now b ≡ false) × (b < now.blocks)
  block-found task l e = let g = together old words tasks cells blocks values allowed actions in found g.agree (g.well []) g.counts g.spare task l e

  -- No action is refused with 20.
  pub never_20 : (action : Action) → (pool (run pool (start old words tasks cells blocks values) actions) action).1 ≡ refused 20 → ⊥
  never_20 a e = not_in_the_figure (run figure (opening tasks cells values) actions) a (sym (acts (together old words tasks cells blocks values allowed actions) a).event ∙ e)
