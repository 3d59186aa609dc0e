-- Which cell an action touches, and which two actions are apart.
use Rattle.std.specs.Prelude.{◌≡◌, ◌≢◌, List, [], ◌∷◌, ℕ, zero, suc}
use Rattle.std.proofs.Math.Option.{Option, none, some}
use Rattle.cells_spec.specs.Questions.{refusal, step_questions}
use Rattle.history_spec.specs.History.{Action, begin, step, drop, task_of}
use Rattle.figure.specs.Figure.{World, figure}

abbrev pub if_accepted : (refusal : Option ℕ) → (cell : ℕ) → Option ℕ
if_accepted none k = some k
if_accepted (some n) k = none

-- a step that is not refused touches its task's cell; a begin, a drop, and a refused action, touch none
abbrev pub touches : World → Action → Option ℕ
touches w (begin t op) = none
touches w (step t) = if_accepted (refusal (step_questions w.tasks (w.records t) t)) (w.records t).cell
touches w (drop t) = none

-- actions of different tasks that do not touch the same cell
pub record Apart (w : World) (a b : Action) : Type 0 where
  pub tasks : task_of a ≢ task_of b
  pub cells : (k : ℕ) → touches w a ≡ some k → touches w b ≢ some k

-- there are actions i and i + 1 of a list, and they are apart in the world before them
abbrev pub ApartAt : World → (i : ℕ) → List Action → Type 0
ApartAt w i [] = ⊥
ApartAt w zero (a ∷ []) = ⊥
ApartAt w zero (a ∷ b ∷ l) = Apart w a b
ApartAt w (suc i) (a ∷ l) = ApartAt (figure w a).0 i l
