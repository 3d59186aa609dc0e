-- The look at a cell.
use Rattle.std.specs.Prelude.{cond, List, ◌∷◌, ℕ, eqb}
use Rattle.std.proofs.Math.Option.{Option, none, some}
use Rattle.cells_spec.specs.declared.State.{State}
use Rattle.cells_spec.specs.Answers.{Seen, NotShown, Shown}
use Rattle.figure_lines.specs.declared.Field.{Field}
use Rattle.figure_lines.specs.declared.Field.TheVariants.{C, D}
use Rattle.figure_lines.specs.Record.{no_value}
use Rattle.cells_spec.specs.Pool.{word}
use Rattle.cells_spec.specs.Questions.{refusal, fit, look_questions}
use Rattle.cells_spec.specs.Step.{current}

-- V while C is false; otherwise D, or V where D is none
abbrev pub shown_value : (c v d : ℕ) → ℕ
shown_value c v d = cond (eqb c 0) v (cond (eqb d no_value) v d)

abbrev pub shown : Option ℕ → ℕ → Seen
shown none v = Shown v
shown (some n) v = NotShown n

unfoldable pub looked : State → List ℕ → (cell : ℕ) → Seen
looked s p k = let b = current s k in shown (refusal ((6, fit s p) ∷ look_questions s.cells k)) (shown_value (word p b C) (word p b Field.V) (word p b D))
