-- What the questions answer.
use Rattle.std.specs.Prelude.{◌≡◌, ℕ, Ok, Err}
use Rattle.std.specs.declared.result.Result.{Result}
use Rattle.std.proofs.Math.Option.{some}
use Rattle.cells_spec.specs.Questions.{refusal}
use Rattle.shake_spec.specs.Shaken.{shake_questions}
use Rattle.shake_tool.specs.declared.refusal.ShakeRefusal.{ShakeRefusal}
use Rattle.shake_tool.specs.declared.sizes.Sizes.{Sizes}
use Rattle.shake_tool.specs.Refusals.{number}

-- the first question answered no, or the sizes that were asked for
abbrev pub Asked : (tasks cells blocks count : ℕ) → Result Sizes ShakeRefusal → Type 0
Asked n v b k (Err e) = refusal (shake_questions n v b k) ≡ some (number e)
Asked n v b k (Ok w) = (w.tasks ≡ n) × (w.cells ≡ v) × (w.blocks ≡ b) × (w.count ≡ k)
