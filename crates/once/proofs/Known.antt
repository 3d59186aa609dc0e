-- What is known of a task that has a call.
use mathlib.Core.Path.{◌≡◌}
use mathlib.Core.Option.{none}
use Prim.Native.Nat.{ℕ, ◌≤◌, ◌<◌}
use borrow.Author.Tests.{ltb-true}
use Rattle.cells_spec.specs.Questions.{refusal}
use Rattle.cells_spec.proofs.Tests.{yes-at}
use Rattle.once_spec.specs.declared.OnceState.{OnceState}
use Rattle.once_spec.specs.Questions.{offer_at}
use Rattle.once.specs.Asked.{task_questions}
use Rattle.once.proofs.Fits.{busy}

pub known_busy : (s : OnceState) (t : ℕ) → refusal (task_questions s t) ≡ none → ((offer_at s t).line ≡ 0 → ⊥) → ((offer_at s t).cell < 16) × ((offer_at s t).steps ≤ 9)
known_busy s t e h =
    let y = yes-at (task_questions s t) e in
    busy s (y 0) t (ltb-true t s.tasks (y 1)) h
