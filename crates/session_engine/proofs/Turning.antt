-- In the loop, from a state that an opening led to.
use mathlib.Core.Path.{◌≡◌, sym, subst}
use mathlib.Core.List.{List}
use Prim.Native.Nat.{ℕ, ◌≤◌}
use lib.ListN.{length}
use Rattle.cells_spec.specs.declared.State.{State}
use Rattle.cells_spec.specs.Questions.{open_questions, answers}
use Rattle.cells_spec.proofs.Tests.{all_yes, nth, within_true}
use Rattle.cells_spec.specs.Answers.{Said}
use Rattle.cells_spec.specs.Open.{After, leaving}
use Rattle.cells_spec.specs.Machine.{does}
use Rattle.history_spec.specs.History.{Action}
use Rattle.cells_theorems.specs.Reached.{Reached}
use Rattle.cells_theorems.proofs.Reaching.{reached-next}

module _ {n v : ℕ} {s : State} {p : List ℕ} (r : Reached n v s p) where
  pub reached-small : (n ≤ 32) × (v ≤ 16)
  unfolding open_questions
  reached-small =
      let l = open_questions (length r.words) n v r.blocks r.values in
      let yes = nth (answers l) (all_yes l r.allowed) in
      ((within_true n 1 32 (yes 0)).1, (within_true v 1 16 (yes 1)).1)

  -- whatever the action, what it leaves is reached too
  pub reached_then : (a : Action) {s' : State} {p' : List ℕ} {o : Said} → leaving s' p' o ≡ does s p a → Reached n v s' p'
  reached_then a e = subst (λ (x : After). Reached n v x.state x.pool) (sym e) (reached-next r a)
