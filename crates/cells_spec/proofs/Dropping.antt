-- What a drop that is not refused is known of: its record is the task's own, and each block's count is at least what that record names of it.
use mathlib.Core.Path.{◌≡◌, refl}
use mathlib.Core.Bool.{Bool, true, false, ◌||◌, not, false≢true}
use mathlib.Core.Option.{none}
use mathlib.Core.List.{List, [], ◌∷◌}
use Prim.Native.Nat.{ℕ, ◌<◌}
use native.Mathlib.Omega.{arith}
use lib.ListN.{get_or}
use borrow.Author.Tests.{ltb-true}
use Rattle.figure_lines.specs.declared.Record.{Record}
use Rattle.figure_lines.specs.Record.{idle, record_at}
use Rattle.cells_spec.specs.declared.State.{State}
use Rattle.cells_spec.specs.Questions.{refusal, answers, fit, fit_tests}
use Rattle.cells_spec.proofs.Tests.{nth, within_true, yes-at}
use Rattle.cells_spec.specs.StoredCounts.{Named, released}
use Rattle.cells_spec.specs.Drop.{drop_asks, dropped}
use Rattle.cells_spec.specs.Step.{current, with_counts}
use Rattle.cells_spec.specs.Answers.{Acted}
use Rattle.cells_spec.specs.Open.{leaving}
use Rattle.cells_spec.specs.Begin.{with_record}
use Rattle.cells_spec.proofs.CountsKept.{Arrays}
use Rattle.cells_spec.proofs.Countable.{cell-block, countable_to}
use Rattle.cells_spec.proofs.Recount.{old-named}

-- question 20 is answered yes where a block is found
pub never_20 : (x y z l : Bool) → refusal ((6, x) ∷ (7, y) ∷ (11, z) ∷ (20, not l || true) ∷ []) ≡ refusal ((6, x) ∷ (7, y) ∷ (11, z) ∷ [])
never_20 x y z true = refl
never_20 x y z false = refl

module _ (s : State) (p : List ℕ) (t : ℕ) (e : refusal (drop_asks s p t) ≡ none) where
  yes : (k : ℕ) → get_or (answers (drop_asks s p t)) k true ≡ true
  yes = yes-at (drop_asks s p t) e

  pub its-names : Arrays s → Named s.counts (record_at s.records t)
  unfolding fit
  its-names a =
      let below = ltb-true t s.tasks (yes 1) in
      let v = within_true s.cells 1 16 (nth (fit_tests s p) (yes 0) 1) in
      let one : 0 < s.cells = omega (arith, v.0) in
      old-named s.counts (record_at s.records t) idle (current s 0) (current s 0)
      (countable_to s p (yes 0) t below 0 one a idle (current s 0) ((λ g. absurd (false≢true g)), λ g. absurd (false≢true g)) (cell-block s p (yes 0) 0 one))

  -- what the task's record and the counts are then is what a drop leaves
  pub drops : {q : Record} {k : List ℕ} → q ≡ idle → k ≡ released s.counts (record_at s.records t) → leaving (with_counts (with_record s t q) k) p Acted ≡ dropped s p t
  unfolding dropped
  drops h g = rw (h, g, e)
