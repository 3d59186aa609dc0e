-- What an entry that is not refused is known to have been asked.
use mathlib.Core.Path.{◌≡◌, refl, sym, ◌∙◌}
use mathlib.Core.Bool.{Bool, true, ◌&&◌, and-eq-true_iff}
use mathlib.Core.Option.{none}
use mathlib.Core.List.{List, ◌∷◌}
use Prim.Native.Nat.{ℕ, ◌*◌, ◌≤◌, ◌<◌}
use native.Mathlib.Omega.{arith}
use lib.Dec.{ltb}
use lib.ListN.{length}
use borrow.Author.Tests.{ltb-true, eqb-true}
use Rattle.cells_spec.specs.declared.State.{State}
use Rattle.cells_spec.specs.Questions.{Question, refusal, fit, open_questions}
use Rattle.cells_spec.proofs.Tests.{within_true, blocks_true, yes-at}
use Rattle.cells_spec.proofs.Fits.{sizes}

module _ (s : State) (p : List ℕ) (t : ℕ) where
  pub task-below : (x : Bool) → x ≡ fit s p → (x && ltb t s.tasks) ≡ true → t < 32
  task-below x h e =
      let q = (and-eq-true_iff x (ltb t s.tasks)).0 e in
      let z = sizes s p (sym h ∙ q.0) in
      omega (arith, ltb-true t s.tasks q.1)

  pub asked_below : (l : List Question) → refusal ((6, fit s p) ∷ (7, ltb t s.tasks) ∷ l) ≡ none → t < 32
  asked_below l e =
      let yes = yes-at ((6, fit s p) ∷ (7, ltb t s.tasks) ∷ l) e in
      task-below (fit s p) refl (rw (yes 0) (yes 1))

-- what is known of an opening that is not refused
pub opens : (p vs : List ℕ) (n v b : ℕ) → refusal (open_questions (length p) n v b vs) ≡ none
    → (1 ≤ v) × (length vs ≤ 16) × (5 * length vs ≤ length p) × (v ≤ 16)
unfolding open_questions
opens p vs n v b e =
    let yes = yes-at (open_questions (length p) n v b vs) e in
    let m = within_true n 1 32 (yes 0) in
    let z = within_true v 1 16 (yes 1) in
    let f = blocks_true n v b (length p) (yes 2) in
    let q = eqb-true (length vs) v (yes 3) in
    (omega (arith, z.0), omega (arith, z.1), omega (arith, m.0, f.0, f.1), z.1)
