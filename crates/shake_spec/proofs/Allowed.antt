-- The opening of a session that is drawn is not refused.
use mathlib.Core.Path.{◌≡◌, refl}
use mathlib.Core.Bool.{Bool, true, false}
use mathlib.Core.Option.{none}
use mathlib.Core.List.{[], ◌∷◌}
use Prim.Native.Nat.{ℕ, zero, suc, ◌+◌, ◌*◌}
use borrow.Author.Tests.{le-leb, eq-eqb}
use lib.Dec.{eqb}
use lib.ListN.{length, get_or, replicate, length-replicate}
use Rattle.history_spec.proofs.Basics.{replicate_at}
use Rattle.figure_lines.specs.Basics.{within, any_from}
use Rattle.figure_lines.specs.Record.{no_value}
use Rattle.cells_spec.specs.Questions.{refusal, answers, tasks_ok, cells_ok, blocks_ok, has_none, open_questions}
use Rattle.cells_spec.proofs.Tests.{all_yes, nth}
use Rattle.cells_spec.specs.Answers.{Acted}
use Rattle.cells_spec.specs.Open.{opened, blank}
use Rattle.session_spec.specs.Printed.{pool_words}
use Rattle.shake_spec.specs.Actions.{zero_start}
use Rattle.shake_spec.specs.Shaken.{shake_questions}
use Rattle.shake_spec.proofs.Shaking.{sizes}
use Rattle.cells_theorems.specs.Reached.{Reached}
use Rattle.cells_theorems.proofs.Reaching.{reached_open}

-- ZEROS ARE NOT NONE

never : (f : ℕ → Bool) (i k : ℕ) → ((j : ℕ) → f j ≡ false) → any_from f i k ≡ false
never f i zero h = refl
never f i (suc k) h = rw (h i) (never f (i + 1) k h)

no_none : (m : ℕ) → has_none (replicate m 0) ≡ false
unfolding has_none
no_none m = never (λ k. eqb (get_or (replicate m 0) k 0) no_value) 0 (length {A = ℕ} (replicate m 0)) (λ j. rw (replicate_at {A = ℕ} 0 m j))

-- THE QUESTIONS

module _ (n v b k : ℕ) (e : refusal (shake_questions n v b k) ≡ none) where
  yes-at : (i : ℕ) → get_or (tasks_ok n ∷ cells_ok v ∷ blocks_ok n v b (5 * b) ∷ within k 1 3000 ∷ []) i true ≡ true
  unfolding shake_questions
  yes-at i = nth (answers (shake_questions n v b k)) (all_yes (shake_questions n v b k) e) i

  words : length {A = ℕ} (replicate (pool_words b) 0) ≡ 5 * b
  words = rw (le-leb b 128 (sizes n v b k e).4) (length-replicate {A = ℕ} (5 * b) 0)

  allowed : refusal (open_questions (length {A = ℕ} (replicate (pool_words b) 0)) n v b (replicate v 0)) ≡ none
  unfolding open_questions
  allowed = rw (words, yes-at 0, yes-at 1, yes-at 2, eq-eqb (length {A = ℕ} (replicate v 0)) v (length-replicate {A = ℕ} v 0), no_none v)

  pub start-reached : Reached n v (zero_start n v b).0 (zero_start n v b).1
  unfolding zero_start
  start-reached = reached_open blank (replicate (pool_words b) 0) n v b (replicate v 0) allowed

-- The opening is not refused.
pub opening-accepted : (tasks cells blocks length : ℕ) → refusal (shake_questions tasks cells blocks length) ≡ none
    → (opened blank (replicate (pool_words blocks) 0) tasks cells blocks (replicate cells 0)).outcome ≡ Acted
unfolding opened
opening-accepted tasks cells blocks length e = rw (allowed tasks cells blocks length e)
