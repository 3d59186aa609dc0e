-- The questions, and the whole buffer.
use mathlib.Core.Path.{◌≡◌}
use mathlib.Core.Bool.{true, false}
use mathlib.Core.Option.{none, some}
use mathlib.Core.List.{List, [], ◌∷◌}
use Prim.Native.Nat.{ℕ, ◌*◌, ◌≤◌, ◌<◌}
use borrow.Author.Tests.{le-leb, lt-leb}
use lib.ListN.{length, get_or}
use Rattle.text.specs.Lines.{bad_line}
use Rattle.text.specs.Append.{Appended}
use Rattle.text.proofs.Appending.{nothing, Entire, entire}
use Rattle.figure_lines.specs.Basics.{within}
use Rattle.cells_spec.specs.Questions.{refusal, answers, tasks_ok, cells_ok, blocks_ok}
use Rattle.cells_spec.proofs.Tests.{within_true, blocks-most, all_yes, nth}
use Rattle.shake_spec.specs.Shaken.{shake_questions, session_text, shaken, shaken_within}

-- THE QUESTIONS

module _ (n v b k : ℕ) where
  pub refused-1 : tasks_ok n ≡ false → refusal (shake_questions n v b k) ≡ some 1
  unfolding shake_questions
  refused-1 e = rw e

  pub refused-2 : tasks_ok n ≡ true → cells_ok v ≡ false → refusal (shake_questions n v b k) ≡ some 2
  unfolding shake_questions
  refused-2 d e = rw (d, e)

  pub refused-3 : tasks_ok n ≡ true → cells_ok v ≡ true → blocks_ok n v b (5 * b) ≡ false → refusal (shake_questions n v b k) ≡ some 3
  unfolding shake_questions
  refused-3 c d e = rw (c, d, e)

  pub refused-17 : tasks_ok n ≡ true → cells_ok v ≡ true → blocks_ok n v b (5 * b) ≡ true → within k 1 3000 ≡ false → refusal (shake_questions n v b k) ≡ some 17
  unfolding shake_questions
  refused-17 b c d e = rw (b, c, d, e)

  pub none_refused : tasks_ok n ≡ true → cells_ok v ≡ true → blocks_ok n v b (5 * b) ≡ true → within k 1 3000 ≡ true → refusal (shake_questions n v b k) ≡ none
  unfolding shake_questions
  none_refused b c d e = rw (b, c, d, e)

-- THE WHOLE BUFFER

with-room : (room g n v b k : ℕ) → 65536 ≤ room → shaken g n v b k ≡ shaken_within room g n v b k
unfolding shaken_within
with-room room g n v b k h = rw (le-leb 65536 room h)

no_room : (room g n v b k : ℕ) → room < 65536 → [] ≡ shaken_within room g n v b k
unfolding shaken_within
no_room room g n v b k h = rw (lt-leb 65536 room h)

pub shaken-text : (g n v b k : ℕ) → refusal (shake_questions n v b k) ≡ none → shaken g n v b k ≡ session_text g n v b k
unfolding shaken
shaken-text g n v b k e = rw (e, shaken)

pub refused-text : (g n v b k : ℕ) {q : ℕ} → refusal (shake_questions n v b k) ≡ some q → shaken g n v b k ≡ bad_line q
unfolding shaken
refused-text g n v b k e = rw (e, shaken)

pub all-printed : (g n v b k : ℕ) {old new : List ℕ} {r : ℕ} → Appended old new 0 r (shaken g n v b k) → 65536 ≤ length old → Entire (shaken_within (length old) g n v b k) old new r
all-printed g n v b k {old = old} x h = entire (shaken_within (length old) g n v b k) x (with-room (length old) g n v b k h)

pub none_shaken : (g n v b k : ℕ) (old : List ℕ) → length old < 65536 → Entire (shaken_within (length old) g n v b k) old old 0
none_shaken g n v b k old h = entire (shaken_within (length old) g n v b k) (nothing old 0) (no_room (length old) g n v b k h)

-- a session's sizes, where none is refused
pub sizes : (n v b k : ℕ) → refusal (shake_questions n v b k) ≡ none → (0 < n) × (n ≤ 32) × (0 < v) × (v ≤ 16) × (b ≤ 128) × (k ≤ 3000)
unfolding shake_questions
sizes n v b k e =
    let ns = within_true n 1 32 (yes 0) in
    let vs = within_true v 1 16 (yes 1) in
    (ns.0, ns.1, vs.0, vs.1, blocks-most n v b (5 * b) (yes 2), (within_true k 1 3000 (yes 3)).1)
  where
    yes : (i : ℕ) → get_or (tasks_ok n ∷ cells_ok v ∷ blocks_ok n v b (5 * b) ∷ within k 1 3000 ∷ []) i true ≡ true
    yes i = nth (answers (shake_questions n v b k)) (all_yes (shake_questions n v b k) e) i
