-- A fresh opening agrees with the figure's: block k is the first block of cell k.
use mathlib.Core.Path.{◌≡◌, refl, sym, ◌∙◌}
use mathlib.Core.Option.{none}
use mathlib.Core.List.{List}
use Prim.Native.Nat.{ℕ, ◌<◌}
use native.Mathlib.Omega.{arith}
use native.Mathlib.Nat.{zero-add}
use lib.Dec.{eqb}
use lib.ListN.{get_or, length, replicate, length-replicate, get_or-replicate}
use borrow.Author.Tests.{eqb-true}
use Rattle.figure_lines.specs.declared.Field.{Field}
use Rattle.figure_lines.specs.Record.{idle}
use Rattle.cells_spec.specs.Pool.{word, fresh}
use Rattle.cells_spec.specs.Questions.{refusal, open_questions, answers}
use Rattle.cells_spec.specs.Open.{open_state, open_pool}
use Rattle.cells_spec.proofs.Tests.{nth, all_yes, all-at, within_true, blocks_true}
use Rattle.cells_spec.proofs.Words.{fields, length_filled, filled-word}
use Rattle.figure_cell.specs.Memory.{word_of}
use Rattle.figure.specs.Figure.{opening}
use Rattle.cells_theorems.proofs.Agree.{Agree, no_blocks}

-- every word of it is stored
pub record Opened (v k i b : ℕ) (f : Field) : Type 0 where
  pub cell : k < v
  pub number : i ≡ 0
  pub block : b ≡ k

pub opens : (p : List ℕ) (n v b : ℕ) (vs : List ℕ) → refusal (open_questions (length p) n v b vs) ≡ none
    → Agree n v (Opened v) (open_state n v b) (open_pool p vs) (opening n v vs)
unfolding open_questions
opens p n v b vs ok =
    let test = nth (answers (open_questions (length p) n v b vs)) (all_yes (open_questions (length p) n v b vs) ok) in
    let tasks = within_true n 1 32 (test 0) in
    let cells = within_true v 1 16 (test 1) in
    let blocks = blocks_true n v b (length p) (test 2) in
    let values : length vs ≡ v = eqb-true _ _ (test 3) in
    let zeros = length-replicate {A = ℕ} (length p) 0 in
    let words : length (open_pool p vs) ≡ length p = length_filled vs (replicate (length p) 0) 0 ∙ zeros in
    let first : (k : ℕ) (f : Field) → k < v → word (open_pool p vs) k f ≡ fresh (get_or vs k 0) f = λ k f h. rw (zero-add k) at (filled-word vs (replicate (length p) 0) 0 k f (omega arith) (omega (arith, zeros, blocks.0, blocks.1))) in
    record {
      sizes = record { same-tasks = refl; same-cells = refl; tasks_too = refl; cells_too = refl; tasks_ok_lem = test 0; cells_ok_lem = test 1; blocks_ok_lem = rw words (test 2) };
      last = omega (arith, blocks.0, cells.0, tasks.0);
      places = cells.1;
      rows = tasks.1;
      blocks = record {
        numbers = λ k i b f r. omega (arith, r.number);
        below = λ k i b f r. omega (arith, r.block, r.cell, blocks.0);
        words = λ k i c f r. rw r.block (first k f r.cell ∙ fields (λ f. fresh (get_or vs k 0) f ≡ word_of ((opening n v vs).cell k) i f) refl refl refl refl refl f);
        same = λ k i b k' i' f f' r r'. (sym r.block ∙ r'.block, r.number ∙ sym r'.number);
        back = λ k i b b'' f f' r r'. r.block ∙ sym r'.block;
      };
      current = λ k h f. record { cell = h; number = refl; block = eqb-true _ _ (all-at (λ k. eqb (get_or (open_state n v b).current k 0) k) 0 16 refl k (omega arith) (omega (arith, cells.1))) };
      records = λ t h. rw (get_or-replicate 32 t idle idle (omega (arith, tasks.1))) (no_blocks idle tt);
    }
