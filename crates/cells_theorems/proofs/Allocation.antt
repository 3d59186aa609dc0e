-- Line 4: the pool takes an unused block, the figure a new one, and their words X are linked.
use mathlib.Core.Path.{◌≡◌, refl, sym, ◌∙◌}
use mathlib.Core.Bool.{false}
use mathlib.Core.List.{List}
use Prim.Native.Nat.{ℕ, ◌+◌, ◌*◌, ◌<◌}
use native.Mathlib.Omega.{arith}
use lib.ListN.{length-set}
use lib.Seq.{set-get_or}
use Rattle.cells_spec.specs.declared.State.{State}
use Rattle.figure_lines.specs.declared.Field.{Field}
use Rattle.figure_lines.specs.declared.Field.TheVariants.{X}
use Rattle.cells_spec.specs.Pool.{offset, set_word, no_task}
use Rattle.cells_spec.specs.Blocks.{used}
use Rattle.cells_spec.specs.Step.{current, with_blocks}
use Rattle.cells_spec.proofs.Words.{fields, set_here, set_else}
use Rattle.history_spec.specs.Basics.{upd}
use Rattle.history_spec.proofs.Basics.{upd_same, upd-at, upd_off, upd-cases}
use Rattle.figure_cell.specs.Memory.{Cell, word_of, allocate}
use Rattle.figure.specs.Figure.{World}
use Rattle.cells_theorems.proofs.Agree.{Links, Agree, keeps}
use Rattle.cells_theorems.proofs.Memory.{with_cell, words_change, in_pool_lem}
use Rattle.cells_theorems.proofs.Fits.{not_current, other_blocks}

old-words : (m : Cell) (i : ℕ) (f : Field) → (i ≡ m.next → ⊥) → word_of (allocate m) i f ≡ word_of m i f
old-words m i f d = fields (λ f. word_of (allocate m) i f ≡ word_of m i f) (upd_off _ _ _ i d) refl refl refl refl f

-- the links after block u is taken for the new block m of cell j
pub data Link (R : Links) (j m u k i b : ℕ) (f : Field) : Type 0 where
  old : R k i b f → (b ≡ u → ⊥) → Link R j m u k i b f
  new : k ≡ j → i ≡ m → b ≡ u → f ≡ X → Link R j m u k i b f

module _ {n v : ℕ} {R : Links} {s : State} {p : List ℕ} {w : World} (a : Agree n v R s p w) (u : ℕ) (e : used s u ≡ false) (fewer : u < s.blocks) (j : ℕ) where
  abbrev cell : Cell
  cell = allocate (w.cell j)

  abbrev R⁺ : Links
  R⁺ = Link R j (w.cell j).next u

  -- the new block's number is no old one
  fresh-number : (k i b : ℕ) (f : Field) → R k i b f → k ≡ j → i ≡ (w.cell j).next → ⊥
  fresh-number k i b f r ek ei = let l : i < (w.cell j).next = rw ek at (a.blocks.numbers k i b f r) in omega arith

  numbers⁺ : (k i b : ℕ) (f : Field) → R⁺ k i b f → i < (upd w.cell j cell k).next
  numbers⁺ k i b f (old r d) =
      let l = a.blocks.numbers k i b f r in
      upd-cases (λ c. i < c.next) w.cell j cell k (λ q. let h : i < (w.cell j).next = rw q at l in omega arith) (λ _. l)
  numbers⁺ k i b f (new ek ei eb ef) = rw (upd-at w.cell j cell k ek, ei) (omega arith)

  below⁺ : (k i b : ℕ) (f : Field) → R⁺ k i b f → b < s.blocks
  below⁺ k i b f (old r d) = a.blocks.below k i b f r
  below⁺ k i b f (new ek ei eb ef) = rw eb fewer

  same⁺ : (k i b k' i' : ℕ) (f f' : Field) → R⁺ k i b f → R⁺ k' i' b f' → (k ≡ k') × (i ≡ i')
  same⁺ k i b k' i' f f' (old r d) (old r' d') = a.blocks.same k i b k' i' f f' r r'
  same⁺ k i b k' i' f f' (old r d) (new ek ei eb ef) = absurd (d eb)
  same⁺ k i b k' i' f f' (new ek ei eb ef) (old r d) = absurd (d eb)
  same⁺ k i b k' i' f f' (new ek ei eb ef) (new ek' ei' eb' ef') = (ek ∙ sym ek', ei ∙ sym ei')

  back⁺ : (k i b b'' : ℕ) (f f' : Field) → R⁺ k i b f → R⁺ k i b'' f' → b ≡ b''
  back⁺ k i b b'' f f' (old r d) (old r' d') = a.blocks.back k i b b'' f f' r r'
  back⁺ k i b b'' f f' (old r d) (new ek ei eb ef) = absurd (fresh-number k i b f r ek ei)
  back⁺ k i b b'' f f' (new ek ei eb ef) (old r d) = absurd (fresh-number k i b'' f' r ek ei)
  back⁺ k i b b'' f f' (new ek ei eb ef) (new ek' ei' eb' ef') = eb ∙ sym eb'

  old⁺ : (k i b : ℕ) (f : Field) → R⁺ k i b f → (b ≡ u → ⊥) → R k i b f
  old⁺ k i b f (old r d) h = r
  old⁺ k i b f (new ek ei eb ef) h = absurd (h eb)

  -- of the new block X alone is linked
  only_x : (f : Field) → R⁺ j (w.cell j).next u f → f ≡ X
  only_x f (old r d) = absurd (d refl)
  only_x f (new ek ei eb ef) = ef

  pub allocates : Agree n v R⁺ (with_blocks s j (current s j) u) (set_word p u X no_task) (with_cell w j cell)
  allocates =
      let here = new refl refl refl refl in
      rw (set-get_or s.current j 0)
      (record {
        sizes = rw (length-set p (5 * u + offset X) no_task) a.sizes;
        last = fewer;
        places = a.places;
        rows = a.rows;
        blocks = record {
          numbers = numbers⁺;
          below = below⁺;
          words = words_change R⁺ p (set_word p u X no_task) w.cell j (w.cell j).next u cell
              (λ k i f r. same⁺ k i u j (w.cell j).next f X r here) (λ b f r. back⁺ j (w.cell j).next b u f X r here)
              (λ k i b f r d. a.blocks.words k i b f (old⁺ k i b f r d))
              (λ b f. set_else p u X no_task b f) (λ i f. old-words (w.cell j) i f)
              (λ f r. rw (only_x f r) (set_here p u X no_task X (in_pool_lem a u fewer) ∙ sym (upd_same (w.cell j).x (w.cell j).next no_task)));
          same = same⁺;
          back = back⁺;
        };
        current = λ k h f. rw (keeps (λ c. c.current) w.cell j cell refl k) (old (a.current k h f) (not_current a u e k h));
        records = other_blocks a u e R⁺ (λ k i b f r d. old r d);
      })
