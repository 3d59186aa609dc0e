-- What 8 bits need, in a fit state: each count is what its block is used, so at least what one record and one cell name of it, and at most 80.
-- And two changes that leave the counts as they are.
use mathlib.Core.Path.{◌≡◌, refl, ◌∙◌}
use mathlib.Core.Bool.{Bool, true, false, ◌&&◌, not, cond}
use mathlib.Core.List.{List}
use Prim.Native.Nat.{ℕ, ◌+◌, ◌≤◌, ◌<◌}
use native.Mathlib.Omega.{arith}
use native.Mathlib.Decide.{dec_le}
use lib.Dec.{eqb, ltb}
use lib.ListN.{get_or, length}
use lib.Seq.{ext_get_or}
use borrow.Author.Tests.{ltb-true, eq-eqb, ne_eqb}
use Rattle.figure_lines.specs.declared.Record.{Record}
use Rattle.cells_spec.specs.declared.State.{State}
use Rattle.figure_lines.specs.Record.{is_idle, record_at}
use Rattle.cells_spec.specs.Questions.{holds, has_taken, record_fit, cells_fit, records_fit, record_uses, counts_true, fit, fit_tests}
use Rattle.cells_spec.specs.Counts.{claimed, Roomy, Room}
use Rattle.cells_spec.specs.StoredCounts.{released, recounted, Countable}
use Rattle.cells_spec.specs.Step.{current}
use Rattle.cells_spec.proofs.Tests.{all-at, nth}
use Rattle.cells_spec.proofs.Fits.{sizes}
use Rattle.cells_spec.proofs.Uses.{named-used, count-is, few-uses}
use Rattle.cells_spec.proofs.Counted.{held_below, taken_below}
use Rattle.cells_spec.proofs.Tables.{two-uses, length_claimed, claimed-at}
use Rattle.cells_spec.proofs.Recount.{length_released, released-at}
use Rattle.cells_spec.proofs.CountsKept.{Arrays}
use Rattle.cells_spec.proofs.Named.{Below}

-- a block past the last is not named
miss : (x : Bool) (m n b : ℕ) → (x ≡ true → m < n) → n ≤ b → ◌≡◌ {A = ℕ} (cond (x && eqb m b) 1 0) 0
miss true m n b h l = rw (ne_eqb m b (λ e. omega (arith, h refl)))
miss false m n b h l = refl

uses-past : (r : Record) (n b : ℕ) → Below n r → n ≤ b → record_uses r b ≡ 0
uses-past r n b h l = omega (arith, two-uses b r, miss (not (is_idle r) && holds r) r.held n b h.0 l, miss (not (is_idle r) && has_taken r) r.taken n b h.1 l)

module _ (s : State) (p : List ℕ) (e : fit s p ≡ true) where
  true_counts : counts_true s ≡ true
  unfolding fit
  true_counts = nth (fit_tests s p) e 6

  roomy : (b : ℕ) → b < s.blocks → Roomy s.counts b
  roomy b h = let z = sizes s p e in (omega (arith, z.blocks), omega (arith, count-is s true_counts b h, few-uses s b, z.tasks, z.cells))

  room_of : (q : Record) → Below s.blocks q → Room s.counts q
  room_of q h = (λ g. roomy q.held (h.0 g), λ g. roomy q.taken (h.1 g))

  -- a cell's block is one of the pool's
  pub cell-block : (k : ℕ) → k < s.cells → current s k < s.blocks
  unfolding fit cells_fit
  cell-block k h = ltb-true _ _ (all-at (λ k. ltb (get_or s.current k 0) s.blocks) 0 s.cells (nth (fit_tests s p) e 3) k (omega arith) (omega arith))

  module _ (t : ℕ) (own : t < s.tasks) where
    abbrev r : Record
    r = record_at s.records t

    fits : record_fit r s.cells s.blocks ≡ true
    unfolding fit records_fit
    fits = all-at (λ t. record_fit (record_at s.records t) s.cells s.blocks) 0 s.tasks (nth (fit_tests s p) e 5) t (omega arith) (omega arith)

    -- so is what a record names
    pub names : Below s.blocks r
    names = (held_below r s.cells s.blocks fits, taken_below r s.cells s.blocks fits)

    module _ (k : ℕ) (cell : k < s.cells) (a : Arrays s) where
      lower : (b : ℕ) → Dec (s.blocks ≤ b) → record_uses r b + cond (eqb (current s k) b) 1 0 ≤ get_or s.counts b 0
      lower b (yes l) = omega (arith, uses-past r s.blocks b names l, miss true (current s k) s.blocks b (λ g. cell-block k cell) l)
      lower b (no l) =
          let z = sizes s p e in
          omega (arith, count-is s true_counts b (omega (arith, l)), named-used s t k own (omega (arith, z.tasks, a.1)) cell (omega (arith, z.cells, a.0)) b)

      pub countable_to : (q : Record) (d : ℕ) → Below s.blocks q → d < s.blocks → Countable s.counts r q (current s k) d
      countable_to q d h m = (a.2, room_of r names, room_of q h, roomy (current s k) (cell-block k cell), roomy d m, λ b i. lower b (dec_le s.blocks b))

-- NOTHING CHANGES

-- where a record stays, and its cell's block
pub recounted-same : (l : List ℕ) (r : Record) (c : ℕ) → length l ≡ 128 → ((b : ℕ) → b < 128 → record_uses r b ≤ get_or l b 0) → recounted l r r c c ≡ l
unfolding recounted
recounted-same l r c n h = rw (eq-eqb c c refl) (ext_get_or 0 (claimed (released l r) r) l long each)
  where
    long : length (claimed (released l r) r) ≡ length l
    long = length_claimed (released l r) r ∙ length_released l r

    each : (b : ℕ) → b < length (claimed (released l r) r) → get_or (claimed (released l r) r) b 0 ≡ get_or l b 0
    each b i =
        let j : b < length l = omega (arith, i, long) in
        omega (arith, claimed-at b (released l r) (omega (arith, j, length_released l r)) r, released-at b l j r, h b (omega (arith, j, n)))
