use mathlib.Core.Path.{◌≡◌, sym, ap, ◌∙◌}
use mathlib.Core.List.{List}
use Prim.Native.Nat.{ℕ, suc, ◌≤◌, ◌+◌}
use lib.Dec.{eqb}
use lib.ListN.{get_or, length-set, length-replicate, get_or-replicate}
use Rattle.cells_spec.specs.Questions.{names_of}
use Rattle.cells_spec.proofs.Sums.{once, once-most, sum-last, sum-most}
use Rattle.cells_spec.proofs.Tables.{more-at}
use native.Mathlib.Omega.{arith}
use Rattle.cells_questions.proofs.counting.count_cells.Goals as goal

-- at most 16 cells name a block
few : (l : List ℕ) (b k : ℕ) → k ≤ 16 → names_of l b k ≤ 16
few l b k h = omega (arith, sum-most (λ k. once (eqb (get_or l k 0) b)) 1 0 k (λ j. once-most (eqb (get_or l j 0) b)))

one_more : (l : List ℕ) (b k : ℕ) → names_of l b (k + 1) ≡ names_of l b k + once (eqb (get_or l k 0) b)
one_more l b k = ap (names_of l b) (next k) ∙ (sum-last (λ k. once (eqb (get_or l k 0) b)) 0 k ∙ ap (λ (j : ℕ). names_of l b k + once (eqb (get_or l j 0) b)) (here k))
  where
    next : (k : ℕ) → k + 1 ≡ suc k
    next k = omega arith

    here : (k : ℕ) → 0 + k ≡ k
    here k = omega arith

pub loop-b-init : goal.loop-b-init
loop-b-init c = (rw c.requires.2 (length-replicate {A = ℕ} 128 0), λ b m. rw c.requires.2 (get_or-replicate 128 b 0 0 m))

pub count-requires : goal.count-requires
count-requires c = let l = c.loop-b in
    let a = c.args in
    let p = c.requires in
    let h = p.1 l.b-index c.loop-b-test.true in
    (h, omega (arith, l.invariant.1 _ h, few a.current.now (get_or a.current.now l.b-index 0) l.b-index (omega (arith, p.0, c.loop-b-test.true))))

pub loop-b-preserved : goal.loop-b-preserved
loop-b-preserved c = let l = c.loop-b in
    let a = c.args in (
      rw c.count.ensures (length-set l.table (get_or a.current.now l.b-index 0) _ ∙ l.invariant.0),
      λ b m. rw c.count.ensures (more-at b l.table (omega (arith, m, l.invariant.0)) (get_or a.current.now l.b-index 0) ∙ rw (l.invariant.1 b m) (sym (one_more a.current.now b l.b-index))),
    )
