-- How many blocks are in use, added up: each cell names one block, each task but one holds at most one that was replaced, and each but the
-- one at line 4 has taken at most one.
use mathlib.Core.Path.{◌≡◌, refl}
use mathlib.Core.Bool.{Bool, true, false, ◌&&◌, not, cond}
use Prim.Native.Nat.{ℕ, zero, suc, ◌+◌, ◌*◌, ◌≤◌, ◌<◌}
use native.Mathlib.Omega.{arith}
use lib.Dec.{eqb}
use lib.ListN.{get_or}
use borrow.Author.Tests.{eqb-true, eqb-false, ne_eqb}
use Rattle.figure_lines.specs.declared.Record.{Record}
use Rattle.cells_spec.specs.declared.State.{State}
use Rattle.figure_lines.specs.Basics.{sum_from}
use Rattle.figure_lines.specs.Record.{is_idle, record_at}
use Rattle.cells_spec.specs.Questions.{has_taken}
use Rattle.cells_spec.specs.Blocks.{holds_replaced}
use Rattle.cells_spec.proofs.Sums.{once, once-most, sum_zero, sum_same, sum-most, sum_less, sum-add, sum-turned}

-- where k numbers add up to less than k, one of them is 0
pub gap : (f : ℕ → ℕ) (i k : ℕ) → sum_from f i k < k → (b : ℕ) × (b < i + k) × (f b ≡ 0)
gap f i zero h = absurd (omega arith)
gap f i (suc k) h = go (eqb (f i) 0) refl (gap f (i + 1) k)
  where
    go : (x : Bool) → eqb (f i) 0 ≡ x → (sum_from f (i + 1) k < k → (b : ℕ) × (b < i + 1 + k) × (f b ≡ 0)) → (b : ℕ) × (b < i + suc k) × (f b ≡ 0)
    go true e more = (i, omega arith, eqb-true _ _ e)
    go false e more =
        let d : f i ≡ 0 → ⊥ = eqb-false _ _ e in
        let g = more (omega arith) in
        (g.0, omega (arith, g.1), g.2)

-- of the blocks from i on, at most one is x
sum_one : (x i k : ℕ) → sum_from (λ b. cond (eqb x b) 1 0) i k ≤ 1
sum_one x i zero = omega arith
sum_one x i (suc k) = go (eqb x i) refl (sum_one x (i + 1) k)
  where
    go : (y : Bool) → eqb x i ≡ y → sum_from (λ b. cond (eqb x b) 1 0) (i + 1) k ≤ 1 → cond y 1 0 + sum_from (λ b. cond (eqb x b) 1 0) (i + 1) k ≤ 1
    go true e rest =
        let q : x ≡ i = eqb-true x i e in
        omega (arith, sum_zero (λ b. cond (eqb x b) 1 0) (i + 1) k (λ b l m. rw (ne_eqb x b (λ g. omega arith))))
    go false e rest = omega arith

sum_if : (y : Bool) (x i k : ℕ) → sum_from (λ b. cond (y && eqb x b) 1 0) i k ≤ cond y 1 0
sum_if true x i k = sum_one x i k
sum_if false x i k = omega (arith, sum_zero (λ b. 0) i k (λ b l m. refl))

-- WHAT KEEPS A BLOCK IN USE

-- a task that holds it, if it was replaced
abbrev pub holder_of : State → Record → ℕ → ℕ
holder_of s r b = once (holds_replaced s r && eqb r.held b)

-- a task that has taken it
abbrev pub taker_of : Record → ℕ → ℕ
taker_of r b = once ((not (is_idle r) && has_taken r) && eqb r.taken b)

module _ (s : State) where
  abbrev names : (cell block : ℕ) → ℕ
  names k b = once (eqb (get_or s.current k 0) b)

  abbrev holding : (task block : ℕ) → ℕ
  holding t = holder_of s (record_at s.records t)

  abbrev taking : (task block : ℕ) → ℕ
  taking t = taker_of (record_at s.records t)

  -- and a cell that names it
  abbrev pub claims : ℕ → ℕ
  claims b = sum_from (λ k. names k b) 0 s.cells + sum_from (λ t. holding t b + taking t b) 0 s.tasks

  module _ (n : ℕ) where
    abbrev held : ℕ → ℕ
    held t = sum_from (holding t) 0 n

    abbrev taken : ℕ → ℕ
    taken t = sum_from (taking t) 0 n

    holds_one : (t : ℕ) → held t ≤ once (holds_replaced s (record_at s.records t))
    holds_one t = let r = record_at s.records t in sum_if (holds_replaced s r) r.held 0 n

    takes_one : (t : ℕ) → let r = record_at s.records t in taken t ≤ once (not (is_idle r) && has_taken r)
    takes_one t = let r = record_at s.records t in sum_if (not (is_idle r) && has_taken r) r.taken 0 n

    holds_none : (w : ℕ) → holds_replaced s (record_at s.records w) ≡ false → held w ≡ 0
    holds_none w e = let z : once (holds_replaced s (record_at s.records w)) ≡ 0 = rw e in omega (arith, holds_one w)

    takes_none : (t : ℕ) → (record_at s.records t).line ≡ 4 → taken t ≡ 0
    takes_none t e = let r = record_at s.records t in let z : once (not (is_idle r) && has_taken r) ≡ 0 = rw e in omega (arith, takes_one t)

    -- Where task w holds no replaced block, and task t, at line 4, has taken none: of n blocks at most V + (N - 1) + (N - 1) are in use.
    pub few_claims : (w t : ℕ) → w < s.tasks → holds_replaced s (record_at s.records w) ≡ false → t < s.tasks → (record_at s.records t).line ≡ 4
        → sum_from claims 0 n + 2 ≤ s.cells + 2 * s.tasks
    few_claims w t l e m g =
        let parts = sum-add (λ b. sum_from (λ k. names k b) 0 s.cells) (λ b. sum_from (λ t. holding t b + taking t b) 0 s.tasks) 0 n in
        let cells = sum-turned names 0 s.cells 0 n in
        let tasks = sum-turned (λ t b. holding t b + taking t b) 0 s.tasks 0 n in
        let each = sum_same (λ t. held t + taken t) (λ t. sum_from (λ b. holding t b + taking t b) 0 n) 0 s.tasks (λ t _ _. sum-add (holding t) (taking t) 0 n) in
        let both = sum-add held taken 0 s.tasks in
        let named = sum-most (λ k. sum_from (names k) 0 n) 1 0 s.cells (λ k. sum_one (get_or s.current k 0) 0 n) in
        let holders = sum_less held w 0 s.tasks (λ t. omega (arith, holds_one t, once-most (holds_replaced s (record_at s.records t)))) (holds_none w e) (omega arith) (omega arith) in
        let takers = sum_less taken t 0 s.tasks (λ t. let r = record_at s.records t in omega (arith, takes_one t, once-most (not (is_idle r) && has_taken r))) (takes_none t g) (omega arith) (omega arith) in
        omega (arith, parts, cells, tasks, each, both, named, holders, takers)
