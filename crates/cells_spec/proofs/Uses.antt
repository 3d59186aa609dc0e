-- The law of uses: what a table that changes in one task's record and one cell's block loses and gains.
use mathlib.Core.Path.{◌≡◌}
use mathlib.Core.Bool.{true, cond}
use mathlib.Core.List.{List}
use Prim.Native.Nat.{ℕ, ◌+◌, ◌*◌, ◌≤◌, ◌<◌}
use native.Mathlib.Omega.{arith}
use lib.Dec.{eqb}
use lib.ListN.{get_or, set, length}
use lib.Seq.{get_or-set_same, get_or-set_other}
use borrow.Author.Tests.{eqb-true}
use Rattle.figure_lines.specs.declared.Record.{Record}
use Rattle.cells_spec.specs.declared.State.{State}
use Rattle.figure_lines.specs.Basics.{sum_from}
use Rattle.figure_lines.specs.Record.{idle, record_at}
use Rattle.cells_spec.specs.Questions.{record_uses, names_of, uses, counts_true}
use Rattle.cells_spec.proofs.Tests.{all-at}
use Rattle.cells_spec.proofs.Sums.{once-most, sum_changed, sum-at, sum-most}
use Rattle.cells_spec.proofs.Tables.{record_most}

-- a changed element, counted
listed : {A : Type 0} (f : A → ℕ) (l : List A) (d x : A) (t n : ℕ) → t < n → n ≤ length l → sum_from (λ j. f (get_or (set l t x) j d)) 0 n + f (get_or l t d) ≡ sum_from (λ j. f (get_or l j d)) 0 n + f x
listed f l d x t n h m =
    let here : get_or (set l t x) t d ≡ x = get_or-set_same l t x d (omega arith) in
    rw here at (sum_changed (λ j. f (get_or l j d)) (λ j. f (get_or (set l t x) j d)) t 0 n (omega arith) (omega arith) (λ j e. rw (get_or-set_other l t j x d e)))

module _ (s : State) (t k : ℕ) (own : t < s.tasks) (rows : s.tasks ≤ length s.records) (cell : k < s.cells) (places : s.cells ≤ length s.current) where
  -- what a record and a cell name is among the uses
  pub named-used : (b : ℕ) → record_uses (record_at s.records t) b + cond (eqb (get_or s.current k 0) b) 1 0 ≤ uses s b
  unfolding uses
  named-used b =
      omega (
        arith,
        sum-at (λ k. cond (eqb (get_or s.current k 0) b) 1 0) k 0 s.cells (omega arith) (omega arith),
        sum-at (λ t. record_uses (record_at s.records t) b) t 0 s.tasks (omega arith) (omega arith),
      )

  -- THE LAW: where task t's record becomes q and cell k's block becomes d, each block loses what the old ones named and gains what the new ones name.
  pub uses_changed : (q : Record) (d last : ℕ) (counts : List ℕ) (b : ℕ)
      → uses (record { tasks = s.tasks; cells = s.cells; blocks = s.blocks; last = last; current = set s.current k d; records = set s.records t q; counts = counts }) b
      + (record_uses (record_at s.records t) b + cond (eqb (get_or s.current k 0) b) 1 0)
      ≡ uses s b + (record_uses q b + cond (eqb d b) 1 0)
  unfolding uses
  uses_changed q d last counts b =
      omega (
        arith,
        listed (λ c. cond (eqb c b) 1 0) s.current 0 d k s.cells cell places,
        listed (λ r. record_uses r b) s.records idle q t s.tasks own rows,
      )

-- what counts_true says of one block
pub count-is : (s : State) → counts_true s ≡ true → (b : ℕ) → b < s.blocks → get_or s.counts b 0 ≡ uses s b
unfolding counts_true
count-is s e b h = eqb-true _ _ (all-at (λ b. eqb (get_or s.counts b 0) (uses s b)) 0 s.blocks e b (omega arith) (omega arith))

-- by the cells and the first t tasks
abbrev pub uses_so_far : State → (block t : ℕ) → ℕ
uses_so_far s b t = names_of s.current b s.cells + sum_from (λ t. record_uses (record_at s.records t) b) 0 t

-- a block is used at most once by each cell and twice by each task
pub few_so_far : (s : State) (b t : ℕ) → uses_so_far s b t ≤ s.cells + 2 * t
few_so_far s b t =
    omega (
      arith,
      sum-most (λ k. cond (eqb (get_or s.current k 0) b) 1 0) 1 0 s.cells (λ k. once-most (eqb (get_or s.current k 0) b)),
      sum-most (λ t. record_uses (record_at s.records t) b) 2 0 t (λ t. record_most (record_at s.records t) b),
    )

pub few-uses : (s : State) (b : ℕ) → uses s b ≤ s.cells + 2 * s.tasks
unfolding uses
few-uses s b = few_so_far s b s.tasks
