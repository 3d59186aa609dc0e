-- The counts tell which blocks are used; where some task holds no replaced block, one is unused at line 4; and the search by the counts finds
-- the one that a search of the table would.
use mathlib.Core.Path.{◌≡◌, refl, sym, ◌∙◌}
use mathlib.Core.Logic.{◌⊎◌, inl, inr, ⊎_elim}
use mathlib.Core.Bool.{Bool, true, false, ◌&&◌, ◌||◌, not, cond, false≢true}
use mathlib.Core.Option.{Option, none, some}
use mathlib.Core.List.{List}
use Prim.Native.Nat.{ℕ, zero, suc, ◌+◌, ◌*◌, ◌≤◌, ◌<◌}
use native.Mathlib.Omega.{arith}
use native.Mathlib.Decide.{dec_le}
use lib.Dec.{eqb, leb, ltb}
use lib.ListN.{get_or, length}
use borrow.Author.Tests.{eqb-true, eqb-false, not-true, eq-eqb, ne_eqb, ltb-true, le-leb, lt-ltb}
use Rattle.figure_lines.specs.declared.Record.{Record}
use Rattle.cells_spec.specs.declared.State.{State}
use Rattle.figure_lines.specs.Basics.{sum_from, any_from}
use Rattle.figure_lines.specs.Record.{is_idle, record_at}
use Rattle.cells_spec.specs.Questions.{holds, has_taken, record_uses, names_of, uses, counts_true, fit, fit_tests}
use Rattle.cells_spec.specs.Blocks.{is_current, used_by_task, used, uses_block, Spare, block_after, unused_from, first_unused, unused, read_from}
use Rattle.cells_spec.proofs.Tests.{nth, none_of, blocks_true, blocks-most}
use Rattle.cells_spec.proofs.Sums.{once}
use Rattle.cells_spec.proofs.Uses.{count-is}
use Rattle.cells_spec.proofs.Counting.{gap, holder_of, taker_of, claims, few_claims}

-- A COUNT IS 0 EXACTLY IF THE TABLE SAYS THAT THE BLOCK IS NOT USED

sum_is_zero : (a b : ℕ) → eqb (a + b) 0 ≡ eqb a 0 && eqb b 0
sum_is_zero zero b = let e : zero + b ≡ b = omega arith in rw e
sum_is_zero (suc a) b = rw (ne_eqb (suc a + b) 0 (λ e. omega arith), ne_eqb (suc a) 0 (λ e. omega arith))

not_or : (x y : Bool) → not (x || y) ≡ not x && not y
not_or true y = refl
not_or false y = refl

none_adds : (f : ℕ → ℕ) (g : ℕ → Bool) → ((j : ℕ) → eqb (f j) 0 ≡ not (g j)) → (i k : ℕ) → eqb (sum_from f i k) 0 ≡ not (any_from g i k)
none_adds f g h i zero = refl
none_adds f g h i (suc k) = sum_is_zero (f i) (sum_from f (i + 1) k) ∙ rw (h i, none_adds f g h (i + 1) k, not_or (g i) (any_from g (i + 1) k))

one_is_zero : (x : Bool) → eqb (cond x 1 0) 0 ≡ not x
one_is_zero true = refl
one_is_zero false = refl

record_none : (r : Record) (b : ℕ) → eqb (record_uses r b) 0 ≡ not (uses_block r b)
record_none r b = go (is_idle r) (holds r && eqb r.held b) (has_taken r && eqb r.taken b)
  where
    go : (i x y : Bool) → eqb (cond i 0 (cond x 1 0 + cond y 1 0)) 0 ≡ not (not i && (x || y))
    go true x y = refl
    go false true true = refl
    go false true false = refl
    go false false true = refl
    go false false false = refl

none_names : (s : State) (b : ℕ) → eqb (names_of s.current b s.cells) 0 ≡ not (is_current s b)
unfolding is_current
none_names s b = none_adds (λ k. cond (eqb (get_or s.current k 0) b) 1 0) (λ k. eqb (get_or s.current k 0) b) (λ k. one_is_zero (eqb (get_or s.current k 0) b)) 0 s.cells

none_uses : (s : State) (b : ℕ) → eqb (uses s b) 0 ≡ not (used s b)
unfolding uses used used_by_task
none_uses s b =
    let tasks = none_adds (λ t. record_uses (record_at s.records t) b) (λ t. uses_block (record_at s.records t) b) (λ t. record_none (record_at s.records t) b) 0 s.tasks in
    sum_is_zero (names_of s.current b s.cells) (sum_from (λ t. record_uses (record_at s.records t) b) 0 s.tasks)
    ∙ rw (none_names s b, tasks, not_or (is_current s b) (used_by_task s b))

-- Where the counts are true, a block's count is 0 exactly if document 01's `used` says no.
pub count_of_unused : (s : State) → counts_true s ≡ true → (b : ℕ) → b < s.blocks → eqb (get_or s.counts b 0) 0 ≡ not (used s b)
count_of_unused s e b h = rw (count-is s e b h) (none_uses s b)

-- a cell's block is current
pub named-current : (s : State) (k : ℕ) → k < s.cells → is_current s (get_or s.current k 0) ≡ true
unfolding is_current
named-current s k h = go (is_current s b) refl
  where
    b : ℕ
    b = get_or s.current k 0

    go : (x : Bool) → is_current s b ≡ x → x ≡ true
    go true e = refl
    go false e = sym (none_of (λ j. eqb (get_or s.current j 0) b) 0 s.cells e k (omega arith) (omega arith)) ∙ eq-eqb b b refl

-- GOING ROUND

-- of n blocks, the next is the one after, or 0
abbrev Next : ℕ → ℕ → ℕ → Type 0
Next n b a = ((a ≡ b + 1) × (b + 1 < n)) ⊎ ((a ≡ 0) × (b + 1 ≡ n))

next : (n b : ℕ) → b < n → Next n b (block_after n b)
next n b h = go (eqb (b + 1) n) refl
  where
    go : (x : Bool) → eqb (b + 1) n ≡ x → Next n b (block_after n b)
    go true e = inr (rw e, eqb-true (b + 1) n e)
    go false e = let d = eqb-false (b + 1) n e in inl (rw e, omega arith)

pub after-below : (n b : ℕ) → b < n → block_after n b < n
after-below n b h = ⊎_elim (λ y. omega (arith, y.0, y.1)) (λ y. omega (arith, y.0, y.1)) (next n b h)

-- THE SAME BLOCK AS A SEARCH OF THE TABLE FINDS

flip : (x u : Bool) {A : Type 0} (a b : A) → x ≡ not u → cond x a b ≡ cond u b a
flip x true a b e = rw e
flip x false a b e = rw e

module _ (s : State) (e : counts_true s ≡ true) where
  same_from : (b k : ℕ) → b < s.blocks → unused_from s.counts s.blocks b k ≡ read_from s b k
  same_from b zero h = refl
  same_from b (suc k) h =
      rw (same_from (block_after s.blocks b) k (after-below s.blocks b h))
      (flip (eqb (get_or s.counts b 0) 0) (used s b) (some b) (read_from s (block_after s.blocks b) k) (count_of_unused s e b h))

searched : (s : State) → s.blocks ≤ 128 → s.last < s.blocks → unused s ≡ unused_from s.counts s.blocks (block_after s.blocks s.last) s.blocks
unfolding first_unused
searched s m l = rw (le-leb s.blocks 128 m, lt-ltb s.last s.blocks l)

-- In every fit state the search by the counts finds what a search of the table does: the same blocks are taken.
pub same_block : (s : State) (p : List ℕ) → fit s p ≡ true → unused s ≡ read_from s (block_after s.blocks s.last) s.blocks
unfolding fit
same_block s p e =
    let test = nth (fit_tests s p) e in
    let l = ltb-true s.last s.blocks (test 4) in
    searched s (blocks-most s.tasks s.cells s.blocks (length p) (test 2)) l ∙ same_from s (test 6) (block_after s.blocks s.last) s.blocks (after-below s.blocks s.last l)

-- ONE IS UNUSED, AND FOUND

abbrev pub Found : State → Option ℕ → Type 0
Found s o = (b : ℕ) × (o ≡ some b) × (used s b ≡ false) × (b < s.blocks)

module _ (s : State) (x : ℕ) (l : x < s.blocks) (e : used s x ≡ false) where
  -- x is among the k blocks going round from b
  abbrev Ahead : ℕ → ℕ → Type 0
  Ahead b k = ((b ≤ x) × (x < b + k)) ⊎ ((x < b) × (x + s.blocks < b + k))

  onward : (b a k : ℕ) → Next s.blocks b a → (b ≡ x → ⊥) → Ahead b (suc k) → (a < s.blocks) × Ahead a k
  onward b a k (inl y) d (inl z) = (omega (arith, y.0, y.1), inl (omega (arith, y.0, z.0, d), omega (arith, y.0, z.1)))
  onward b a k (inl y) d (inr z) = (omega (arith, y.0, y.1), inr (omega (arith, y.0, z.0), omega (arith, y.0, z.1)))
  onward b a k (inr y) d (inl z) = absurd (omega (arith, y.1, z.0, d))
  onward b a k (inr y) d (inr z) = (omega (arith, y.0, y.1), inl (omega (arith, y.0), omega (arith, y.0, y.1, z.1)))

  meets : (b k : ℕ) → b < s.blocks → Ahead b k → Found s (read_from s b k)
  meets b zero h d = absurd (⊎_elim (λ y. omega (arith, y.0, y.1)) (λ y. omega (arith, y.0, y.1)) d)
  meets b (suc k) h d = go (used s b) refl (meets (block_after s.blocks b) k)
    where
      go : (y : Bool) → used s b ≡ y → (block_after s.blocks b < s.blocks → Ahead (block_after s.blocks b) k → Found s (read_from s (block_after s.blocks b) k)) → Found s (read_from s b (suc k))
      go false u more = rw u (b, refl, u, h)
      go true u more = let o = onward b (block_after s.blocks b) k (next s.blocks b h) (λ q. false≢true (sym e ∙ rw (← q) u)) d in rw u (more o.0 o.1)

  -- all of them, from any b
  round : (b : ℕ) → b < s.blocks → Found s (read_from s b s.blocks)
  round b h = meets b s.blocks h (go (dec_le b x))
    where
      go : Dec (b ≤ x) → Ahead b s.blocks
      go (yes m) = inl (m, omega arith)
      go (no m) = inr (omega arith, omega arith)

-- by a task, of a block that no cell names
record_claims : (s : State) (r : Record) (b : ℕ) → is_current s b ≡ false
    → eqb (holder_of s r b + taker_of r b) 0 ≡ not (uses_block r b)
record_claims s r b e = go (is_idle r) (has_taken r) (eqb r.held b) (eqb r.taken b) (λ h. rw (eqb-true r.held b h, e))
  where
    busy : (h n x z : Bool) → (x ≡ true → n ≡ true) → eqb (once ((h && n) && x) + once z) 0 ≡ not ((h && x) || z)
    busy false n x true c = refl
    busy false n x false c = refl
    busy true true true true c = refl
    busy true true true false c = refl
    busy true true false true c = refl
    busy true true false false c = refl
    busy true false true z c = absurd (false≢true (c refl))
    busy true false false true c = refl
    busy true false false false c = refl

    go : (i k x y : Bool) → (x ≡ true → not (is_current s r.held) ≡ true)
        → eqb (once (((not i && holds r) && not (is_current s r.held)) && x) + once ((not i && k) && y)) 0 ≡ not (not i && ((holds r && x) || (k && y)))
    go true k x y c = refl
    go false k x y c = busy (holds r) (not (is_current s r.held)) x (k && y) c

-- nothing keeps a block in use exactly if it is not used
none_claims : (s : State) (b : ℕ) → eqb (claims s b) 0 ≡ not (used s b)
unfolding used used_by_task
none_claims s b =
    sum_is_zero (names_of s.current b s.cells) (sum_from (λ t. holder_of s (record_at s.records t) b + taker_of (record_at s.records t) b) 0 s.tasks)
    ∙ rw (none_names s b, not_or (is_current s b) (used_by_task s b)) (go (is_current s b) refl)
  where
    go : (x : Bool) → is_current s b ≡ x → not x && eqb (sum_from (λ t. holder_of s (record_at s.records t) b + taker_of (record_at s.records t) b) 0 s.tasks) 0 ≡ not x && not (used_by_task s b)
    go true e = refl
    go false e = none_adds _ (λ t. uses_block (record_at s.records t) b) (λ t. record_claims s (record_at s.records t) b e) 0 s.tasks

-- at most V + 2N - 2 are kept in use, so one of the V + 2N - 1 or more is not
free : (s : State) (t : ℕ) → Spare s → s.cells + 2 * s.tasks ≤ s.blocks + 1 → t < s.tasks → (record_at s.records t).line ≡ 4 → (b : ℕ) × (b < s.blocks) × (used s b ≡ false)
free s t (w, l, e) enough own g =
    let z = gap (claims s) 0 s.blocks (omega (arith, few_claims s s.blocks w t l e own g)) in
    (z.0, omega (arith, z.1), not-true (used s z.0) (sym (none_claims s z.0) ∙ eq-eqb _ _ z.2))

again : (s : State) (o q : Option ℕ) → o ≡ q → Found s q → Found s o
again s o q e h = rw e h

-- In every fit state in which some task holds no replaced block, a task whose next line is 4 finds an unused block.
pub one_is_unused : (s : State) (p : List ℕ) (t : ℕ) → fit s p ≡ true → Spare s → t < s.tasks → (record_at s.records t).line ≡ 4
    → (b : ℕ) × (unused s ≡ some b) × (used s b ≡ false) × (b < s.blocks)
unfolding fit
one_is_unused s p t e spare own g =
    let test = nth (fit_tests s p) e in
    let x = free s t spare (blocks_true s.tasks s.cells s.blocks (length p) (test 2)).0 own g in
    again s (unused s) (read_from s (block_after s.blocks s.last) s.blocks) (same_block s p e)
    (round s x.0 x.1 x.2 (block_after s.blocks s.last) (after-below s.blocks s.last (ltb-true _ _ (test 4))))

-- what the search finds is one of the pool's blocks, in any state
from_below : (l : List ℕ) (n b k x : ℕ) → b < n → unused_from l n b k ≡ some x → x < n
from_below l n b zero x h e = let z : ◌≡◌ {A = ℕ} 0 1 = cc in omega arith
from_below l n b (suc k) x h e = go (eqb (get_or l b 0) 0) refl (from_below l n (block_after n b) k x (after-below n b h))
  where
    go : (y : Bool) → eqb (get_or l b 0) 0 ≡ y → (unused_from l n (block_after n b) k ≡ some x → x < n) → x < n
    go true u more = let f : some b ≡ some x = rw u at e in let q : b ≡ x = cc in omega arith
    go false u more = more (rw u at e)

pub unused-below : (s : State) (x : ℕ) → unused s ≡ some x → x < s.blocks
unfolding first_unused
unused-below s x e = go (leb s.blocks 128) (ltb s.last s.blocks) refl e
  where
    go : (y z : Bool) → ltb s.last s.blocks ≡ z → cond (y && z) (unused_from s.counts s.blocks (block_after s.blocks s.last) s.blocks) none ≡ some x → x < s.blocks
    go true true f g = from_below s.counts s.blocks (block_after s.blocks s.last) s.blocks x (after-below s.blocks s.last (ltb-true _ _ f)) g
    go true false f g = let z : ◌≡◌ {A = ℕ} 0 1 = cc in omega arith
    go false z f g = let z : ◌≡◌ {A = ℕ} 0 1 = cc in omega arith
