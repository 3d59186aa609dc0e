-- The search as the code goes: where it starts, what is left from a block on decides the whole, w, and whether a block is found.
use mathlib.Core.Path.{◌≡◌, refl, sym, ap, ◌∙◌}
use mathlib.Core.Logic.{◌⊎◌, inl, inr}
use mathlib.Core.Bool.{and-false}
use mathlib.Core.Option.{Option, none, some}
use mathlib.Core.List.{List}
use Prim.Native.Nat.{ℕ, suc, ◌≤◌, ◌<◌}
use lib.Dec.{leb}
use lib.ListN.{get_or}
use borrow.Author.Tests.{le-leb, lt-leb, lt-ltb, le-ltb, eq-eqb, ne_eqb}
use Rattle.std.specs.Prelude.{None, Some, is_some}
use Rattle.std.specs.Prelude as Code
use Rattle.figure_lines.specs.Basics.{option_of}
use Rattle.cells_spec.specs.Blocks.{block_after, unused_from, first_unused, is_found}

module _ (l : List ℕ) (n last : ℕ) where
  pub finds : n ≤ 128 → last < n → unused_from l n (block_after n last) n ≡ first_unused l n last
  unfolding first_unused
  finds a b = rw (le-leb n 128 a, lt-ltb last n b)

  -- more blocks than counts, or no block to start from
  pub finds_none : (128 < n) ⊎ (n ≤ last) → none ≡ first_unused l n last
  unfolding first_unused
  finds_none (inl h) = rw (lt-leb n 128 h)
  finds_none (inr h) = rw (le-ltb last n h, and-false (leb n 128))

module _ (l : List ℕ) (n b k : ℕ) {w : Option ℕ} (left : unused_from l n b k ≡ w) where
  pub here : (j : ℕ) → k ≡ suc j → get_or l b 0 ≡ 0 → some b ≡ w
  here j e h = sym (ap (unused_from l n b) e ∙ rw (eq-eqb (get_or l b 0) 0 h)) ∙ left

  pub onward : (j : ℕ) → k ≡ suc j → (get_or l b 0 ≡ 0 → ⊥) → unused_from l n (block_after n b) j ≡ w
  onward j e h = sym (ap (unused_from l n b) e ∙ rw (ne_eqb (get_or l b 0) 0 h)) ∙ left

  pub nowhere : k ≡ 0 → none ≡ w
  nowhere e = sym (ap (unused_from l n b) e) ∙ left

pub found_some : (o : Code.Option ℕ) → is_found (option_of o) ≡ is_some o
found_some None = refl
found_some (Some b) = refl
