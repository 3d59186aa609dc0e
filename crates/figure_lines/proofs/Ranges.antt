-- Which line a number is: none outside the five ranges; in the deciding part, none unless a line wants the decision.
use mathlib.Core.Path.{◌≡◌, refl, sym, ap}
use mathlib.Core.Bool.{Bool, true, false, ◌||◌, cond, and-false, false≢true}
use Prim.Native.Nat.{ℕ, zero, suc, ◌+◌, ◌≤◌, ◌<◌}
use native.Mathlib.Omega.{arith}
use native.Mathlib.Decide.{dec_le}
use lib.Dec.{eqb, leb}
use borrow.Author.Tests.{le-leb, lt-leb}
use Rattle.figure_lines.specs.declared.Record.{Record}
use Rattle.figure_lines.specs.Basics.{within}
use Rattle.figure_lines.specs.Lines.{Line, Wanted, for13, for25, for28, l1, l2, l3, nowhere, deciding, line_at, line_of}

out : (n a b : ℕ) → (a ≤ n → n ≤ b → ⊥) → within n a b ≡ false
out n a b h = go (dec_le a n)
  where
    go : Dec (a ≤ n) → within n a b ≡ false
    go (yes l) = let g : b < n = omega (arith, h l) in rw (lt-leb n b g) (and-false (leb a n))
    go (no l) = let g : n < a = omega (arith, l) in rw (lt-leb a n g)

-- n is in none of the five ranges
abbrev pub Outside : ℕ → Type 0
Outside n = (1 ≤ n → n ≤ 3 → ⊥) × (4 ≤ n → n ≤ 8 → ⊥) × (10 ≤ n → n ≤ 12 → ⊥) × (15 ≤ n → n ≤ 24 → ⊥) × (26 ≤ n → n ≤ 30 → ⊥)

pub no_line_lem : (n w : ℕ) → Outside n → line_at n w ≡ nowhere
no_line_lem n w h = rw (out n 1 3 h.0, out n 4 8 h.1, out n 10 12 h.2, out n 15 24 h.3, out n 26 30 h.4)

-- rewrites the line and leaves the record
pub line-at : (r : Record) (n : ℕ) → r.line ≡ n → line_of r ≡ line_at n r.wanted
line-at r n e = ap (λ (n : ℕ). line_at n r.wanted) e

-- what a match knows after k arms for a, a + 1 and so on
abbrev Passed : (n a k : ℕ) → Type 0
Passed n a zero = Prim.Unit
Passed n a (suc k) = Passed n a k × (n ≡ a + k → ⊥)

past : (n a k : ℕ) → a ≤ n → Passed n a k → a + k ≤ n
past n a zero l h = omega arith
past n a (suc k) l h = omega (arith, past n a k l h.0, h.1)

pub at_24 : (n : ℕ) → (15 ≤ n) × (n ≤ 24) → Passed n 15 9 → n ≡ 24
at_24 n l h = omega (arith, past n 15 9 l.0 h, l.1)

-- after line 27 and before 30
pub no_end : (n w : ℕ) → (26 ≤ n) × (n ≤ 30) → (n ≡ 26 → ⊥) → (n ≡ 27 → ⊥) → (n ≡ 30 → ⊥) → line_at n w ≡ nowhere
no_end n w l a b c = go (dec_le n 28)
  where
    go : Dec (n ≤ 28) → line_at n w ≡ nowhere
    go (yes e) = let f : n ≡ 28 = omega (arith, l, a, b, e) in rw f
    go (no e) = let f : n ≡ 29 = omega (arith, l, c, e) in rw f

abbrev wants : ℕ → Bool
wants w = eqb w 13 || (eqb w 25 || eqb w 28)

module _ (w : ℕ) where
  abbrev Unwanted : Type 0
  Unwanted = (l : Wanted → Line) → deciding l w ≡ nowhere

  abbrev For : Type 0
  For = (x : Wanted) × ((l : Wanted → Line) → deciding l w ≡ l x)

  -- by the three tests
  decided : (x y z : Bool) → eqb w 13 ≡ x → eqb w 25 ≡ y → eqb w 28 ≡ z → ((x || (y || z)) ≡ false → Unwanted) × ((x || (y || z)) ≡ true → For)
  decided true y z ex ey ez = (λ e. absurd (false≢true (sym e)), λ e. (for13, λ l. rw ex))
  decided false true z ex ey ez = (λ e. absurd (false≢true (sym e)), λ e. (for25, λ l. rw (ex, ey)))
  decided false false true ex ey ez = (λ e. absurd (false≢true (sym e)), λ e. (for28, λ l. rw (ex, ey, ez)))
  decided false false false ex ey ez = (λ e l. rw (ex, ey, ez), λ e. absurd (false≢true e))

  unwanted : wants w ≡ false → Unwanted
  unwanted = (decided (eqb w 13) (eqb w 25) (eqb w 28) refl refl refl).0

  pub undecided : (n : ℕ) → (1 ≤ n) × (n ≤ 3) → wants w ≡ false → line_at n w ≡ nowhere
  undecided n h e = rw (le-leb 1 n h.0, le-leb n 3 h.1, unwanted e l1, unwanted e l2, unwanted e l3) (go (eqb n 1) (eqb n 2))
    where
      go : (x y : Bool) → cond x nowhere (cond y nowhere nowhere) ≡ nowhere
      go true y = refl
      go false true = refl
      go false false = refl

  pub wanted : wants w ≡ true → For
  wanted = (decided (eqb w 13) (eqb w 25) (eqb w 28) refl refl refl).1
