-- The number of a line: a record that is at some line has that line's number.
use mathlib.Core.Path.{◌≡◌, refl}
use mathlib.Core.Bool.{Bool, true, false, ◌||◌, not, and-false, or-true, or-false}
use Prim.Native.Nat.{ℕ, ◌≤◌}
use native.Mathlib.Omega.{arith}
use native.Mathlib.Decide.{dec_le}
use lib.Dec.{eqb, leb, lit≤}
use borrow.Author.Tests.{eqb-true, lt-leb}
use Rattle.figure_lines.specs.declared.Record.{Record}
use Rattle.figure_lines.specs.Basics.{all_from}
use Rattle.figure_lines.specs.Lines.{Line, l1, l2, l3, l4, l5, l6, l7, l8, l10, l11, l12, l15, l16, l17, l18, l19, l20, l21, l22, l23, l24, l26, l27, l30, nowhere, line_at, line_of}
use Rattle.cells_spec.specs.Questions.{of_kind, line_fit, reads, swaps}
use Rattle.cells_spec.proofs.Tests.{all-at}

-- 0 where there is none
abbrev pub number : Line → ℕ
number (l1 w) = 1
number (l2 w) = 2
number (l3 w) = 3
number l4 = 4
number l5 = 5
number l6 = 6
number l7 = 7
number l8 = 8
number l10 = 10
number l11 = 11
number l12 = 12
number l15 = 15
number l16 = 16
number l17 = 17
number l18 = 18
number l19 = 19
number l20 = 20
number l21 = 21
number l22 = 22
number l23 = 23
number l24 = 24
number l26 = 26
number l27 = 27
number l30 = 30
number nowhere = 0

-- the line of n has the number n, or is none of its kind's
abbrev numbered : (line wanted : ℕ) → (read swap : Bool) → Bool
numbered n w a b = eqb n (number (line_at n w)) || not (of_kind (line_at n w) a b)

module _ (w : ℕ) (a b : Bool) where
  -- every number up to 30, by computing
  table : all_from (λ n. numbered n w a b) 0 31 ≡ true
  table = go (eqb w 13) (eqb w 25) (eqb w 28) refl refl refl
    where
      go : (x y z : Bool) → eqb w 13 ≡ x → eqb w 25 ≡ y → eqb w 28 ≡ z → all_from (λ n. numbered n w a b) 0 31 ≡ true
      go true y z ex ey ez = rw ex
      go false true z ex ey ez = rw (ex, ey)
      go false false true ex ey ez = rw (ex, ey, ez)
      go false false false ex ey ez = rw (ex, ey, ez)

  each : (n : ℕ) → numbered n w a b ≡ true
  each n = go (dec_le n 30)
    where
      go : Dec (n ≤ 30) → numbered n w a b ≡ true
      go (yes h) = all-at (λ n. numbered n w a b) 0 31 table n (omega arith) (omega arith)
      go (no h) =
          let past : (b : ℕ) → b ≤ 30 → leb n b ≡ false = λ b l. lt-leb n b (omega arith) in
          rw (past 3 (lit≤ tt), and-false (leb 1 n), past 8 (lit≤ tt), and-false (leb 4 n), past 12 (lit≤ tt), and-false (leb 10 n), past 24 (lit≤ tt), and-false (leb 15 n), past 30 (lit≤ tt), and-false (leb 26 n), or-true)

pub at-number : (r : Record) → line_fit r ≡ true → r.line ≡ number (line_of r)
at-number r e = eqb-true _ _ (rw (e, or-false) at (each r.wanted (reads r) (swaps r) r.line))
