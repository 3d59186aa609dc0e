-- Tests of numbers one by one, as the definitions count them, are tests of lists.
use mathlib.Core.Path.{◌≡◌, refl, ap, ◌∙◌}
use mathlib.Core.Bool.{Bool, ◌&&◌, ◌||◌}
use mathlib.Core.List.{List, [], ◌∷◌}
use Prim.Native.Nat.{ℕ, zero, suc, ◌+◌, ◌≤◌}
use native.Mathlib.Numerals.{unary_clauses}
use native.Mathlib.Omega.{arith}
use lib.ListN.{get_or, length, take}
use Rattle.std.proofs.lemmas.List.{get_or-take, length-take-le}
use Rattle.std.specs.Cmp.Lexicographic.{pointwise}
use Rattle.std.specs.List.{list_any, list_all}
use Rattle.figure_lines.specs.Basics.{all_from, any_from}
use Rattle.cells_spec.specs.Questions.{names_of}
use Rattle.cells_spec.proofs.Sums.{sum_same}

-- counting may begin one lower
module _ (f g : ℕ → Bool) (same : (j : ℕ) → f (j + 1) ≡ g j) where
  later_any : (i k : ℕ) → any_from f (i + 1) k ≡ any_from g i k
  later_any i zero = refl
  later_any i (suc k) = rw (same i) (ap (λ b. g i || b) (later_any (i + 1) k))

  later_all : (i k : ℕ) → all_from f (i + 1) k ≡ all_from g i k
  later_all i zero = refl
  later_all i (suc k) = rw (same i) (ap (λ b. g i && b) (later_all (i + 1) k))

next : (x : ℕ) (l : List ℕ) (j : ℕ) → get_or (x ∷ l) (j + 1) 0 ≡ get_or l j 0
next x l j = simp unary_clauses refl

pub any_listed : (p : ℕ → Bool) (l : List ℕ) → any_from (λ k. p (get_or l k 0)) 0 (length l) ≡ list_any p l
any_listed p [] = refl
any_listed p (x ∷ l) = ap (λ b. p x || b) (later_any _ _ (λ j. ap p (next x l j)) 0 (length l) ∙ any_listed p l)

-- of the first n
pub all_listed : (p : ℕ → Bool) (l : List ℕ) (n : ℕ) → n ≤ length l → all_from (λ k. p (get_or l k 0)) 0 n ≡ list_all p (take n l)
all_listed p l zero h = refl
all_listed p [] (suc n) h = absurd (omega arith)
all_listed p (x ∷ l) (suc n) h = ap (λ b. p x && b) (later_all _ _ (λ j. ap p (next x l j)) 0 n ∙ all_listed p l n (omega arith))

pub all_equal : (e : ℕ → ℕ → Bool) (l m : List ℕ) (n : ℕ) → n ≤ length l → n ≤ length m → all_from (λ k. e (get_or l k 0) (get_or m k 0)) 0 n ≡ pointwise e (take n l) (take n m)
all_equal e l m zero g h = refl
all_equal e [] m (suc n) g h = absurd (omega arith)
all_equal e (x ∷ l) [] (suc n) g h = absurd (omega arith)
all_equal e (x ∷ l) (y ∷ m) (suc n) g h = ap (λ b. e x y && b) (later_all _ _ (λ j. rw (next x l j, next y m j)) 0 n ∙ all_equal e l m n (omega arith) (omega arith))

-- what the first n cells name
pub names_listed : (l : List ℕ) (b n : ℕ) → n ≤ length l → names_of (take n l) b (length (take n l)) ≡ names_of l b n
names_listed l b n h = rw (length-take-le n l h) (sum_same _ _ 0 n (λ j i m. rw (get_or-take n l j 0 (omega arith))))
