-- Laws of tests and of lists of tests: what one that passed, or failed, says of its parts.
use mathlib.Core.Path.{◌≡◌, refl, sym}
use mathlib.Core.Logic.{⊎_elim}
use mathlib.Core.Bool.{Bool, true, false, ◌&&◌, ◌||◌, not, cond, and-eq-true_iff, false≢true}
use mathlib.Core.Option.{none}
use mathlib.Core.List.{List, [], ◌∷◌}
use Prim.Native.Nat.{ℕ, zero, suc, ◌+◌, ◌*◌, ◌≤◌, ◌<◌}
use native.Mathlib.Omega.{arith}
use native.Mathlib.Nat.{eq-or-lt_of_le}
use lib.Dec.{eqb, leb}
use lib.ListN.{get_or}
use borrow.Author.Tests.{eqb-true, leb-true}
use Rattle.figure_lines.specs.Basics.{within, ands, all_from, any_from}
use Rattle.cells_spec.specs.Questions.{Question, refusal, blocks_ok, answers}

pub both : {a b : Bool} → a ≡ true → b ≡ true → (a && b) ≡ true
both e g = rw e g

pub or_left : (a b : Bool) → (a || b) ≡ false → a ≡ false
or_left true b e = e
or_left false b e = refl

pub or_right : (a b : Bool) → (a || b) ≡ false → b ≡ false
or_right true b e = absurd (false≢true (sym e))
or_right false b e = e

-- an implication as a test
pub implied : (a b : Bool) → (a ≡ true → b ≡ true) → (not a || b) ≡ true
implied true b h = h refl
implied false b h = refl

pub implied_not : (a b : Bool) → (not a || b) ≡ not (a && not b)
implied_not true true = refl
implied_not true false = refl
implied_not false b = refl

pub within_true : (n a b : ℕ) → within n a b ≡ true → (a ≤ n) × (n ≤ b)
within_true n a b e = let q = (and-eq-true_iff (leb a n) (leb n b)).0 e in (leb-true a n q.0, leb-true n b q.1)

pub blocks_true : (n v b len : ℕ) → blocks_ok n v b len ≡ true → (v + 2 * n ≤ b + 1) × (len ≡ 5 * b)
blocks_true n v b len e =
    let q = (and-eq-true_iff _ (eqb len (5 * b))).0 e in
    let few = leb-true _ b ((and-eq-true_iff _ (leb b 128)).0 q.0).0 in
    (omega (arith, few), eqb-true _ _ q.1)

pub blocks-most : (n v b len : ℕ) → blocks_ok n v b len ≡ true → b ≤ 128
blocks-most n v b len e =
    let q = (and-eq-true_iff (leb _ b && leb b 128) (eqb len (5 * b))).0 e in
    leb-true b 128 ((and-eq-true_iff (leb _ b) (leb b 128)).0 q.0).1

-- the k-th test of a list of which all pass
pub nth : (l : List Bool) → ands l ≡ true → (k : ℕ) → get_or l k true ≡ true
nth [] e k = refl
nth (x ∷ l) e zero = ((and-eq-true_iff x (ands l)).0 e).0
nth (x ∷ l) e (suc k) = nth l ((and-eq-true_iff x (ands l)).0 e).1 k

-- where none is refused, every question is answered yes
pub all_yes : (l : List Question) → refusal l ≡ none → ands (answers l) ≡ true
all_yes [] e = refl
all_yes ((n, true) ∷ l) e = all_yes l e
all_yes ((n, false) ∷ l) e = cc

pub yes-at : (l : List Question) → refusal l ≡ none → (k : ℕ) → get_or (answers l) k true ≡ true
yes-at l e = nth (answers l) (all_yes l e)

-- the answer to a question by its number, wherever it stands
abbrev pub answer_to : ℕ → List Question → Bool
answer_to n [] = true
answer_to n (q ∷ l) = cond (eqb q.0 n) q.1 (answer_to n l)

pub yes_to : (l : List Question) → refusal l ≡ none → (n : ℕ) → answer_to n l ≡ true
yes_to [] e n = refl
yes_to ((m, true) ∷ l) e n = go (eqb m n) (yes_to l e n)
  where
    go : (b : Bool) → answer_to n l ≡ true → cond b true (answer_to n l) ≡ true
    go true h = refl
    go false h = h
yes_to ((m, false) ∷ l) e n = cc

pub all_from_lem : (f : ℕ → Bool) (i k : ℕ) → ((j : ℕ) → i ≤ j → j < i + k → f j ≡ true) → all_from f i k ≡ true
all_from_lem f i zero h = refl
all_from_lem f i (suc k) h = rw (h i (omega arith) (omega arith)) (all_from_lem f (i + 1) k (λ j l g. h j (omega arith) (omega arith)))

pub all-at : (f : ℕ → Bool) (i k : ℕ) → all_from f i k ≡ true → (j : ℕ) → i ≤ j → j < i + k → f j ≡ true
all-at f i zero e j l h = absurd (omega (arith, l, h))
all-at f i (suc k) e j l h =
    let both = (and-eq-true_iff (f i) (all_from f (i + 1) k)).0 e in
    ⊎_elim (λ q. rw (← q) both.0) (λ lt. all-at f (i + 1) k both.1 j (omega arith) (omega arith)) (eq-or-lt_of_le l)

-- two tests that agree
pub all_alike : (f g : ℕ → Bool) (i k : ℕ) → ((j : ℕ) → i ≤ j → j < i + k → f j ≡ g j) → all_from f i k ≡ all_from g i k
all_alike f g i zero h = refl
all_alike f g i (suc k) h = rw (h i (omega arith) (omega arith), all_alike f g (i + 1) k (λ j l m. h j (omega arith) (omega arith)))

pub none_of : (f : ℕ → Bool) (i k : ℕ) → any_from f i k ≡ false → (j : ℕ) → i ≤ j → j < i + k → f j ≡ false
none_of f i zero e j l h = absurd (omega (arith, l, h))
none_of f i (suc k) e j l h =
    ⊎_elim
    (λ q. rw (← q) (or_left (f i) (any_from f (i + 1) k) e))
    (λ lt. none_of f (i + 1) k (or_right (f i) (any_from f (i + 1) k) e) j (omega arith) (omega arith))
    (eq-or-lt_of_le l)
