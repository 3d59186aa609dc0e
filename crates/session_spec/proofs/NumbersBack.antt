-- Numbers after spaces, and the first line, are read back as they were written.
use mathlib.Core.Path.{◌≡◌, refl, ap, ◌∙◌}
use mathlib.Core.Bool.{false}
use mathlib.Core.List.{List, [], ◌∷◌, ◌++◌, append_assoc, append-nil}
use mathlib.Core.Option.{some}
use Prim.Native.Nat.{ℕ, suc, ◌+◌, ◌≤◌}
use native.Mathlib.Omega.{arith}
use lib.ListN.{length, length-append}
use Rattle.text.specs.Bytes.{decimal}
use Rattle.text.specs.Lines.{numbers as spaced}
use Rattle.text.specs.Readers.{literal, several}
use Rattle.text.proofs.ReadBack.{starts_digit, number_back}
use Rattle.session_spec.specs.Session.{close, item, several_items, many_within, snoc}
use Rattle.session_spec.specs.Proper.{Small}

-- a space is no digit
pub numbers_apart : (l s : List ℕ) → starts_digit s ≡ false → starts_digit (spaced l ++ s) ≡ false
unfolding spaced
numbers_apart [] s e = e
numbers_apart (n ∷ l) s e = refl

item_back : (n : ℕ) (s : List ℕ) → n ≤ 4294967295 → starts_digit s ≡ false → item (32 ∷ (decimal n ++ s)) ≡ some (n, s)
unfolding literal
item_back n s h e = number_back n s h e

-- as many numbers as are asked for
pub numbers_back : (l s : List ℕ) → Small l → starts_digit s ≡ false → several_items (length l) (spaced l ++ s) ≡ some (l, s)
unfolding several spaced
numbers_back [] s h e = refl
numbers_back (n ∷ l) s h e =
    rw (append_assoc (decimal n) (spaced l) s, item_back n (spaced l ++ s) h.0 (numbers_apart l s e), numbers_back l s h.1 e)

-- numbers, added to those before
module _ (n : ℕ) (a s : List ℕ) (k : ℕ) where
  one_back : n ≤ 4294967295 → starts_digit s ≡ false → many_within snoc item close (suc k) a (32 ∷ (decimal n ++ s)) ≡ many_within snoc item close k (snoc a n) s
  unfolding many_within literal
  one_back h e = rw (number_back n s h e)

pub items_back : (l a s : List ℕ) (k : ℕ) → Small l → starts_digit s ≡ false → many_within snoc item close (length l + k) a (spaced l ++ s) ≡ many_within snoc item close k (a ++ l) s
unfolding spaced
items_back [] a s k h e =
    let z : length {A = ℕ} [] + k ≡ k = omega arith in
    rw (z, append-nil)
items_back (n ∷ l) a s k h e =
    let c : length (n ∷ l) + k ≡ suc (length l + k) = omega arith in
    rw (c, append_assoc (decimal n) (spaced l) s) (one_back n a (spaced l ++ s) (length l + k) h.0 (numbers_apart l s e)
    ∙ items_back l (snoc a n) s k h.1 e
    ∙ ap (λ (x : List ℕ). many_within snoc item close k x s) (append_assoc a (n ∷ []) l))

-- each number takes a byte or more
pub items_room : (l : List ℕ) → length l ≤ length (spaced l)
unfolding spaced
items_room [] = omega arith
items_room (n ∷ l) = omega (arith, items_room l, length-append (decimal n) (spaced l))
