-- Inserting into a sorted list of words.
use mathlib.Core.Path.{◌≡◌, refl, sym, ap, ◌∙◌}
use mathlib.Core.Bool.{Bool, true, false, cond}
use mathlib.Core.List.{List, [], ◌∷◌, ◌++◌}
use Prim.Native.Nat.{ℕ, zero, suc, ◌+◌, ◌-◌, ◌/◌, ◌≤◌, ◌<◌}
use native.Mathlib.Omega.{arith}
use lib.Dec.{leb, ltb}
use lib.ListN.{length, take, drop, get_or, set, length-drop, length-set, length-append}
use lib.Seq.{length-take-le, drop-append-le, take-append-add, set_split, take-set-le, take-take, take_at, drop_at}
use borrow.Author.Tests.{le-leb, lt-leb, le-ltb, lt-ltb, leb-true, leb-false, ltb-true, ltb-false}
use borrow.Rule.Slice.PartMut.{mid_of, put_mid}
use Rattle.std.proofs.lemmas.Slice.{take-put_mid}
use Rattle.std.specs.List.{AllWithin, HoldsAt}
use Rattle.std.specs.List.Sorted.{IsNonDecreasingBy, IsPartitionPoint}
use Rattle.std.specs.Prelude.{Option, Some, None, MatchOption}
use Rattle.moments_tool.specs.Words.{insert_word, entered, From, SortedWords}

-- SORTED LISTS STAY SORTED

from_less : {m n : ℕ} → m ≤ n → (l : List ℕ) → From n l → From m l
from_less h [] f = tt
from_less h (y ∷ l) f = (omega (arith, h, f.0), from_less h l f.1)

from_insert : (n w : ℕ) (l : List ℕ) → n ≤ w / 256 → From n l → From n (insert_word w l)
from_insert n w [] h f = (h, tt)
from_insert n w (y ∷ l) h f = go (leb (w / 256) (y / 256)) (from_insert n w l h f.1)
  where
    go : (b : Bool) → From n (insert_word w l) → From n (cond b (w ∷ y ∷ l) (y ∷ insert_word w l))
    go true r = (h, f)
    go false r = (f.0, r)

pub insert-sorted : (w : ℕ) (l : List ℕ) → SortedWords l → SortedWords (insert_word w l)
insert-sorted w [] s = (tt, tt)
insert-sorted w (y ∷ l) s = go (leb (w / 256) (y / 256)) refl (insert-sorted w l s.1)
  where
    go : (b : Bool) → leb (w / 256) (y / 256) ≡ b → SortedWords (insert_word w l) → SortedWords (cond b (w ∷ y ∷ l) (y ∷ insert_word w l))
    go true e r = let h = leb-true (w / 256) (y / 256) e in ((h, from_less h l s.0), s)
    go false e r = let h = leb-false (w / 256) (y / 256) e in (from_insert (y / 256) w l (omega (arith, h)) s.0, r)

-- A MARK MORE

insert-length : (w : ℕ) (l : List ℕ) → length (insert_word w l) ≡ suc (length l)
insert-length w [] = refl
insert-length w (y ∷ l) = go (leb (w / 256) (y / 256)) (insert-length w l)
  where
    go : (b : Bool) → length (insert_word w l) ≡ suc (length l) → length (cond b (w ∷ y ∷ l) (y ∷ insert_word w l)) ≡ suc (suc (length l))
    go true e = refl
    go false e = ap suc e

pub entered-length : (w : Option ℕ) (l : List ℕ) → length (entered w l) ≤ length l + 1
entered-length None l = omega arith
entered-length (Some w) l = omega (arith, insert-length w l)

-- AT ITS PLACE

from_at : (n : ℕ) (l : List ℕ) (j d : ℕ) → j < length l → From n l → n ≤ get_or l j d / 256
from_at n [] j d h f = absurd (omega arith)
from_at n (y ∷ l) zero d h f = f.0
from_at n (y ∷ l) (suc j) d h f = from_at n l j d (omega arith) f.1

pub sorted_rises : (l : List ℕ) → SortedWords l → IsNonDecreasingBy (λ y. y / 256) l
sorted_rises [] s i j d h k = absurd (omega arith)
sorted_rises (y ∷ l) s zero zero d h k = omega arith
sorted_rises (y ∷ l) s zero (suc j) d h k = from_at (y / 256) l j d (omega arith) s.0
sorted_rises (y ∷ l) s (suc i) zero d h k = absurd (omega arith)
sorted_rises (y ∷ l) s (suc i) (suc j) d h k = sorted_rises l s.1 i j d (omega arith) (omega arith)

-- the last that comes before w, or none; so do those before it
pub found_last : (w : ℕ) (l : List ℕ) (r : Option ℕ) (p : ℕ) → SortedWords l → MatchOption r (p ≡ 0) (λ i. p ≡ i + 1)
    → MatchOption r (AllWithin (λ y. w / 256 ≤ y / 256) l 0 (length l)) (λ i. (i < length l) × HoldsAt (λ y. y / 256 < w / 256) l i × AllWithin (λ y. w / 256 ≤ y / 256) l (i + 1) (length l))
    → IsPartitionPoint (λ y. ltb (y / 256) (w / 256) ≡ true) (λ y. ltb (y / 256) (w / 256) ≡ false) l p
found_last w l None p s e h = (λ k d a b. absurd (omega (arith, b, e)), λ k d a b. le-ltb _ _ (h k d (omega arith) b))
found_last w l (Some i) p s e h = (λ k d a b. lt-ltb _ _ (omega (arith, sorted_rises l s k i d (omega (arith, b, e)) h.0, h.1 d)), λ k d a b. le-ltb _ _ (h.2 k d (omega (arith, a, e)) b))

-- behind those that come before it
pub insert_at : (w : ℕ) (l : List ℕ) (p : ℕ) → p ≤ length l → IsPartitionPoint (λ y. ltb (y / 256) (w / 256) ≡ true) (λ y. ltb (y / 256) (w / 256) ≡ false) l p
    → take p l ++ w ∷ drop p l ≡ insert_word w l
insert_at w [] zero h f = refl
insert_at w [] (suc p) h f = absurd (omega arith)
insert_at w (y ∷ l) zero h f = rw (le-leb (w / 256) (y / 256) (ltb-false (y / 256) (w / 256) (f.1 0 0 (omega arith) (omega arith)))) refl
insert_at w (y ∷ l) (suc p) h f = rw (lt-leb (w / 256) (y / 256) (ltb-true (y / 256) (w / 256) (f.0 0 0 (omega arith) (omega arith))))
    (ap (λ (r : List ℕ). y ∷ r) (insert_at w l p (omega arith) (λ k d a b. f.0 (suc k) d (omega arith) (omega (arith, b)), λ k d a b. f.1 (suc k) d (omega (arith, a)) (omega (arith, b)))))

-- put behind the n words, and turned into its place
module _ (xs : List ℕ) (n p w : ℕ) (inside : n < length xs) (below : p ≤ n) where
  turned_part : mid_of p (n + 1 - p) (set xs n w) ≡ drop p (take n xs) ++ w ∷ []
  turned_part =
      let e = length-take-le n xs (omega arith) in
      let d : n + 1 - p ≡ length (drop p (take n xs)) + 1 = omega (arith, length-drop p (take n xs), e) in
      ap (λ (l : List ℕ). take (n + 1 - p) (drop p l)) (set_split xs n w inside) ∙ ap (take (n + 1 - p)) (drop-append-le p (take n xs) (w ∷ drop (suc n) xs) (omega (arith, e)))
      ∙ ap (λ (k : ℕ). take k (drop p (take n xs) ++ w ∷ drop (suc n) xs)) d ∙ take-append-add (drop p (take n xs)) (w ∷ drop (suc n) xs) 1

  abbrev part : List ℕ
  part = mid_of p (n + 1 - p) (set xs n w)

  pub turned_in : (ys : List ℕ) → ys ≡ drop (length part - 1) part ++ take (length part - 1) part → take (n + 1) (put_mid p (n + 1 - p) (set xs n w) ys) ≡ take p (take n xs) ++ w ∷ drop p (take n xs)
  turned_in ys h =
      let l = drop p (take n xs) in
      let k : length l ≡ length part - 1 = omega (arith, ap length turned_part, length-append l (w ∷ [])) in
      let z : ys ≡ w ∷ l = h ∙ (λ i. drop (length part - 1) (turned_part i) ++ take (length part - 1) (turned_part i)) ∙ λ i. drop_at l (w ∷ []) (length part - 1) k i ++ take_at l (w ∷ []) (length part - 1) k i in
      let m : n + 1 ≡ p + length ys = omega (arith, ap length z, length-drop p (take n xs), length-take-le n xs (omega arith)) in
      take-put_mid p (n + 1 - p) (set xs n w) ys (n + 1) m (omega (arith, length-set xs n w))
      ∙ λ i. (take-set-le p xs n w below ∙ sym (take-take p n xs below)) i ++ z i
