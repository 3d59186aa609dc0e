-- Marks in their order: what sorting keeps, and what comes before what.
use mathlib.Core.Path.{◌≡◌, refl, sym, ap, ◌∙◌}
use mathlib.Core.Logic.{◌⊎◌, inl, inr}
use mathlib.Core.Bool.{Bool, true, false, cond}
use mathlib.Core.List.{List, [], ◌∷◌, map}
use Prim.Native.Nat.{ℕ, ◌+◌, ◌≤◌, ◌<◌}
use native.Mathlib.Omega.{arith}
use lib.Dec.{eqb, leb, T, leb→le, nleb→lt}
use borrow.Author.Tests.{eqb-true, eqb-false}
use Rattle.history_spec.specs.Basics.{◌∈◌, Once}
use Rattle.history_spec.specs.Moments.{Side, before, itself, after, Mark, changing, side_number, key, not_after, insert, sort}
use Rattle.history_linearization.proofs.Simulation.{Sided}

-- THE ORDER OF THE KEYS

-- not_after as a relation: the first number that differs is lower
abbrev pub Lex : List ℕ → List ℕ → Type 0
Lex [] m = Unit {0}
Lex (a ∷ l) [] = ⊥
Lex (a ∷ l) (b ∷ m) = (a < b) ⊎ ((a ≡ b) × Lex l m)

lex : (a b : List ℕ) → not_after a b ≡ true → Lex a b
lex [] b h = tt
lex (x ∷ a) [] h = absurd (let z : ◌≡◌ {A = ℕ} 0 1 = cc in omega arith)
lex (x ∷ a) (y ∷ b) h = go (eqb x y) (leb x y) refl refl (lex a b) h
  where
    go : (s t : Bool) → eqb x y ≡ s → leb x y ≡ t → (not_after a b ≡ true → Lex a b) → cond s (not_after a b) t ≡ true → (x < y) ⊎ ((x ≡ y) × Lex a b)
    go true t e f r h = inr (eqb-true x y e, r h)
    go false true e f r h = let l = leb→le x y (rw f tt) in let n = eqb-false x y e in inl (omega arith)
    go false false e f r h = absurd (let z : ◌≡◌ {A = ℕ} 0 1 = cc in omega arith)

lex_else : (a b : List ℕ) → not_after a b ≡ false → Lex b a
lex_else [] b h = absurd (let z : ◌≡◌ {A = ℕ} 0 1 = cc in omega arith)
lex_else (x ∷ a) [] h = tt
lex_else (x ∷ a) (y ∷ b) h = go (eqb x y) (leb x y) refl refl (lex_else a b) h
  where
    go : (s t : Bool) → eqb x y ≡ s → leb x y ≡ t → (not_after a b ≡ false → Lex b a) → cond s (not_after a b) t ≡ false → (y < x) ⊎ ((y ≡ x) × Lex b a)
    go true t e f r h = inr (sym (eqb-true x y e), r h)
    go false true e f r h = absurd (let z : ◌≡◌ {A = ℕ} 0 1 = cc in omega arith)
    go false false e f r h = inl (nleb→lt x y (rw f tt))

lex_trans : (a b c : List ℕ) → Lex a b → Lex b c → Lex a c
lex_trans [] b c h i = tt
lex_trans (x ∷ a) (y ∷ b) (z ∷ c) (inl p) (inl q) = inl (omega arith)
lex_trans (x ∷ a) (y ∷ b) (z ∷ c) (inl p) (inr (q, i)) = inl (omega arith)
lex_trans (x ∷ a) (y ∷ b) (z ∷ c) (inr (p, h)) (inl q) = inl (omega arith)
lex_trans (x ∷ a) (y ∷ b) (z ∷ c) (inr (p, h)) (inr (q, i)) = inr (p ∙ q, lex_trans a b c h i)
lex_trans (x ∷ a) [] c h i = elim h [ ]
lex_trans (x ∷ a) (y ∷ b) [] h i = elim i [ ]

-- SORTING

-- r is l with x somewhere in it
data With (x : Mark) : List Mark → List Mark → Type 0 where
  here : {l : List Mark} → With x l (x ∷ l)
  there : {y : Mark} {l r : List Mark} → With x l r → With x (y ∷ l) (y ∷ r)

inserted : (x : Mark) (l : List Mark) → With x l (insert x l)
inserted x [] = here
inserted x (y ∷ l) = go (not_after (key x) (key y)) (inserted x l)
  where
    go : (b : Bool) → With x l (insert x l) → With x (y ∷ l) (cond b (x ∷ y ∷ l) (y ∷ insert x l))
    go true w = here
    go false w = there w

with_in : {x : Mark} {l r : List Mark} → With x l r → (m : Mark) → m ∈ r → (m ≡ x) ⊎ (m ∈ l)
with_in here m i = i
with_in (there w) m (inl e) = inr (inl e)
with_in {x} (there {y} {l} w) m (inr i) = go (with_in w m i)
  where
    go : (m ≡ x) ⊎ (m ∈ l) → (m ≡ x) ⊎ (m ∈ (y ∷ l))
    go (inl e) = inl e
    go (inr j) = inr (inr j)

in_with : {x : Mark} {l r : List Mark} → With x l r → (y : Mark) → (y ≡ x) ⊎ (y ∈ l) → y ∈ r
in_with here y i = i
in_with (there w) y (inl e) = inr (in_with w y (inl e))
in_with (there w) y (inr (inl e)) = inl e
in_with (there w) y (inr (inr j)) = inr (in_with w y (inr j))

pub sort_in : (l : List Mark) (y : Mark) → y ∈ sort l → y ∈ l
sort_in (x ∷ l) y i = go (with_in (inserted x (sort l)) y i) (sort_in l y)
  where
    go : (y ≡ x) ⊎ (y ∈ sort l) → (y ∈ sort l → y ∈ l) → y ∈ (x ∷ l)
    go (inl e) f = inl e
    go (inr j) f = inr (f j)
sort_in [] y i = elim i [ ]

pub in_sort : (l : List Mark) (y : Mark) → y ∈ l → y ∈ sort l
in_sort (x ∷ l) y (inl e) = in_with (inserted x (sort l)) y (inl e)
in_sort (x ∷ l) y (inr i) = in_with (inserted x (sort l)) y (inr (in_sort l y i))
in_sort [] y x' = elim x' [ ]

-- each key comes before those behind it
abbrev pub Keyed : List Mark → Type 0
Keyed [] = Unit {0}
Keyed (x ∷ l) = ((y : Mark) → y ∈ l → Lex (key x) (key y)) × Keyed l

insert_keyed : (x : Mark) (l : List Mark) → Keyed l → Keyed (insert x l)
insert_keyed x [] k = ((λ y i. absurd i), tt)
insert_keyed x (z ∷ l) k = go (not_after (key x) (key z)) refl (insert_keyed x l k.1)
  where
    go : (b : Bool) → not_after (key x) (key z) ≡ b → Keyed (insert x l) → Keyed (cond b (x ∷ z ∷ l) (z ∷ insert x l))
    go true e r = (low, k)
      where
        low : (y : Mark) → y ∈ (z ∷ l) → Lex (key x) (key y)
        low y (inl h) = rw h (lex (key x) (key z) e)
        low y (inr i) = lex_trans (key x) (key z) (key y) (lex (key x) (key z) e) (k.0 y i)
    go false e r = ((λ y i. low y (with_in (inserted x l) y i)), r)
      where
        low : (y : Mark) → (y ≡ x) ⊎ (y ∈ l) → Lex (key z) (key y)
        low y (inl h) = rw h (lex_else (key x) (key z) e)
        low y (inr i) = k.0 y i

pub sort_keyed : (l : List Mark) → Keyed (sort l)
sort_keyed [] = tt
sort_keyed (x ∷ l) = insert_keyed x (sort l) (sort_keyed l)

-- EACH CALL ONCE

-- the begins' moments: no two calls share one
abbrev pub begins : List Mark → List ℕ
begins l = map (λ m. m.call.at) l

pub from_begins : (l : List Mark) (n : ℕ) → n ∈ begins l → (m : Mark) × (m ∈ l) × (n ≡ m.call.at)
from_begins (x ∷ l) n (inl h) = (x, inl refl, h)
from_begins (x ∷ l) n (inr h) = let r = from_begins l n h in (r.0, inr r.1, r.2)
from_begins [] n x' = elim x' [ ]

pub to_begins : (l : List Mark) (m : Mark) → m ∈ l → m.call.at ∈ begins l
to_begins (y ∷ l) m (inl h) = inl (ap (λ (m : Mark). m.call.at) h)
to_begins (y ∷ l) m (inr h) = inr (to_begins l m h)
to_begins [] m x' = elim x' [ ]

with-once : {x : Mark} {l r : List Mark} → With x l r → ¬ (x.call.at ∈ begins l) → Once (begins l) → Once (begins r)
with-once here n o = (n, o)
with-once {x} (there {y} {l} {r} w) n o = ((λ i. let m = from_begins r y.call.at i in go m.0 m.2 (with_in w m.0 m.1)), with-once w (λ i. n (inr i)) o.1)
  where
    go : (m : Mark) → y.call.at ≡ m.call.at → (m ≡ x) ⊎ (m ∈ l) → ⊥
    go m q (inl e) = n (inl (ap (λ (m : Mark). m.call.at) (sym e) ∙ sym q))
    go m q (inr j) = o.0 (rw q (to_begins l m j))

pub sort-once : (l : List Mark) → Once (begins l) → Once (begins (sort l))
sort-once [] o = tt
sort-once (x ∷ l) o = with-once (inserted x (sort l)) (λ i. let m = from_begins (sort l) x.call.at i in o.0 (rw m.2 (to_begins l m.0 (sort_in l m.0 m.1)))) (sort-once l o.1)

-- AT ONE ACTION A CHANGE COMES FIRST

pub no_later : (x y : Mark) → Lex (key x) (key y) → x.spot.moment ≤ y.spot.moment
no_later x y (inl p) = omega arith
no_later x y (inr p) = omega (arith, p.0)

pub before_change : (x y : Mark) → Sided x.call.op x.answer x.spot → Sided y.call.op y.answer y.spot → Lex (key x) (key y) → x.spot.moment ≡ y.spot.moment → T (changing y) → T (changing x)
before_change x y sx sy h e c = go h
  where
    number : (s : Side) → (s ≡ before → ⊥) → 1 ≤ side_number s
    number before n = absurd (n refl)
    number itself n = omega arith
    number after n = omega arith

    rank : (b : Bool) → T b → ◌≡◌ {A = ℕ} (cond b 0 1) 0
    rank true z = refl
    rank false z = elim z [ ]

    unrank : (b : Bool) → cond b 0 1 ≤ 0 → T b
    unrank true z = tt
    unrank false z = absurd (omega arith)

    side : ◌≡◌ {A = ℕ} (side_number y.spot.side) 1
    side = ap side_number (sy.change_itself c)

    go : Lex (key x) (key y) → T (changing x)
    go (inl p) = absurd (omega arith)
    go (inr (p, inl q)) = absurd (omega (arith, number x.spot.side sx.never_before, side))
    go (inr (p, inr (q, inl r))) = absurd (omega (arith, rank (changing y) c))
    go (inr (p, inr (q, inr (r, z)))) = unrank (changing x) (omega (arith, rank (changing y) c))

-- SUMS OVER LISTS

abbrev pub total : {A : Type 0} → (A → ℕ) → List A → ℕ
total w [] = 0
total w (x ∷ l) = w x + total w l

insert-total : (w : Mark → ℕ) (x : Mark) (l : List Mark) → total w (insert x l) ≡ w x + total w l
insert-total w x [] = refl
insert-total w x (y ∷ l) = go (not_after (key x) (key y)) (insert-total w x l)
  where
    go : (b : Bool) → total w (insert x l) ≡ w x + total w l → total w (cond b (x ∷ y ∷ l) (y ∷ insert x l)) ≡ w x + (w y + total w l)
    go true h = refl
    go false h = omega (arith, h)

-- sorting changes no sum
pub sort-total : (w : Mark → ℕ) (l : List Mark) → total w (sort l) ≡ total w l
sort-total w [] = refl
sort-total w (x ∷ l) = omega (arith, insert-total w x (sort l), sort-total w l)
