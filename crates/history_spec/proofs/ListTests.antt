-- Tests that a list's members pass, computed.
use mathlib.Core.Path.{◌≡◌, refl}
use mathlib.Core.Logic.{◌⊎◌, inl, inr}
use mathlib.Core.Bool.{Bool, true, false, ◌&&◌, ◌||◌, not, cond, false≢true}
use mathlib.Core.List.{List, [], ◌∷◌, ◌++◌}
use Prim.Native.Nat.{ℕ, zero, suc}
use lib.Dec.{T}
use lib.ListN.{get_or}
use Rattle.history_spec.specs.Basics.{◌∈◌}

abbrev pub every : {A : Type 0} → (A → Bool) → List A → Bool
every f [] = true
every f (x ∷ xs) = f x && every f xs

-- one is the same, by this test
abbrev pub has : {A : Type 0} → (A → A → Bool) → List A → A → Bool
has eq [] x = false
has eq (y ∷ ys) x = eq x y || has eq ys x

pub both : (a b : Bool) → T (a && b) → T a × T b
both true b h = (tt, h)
both false b h = absurd h

pub or_left : (a b : Bool) → T a → T (a || b)
or_left true b h = tt
or_left false b h = absurd h

pub or_right : (a b : Bool) → T b → T (a || b)
or_right true b h = tt
or_right false b h = h

pub or_either : (a b : Bool) → T (a || b) → T a ⊎ T b
or_either true b h = inl tt
or_either false b h = inr h

pub turned : (a b c : Bool) → T ((a || b) || c) → T (b || (a || c))
turned true b c h = or_right b true tt
turned false b c h = h

-- an implication as a test
pub imp : (x y : Bool) → T (y || not x) → x ≡ true → T y
imp x true h e = tt
imp true false h e = h
imp false false h e = absurd (false≢true e)

module _ {A : Type 0} (f : A → Bool) where
  pub every_in : (xs : List A) → T (every f xs) → (x : A) → x ∈ xs → T (f x)
  every_in [] h x m = absurd m
  every_in (y ∷ xs) h x (inl e) = rw e (both (f y) (every f xs) h).0
  every_in (y ∷ xs) h x (inr m) = every_in xs (both (f y) (every f xs) h).1 x m

  pub every_at : (xs : List A) → T (every f xs) → (d : A) → T (f d) → (n : ℕ) → T (f (get_or xs n d))
  every_at [] h d g n = g
  every_at (x ∷ xs) h d g zero = (both (f x) (every f xs) h).0
  every_at (x ∷ xs) h d g (suc n) = every_at xs (both (f x) (every f xs) h).1 d g n

  pub in_every : (xs : List A) → ((x : A) → x ∈ xs → T (f x)) → T (every f xs)
  in_every [] h = tt
  in_every (x ∷ xs) h = go (f x) (h x (inl refl)) (in_every xs (λ y i. h y (inr i)))
    where
      go : (b : Bool) → T b → T (every f xs) → T (b && every f xs)
      go true u v = v
      go false u v = absurd u

-- whichever a test picks
pub by_test : {A : Type 0} (P : A → Type 0) (b : Bool) (x y : A) → (b ≡ true → P x) → (b ≡ false → P y) → P (cond b x y)
by_test P true x y f g = f refl
by_test P false x y f g = g refl

pub has_in : {A : Type 0} (eq : A → A → Bool) → ((x y : A) → T (eq x y) → x ≡ y) → (ys : List A) (x : A) → T (has eq ys x) → x ∈ ys
has_in eq sound [] x h = absurd h
has_in eq sound (y ∷ ys) x h = go (eq x y) (sound x y) (has_in eq sound ys x) h
  where
    go : (b : Bool) → (T b → x ≡ y) → (T (has eq ys x) → x ∈ ys) → T (b || has eq ys x) → x ∈ (y ∷ ys)
    go true here there h = inl (here tt)
    go false here there h = inr (there h)

-- with one more at the end
pub has_append : {A : Type 0} (eq : A → A → Bool) (l : List A) (y x : A) → has eq (l ++ (y ∷ [])) x ≡ (has eq l x || eq x y)
has_append eq [] y x = go (eq x y)
  where
    go : (b : Bool) → (b || false) ≡ b
    go true = refl
    go false = refl
has_append eq (z ∷ l) y x = go (eq x z) (has_append eq l y x)
  where
    go : (b : Bool) → has eq (l ++ (y ∷ [])) x ≡ (has eq l x || eq x y) → (b || has eq (l ++ (y ∷ [])) x) ≡ ((b || has eq l x) || eq x y)
    go true e = refl
    go false e = e

pub implies : (a b : Bool) → T (not a || b) → T a → T b
implies true b h x = h
implies false b h x = absurd x

pub excludes : (a b : Bool) → T (not (a && b)) → T a → T b → ⊥
excludes true true h x y = h
excludes true false h x y = y
excludes false b h x y = x
