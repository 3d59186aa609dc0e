-- Laws of a function changed at one number, which callers use and not its text; of options and lists; a call at a moment; a history of two lists.
use mathlib.Core.Path.{◌≡◌, refl, ap}
use mathlib.Core.Logic.{◌≢◌, ◌⊎◌, inl, inr}
use mathlib.Core.Bool.{Bool, true, false, false≢true}
use mathlib.Core.Option.{Option, none, some}
use mathlib.Core.List.{List, [], ◌∷◌, ◌++◌, map}
use Prim.Native.Nat.{ℕ, zero, suc}
use native.Mathlib.Decide.{ℕ_discrete}
use native.Mathlib.Omega.{arith}
use lib.Dec.{T}
use lib.ListN.{get_or, replicate}
use borrow.Author.Tests.{eq-eqb, ne_eqb}
use Rattle.history_spec.specs.Basics.{◌∈◌, upd}
use Rattle.history_spec.specs.History.{Action, Event, history, run, Call, Calls, enter, enter_all}
use Rattle.history_spec.specs.Linearization.{Point}

pub either : (m n : ℕ) → (m ≡ n) ⊎ (m ≢ n)
either m n = go (ℕ_discrete m n)
  where
    go : Dec (m ≡ n) → (m ≡ n) ⊎ (m ≢ n)
    go (yes e) = inl e
    go (no e) = inr e

pub upd-at {ℓ} : {A : Type ℓ} (f : ℕ → A) (n : ℕ) (a : A) (m : ℕ) → m ≡ n → upd f n a m ≡ a
unfolding upd
upd-at f n a m e = rw (eq-eqb m n e)

pub upd_same {ℓ} : {A : Type ℓ} (f : ℕ → A) (n : ℕ) (a : A) → upd f n a n ≡ a
upd_same f n a = upd-at f n a n refl

pub upd_off {ℓ} : {A : Type ℓ} (f : ℕ → A) (n : ℕ) (a : A) (m : ℕ) → m ≢ n → upd f n a m ≡ f m
unfolding upd
upd_off f n a m e = rw (ne_eqb m n e)

-- what holds at the changed place and at every other holds everywhere
pub upd-cases {ℓ ℓ'} : {A : Type ℓ} (Q : A → Type ℓ') (f : ℕ → A) (n : ℕ) (a : A) (m : ℕ) → (m ≡ n → Q a) → (m ≢ n → Q (f m)) → Q (upd f n a m)
upd-cases Q f n a m here there = go (either m n)
  where
    go : (m ≡ n) ⊎ (m ≢ n) → Q (upd f n a m)
    go (inl e) = rw (upd-at f n a m e) (here e)
    go (inr e) = rw (upd_off f n a m e) (there e)

-- a test that failed did not hold
pub no_such : {A : Type 0} → false ≡ true → A
no_such e = absurd (false≢true e)

-- for a ruleset of what follows from nothing
pub no_eq : (a b : ℕ) → ⊥ → a ≡ b
no_eq a b x = absurd x

pub no-T : (b : Bool) → ⊥ → T b
no-T b x = absurd x

pub clash : {A : Type 0} {o : Option A} {a : A} → o ≡ none → o ≡ some a → ⊥
clash p q = let z : ◌≡◌ {A = ℕ} 0 1 = cc in omega arith

pub some_inj : {A : Type 0} {o : Option A} {a b : A} → o ≡ some a → o ≡ some b → a ≡ b
some_inj p q = cc

pub mem_append : {A : Type 0} (l m : List A) (a : A) → a ∈ (l ++ m) → (a ∈ l) ⊎ (a ∈ m)
mem_append [] m a i = inr i
mem_append (x ∷ l) m a (inl e) = inl (inl e)
mem_append (x ∷ l) m a (inr i) = go (mem_append l m a i)
  where
    go : (a ∈ l) ⊎ (a ∈ m) → (a ∈ (x ∷ l)) ⊎ (a ∈ m)
    go (inl j) = inl (inr j)
    go (inr j) = inr j

pub mem_left : {A : Type 0} (l m : List A) (a : A) → a ∈ l → a ∈ (l ++ m)
mem_left (x ∷ l) m a (inl e) = inl e
mem_left (x ∷ l) m a (inr i) = inr (mem_left l m a i)
mem_left {A = A} [] m a x' = elim x' [ ]

pub mem_right : {A : Type 0} (l m : List A) (a : A) → a ∈ m → a ∈ (l ++ m)
mem_right [] m a i = i
mem_right (x ∷ l) m a i = inr (mem_right l m a i)

pub mem_map : {A B : Type 0} (f : A → B) (l : List A) (a : A) → a ∈ l → f a ∈ map f l
mem_map f (x ∷ l) a (inl e) = inl (ap f e)
mem_map f (x ∷ l) a (inr i) = inr (mem_map f l a i)
mem_map {A = A} {B = B} f [] a x' = elim x' [ ]

pub replicate_at : {A : Type 0} (a : A) (n k : ℕ) → get_or (replicate n a) k a ≡ a
replicate_at a zero k = refl
replicate_at a (suc n) zero = refl
replicate_at a (suc n) (suc k) = replicate_at a n k

abbrev pub point : Call → ℕ → Point
point c m = record { moment = m; call = c.start }

-- of one list after another, with any machine
pub history_append : {S A E : Type 0} (act : S → A → S × E) (s : S) (l m : List A) → history act s (l ++ m) ≡ history act s l ++ history act (run act s l) m
history_append act s [] m = refl
history_append act s (a ∷ l) m = ap (λ h. (a, (act s a).1) ∷ h) (history_append act (act s a).0 l m)

pub enter_append : (b : Calls) (g h : List (Action × Event)) → enter_all b (g ++ h) ≡ enter_all (enter_all b g) h
enter_append b [] h = refl
enter_append b (x ∷ g) h = enter_append (enter b x.0 x.1) g h
