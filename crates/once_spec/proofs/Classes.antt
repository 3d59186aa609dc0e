-- Classes of steps, as tests of their numbers.
use mathlib.Core.Path.{◌≡◌, refl, sym, ap, ◌∙◌, subst}
use mathlib.Core.Bool.{Bool, not, ◌||◌}
use mathlib.Core.List.{List, [], ◌∷◌}
use Prim.Native.Nat.{ℕ}
use lib.Dec.{eqb, T}
use lib.ListN.{get_or}
use Rattle.figure_lines.specs.Basics.{within}
use Rattle.history_spec.proofs.ListTests.{every, both, every_at, implies}
use Rattle.once_spec.specs.Figure.{Stage, write_x, read_y, write_y, read_x, store_v, read_c, store_d, set_c, test_v, load_v, look_d, cas_d, read_d, nowhere}

abbrev pub number : Stage → ℕ
number nowhere = 0
number write_x = 1
number read_y = 2
number write_y = 3
number read_x = 4
number store_v = 5
number read_c = 6
number store_d = 7
number set_c = 8
number test_v = 9
number load_v = 10
number look_d = 11
number cas_d = 12
number read_d = 13

abbrev pub is : ℕ → Stage → Bool
is n ℓ = eqb (number ℓ) n

abbrev pub busy : Stage → Bool
busy ℓ = not (is 0 ℓ)

-- has found Y false, and may win
abbrev pub racing : Stage → Bool
racing ℓ = within (number ℓ) 3 4

-- has won the splitter, and has not looked at C or found it false
abbrev pub winning : Stage → Bool
winning ℓ = within (number ℓ) 5 7

-- of these, has stored V
abbrev pub stored : Stage → Bool
stored ℓ = within (number ℓ) 6 7

-- knows that C is true
abbrev pub past : Stage → Bool
past ℓ = within (number ℓ) 9 13

-- has chosen the value that it may decide
abbrev pub choosing : Stage → Bool
choosing ℓ = within (number ℓ) 11 12

-- attempts the hardware CAS, or has
abbrev pub tries : Stage → Bool
tries ℓ = within (number ℓ) 12 13

-- the steps of a call that runs alone
abbrev pub lonely : Stage → Bool
lonely ℓ = within (number ℓ) 1 7

-- INCLUSIONS: each is one test computed over all steps

abbrev pub stages : List Stage
stages = nowhere ∷ write_x ∷ read_y ∷ write_y ∷ read_x ∷ store_v ∷ read_c ∷ store_d ∷ set_c ∷ test_v ∷ load_v ∷ look_d ∷ cas_d ∷ read_d ∷ []

placed : (ℓ : Stage) → get_or stages (number ℓ) nowhere ≡ ℓ
placed nowhere = refl
placed write_x = refl
placed read_y = refl
placed write_y = refl
placed read_x = refl
placed store_v = refl
placed read_c = refl
placed store_d = refl
placed set_c = refl
placed test_v = refl
placed load_v = refl
placed look_d = refl
placed cas_d = refl
placed read_d = refl

pub same_number : (a b : Stage) → number a ≡ number b → a ≡ b
same_number a b e = sym (placed a) ∙ (ap (λ n. get_or stages n nowhere) e ∙ placed b)

-- a test that every step passes
pub every_stage : (f : Stage → Bool) → T (every f stages) → (ℓ : Stage) → T (f ℓ)
every_stage f h ℓ = subst (λ (k : Stage). T (f k)) (placed ℓ) (every_at f stages h nowhere (both (f nowhere) _ h).0 (number ℓ))

-- one class lies in another: `lies_in a b tt`, where the test computes
pub lies_in : (a b : Stage → Bool) → T (every (λ ℓ. not (a ℓ) || b ℓ) stages) → (ℓ : Stage) → T (a ℓ) → T (b ℓ)
lies_in a b h ℓ = implies (a ℓ) (b ℓ) (every_stage (λ ℓ. not (a ℓ) || b ℓ) h ℓ)
