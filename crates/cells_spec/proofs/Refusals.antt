-- Refusals as the code has them: a number, 0 for none.
use mathlib.Core.Path.{◌≡◌, refl, sym, ap, ◌∙◌}
use mathlib.Core.Bool.{Bool, true, false, ◌&&◌, and-eq-true_iff}
use mathlib.Core.Option.{Option, none, some, get_or}
use mathlib.Core.List.{List, [], ◌∷◌}
use Prim.Native.Nat.{ℕ}
use native.Mathlib.Omega.{arith}
use lib.Dec.{ltb}
use borrow.Author.Tests.{ltb-true}
use Rattle.cells_spec.specs.Questions.{Question, refusal}

-- no question has the number 0
abbrev pub numbered : List Question → Bool
numbered [] = true
numbered (q ∷ l) = ltb 0 q.0 && numbered l

unrefused : (l : List Question) → numbered l ≡ true → get_or (refusal l) 0 ≡ 0 → refusal l ≡ none
unrefused [] h e = refl
unrefused ((n, true) ∷ l) h e = unrefused l ((and-eq-true_iff (ltb 0 n) (numbered l)).0 h).1 e
unrefused ((n, false) ∷ l) h e = absurd (omega (arith, e, ltb-true 0 n ((and-eq-true_iff (ltb 0 n) (numbered l)).0 h).0))

refused : (o : Option ℕ) → (get_or o 0 ≡ 0 → ⊥) → o ≡ some (get_or o 0)
refused none h = absurd (h refl)
refused (some n) h = refl

-- what the code's number says of the questions
module _ (l : List Question) (n : ℕ) (e : n ≡ get_or (refusal l) 0) where
  pub is-refused : (n ≡ 0 → ⊥) → refusal l ≡ some n
  is-refused h = refused (refusal l) (λ z. h (e ∙ z)) ∙ ap some (sym e)

  pub is-allowed : n ≡ 0 → numbered l ≡ true → refusal l ≡ none
  is-allowed z h = unrefused l h (sym e ∙ z)
