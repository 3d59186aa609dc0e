-- Questions asked in two parts.
use mathlib.Core.Path.{◌≡◌, refl}
use mathlib.Core.Bool.{true, false}
use mathlib.Core.Option.{none, some}
use mathlib.Core.List.{List, [], ◌∷◌, ◌++◌}
use Prim.Native.Nat.{ℕ}
use Rattle.cells_spec.specs.Questions.{Question, refusal}

pub refused-first : (l m : List Question) (n : ℕ) → refusal l ≡ some n → refusal (l ++ m) ≡ some n
refused-first [] m n e = cc
refused-first ((k, true) ∷ l) m n e = refused-first l m n e
refused-first ((k, false) ∷ l) m n e = e

pub asked_further : (l m : List Question) → refusal l ≡ none → refusal (l ++ m) ≡ refusal m
asked_further [] m e = refl
asked_further ((k, true) ∷ l) m e = asked_further l m e
asked_further ((k, false) ∷ l) m e = cc
