-- The cases of open's values.
use mathlib.Core.Path.{◌≡◌}
use mathlib.Core.List.{List, [], ◌∷◌}
use mathlib.Core.Option.{none, some}
use Prim.Native.Nat.{ℕ}
use lib.ListN.{drop}
use Rattle.text.specs.Readers.{Reads, number}
use Rattle.session_spec.specs.Session.{close, item, many, snoc, values}

module _ (s : List ℕ) (at : ℕ) where
  pub values_none : {next : ℕ} → Reads close s at 1 tt next → values (drop at s) ≡ some ([], drop next s)
  unfolding values
  values_none x = rw x.finds

  module _ (e : close (drop at s) ≡ none) where
    pub values_wrong : number (drop at s) ≡ none → values (drop at s) ≡ none
    unfolding values
    values_wrong f = rw (e, f)

    pub values-first : {v a : ℕ} → Reads number s at 1 v a → values (drop at s) ≡ many snoc item close (v ∷ []) (drop a s)
    unfolding values
    values-first x = rw (e, x.finds)
