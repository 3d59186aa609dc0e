-- The actions that are still to be done, from number i on.
use mathlib.Core.Path.{◌≡◌, refl}
use mathlib.Core.List.{List, [], ◌∷◌, map}
use Prim.Native.Nat.{ℕ, zero, suc, ◌+◌, ◌≤◌, ◌<◌}
use native.Mathlib.Numerals.{add-one}
use native.Mathlib.Omega.{arith}
use lib.ListN.{length, drop, get_or, length-map, drop_of_length-le}
use Rattle.history_spec.specs.History.{Action}

pub action_then : (f : ℕ → Action) (l : List ℕ) (i : ℕ) → i < length l → drop i (map f l) ≡ f (get_or l i 0) ∷ drop (i + 1) (map f l)
action_then f l i h = rw (add-one i) (go l i h)
  where
    go : (l : List ℕ) (i : ℕ) → i < length l → drop i (map f l) ≡ f (get_or l i 0) ∷ drop (suc i) (map f l)
    go [] i h = absurd (omega arith)
    go (x ∷ l) zero h = refl
    go (x ∷ l) (suc i) h = go l i (omega arith)

pub no_action : (f : ℕ → Action) (l : List ℕ) (i : ℕ) → length l ≤ i → drop i (map f l) ≡ []
no_action f l i h = let e : length (map f l) ≤ i = omega (arith, length-map l f) in drop_of_length-le (map f l) e
