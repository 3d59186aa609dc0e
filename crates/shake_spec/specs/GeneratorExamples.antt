-- Draws, computed.
use Rattle.std.specs.Prelude.{◌≡◌, refl, List, [], ◌∷◌, ℕ, zero, suc}
use Rattle.shake_spec.specs.Generator.{next, below}

-- the first k draws from a seed; a draw is below 65,536
abbrev draws : (k seed : ℕ) → List ℕ
draws zero g = []
draws (suc k) g = below 65536 (next g) ∷ draws k (next g)

first-draws :
    (draws 8 0 ≡ 15470 ∷ 18256 ∷ 53708 ∷ 43769 ∷ 25170 ∷ 40750 ∷ 22526 ∷ 41945 ∷ [])
    × (draws 8 1 ≡ 15496 ∷ 24200 ∷ 33046 ∷ 46195 ∷ 3312 ∷ 24216 ∷ 50774 ∷ 36450 ∷ [])
unfolding next below
first-draws = (refl, refl)
