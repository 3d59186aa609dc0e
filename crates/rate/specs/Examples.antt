-- Rates, computed: hardware CAS attempts, finished calls, rate.
use Rattle.std.specs.Prelude.{◌≡◌, refl, List, [], ◌∷◌, ℕ}
use Rattle.rate.specs.Rate.{rate}

abbrev Rates : List (ℕ × ℕ × ℕ) → Type 0
Rates [] = Unit {0}
Rates ((h, f, r) ∷ l) = (rate h f ≡ r) × Rates l

rates : Rates (
    -- halves: the request's two, and the next
    (1, 2000, 0) ∷ (3, 2000, 2) ∷ (5, 2000, 2) ∷
    -- just below a half, and just above
    (1, 2001, 0) ∷ (1, 1999, 1) ∷
    -- no finished call
    (0, 0, 0) ∷ (7, 0, 0) ∷
    -- the largest counts
    (4294967295, 1, 4294967295000) ∷ (1, 4294967295, 0) ∷ (4294967295, 4294967295, 1000) ∷
    []
    )
unfolding rate
rates = (refl, (refl, (refl, (refl, (refl, (refl, (refl, (refl, (refl, (refl, tt))))))))))
