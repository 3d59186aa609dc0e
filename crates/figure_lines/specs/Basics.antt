-- Tests over ranges of numbers, counting as the code's loops do.
use Rattle.std.specs.Prelude.{Bool, true, false, ◌&&◌, ◌||◌, List, [], ◌∷◌, ℕ, zero, suc, ◌+◌, leb, Option, Some, None}
use Rattle.std.proofs.Math.Option as Math

abbrev pub within : ℕ → ℕ → ℕ → Bool
within n a b = leb a n && leb n b

-- every test of the list passes
abbrev pub ands : List Bool → Bool
ands [] = true
ands (x ∷ l) = x && ands l

-- the test passes at each of the k numbers from i on; at one of them
abbrev pub all_from : (ℕ → Bool) → ℕ → ℕ → Bool
all_from f i zero = true
all_from f i (suc k) = f i && all_from f (i + 1) k

abbrev pub any_from : (ℕ → Bool) → ℕ → ℕ → Bool
any_from f i zero = false
any_from f i (suc k) = f i || any_from f (i + 1) k

-- what f gives at the k numbers from i on, added up
abbrev pub sum_from : (ℕ → ℕ) → ℕ → ℕ → ℕ
sum_from f i zero = 0
sum_from f i (suc k) = f i + sum_from f (i + 1) k

-- the code's Option as the definitions' own
abbrev pub option_of : {A : Type 0} → Option A → Math.Option A
option_of None = Math.none
option_of (Some x) = Math.some x
