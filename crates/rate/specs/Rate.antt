-- Hardware CAS attempts for each thousand finished calls.
use Rattle.std.specs.Prelude.{Bool, cond, ◌&&◌, ◌||◌, ℕ, ◌+◌, ◌*◌, ◌/◌, ◌%◌, eqb, ltb}

-- is a quotient by d rounded up: its rest is more than half of d, or just half and the quotient odd
abbrev pub up : (d quotient rest : ℕ) → Bool
up d q r = ltb d (2 * r) || (eqb (2 * r) d && eqb (q % 2) 1)

-- n divided by d, to the nearest whole number, an exact half to the even one
abbrev pub rounded : (n d : ℕ) → ℕ
rounded n d = cond (up d (n / d) (n % d)) (n / d + 1) (n / d)

-- 0 where no call is finished
unfoldable pub rate : (hard finished : ℕ) → ℕ
rate h f = cond (eqb f 0) 0 (rounded (h * 1000) f)
