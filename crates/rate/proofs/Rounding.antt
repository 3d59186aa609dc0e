-- The rate is the nearest whole number, and the only one.
use mathlib.Core.Path.{◌≡◌, refl, ap, subst, ◌∙◌}
use mathlib.Core.Bool.{Bool, true, false, cond, ◌&&◌, ◌||◌}
use Prim.Native.Nat.{ℕ, zero, suc, ◌+◌, ◌-◌, ◌*◌, ◌/◌, ◌%◌, ◌≤◌, ◌<◌}
use native.Mathlib.Nat.{div-add-mod', mod-lt, mul_comm, mul-suc, mul-add}
use native.Mathlib.Omega.{arith}
use borrow.Author.Tests.{ltb-true, ltb-false, eqb-true, eqb-false, ne_eqb}
use lib.Dec.{eqb, ltb}
use Rattle.rate.specs.Rate.{rate}
use Rattle.rate.specs.Nearest.{Nearest}

-- A QUOTIENT, ROUNDED

module _ (n d : ℕ) (pos : 0 < d) where
  whole : d * (n / d) + n % d ≡ n
  whole = ap (λ (x : ℕ). x + n % d) (mul_comm d (n / d)) ∙ div-add-mod' n d

  below : n % d < d
  below = mod-lt n pos

  next : d * (n / d + 1) ≡ d * (n / d) + d
  next = mul-add d (n / d) 1 ∙ omega arith

  rounded_down_lem : 2 * (n % d) ≤ d → (2 * (n % d) ≡ d → n / d % 2 ≡ 0) → Nearest n d (n / d)
  rounded_down_lem h e = record { near = omega (arith, whole, h); even = λ x. e (omega (arith, whole, x)) }

  rounded-up : d ≤ 2 * (n % d) → (2 * (n % d) ≡ d → n / d % 2 ≡ 1) → Nearest n d (n / d + 1)
  rounded-up h e = record {
    near = omega (arith, whole, next, below, h);
    even = λ x. let odd = e (omega (arith, whole, next, below, x)) in omega (arith, odd);
  }

  by : (a b c : Bool) → ltb d (2 * (n % d)) ≡ a → eqb (2 * (n % d)) d ≡ b → eqb (n / d % 2) 1 ≡ c → Nearest n d (cond (a || (b && c)) (n / d + 1) (n / d))
  by true b c x y z = let more : d < 2 * (n % d) = ltb-true _ _ x in rounded-up (omega (arith, more)) (λ e. absurd (omega (arith, more, e)))
  by false true true x y z = let half : 2 * (n % d) ≡ d = eqb-true _ _ y in rounded-up (omega (arith, half)) (λ _. eqb-true _ _ z)
  by false true false x y z = let not-odd = eqb-false (n / d % 2) 1 z in rounded_down_lem (ltb-false _ _ x) (λ _. omega (arith, not-odd))
  by false false c x y z = rounded_down_lem (ltb-false _ _ x) (λ e. absurd (eqb-false _ _ y e))

pub rate_nearest : (h f : ℕ) → 0 < f → Nearest (h * 1000) f (rate h f)
unfolding rate
rate_nearest h f pos = rw (ne_eqb f 0 (λ e. omega (arith, pos, e))) (by (h * 1000) f pos _ _ _ refl refl refl)

-- THERE IS NO OTHER

one_above : (n d r : ℕ) → 0 < d → Nearest n d r → Nearest n d (r + 1) → ⊥
one_above n d r pos x y =
    let m : d * (r + 1) ≡ d * r + d = mul-add d r 1 ∙ omega arith in
    let a = x.even (omega (arith, pos, m, x.near, y.near)) in
    let b = y.even (omega (arith, pos, m, x.near, y.near)) in
    omega (arith, a, b)

more_above : (n d r k : ℕ) → 0 < d → Nearest n d r → Nearest n d (r + suc (suc k)) → ⊥
more_above n d r k pos x y =
    let m : d * (r + suc (suc k)) ≡ d * r + (d * k + d + d) = mul-add d r (suc (suc k)) ∙ omega (arith, mul-suc d (suc k), mul-suc d k) in
    omega (arith, pos, m, x.near, y.near)

apart : (n d r s k : ℕ) → 0 < d → s ≡ r + suc k → Nearest n d r → Nearest n d s → ⊥
apart n d r s zero pos e x y = one_above n d r pos x (subst (Nearest n d) e y)
apart n d r s (suc k) pos e x y = more_above n d r k pos x (subst (Nearest n d) e y)

one_nearest : (n d r s : ℕ) → 0 < d → Nearest n d r → Nearest n d s → r ≡ s
one_nearest n d r s pos x y = go (ltb r s) (ltb s r) refl refl
  where
    go : (a b : Bool) → ltb r s ≡ a → ltb s r ≡ b → r ≡ s
    go true b p q = let h = ltb-true r s p in absurd (apart n d r s (s - r - 1) pos (omega (arith, h)) x y)
    go false true p q = let h = ltb-true s r q in absurd (apart n d s r (r - s - 1) pos (omega (arith, h)) y x)
    go false false p q = omega (arith, ltb-false r s p, ltb-false s r q)

pub nearest_is_rate : (h f r : ℕ) → 0 < f → Nearest (h * 1000) f r → r ≡ rate h f
nearest_is_rate h f r pos x = one_nearest (h * 1000) f r (rate h f) pos x (rate_nearest h f pos)
