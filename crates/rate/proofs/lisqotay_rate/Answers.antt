use mathlib.Core.Path.{◌≡◌}
use Prim.Native.Nat.{ℕ, ◌*◌, ◌%◌, ◌<◌}
use native.Mathlib.Nat.{div-le_self, mod-lt}
use native.Mathlib.Omega.{arith}
use borrow.Author.Tests.{eq-eqb, ne_eqb}
use Rattle.rate.specs.Rate.{rate}
use Rattle.rate.proofs.lisqotay_rate.Goals as goal

-- the rest is less than the divisor, which has 32 bits
rest_below : (n f : ℕ) → (f ≡ 0 → ⊥) → n % f < f
rest_below n f h = mod-lt n (omega (arith, h))

pub returns-then-finished_calls-eq0 : goal.returns-then-finished_calls-eq0
unfolding rate
returns-then-finished_calls-eq0 c = rw (eq-eqb _ _ c.if-finished_calls-eq0.true)

pub overflow_mul-rest : goal.overflow_mul-rest
overflow_mul-rest c = let a = c.args in record { fits = omega (arith, rest_below (a.hardware_swaps * 1000) a.finished_calls c.if-finished_calls-eq0.false) }

pub overflow_mul-rest-2 : goal.overflow_mul-rest-2
overflow_mul-rest-2 c = let a = c.args in record { fits = omega (arith, rest_below (a.hardware_swaps * 1000) a.finished_calls c.if-finished_calls-eq0.false) }

pub overflow_add-result : goal.overflow_add-result
overflow_add-result c = let a = c.args in record { fits = omega (arith, div-le_self (a.hardware_swaps * 1000) a.finished_calls) }

pub returns-then-f-rest : goal.returns-then-f-rest
unfolding rate
returns-then-f-rest c = rw (ne_eqb _ _ c.if-finished_calls-eq0.false, c.if-f-rest.true)

pub returns : goal.returns
unfolding rate
returns c = rw (ne_eqb _ _ c.if-finished_calls-eq0.false, c.if-f-rest.false)
