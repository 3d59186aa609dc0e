use Rattle.std.proofs.Common.{refl, sym, ap, ◌∙◌, ℕ, length, ◌≡◌, ◌<◌, get_or, drop, arith}
use Rattle.std.proofs.Math.Option.{some}
use Rattle.text.proofs.Reading as reading
use Rattle.text.proofs.numerals.number.Goals as goal
use Rattle.text.proofs.numerals.number.Goals.{In_ok-first}

-- the first byte
first : (c : In_ok-first) → (c.args.at < length c.args.s.now) × (c.in_ok-first.field-0.now ≡ get_or c.args.s.now c.args.at 0)
first c = let x = c.in_ok-first.ensures.lookup in reading.got_at c.args.s.now c.args.at c.in_ok-first.field-0.now x.0 x.1

pub returns-in_err-first : goal.returns-in_err-first
returns-in_err-first c = let a = c.args in rw c.from_residual.ensures (reading.number-end a.s.now a.at (reading.out_of a.s.now a.at c.in_err-first.ensures.lookup.0))

pub returns-then-first-eq48 : goal.returns-then-first-eq48
returns-then-first-eq48 c =
    let a = c.args in
    let f = first (goal.at.returns-then-first-eq48 c).In_ok-first in
    record { finds = reading.number_zero a.s.now a.at _ f.0 f.1 c.if-first-eq48.true; past = omega arith; within = omega (arith, f.0) }

pub returns-then-not-is_ascii_digit : goal.returns-then-not-is_ascii_digit
returns-then-not-is_ascii_digit c =
    let a = c.args in
    let f = first (goal.at.returns-then-not-is_ascii_digit c).In_ok-first in
    reading.number_other a.s.now a.at _ f.0 f.1 c.if-first-eq48.false (sym c.if-not-is_ascii_digit.ensures.value)

pub loop-i-init : goal.loop-i-init
loop-i-init c =
    let a = c.args in
    let f = first (goal.at.loop-i-init c).In_ok-first in
    record {
      past = omega arith;
      within = omega (arith, f.0);
      read = rw c.from-v.ensures (sym (reading.number_digit a.s.now a.at _ f.0 f.1 c.if-first-eq48.false (sym c.if-not-is_ascii_digit.ensures.value)));
    }

pub returns-then-not-is_ascii_digit-2 : goal.returns-then-not-is_ascii_digit-2
returns-then-not-is_ascii_digit-2 c =
    let l = c.loop-i in
    let s = c.args.s.now in
    record {
      finds = sym l.invariant.read ∙ reading.digits_other s l.i (get_or s l.i 0) (omega arith) refl l.v (sym c.if-not-is_ascii_digit-2.ensures.value);
      past = omega arith;
      within = omega arith;
    }

pub returns-in_err-checked_mul : goal.returns-in_err-checked_mul
returns-in_err-checked_mul c =
    let l = c.loop-i in
    let s = c.args.s.now in
    rw c.from_residual-in_err-checked_mul.ensures (sym l.invariant.read ∙ reading.digits-over s l.i (get_or s l.i 0) (omega arith) refl l.v (sym c.if-not-is_ascii_digit-2.ensures.value) (omega (arith, c.in_err-checked_mul.ensures)))

pub returns-in_err-v : goal.returns-in_err-v
returns-in_err-v c =
    let l = c.loop-i in
    let s = c.args.s.now in
    rw c.from_residual-in_err-v.ensures (sym l.invariant.read ∙ reading.digits-over s l.i (get_or s l.i 0) (omega arith) refl l.v (sym c.if-not-is_ascii_digit-2.ensures.value) (omega (arith, c.in_err-v.ensures, c.in_ok-checked_mul.ensures)))

pub loop-i-preserved : goal.loop-i-preserved
loop-i-preserved c =
    let l = c.loop-i in
    let s = c.args.s.now in
    record {
      past = omega arith;
      within = omega arith;
      read =
          rw (c.in_ok-v.ensures.1, c.from.ensures, c.in_ok-checked_mul.ensures.1)
          (sym (reading.digits_more s l.i (get_or s l.i 0) (omega arith) refl l.v (sym c.if-not-is_ascii_digit-2.ensures.value) (omega (arith, c.in_ok-v.ensures.0, c.in_ok-checked_mul.ensures.1, c.from.ensures))) ∙ l.invariant.read);
    }

pub returns : goal.returns
returns c =
    let l = c.loop-i in
    let s = c.args.s.now in
    let e : l.i ≡ length s = omega arith in
    record {
      finds = sym l.invariant.read ∙ reading.digits-end s l.i (omega arith) l.v ∙ ap (λ (i : ℕ). some (l.v, drop i s)) e;
      past = omega arith;
      within = omega arith;
    }
