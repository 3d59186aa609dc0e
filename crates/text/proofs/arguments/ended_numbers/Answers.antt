use Rattle.std.proofs.Common.{rules, arith, length, ◌∙◌}
use Rattle.std.proofs.Math.Seq.{set-get_or}
use Rattle.text.specs.Arguments.{ended_by}
use Rattle.text.proofs.Several.{none_stored, one_missing, then_stored, all-stored}
use Rattle.text.proofs.arguments.ended_numbers.Goals as goal

pub loop-place-init : goal.loop-place-init
loop-place-init c = record { within = search rules; storing = none_stored _ _ _ _ _ }

pub returns-in_err-v : goal.returns-in_err-v
returns-in_err-v c =
    let l = c.loop-place in
    let a = c.args in
    let w = one_missing (ended_by a.end) a.s.now 0 (length a.out.now) a.out.now l.invariant.storing (omega arith) c.in_err-v.ensures in
    rw c.from_residual.ensures record { several_is = w.0; out_after = set-get_or l.out l.place-index 0 ∙ w.1 }

pub loop-place-preserved : goal.loop-place-preserved
loop-place-preserved c =
    let l = c.loop-place in
    let a = c.args in
    let x = c.in_ok-v.ensures in
    record {
      within = x.within;
      storing = then_stored (ended_by a.end) a.s.now 0 (length a.out.now) a.out.now l.invariant.storing (omega arith) (omega arith) (omega arith) x;
    }

pub returns : goal.returns
returns c =
    let l = c.loop-place in
    let a = c.args in
    let w = all-stored (ended_by a.end) a.s.now 0 (length a.out.now) a.out.now l.invariant.storing (omega arith) l.invariant.within in
    record { several_is = w.0; out_after = w.1 }
