use Rattle.std.proofs.Common.{rules, arith}
use Rattle.text.proofs.Several.{none_stored, one_missing, then_stored, all-stored}
use Rattle.session_spec.specs.Session.{item}
use Rattle.session_reader.proofs.items.numbers.Goals as goal

pub loop-n-init : goal.loop-n-init
loop-n-init c = record { within = search rules; storing = none_stored item _ _ _ _ }

pub returns-in_err-v : goal.returns-in_err-v
returns-in_err-v c =
    let l = c.loop-n in
    let a = c.args in
    let w = one_missing item a.s.now a.at a.k a.out.now l.invariant.storing (omega arith) c.in_err-v.ensures in
    rw c.from_residual.ensures record { several_is = w.0; out_after = w.1 }

pub loop-n-preserved : goal.loop-n-preserved
loop-n-preserved c =
    let l = c.loop-n in
    let a = c.args in
    let x = c.in_ok-v.ensures in
    record {
      within = x.within;
      storing = then_stored item a.s.now a.at a.k a.out.now l.invariant.storing (omega arith) (omega arith) (omega arith) x;
    }

pub returns : goal.returns
returns c =
    let l = c.loop-n in
    let a = c.args in
    let w = all-stored item a.s.now a.at a.k a.out.now l.invariant.storing (omega arith) l.invariant.within in
    record { several_is = w.0; out_after = w.1 }
