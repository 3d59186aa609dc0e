use mathlib.Core.Path.{◌≡◌, ap, ◌∙◌}
use native.Mathlib.Omega.{arith}
use lib.ListN.{length}
use Rattle.std.proofs.Common.{rules}
use Rattle.figure_lines.specs.declared.Record.{Record}
use Rattle.figure_lines.specs.Record.{idle}
use Rattle.cells_spec.specs.Answers.{Refused, number}
use Rattle.cells_spec.specs.Begin.{with_record}
use Rattle.cells_spec.specs.Lent.{lent}
use Rattle.cells_spec.specs.Open.{leaving}
use Rattle.cells.proofs.Lending.{acted_lent, refused_lent, beyond}
use Rattle.cells.proofs.lent.step_lent.Goals as goal

pub returns-in_default : goal.returns-in_default
returns-in_default c = let e = c.args in
    let long : length e.s.now.records ≡ 32 = search rules in
    let out = c.in_default.ensures.lookup.3 in
    beyond e.s.now e.pool.now e.task e.rec.now long (omega (arith, long, out)) _ _ _ c.step.ensures

pub returns-in-Ok : goal.returns-in-Ok
returns-in-Ok c = let e = c.args in acted_lent e.s.now e.pool.now e.task e.rec.now _ _ c.in-Ok.ended c.in-Ok.ensures

pub returns-in-Err : goal.returns-in-Err
returns-in-Err c = let e = c.args in
    let s = c.step-2.new.s in
    let p = c.step-2.new.pool in
    let z = c.in-Some.ensures.lookup.3.1 idle in
    ap (λ (r : Record). lent (leaving (with_record s e.task r) p (Refused (number c.in-Err.refusal))) e.rec.now) z ∙ refused_lent e.s.now e.pool.now e.task e.rec.now s p _ c.in-Err.ensures
