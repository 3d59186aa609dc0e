use Rattle.std.proofs.Common.{◌≡◌, ap, subst, ◌∙◌, get_or, arith, Ok, Some}
use Rattle.figure_lines.specs.Answers.{result_of}
use Rattle.cells_spec.specs.Events.{report_of}
use Rattle.bus_spec.specs.Bus.{Timed, add_call, call_line}
use Rattle.text.specs.Page.{Written}
use Rattle.bus_tool.specs.Structs.{times_of, sums_in}
use Rattle.bus_tool.proofs.Laws.{are_short, call_known}
use Rattle.bus_tool.proofs.play.enter.Goals as goal

pub enter-call-requires : goal.enter-call-requires
enter-call-requires c = let some : c.in-Ok-Some.field-0 ≡ Some c.in-Ok-Some.f = rw c.in-Ok-Some.is at c.in-Ok-Some.field-0-is in
    let e : c.args.answer ≡ Ok (Some c.in-Ok-Some.f) = c.in-Ok-Some.is ∙ ap Ok some in
    let p = rw e at c.requires.totals_bound in
    record { task_bound = rw c.task_of.ensures (p.2.0, p.2.1); totals_bound = (p.0, p.1) }

pub put_call-requires : goal.put_call-requires
put_call-requires c = let a = c.args in
    let t = c.task_of.result in
    let k = call_known (times_of a.ranges) (are_short a.ranges) (get_or a.tally.now.finished t 0) (t, report_of (result_of c.in-Ok-Some.f)) c.enter-call.ensures.call in
    (c.requires.in_bounds, omega (arith, k.1))

pub returns : goal.returns
returns c = let a = c.args in
    let some : c.in-Ok-Some.field-0 ≡ Some c.in-Ok-Some.f = rw c.in-Ok-Some.is at c.in-Ok-Some.field-0-is in
    let e : a.answer ≡ Ok (Some c.in-Ok-Some.f) = c.in-Ok-Some.is ∙ ap Ok some in
    let p = rw e at c.requires.totals_bound in
    let t = c.task_of.result in
    let n = c.enter-call.ensures in
    let k = call_known (times_of a.ranges) (are_short a.ranges) (get_or a.tally.now.finished t 0) (t, report_of (result_of c.in-Ok-Some.f)) n.call in
    let ec = rw c.task_of.ensures at n.call in
    let task = ap (λ (x : Timed). x.task) ec in
    let number = ap (λ (x : Timed). x.earlier) ec in
    record {
      written = rw e (subst (Written _ _) (ap call_line ec) c.put_call.ensures.written, n.totals_after ∙ ap (add_call (sums_in a.tally.now.totals)) ec, rw c.task_of.ensures at n.finished_after);
      at_bound = c.put_call.ensures.upper_bound (omega (arith, task, p.2), omega (arith, number, p.2), k.0, k.1);
    }
