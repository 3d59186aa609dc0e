use Rattle.std.proofs.Common.{arith}
use Rattle.session_reader.proofs.Walks.{walk_start, walk_end, walk_stop, walk_more, finish_no, finish-at}
use Rattle.session_spec.specs.Session as specs
use Rattle.session_reader.proofs.forms.all_lines.Goals as goal

pub loop-i-init : goal.loop-i-init
loop-i-init c = let a = c.args in walk_start specs.read_line specs.finish a.s.now a.at a.tables.now c.requires

pub returns-in_err-more-clause-got : goal.returns-in_err-more-clause-got
returns-in_err-more-clause-got c =
    let a = c.args in
    let l = c.loop-i in
    rw c.from_residual.ensures
    (walk_stop specs.read_line specs.finish a.s.now a.at a.tables.now l.invariant (finish_no a.s.now l.i c.loop-i-test.true) c.in_err-more.ensures.got)

pub loop-i-preserved : goal.loop-i-preserved
loop-i-preserved c =
    let a = c.args in
    let l = c.loop-i in
    let x = c.in_ok-more.ensures.got in
    walk_more specs.read_line specs.finish a.s.now a.at a.tables.now l.invariant (finish_no a.s.now l.i c.loop-i-test.true) x.1.finds (omega (arith, x.1.past)) x.1.within x.2 x.3 c.in_ok-more.ensures.same

pub returns-clause-got : goal.returns-clause-got
returns-clause-got c =
    let a = c.args in
    let l = c.loop-i in
    walk_end specs.read_line specs.finish a.s.now a.at a.tables.now l.invariant 0 (finish-at a.s.now l.i c.loop-i-test.false) (omega arith) l.invariant.ready.here
