use Rattle.std.proofs.Common.{arith, get_or, sym, ap, refl}
use Rattle.std.proofs.Math.ListN.{take-append-drop}
use Rattle.session_reader.proofs.Arms.{acts}
use Rattle.session_reader.proofs.Standing.{again_none, again-done, again-names}
use Rattle.session_reader.proofs.Walks.{walk_start, walk_end, walk_stop, walk_more}
use Rattle.session_reader.proofs.Forming.{act-table, form_none, form_no, again_no, again-at, act_no, act-at}
use Rattle.session_spec.specs.Session as specs
use Rattle.session_reader.specs.Answers.{kind_of, form_number, of_forms}
use Rattle.session_reader.specs.Tables.{form_names, form_names_of}
use Rattle.text.specs.Readers.{◌>>◌}
use Rattle.session_reader.proofs.forms.+form_list.Goals as goal

pub form-returns-then-depth-eq0-clause-got : goal.form-returns-then-depth-eq0-clause-got
form-returns-then-depth-eq0-clause-got t c = form_none _ _ c.if-depth-eq0.true

pub form-returns-in_err-word-clause-got : goal.form-returns-in_err-word-clause-got
form-returns-in_err-word-clause-got t c =
    let a = c.args in
    rw c.from_residual.ensures (form_no a.s.now a.at a.depth c.if-depth-eq0.false c.in_err-word.ensures)

-- in both calls the forms of again were not read
pub form-returns-in_err-next-in-Again-clause-got : goal.form-returns-in_err-next-in-Again-clause-got
form-returns-in_err-next-in-Again-clause-got t c =
    let a = c.args in
    rw c.from_residual-in_err-next-in-Again.ensures
    (again_no a.s.now a.at a.depth c.if-depth-eq0.false _ c.in_ok-word.ensures.0 (ap (λ w. form_number (kind_of w)) c.in-Again.is) c.in_err-next-in-Again.ensures)

pub form-returns-in_err-over-in-Again-2-clause-got : goal.form-returns-in_err-over-in-Again-2-clause-got
form-returns-in_err-over-in-Again-2-clause-got t c =
    let a = c.args in
    rw c.from_residual-in_err-over-in-Again-2.ensures
    (again_no a.s.now a.at a.depth c.if-depth-eq0.false _ c.in_ok-word.ensures.0 (ap (λ w. form_number (kind_of w)) c.in-Again-2.is) c.in_err-over-in-Again-2.ensures.got)

pub form-returns-in_ok-next-in-Again-clause-got : goal.form-returns-in_ok-next-in-Again-clause-got
form-returns-in_ok-next-in-Again-clause-got t c =
    let a = c.args in
    let T = a.tables.now in
    let p = c.requires.room in
    let x = c.in_ok-word.ensures.0 in
    let y = c.in_ok-next-in-Again.ensures in
    let times = get_or c.head.new.out 0 0 in
    let whole = again-at a.s.now a.at a.depth c.if-depth-eq0.false _ x (ap (λ w. form_number (kind_of w)) c.in-Again.is) y.1 in
    let none = again_none T.forms.now T.actions.now T.f T.n times y.0 c.if-numbers-eq0.true p.room (omega (arith, p.here, p.table, p.few)) in
    (specs.again times y.0, whole, rw (y.2, y.3, take-append-drop T.n T.actions.now) none, omega (arith, x.past, y.1.past, p.few))

pub form-returns-in_ok-over-in-Again-2-clause-got : goal.form-returns-in_ok-over-in-Again-2-clause-got
form-returns-in_ok-over-in-Again-2-clause-got t c =
    let a = c.args in
    let T = a.tables.now in
    let x = c.in_ok-word.ensures.0 in
    let y = c.in_ok-over-in-Again-2.ensures.got in
    let times = get_or c.head.new.out 0 0 in
    let many = c.if-numbers-eq0.false in
    let whole = again-at a.s.now a.at a.depth c.if-depth-eq0.false _ x (ap (λ w. form_number (kind_of w)) c.in-Again-2.is) y.1 in
    let k = c.again.ensures.kept _ T.actions.now (of_forms.table y.0) (form_names_of T.f y.0) (sym c.in_ok-over-in-Again-2.ensures.same.actions) y.2 in
    (specs.again times y.0, whole, rw (again-done times y.0 many, again-names times y.0 many T.f) k.0, omega (arith, k.1, y.3))

pub form-returns-in_err-next-in_default : goal.form-returns-in_err-next-in_default
form-returns-in_err-next-in_default t c =
    let a = c.args in
    record {
      same = record { forms = refl; actions = refl; forms_name = refl; actions_name = refl };
      got =
          rw c.from_residual-in_err-next-in_default.ensures
          (act_no a.s.now a.at a.depth c.if-depth-eq0.false _ c.in_ok-word.ensures.0 (acts c.in_ok-word.word c.in_default.not-Again) c.in_err-next-in_default.ensures);
    }

pub form-returns-in_ok-next-in_default : goal.form-returns-in_ok-next-in_default
unfolding form_names
form-returns-in_ok-next-in_default t c =
    let a = c.args in
    let p = c.requires.room in
    let x = c.in_ok-word.ensures in
    let y = c.in_ok-next-in_default.ensures in
    let k = c.keep.ensures.kept in
    let w = c.in_ok-word.word in
    let other = acts w c.in_default.not-Again in
    let out = c.head.new.out in
    let whole = act-at a.s.now a.at a.depth c.if-depth-eq0.false _ x.0 other y in
    record {
      same = c.keep.ensures.same;
      got = (specs.act _, whole, rw (act-table (kind_of w) c.from.result out c.from.ensures c.head.auto.out other x.1) k.0, omega (arith, k.1, x.0.past, y.past, p.few));
    }

pub list-loop-next-init : goal.list-loop-next-init
list-loop-next-init t c =
    let a = c.args in
    walk_start (specs.space >> specs.form a.depth) specs.close a.s.now a.at a.tables.now c.requires.room

pub list-returns-in-Some-clause-got : goal.list-returns-in-Some-clause-got
list-returns-in-Some-clause-got t c =
    let a = c.args in
    let x = c.in-Some.ensures in
    walk_end (specs.space >> specs.form a.depth) specs.close a.s.now a.at a.tables.now c.loop-next.invariant 1 x.finds x.past x.within

pub list-returns-in_err-a-clause-got : goal.list-returns-in_err-a-clause-got
list-returns-in_err-a-clause-got t c =
    let a = c.args in
    rw c.from_residual.ensures
    (walk_stop (specs.space >> specs.form a.depth) specs.close a.s.now a.at a.tables.now c.loop-next.invariant c.in_default.ensures (rw c.in_err-a.ensures))

pub list-returns-in_err-more-clause-got : goal.list-returns-in_err-more-clause-got
list-returns-in_err-more-clause-got t c =
    let a = c.args in
    rw c.from_residual-in_err-more.ensures
    (walk_stop (specs.space >> specs.form a.depth) specs.close a.s.now a.at a.tables.now c.loop-next.invariant c.in_default.ensures (rw c.in_ok-a.ensures.finds c.in_err-more.ensures.got))

pub list-loop-next-preserved : goal.list-loop-next-preserved
list-loop-next-preserved t c =
    let a = c.args in
    let x = c.in_ok-a.ensures in
    let y = c.in_ok-more.ensures.got in
    walk_more (specs.space >> specs.form a.depth) specs.close a.s.now a.at a.tables.now c.loop-next.invariant c.in_default.ensures (rw x.finds y.1.finds) (omega (arith, x.past, y.1.past)) y.1.within y.2 y.3 c.in_ok-more.ensures.same
