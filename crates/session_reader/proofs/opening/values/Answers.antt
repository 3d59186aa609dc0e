use Rattle.std.proofs.Common.{rules, arith, refl, ◌∙◌, ◌+◌}
use lib.ListN.{length-set}
use lib.Seq.{drop-set-lt}
use Rattle.session_reader.proofs.Listed.{values_none, values_wrong, values-first}
use Rattle.session_reader.proofs.Turns.{turn-start, turn_end, turn_stop, turn_more}
use Rattle.session_spec.specs.Session as specs
use Rattle.text.proofs.Appending.{one, later}
use Rattle.session_reader.proofs.opening.values.Goals as goal

pub returns-in-Some-clause-values_are : goal.returns-in-Some-clause-values_are
returns-in-Some-clause-values_are c =
    let a = c.args in
    let x = c.in-Some.ensures in
    record { finds = values_none a.s.now a.at x; past = x.past; within = x.within }

pub returns-in_err-v-clause-values_are : goal.returns-in_err-v-clause-values_are
returns-in_err-v-clause-values_are c =
    let a = c.args in
    rw c.from_residual.ensures (values_wrong a.s.now a.at c.in_default.ensures c.in_err-v.ensures)

pub loop-next-init : goal.loop-next-init
loop-next-init c =
    let a = c.args in
    let x = c.in_ok-v.ensures in
    record {
      first = x.past;
      two_each = omega (arith, x.past);
      some = search rules;
      rest = refl;
      turn =
          rw ((one a.out.now 0 _ (omega (arith, x.past, x.within))).stored.words, values-first a.s.now a.at c.in_default.ensures x)
          (turn-start specs.snoc specs.item specs.close a.s.now _ _ x.within);
    }

pub returns-in-Some-close : goal.returns-in-Some-close
returns-in-Some-close c =
    let l = c.loop-next in
    let a = c.args in
    let x = c.in-Some-close.ensures in
    let turn = l.invariant.turn in
    record {
      values_are = record { finds = turn_end specs.snoc specs.item specs.close turn x.finds; past = omega (arith, x.past, turn.from, l.invariant.first); within = x.within };
      listed_within = (omega (arith, l.invariant.two_each, turn.within, length-set a.out.now 0 c.in_ok-v.v), l.invariant.rest ∙ drop-set-lt l.n a.out.now 0 _ l.invariant.some);
    }

pub returns-in_err-w-clause-values_are : goal.returns-in_err-w-clause-values_are
returns-in_err-w-clause-values_are c =
    rw c.from_residual-in_err-w.ensures
    (turn_stop specs.snoc specs.item specs.close c.loop-next.invariant.turn c.in_default-close.ensures c.in_err-w.ensures)

pub loop-next-preserved : goal.loop-next-preserved
loop-next-preserved c =
    let l = c.loop-next in
    let x = c.in_ok-w.ensures in
    let w = one l.out l.n c.in_ok-w.w (omega (arith, x.past, x.within, length-set c.args.out.now 0 c.in_ok-v.v)) in
    record {
      first = l.invariant.first;
      two_each = omega (arith, x.past, l.invariant.two_each);
      some = search rules;
      rest = w.rest ∙ later _ l.out l.n (l.n + 1) (omega arith) l.invariant.rest;
      turn =
          rw w.stored.words
          (turn_more specs.snoc specs.item specs.close l.invariant.turn c.in_default-close.ensures x.finds (omega (arith, x.past)) x.within);
    }
