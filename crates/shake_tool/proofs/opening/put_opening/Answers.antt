use Rattle.std.proofs.Common.{◌-◌, refl, arith}
use Rattle.text.proofs.Pages.{written_then}
use Rattle.shake_spec.proofs.Zeros.{part-zeros, opens}
use Rattle.shake_tool.proofs.Starting.{three-short, zeros-short}
use Rattle.shake_tool.proofs.Sizing.{fits}
use Rattle.shake_tool.proofs.opening.put_opening.Goals as goal

pub numbers-requires : goal.numbers-requires
numbers-requires c = omega (arith, three-short c.args.sizes c.from.ensures c.from-2.ensures c.from-3.ensures, c.put.ensures.appended.stored.next, c.put.ensures.size, c.requires)

pub put-requires-2 : goal.put-requires-2
put-requires-2 c = omega (arith, three-short c.args.sizes c.from.ensures c.from-2.ensures c.from-3.ensures, c.put.ensures.appended.stored.next, c.put.ensures.size, c.numbers.ensures.appended.stored.next, c.numbers.ensures.size, c.requires)

pub overflow_sub-more : goal.overflow_sub-more
overflow_sub-more c = omega (arith, fits c.args.sizes)

pub shared_ref_as_front-numbers : goal.shared_ref_as_front-numbers
shared_ref_as_front-numbers c = omega (arith, fits c.args.sizes)

pub numbers-requires-2 : goal.numbers-requires-2
numbers-requires-2 c = omega (arith, three-short c.args.sizes c.from.ensures c.from-2.ensures c.from-3.ensures, c.put.ensures.appended.stored.next, c.put.ensures.size, c.numbers.ensures.appended.stored.next, c.numbers.ensures.size, c.put-2.ensures.appended.stored.next, c.put-2.ensures.size, zeros-short c.args.sizes, c.requires)

pub put-requires-3 : goal.put-requires-3
put-requires-3 c = omega (arith, three-short c.args.sizes c.from.ensures c.from-2.ensures c.from-3.ensures, c.put.ensures.appended.stored.next, c.put.ensures.size, c.numbers.ensures.appended.stored.next, c.numbers.ensures.size, c.put-2.ensures.appended.stored.next, c.put-2.ensures.size, zeros-short c.args.sizes, c.numbers-2.ensures.appended.stored.next, c.numbers-2.ensures.size, c.requires)

pub returns-clause-written : goal.returns-clause-written
returns-clause-written c = let w = c.args.sizes in
    opens w.tasks w.cells w.blocks c.from.ensures c.from-2.ensures c.from-3.ensures (part-zeros (w.cells - 1) 16 refl (omega (arith, fits w))) (fits w).2
    (written_then (written_then (written_then (written_then c.put.ensures c.numbers.ensures) c.put-2.ensures) c.numbers-2.ensures) c.put-3.ensures)

pub returns-clause-upper_bound : goal.returns-clause-upper_bound
returns-clause-upper_bound c =
    omega (arith, three-short c.args.sizes c.from.ensures c.from-2.ensures c.from-3.ensures, c.put.ensures.appended.stored.next, c.numbers.ensures.appended.stored.next, c.put-2.ensures.appended.stored.next, c.numbers-2.ensures.appended.stored.next, c.put-3.ensures.appended.stored.next, zeros-short c.args.sizes)
