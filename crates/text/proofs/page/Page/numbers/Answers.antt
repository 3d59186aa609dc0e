use Rattle.std.proofs.Common.{arith, ◌<◌, length}
use Rattle.text.proofs.Pages.{onward_more, onward_end, written_then}
use Rattle.text.proofs.Spaced.{numbers-at, numbers-room, numbers-end}
use Rattle.text.proofs.page.Page.numbers.Goals as goal

pub put-requires : goal.put-requires
put-requires c = let l = c.loop-n in omega (arith, l.invariant.room, numbers-room c.args.l.now l.n-index (omega arith))

pub number-requires : goal.number-requires
number-requires c = let l = c.loop-n in omega (arith, l.invariant.room, numbers-room c.args.l.now l.n-index (omega arith), c.put.ensures.appended.stored.next, c.put.ensures.size)

pub loop-n-preserved : goal.loop-n-preserved
loop-n-preserved c =
    let l = c.loop-n in
    let s = c.args.l.now in
    let p = c.put.ensures in
    let q = c.number.ensures in
    let h : l.n-index < length s = omega arith in
    record {
      onward = onward_more l.invariant.onward (written_then p q) (numbers-at s l.n-index h);
      room = omega (arith, l.invariant.room, numbers-room s l.n-index h, p.appended.stored.next, q.appended.stored.next, p.size, q.size);
    }

pub returns : goal.returns
returns c = let l = c.loop-n in onward_end l.invariant.onward (numbers-end c.args.l.now l.n-index (omega arith))
