use native.Mathlib.Omega.{arith}
use Rattle.text.proofs.Pages.{written_then}
use Rattle.moments_spec.specs.Lines.{at_line}
use Rattle.moments_tool.proofs.words.put_mark.Goals as goal

pub returns : goal.returns
unfolding at_line
returns c = let a = c.put.ensures in
    let b = c.put_small.ensures in
    let d = c.put-2.ensures in
    let e = c.put_small-2.ensures in
    let f = c.put-3.ensures in
    let g = c.put_small-3.ensures in
    let h = c.put-4.ensures in
    let side = rw (c.text.ensures.0, c.numbered.ensures) at d in
    let kind = rw c.kind_text.ensures.0 at f in
    let rule = rw (c.text-2.ensures.0, c.numbered-2.ensures) at h in record {
      written = written_then (written_then (written_then (written_then (written_then (written_then a b.written) side) e.written) kind) g.written) rule;
      upper_bound = omega (arith, a.appended.stored.next, b.upper_bound.0, d.appended.stored.next, c.text.ensures.1, e.upper_bound.1 (omega arith), f.appended.stored.next, c.kind_text.ensures.1, g.upper_bound.1 (omega arith), h.appended.stored.next, c.text-2.ensures.1);
    }
