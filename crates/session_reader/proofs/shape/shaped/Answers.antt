use Rattle.std.proofs.Common.{sym, ◌∙◌, get_or, arith}
use Rattle.session_spec.proofs.Shapes.{shaped-end, shaped-more, still_8}
use Rattle.session_reader.proofs.shape.shaped.Goals as goal

pub returns-then-not-fits : goal.returns-then-not-fits
returns-then-not-fits c = let l = c.loop-b in let s = c.args.s.now in sym (shaped-more s l.d l.p l.b-index (omega arith) ∙ rw (← c.if-not-fits.ensures)) ∙ l.invariant.rest

pub loop-b-preserved : goal.loop-b-preserved
loop-b-preserved c =
    let l = c.loop-b in
    let s = c.args.s.now in
    record {
      depth = rw c.deeper-d.ensures (still_8 l.d l.p (get_or s l.b-index 0) l.invariant.depth (sym c.if-not-fits.ensures));
      rest = rw c.deeper-d.ensures (sym (shaped-more s l.d l.p l.b-index (omega arith) ∙ rw (← c.if-not-fits.ensures)) ∙ l.invariant.rest);
    }

pub returns : goal.returns
returns c = let l = c.loop-b in sym (shaped-end c.args.s.now l.d l.p l.b-index (omega arith)) ∙ l.invariant.rest
