use Rattle.std.proofs.Common.{◌≡◌, refl, sym, ap, subst, ◌∙◌, length, arith}
use Rattle.figure_lines.specs.Record.{record_at, op_of}
use Rattle.cells_spec.specs.Machine.{Pool}
use Rattle.moments_tool.specs.Words.{entered, IsMade}
use Rattle.moments_tool.specs.Notes.{notes_of}
use Rattle.moments_tool.specs.Loop.{standing_spot, stand_word, pending_word, closing, Closing}
use Rattle.moments_tool.proofs.Sorting.{entered-length}
use Rattle.moments_tool.proofs.Ruling.{closing-next, fits_next}
use Rattle.moments_tool.proofs.calls.close.Goals as goal

pub loop-t-init : goal.loop-t-init
unfolding closing Closing
loop-t-init c = record { after = refl; made = tt; few = omega arith }

pub loop-t-preserved : goal.loop-t-preserved
loop-t-preserved c =
    let a = c.args in
    let l = c.loop-t in
    let x : Pool = (a.s.now, a.pool.now) in
    let o = notes_of 0 a.notes.now in
    let r = record_at a.s.now.records l.t in
    let e : c.standing.result ≡ pending_word x o l.t = c.standing.ensures ∙ λ i. stand_word (standing_spot (c.own-own.ensures i) r (c.see-sight.ensures i)) (op_of r) l.t in
    let s = c.enter.ensures in
    record {
      after = s.after ∙ (λ i. entered (e i) (l.invariant.after i)) ∙ sym (closing-next x o l.t a.marks.now);
      made = fits_next x o l.t (subst IsMade e s.made) l.invariant.made;
      few = omega (arith, l.invariant.few, ap length s.after, entered-length c.standing.result l.marks);
    }
