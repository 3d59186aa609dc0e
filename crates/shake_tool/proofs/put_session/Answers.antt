use Rattle.std.proofs.Common.{◌*◌, refl, arith}
use Rattle.shake_spec.proofs.Zeros.{part-zeros, part_length}
use Rattle.shake_tool.proofs.Sizing.{fits}
use Rattle.shake_tool.proofs.Starting.{starts, whole-session}
use Rattle.shake_tool.proofs.put_session.Goals as goal

pub slice_bounds-room-end : goal.slice_bounds-room-end
slice_bounds-room-end c = omega (arith, fits c.args.sizes)

pub slice_bounds-pool-end : goal.slice_bounds-pool-end
slice_bounds-pool-end c = part_length (5 * c.args.sizes.blocks) 640 refl (omega (arith, fits c.args.sizes))

pub shared_ref_as_front-values : goal.shared_ref_as_front-values
shared_ref_as_front-values c = omega (arith, fits c.args.sizes)

pub returns : goal.returns
returns c = let w = c.args.sizes in
    let h = fits w in
    let x = starts w.tasks w.cells w.blocks c.blank-s.ensures (part-zeros (5 * w.blocks) 640 refl (omega (arith, h))) (part-zeros w.cells 16 refl (omega (arith, h))) h.4 c.open.ensures in
    whole-session w.tasks w.cells w.blocks c.args.seed w.count x c.put_opening.ensures.written c.put_actions.ensures.written
