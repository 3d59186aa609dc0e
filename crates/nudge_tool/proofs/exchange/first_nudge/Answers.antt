use Rattle.std.proofs.Common.{sym, length-take-le}
use Rattle.nudge_tool.proofs.Steps.{reached-words}
use Rattle.nudge_tool.proofs.exchange.first_nudge.Goals as goal

pub slice_bounds-room-end : goal.slice_bounds-room-end
slice_bounds-room-end c = reached-words c.requires.fresh.reached

pub slice_bounds-copy-end : goal.slice_bounds-copy-end
slice_bounds-copy-end c = sym (length-take-le _ _ (reached-words c.requires.fresh.reached))

pub copy_from_slice-requires : goal.copy_from_slice-requires
copy_from_slice-requires c = length-take-le _ _ (reached-words c.requires.fresh.reached)
