use Rattle.cells_step.proofs.installing.end_line.Goals as goal

pub store-requires : goal.store-requires
store-requires c = rw c.in-26.is at c.requires.within 0

pub store-requires-in-27 : goal.store-requires-in-27
store-requires-in-27 c = rw c.in-27.is at c.requires.within 0
