use Rattle.std.proofs.Common.{rules}
use Rattle.cells_step.proofs.Stored.{stored_word}
use Rattle.cells_step.proofs.memory.store.Goals as goal

pub returns : goal.returns
returns c = let e = c.args in stored_word e.block e.pool.now e.field _ e.v (search rules)
