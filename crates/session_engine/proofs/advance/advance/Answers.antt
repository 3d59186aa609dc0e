use Rattle.cells_spec.proofs.Fits.{sizes}
use Rattle.session_engine.proofs.advance.advance.Goals as goal

pub begin_fit-requires : goal.begin_fit-requires
begin_fit-requires c = (sizes c.args.s.now c.args.pool.now c.requires).tasks

pub begin_fit-requires-in-Swap : goal.begin_fit-requires-in-Swap
begin_fit-requires-in-Swap c = (sizes c.args.s.now c.args.pool.now c.requires).tasks
