use Rattle.buffers.proofs.Zeros.{all-zeros, as_long}
use Rattle.buffers.proofs.zeroed.Goals as goal

pub returns : goal.returns
returns g c = record { value = all-zeros g.row.N; value_2 = as_long g.row.N }
