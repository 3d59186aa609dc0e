-- Where each call on the cells takes effect: the source's rules beside the pool, as beside the figure. A task's notes are of the block that it
-- holds, so it does not matter that blocks are taken again.
use Rattle.std.specs.Prelude.{List, ℕ}
use Rattle.figure_lines.specs.Record.{record_at}
use Rattle.cells_spec.specs.Pool.{word}
use Rattle.cells_spec.specs.Step.{current}
use Rattle.history_spec.specs.History.{Action}
use Rattle.history_spec.specs.Moments.{Mark, linearized}
use Rattle.figure_moments.specs.Moments.{Sight, sight, no_notes, noting, names}
use Rattle.cells_spec.specs.Machine.{Pool, pool}

abbrev pub sees_pool : Pool → ℕ → Sight
sees_pool x t = sight (record_at x.0.records) (current x.0) (λ k. word x.1) t

-- the marks of a list of actions on n tasks, from a state
abbrev pub pool_moments : (tasks : ℕ) → Pool → List Action → List Mark
pool_moments n x l = linearized (noting pool sees_pool) (names pool sees_pool) n (x, no_notes) l
