-- The entries' definitions as a machine that takes actions and gives events.
use Rattle.std.specs.Prelude.{List, ℕ}
use Rattle.cells_spec.specs.declared.State.{State}
use Rattle.figure_lines.specs.Record.{record_at}
use Rattle.cells_spec.specs.Open.{After}
use Rattle.cells_spec.specs.Begin.{read_begun, swap_begun}
use Rattle.cells_spec.specs.Step.{tried_at, stepped}
use Rattle.cells_spec.specs.Drop.{dropped}
use Rattle.cells_spec.specs.Lent.{stepped_lent}
use Rattle.cells_spec.specs.Events.{event_of}
use Rattle.history_spec.specs.History.{Op, read, swap, Action, begin, step, drop, Attempt, untried, Event}

-- the state with its records, and the pool
abbrev pub Pool : Type 0
Pool = State × List ℕ

abbrev pub begins : State → List ℕ → ℕ → Op → After
begins s p t (read k) = read_begun s p t k
begins s p t (swap k e n) = swap_begun s p t k e n

abbrev pub does : State → List ℕ → Action → After
does s p (begin t op) = begins s p t op
does s p (step t) = stepped s p t
does s p (drop t) = dropped s p t

-- a begin attempts no hardware CAS, nor does a drop
abbrev pub tried_by : State → List ℕ → Action → Attempt
tried_by s p (begin t op) = untried
tried_by s p (step t) = tried_at s p t (record_at s.records t)
tried_by s p (drop t) = untried

abbrev pub pool : Pool → Action → Pool × Event
pool x a = let r = does x.0 x.1 a in ((r.state, r.pool), event_of (tried_by x.0 x.1 a) r.outcome)

-- the same machine where every step is lent the task's own record
abbrev pub does_lent : State → List ℕ → Action → After
does_lent s p (begin t op) = begins s p t op
does_lent s p (step t) = (stepped_lent s p t (record_at s.records t)).entry
does_lent s p (drop t) = dropped s p t

abbrev pub lent_pool : Pool → Action → Pool × Event
lent_pool x a = let r = does_lent x.0 x.1 a in ((r.state, r.pool), event_of (tried_by x.0 x.1 a) r.outcome)
