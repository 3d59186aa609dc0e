-- The hardware CAS attempts that the cells won: those that decide a block, counted in each of its lives, and those that replace a block.
use Rattle.std.specs.Prelude.{◌≡◌, Bool, ◌&&◌, cond, List, [], ◌∷◌, ℕ, suc, eqb}
use Rattle.figure_lines.specs.declared.Record.{Record}
use Rattle.figure_lines.specs.Record.{record_at}
use Rattle.cells_spec.specs.Step.{current}
use Rattle.history_spec.specs.History.{Action, step, task_of, Yes, success, wins, Report, Event, refused, accepted, answered}
use Rattle.cells_spec.specs.Machine.{Pool, tried_by, pool}

-- the record of an action's own task
abbrev pub own_record : Pool → Action → Record
own_record x a = record_at x.0.records (task_of a)

-- the hardware CAS attempts that an event says were won: 1 or 0
abbrev pub wins_of : Event → ℕ
wins_of (refused n) = 0
wins_of (accepted x) = wins x
wins_of (answered x r) = wins x

-- DECISIONS

-- the action wins the deciding attempt, line 2, at the block
abbrev pub wins_decision : Pool → Action → (block : ℕ) → Bool
wins_decision x a b = let r = own_record x a in eqb r.line 2 && (eqb r.held b && eqb (wins_of (pool x a).1) 1)

-- the action takes the block: its task goes on from line 4 to line 5 and has then taken it. This begins a new life of the block.
abbrev pub takes : Pool → Action → (block : ℕ) → Bool
takes x a b = let q = own_record (pool x a).0 a in eqb (own_record x a).line 4 && (eqb q.line 5 && eqb q.taken b)

-- a block's number of won decisions after an action: a life begins with none
abbrev pub tallied : (taken won : Bool) → ℕ → ℕ
tallied taken won n = cond taken 0 (cond won (suc n) n)

-- after a list of actions: for each block the deciding attempts won since it was taken last, from these numbers on
abbrev pub decisions : Pool → (ℕ → ℕ) → List Action → (block : ℕ) → ℕ
decisions x n [] b = n b
decisions x n (a ∷ l) b = decisions (pool x a).0 (λ b. tallied (takes x a b) (wins_decision x a b) (n b)) l b

-- REPLACEMENTS

-- the action is a step at line 30 on the cell, it wins its attempt and ends its call with yes, and the cell then names the block that the task
-- has taken
pub record Replaces (x : Pool) (a : Action) (cell : ℕ) : Type 0 where
  pub is-step : a ≡ step (task_of a)
  pub line : (own_record x a).line ≡ 30
  pub its-cell : (own_record x a).cell ≡ cell
  pub won : tried_by x.0 x.1 a ≡ success
  pub report : Report
  pub event : (pool x a).1 ≡ answered success report
  pub yes : report.answer ≡ Yes
  pub names : current (pool x a).0.0 cell ≡ (own_record x a).taken
