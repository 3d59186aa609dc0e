-- The actions drawn one after another, and where they begin.
use Rattle.std.specs.Prelude.{List, [], ◌∷◌, ℕ, zero, suc, ◌<◌, replicate}
use Rattle.history_spec.specs.History.{read, swap, Action, begin, step, drop}
use Rattle.cells_spec.specs.Machine.{Pool, pool}
use Rattle.session_spec.specs.Session.{Opening}
use Rattle.session_spec.specs.Tools.{left_by}
use Rattle.shake_spec.specs.Drawn.{drawn_action}

-- k actions, drawn as the cells go on from the state and pool x
unfoldable pub drawn_actions : (tasks cells k generator : ℕ) → Pool → List Action
drawn_actions n v zero g x = []
drawn_actions n v (suc k) g x =
    let d = drawn_action n v x.0 g in
    d.action ∷ drawn_actions n v k d.generator (pool x d.action).0

abbrev pub zero_opening : (tasks cells blocks : ℕ) → Opening
zero_opening n v b = record { tasks = n; cells = v; blocks = b; values = replicate v 0 }

-- what the session's opening leaves, all values 0
unfoldable pub zero_start : (tasks cells blocks : ℕ) → Pool
zero_start n v b = left_by (zero_opening n v b)

-- a drawn action's task and cell have at most two digits, its values one
abbrev pub Short : Action → Type 0
Short (begin t (read k)) = (t < 100) × (k < 100)
Short (begin t (swap k e n)) = (t < 100) × (k < 100) × (e < 10) × (n < 10)
Short (step t) = t < 100
Short (drop t) = t < 100
