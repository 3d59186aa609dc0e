-- An action drawn: from the generator and from whether its task is busy in the cells that ran the actions before.
use Rattle.std.specs.Prelude.{cond, ℕ, eqb}
use Rattle.history_spec.specs.History.{read, swap, Action, begin, step}
use Rattle.figure_lines.specs.Record.{is_idle, record_at}
use Rattle.cells_spec.specs.declared.State.{State}
use Rattle.shake_spec.specs.Generator.{next, below}

-- an action, and the generator's state after its draws
pub record Drawn : Type 0 where
  pub action : Action
  pub generator : ℕ

abbrev pub drawn : Action → ℕ → Drawn
drawn a g = record { action = a; generator = g }

-- of an idle task: kind, cell, and for a swap the expected and the new value
unfoldable pub drawn_begin : (task cells generator : ℕ) → Drawn
drawn_begin t v g =
    let g₁ = next g in
    let g₂ = next g₁ in
    let g₃ = next g₂ in
    let g₄ = next g₃ in
    cond (eqb (below 2 g₁) 0)
    (drawn (begin t (read (below v g₂))) g₂)
    (drawn (begin t (swap (below v g₂) (below 4 g₃) (below 4 g₄))) g₄)

-- a busy task steps
unfoldable pub drawn_action : (tasks cells : ℕ) → State → (generator : ℕ) → Drawn
drawn_action n v s g =
    let g₁ = next g in
    let t = below n g₁ in
    cond (is_idle (record_at s.records t)) (drawn_begin t v g₁) (drawn (step t) g₁)
