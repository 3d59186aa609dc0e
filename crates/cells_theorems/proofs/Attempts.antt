-- Of an accepted step, in any state: its hardware CAS is won or lost by the memory before it.
use mathlib.Core.Path.{◌≡◌, refl}
use mathlib.Core.Option.{none}
use mathlib.Core.List.{List}
use Prim.Native.Nat.{ℕ}
use Rattle.figure_lines.specs.Record.{record_at}
use Rattle.cells_spec.specs.declared.State.{State}
use Rattle.cells_spec.specs.Questions.{refusal}
use Rattle.cells_spec.specs.Pool.{word}
use Rattle.cells_spec.specs.Memory.{Shared, pool_keeping}
use Rattle.figure_lines.proofs.Cas.{decide-value, install-value}
use Rattle.cells_spec.specs.Blocks.{unused}
use Rattle.cells_spec.specs.Step.{current, step_asks, memory_answers}
use Rattle.cells_spec.specs.Machine.{tried_by}
use Rattle.cells_spec.proofs.Stepping.{own_acting}
use Rattle.history_spec.specs.History.{step}
use Rattle.figure_moments.specs.Attempts.{judged}
use Rattle.figure_moments.proofs.Attempts.{judge}
use Rattle.cells_theorems.specs.Moments.{sees_pool}

-- A step's attempt is won exactly if the memory before it had D none, at line 2, or the held block current, at line 30; neither is guessed.
pub cell_attempts_judged : (state : State) (words : List ℕ) (task : ℕ) → refusal (step_asks state words task) ≡ none
    → tried_by state words (step task) ≡ judged (sees_pool (state, words) task)
cell_attempts_judged s p t g =
    let r = record_at s.records t in
    let m : Shared = record { words = p; named = current s r.cell; last = s.last } in
    judge (record_at s.records) (current s) (λ k. word p) t (memory_answers s p r) (own_acting s p t g).line
    (decide-value (pool_keeping (unused s)) m (λ a. a.value) (λ x v. refl)) (install-value (pool_keeping (unused s)) m (λ a. a.value) (λ x v. refl))
