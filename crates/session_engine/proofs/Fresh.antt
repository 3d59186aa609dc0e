-- The sizes of a state that was reached.
use mathlib.Core.Path.{◌≡◌, sym, ap, ◌∙◌}
use mathlib.Core.List.{List}
use Prim.Native.Nat.{ℕ}
use Rattle.cells_spec.specs.declared.State.{State}
use Rattle.cells_spec.specs.Machine.{Pool}
use Rattle.cells_theorems.specs.Reached.{Reached}
use Rattle.cells_theorems.proofs.Refines.{together}

pub reached_sizes : {n v : ℕ} {s : State} {p : List ℕ} → Reached n v s p → (n ≡ s.tasks) × (v ≡ s.cells)
reached_sizes {n} {v} {s} {p} r =
    let sizes = (together r.old r.words n v r.blocks r.values r.allowed r.actions).agree.sizes in
    (sym (ap (λ (x : Pool). x.0.tasks) r.came ∙ sizes.same-tasks), sym (ap (λ (x : Pool). x.0.cells) r.came ∙ sizes.same-cells))
