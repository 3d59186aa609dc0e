-- Every state that an opening and actions lead to is fit, and has a block for line 4: a program that starts with an opening need not ask
-- questions 6 and 20 again.
use mathlib.Core.Path.{◌≡◌, refl, sym, ap, subst, ◌∙◌}
use mathlib.Core.Bool.{true, ◌||◌, not}
use mathlib.Core.Option.{none}
use mathlib.Core.List.{List, [], ◌∷◌, ◌++◌}
use Prim.Native.Nat.{ℕ, ◌<◌}
use lib.Dec.{eqb}
use lib.ListN.{length}
use Rattle.cells_spec.specs.declared.State.{State}
use Rattle.figure_lines.specs.Record.{record_at}
use Rattle.cells_spec.specs.Questions.{refusal, fit, open_questions}
use Rattle.cells_spec.specs.Blocks.{unused, is_found}
use Rattle.history_spec.specs.History.{Action}
use Rattle.history_linearization.proofs.EveryAction.{run-snoc}
use Rattle.cells_spec.specs.Machine.{Pool, pool}
use Rattle.cells_spec.proofs.CountsKept.{Arrays}
use Rattle.cells_theorems.specs.Terms.{start}
use Rattle.cells_theorems.specs.Reached.{Reached}
use Rattle.cells_theorems.proofs.Steps.{yes_20}
use Rattle.cells_theorems.proofs.Refines.{together, always_fit}

pub reached_open : (old : State) (words : List ℕ) (tasks cells blocks : ℕ) (values : List ℕ) → refusal (open_questions (length words) tasks cells blocks values) ≡ none
    → Reached tasks cells (start old words tasks cells blocks values).0 (start old words tasks cells blocks values).1
reached_open old words tasks cells blocks values allowed = record { old = old; words = words; blocks = blocks; values = values; allowed = allowed; actions = []; came = refl }

module _ {tasks cells : ℕ} {state : State} {pool-words : List ℕ} (r : Reached tasks cells state pool-words) where
  pub reached-next : (action : Action) → let now = (pool (state, pool-words) action).0 in Reached tasks cells now.0 now.1
  reached-next a = record {
    old = r.old;
    words = r.words;
    blocks = r.blocks;
    values = r.values;
    allowed = r.allowed;
    actions = r.actions ++ (a ∷ []);
    came = ap (λ (x : Pool). (pool x a).0) r.came ∙ sym (run-snoc pool (start r.old r.words tasks cells r.blocks r.values) r.actions a);
  }

  pub reached-fit : fit state pool-words ≡ true
  reached-fit = subst (λ (x : Pool). fit x.0 x.1 ≡ true) (sym r.came) (always_fit r.old r.words tasks cells r.blocks r.values r.allowed r.actions)

  pub reached_20 : (task : ℕ) → task < tasks → (not (eqb (record_at state.records task).line 4) || is_found (unused state)) ≡ true
  reached_20 t l =
      let g = together r.old r.words tasks cells r.blocks r.values r.allowed r.actions in
      subst (λ (x : Pool). (not (eqb (record_at x.0.records t).line 4) || is_found (unused x.0)) ≡ true) (sym r.came) (yes_20 g.agree (g.well []) g.counts g.spare t l)

  pub reached_arrays : Arrays state
  reached_arrays = subst (λ (x : Pool). Arrays x.0) (sym r.came) (together r.old r.words tasks cells r.blocks r.values r.allowed r.actions).arrays
