use Rattle.std.proofs.Common.{◌≡◌, ◌∙◌, sym, true, false}
use mathlib.Core.Bool.{and-true}
use Rattle.cells_spec.specs.Questions.{tasks_ok, cells_ok}
use Rattle.once_spec.specs.Questions.{once_fit}
use Rattle.once.proofs.Fits.{offers_fit-taken}
use Rattle.once.proofs.questions.is_fit.Goals as goal
use Rattle.once.proofs.questions.is_fit.Goals.{then-tasks_ok, else-tasks_ok}

pub returns-then-cells_ok : goal.returns-then-cells_ok
unfolding once_fit
returns-then-cells_ok c = let s = c.args.s.now in
    elim c.if-tasks_ok.branch [
      | then-tasks_ok w ↦
          let n : tasks_ok s.tasks ≡ true = sym (w.if-tasks_ok.ensures {u = tt}) in
          let k : cells_ok s.cells ≡ true = sym w.cells_ok.ensures ∙ sym w.value-is ∙ c.if-cells_ok.true in
          rw (n, k, and-true, offers_fit-taken s) c.all_fit.ensures
      | else-tasks_ok w ↦
          let no : true ≡ false = sym c.if-cells_ok.true ∙ w.value-is ∙ w.if-tasks_ok.false in
          absurd cc
    ]

pub returns-else-cells_ok : goal.returns-else-cells_ok
unfolding once_fit
returns-else-cells_ok c = let s = c.args.s.now in
    elim c.if-tasks_ok.branch [
      | then-tasks_ok w ↦
          let k : cells_ok s.cells ≡ false = sym w.cells_ok.ensures ∙ sym w.value-is ∙ c.if-cells_ok.false in
          rw (← w.if-tasks_ok.ensures {u = tt}, k) c.if-cells_ok.false
      | else-tasks_ok w ↦ rw (← w.if-tasks_ok.ensures {u = tt}) c.if-cells_ok.false
    ]
