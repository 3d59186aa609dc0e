use mathlib.Core.Path.{◌≡◌, sym, ap, ◌∙◌}
use Rattle.std.specs.Prelude.{Option, Ok}
use Rattle.std.proofs.lemmas.Result.{err_from_is_err_and}
use Rattle.figure_lines.specs.declared.Finished.{Finished}
use Rattle.figure_lines.specs.Answers.{result_of}
use Rattle.cells_spec.specs.Answers.{Acted, Ended, answered}
use Rattle.cells_spec.specs.Open.{After, leaving}
use Rattle.cells_spec.specs.Step.{stepped}
use Rattle.adds_spec.proofs.Entries.{unfit_step, stepped_by, step_refused}
use Rattle.cells.proofs.SmallParts.{parts-fit}
use Rattle.cells.proofs.adding.step.Goals as goal
use Rattle.cells.proofs.adding.step.Goals.{In_ok-step}

-- By what the cells' own step came to.
came : (c : In_ok-step) (o : Option Finished) → c.in_ok-step.field-0 ≡ o → let e = c.args in leaving c.step.new.s c.step.new.pool (answered (Ok o)) ≡ stepped e.s.now.cells e.pool.now e.task
came c o h = ap (λ (x : Option Finished). leaving c.step.new.s c.step.new.pool (answered (Ok x))) (sym h) ∙ c.in_ok-step.ensures

pub returns-then-not-adds_fit : goal.returns-then-not-adds_fit
returns-then-not-adds_fit c = let e = c.args in unfit_step e.s.now e.pool.now e.task c.if-not-adds_fit.ensures

pub returns-in_err-step : goal.returns-in_err-step
returns-in_err-step c = let e = c.args in
    let k = err_from_is_err_and c.from_residual.result c.from_residual.ensures.1 in
    rw (k.1, k.2) (step_refused e.s.now e.pool.now e.task c.if-not-adds_fit.ensures _ _ _ c.in_err-step.ensures)

pub returns-in-None : goal.returns-in-None
returns-in-None c = let e = c.args in
    stepped_by e.s.now e.pool.now e.task c.if-not-adds_fit.ensures _ _ Acted (came (goal.at.returns-in-None c).In_ok-step _ c.in-None.is)

pub end_part-requires : goal.end_part-requires
end_part-requires c = let e = c.args in
    parts-fit e.s.now e.pool.now e.task _ (sym c.if-not-adds_fit.ensures) (ap (λ (x : After). x.outcome) (sym (came (goal.at.end_part-requires c).In_ok-step _ c.in-Some.is)))

pub returns-in-Some : goal.returns-in-Some
returns-in-Some c = let e = c.args in
    c.end_part.ensures _ ∙ stepped_by e.s.now e.pool.now e.task c.if-not-adds_fit.ensures _ _ (Ended (result_of c.in-Some.f)) (came (goal.at.returns-in-Some c).In_ok-step _ c.in-Some.is)
