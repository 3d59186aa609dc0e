use native.Mathlib.Omega.{arith}
use borrow.Author.Tests.{le-ltb}
use Rattle.std.proofs.Common.{rules}
use Rattle.std.proofs.lemmas.Result.{err_from_is_err_and}
use Rattle.cells_spec.specs.Drop.{dropped}
use Rattle.cells_spec.proofs.CountsKept.{Arrays}
use Rattle.cells_spec.proofs.Dropping.{its-names, drops}
use Rattle.cells_spec.proofs.Fits.{sizes}
use Rattle.cells.proofs.Asked.{drop_refused, drop_allowed}
use Rattle.cells.proofs.fit.drop_fit.Goals as goal

pub returns-then-s-task : goal.returns-then-s-task
unfolding dropped
returns-then-s-task c p e = rw (e, le-ltb _ _ c.if-s-task.true)

pub bounds-s-t : goal.bounds-s-t
bounds-s-t c = omega (arith, c.if-s-task.false, (sizes c.args.s.now c.requires.0 c.requires.1).tasks)

pub returns-in_err-step_questions : goal.returns-in_err-step_questions
returns-in_err-step_questions c p e =
    let k = err_from_is_err_and c.from_residual.result c.from_residual.ensures.1 in
    rw (k.1, k.2) (drop_refused c.args.s.now p c.args.task e c.in_err-step_questions.ensures)

pub release-requires : goal.release-requires
release-requires c =
    let s = c.args.s.now in
    let long : Arrays s = search rules in
    its-names s c.requires.0 c.args.task (drop_allowed s c.requires.0 c.args.task c.requires.1 c.in_ok-step_questions.ensures) long

pub returns : goal.returns
returns c p e =
    let s = c.args.s.now in
    drops s p c.args.task (drop_allowed s p c.args.task e c.in_ok-step_questions.ensures) c.idle.ensures c.release.ensures
