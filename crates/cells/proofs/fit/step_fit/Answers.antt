use mathlib.Core.Path.{sym, ◌∙◌}
use native.Mathlib.Omega.{arith}
use borrow.Author.Tests.{le-ltb}
use Rattle.std.proofs.Common.{rules}
use Rattle.std.proofs.lemmas.Result.{err_from_is_err_and}
use Rattle.figure_lines.specs.Record.{record_at}
use Rattle.cells_spec.specs.Step.{stepped}
use Rattle.cells_spec.proofs.CountsKept.{Arrays}
use Rattle.cells_spec.proofs.Fits.{sizes}
use Rattle.cells_spec.proofs.Stepping.{Acting}
use Rattle.cells.proofs.Asked.{handed, step_refused, step_acts, countable, recounts, goes_on, stays, moves}
use Rattle.cells.proofs.fit.step_fit.Goals as goal
use Rattle.cells.proofs.fit.step_fit.Goals.{In_ok-step_questions}

its : (c : In_ok-step_questions) → let e = c.args in Acting e.s.now e.pool.now e.task (record_at e.s.now.records e.task)
its c = let e = c.args in step_acts e.s.now e.pool.now e.task c.requires _ c.free_block-free.ensures _ c.is_some.ensures c.in_ok-step_questions.ensures

pub returns-then-s-task : goal.returns-then-s-task
unfolding stepped
returns-then-s-task c = rw (c.requires, le-ltb _ _ c.if-s-task.true)

pub bounds-s-t : goal.bounds-s-t
bounds-s-t c = omega (arith, c.if-s-task.false, (sizes c.args.s.now c.args.pool.now c.requires).tasks)

pub returns-in_err-step_questions : goal.returns-in_err-step_questions
returns-in_err-step_questions c =
    let k = err_from_is_err_and c.from_residual.result c.from_residual.ensures.1 in
    let e = c.args in
    rw (k.1, k.2) (step_refused e.s.now e.pool.now e.task c.requires _ c.free_block-free.ensures _ c.is_some.ensures c.in_err-step_questions.ensures)

pub overflow_cast-k : goal.overflow_cast-k
overflow_cast-k c = omega (arith, (its (goal.at.overflow_cast-k c).In_ok-step_questions).cell)

pub offset_bounds-s-k : goal.offset_bounds-s-k
offset_bounds-s-k c = omega (arith, (its (goal.at.offset_bounds-s-k c).In_ok-step_questions).cell)

pub bounds-s-k : goal.bounds-s-k
bounds-s-k c = (its (goal.at.bounds-s-k c).In_ok-step_questions).cell

pub make_move-ended-requires-clause-ready : goal.make_move-ended-requires-clause-ready
make_move-ended-requires-clause-ready c = (its (goal.at.make_move-ended-requires-clause-ready c).In_ok-step_questions).ready

pub make_move-ended-requires-clause-there : goal.make_move-ended-requires-clause-there
make_move-ended-requires-clause-there c = let e = c.args in
    (its (goal.at.make_move-ended-requires-clause-there c).In_ok-step_questions).there _ (handed e.s.now e.pool.now e.task c.requires _ c.free_block-free.ensures)

pub offset_bounds-s-k-2 : goal.offset_bounds-s-k-2
offset_bounds-s-k-2 c = omega (arith, (its (goal.at.offset_bounds-s-k-2 c).In_ok-step_questions).cell)

pub bounds-s-k-2 : goal.bounds-s-k-2
bounds-s-k-2 c = (its (goal.at.bounds-s-k-2 c).In_ok-step_questions).cell

pub offset_bounds-s-k-then-is_some : goal.offset_bounds-s-k-then-is_some
offset_bounds-s-k-then-is_some c = omega (arith, (its (goal.at.offset_bounds-s-k-then-is_some c).In_ok-step_questions).cell)

pub bounds-s-k-then-is_some : goal.bounds-s-k-then-is_some
bounds-s-k-then-is_some c = (its (goal.at.bounds-s-k-then-is_some c).In_ok-step_questions).cell

pub recount-requires : goal.recount-requires
recount-requires c = let e = c.args in
    let s = e.s.now in
    let long : Arrays s = search rules in
    let h = handed s e.pool.now e.task c.requires _ c.free_block-free.ensures in
    countable s e.pool.now e.task _ h (its (goal.at.recount-requires c).In_ok-step_questions) long _ c.make_move-ended.ensures

pub returns-then-is_some : goal.returns-then-is_some
returns-then-is_some c = let e = c.args in
    let s = e.s.now in
    let long : Arrays s = search rules in
    let h = handed s e.pool.now e.task c.requires _ c.free_block-free.ensures in
    let a = its (goal.at.returns-then-is_some c).In_ok-step_questions in
    moves s e.pool.now e.task _ h a long _ c.make_move-ended.ensures (recounts s e.pool.now e.task _ h a long _ c.make_move-ended.ensures c.recount.ensures)

pub returns-else-matches : goal.returns-else-matches
returns-else-matches c = let e = c.args in
    let s = e.s.now in
    let long : Arrays s = search rules in
    let h = handed s e.pool.now e.task c.requires _ c.free_block-free.ensures in
    let a = its (goal.at.returns-else-matches c).In_ok-step_questions in
    moves s e.pool.now e.task _ h a long _ c.make_move-ended.ensures (stays s e.pool.now e.task _ h a long _ c.make_move-ended.ensures (search rules) (goes_on c.make_move-ended.result (sym c.is_some-2.ensures ∙ c.if-is_some.false)))
