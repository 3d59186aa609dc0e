use mathlib.Core.Path.{sym}
use native.Mathlib.Omega.{arith}
use Rattle.std.proofs.lemmas.Result.{err_from_is_err_and}
use Rattle.cells_spec.specs.Open.{opened}
use Rattle.cells_spec.proofs.Replies.{opens}
use Rattle.cells.proofs.Asked.{refuses}
use Rattle.cells.proofs.opening.open.Goals as goal

pub returns-in_err-open_questions : goal.returns-in_err-open_questions
unfolding opened
returns-in_err-open_questions c =
    let k = err_from_is_err_and c.from_residual.result c.from_residual.ensures.1 in
    rw (k.1, k.2) (refuses c.args.s.now c.args.pool.now _ c.in_err-open_questions.ensures)

pub fill_blocks-requires : goal.fill_blocks-requires
fill_blocks-requires c = let e = c.args in
    let z = opens e.pool.now e.values.now e.tasks e.cells e.blocks (sym c.in_ok-open_questions.ensures) in
    let l = c.fill.auto.self in
    (z.1, omega (arith, z.2))

pub open_state-requires : goal.open_state-requires
open_state-requires c = let e = c.args in
    let z = opens e.pool.now e.values.now e.tasks e.cells e.blocks (sym c.in_ok-open_questions.ensures) in
    (z.0, z.3)

pub returns : goal.returns
unfolding opened
returns c = rw (← c.in_ok-open_questions.ensures, c.fill_blocks.ensures, c.fill.ensures.after (λ y e. e), c.open_state.ensures)
