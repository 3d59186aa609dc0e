use Rattle.std.proofs.Common.{sym, arith}
use Rattle.cells_spec.proofs.Tests.{yes-at}
use Rattle.once.specs.Asked.{task_questions}
use Rattle.once.proofs.Fits.{sizes}
use Rattle.once.proofs.questions.ask_place.Goals as goal

pub returns-clause-within : goal.returns-clause-within
returns-clause-within c = let s = c.args.s.now in
    let fit = yes-at (task_questions s c.args.task) (sym c.in_ok-ask_task.ensures.questions) 0 in
    (c.in_ok-ask_task.ensures.within, omega (arith, (sizes s fit).1))
