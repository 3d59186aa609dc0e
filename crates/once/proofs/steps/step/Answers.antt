use Rattle.std.proofs.Common.{◌≡◌, ◌∙◌, rules, sym, ap, Err, get_or}
use mathlib.Core.Option.{none}
use borrow.Author.Tests.{eq-eqb, ne_eqb}
use Rattle.cells_spec.specs.Questions.{refusal}
use Rattle.cells_spec.proofs.Further.{refused-first, asked_further}
use Rattle.once_spec.specs.Questions.{offer_at, once_at}
use Rattle.once_spec.specs.Figure.{leaves}
use Rattle.once_spec.specs.Entries.{stored_back, once_stepped}
use Rattle.once.specs.Asked.{task_questions, busy_questions}
use Rattle.once.proofs.Known.{known_busy}
use Rattle.once.proofs.Words.{zero_cell, cell-is}
use Rattle.once.proofs.steps.step.Goals as goal

pub returns-in_err-ask_task : goal.returns-in_err-ask_task
unfolding once_stepped
returns-in_err-ask_task c = let e = c.args in
    let why : c.from_residual.result ≡ Err c.in_err-ask_task.field-0.0 = search rules in
    rw (why, refused-first (task_questions e.s.now e.task) _ _ (sym c.in_err-ask_task.ensures.questions))

pub returns-then-s-t-eq0 : goal.returns-then-s-t-eq0
unfolding once_stepped
returns-then-s-t-eq0 c = let e = c.args in
    rw (asked_further (task_questions e.s.now e.task) (busy_questions (offer_at e.s.now e.task)) (sym c.in_ok-ask_task.ensures.questions), eq-eqb _ _ c.if-s-t-eq0.true)

pub bounds-s-k : goal.bounds-s-k
bounds-s-k c = let e = c.args in (known_busy e.s.now e.task (sym c.in_ok-ask_task.ensures.questions) c.if-s-t-eq0.false).0

pub take_turn-requires : goal.take_turn-requires
take_turn-requires c = let e = c.args in (known_busy e.s.now e.task (sym c.in_ok-ask_task.ensures.questions) c.if-s-t-eq0.false).1

pub returns : goal.returns
unfolding once_stepped
returns c = let e = c.args in
    let s = e.s.now in
    let r = offer_at s e.task in
    let placed : refusal (task_questions s e.task) ≡ none = sym c.in_ok-ask_task.ensures.questions in
    let asked : refusal (busy_questions r) ≡ none = rw (ne_eqb _ _ c.if-s-t-eq0.false) in
    let cell : get_or s.words r.cell zero_cell ≡ once_at s r.cell = cell-is s (search rules) r.cell (known_busy s e.task placed c.if-s-t-eq0.false).0 in
    rw (asked_further (task_questions s e.task) (busy_questions r) placed ∙ asked)
    (ap (stored_back s e.task r.cell) (c.take_turn.ensures ∙ ap (leaves e.task r) cell))
