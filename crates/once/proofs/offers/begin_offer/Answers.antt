use Rattle.std.proofs.Common.{◌≡◌, rules, sym, Err}
use Rattle.cells_spec.proofs.Further.{refused-first, asked_further}
use Rattle.once_spec.specs.Entries.{offer_begun}
use Rattle.once.specs.Asked.{place_questions}
use Rattle.once.proofs.Words.{cell-is}
use Rattle.once.proofs.offers.begin_offer.Goals as goal

pub returns-in_err-ask_place : goal.returns-in_err-ask_place
unfolding offer_begun
returns-in_err-ask_place c = let e = c.args in
    let why : c.from_residual.result ≡ Err c.in_err-ask_place.field-0.0 = search rules in
    rw (why, refused-first (place_questions e.s.now e.task e.cell) _ _ (sym c.in_err-ask_place.ensures.questions))

pub returns-in_err-ask_offer : goal.returns-in_err-ask_offer
unfolding offer_begun
returns-in_err-ask_offer c = let e = c.args in
    let cell = cell-is e.s.now (search rules) e.cell c.in_ok-ask_place.ensures.within.1 in
    let why : c.from_residual-in_err-ask_offer.result ≡ Err c.in_err-ask_offer.field-0.0 = search rules in
    rw (why, asked_further (place_questions e.s.now e.task e.cell) _ (sym c.in_ok-ask_place.ensures.questions), ← cell, ← c.in_err-ask_offer.ensures {u = tt})

pub returns : goal.returns
unfolding offer_begun
returns c = let e = c.args in
    let cell = cell-is e.s.now (search rules) e.cell c.in_ok-ask_place.ensures.within.1 in
    rw (asked_further (place_questions e.s.now e.task e.cell) _ (sym c.in_ok-ask_place.ensures.questions), ← cell, ← c.in_ok-ask_offer.ensures {u = tt}, c.first.ensures)
