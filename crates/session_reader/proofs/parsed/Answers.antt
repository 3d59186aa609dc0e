use Rattle.std.proofs.Common.{◌≡◌, ◌≤◌, arith, sym, ◌∙◌}
use Rattle.session_reader.specs.Tables.{buffers}
use Rattle.session_reader.specs.declared.reading.ReadError.TheVariants.{Form}
use Rattle.session_reader.proofs.Parsing.{passed_on, rest_refused}
use Rattle.session_reader.proofs.Denoting.{kept-actions}
use Rattle.session_reader.proofs.Verdicts.{unopened, is-session, alike, written_over}
use Rattle.session_spec.specs.Session as specs
use Rattle.session_reader.proofs.parsed.Goals as goal

pub returns-in_err-first : goal.returns-in_err-first
returns-in_err-first c =
    let a = c.args in
    let none = rw c.in_err-first.ensures.ok_part at c.opening.ensures.opened_is in
    let e = rw c.in_err-first.ensures.ok_part at c.in_err-first.ensures.value in
    let f : c.in_err-first.field-0.0 ≡ Form = cc e in
    let b = buffers a.values.now a.kept.now a.actions.now in
    passed_on a.file.now b _ c.from_residual.result c.in_err-first.field-0.0 c.from_residual.ensures.1 (rw f (unopened a.file.now b none))

pub returns-in_err-count : goal.returns-in_err-count
returns-in_err-count c =
    let a = c.args in
    let x = rw c.in_ok-first.ensures.ok_part at c.opening.ensures.opened_is in
    let b = buffers a.values.now a.kept.now a.actions.now in
    passed_on a.file.now b _ c.from_residual-in_err-count.result c.in_err-count.field-0.0 c.from_residual-in_err-count.ensures.1 (rest_refused a.file.now b a.kept.now c.lines.new.forms a.actions.now c.lines.new.actions c.in_err-count.field-0.0 c.requires.actions_len x c.in_err-count.ensures)

pub returns : goal.returns
returns c =
    let a = c.args in
    let x = rw c.in_ok-first.ensures.ok_part at c.opening.ensures.opened_is in
    let v = rw c.in_ok-first.ensures.ok_part at c.opening.ensures.opened_within in
    let y = c.in_ok-count.ensures in
    let z = kept-actions y.0 a.kept.now a.actions.now _ y.3 in
    let few : specs.counts y.0 ≤ 65535 = omega (arith, y.3, y.4) in
    let j = is-session a.file.now (buffers a.values.now a.kept.now a.actions.now) x y.2 few in
    let named = rw (← y.5, ← y.6) at z in
    (rw named.0 (sym j.0), record { some = v.0; many = omega (arith, y.4); named = named.1 }, alike (written_over a.values.now _ _ v) y.5 y.6 ∙ sym j.1)
