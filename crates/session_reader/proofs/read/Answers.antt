use Rattle.std.proofs.Common.{ℕ, ap, sym, ◌∙◌, replicate}
use Rattle.session_reader.proofs.Parsing.{refused, accepted}
use Rattle.session_reader.proofs.Verdicts.{is_12, is_13, asked, alike}
use Rattle.session_reader.specs.Tables.{buffers}
use Rattle.session_reader.proofs.read.Goals as goal

pub returns-then-file-gt65536 : goal.returns-then-file-gt65536
returns-then-file-gt65536 c =
    let a = c.args in
    let j = is_12 a.file.now (buffers a.values.now a.kept.now a.actions.now) c.if-file-gt65536.true in
    record { actions_after = sym j.0; in_buffers = tt; actions_after_2 = sym j.1 }

pub returns-then-not-shaped : goal.returns-then-not-shaped
returns-then-not-shaped c =
    let a = c.args in
    let j = is_13 a.file.now (buffers a.values.now a.kept.now a.actions.now) c.if-file-gt65536.false (sym c.if-not-shaped.ensures) in
    record { actions_after = sym j.0; in_buffers = tt; actions_after_2 = sym j.1 }

pub returns-then-is_err-clause-actions_after : goal.returns-then-is_err-clause-actions_after
returns-then-is_err-clause-actions_after c =
    let a = c.args in
    let b = buffers a.values.now a.kept.now a.actions.now in
    let j = asked a.file.now b c.if-file-gt65536.false (sym c.if-not-shaped.ensures) in
    (refused a.file.now b _ c.parsed-found.result _ _ _ c.if-is_err.ensures.value c.parsed-found.ensures).0 ∙ sym j.0

pub returns-then-is_err-clause-actions_after_2 : goal.returns-then-is_err-clause-actions_after_2
returns-then-is_err-clause-actions_after_2 c =
    let a = c.args in
    let b = buffers a.values.now a.kept.now a.actions.now in
    let j = asked a.file.now b c.if-file-gt65536.false (sym c.if-not-shaped.ensures) in
    let same = c.parsed-found.auto in
    let wiped =
    alike (c.fill.ensures.after (λ y e. e) ∙ ap (λ (k : ℕ). replicate k 0) same.values)
    (c.fill-then-is_err.ensures.after (λ y e. e) ∙ ap (λ (k : ℕ). replicate k 0) same.kept)
    (c.fill-then-is_err-2.ensures.after (λ y e. e) ∙ ap (λ (k : ℕ). replicate k 0) same.actions) in
    wiped ∙ (refused a.file.now b _ c.parsed-found.result a.values.now a.kept.now a.actions.now c.if-is_err.ensures.value c.parsed-found.ensures).1 ∙ sym j.1

pub returns-else-is_err-clause-actions_after : goal.returns-else-is_err-clause-actions_after
returns-else-is_err-clause-actions_after c =
    let a = c.args in
    let b = buffers a.values.now a.kept.now a.actions.now in
    let j = asked a.file.now b c.if-file-gt65536.false (sym c.if-not-shaped.ensures) in
    (accepted a.file.now b _ c.parsed-found.result c.if-is_err.ensures.value c.parsed-found.ensures).0 ∙ sym j.0

pub returns-else-is_err-clause-actions_after_2 : goal.returns-else-is_err-clause-actions_after_2
returns-else-is_err-clause-actions_after_2 c =
    let a = c.args in
    let b = buffers a.values.now a.kept.now a.actions.now in
    let j = asked a.file.now b c.if-file-gt65536.false (sym c.if-not-shaped.ensures) in
    (accepted a.file.now b _ c.parsed-found.result c.if-is_err.ensures.value c.parsed-found.ensures).1 ∙ sym j.1
