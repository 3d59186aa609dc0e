use Rattle.std.proofs.Common.{rules, arith, ◌∙◌}
use Rattle.session_reader.proofs.Standing.{spilled, stands-whole}
use Rattle.session_reader.proofs.Denoting.{length_names}
use Rattle.session_reader.proofs.forms.lines.Goals as goal

pub returns-then-over : goal.returns-then-over
returns-then-over c =
    let y = rw c.in_ok-over.ensures.ok_part at c.all_lines.ensures.got in
    (y.0, c.in_ok-over.field-0-1, y.1, omega (arith, spilled y.2 c.if-over.true, length_names y.0))

pub returns : goal.returns
returns c =
    let y = rw c.in_ok-over.ensures.ok_part at c.all_lines.ensures.got in
    let z = stands-whole y.2 c.if-over.false in
    let same = c.all_lines.ensures.same in
    (y.0, c.in_ok-over.field-0-1, y.1, z.0 ∙ length_names y.0, y.2.room, search rules, search rules)
