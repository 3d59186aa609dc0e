use Rattle.std.proofs.Common.{length}
use Rattle.session_reader.proofs.Verdicts.{other_sizes, same_sizes}
use Rattle.session_reader.specs.Reading.{verdict_in}
use Rattle.session_reader.specs.Tables.{after_reading_into}
use Rattle.session_reader.proofs.read_session.Goals as goal

pub returns-then-ne : goal.returns-then-ne
unfolding verdict_in after_reading_into
returns-then-ne c =
    let a = c.args in
    let e = other_sizes (length a.values.now) (length a.forms.now) (length a.actions.now) c.if-ne.ensures in
    record { actions_after = rw e; in_buffers = tt; actions_after_2 = rw e }

pub returns : goal.returns
unfolding verdict_in after_reading_into
returns c =
    let a = c.args in
    let e = same_sizes (length a.values.now) (length a.forms.now) (length a.actions.now) c.if-ne.ensures in
    let r = c.read.ensures in
    record { actions_after = rw e r.actions_after; in_buffers = r.in_buffers; actions_after_2 = rw e r.actions_after_2 }
