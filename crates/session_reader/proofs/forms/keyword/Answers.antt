use Rattle.std.proofs.Common.{arith}
use Rattle.session_spec.specs.Session.{keyword}
use Rattle.session_reader.proofs.forms.keyword.Goals as goal

-- The words in their order: each is not there, or it is found.
pub returns-in-Some : goal.returns-in-Some
unfolding keyword
returns-in-Some c = let x = c.in-Some.ensures in record { finds = rw x.finds; past = omega (arith, x.past); within = x.within }

pub returns-in-Some-starts_with : goal.returns-in-Some-starts_with
unfolding keyword
returns-in-Some-starts_with c =
    let x = c.in-Some-starts_with.ensures in
    record { finds = rw (c.in_default.ensures, x.finds); past = omega (arith, x.past); within = x.within }

pub returns-in-Some-starts_with-2 : goal.returns-in-Some-starts_with-2
unfolding keyword
returns-in-Some-starts_with-2 c =
    let x = c.in-Some-starts_with-2.ensures in
    record { finds = rw (c.in_default.ensures, c.in_default-starts_with.ensures, x.finds); past = omega (arith, x.past); within = x.within }

pub returns-in-Some-starts_with-3 : goal.returns-in-Some-starts_with-3
unfolding keyword
returns-in-Some-starts_with-3 c =
    let x = c.in-Some-starts_with-3.ensures in
    record {
      finds = rw (c.in_default.ensures, c.in_default-starts_with.ensures, c.in_default-starts_with-2.ensures, x.finds);
      past = omega (arith, x.past);
      within = x.within;
    }

pub returns-in_err-next : goal.returns-in_err-next
unfolding keyword
returns-in_err-next c =
    rw c.from_residual.ensures (rw (c.in_default.ensures, c.in_default-starts_with.ensures, c.in_default-starts_with-2.ensures, c.in_default-starts_with-3.ensures, c.in_err-next.ensures))

pub returns : goal.returns
unfolding keyword
returns c =
    let x = c.in_ok-next.ensures in
    record {
      finds = rw (c.in_default.ensures, c.in_default-starts_with.ensures, c.in_default-starts_with-2.ensures, c.in_default-starts_with-3.ensures, x.finds);
      past = omega (arith, x.past);
      within = x.within;
    }
