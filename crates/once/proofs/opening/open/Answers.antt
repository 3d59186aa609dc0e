use mathlib.Core.Path.{refl}
use Rattle.std.proofs.Common.{◌≡◌, Err, rules}
use Rattle.once_spec.specs.Entries.{once_opened}
use Rattle.once.proofs.opening.open.Goals as goal

pub returns-in_err-ask : goal.returns-in_err-ask
unfolding once_opened
returns-in_err-ask c =
    let e : c.from_residual.result ≡ Err c.in_err-ask.field-0.0 = search rules in
    rw (e, ← c.in_err-ask.ensures {u = tt})

pub returns : goal.returns
unfolding once_opened
returns c = rw (← c.in_ok-ask.ensures {u = tt}, ← c.fresh_cell.ensures, ← c.idle.ensures) refl
