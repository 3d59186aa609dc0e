-- A line written out.
use Rattle.std.specs.Prelude.{◌≡◌, refl}
use Rattle.text.specs.Bytes.{bytes, digits}
use Rattle.history_spec.specs.History.{a_swap}
use Rattle.history_spec.specs.Moments.{after, C6}
use Rattle.moments_spec.specs.Lines.{at_line}

pub failed_line_30 : at_line (record { moment = 29; side = after; rule = C6 }) 1 a_swap 0 ≡ bytes "(at 29 after 1 swap 0 C6)\n"
unfolding at_line digits
failed_line_30 = refl
