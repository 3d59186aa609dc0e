-- The code's totals as the definition's.
use Rattle.session_spec.specs.Printed.{Totals, totals}
use Rattle.session_tool.specs.declared.play.Tally.{Tally}

abbrev pub totals_of : Tally → Totals
totals_of z = totals z.finished z.hard
