use native.Mathlib.Omega.{arith}
use mathlib.Core.List.{[], ◌∷◌}
use Rattle.text.specs.Bytes.{bytes}
use Rattle.text.proofs.Spaced.{line_length, numbers_length, none_length, decimal_64}
use Rattle.nudge_tool.proofs.printing.put_nudge.Goals as goal

pub line-requires : goal.line-requires
line-requires c = let i = c.in-Some.i in omega (arith, line_length (bytes "(nudge") (i ∷ []), numbers_length i [], none_length, decimal_64 i (omega arith))
