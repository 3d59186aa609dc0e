-- What a program takes from the arguments that it is started with.
use Rattle.std.specs.Prelude.{Option, Some, None}
use Rattle.std.proofs.Math.Option as Math

-- the code's Option as the definitions' own; figure_lines has the same, on which this crate does not rest
abbrev pub math_option : {A : Type 0} → Option A → Math.Option A
math_option None = Math.none
math_option (Some x) = Math.some x
