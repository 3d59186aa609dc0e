-- How many bytes were read, all or not.
use Rattle.std.specs.Prelude.{ℕ, Ok, Err}
use Rattle.std.specs.declared.result.Result.{Result}
use Rattle.program_io.specs.declared.report.Cut.{Cut}

abbrev pub count_of : Result ℕ Cut → ℕ
count_of (Ok n) = n
count_of (Err c) = c.count
