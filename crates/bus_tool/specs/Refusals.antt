-- The number of the question that refuses.
use Rattle.std.specs.Prelude.{ℕ}
use Rattle.bus_tool.specs.declared.refusal.TimesRefusal.{TimesRefusal}
use Rattle.bus_tool.specs.declared.refusal.TimesRefusal.TheVariants as why

abbrev pub number : TimesRefusal → ℕ
number why.Unordered = 21
number why.TooLong = 22
