-- The number of the question that refuses.
use Rattle.std.specs.Prelude.{ℕ}
use Rattle.shake_tool.specs.declared.refusal.ShakeRefusal.{ShakeRefusal}
use Rattle.shake_tool.specs.declared.refusal.ShakeRefusal.TheVariants as why

abbrev pub number : ShakeRefusal → ℕ
number why.Tasks = 1
number why.Cells = 2
number why.Blocks = 3
number why.Count = 17
