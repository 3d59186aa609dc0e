-- What is printed of an answer.
use Rattle.std.specs.Prelude.{List, ℕ, Option, Ok, Err}
use Rattle.std.specs.declared.result.Result.{Result}
use Rattle.figure_lines.specs.Basics.{option_of}
use Rattle.text.specs.Lines.{bad_line}
use Rattle.nudge_spec.specs.Nudge.{nudge_line}
use Rattle.nudge_tool.specs.declared.refusal.NudgeRefusal.{NudgeRefusal}
use Rattle.nudge_tool.specs.declared.refusal.NudgeRefusal.TheVariants as why

-- the number of the question that refuses
abbrev pub number : NudgeRefusal → ℕ
number why.TooManyActions = 19
number why.NoSuchCall = 18

abbrev pub answer_text : Result (Option ℕ) NudgeRefusal → List ℕ
answer_text (Err e) = bad_line (number e)
answer_text (Ok o) = nudge_line (option_of o)
