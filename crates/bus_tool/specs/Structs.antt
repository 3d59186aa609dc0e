-- What the code's structs stand for.
use Rattle.std.proofs.Math.Option as Math
use Rattle.std.specs.Prelude.{◌≡◌, List, [], ◌∷◌, ℕ, Option, None, Some, Ok, Err}
use Rattle.std.specs.declared.result.Result.{Result}
use Rattle.text.specs.Bytes.{bytes}
use Rattle.text.specs.Lines.{line}
use Rattle.cells_spec.specs.Questions.{refusal}
use Rattle.bus_spec.specs.Bus.{Times, bus_questions, rounded_down, rounded_up, Timed, Sums}
use Rattle.bus_tool.specs.declared.kinds.Kinds.{Kinds}
use Rattle.bus_tool.specs.declared.ranges.Ranges.{Ranges}
use Rattle.bus_tool.specs.declared.refusal.TimesRefusal.{TimesRefusal}
use Rattle.bus_tool.specs.declared.calls.CallTime.{CallTime}
use Rattle.bus_tool.specs.declared.calls.BusTotals.{BusTotals}
use Rattle.bus_tool.specs.Kinds.{times_between}
use Rattle.bus_tool.specs.Refusals.{number}

abbrev pub times_of : Ranges → Times
times_of w = times_between w.low w.high

-- what the questions on the times answer: the first that is answered no, or the ranges that were asked for
abbrev pub AskedTimes : (low high : Kinds) → Result Ranges TimesRefusal → Type 0
AskedTimes l h (Err e) = refusal (bus_questions (times_between l h)) ≡ Math.some (number e)
AskedTimes l h (Ok w) = (w.low ≡ l) × (w.high ≡ h)

abbrev pub call_of : CallTime → Timed
call_of c = record { task = c.task; earlier = c.earlier; least = c.least; greatest = c.greatest }

abbrev pub longest_of : Option CallTime → Math.Option Timed
longest_of None = Math.none
longest_of (Some c) = Math.some (call_of c)

abbrev pub sums_in : BusTotals → Sums
sums_in z = record { least = z.least; greatest = z.greatest; longest = longest_of z.longest }

-- the line of the sums where there is a call
abbrev pub sums_line : (least greatest : ℕ) → Timed → List ℕ
sums_line l g c = line (bytes "(all") (rounded_down l ∷ rounded_up g ∷ c.task ∷ c.earlier ∷ [])
