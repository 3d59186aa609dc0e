use Rattle.std.proofs.Common.{◌+◌, ◌*◌, ◌≤◌, drop}
use Rattle.text.proofs.Pages.{Onward}
use Rattle.moments_tool.specs.Words.{word_lines}
use Rattle.moments_tool.proofs.words.put_marks.Given as goal

abbrev pub invariant-loop-w : goal.invariant-loop-w
invariant-loop-w l = Onward l.initial.page l.page (word_lines (drop l.w-index l.words)) (word_lines l.words) × (l.page.at ≤ l.initial.page.at + 32 * l.w-index)
