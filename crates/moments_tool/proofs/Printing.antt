-- The lines of words, one after another.
use mathlib.Core.Path.{◌≡◌}
use mathlib.Core.List.{List, ◌++◌}
use Prim.Native.Nat.{ℕ, ◌+◌, ◌<◌}
use native.Mathlib.Numerals.{add-one}
use lib.ListN.{length, drop, get_or}
use lib.Seq.{drop-cons}
use Rattle.moments_tool.specs.Words.{word_line, word_lines}

pub lines_from : (l : List ℕ) (i : ℕ) → i < length l → word_lines (drop i l) ≡ word_line (get_or l i 0) ++ word_lines (drop (i + 1) l)
unfolding word_lines
lines_from l i h = rw (add-one, drop-cons l i 0 h)
