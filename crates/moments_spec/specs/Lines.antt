-- A call's line (at i side T word K rule): the moment at which it took effect, its task, its kind as begun, its cell, and the source's rule.
use Rattle.std.specs.Prelude.{List, [], ◌∷◌, ◌++◌, ℕ}
use Rattle.text.specs.Bytes.{bytes, decimal}
use Rattle.history_spec.specs.History.{Kind, kind_of, cell_of}
use Rattle.history_spec.specs.Moments.{Side, before, itself, after, Rule, R1, R2, C1, C2, C3, C4, C5, C6, Spot, Mark}
use Rattle.session_spec.specs.Lines.{kind_word}

abbrev pub side_word : Side → List ℕ
side_word before = bytes " before "
side_word itself = bytes " itself "
side_word after = bytes " after "

abbrev pub rule_word : Rule → List ℕ
rule_word R1 = bytes " R1)\n"
rule_word R2 = bytes " R2)\n"
rule_word C1 = bytes " C1)\n"
rule_word C2 = bytes " C2)\n"
rule_word C3 = bytes " C3)\n"
rule_word C4 = bytes " C4)\n"
rule_word C5 = bytes " C5)\n"
rule_word C6 = bytes " C6)\n"

unfoldable pub at_line : Spot → (task : ℕ) → Kind → (cell : ℕ) → List ℕ
at_line p t d k = bytes "(at " ++ decimal p.moment ++ side_word p.side ++ decimal t ++ kind_word d ++ decimal k ++ rule_word p.rule

abbrev pub mark_line : Mark → List ℕ
mark_line m = at_line m.spot m.call.task (kind_of m.call.op) (cell_of m.call.op)

unfoldable pub mark_lines : List Mark → List ℕ
mark_lines [] = []
mark_lines (m ∷ l) = mark_line m ++ mark_lines l
