-- The lines that a session prints, after document 01's "Sessions in brackets".
use Rattle.std.specs.Prelude.{List, [], ◌∷◌, ◌++◌, ℕ, ◌<◌}
use Rattle.text.specs.Bytes.{bytes, decimal}
use Rattle.text.specs.Lines.{line}
use Rattle.rate.specs.Rate.{rate}
use Rattle.history_spec.specs.History.{Kind, a_read, a_swap, Response, Value, Yes, No, Report, Event, refused, accepted, answered}

abbrev pub no_line : (action number : ℕ) → List ℕ
no_line i n = line (bytes "(no") (i ∷ n ∷ [])

abbrev pub cell_line : (cell value : ℕ) → List ℕ
cell_line k v = line (bytes "(cell") (k ∷ v ∷ [])

-- the kind as begun
abbrev pub kind_word : Kind → List ℕ
kind_word a_read = bytes " read "
kind_word a_swap = bytes " swap "

abbrev pub answer_word : Response → List ℕ
answer_word (Value v) = decimal v
answer_word Yes = bytes "yes"
answer_word No = bytes "no"

-- (done T word K answer
unfoldable pub done_start : ℕ → Report → List ℕ
done_start t r = bytes "(done " ++ decimal t ++ kind_word r.kind ++ decimal r.cell ++ bytes " " ++ answer_word r.answer

abbrev pub done_line : ℕ → Report → List ℕ
done_line t r = line (done_start t r) (r.steps ∷ r.won ∷ r.lost ∷ [])

-- the line of an event, of action i and task t, where it has one
unfoldable pub event_line : (i t : ℕ) → Event → List ℕ
event_line i t (refused n) = no_line i n
event_line i t (accepted x) = []
event_line i t (answered x r) = done_line t r

abbrev pub end_line : (finished pending hard : ℕ) → List ℕ
end_line f p h = line (bytes "(end") (f ∷ p ∷ h ∷ rate h f ∷ [])

-- HOW LONG THE LINE OF AN EVENT IS

-- the numbers of a finished call, but for a value that it answers, have at most two digits, its attempts one
abbrev pub FewDigits : (task : ℕ) → Event → Type 0
FewDigits t (refused n) = Unit {0}
FewDigits t (accepted x) = Unit {0}
FewDigits t (answered x r) = (t < 100) × (r.cell < 100) × (r.steps < 100) × (r.won < 10) × (r.lost < 10)
