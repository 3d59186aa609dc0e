-- A session file as a text: what the reader of Session.antt reads back.
use Rattle.std.specs.Prelude.{List, [], ◌∷◌, ◌++◌, ℕ}
use Rattle.text.specs.Bytes.{bytes, decimal}
use Rattle.text.specs.Lines.{numbers}
use Rattle.history_spec.specs.History.{read, swap, Action, begin, step, drop}
use Rattle.session_spec.specs.Session.{Opening, Form, act, again, Forms, empty, with}

-- a form without its last bracket: word and numbers
abbrev pub action_start : Action → List ℕ
action_start (begin t (read k)) = bytes "(read" ++ numbers (t ∷ k ∷ [])
action_start (begin t (swap k e n)) = bytes "(swap" ++ numbers (t ∷ k ∷ e ∷ n ∷ [])
action_start (step t) = bytes "(step" ++ numbers (t ∷ [])
action_start (drop t) = bytes "(drop" ++ numbers (t ∷ [])

-- forms in a list stand each after a space
unfoldable mutual
  pub written : Form → List ℕ
  written (act a) = action_start a ++ bytes ")"
  written (again c l) = bytes "(again" ++ numbers (c ∷ []) ++ written_forms l ++ bytes ")"

  pub written_forms : Forms → List ℕ
  written_forms empty = []
  written_forms (with l f) = written_forms l ++ bytes " " ++ written f

-- the values of open, parted by spaces
unfoldable pub written_values : List ℕ → List ℕ
written_values [] = []
written_values (v ∷ l) = decimal v ++ numbers l

unfoldable pub opening_line : Opening → List ℕ
opening_line o = bytes "(open" ++ numbers (o.tasks ∷ o.cells ∷ o.blocks ∷ []) ++ bytes " (" ++ written_values o.values ++ bytes "))\n"

abbrev pub form_line : Form → List ℕ
form_line f = written f ++ bytes "\n"

unfoldable pub form_lines : List Form → List ℕ
form_lines [] = []
form_lines (f ∷ l) = form_line f ++ form_lines l

-- the file: its opening, then each form on a line of its own
unfoldable pub file_text : Opening → List Form → List ℕ
file_text o l = opening_line o ++ form_lines l
