-- What a tool prints of a session file: (bad R) where the file is none, or where its open is refused; else what the tool makes of the
-- actions, from what the open leaves.
use Rattle.std.specs.Prelude.{cond, List, [], ℕ, leb}
use Rattle.cells_spec.specs.Answers.{Refused, Acted, Ended}
use Rattle.cells_spec.specs.Open.{After}
use Rattle.cells_spec.specs.Machine.{Pool}
use Rattle.history_spec.specs.History.{Action}
use Rattle.session_spec.specs.Session.{Opening, Verdict, bad, session, verdict}
use Rattle.text.specs.Lines.{bad_line}
use Rattle.session_spec.specs.Printed.{opened_by}

-- what the open leaves
abbrev pub left_by : Opening → Pool
left_by o = ((opened_by o).state, (opened_by o).pool)

module _ (text : (tasks : ℕ) → Pool → List Action → List ℕ) where
  unfoldable pub tool_after_open : (tasks : ℕ) → List Action → After → List ℕ
  tool_after_open n l r = elim r.outcome [ Refused q ↦ bad_line q | Acted ↦ text n (r.state, r.pool) l | Ended f ↦ [] ]

  abbrev pub tool_text : Verdict → List ℕ
  tool_text (bad n) = bad_line n
  tool_text (session o l) = tool_after_open o.tasks l (opened_by o)

  unfoldable pub tool_printed : List ℕ → List ℕ
  tool_printed s = tool_text (verdict s)

-- nothing is printed where there is less room than the tool needs
unfoldable pub tool_within : (need : ℕ) → ((tasks : ℕ) → Pool → List Action → List ℕ) → (room : ℕ) → List ℕ → List ℕ
tool_within need text n s = cond (leb need n) (tool_printed text s) []
