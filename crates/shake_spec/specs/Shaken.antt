-- What the shaker prints for a seed, tasks, cells, blocks and a length.
use Rattle.std.specs.Prelude.{cond, List, [], ◌∷◌, map, ℕ, ◌*◌, leb}
use Rattle.std.proofs.Math.Option.{none, some}
use Rattle.history_spec.specs.History.{Action}
use Rattle.figure_lines.specs.Basics.{within}
use Rattle.cells_spec.specs.Questions.{Question, refusal, tasks_ok, cells_ok, blocks_ok}
use Rattle.text.specs.Lines.{bad_line}
use Rattle.session_spec.specs.Session.{act}
use Rattle.session_spec.specs.Written.{file_text}
use Rattle.shake_spec.specs.Actions.{drawn_actions, zero_start, zero_opening}

-- document 01's questions on N, V and B, whose pool has five words for each block; then 17. Is the length 1 to 3,000 actions?
unfoldable pub shake_questions : (tasks cells blocks length : ℕ) → List Question
shake_questions n v b k = (1, tasks_ok n) ∷ (2, cells_ok v) ∷ (3, blocks_ok n v b (5 * b)) ∷ (17, within k 1 3000) ∷ []

-- the actions of the session, and its text, one action a line
abbrev pub shaken_actions : (seed tasks cells blocks length : ℕ) → List Action
shaken_actions g n v b k = drawn_actions n v k g (zero_start n v b)

abbrev pub session_text : (seed tasks cells blocks length : ℕ) → List ℕ
session_text g n v b k = file_text (zero_opening n v b) (map act (shaken_actions g n v b k))

-- a refusal prints only its number
unfoldable pub shaken : (seed tasks cells blocks length : ℕ) → List ℕ
shaken g n v b k = elim (refusal (shake_questions n v b k)) [ none ↦ session_text g n v b k | some q ↦ bad_line q ]

-- nothing is printed where there is no room for the longest text
unfoldable pub shaken_within : (room seed tasks cells blocks length : ℕ) → List ℕ
shaken_within room g n v b k = cond (leb 65536 room) (shaken g n v b k) []
