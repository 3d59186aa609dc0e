-- What a tool on a session starts from, and where its text has no room.
use Rattle.std.specs.Prelude.{◌≡◌, cond, List, [], map, ℕ, leb, replicate}
use Rattle.figure_lines.specs.Record.{idle}
use Rattle.cells_spec.specs.declared.State.{State}
use Rattle.cells_theorems.specs.Reached.{Reached}
use Rattle.history_spec.specs.History.{Action}
use Rattle.session_reader.specs.Reading.{act_at}
use Rattle.session_engine.specs.declared.actions.Actions.{Actions}

-- opened, and nothing done since
pub record Fresh (s : State) (p : List ℕ) : Type 0 where
  pub reached : Reached s.tasks s.cells s p
  pub no_actions : reached.actions ≡ []
  pub all-idle : s.records ≡ replicate 32 idle

abbrev pub all_of : Actions → List Action
all_of a = map (act_at a.forms.now) a.kept.now

-- nothing is printed where there is less room than the tool needs
unfoldable pub text_within : (need : ℕ) → List ℕ → (room : ℕ) → List ℕ
text_within need t n = cond (leb need n) t []
