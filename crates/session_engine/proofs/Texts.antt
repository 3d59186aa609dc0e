-- A text within its room, and a tool's text as its definition has it.
use mathlib.Core.Path.{◌≡◌}
use mathlib.Core.List.{List}
use Prim.Native.Nat.{ℕ, ◌≤◌, ◌<◌}
use lib.ListN.{length}
use borrow.Author.Tests.{le-leb, lt-leb}
use Rattle.text.specs.Append.{Appended}
use Rattle.text.proofs.Appending.{nothing, Entire, entire}
use Rattle.cells_spec.specs.Machine.{Pool}
use Rattle.history_spec.specs.History.{Action}
use Rattle.session_spec.specs.Session.{verdict}
use Rattle.session_spec.specs.Tools.{tool_printed, tool_within}
use Rattle.session_engine.specs.Start.{start_of, tool_start}
use Rattle.session_engine.specs.Tool.{text_within}
use Rattle.session_engine.proofs.Starting.{tool_started}

module _ (need : ℕ) (t old : List ℕ) where
  pub none_within : length old < need → Entire (text_within need t (length old)) old old 0
  unfolding text_within
  none_within h = entire _ (nothing old 0) (rw (lt-leb need (length old) h))

  pub all_within : {new : List ℕ} {r : ℕ} → need ≤ length old → Appended old new 0 r t → Entire (text_within need t (length old)) old new r
  unfolding text_within
  all_within h a = entire _ a (rw (le-leb need (length old) h))

-- what `run_tool` promises is the tool's definition
pub tool_text_within : (need : ℕ) (text : (tasks : ℕ) → Pool → List Action → List ℕ) (room : ℕ) (s : List ℕ) → text_within need (tool_start text (start_of (verdict s))) room ≡ tool_within need text room s
unfolding text_within tool_within tool_printed
tool_text_within need text room s = rw tool_started
