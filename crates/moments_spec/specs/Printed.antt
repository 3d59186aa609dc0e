-- What the tool prints of a session file: the line of each listed call, in the order of the source's moments.
use Rattle.std.specs.Prelude.{List, ℕ}
use Rattle.cells_spec.specs.Machine.{Pool}
use Rattle.history_spec.specs.History.{Action}
use Rattle.cells_theorems.specs.Moments.{pool_moments}
use Rattle.session_spec.specs.Tools.{tool_printed, tool_within}
use Rattle.moments_spec.specs.Lines.{mark_lines}

abbrev pub moments_text : (tasks : ℕ) → Pool → List Action → List ℕ
moments_text n x l = mark_lines (pool_moments n x l)

abbrev pub moments_printed : List ℕ → List ℕ
moments_printed = tool_printed moments_text

abbrev pub moments_within : (room : ℕ) → List ℕ → List ℕ
moments_within = tool_within 2400000 moments_text
