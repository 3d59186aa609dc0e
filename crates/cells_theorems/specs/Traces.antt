-- The lines that each call on the cells did.
use Rattle.std.specs.Prelude.{List, ℕ}
use Rattle.figure_lines.specs.Record.{record_at}
use Rattle.figure_lines.specs.Lines.{Line, line_of}
use Rattle.history_spec.specs.History.{Action}
use Rattle.figure.specs.Traces.{Trace, no_trace, traces}
use Rattle.cells_spec.specs.Machine.{Pool, pool}

-- the line that a task's next step runs
abbrev pub next_line : Pool → ℕ → Line
next_line x t = line_of (record_at x.0.records t)

-- of a list of actions from an opening
abbrev pub trace : Pool → List Action → Trace
trace x l = traces pool next_line x no_trace l
