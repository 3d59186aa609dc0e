-- The lines that a call did, in any machine that takes actions and gives events.
use Rattle.std.specs.Prelude.{◌≡◌, List, [], ◌∷◌, ◌++◌, ℕ, ◌+◌}
use Rattle.figure_lines.specs.Paths.{table}
use Rattle.figure_lines.specs.Lines.{Line, line_of, hardware}
use Rattle.history_spec.specs.Basics.{upd, ◌∈◌}
use Rattle.figure.specs.Figure.{World, figure}
use Rattle.history_spec.specs.History.{Op, read, cell_of, kind_of, Action, begin, step, drop, Report, Event, refused, accepted, answered, FinishedCall}
use Rattle.figure_cell.specs.Paths.{access_count, path_counts, paths_of, reached, steps}

-- a finished call: what it is as begun, its lines in order, and what its last step reported
pub record Traced : Type 0 where
  pub op : Op
  pub lines : List Line
  pub report : Report

-- of each task its last call as begun, and the lines of its pending one so far; the finished calls
pub record Trace : Type 0 where
  pub op : ℕ → Op
  pub did : ℕ → List Line
  pub done : List Traced

abbrev pub no_trace : Trace
no_trace = record { op = λ t. read 0; did = λ t. []; done = [] }

-- `next`: the line that each task's next step runs
module _ (next : ℕ → Line) (r : Trace) where
  abbrev pub did_line : ℕ → List Line
  did_line t = r.did t ++ (next t ∷ [])

  -- a begin that is accepted starts with no line; an accepted step adds its line; an accepted drop leaves none; a refused action changes nothing
  abbrev pub enter_line : Action → Event → Trace
  enter_line a (refused n) = r
  enter_line (begin t op) (accepted x) = record { op = upd r.op t op; did = upd r.did t []; done = r.done }
  enter_line (begin t op) (answered x y) = r
  enter_line (step t) (accepted x) = record { op = r.op; did = upd r.did t (did_line t); done = r.done }
  enter_line (step t) (answered x y) = record { op = r.op; did = upd r.did t []; done = record { op = r.op t; lines = did_line t; report = y } ∷ r.done }
  enter_line (drop t) (accepted x) = record { op = r.op; did = upd r.did t []; done = r.done }
  enter_line (drop t) (answered x y) = r

-- the trace of a list of actions, from a state and what is traced already
module _ {S : Type 0} (act : S → Action → S × Event) (next : S → ℕ → Line) where
  abbrev pub traces : S → Trace → List Action → Trace
  traces s r [] = r
  traces s r (a ∷ l) = traces (act s a).0 (enter_line (next s) r a (act s a).1) l

-- of the figure
abbrev pub figure_traces : World → Trace → List Action → Trace
figure_traces = traces figure (λ w t. line_of (w.records t))

-- a finished call that reports what it is as begun, on a path that is its own, whose counts are the lines that it did
pub record Counted (x : Traced) : Type 0 where
  pub path : x.lines ∈ reached
  -- a path of what the call is as begun, that ends in what it answered
  pub its-path : x.lines ∈ paths_of x.op x.report.answer
  pub all-steps : x.report.steps ≡ steps x.lines
  pub all-hard : x.report.won + x.report.lost ≡ access_count hardware x.lines
  pub row : path_counts x.lines ∈ table
  pub kind : x.report.kind ≡ kind_of x.op
  pub cell : x.report.cell ≡ cell_of x.op

-- what a call is as begun, and what its last step reported: of a history, and of a trace
abbrev pub finished_report : FinishedCall → Op × Report
finished_report f = (f.call.start.op, f.report)

abbrev pub traced_report : Traced → Op × Report
traced_report x = (x.op, x.report)
