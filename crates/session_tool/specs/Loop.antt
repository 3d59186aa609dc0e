-- What is printed, from the opening on.
use Rattle.std.specs.Prelude.{List, ◌++◌, ℕ, ◌+◌, ◌<◌}
use Rattle.history_spec.specs.History.{Action, Event, refused, accepted, answered, history, run}
use Rattle.cells_spec.specs.Machine.{Pool, pool}
use Rattle.text.specs.Lines.{bad_line}
use Rattle.session_engine.specs.Start.{Start, no_session, not_opened, ready}
use Rattle.session_spec.specs.Lines.{no_line}
use Rattle.session_spec.specs.Printed.{Totals, event_lines, add_events, end_text, played}

-- what a session prints, by what its file leads to
abbrev pub start_text : Start → List ℕ
start_text (no_session n) = bad_line n
start_text (not_opened n) = no_line 0 n
start_text (ready n v x l) = played n v x l

-- what is still to be printed from action i on, with the totals so far
unfoldable pub played_on : (tasks cells i : ℕ) → Totals → Pool → List Action → List ℕ
played_on n v i z x l =
    let h = history pool x l in
    let y = run pool x l in
    event_lines i h ++ end_text n v (add_events z h) y.0 y.1

-- a finished call has few hardware CAS attempts
abbrev pub Few : Event → Type 0
Few (refused n) = Unit {0}
Few (accepted x) = Unit {0}
Few (answered x r) = r.won + r.lost < 100
