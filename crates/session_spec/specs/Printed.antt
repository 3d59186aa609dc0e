-- What a session file prints.
use Rattle.std.specs.Prelude.{cond, List, [], ◌∷◌, ◌++◌, ℕ, zero, suc, ◌+◌, ◌*◌, leb, replicate}
use Rattle.cells_spec.specs.declared.State.{State}
use Rattle.cells_spec.specs.Answers.{Refused, Acted, Ended, Seen, NotShown, Shown}
use Rattle.figure_lines.specs.Record.{is_idle, record_at}
use Rattle.cells_spec.specs.Open.{After, opened, blank}
use Rattle.cells_spec.specs.Look.{looked}
use Rattle.cells_spec.specs.Machine.{Pool, pool}
use Rattle.history_spec.specs.History.{Action, task_of, Event, refused, accepted, answered, history, run}
use Rattle.session_spec.specs.Session.{Opening, Verdict, bad, session, verdict}
use Rattle.text.specs.Lines.{bad_line}
use Rattle.session_spec.specs.Lines.{no_line, event_line, cell_line, end_line}

-- THE LINES OF A HISTORY, from action i on

unfoldable pub event_lines : ℕ → List (Action × Event) → List ℕ
event_lines i [] = []
event_lines i ((a, e) ∷ h) = event_line i (task_of a) e ++ event_lines (i + 1) h

-- finished calls, and their hardware CAS attempts
pub record Totals : Type 0 where
  pub finished : ℕ
  pub hard : ℕ

abbrev pub totals : (finished hard : ℕ) → Totals
totals f h = record { finished = f; hard = h }

abbrev pub add_event : Totals → Event → Totals
add_event z (refused n) = z
add_event z (accepted x) = z
add_event z (answered x r) = totals (z.finished + 1) (z.hard + (r.won + r.lost))

abbrev pub add_events : Totals → List (Action × Event) → Totals
add_events z [] = z
add_events z ((a, e) ∷ h) = add_events (add_event z e) h

-- AFTER THE LAST ACTION

-- the k cells from i on; a look is never refused here
abbrev pub look_line : ℕ → Seen → List ℕ
look_line k (Shown v) = cell_line k v
look_line k (NotShown n) = []

unfoldable pub cell_lines : State → List ℕ → (i k : ℕ) → List ℕ
cell_lines s p i zero = []
cell_lines s p i (suc k) = look_line i (looked s p i) ++ cell_lines s p (i + 1) k

-- how many of the k tasks from i on have a pending call
unfoldable pub pending_tasks : State → (i k : ℕ) → ℕ
pending_tasks s i zero = 0
pending_tasks s i (suc k) = cond (is_idle (record_at s.records i)) 0 1 + pending_tasks s (i + 1) k

unfoldable pub end_text : (tasks cells : ℕ) → Totals → State → List ℕ → List ℕ
end_text n v z s p = cell_lines s p 0 v ++ end_line z.finished (pending_tasks s 0 n) z.hard

-- WHAT IS PRINTED: the lines of the history that demand 3 speaks of, and of the state that it leaves

unfoldable pub played : (tasks cells : ℕ) → Pool → List Action → List ℕ
played n v x l =
    let h = history pool x l in
    let y = run pool x l in
    event_lines 0 h ++ end_text n v (add_events (totals 0 0) h) y.0 y.1

-- a refused open ends the session
unfoldable pub after_open : (tasks cells : ℕ) → List Action → After → List ℕ
after_open n v l r = elim r.outcome [ Refused n ↦ no_line 0 n | Acted ↦ played n v (r.state, r.pool) l | Ended f ↦ [] ]

-- the pool has five words for each block; more than 128 blocks are refused whatever it has
abbrev pub pool_words : ℕ → ℕ
pool_words b = 5 * cond (leb b 128) b 128

abbrev pub opened_by : Opening → After
opened_by o = opened blank (replicate (pool_words o.blocks) 0) o.tasks o.cells o.blocks o.values

abbrev pub played_from : Opening → List Action → List ℕ
played_from o l = after_open o.tasks o.cells l (opened_by o)

abbrev pub verdict_text : Verdict → List ℕ
verdict_text (bad n) = bad_line n
verdict_text (session o l) = played_from o l

unfoldable pub printed : List ℕ → List ℕ
printed s = verdict_text (verdict s)

-- nothing is printed where there is no room for the longest text
unfoldable pub printed_within : (room : ℕ) → List ℕ → List ℕ
printed_within n s = cond (leb 921000 n) (printed s) []
