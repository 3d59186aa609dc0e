-- What a session file leads to: no session, cells that are not opened, or cells that are and the actions to do on them.
use Rattle.std.specs.Prelude.{◌≡◌, List, map, ℕ, ◌≤◌, length, take, replicate}
use Rattle.cells_spec.specs.declared.State.{State}
use Rattle.cells_spec.specs.Answers.{Refused, Acted, Ended, number}
use Rattle.cells_spec.specs.Open.{After, blank}
use Rattle.cells_spec.specs.Machine.{Pool}
use Rattle.history_spec.specs.History.{Action}
use Rattle.session_spec.specs.Session.{Verdict, bad, session}
use Rattle.session_reader.specs.Reading.{act_at, question}
use Rattle.session_reader.specs.Kept.{FormNumbers}
use Rattle.session_reader.specs.Tables.{over}
use Rattle.session_spec.specs.Printed.{opened_by}
use Rattle.text.specs.Lines.{bad_line}
use Rattle.session_engine.specs.Tool.{Fresh}
use Rattle.std.specs.Prelude.{Ok, Err}
use Rattle.std.specs.declared.result.Result.{Result}
use Rattle.session_engine.specs.declared.start.Started.{Started}
use Rattle.session_engine.specs.declared.start.StartError.{StartError}
use Rattle.session_engine.specs.declared.start.StartError.TheVariants as error

pub data Start : Type 0 where
  no_session : ℕ → Start
  not_opened : ℕ → Start
  ready : (tasks cells : ℕ) → Pool → List Action → Start

-- an open ends no call
unfoldable pub start_after : (tasks cells : ℕ) → List Action → After → Start
start_after n v l r = elim r.outcome [ Refused q ↦ not_opened q | Acted ↦ ready n v (r.state, r.pool) l | Ended f ↦ not_opened 0 ]

abbrev pub start_of : Verdict → Start
start_of (bad n) = no_session n
start_of (session o l) = start_after o.tasks o.cells l (opened_by o)

-- the state and all 640 words of the pool: those in use, and zeros; a refused open leaves both as they were, blank and zeros
abbrev pub in_pool : After → Pool
in_pool r = (r.state, over r.pool (replicate 640 0))

abbrev pub pool_of : Verdict → Pool
pool_of (bad n) = (blank, replicate 640 0)
pool_of (session o l) = in_pool (opened_by o)

-- what the tool with that text prints of it
abbrev pub tool_start : ((tasks : ℕ) → Pool → List Action → List ℕ) → Start → List ℕ
tool_start text (no_session n) = bad_line n
tool_start text (not_opened n) = bad_line n
tool_start text (ready n v x l) = text n x l

-- THE CODE'S ANSWER, and the buffers that it speaks of

abbrev pub Answer : Type 0
Answer = Result Started StartError

abbrev pub start_at : Answer → (forms kept pool : List ℕ) → Start
start_at (Err (error.NoSession e)) f k p = no_session (question e)
start_at (Err (error.NotOpened r)) f k p = not_opened (number r)
start_at (Ok o) f k p = ready o.state.tasks o.state.cells (o.state, take o.words p) (map (act_at f) (take o.actions k))

-- refused, the state stays blank
abbrev pub state_after : Answer → State
state_after (Err e) = blank
state_after (Ok o) = o.state

abbrev pub Opens : Answer → (actions : ℕ) → (pool : List ℕ) → Type 0
Opens (Err e) i p = Unit {0}
Opens (Ok o) i p = (o.words ≤ length p) × Fresh o.state (take o.words p) × (o.actions ≡ i)

-- the actions were kept, and each numbers a form
abbrev pub Startable : Answer → (forms kept pool : List ℕ) → Type 0
Startable (Err e) f k p = Unit {0}
Startable (Ok o) f k p = (o.words ≤ length p) × Fresh o.state (take o.words p) × (o.actions ≤ length k) × (length k ≡ 65535) × FormNumbers (length f) (take o.actions k)
