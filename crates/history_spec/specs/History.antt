-- Actions, the events that they give, and the calls that a history consists of.
use Rattle.std.specs.Prelude.{◌≡◌, ◌≢◌, List, [], ◌∷◌, ◌++◌, ℕ, suc, ◌+◌, ◌<◌}
use Rattle.std.proofs.Math.Option.{Option, none, some}
use Rattle.history_spec.specs.Basics.{upd, ◌∈◌}

-- ACTIONS AND EVENTS

-- a call's kind as begun, its cell and its values
pub data Op : Type 0 where
  read : (cell : ℕ) → Op
  swap : (cell expected new : ℕ) → Op

abbrev pub cell_of : Op → ℕ
cell_of (read k) = k
cell_of (swap k e n) = k

pub data Kind : Type 0 where
  a_read a_swap : Kind

abbrev pub kind_of : Op → Kind
kind_of (read k) = a_read
kind_of (swap k e n) = a_swap

pub data Action : Type 0 where
  begin : (task : ℕ) → Op → Action
  step : (task : ℕ) → Action
  drop : (task : ℕ) → Action

abbrev pub task_of : Action → ℕ
task_of (begin t op) = t
task_of (step t) = t
task_of (drop t) = t

pub data Response : Type 0 where
  Value : ℕ → Response
  Yes No : Response

-- what a call's last step reports
pub record Report : Type 0 where
  pub kind : Kind
  pub cell : ℕ
  pub answer : Response
  pub steps : ℕ
  pub won : ℕ
  pub lost : ℕ

-- an action's hardware CAS: it succeeded, it failed, or the action attempts none
pub data Attempt : Type 0 where
  success failure untried : Attempt

abbrev pub wins : Attempt → ℕ
wins success = 1
wins failure = 0
wins untried = 0

abbrev pub losses : Attempt → ℕ
losses success = 0
losses failure = 1
losses untried = 0

-- what an action gave: the number of a refusal; that it was accepted, and its call goes on, or is withdrawn; that its call is finished
pub data Event : Type 0 where
  refused : (number : ℕ) → Event
  accepted : Attempt → Event
  answered : Attempt → Report → Event

-- of any machine, whatever its actions and events: each action gets the state as the one before left it
abbrev pub history : {S A E : Type 0} → (S → A → S × E) → S → List A → List (A × E)
history act s [] = []
history act s (a ∷ l) = (a, (act s a).1) ∷ history act (act s a).0 l

-- the state after a list of actions
abbrev pub run : {S A E : Type 0} → (S → A → S × E) → S → List A → S
run act s [] = s
run act s (a ∷ l) = run act (act s a).0 l

-- CALLS

-- what never changes of a call: the moment of its begin (the action's number), its task, what it is, and the accepted actions before it
pub record CallId : Type 0 where
  pub at : ℕ
  pub task : ℕ
  pub op : Op
  pub before : List Action

-- a call so far: the moment of its last step (of its begin, if it has none), its accepted steps, their hardware CAS attempts won and lost
pub record Call : Type 0 where
  pub start : CallId
  pub last : ℕ
  pub steps : ℕ
  pub won : ℕ
  pub lost : ℕ

abbrev pub attempts : Call → ℕ
attempts c = c.won + c.lost

-- a finished call, and what its last step reported
pub record FinishedCall : Type 0 where
  pub call : Call
  pub report : Report

-- a withdrawn call, with its steps before the drop, and the moment of the drop
pub record WithdrawnCall : Type 0 where
  pub call : Call
  pub end : ℕ

-- the calls of a history: the next action's number, the accepted actions, each task's pending call, the finished calls, the withdrawn ones.
-- Document 01 says unfinished for pending; a pending call whose task takes no further step has halted.
pub record Calls : Type 0 where
  pub now : ℕ
  pub accepted : List Action
  pub pending : ℕ → Option Call
  pub finished : List FinishedCall
  pub withdrawn : List WithdrawnCall

abbrev pub no_calls : Calls
no_calls = record { now = 0; accepted = []; pending = λ t. none; finished = []; withdrawn = [] }

abbrev pub called : Calls → ℕ → Op → Call
called b t op = record { start = record { at = b.now; task = t; op = op; before = b.accepted }; last = b.now; steps = 0; won = 0; lost = 0 }

abbrev pub advance : Calls → Attempt → Call → Call
advance b x c = record { start = c.start; last = b.now; steps = suc c.steps; won = c.won + wins x; lost = c.lost + losses x }

abbrev pub advanced : Calls → Attempt → Option Call → Option Call
advanced b x none = none
advanced b x (some c) = some (advance b x c)

abbrev pub closed : Option Call → Report → List FinishedCall → List FinishedCall
closed none r l = l
closed (some c) r l = record { call = c; report = r } ∷ l

abbrev pub also_withdrawn : Option Call → ℕ → List WithdrawnCall → List WithdrawnCall
also_withdrawn none n l = l
also_withdrawn (some c) n l = record { call = c; end = n } ∷ l

-- an action that moves no call
abbrev pub passed : Calls → Calls
passed b = record { now = suc b.now; accepted = b.accepted; pending = b.pending; finished = b.finished; withdrawn = b.withdrawn }

abbrev pub moved : Calls → Action → (ℕ → Option Call) → List FinishedCall → Calls
moved b a pending finished = record { now = suc b.now; accepted = b.accepted ++ (a ∷ []); pending = pending; finished = finished; withdrawn = b.withdrawn }

-- task t's call is withdrawn
abbrev pub withdraw : Calls → ℕ → Calls
withdraw b t = record { now = suc b.now; accepted = b.accepted ++ (drop t ∷ []); pending = upd b.pending t none; finished = b.finished; withdrawn = also_withdrawn (b.pending t) b.now b.withdrawn }

abbrev pub enter : Calls → Action → Event → Calls
enter b a (refused r) = passed b
enter b (begin t op) (accepted x) = moved b (begin t op) (upd b.pending t (some (called b t op))) b.finished
enter b (begin t op) (answered x r) = passed b
enter b (step t) (accepted x) = moved b (step t) (upd b.pending t (advanced b x (b.pending t))) b.finished
enter b (step t) (answered x r) = moved b (step t) (upd b.pending t none) (closed (advanced b x (b.pending t)) r b.finished)
enter b (drop t) (accepted x) = withdraw b t
enter b (drop t) (answered x r) = passed b

abbrev pub enter_all : Calls → List (Action × Event) → Calls
enter_all b [] = b
enter_all b (x ∷ h) = enter_all (enter b x.0 x.1) h

abbrev pub calls_of : List (Action × Event) → Calls
calls_of h = enter_all no_calls h

-- c is a call of the history, with `end` the moment of its end: its last step's if it is finished, its drop's if it is withdrawn, else the list's
pub data CallOf (b : Calls) : Call → ℕ → Type 0 where
  finished : (f : FinishedCall) → f ∈ b.finished → CallOf b f.call f.call.last
  pending : (t : ℕ) (c : Call) → b.pending t ≡ some c → CallOf b c b.now
  withdrawn : (w : WithdrawnCall) → w ∈ b.withdrawn → CallOf b w.call w.end

-- every call on a cell is finished: none is pending there, none was withdrawn
pub record Complete (b : Calls) (cell : ℕ) : Type 0 where
  pub none_pending : (t : ℕ) (c : Call) → b.pending t ≡ some c → cell_of c.start.op ≢ cell
  pub none_withdrawn : (w : WithdrawnCall) → w ∈ b.withdrawn → cell_of w.call.start.op ≢ cell

-- WELL-FORMED HISTORIES

abbrev pub IsBusy : Option Call → Type 0
IsBusy none = ⊥
IsBusy (some c) = Unit {0}

-- an event that its action may give: a task has one call at a time, on a cell that there is, and a begin attempts no hardware CAS; a step of a
-- pending call is never refused, and no other step goes on or answers; nor is a drop of a pending call, and it attempts no hardware CAS
abbrev pub Allowed : ℕ → Calls → Action → Event → Type 0
Allowed size b (begin t op) (refused n) = Unit {0}
Allowed size b (begin t op) (accepted x) = (b.pending t ≡ none) × (cell_of op < size) × (x ≡ untried)
Allowed size b (begin t op) (answered x r) = ⊥
Allowed size b (step t) (refused n) = b.pending t ≡ none
Allowed size b (step t) (accepted x) = IsBusy (b.pending t)
Allowed size b (step t) (answered x r) = IsBusy (b.pending t)
Allowed size b (drop t) (refused n) = b.pending t ≡ none
Allowed size b (drop t) (accepted x) = IsBusy (b.pending t) × (x ≡ untried)
Allowed size b (drop t) (answered x r) = ⊥

abbrev pub WellFormed : ℕ → Calls → List (Action × Event) → Type 0
WellFormed size b [] = Unit {0}
WellFormed size b (x ∷ h) = Allowed size b x.0 x.1 × WellFormed size (enter b x.0 x.1) h
