-- Moves on once-only cells, the events that they give, and the calls that a history consists of. Apart from `history`'s actions: sessions
-- do not reach these cells.
use Rattle.std.specs.Prelude.{◌≡◌, cond, List, [], ◌∷◌, ◌++◌, ℕ, suc, ◌+◌, length}
use Rattle.std.proofs.Math.Option.{Option, none, some}
use Rattle.history_spec.specs.Basics.{upd, ◌∈◌}
use Rattle.once_spec.specs.declared.Agreement.{Agreement}
use Rattle.once_spec.specs.declared.OnceState.{OnceState}
use Rattle.once_spec.specs.Figure.{Stage, is_cas, stage_of, Given, Refuses, GoesOn, Ends}
use Rattle.once_spec.specs.Questions.{offer_at}
use Rattle.once_spec.specs.Entries.{offer_begun, once_stepped}

-- MOVES AND EVENTS

pub data Move : Type 0 where
  offer : (task cell value : ℕ) → Move
  step : (task : ℕ) → Move

-- what a move gave: the number of a refusal; that a call begins; which step of the figure it did, and that the call goes on; or that it is
-- finished, with what it hands back
pub data MoveEvent : Type 0 where
  refused : (number : ℕ) → MoveEvent
  admitted : MoveEvent
  did : Stage → MoveEvent
  ended : Stage → Agreement → MoveEvent

-- THE ENTRIES' DEFINITIONS AS A MACHINE

abbrev pub offer_event : Given → MoveEvent
offer_event (Refuses n) = refused n
offer_event GoesOn = admitted
offer_event (Ends a) = admitted

abbrev pub step_event : Stage → Given → MoveEvent
step_event ℓ (Refuses n) = refused n
step_event ℓ GoesOn = did ℓ
step_event ℓ (Ends a) = ended ℓ a

abbrev pub once_machine : OnceState → Move → OnceState × MoveEvent
once_machine s (offer t k w) = let a = offer_begun s t k w in (a.state, offer_event a.gives)
once_machine s (step t) = let a = once_stepped s t in (a.state, step_event (stage_of (offer_at s t)) a.gives)

-- CALLS

-- what never changes of a call: the moment of its begin (the move's number), its task, its cell and the value offered
pub record OnceId : Type 0 where
  pub at : ℕ
  pub task : ℕ
  pub cell : ℕ
  pub value : ℕ

-- a call so far: the moment of its last step (of its begin, if it has none), and the steps that it did, in order
pub record OnceCall : Type 0 where
  pub start : OnceId
  pub last : ℕ
  pub done : List Stage

-- a finished call, and what its last step handed back
pub record OnceFinished : Type 0 where
  pub call : OnceCall
  pub agreed : Agreement

-- the next move's number, the calls begun, each task's pending call, the finished calls
pub record OnceCalls : Type 0 where
  pub now : ℕ
  pub ids : List OnceId
  pub pending : ℕ → Option OnceCall
  pub finished : List OnceFinished

abbrev pub steps_done : OnceCall → ℕ
steps_done c = length c.done

abbrev pub attempts_in : List Stage → ℕ
attempts_in [] = 0
attempts_in (ℓ ∷ l) = cond (is_cas ℓ) 1 0 + attempts_in l

abbrev pub hard : OnceCall → ℕ
hard c = attempts_in c.done

abbrev pub no_offers : OnceCalls
no_offers = record { now = 0; ids = []; pending = λ t. none; finished = [] }

abbrev pub id_of : OnceCalls → (task cell value : ℕ) → OnceId
id_of b t k w = record { at = b.now; task = t; cell = k; value = w }

abbrev pub gone_on : OnceCalls → Stage → OnceCall → OnceCall
gone_on b ℓ c = record { start = c.start; last = b.now; done = c.done ++ (ℓ ∷ []) }

abbrev pub went_on : OnceCalls → Stage → Option OnceCall → Option OnceCall
went_on b ℓ none = none
went_on b ℓ (some c) = some (gone_on b ℓ c)

abbrev pub finishing : Option OnceCall → Agreement → List OnceFinished → List OnceFinished
finishing none a l = l
finishing (some c) a l = record { call = c; agreed = a } ∷ l

abbrev pub once_tallied : OnceCalls → List OnceId → (ℕ → Option OnceCall) → List OnceFinished → OnceCalls
once_tallied b i p f = record { now = suc b.now; ids = i; pending = p; finished = f }

abbrev pub tally : OnceCalls → Move → MoveEvent → OnceCalls
tally b m (refused n) = once_tallied b b.ids b.pending b.finished
tally b (offer t k w) admitted = once_tallied b (id_of b t k w ∷ b.ids) (upd b.pending t (some (record { start = id_of b t k w; last = b.now; done = [] }))) b.finished
tally b (offer t k w) (did ℓ) = once_tallied b b.ids b.pending b.finished
tally b (offer t k w) (ended ℓ a) = once_tallied b b.ids b.pending b.finished
tally b (step t) admitted = once_tallied b b.ids b.pending b.finished
tally b (step t) (did ℓ) = once_tallied b b.ids (upd b.pending t (went_on b ℓ (b.pending t))) b.finished
tally b (step t) (ended ℓ a) = once_tallied b b.ids (upd b.pending t none) (finishing (went_on b ℓ (b.pending t)) a b.finished)

abbrev pub tally_all : OnceCalls → List (Move × MoveEvent) → OnceCalls
tally_all b [] = b
tally_all b (x ∷ h) = tally_all (tally b x.0 x.1) h

abbrev pub offers_of : List (Move × MoveEvent) → OnceCalls
offers_of h = tally_all no_offers h

-- c is a call of the history, finished or pending
pub data IsCall (b : OnceCalls) : OnceCall → Type 0 where
  finished : (f : OnceFinished) → f ∈ b.finished → IsCall b f.call
  pending : (t : ℕ) (c : OnceCall) → b.pending t ≡ some c → IsCall b c
