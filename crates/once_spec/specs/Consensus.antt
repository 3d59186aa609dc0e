-- What once-only cells promise, of any history of moves: tasks agree (consensus), in few steps, and without a hardware CAS where one call ends
-- before any other begins.
use Rattle.std.specs.Prelude.{◌≡◌, ◌≢◌, List, [], ◌∷◌, ◌++◌, ℕ, ◌≤◌, ◌<◌, replicate}
use Rattle.std.proofs.Math.Option.{Option, none, some}
use Rattle.history_spec.specs.Basics.{◌∈◌}
use Rattle.history_spec.specs.History.{history}
use Rattle.once_spec.specs.History.{Move, offer, step, MoveEvent, refused, admitted, did, ended, OnceId, OnceCall, OnceFinished, OnceCalls, no_offers, steps_done, hard, tally, offers_of, IsCall}
use Rattle.once_spec.specs.Paths.{once_paths, once_table}

abbrev pub offered_cell : OnceCall → ℕ
offered_cell c = c.start.cell

-- a finished call hands back its cell and its own counts, and did one of the eleven paths
pub record Reported (f : OnceFinished) : Type 0 where
  pub cell : f.agreed.cell ≡ offered_cell f.call
  pub all-steps : f.agreed.steps ≡ steps_done f.call
  pub all-hard : f.agreed.hard ≡ hard f.call
  pub path : f.call.done ∈ once_paths
  pub row : (steps_done f.call, hard f.call) ∈ once_table

-- the value was offered on the call's cell by a call begun before the answer
pub record Valid (b : OnceCalls) (f : OnceFinished) : Type 0 where
  pub by : OnceId
  pub is-begun : by ∈ b.ids
  pub there : by.cell ≡ offered_cell f.call
  pub offers : by.value ≡ f.agreed.value
  pub in_time : by.at < f.call.last

-- every other call on its cell began after it ended
abbrev pub Lone : OnceCalls → OnceFinished → Type 0
Lone b f = (i : OnceId) → i ∈ b.ids → i.cell ≡ offered_cell f.call → i.at ≢ f.call.start.at → f.call.last < i.at

pub record Consensus (b : OnceCalls) : Type 0 where
  pub agreement : (f g : OnceFinished) → f ∈ b.finished → g ∈ b.finished → offered_cell f.call ≡ offered_cell g.call → f.agreed.value ≡ g.agreed.value
  pub validity : (f : OnceFinished) → f ∈ b.finished → Valid b f
  pub reported : (f : OnceFinished) → f ∈ b.finished → Reported f
  pub few : (f : OnceFinished) → f ∈ b.finished → (steps_done f.call ≤ 10) × (hard f.call ≤ 1)
  pub few-pending : (t : ℕ) (c : OnceCall) → b.pending t ≡ some c → (steps_done c < 10) × (hard c ≤ 1)
  -- if one call ends before any other on its cell begins, no call on it attempts a hardware CAS, before or after
  pub no_hardware : (f : OnceFinished) → f ∈ b.finished → Lone b f → (c : OnceCall) → IsCall b c → offered_cell c ≡ offered_cell f.call → hard c ≡ 0
  -- a task offers once on a cell
  pub one_offer : (i j : OnceId) → i ∈ b.ids → j ∈ b.ids → i.task ≡ j.task → i.cell ≡ j.cell → i ≡ j

abbrev pub IsPending : Option OnceCall → Type 0
IsPending none = ⊥
IsPending (some c) = Unit {0}

-- an event that its move may give: a task has one call at a time, on a cell that there is; a step of a pending call is never refused, and
-- no other step goes on or ends
abbrev pub May : ℕ → OnceCalls → Move → MoveEvent → Type 0
May size b (offer t k w) (refused n) = Unit {0}
May size b (offer t k w) admitted = (b.pending t ≡ none) × (k < size)
May size b (offer t k w) (did ℓ) = ⊥
May size b (offer t k w) (ended ℓ a) = ⊥
May size b (step t) (refused n) = b.pending t ≡ none
May size b (step t) admitted = ⊥
May size b (step t) (did ℓ) = IsPending (b.pending t)
May size b (step t) (ended ℓ a) = IsPending (b.pending t)

abbrev pub AllMay : ℕ → OnceCalls → List (Move × MoveEvent) → Type 0
AllMay size b [] = Unit {0}
AllMay size b (x ∷ h) = May size b x.0 x.1 × AllMay size (tally b x.0 x.1) h

-- of a history on so many cells
pub record RightOnce (size : ℕ) (h : List (Move × MoveEvent)) : Type 0 where
  pub well_formed : AllMay size no_offers h
  pub calls : Consensus (offers_of h)

-- after the moves l, so many more steps of task t, at most `few`, finish its call c
pub record OnceEnds {S : Type 0} (machine : S → Move → S × MoveEvent) (start : S) (l : List Move) (t : ℕ) (c : OnceCall) (few : ℕ) : Type 0 where
  pub more : ℕ
  pub at_most : more ≤ few
  pub end : OnceFinished
  pub is-finished : end ∈ (offers_of (history machine start (l ++ replicate more (step t)))).finished
  pub is : end.call.start ≡ c.start
