-- What the events alone show of a list of requests: its plain calls, and its adds but for their parts. An add is one call here.
use Rattle.std.specs.Prelude.{◌≡◌, ◌≢◌, ◌⊎◌, List, [], ◌∷◌, ℕ, ◌≤◌, ◌<◌}
use Rattle.std.proofs.Math.Option.{Option, none, some}
use Rattle.history_spec.specs.Basics.{◌∈◌}
use Rattle.history_spec.specs.History.{cell_of, begin, step, drop, untried, refused, accepted, answered, Calls, no_calls, passed, enter, IsBusy, Complete}
use Rattle.adds_spec.specs.Requests.{Request, act, add, RequestEvent, plain, summed}
use Rattle.adds_spec.specs.Adds.{AddCall, FinishedAdd, AddCalls, no_add_calls, enter_add, Counted, FewSoFar}

abbrev pub enter_plain : Calls → Request → RequestEvent → Calls
enter_plain b (act a) (plain e) = enter b a e
enter_plain b (act a) (summed x r) = passed b
enter_plain b (add t k d n) e = passed b

abbrev pub enter_plains : Calls → List (Request × RequestEvent) → Calls
enter_plains b [] = b
enter_plains b (x ∷ h) = enter_plains (enter_plain b x.0 x.1) h

abbrev pub calls_seen : List (Request × RequestEvent) → Calls
calls_seen h = enter_plains no_calls h

abbrev pub enter_seen : AddCalls → List (Request × RequestEvent) → AddCalls
enter_seen b [] = b
enter_seen b (x ∷ h) = enter_seen (enter_add b x.0 [] x.1) h

abbrev pub adds_seen : List (Request × RequestEvent) → AddCalls
adds_seen h = enter_seen no_add_calls h

-- WELL-FORMED EVENTS

abbrev pub IsAdding : Option AddCall → Type 0
IsAdding none = ⊥
IsAdding (some c) = Unit {0}

-- task t has no call: no read, swap or add
abbrev pub NoCall : Calls → AddCalls → (task : ℕ) → Type 0
NoCall c b t = (c.pending t ≡ none) × (b.pending t ≡ none)

abbrev pub SomeCall : Calls → AddCalls → (task : ℕ) → Type 0
SomeCall c b t = IsBusy (c.pending t) ⊎ IsAdding (b.pending t)

-- an event that its request may give. A task has one call at a time, on a cell that there is, an add with 1 to 8 tries. A begin and a drop
-- attempt no hardware CAS. A step or drop of a pending call is never refused; a step answers for the call that is pending.
abbrev pub AllowedSeen : (size : ℕ) → Calls → AddCalls → Request → RequestEvent → Type 0
AllowedSeen size c b (act (begin t op)) (plain (refused n)) = Unit {0}
AllowedSeen size c b (act (begin t op)) (plain (accepted x)) = NoCall c b t × (cell_of op < size) × (x ≡ untried)
AllowedSeen size c b (act (begin t op)) (plain (answered x r)) = ⊥
AllowedSeen size c b (act (begin t op)) (summed x r) = ⊥
AllowedSeen size c b (act (step t)) (plain (refused n)) = NoCall c b t
AllowedSeen size c b (act (step t)) (plain (accepted x)) = SomeCall c b t
AllowedSeen size c b (act (step t)) (plain (answered x r)) = IsBusy (c.pending t)
AllowedSeen size c b (act (step t)) (summed x r) = IsAdding (b.pending t)
AllowedSeen size c b (act (drop t)) (plain (refused n)) = NoCall c b t
AllowedSeen size c b (act (drop t)) (plain (accepted x)) = SomeCall c b t × (x ≡ untried)
AllowedSeen size c b (act (drop t)) (plain (answered x r)) = ⊥
AllowedSeen size c b (act (drop t)) (summed x r) = ⊥
AllowedSeen size c b (add t k d r) (plain (refused n)) = Unit {0}
AllowedSeen size c b (add t k d r) (plain (accepted x)) = NoCall c b t × (k < size) × (1 ≤ r) × (r ≤ 8) × (x ≡ untried)
AllowedSeen size c b (add t k d r) (plain (answered x o)) = ⊥
AllowedSeen size c b (add t k d r) (summed x o) = ⊥

abbrev pub WellFormedSeen : (size : ℕ) → Calls → AddCalls → List (Request × RequestEvent) → Type 0
WellFormedSeen size c b [] = Unit {0}
WellFormedSeen size c b (x ∷ h) = AllowedSeen size c b x.0 x.1 × WellFormedSeen size (enter_plain c x.0 x.1) (enter_add b x.0 [] x.1) h

-- WHAT HOLDS OF THEM

-- every call on a cell is finished: no read, swap or add is pending there, none was withdrawn
pub record AllFinished (h : List (Request × RequestEvent)) (cell : ℕ) : Type 0 where
  pub calls : Complete (calls_seen h) cell
  pub none_pending : (t : ℕ) (c : AddCall) → (adds_seen h).pending t ≡ some c → c.start.cell ≢ cell
  pub none_withdrawn : (c : AddCall) → c ∈ (adds_seen h).withdrawn → c.start.cell ≢ cell

-- what holds of the adds, by the events
pub record RightSeen (b : AddCalls) : Type 0 where
  pub ended : (f : FinishedAdd) → f ∈ b.finished → Counted f
  pub unended : (t : ℕ) (c : AddCall) → b.pending t ≡ some c → FewSoFar c
  pub withdrawn : (c : AddCall) → c ∈ b.withdrawn → FewSoFar c
