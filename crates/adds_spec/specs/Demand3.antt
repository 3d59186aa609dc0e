-- Demand 3 of lists with adds: the same claims, of the plain calls and of the parts of the adds.
use Rattle.std.specs.Prelude.{List, [], ◌∷◌, map, ℕ, suc}
use Rattle.history_spec.specs.History.{Action, Event, history, Calls, no_calls, enter, Allowed}
use Rattle.history_spec.specs.Demand3.{RightCalls}
use Rattle.adds_spec.specs.Requests.{Request, Gave, no_adds, with_adds}

-- THE CALLS: each plain action of a request is entered at the request's moment

abbrev pub at_moment : ℕ → Calls → Calls
at_moment m b = record { now = m; accepted = b.accepted; pending = b.pending; finished = b.finished; withdrawn = b.withdrawn }

abbrev pub enter_did : ℕ → Calls → List (Action × Event) → Calls
enter_did m b [] = at_moment (suc m) b
enter_did m b (x ∷ h) = enter_did m (enter (at_moment m b) x.0 x.1) h

-- one list of plain actions for each request
abbrev pub enter_dids : Calls → List (List (Action × Event)) → Calls
enter_dids b [] = b
enter_dids b (d ∷ l) = enter_dids (enter_did b.now b d) l

abbrev pub AllowedDid : ℕ → ℕ → Calls → List (Action × Event) → Type 0
AllowedDid size m b [] = Unit {0}
AllowedDid size m b (x ∷ h) = Allowed size b x.0 x.1 × AllowedDid size m (enter (at_moment m b) x.0 x.1) h

abbrev pub WellFormedDids : ℕ → Calls → List (List (Action × Event)) → Type 0
WellFormedDids size b [] = Unit {0}
WellFormedDids size b (d ∷ l) = AllowedDid size b.now b d × WellFormedDids size (enter_did b.now b d) l

-- DEMAND 3

abbrev pub dids_of : List (Request × Gave) → List (List (Action × Event))
dids_of h = map (λ (x : Request × Gave). x.1.did) h

-- `Clear` is judged in the figure that was fed the accepted plain actions
pub record Demand3Adds (Clear : List Action → ℕ → Type 0) (size : ℕ) (values : ℕ → ℕ) (h : List (Request × Gave)) : Type 0 where
  pub well_formed : WellFormedDids size no_calls (dids_of h)
  pub calls : RightCalls Clear values (enter_dids no_calls (dids_of h))

-- a machine with adds meets it from a state: every list of requests
abbrev pub MeetsAdds : {S : Type 0} → (top : ℕ) → (S → Action → S × Event) → S → (List Action → ℕ → Type 0) → ℕ → (ℕ → ℕ) → Type 0
MeetsAdds top machine start Clear size values = (l : List Request) → Demand3Adds Clear size values (history (with_adds top machine) (start, no_adds) l)
