-- Demand 3 with adds from demand 3 without.
use mathlib.Core.Path.{sym, subst}
use mathlib.Core.List.{List, map}
use Prim.Native.Nat.{ℕ}
use Rattle.history_spec.specs.History.{Action, Event, no_calls, enter_all}
use Rattle.history_spec.specs.Demand3.{Demand3, Meets}
use Rattle.adds_spec.specs.Requests.{Request, no_adds}
use Rattle.adds_spec.specs.Demand3.{dids_of, enter_dids, MeetsAdds}
use Rattle.adds_spec.proofs.Images.{point_at, linearizes-at, bounds-at, no_hardware_at}
use Rattle.adds_spec.proofs.Clock.{joined, clock_of, Retold, retold}
use Rattle.adds_spec.proofs.Plays.{requested, flat, flat_history, begins-last}

module _ {S : Type 0} (top : ℕ) (machine : S → Action → S × Event) (start : S) (Clear : List Action → ℕ → Type 0) (size : ℕ) (values : ℕ → ℕ) (meets : Meets machine start Clear size values) (l : List Request) where
  abbrev dids : List (List (Action × Event))
  dids = dids_of (requested top machine start no_adds l)

  -- demand 3 of the plain actions
  pub plainly : Demand3 Clear size values (joined dids)
  plainly = subst (Demand3 Clear size values) (sym (flat_history top machine l start no_adds)) (meets (flat top machine start no_adds l))

  pub retelling : Retold size dids
  retelling = retold size dids (begins-last top machine l start no_adds) plainly.well_formed

-- A machine that meets demand 3 at every list of begins, steps and drops meets it at every list that holds adds too.
pub meets_adds : {S : Type 0} (top : ℕ) (machine : S → Action → S × Event) (start : S) (Clear : List Action → ℕ → Type 0) (size : ℕ) (values : ℕ → ℕ) → Meets machine start Clear size values → MeetsAdds top machine start Clear size values
meets_adds top machine start Clear size values meets l =
    let d = plainly top machine start Clear size values meets l in
    let r = retelling top machine start Clear size values meets l in
    let h = dids_of (requested top machine start no_adds l) in
    let φ = clock_of h in
    let b = enter_all no_calls (joined h) in
    let b' = enter_dids no_calls h in
    record {
      well_formed = r.well_formed;
      calls = record {
        linearization = map (point_at φ) d.calls.linearization;
        linearizes = linearizes-at φ b b' r.image r.now r.clock d.calls.linearizes;
        bounds = bounds-at φ b b' r.image r.now r.clock d.calls.bounds;
        no_hardware = no_hardware_at φ b b' r.image r.now r.clock Clear d.calls.no_hardware;
      };
    }
