-- A session's counts have 32 bits: at most 65,535 calls finish, each with few hardware CAS attempts.
use mathlib.Core.List.{List, [], ◌∷◌}
use Prim.Native.Nat.{ℕ, ◌+◌, ◌*◌, ◌≤◌}
use native.Mathlib.Omega.{arith}
use lib.ListN.{length}
use Rattle.cells_spec.specs.declared.State.{State}
use Rattle.cells_spec.specs.Answers.{Said, Refused, Acted, Ended}
use Rattle.cells_spec.specs.Events.{event_of}
use Rattle.cells_spec.specs.Machine.{Pool, does, tried_by, pool}
use Rattle.history_spec.specs.History.{Action, task_of, Attempt, untried, Event, refused, accepted, answered, history}
use Rattle.session_spec.specs.Lines.{FewDigits}
use Rattle.session_spec.specs.Printed.{Totals, totals, add_event, add_events}
use Rattle.session_tool.specs.Loop.{Few}
use Rattle.session_tool.proofs.Outcomes.{small}

few_of : (t : ℕ) (e : Event) → FewDigits t e → Few e
few_of t (refused n) h = tt
few_of t (accepted x) h = tt
few_of t (answered x r) h = omega (arith, h.3, h.4)

pub few : (s : State) (p : List ℕ) (a : Action) → Few (event_of untried (does s p a).outcome)
few s p a = few_of (task_of a) (event_of untried (does s p a).outcome) (small s p a)

same-few : (x : Attempt) (o : Said) → Few (event_of untried o) → Few (event_of x o)
same-few x (Refused n) h = tt
same-few x Acted h = tt
same-few x (Ended f) h = h

added : (z : Totals) (e : Event) → Few e → ((add_event z e).finished ≤ z.finished + 1) × ((add_event z e).hard ≤ z.hard + 100)
added z (refused n) h = (omega arith, omega arith)
added z (accepted x) h = (omega arith, omega arith)
added z (answered x r) h = (omega arith, omega (arith, h))

all-added : (z : Totals) (x : Pool) (l : List Action) → ((add_events z (history pool x l)).finished ≤ z.finished + length l) × ((add_events z (history pool x l)).hard ≤ z.hard + 100 * length l)
all-added z x [] = (omega arith, omega arith)
all-added z (s, p) (a ∷ l) =
    let o = (does s p a).outcome in
    let e = event_of (tried_by s p a) o in
    let b = added z e (same-few (tried_by s p a) o (few s p a)) in
    let r = all-added (add_event z e) (pool (s, p) a).0 l in
    (omega (arith, b.0, r.0), omega (arith, b.1, r.1))

pub counts-fit : (x : Pool) (l : List Action) → length l ≤ 65535 → ((add_events (totals 0 0) (history pool x l)).finished ≤ 4294967295) × ((add_events (totals 0 0) (history pool x l)).hard ≤ 4294967295)
counts-fit x l h = let r = all-added (totals 0 0) x l in (omega (arith, r.0, h), omega (arith, r.1, h))
