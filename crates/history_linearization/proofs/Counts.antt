-- The bounds: of a pending call they are the machine's own; a finished call keeps those of its last step.
use mathlib.Core.Path.{◌≡◌}
use mathlib.Core.Logic.{inl, inr}
use mathlib.Core.Option.{some}
use mathlib.Core.List.{◌∷◌}
use Prim.Native.Nat.{ℕ, ◌≤◌, ◌<◌}
use native.Mathlib.Omega.{arith}
use Rattle.history_spec.specs.Basics.{◌∈◌}
use Rattle.history_spec.specs.History.{Action, Event, Call, attempts, FinishedCall, WithdrawnCall, Calls, enter}
use Rattle.history_spec.specs.Demand3.{most, most_hard, Reports, Bounds}
use Rattle.history_linearization.proofs.Tracks.{Change, refuses, starts, goes, ends, drops}
use Rattle.history_linearization.proofs.MovesOne.{Dated, last_one, ended-finished, last-withdrawn, dropped-withdrawn}

-- task by task, what the machine promises of the pending calls
abbrev pub Within : Calls → Type 0
Within b = (t : ℕ) (c : Call) → b.pending t ≡ some c → (c.steps < most c.start.op) × (attempts c ≤ most_hard c.start.op)

pub record Ended (f : FinishedCall) : Type 0 where
  pub few : (f.call.steps ≤ most f.call.start.op) × (attempts f.call ≤ most_hard f.call.start.op)
  pub reported : Reports f.call f.report

abbrev pub AllEnded : Calls → Type 0
AllEnded b = (f : FinishedCall) → f ∈ b.finished → Ended f

pub ended-next : {S : Type 0} {s s' : S} {b : Calls} {a : Action} {e : Event} → Dated b → Within b → AllEnded b → Change s s' b a e → AllEnded (enter b a e)
ended-next dated within all (refuses q) f i = all f i
ended-next dated within all (starts idle) f i = all f i
ended-next dated within all (goes c busy) f i = all f i
ended-next dated within all (drops c busy) f i = all f i
ended-next {b = b} dated within all (ends {t} {x} {r} c busy p q) f i = go (rw (ended-finished b dated t x c busy r) at i)
  where
    go : f ∈ (last_one b dated t x c busy r ∷ b.finished) → Ended f
    go (inl e) = rw e (record { few = (omega (arith, (within t c busy).0), omega (arith, p.won, p.lost)); reported = p })
    go (inr j) = all f j

-- a withdrawn call keeps the bounds that it had while it was pending
abbrev pub AllWithdrawn : Calls → Type 0
AllWithdrawn b = (w : WithdrawnCall) → w ∈ b.withdrawn → (w.call.steps < most w.call.start.op) × (attempts w.call ≤ most_hard w.call.start.op)

pub withdrawn-next : {S : Type 0} {s s' : S} {b : Calls} {a : Action} {e : Event} → Dated b → Within b → AllWithdrawn b → Change s s' b a e → AllWithdrawn (enter b a e)
withdrawn-next dated within all (refuses q) w i = all w i
withdrawn-next dated within all (starts idle) w i = all w i
withdrawn-next dated within all (goes c busy) w i = all w i
withdrawn-next dated within all (ends c busy p q) w i = all w i
withdrawn-next {b = b} dated within all (drops {t} {x} c busy) w i = go (rw (dropped-withdrawn b dated t x c busy) at i)
  where
    go : w ∈ (last-withdrawn b dated t x c busy ∷ b.withdrawn) → (w.call.steps < most w.call.start.op) × (attempts w.call ≤ most_hard w.call.start.op)
    go (inl e) = rw e (within t c busy)
    go (inr j) = all w j

pub bounds_of : {b : Calls} → Within b → AllEnded b → AllWithdrawn b → Bounds b
bounds_of within all gone = record { ended = λ f i. (all f i).few; reported = λ f i. (all f i).reported; unended = within; withdrawn = gone }
