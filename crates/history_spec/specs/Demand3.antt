-- Demand 3, of any machine that takes actions and gives events.
use Rattle.std.specs.Prelude.{◌≡◌, ◌≢◌, ◌⊎◌, List, ◌++◌, ℕ, ◌≤◌, ◌<◌, replicate}
use Rattle.std.proofs.Math.Option.{some}
use Rattle.history_spec.specs.Basics.{◌∈◌}
use Rattle.history_spec.specs.History.{Op, read, swap, cell_of, kind_of, Report, Action, step, drop, Event, history, run, Call, attempts, FinishedCall, WithdrawnCall, Calls, no_calls, calls_of, CallOf, WellFormed}
use Rattle.history_spec.specs.Linearization.{Point, Linearizes}

-- BOUNDS

abbrev pub most : Op → ℕ
most (read k) = 6
most (swap k e n) = 21

abbrev pub most_hard : Op → ℕ
most_hard (read k) = 1
most_hard (swap k e n) = 3

-- the kind and cell that a call reports are as begun, its counts those of the history
pub record Reports (c : Call) (r : Report) : Type 0 where
  pub kind : r.kind ≡ kind_of c.start.op
  pub cell : r.cell ≡ cell_of c.start.op
  pub steps : r.steps ≡ c.steps
  pub won : r.won ≡ c.won
  pub lost : r.lost ≡ c.lost

pub record Bounds (b : Calls) : Type 0 where
  pub ended : (f : FinishedCall) → f ∈ b.finished → (f.call.steps ≤ most f.call.start.op) × (attempts f.call ≤ most_hard f.call.start.op)
  pub reported : (f : FinishedCall) → f ∈ b.finished → Reports f.call f.report
  pub unended : (t : ℕ) (c : Call) → b.pending t ≡ some c → (c.steps < most c.start.op) × (attempts c ≤ most_hard c.start.op)
  pub withdrawn : (w : WithdrawnCall) → w ∈ b.withdrawn → (w.call.steps < most w.call.start.op) × (attempts w.call ≤ most_hard w.call.start.op)

-- NO HARDWARE CAS WITHOUT CONTENTION

abbrev pub Unequal : Op → Type 0
Unequal (read k) = ⊥
Unequal (swap k e n) = e ≢ n

-- from c's begin to its end no other swap with unequal values is pending on its cell; a withdrawn one is so until its drop
abbrev pub Alone : Calls → Call → ℕ → Type 0
Alone b c end = (d : Call) (n : ℕ) → CallOf b d n → Unequal d.start.op → cell_of d.start.op ≡ cell_of c.start.op →
    d.start.at ≢ c.start.at → (n ≤ c.start.at) ⊎ (end ≤ d.start.at)

-- `Clear l k`: nothing that was left in cell k by the accepted actions l makes a call attempt a hardware CAS
abbrev pub NoHardware : (List Action → ℕ → Type 0) → Calls → Type 0
NoHardware Clear b = (c : Call) (n : ℕ) → CallOf b c n → Clear c.start.before (cell_of c.start.op) → Alone b c n → attempts c ≡ 0

-- who runs as a read: a read, and a swap of equal values (line 14)
abbrev pub Reads : Op → Type 0
Reads (read k) = Unit {0}
Reads (swap k e n) = e ≡ n

-- of those, where the cell is `Active` already: a read looks at no splitter
abbrev pub NoHardwareReads : (List Action → ℕ → Type 0) → Calls → Type 0
NoHardwareReads Active b = (c : Call) (n : ℕ) → CallOf b c n → Reads c.start.op → Active c.start.before (cell_of c.start.op) → Alone b c n → attempts c ≡ 0

-- no swap with unequal values was withdrawn on c's cell before its begin
abbrev pub NoneWithdrawn : Calls → Call → Type 0
NoneWithdrawn b c = (w : WithdrawnCall) → w ∈ b.withdrawn → Unequal w.call.start.op → cell_of w.call.start.op ≡ cell_of c.start.op → c.start.at ≤ w.end

-- of calls on such a cell, where it is `Active` already: only a withdrawn swap leaves more behind
abbrev pub NoHardwareUndropped : (List Action → ℕ → Type 0) → Calls → Type 0
NoHardwareUndropped Active b = (c : Call) (n : ℕ) → CallOf b c n → NoneWithdrawn b c → Active c.start.before (cell_of c.start.op) → Alone b c n → attempts c ≡ 0

-- a list of begins and steps, as demand 3 was before CR 12
abbrev pub NoDrops : List Action → Type 0
NoDrops l = (t : ℕ) → drop t ∈ l → ⊥

-- by the machine that was fed the actions l
abbrev pub clear_after : {S : Type 0} → (S → Action → S × Event) → S → (S → ℕ → Type 0) → List Action → ℕ → Type 0
clear_after machine start clear l k = clear (run machine start l) k

-- DEMAND 3. It speaks of histories alone. A machine that refuses or accepts begins as it likes can meet it, whatever tasks and values they
-- name, and so can one that acts at once and then idles: demand 1 ties refusals to the questions, and demand 2 each step to a line. What an event says of a hardware CAS is the machine's own word: in
-- `pool` and `figure` it is read off the access of the step's line and memory's answer.

-- of the calls alone
pub record RightCalls (Clear : List Action → ℕ → Type 0) (values : ℕ → ℕ) (b : Calls) : Type 0 where
  pub linearization : List Point
  pub linearizes : Linearizes values b linearization
  pub bounds : Bounds b
  pub no_hardware : NoHardware Clear b

pub record Demand3 (Clear : List Action → ℕ → Type 0) (size : ℕ) (values : ℕ → ℕ) (h : List (Action × Event)) : Type 0 where
  pub well_formed : WellFormed size no_calls h
  pub calls : RightCalls Clear values (calls_of h)

-- a machine meets it from a state: every list of actions
abbrev pub Meets : {S : Type 0} → (S → Action → S × Event) → S → (List Action → ℕ → Type 0) → ℕ → (ℕ → ℕ) → Type 0
Meets machine start Clear size values = (l : List Action) → Demand3 Clear size values (history machine start l)

-- WHAT A PLANNER READS FROM IT

-- after the actions l, so many more steps of task t, at most `few`, finish its call c
pub record Finishes {S : Type 0} (machine : S → Action → S × Event) (start : S) (l : List Action) (t : ℕ) (c : Call) (few : ℕ) : Type 0 where
  pub steps : ℕ
  pub at_most : steps ≤ few
  pub end : FinishedCall
  pub done : end ∈ (calls_of (history machine start (l ++ replicate steps (step t)))).finished
  pub is : end.call.start ≡ c.start
