-- Demand 3 from a machine's simulation.
use mathlib.Core.List.{List, map}
use Prim.Native.Nat.{ℕ}
use Rattle.history_spec.specs.History.{Op, cell_of, Action, Event, history, run, calls_of}
use Rattle.history_spec.specs.Demand3.{Meets, Reads, NoHardwareReads, clear_after}
use Rattle.history_spec.specs.Moments.{Names, point_of, beside}
use Rattle.history_linearization.proofs.Simulation.{Simulation}
use Rattle.history_linearization.proofs.Counts.{bounds_of}
use Rattle.history_linearization.proofs.NoHardware.{no_hardware}
use Rattle.history_linearization.proofs.EveryAction.{within, at-end}
use Rattle.history_linearization.proofs.Moments.{placing, marks_linearize}

module _ {S N : Type 0} {machine : S → Action → S × Event} {note : N → S → Action → Event → N} {names : Names (S × N)} {start : S} {blank : N} {ready : S → Op → Type 0} {tasks size : ℕ} {values : ℕ → ℕ}
    (M : Simulation machine note names start blank ready tasks size values) where
  -- a machine with a simulation meets demand 3 at every list of actions: its histories are well_formed, its marks are a linearization by the
  -- sequential specification, its calls keep their bounds, and those without contention make no hardware CAS
  pub meets : (clear : S → ℕ → Type 0) → ((s : S) (op : Op) → clear s (cell_of op) → ready s op) → Meets machine start (clear_after machine start clear) size values
  meets clear is-ready l =
      let r = at-end M l in
      let G = r.good in
      record {
        well_formed = r.well_formed;
        calls = record {
          linearization = map point_of (placing M l);
          linearizes = marks_linearize M l;
          bounds = bounds_of (within M (run (beside machine note) (start, blank) l) _ r.finished r.emitted G) G.ended G.gone;
          no_hardware = λ c n i z. no_hardware machine start ready M.doing M.Quiet G.quiet c n i (is-ready _ c.start.op z);
        };
      }

  pub reads_meet : (active : S → ℕ → Type 0) → ((s : S) (op : Op) → Reads op → active s (cell_of op) → ready s op) → (l : List Action) → NoHardwareReads (clear_after machine start active) (calls_of (history machine start l))
  reads_meet active is-ready l c n i reads z = no_hardware machine start ready M.doing M.Quiet (at-end M l).good.quiet c n i (is-ready _ c.start.op reads z)
