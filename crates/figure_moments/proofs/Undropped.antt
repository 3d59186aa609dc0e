-- Demand 3's promise as it was before drops: where no swap of unequal values was withdrawn, an active block is enough.
use mathlib.Core.Path.{refl}
use mathlib.Core.Logic.{◌≢◌}
use mathlib.Core.List.{List}
use Prim.Native.Nat.{ℕ}
use lib.ListN.{get_or}
use Rattle.figure_lines.specs.Record.{no_value}
use Rattle.history_spec.specs.History.{Action, history, calls_of}
use Rattle.history_spec.specs.Demand3.{NoHardwareUndropped, clear_after}
use Rattle.history_linearization.proofs.Undropped.{Keeping, undropped_meet}
use Rattle.figure.specs.Figure.{World, opening, figure, active}
use Rattle.figure.proofs.Marks.{MarksIn, AllKnown, marks-next, marks-ready}
use Rattle.figure_moments.proofs.Simulation.{simulation}
use Rattle.figure_moments.proofs.Reachable.{Reachable, reached_by, knows, reached-task}

all_known_lem : (v : ℕ) (w : World) → Reachable v w → AllKnown w
all_known_lem v w i t l = (i.ghost, knows v w i, reached-task v w i t l)

module _ (tasks cells : ℕ) (values : List ℕ) (some-values : (cell : ℕ) → get_or values cell 0 ≢ no_value) where
  keeping : Keeping (simulation tasks cells values some-values) active MarksIn
  unfolding simulation
  keeping = record {
    opened = λ k c y. absurd (y refl);
    keeps = λ x g κ i. marks-next x.0 i.on_path (all_known_lem cells x.0 (reached_by i));
    found = λ x g κ i. marks-ready x.0 i.on_path;
  }

  -- A call attempts no hardware CAS if it meets no contention and the block was active at its begin. No swap of unequal values may have been
  -- withdrawn on the cell before.
  pub figure_undropped_quietly : (actions : List Action) → NoHardwareUndropped (clear_after figure (opening tasks cells values) active) (calls_of (history figure (opening tasks cells values) actions))
  figure_undropped_quietly = undropped_meet (simulation tasks cells values some-values) active MarksIn keeping
