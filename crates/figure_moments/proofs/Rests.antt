-- Where every call on a cell is finished, it shows what the calls leave, one after another in the order of their moments.
use mathlib.Core.Path.{◌≡◌, refl, sym, ap, ◌∙◌}
use mathlib.Core.Logic.{◌≢◌}
use mathlib.Core.Bool.{Bool, true, false, cond}
use mathlib.Core.List.{List, [], ◌∷◌, map}
use Prim.Native.Nat.{ℕ, ◌<◌}
use lib.Dec.{eqb}
use lib.ListN.{get_or}
use borrow.Author.Tests.{eqb-true, eqb-false, lt-ltb}
use Rattle.figure_lines.specs.Record.{no_value}
use Rattle.cells_spec.specs.Answers.{Shown}
use Rattle.cells_spec.specs.Look.{shown_value}
use Rattle.history_spec.specs.History.{Op, cell_of, Response, Action, Event, history, run, FinishedCall, calls_of, Complete}
use Rattle.history_spec.specs.Moments.{Mark, point_of, beside}
use Rattle.history_linearization.proofs.Simulation.{Phase, settled, frozen, late}
use Rattle.history_linearization.proofs.Order.{total}
use Rattle.history_linearization.proofs.Timeline.{left_by}
use Rattle.history_linearization.proofs.Moments.{rests, marks-total}
use Rattle.figure_cell.specs.Memory.{Cell}
use Rattle.figure_cell.proofs.Invariant.{none, PhaseIs, Current}
use Rattle.figure.specs.Figure.{World, figure, figure_looked, opening}
use Rattle.figure_moments.specs.Moments.{no_notes, moments}
use Rattle.figure_moments.proofs.Simulation.{watch, simulation, same-moments}

abbrev pub shows_now : Cell → ℕ
shows_now m = let b = m.current in shown_value (m.c b) (m.v b) (m.d b)

pub looked_in : (w : World) (cell : ℕ) → cell < w.cells → figure_looked w cell ≡ Shown (shows_now (w.cell cell))
unfolding figure_looked
looked_in w k h = rw (lt-ltb k w.cells h)

-- of a cell on which no late store is awaited
shows-value : (L next P c v d : ℕ) (f : Phase) → Current L next P c v d f → ((u : ℕ) → f ≢ late u) → shown_value c v d ≡ P
unfolding none
shows-value L next P c v d f k late? = go (eqb c 0) (eqb d no_value) refl refl f refl k.phase_is
  where
    go : (x y : Bool) → eqb c 0 ≡ x → eqb d no_value ≡ y → (g : Phase) → f ≡ g → PhaseIs g c v d P → cond x v (cond y v d) ≡ P
    go true true ex ey settled q p = (p (eqb-true d no_value ey)).1
    go true true ex ey frozen q p = absurd (p.0 (eqb-true c 0 ex))
    go true true ex ey (late u) q p = absurd (late? u q)
    go true false ex ey g q p = absurd (k.decided-inactive (eqb-false d no_value ey) (eqb-true c 0 ex))
    go false true ex ey settled q p = (p (eqb-true d no_value ey)).1
    go false true ex ey frozen q p = p.2
    go false true ex ey (late u) q p = absurd (late? u q)
    go false false ex ey g q p = k.decision (eqb-false d no_value ey)

-- the notes beside the figure change nothing of it
pub noted-run : {N : Type 0} (note : N → World → Action → Event → N) (l : List Action) (w : World) (o : N) → (run (beside figure note) (w, o) l).0 ≡ run figure w l
noted-run note [] w o = refl
noted-run note (a ∷ l) w o = noted-run note l (figure w a).0 (note o w a (figure w a).1)

-- a cell on which every call is finished
module _ (tasks cells : ℕ) (values : List ℕ) (some-values : (cell : ℕ) → get_or values cell 0 ≢ no_value) (actions : List Action) (cell : ℕ) (all : Complete (calls_of (history figure (opening tasks cells values) actions)) cell) where
  -- It shows what the calls leave in it, fed to sequential cells in the order of their moments.
  pub shows_what_is_left : shows_now ((run figure (opening tasks cells values) actions).cell cell) ≡ left_by (λ k. get_or values k 0) (map point_of (moments tasks cells values actions)) cell
  unfolding simulation
  shows_what_is_left =
      let r = rests (simulation tasks cells values some-values) actions in
      ap (λ (w : World). shows_now (w.cell cell)) (sym (noted-run (watch tasks) actions (opening tasks cells values) (no_notes, (opening tasks cells values, no_notes))))
      ∙ ap (λ (c : ℕ → Cell). shows_now (c cell)) (sym r.inv.same.cell)
      ∙ shows-value _ _ _ _ _ _ (r.ghost.phase cell) (r.inv.good.cells cell).current (r.nothing_late cell all) ∙ r.left cell
      ∙ ap (λ (m : List Mark). left_by (λ k. get_or values k 0) (map point_of m) cell) (same-moments tasks cells values some-values actions)

  -- A sum over the listed calls, in which only those on the cell weigh, is the sum over the finished ones.
  pub moments-total : (w : Op → Response → ℕ) → ((op : Op) (a : Response) → cell_of op ≢ cell → w op a ≡ 0) →
      total (λ (m : Mark). w m.call.op m.answer) (moments tasks cells values actions) ≡ total (λ (f : FinishedCall). w f.call.start.op f.report.answer) (calls_of (history figure (opening tasks cells values) actions)).finished
  moments-total w off = ap (total (λ (m : Mark). w m.call.op m.answer)) (sym (same-moments tasks cells values some-values actions)) ∙ marks-total (simulation tasks cells values some-values) actions cell all w off
