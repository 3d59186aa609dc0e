-- Every world that the figure reaches from an opening has the invariant, if nobody asks what the tasks have seen.
use mathlib.Core.Path.{◌≡◌, sym, ap, subst, ◌∙◌}
use mathlib.Core.Logic.{◌≢◌}
use mathlib.Core.List.{List, [], ◌∷◌}
use Prim.Native.Nat.{ℕ, ◌<◌}
use lib.Dec.{T}
use lib.ListN.{get_or}
use Rattle.figure_lines.specs.declared.Record.{Record}
use Rattle.figure_lines.specs.Answers.{Done, Result}
use Rattle.figure_lines.specs.Record.{no_value}
use Rattle.figure_lines.specs.Lines.{Line, line_of}
use Rattle.history_spec.specs.History.{Action, begin, step, drop, Event, refused, accepted, answered, Response, run}
use Rattle.history_linearization.proofs.Simulation.{Ghost, Knowledge, Grown, Forward, Follows}
use Rattle.history_linearization.proofs.Simulation as Sim
use Rattle.figure.specs.Figure.{World, opening, figure}
use Rattle.figure_moments.specs.Moments.{Notes, no_notes}
use Rattle.figure_moments.proofs.Beyond.{Beyond}
use Rattle.figure_cell.specs.Memory.{Cell}
use Rattle.figure_cell.proofs.Classes.{taking, holding}
use Rattle.figure_cell.proofs.Invariant as Local
use Rattle.figure_cell.proofs.Invariant.{View, TaskOf}
use Rattle.figure_cell.proofs.Steps.{Change, Reason, Out}
use Rattle.figure.proofs.Records.{Pending, AllOnPath}
use Rattle.figure.proofs.Tallies.{doing, follows}
use Rattle.figure.proofs.Views.{on_in, view}
use Rattle.figure.proofs.Worlds.{facts, cell_after, next_after}
use Rattle.figure_moments.proofs.Known.{known, κ⁺, out}
use Rattle.figure_moments.proofs.Begins.{good_grown}
use Rattle.figure_moments.proofs.Simulation.{Watched, acting_in, clock_of, watch_names, Invariant, q⁺, same_next, forward, opened}

-- every task may have seen every value at every moment, and is early
abbrev pub trivial : Knowledge
trivial = record { saw = λ u m n. Unit {0}; early = λ u. Unit {0} }

-- with some notes, those of the figure in which withdrawn calls halt among them
pub record Reachable (v : ℕ) (w : World) : Type 0 where
  pub tasks : ℕ
  pub notes : Notes × Beyond
  pub ghost : Ghost
  pub holds : Invariant tasks v (w, notes) ghost trivial

-- whatever is asked
abbrev pub reached_by : {n v : ℕ} {x : Watched} {g : Ghost} {κ : Knowledge} → Invariant n v x g κ → Reachable v x.0
reached_by {n} {v} {x} {g} {κ} i = record {
  tasks = n;
  notes = x.1;
  ghost = g;
  holds = record {
    size = i.size;
    tasks = i.tasks;
    on_path = i.on_path;
    good = good_grown x.1.1.0 x.1.1.1 g κ trivial i.good (record { saw = λ u n n' a b m z s. tt; early = λ u n n' a b s. tt; sees = λ u n n' a b s. tt; fresh_early = λ u n a s. tt });
    dated = i.dated;
    same = i.same;
    left = i.left;
  };
}

module _ (v : ℕ) (w : World) (i : Reachable v w) where
  abbrev g : Ghost
  g = i.ghost

  abbrev x : Watched
  x = (w, i.notes)

  abbrev Inv : Watched → Ghost → Knowledge → Type 0
  Inv = Invariant i.tasks v

  grown : (x' : Watched) (g' : Ghost) → Grown acting_in clock_of (watch_names i.tasks) x x' g' trivial trivial
  grown x' g' = record { saw = λ u n n' a b m z s. tt; early = λ u n n' a b s. tt; sees = λ u n n' a b s. tt; fresh_early = λ u n a s. tt }

  keeps : (w' : World) (notes : Notes × Beyond) (g' : Ghost) → Sim.Keeps acting_in clock_of (watch_names i.tasks) i.tasks Inv x (w', notes) g' trivial → Reachable v w'
  keeps w' notes g' k = record { tasks = i.tasks; notes = notes; ghost = g'; holds = k trivial (grown (w', notes) g') }

  by-event : (a : Action) (e : Event) (w' : World) (notes : Notes × Beyond) → Forward acting_in clock_of (watch_names i.tasks) i.tasks Inv x g trivial a (w', notes) e → Follows doing w.cells w a w' e → Reachable v w'
  by-event (begin t op) (refused n) w' notes f s = keeps w' notes _ f
  by-event (begin t op) (accepted y) w' notes f s = keeps w' notes _ f
  by-event (begin t op) (answered y r) w' notes f s = absurd s
  by-event (step t) (refused n) w' notes f s = keeps w' notes _ f
  by-event (step t) (accepted y) w' notes f s = keeps w' notes _ f.keeps
  by-event (step t) (answered y r) w' notes f s = keeps w' notes _ f.moves.keeps
  by-event (drop t) (refused n) w' notes f s = keeps w' notes _ f
  by-event (drop t) (accepted y) w' notes f s = record { tasks = i.tasks; notes = notes; ghost = _; holds = f trivial (grown (w', notes) _) (record { saw = λ m n a. tt; early = λ a. tt }) }
  by-event (drop t) (answered y r) w' notes f s = absurd s

  pub next_reachable : (a : Action) → Reachable v (figure w a).0
  next_reachable a = by-event a (figure w a).1 (figure w a).0 _ (forward i.tasks v w i.notes.0 i.notes.1.0 i.notes.1.1 g trivial i.holds a) (follows w i.holds.on_path a)

module _ (n v : ℕ) (vs : List ℕ) (some-values : (k : ℕ) → get_or vs k 0 ≢ no_value) where
  pub opening_reachable : Reachable v (opening n v vs)
  opening_reachable = record { tasks = n; notes = (no_notes, (opening n v vs, no_notes)); ghost = _; holds = opened n v vs some-values trivial }

  pub reachable : (l : List Action) → Reachable v (run figure (opening n v vs) l)
  reachable = go (opening n v vs) opening_reachable
    where
      go : (w : World) → Reachable v w → (l : List Action) → Reachable v (run figure w l)
      go w i [] = i
      go w i (a ∷ l) = go (figure w a).0 (next_reachable v w i a) l

-- WHAT HOLDS OF ITS TASKS, by the figure in which withdrawn calls halt

module _ (v : ℕ) (w : World) (i : Reachable v w) where
  abbrev w⁺ : World
  w⁺ = i.notes.1.0

  abbrev pub knows : Local.Knowledge
  knows = known i.notes.1.1 trivial

  pub reached-path : AllOnPath w
  reached-path = i.holds.on_path

  module _ (t : ℕ) (l : t < w.tasks) where
    same_record : w⁺.records t ≡ w.records t
    same_record = i.holds.same.records t (subst (λ n. t < n) i.holds.tasks l)

    pub reached-task : TaskOf (view w i.ghost (w.records t).cell) knows t (line_of (w.records t)) (w.records t)
    reached-task = subst (λ (c : ℕ → Cell). Local.Task (c (w.records t).cell) (i.ghost.cells (w.records t).cell) (i.ghost.placed t) (i.ghost.phase (w.records t).cell) knows t (line_of (w.records t)) (w.records t)) i.holds.same.cell
        (subst (λ (r : Record). Local.Task (w⁺.cell r.cell) (i.ghost.cells r.cell) (i.ghost.placed t) (i.ghost.phase r.cell) knows t (line_of r) r) same_record (facts w⁺ i.ghost knows i.holds.good t))

    -- why it may answer as it does
    pub reached-answer : (did : List Line) → Pending w.cells did (w.records t) → (P : Response → Type 0) → ((s : View) (κ : Local.Knowledge) (a : Response) (x : Change) → Reason s κ t a x → P a) → (f : Result) → next_after w t ≡ Done f → P f.answer
    reached-answer did o P h f e = go (out w⁺ i.notes.1.1 i.ghost trivial i.holds.good t did q)
      where
        q : Pending w⁺.cells did (w⁺.records t)
        q = q⁺ i.tasks v w i.notes.0 w⁺ i.notes.1.1 i.ghost trivial i.holds t did l o

        go : Out (view w⁺ i.ghost (w⁺.records t).cell) knows (κ⁺ w⁺ i.notes.1.1 i.ghost trivial i.holds.good t did q) t (cell_after w⁺ t) (next_after w⁺ t) → P f.answer
        go z = h _ _ f.answer _ (subst (Out (view w⁺ i.ghost (w⁺.records t).cell) knows (κ⁺ w⁺ i.notes.1.1 i.ghost trivial i.holds.good t did q) t (cell_after w⁺ t))
            (same_next i.tasks v w i.notes.0 w⁺ i.notes.1.1 i.ghost trivial i.holds t did l o ∙ e) z).1

  -- a block that a task has taken no task holds
  pub reached_unheld : (t u : ℕ) → t < w.tasks → u < w.tasks → (w.records u).cell ≡ (w.records t).cell → T (taking (line_of (w.records t))) → T (holding (line_of (w.records u))) → (w.records t).taken ≢ (w.records u).held
  reached_unheld t u l m e a b z =
      let et = on_in w⁺.records (w.records t).cell t (ap (λ (r : Record). r.cell) (same_record t l)) ∙ same_record t l in
      let eu = on_in w⁺.records (w.records t).cell u (ap (λ (r : Record). r.cell) (same_record u m) ∙ e) ∙ same_record u m in
      (i.holds.good.cells (w.records t).cell).unheld t u (rw et a) (rw eu b) (ap (λ (r : Record). r.taken) et ∙ (z ∙ sym (ap (λ (r : Record). r.held) eu)))

  pub reached-some : (k : ℕ) → (w.cell k).v (w.cell k).current ≢ no_value
  unfolding Local.none
  reached-some k = subst (λ (c : ℕ → Cell). (c k).v (c k).current ≢ no_value) i.holds.same.cell (i.holds.good.cells k).current.v-some
