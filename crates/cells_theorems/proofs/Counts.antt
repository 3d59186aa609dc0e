-- Each count is the lines done: what a call on the pool reports is counted from its lines, which are those of a path that the figure reaches.
use mathlib.Core.Path.{◌≡◌, refl, subst}
use mathlib.Core.Logic.{inl, inr}
use mathlib.Core.Option.{none, some}
use mathlib.Core.List.{List, [], ◌∷◌, map}
use Prim.Native.Nat.{ℕ, ◌+◌}
use lib.ListN.{length}
use Rattle.figure_lines.specs.Lines.{Line, loads, stores, hardware}
use Rattle.figure_lines.specs.Paths.{row_of}
use Rattle.cells_spec.specs.declared.State.{State}
use Rattle.cells_spec.specs.Questions.{refusal, open_questions}
use Rattle.history_spec.specs.Basics.{◌∈◌}
use Rattle.history_spec.specs.History.{Action, history, calls_of}
use Rattle.figure.specs.Figure.{opening}
use Rattle.figure_cell.specs.Paths.{reached, access_count, steps}
use Rattle.figure.specs.Traces.{Traced, Trace, no_trace, Counted, finished_report, traced_report, figure_traces}
use Rattle.figure_cell.proofs.LineLaws.{on_paths}
use Rattle.figure.proofs.Paths.{calls_on_paths, row}
use Rattle.cells_theorems.proofs.Ninth.{never_ninth, own_path, one_of_twelve}
use Rattle.figure.proofs.TracedCalls.{same-calls}
use Rattle.cells_spec.specs.Machine.{pool}
use Rattle.cells_theorems.specs.Terms.{start}
use Rattle.cells_theorems.specs.Traces.{next_line, trace}
use Rattle.cells_theorems.proofs.Traces.{same-trace}
use Rattle.cells_theorems.proofs.Demand3.{starting_values, cells_meet_demand_3}

-- by the steps and hardware CAS attempts of these lines the table's row of them is found
abbrev Finds : List Line → Type 0
Finds p = row_of (steps p) (access_count hardware p) ≡ some (access_count loads p, access_count stores p)

abbrev AllFind : List (List Line) → Type 0
AllFind [] = Unit {0}
AllFind (p ∷ ps) = Finds p × AllFind ps

reached_find : AllFind reached
unfolding row_of
reached_find = (refl, (refl, (refl, (refl, (refl, (refl, (refl, (refl, (refl, (refl, (refl, (refl, tt))))))))))))

finds : (ps : List (List Line)) → AllFind ps → (p : List Line) → p ∈ ps → Finds p
finds [] h p i = absurd i
finds (q ∷ ps) h p (inl e) = rw e h.0
finds (q ∷ ps) h p (inr i) = finds ps h.1 p i

module _ (old : State) (words : List ℕ) (tasks cells blocks : ℕ) (values : List ℕ) (allowed : refusal (open_questions (length words) tasks cells blocks values) ≡ none) (actions : List Action) where
  of_figure : (x : Traced) → x ∈ (figure_traces (opening tasks cells values) no_trace actions).done → Counted x
  of_figure x i =
      let c = calls_on_paths tasks cells values actions x i in
      let m = on_paths x.op x.report.answer x.lines c.path in
      let other = never_ninth tasks cells values (starting_values old words tasks cells blocks values allowed) actions x i in
      record {
        path = one_of_twelve x.lines m other;
        its-path = own_path x.op x.report.answer x.lines c.path other;
        all-steps = c.all-steps;
        all-hard = c.all-hard;
        row = row x.lines m;
        kind = c.kind;
        cell = c.cell;
      }

  -- The trace leaves out no call: its finished calls are the history's, one by one, as begun and with the same answer and counts.
  pub calls_traced : map finished_report (calls_of (history pool (start old words tasks cells blocks values) actions)).finished ≡ map traced_report (trace (start old words tasks cells blocks values) actions).done
  calls_traced = same-calls pool next_line cells (start old words tasks cells blocks values) actions (cells_meet_demand_3 old words tasks cells blocks values allowed actions).well_formed

  -- EACH COUNT IS THE LINES DONE. From a fresh opening, for every list of actions, every finished call did the lines of one of the twelve
  -- paths that are reached: a read and a swap of equal values one of the first two, a swap of unequal values one of the ten others, and
  -- one that ends in the answer that it gave. The kind and cell that it reports are as begun, the steps and hardware CAS attempts those of its lines; and its steps,
  -- loads, stores and hardware CAS attempts are a row of the table.
  pub calls-counted : (call : Traced) → call ∈ (trace (start old words tasks cells blocks values) actions).done → Counted call
  calls-counted x i = of_figure x (subst (λ (r : Trace). x ∈ r.done) (same-trace old words tasks cells blocks values allowed actions) i)

  -- Every finished call finds its row: by the steps and hardware CAS attempts that it reports, the table has the loads and stores of the
  -- lines that it did.
  pub calls_find_rows : (call : Traced) → call ∈ (trace (start old words tasks cells blocks values) actions).done → row_of call.report.steps (call.report.won + call.report.lost) ≡ some (access_count loads call.lines, access_count stores call.lines)
  calls_find_rows x i = let c = calls-counted x i in rw (c.all-steps, c.all-hard) (finds reached reached_find x.lines c.path)
