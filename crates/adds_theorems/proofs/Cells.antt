-- Adds on the cells: demand 3 with adds in the list, their bounds, and what look shows of a cell on which only adds and reads are.
use mathlib.Core.Path.{◌≡◌, sym, ap, ◌∙◌, subst}
use mathlib.Core.Logic.{◌≢◌}
use mathlib.Core.Option.{none, some}
use mathlib.Core.List.{List}
use Prim.Native.Nat.{ℕ, ◌+◌, ◌*◌, ◌<◌}
use native.Mathlib.Omega.{arith}
use lib.ListN.{get_or, length}
use Rattle.figure_lines.specs.Record.{no_value}
use Rattle.cells_spec.specs.declared.State.{State}
use Rattle.cells_spec.specs.Questions.{refusal, open_questions}
use Rattle.history_spec.specs.History.{Action, Event, history, run, FinishedCall, no_calls, enter_all, calls_of, Complete}
use Rattle.history_spec.specs.Demand3.{clear_after}
use Rattle.history_linearization.proofs.Order.{total}
use Rattle.cells_spec.specs.Answers.{Shown}
use Rattle.cells_spec.specs.Look.{looked}
use Rattle.cells_spec.specs.Machine.{Pool, pool}
use Rattle.figure.specs.Figure.{figure, opening, clear}
use Rattle.figure.proofs.Records.{run_sizes}
use Rattle.figure_moments.specs.Moments.{moments}
use Rattle.figure_moments.proofs.Simulation.{moments-answers}
use Rattle.figure_moments.proofs.Rests.{looked_in, shows_what_is_left, moments-total}
use Rattle.cells_theorems.specs.Terms.{start}
use Rattle.cells_theorems.proofs.Refines.{same-history, same_look}
use Rattle.cells_theorems.proofs.Demand3.{starting_values, cells_meet_demand_3}
use Rattle.adds_spec.specs.Requests.{Request, Gave, events_of, no_adds, with_adds}
use Rattle.adds_spec.specs.declared.Add.{Add}
use Rattle.adds_spec.specs.Demand3.{dids_of, enter_dids, MeetsAdds}
use Rattle.adds_spec.specs.Adds.{AddCall, adds_of, RightAdds, UnderWay, AllPartsAreCalls, AddFinishes}
use Rattle.adds_spec.specs.Sums.{brought_to, OnlyAdds}
use Rattle.adds_spec.proofs.Images.{complete_before}
use Rattle.adds_spec.proofs.Clock.{joined, clock_of}
use Rattle.adds_spec.proofs.Plays.{requested, flat, flat_history, flat_run}
use Rattle.adds_spec.proofs.Meets.{meets_adds, retelling}
use Rattle.adds_spec.proofs.Adds.{adds-right, adds_under_way}
use Rattle.adds_spec.proofs.Sums.{sum_left}
use Rattle.adds_spec.proofs.Ends.{adds-end}
use Rattle.adds_spec.proofs.PartCalls.{parts_are_calls}
use Rattle.adds_theorems.proofs.Continuing.{pool_continues}

module _ (old : State) (words : List ℕ) (tasks cells blocks : ℕ) (values : List ℕ) (allowed : refusal (open_questions (length words) tasks cells blocks values) ≡ none) (requests : List Request) where
  abbrev x₀ : Pool
  x₀ = start old words tasks cells blocks values

  -- Demand 3 for lists that hold begins of adds and drops too: an add's reads and swaps are calls of their own.
  pub adds_meet_demand_3 : MeetsAdds no_value pool (start old words tasks cells blocks values) (clear_after figure (opening tasks cells values) clear) cells (λ k. get_or values k 0)
  adds_meet_demand_3 = meets_adds no_value pool x₀ (clear_after figure (opening tasks cells values) clear) cells (λ k. get_or values k 0) (cells_meet_demand_3 old words tasks cells blocks values allowed)

  -- An add takes at most 27 steps and 4 hardware CAS attempts for each of its tries, and reports what it did: the sums over its parts. It is
  -- added exactly where its last swap answered yes, over exactly where the value just read plus the amount is none or more. It is spent exactly
  -- where every try's swap answered no. One that is pending or withdrawn has fewer steps, and fewer swaps that answered no than tries.
  pub adds_within_bounds : RightAdds no_value (adds_of (history (with_adds no_value pool) (start old words tasks cells blocks values, no_adds) requests))
  adds_within_bounds = adds-right no_value pool x₀ (cells_meet_demand_3 old words tasks cells blocks values allowed) (pool_continues old words tasks cells blocks values allowed) requests

  -- The parts of an add are calls of its task on its cell, those of adds-meet-demand-3: each is what a finished call reported.
  pub add_parts_are_calls : let h = history (with_adds no_value pool) (start old words tasks cells blocks values, no_adds) requests in AllPartsAreCalls (enter_dids no_calls (dids_of h)) (adds_of h)
  add_parts_are_calls = parts_are_calls no_value pool x₀ (cells_meet_demand_3 old words tasks cells blocks values allowed) (pool_continues old words tasks cells blocks values allowed) requests

  -- From anywhere in any list of requests, at most 27 further steps of its task for each try finish a pending add.
  pub every_add_ends : (task : ℕ) (call : AddCall) → (adds_of (history (with_adds no_value pool) (start old words tasks cells blocks values, no_adds) requests)).pending task ≡ some call →
      AddFinishes (λ l. adds_of (history (with_adds no_value pool) (start old words tasks cells blocks values, no_adds) l)) requests task call (27 * call.start.tries)
  every_add_ends = adds-end no_value pool x₀ (cells_meet_demand_3 old words tasks cells blocks values allowed) (pool_continues old words tasks cells blocks values allowed) requests

  -- An add under way keeps to the limits of question 6. Its part is on its cell: a read, or the swap of the value just read to that plus the
  -- amount.
  pub adds_stay_fit : (task : ℕ) (add : Add) → (run (with_adds no_value pool) (start old words tasks cells blocks values, no_adds) requests).1 task ≡ some add →
      UnderWay no_value (history (with_adds no_value pool) (start old words tasks cells blocks values, no_adds) requests) task add
  adds_stay_fit = adds_under_way no_value pool x₀ (cells_meet_demand_3 old words tasks cells blocks values allowed) (pool_continues old words tasks cells blocks values allowed) requests

  abbrev did : List Action
  did = flat no_value pool x₀ no_adds requests

  abbrev h : List (Request × Gave)
  h = requested no_value pool x₀ no_adds requests

  same : joined (dids_of h) ≡ history figure (opening tasks cells values) did
  same = flat_history no_value pool requests x₀ no_adds ∙ same-history old words tasks cells blocks values allowed did

  some-values : (k : ℕ) → get_or values k 0 ≢ no_value
  some-values = starting_values old words tasks cells blocks values allowed

  -- by the plain actions
  pub sum_of : (cell : ℕ) → Complete (enter_all no_calls (joined (dids_of (history (with_adds no_value pool) (start old words tasks cells blocks values, no_adds) requests)))) cell → cell < cells →
      OnlyAdds cell (events_of (history (with_adds no_value pool) (start old words tasks cells blocks values, no_adds) requests)) →
      let now = (run (with_adds no_value pool) (start old words tasks cells blocks values, no_adds) requests).0 in
      looked now.0 now.1 cell ≡ Shown (get_or values cell 0 + brought_to cell (adds_of (history (with_adds no_value pool) (start old words tasks cells blocks values, no_adds) requests)).finished)
  sum_of cell all i only =
      let complete = subst (λ (h : List (Action × Event)). Complete (calls_of h) cell) same all in
      ap (λ (x : Pool). looked x.0 x.1 cell) (flat_run no_value pool requests x₀ no_adds) ∙ same_look old words tasks cells blocks values allowed did cell
      ∙ looked_in (run figure (opening tasks cells values) did) cell (omega (arith, i, (run_sizes (opening tasks cells values) did).1))
      ∙ ap Shown (shows_what_is_left tasks cells values some-values did cell complete
      ∙ sum_left no_value pool x₀ (cells_meet_demand_3 old words tasks cells blocks values allowed) (pool_continues old words tasks cells blocks values allowed) requests (moments tasks cells values did) cell
      (moments-answers tasks cells values some-values did)
      (λ w off. moments-total tasks cells values some-values did cell complete w off ∙ ap (λ (h : List (Action × Event)). total (λ (f : FinishedCall). w f.call.start.op f.report.answer) (calls_of h).finished) (sym same)) only)

  -- a cell on which every call is finished
  module _ (cell : ℕ) (all : Complete (enter_dids no_calls (dids_of (history (with_adds no_value pool) (start old words tasks cells blocks values, no_adds) requests))) cell) where
    complete_plain : Complete (enter_all no_calls (joined (dids_of h))) cell
    complete_plain = complete_before (clock_of (dids_of h)) (retelling no_value pool x₀ (clear_after figure (opening tasks cells values) clear) cells (λ k. get_or values k 0) (cells_meet_demand_3 old words tasks cells blocks values allowed) requests).image cell all

    pub complete_pool : Complete (calls_of (history pool (start old words tasks cells blocks values) (flat no_value pool (start old words tasks cells blocks values) no_adds requests))) cell
    complete_pool = subst (λ (h : List (Action × Event)). Complete (calls_of h) cell) (flat_history no_value pool requests x₀ no_adds) complete_plain

    -- If it is touched only by adds and reads, look gives its first value and the amounts of all adds that answered added.
    pub sum-shown : cell < cells → OnlyAdds cell (events_of (history (with_adds no_value pool) (start old words tasks cells blocks values, no_adds) requests)) →
        let now = (run (with_adds no_value pool) (start old words tasks cells blocks values, no_adds) requests).0 in
        looked now.0 now.1 cell ≡ Shown (get_or values cell 0 + brought_to cell (adds_of (history (with_adds no_value pool) (start old words tasks cells blocks values, no_adds) requests)).finished)
    sum-shown = sum_of cell complete_plain
