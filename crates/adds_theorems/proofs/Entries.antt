-- What is proved of adds, of the entries' machine: from an opening that is not refused, for every list of requests, by its own events alone.
use mathlib.Core.Path.{◌≡◌, sym, ap, ◌∙◌, subst}
use mathlib.Core.Option.{none, some}
use mathlib.Core.List.{List}
use Prim.Native.Nat.{ℕ, ◌+◌, ◌*◌, ◌<◌}
use lib.ListN.{get_or, length}
use Rattle.figure_lines.specs.Record.{no_value}
use Rattle.cells_spec.specs.declared.State.{State}
use Rattle.cells_spec.specs.Questions.{refusal, open_questions}
use Rattle.history_spec.specs.Basics.{◌∈◌}
use Rattle.history_spec.specs.History.{history, run, no_calls}
use Rattle.cells_spec.specs.Answers.{Shown}
use Rattle.cells_spec.specs.Machine.{pool}
use Rattle.cells_theorems.specs.Terms.{start}
use Rattle.cells_theorems.proofs.Demand3.{cells_meet_demand_3}
use Rattle.adds_spec.specs.Requests.{Request, RequestEvent, no_adds, with_adds}
use Rattle.adds_spec.specs.Adds.{AddCall, FinishedAdd, AddCalls, no_add_calls, adds_of, RightAdd, AddFinishes}
use Rattle.adds_spec.specs.Seen.{adds_seen, WellFormedSeen, AllFinished, RightSeen}
use Rattle.adds_spec.specs.Sums.{brought_to, OnlyAdds}
use Rattle.adds_spec.specs.Adding.{adding_looked, adding_pool}
use Rattle.adds_spec.proofs.Images.{map_out}
use Rattle.adds_spec.proofs.Seen.{Shows, shown_end, seen-shows, right-seen, finish-seen, brought_seen}
use Rattle.adds_spec.proofs.SeenCalls.{well_formed_seen, complete_seen}
use Rattle.adds_theorems.specs.Terms.{adding_start}
use Rattle.adds_theorems.proofs.Continuing.{pool_continues}
use Rattle.adds_theorems.proofs.Cells.{adds_within_bounds, every_add_ends, sum_of}
use Rattle.adds_theorems.proofs.Adding.{same_requests, same_looks}

module _ (old : State) (words : List ℕ) (tasks cells blocks : ℕ) (values : List ℕ) (allowed : refusal (open_questions (length words) tasks cells blocks values) ≡ none) (requests : List Request) where
  abbrev adds : List Request → AddCalls
  adds l = adds_of (history (with_adds no_value pool) (start old words tasks cells blocks values, no_adds) l)

  abbrev seen : List Request → AddCalls
  seen l = adds_seen (history adding_pool (adding_start old words tasks cells blocks values) l)

  shows : (l : List Request) → Shows (adds l) (seen l)
  shows l = subst (λ (h : List (Request × RequestEvent)). Shows (adds l) (adds_seen h)) (sym (same_requests old words tasks cells blocks values allowed l)) (seen-shows (history (with_adds no_value pool) (start old words tasks cells blocks values, no_adds) l))

  -- Its events are well-formed: a task has one call at a time, a read, a swap or an add.
  pub entries_well_formed : WellFormedSeen cells no_calls no_add_calls (history adding_pool (adding_start old words tasks cells blocks values) requests)
  entries_well_formed = subst (WellFormedSeen cells no_calls no_add_calls) (sym (same_requests old words tasks cells blocks values allowed requests))
      (well_formed_seen no_value pool (start old words tasks cells blocks values) (cells_meet_demand_3 old words tasks cells blocks values allowed) (pool_continues old words tasks cells blocks values allowed) requests)

  -- A finished add reports the steps and hardware CAS attempts that its events show, within 27 and 4 for each of its 1 to 8 tries. One that is
  -- pending or withdrawn has fewer steps.
  pub entries_count : RightSeen (adds_seen (history adding_pool (adding_start old words tasks cells blocks values) requests))
  entries_count = right-seen no_value (adds requests) (seen requests) (shows requests) (adds_within_bounds old words tasks cells blocks values allowed requests)

  -- What it answers, events do not show: it goes by its parts. It is an add of the layer, of which adds_within_bounds says all.
  pub entries_right : (f : FinishedAdd) → f ∈ (adds_seen (history adding_pool (adding_start old words tasks cells blocks values) requests)).finished →
      (g : FinishedAdd) × (g ∈ (adds_of (history (with_adds no_value pool) (start old words tasks cells blocks values, no_adds) requests)).finished) × (f.call.start ≡ g.call.start) × (f.report ≡ g.report) × RightAdd no_value g
  entries_right f i =
      let r = map_out shown_end (adds requests).finished f (subst (λ (l : List FinishedAdd). f ∈ l) (shows requests).finished i) in
      (r.0, r.1, ap (λ (f : FinishedAdd). f.call.start) r.2, ap (λ (f : FinishedAdd). f.report) r.2, (adds_within_bounds old words tasks cells blocks values allowed requests).ended r.0 r.1)

  -- From anywhere in any list of requests, at most 27 further steps of its task for each try finish a pending add.
  pub entries_end : (task : ℕ) (call : AddCall) → (adds_seen (history adding_pool (adding_start old words tasks cells blocks values) requests)).pending task ≡ some call →
      AddFinishes (λ l. adds_seen (history adding_pool (adding_start old words tasks cells blocks values) l)) requests task call (27 * call.start.tries)
  entries_end t c e = finish-seen adds seen shows requests t c e (every_add_ends old words tasks cells blocks values allowed requests t)

  -- On a cell touched only by adds and reads, with no call pending or withdrawn there, look gives the starting value plus the amounts of all
  -- adds that answered added.
  pub entries_sum : (cell : ℕ) → cell < cells → AllFinished (history adding_pool (adding_start old words tasks cells blocks values) requests) cell → OnlyAdds cell (history adding_pool (adding_start old words tasks cells blocks values) requests) →
      let now = run adding_pool (adding_start old words tasks cells blocks values) requests in
      adding_looked now.0 now.1 cell ≡ Shown (get_or values cell 0 + brought_to cell (adds_seen (history adding_pool (adding_start old words tasks cells blocks values) requests)).finished)
  entries_sum k i all only =
      let q = same_requests old words tasks cells blocks values allowed requests in
      let whole = complete_seen no_value pool (start old words tasks cells blocks values) (cells_meet_demand_3 old words tasks cells blocks values allowed) (pool_continues old words tasks cells blocks values allowed) requests k
      (subst (λ (h : List (Request × RequestEvent)). AllFinished h k) q all) in
      same_looks old words tasks cells blocks values allowed requests k
      ∙ sum_of old words tasks cells blocks values allowed requests k whole i (subst (OnlyAdds k) q only)
      ∙ ap (λ (n : ℕ). Shown (get_or values k 0 + n)) (sym (ap (brought_to k) (shows requests).finished ∙ brought_seen k (adds requests).finished))
