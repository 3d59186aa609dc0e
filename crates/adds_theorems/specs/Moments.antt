-- When did each call happen, where adds are in the list? Their reads and swaps stand there as calls of their own, each action numbered as a
-- request.
use Rattle.std.proofs.Math.Option.{Option}
use Rattle.std.specs.Prelude.{List, [], ◌∷◌, ◌++◌, ℕ}
use Rattle.figure_lines.specs.Record.{no_value}
use Rattle.history_spec.specs.History.{Action, Event, Calls, no_calls}
use Rattle.history_spec.specs.Moments.{Mark, marked, pending_marks, sort}
use Rattle.figure_moments.specs.Moments.{Sight, Notes, no_notes, nothing_noted, note, noting, names}
use Rattle.cells_spec.specs.Machine.{Pool, pool}
use Rattle.cells_theorems.specs.Moments.{sees_pool}
use Rattle.adds_spec.specs.Requests.{Request, no_adds, handles}
use Rattle.adds_spec.specs.declared.Add.{Add}
use Rattle.adds_spec.specs.Demand3.{enter_did}

module _ {S : Type 0} (top : ℕ) (machine : S → Action → S × Event) (see : S → ℕ → Sight) where
  -- a request notes and lists what the first of its plain actions does: a next part's begin notes and lists nothing
  abbrev pub note_did : Notes → S → List (Action × Event) → Notes
  note_did o s [] = nothing_noted o
  note_did o s (x ∷ d) = note machine see o s x.0 x.1

  abbrev pub marked_did : S × Notes → Calls → List (Action × Event) → List Mark
  marked_did x b [] = []
  marked_did x b (a ∷ d) = marked (noting machine see) (names machine see) x b a.0 a.1

  -- of n tasks: the marks so far, of finished and of withdrawn calls, those to come, and those of the pending swaps
  abbrev pub request_marks : ℕ → S × Notes → (ℕ → Option Add) → Calls → List Mark → List Request → List Mark
  request_marks n x f b ms [] = pending_marks (noting machine see) (names machine see) x b n ++ ms
  request_marks n x f b ms (q ∷ l) =
      let r = handles top machine x.0 f q in
      let d = r.gave.did in
      request_marks n (r.state, note_did x.1 x.0 d) r.adds (enter_did b.now b d) (marked_did x b d ++ ms) l

  abbrev pub request_moments : ℕ → S → List Request → List Mark
  request_moments n s l = sort (request_marks n (s, no_notes) no_adds no_calls [] l)

-- of the cells
abbrev pub pool_request_moments : (tasks : ℕ) → Pool → List Request → List Mark
pool_request_moments n x l = request_moments no_value pool sees_pool n x l
