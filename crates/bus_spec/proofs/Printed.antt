-- What bus prints of a session file, and what its numbers bound.
use mathlib.Core.Path.{◌≡◌, ap, ◌∙◌}
use mathlib.Core.Bool.{true}
use mathlib.Core.Option.{none}
use mathlib.Core.List.{List}
use Prim.Native.Nat.{ℕ}
use lib.ListN.{replicate}
use Rattle.cells_spec.specs.Questions.{refusal}
use Rattle.cells_spec.proofs.Tests.{yes_to}
use Rattle.cells_spec.specs.Machine.{Pool}
use Rattle.cells_spec.specs.Answers.{Acted}
use Rattle.cells_spec.proofs.Acts.{open_allowed}
use Rattle.history_spec.specs.History.{Action}
use Rattle.session_spec.specs.Session.{Opening, session, verdict}
use Rattle.cells_spec.specs.Open.{blank}
use Rattle.session_spec.specs.Printed.{pool_words, opened_by}
use Rattle.session_spec.specs.Tools.{left_by, tool_after_open, tool_text, tool_printed}
use Rattle.bus_spec.specs.Bus.{Times, ordered, bus_questions, Timed, bus_calls, sums_of, calls_text, bus_text, bus_printed}
use Rattle.bus_spec.specs.Choices.{traced_calls, all_accesses, Between, AllBetween, LongestOf}
use Rattle.bus_spec.proofs.Between.{calls_between, sums_between}
use Rattle.bus_spec.proofs.Longest.{longest_is_first}

-- where 21 and 22 are answered yes
pub text-accepted : (w : Times) → refusal (bus_questions w) ≡ none → (tasks : ℕ) (x : Pool) (l : List Action) → bus_text w tasks x l ≡ calls_text (bus_calls w x l)
unfolding bus_text
text-accepted w asked n x l = rw (asked, bus_text)

module _ (w : Times) (asked : refusal (bus_questions w) ≡ none) (file : List ℕ) (o : Opening) (actions : List Action) (is-session : verdict file ≡ session o actions) (opens : (opened_by o).outcome ≡ Acted) where
  text-is : bus_printed w file ≡ calls_text (bus_calls w (left_by o) actions)
  unfolding tool_printed tool_after_open
  text-is = ap (tool_text (bus_text w)) is-session ∙ rw opens (text-accepted w asked o.tasks (left_by o) actions)

  in_order : ordered w ≡ true
  in_order = yes_to (bus_questions w) asked 21

  -- What is printed, where nothing is refused, is the lines of the finished calls with the accesses of each between its two totals, then the
  -- line of the sums with all accesses between these, and of the call with the greatest total, the first to finish of equals.
  pub printed-bounds : (calls : List Timed) × (bus_printed w file ≡ calls_text calls)
      × AllBetween w (traced_calls (left_by o) actions) calls
      × Between w (all_accesses (traced_calls (left_by o) actions)) (sums_of calls).least (sums_of calls).greatest
      × LongestOf (sums_of calls).longest calls
  printed-bounds =
      let p = replicate {A = ℕ} (pool_words o.blocks) 0 in
      let allowed = open_allowed blank p o.tasks o.cells o.blocks o.values opens in
      let calls = bus_calls w (left_by o) actions in (
        calls,
        text-is,
        calls_between blank p o.tasks o.cells o.blocks o.values allowed actions w in_order,
        sums_between blank p o.tasks o.cells o.blocks o.values allowed actions w in_order,
        longest_is_first calls,
      )
