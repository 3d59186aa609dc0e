-- The loop over the actions: what an action adds, and what is still to be printed.
use Rattle.std.specs.Prelude.{List, [], ◌++◌, ℕ, ◌+◌, ◌<◌, get_or, set}
use Rattle.cells_spec.specs.Machine.{Pool, pool}
use Rattle.history_spec.specs.History.{Action, task_of, Report, Event, refused, accepted, answered, history}
use Rattle.bus_spec.specs.Bus.{Times, finished_calls, timed, timed_from, Sums, add_call, add_calls, call_line, call_lines, all_line}

-- what an action adds: its text, and after it the sums and how many calls each task has finished
pub record Added : Type 0 where
  pub text : List ℕ
  pub sums : Sums
  pub counts : List ℕ

abbrev pub added : Times → (counts : List ℕ) → Sums → Action → Event → Added
added w l z a (refused n) = record { text = []; sums = z; counts = l }
added w l z a (accepted x) = record { text = []; sums = z; counts = l }
added w l z a (answered x r) = let n = get_or l (task_of a) 0 in let c = timed w n (task_of a, r) in record { text = call_line c; sums = add_call z c; counts = set l (task_of a) (n + 1) }

-- the task of a call that ends has a count, and that has room
abbrev pub EndsWithin : (counts : List ℕ) → Action → Event → Type 0
EndsWithin l a (refused n) = Unit {0}
EndsWithin l a (accepted x) = Unit {0}
EndsWithin l a (answered x r) = (task_of a < 32) × (get_or l (task_of a) 0 < 65535)

-- what is still to be printed, after the calls before and with their sums
unfoldable pub bus_on : Times → (before : List (ℕ × Report)) → Sums → Pool → List Action → List ℕ
bus_on w before z x l =
    let c = timed_from w before (finished_calls (history pool x l)) in
    let y = add_calls z c in
    call_lines c ++ all_line y y.longest
