-- What a session prints for its actions where none is refused: the lines of the finished calls.
use Rattle.std.specs.Prelude.{List, [], ◌∷◌, ◌++◌, ℕ}
use Rattle.history_spec.specs.History.{Action, task_of, Event, refused, accepted, answered}
use Rattle.session_spec.specs.Lines.{done_line}

abbrev pub done_text : (task : ℕ) → Event → List ℕ
done_text t (refused n) = []
done_text t (accepted x) = []
done_text t (answered x r) = done_line t r

unfoldable pub done_lines : List (Action × Event) → List ℕ
done_lines [] = []
done_lines ((a, e) ∷ h) = done_text (task_of a) e ++ done_lines h
