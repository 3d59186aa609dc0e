-- What an entry's answer is in a history.
use Rattle.std.specs.Prelude.{cond, ℕ, eqb}
use Rattle.figure_lines.specs.declared.Record.{Record}
use Rattle.figure_lines.specs.declared.Access.{Access}
use Rattle.figure_lines.specs.Lines.{access_of, attempt}
use Rattle.figure_lines.specs.Answers.{Result}
use Rattle.cells_spec.specs.Answers.{Said, Refused, Acted, Ended}
use Rattle.history_spec.specs.History.{Kind, a_read, a_swap, Report, Attempt, Event, refused, accepted, answered}

abbrev pub kind_at : ℕ → Kind
kind_at k = cond (eqb k 1) a_read a_swap

abbrev pub report_of : Result → Report
report_of f = record { kind = kind_at f.kind; cell = f.cell; answer = f.answer; steps = f.steps; won = f.won; lost = f.lost }

-- of an action whose hardware CAS, if it is accepted, is x
abbrev pub event_of : Attempt → Said → Event
event_of x (Refused n) = refused n
event_of x Acted = accepted x
event_of x (Ended f) = answered x (report_of f)

-- what becomes of the hardware CAS of a record's next line: read off its access, and the value that memory answers to it
abbrev pub tried : ℕ → Record → (Access → ℕ) → Attempt
tried t r answer = let a = access_of t r in attempt a (answer a)
