-- Two of the stand-ins that document 01 wants rejected by demand 3, made of the figure: each gives wrong events, or leaves a wrong world.
use Rattle.history_spec.specs.History.{Action, begin, step, drop, No, Report, Event, refused, accepted, answered}
use Rattle.figure.specs.Figure.{World, figure}

-- every call answers no
abbrev pub says_no : Report → Report
says_no r = record { kind = r.kind; cell = r.cell; answer = No; steps = r.steps; won = r.won; lost = r.lost }

abbrev pub answers_no : Event → Event
answers_no (refused n) = refused n
answers_no (accepted x) = accepted x
answers_no (answered x r) = answered x (says_no r)

abbrev pub denying : World → Action → World × Event
denying w a = ((figure w a).0, answers_no (figure w a).1)

-- a step gives its event, and moves nothing
abbrev pub idling : World → Action → World × Event
idling w (begin t op) = figure w (begin t op)
idling w (step t) = (w, (figure w (step t)).1)
idling w (drop t) = figure w (drop t)
