-- What the code's enums say: a call's answer as document 01 gives it, a finished call, and what follows a step. The promises use these.
use Rattle.std.specs.Prelude.{ℕ}
use Rattle.figure_lines.specs.declared.Record.{Record}
use Rattle.figure_lines.specs.declared.Answer.{Answer}
use Rattle.figure_lines.specs.declared.Answer.TheVariants as code
use Rattle.figure_lines.specs.declared.Finished.{Finished}
use Rattle.history_spec.specs.History.{Response, Value, Yes, No}

-- a read's value, or whether a swap won
abbrev pub answer_of : Answer → Response
answer_of (code.Value v) = Value v
answer_of code.Yes = Yes
answer_of code.No = No

-- a finished call: its kind (1 is a read, 2 a swap) and cell, what it answers, its steps, its hardware CAS attempts won and lost
pub record Result : Type 0 where
  pub kind : ℕ
  pub cell : ℕ
  pub answer : Response
  pub steps : ℕ
  pub won : ℕ
  pub lost : ℕ

abbrev pub result_of : Finished → Result
result_of f = record { kind = f.kind; cell = f.cell; answer = answer_of f.answer; steps = f.steps; won = f.won; lost = f.lost }

-- what follows a step: the task's next record, or the end of its call
pub data Next : Type 0 where
  Go : Record → Next
  Done : Result → Next
