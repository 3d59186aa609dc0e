-- What the entries answer, and the actions: for each case of the code's types document 01's number and values. The promises use these.
use Rattle.std.specs.Prelude.{Bool, true, false, ℕ, Option, None, Some, Ok, Err, ⊤}
use Rattle.std.specs.declared.result.Result as Rust
use Rattle.std.proofs.Math.Option as Math
use Rattle.history_spec.specs.History as History
use Rattle.history_spec.specs.History.{read, swap, begin, step, drop}
use Rattle.figure_lines.specs.declared.Finished.{Finished}
use Rattle.figure_lines.specs.Answers.{Result, result_of}
use Rattle.cells_spec.specs.declared.Action.{Action}
use Rattle.cells_spec.specs.declared.Action.TheVariants as action
use Rattle.cells_spec.specs.declared.refusal.Refusal.{Refusal}
use Rattle.cells_spec.specs.declared.refusal.Refusal.TheVariants as why

-- an entry: the number of the first question answered no; or it acted, and the task's call goes on or is finished
pub data Said : Type 0 where
  Refused : (question : ℕ) → Said
  Acted : Said
  Ended : Result → Said

abbrev pub acts : Said → Bool
acts (Refused n) = false
acts Acted = true
acts (Ended f) = true

-- a look: the number of the first question answered no, or the cell's value
pub data Seen : Type 0 where
  NotShown : (question : ℕ) → Seen
  Shown : (value : ℕ) → Seen

abbrev pub shows : Seen → Bool
shows (NotShown n) = false
shows (Shown v) = true

-- the question that is answered no
abbrev pub number : Refusal → ℕ
number why.Tasks = 1
number why.Cells = 2
number why.Blocks = 3
number why.ValueCount = 4
number why.NoneAmongValues = 5
number why.Unfit = 6
number why.NoSuchTask = 7
number why.NoSuchCell = 8
number why.Busy = 9
number why.ReservedValue = 10
number why.Idle = 11
number why.AlreadyOffered = 16
number why.NoUnusedBlock = 20
number why.Tries = 23

-- WHAT THE CODE'S RESULTS SAY

-- of a step
abbrev pub answered : Rust.Result (Option Finished) Refusal → Said
answered (Err e) = Refused (number e)
answered (Ok None) = Acted
answered (Ok (Some f)) = Ended (result_of f)

-- of an entry that ends no call
abbrev pub acted : Rust.Result ⊤ Refusal → Said
acted (Err e) = Refused (number e)
acted (Ok u) = Acted

-- of a look
abbrev pub looked_at : Rust.Result ℕ Refusal → Seen
looked_at (Err e) = NotShown (number e)
looked_at (Ok v) = Shown v

-- of questions: the number of the first that is answered no, if one is
abbrev pub asked : Rust.Result ⊤ Refusal → Math.Option ℕ
asked (Err e) = Math.some (number e)
asked (Ok u) = Math.none

-- an action of the code is the history's
abbrev pub act_of : Action → History.Action
act_of (action.Read t k) = begin t (read k)
act_of (action.Swap t k e n) = begin t (swap k e n)
act_of (action.Step t) = step t
act_of (action.Drop t) = drop t
