-- What the adds of a list of requests brought to a cell.
use Rattle.std.specs.Prelude.{cond, List, [], ◌∷◌, ℕ, ◌+◌, eqb}
use Rattle.history_spec.specs.Basics.{◌∈◌}
use Rattle.history_spec.specs.History.{swap, begin, Attempt, accepted}
use Rattle.adds_spec.specs.Requests.{Request, act, AddAnswer, AmountAdded, Over, Spent, RequestEvent, plain}
use Rattle.adds_spec.specs.Adds.{FinishedAdd}

abbrev pub amount_if : AddAnswer → ℕ → ℕ
amount_if AmountAdded d = d
amount_if Over d = 0
amount_if Spent d = 0

abbrev pub brought_by : ℕ → FinishedAdd → ℕ
brought_by k f = cond (eqb k f.call.start.cell) (amount_if f.report.answer f.call.start.amount) 0

-- the amounts of all adds on cell k that answered added
abbrev pub brought_to : ℕ → List FinishedAdd → ℕ
brought_to k [] = 0
brought_to k (f ∷ l) = brought_by k f + brought_to k l

-- cell k is touched only by adds and reads: no plain swap was begun on it
abbrev pub OnlyAdds : ℕ → List (Request × RequestEvent) → Type 0
OnlyAdds k h = (t e n : ℕ) (x : Attempt) → (act (begin t (swap k e n)), plain (accepted x)) ∈ h → ⊥
