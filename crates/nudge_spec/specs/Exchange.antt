-- Two neighbours of a list exchanged, and the answer of a call that is known by its begin.
use Rattle.std.specs.Prelude.{cond, List, [], ◌∷◌, ℕ, zero, suc, eqb}
use Rattle.std.proofs.Math.Option.{Option, none, some}
use Rattle.history_spec.specs.History.{Action, Response, Event, FinishedCall, calls_of}

-- the list with its entries i and i + 1 exchanged; as it was where there are no two such entries
abbrev pub exchanged : {A : Type 0} → ℕ → List A → List A
exchanged i [] = []
exchanged zero (a ∷ []) = a ∷ []
exchanged zero (a ∷ b ∷ l) = b ∷ a ∷ l
exchanged (suc i) (a ∷ l) = a ∷ exchanged i l

-- where entry m then stands
abbrev pub moved_to : (i m : ℕ) → ℕ
moved_to i m = cond (eqb m i) (suc i) (cond (eqb m (suc i)) i m)

-- what the call begun at moment m answers, if it is finished
abbrev pub answer_in : ℕ → List FinishedCall → Option Response
answer_in m [] = none
answer_in m (f ∷ l) = cond (eqb f.call.start.at m) (some f.report.answer) (answer_in m l)

abbrev pub answer_at : ℕ → List (Action × Event) → Option Response
answer_at m h = answer_in m (calls_of h).finished
