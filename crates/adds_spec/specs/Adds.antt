-- Adds as calls: each add of a list of requests, its counts over all its parts, and what it answered.
use Rattle.std.specs.Prelude.{◌≡◌, ◌↔◌, List, [], ◌∷◌, ◌++◌, ℕ, suc, ◌+◌, ◌*◌, ◌≤◌, ◌<◌, replicate}
use Rattle.std.proofs.Math.Option.{Option, none, some}
use Rattle.history_spec.specs.Basics.{upd, ◌∈◌}
use Rattle.history_spec.specs.History.{Op, read, swap, cell_of, Action, begin, step, drop, task_of, Response, Value, Yes, No, Report, Attempt, Event, refused, accepted, answered, wins, losses, Call, FinishedCall, Calls, no_calls}
use Rattle.adds_spec.specs.declared.Add.{Add}
use Rattle.adds_spec.specs.Requests.{Request, act, add, AddAnswer, AmountAdded, Over, Spent, AddReport, RequestEvent, plain, summed, Gave}
use Rattle.adds_spec.specs.Demand3.{dids_of, enter_dids}

-- what never changes of an add: the moment of its begin, its task and cell, its amount and tries
pub record AddId : Type 0 where
  pub at : ℕ
  pub task : ℕ
  pub cell : ℕ
  pub amount : ℕ
  pub tries : ℕ

-- an add so far: its steps, their hardware CAS attempts won and lost. `parts`: the reports of its reads and swaps that ended, the last one
-- first.
pub record AddCall : Type 0 where
  pub start : AddId
  pub steps : ℕ
  pub won : ℕ
  pub lost : ℕ
  pub parts : List Report

pub record FinishedAdd : Type 0 where
  pub call : AddCall
  pub report : AddReport

-- the next request's number, each task's pending add, the finished adds, and the withdrawn ones with what they did before the drop
pub record AddCalls : Type 0 where
  pub now : ℕ
  pub pending : ℕ → Option AddCall
  pub finished : List FinishedAdd
  pub withdrawn : List AddCall

abbrev pub no_add_calls : AddCalls
no_add_calls = record { now = 0; pending = λ t. none; finished = []; withdrawn = [] }

-- the reports among what a request did
abbrev pub reports_in : List (Action × Event) → List Report
reports_in [] = []
reports_in ((a, refused n) ∷ d) = reports_in d
reports_in ((a, accepted x) ∷ d) = reports_in d
reports_in ((a, answered x r) ∷ d) = r ∷ reports_in d

abbrev pub add_step : Attempt → List Report → AddCall → AddCall
add_step x l c = record { start = c.start; steps = suc c.steps; won = c.won + wins x; lost = c.lost + losses x; parts = l ++ c.parts }

abbrev pub add_steps : Attempt → List Report → Option AddCall → Option AddCall
add_steps x l none = none
add_steps x l (some c) = some (add_step x l c)

abbrev pub add_ends : Option AddCall → AddReport → List FinishedAdd → List FinishedAdd
add_ends none r l = l
add_ends (some c) r l = record { call = c; report = r } ∷ l

abbrev pub adds_moved : AddCalls → (ℕ → Option AddCall) → List FinishedAdd → AddCalls
adds_moved b p l = record { now = suc b.now; pending = p; finished = l; withdrawn = b.withdrawn }

-- a request that moves no add
abbrev pub adds_passed : AddCalls → AddCalls
adds_passed b = adds_moved b b.pending b.finished

abbrev pub add_called : AddCalls → (task cell amount tries : ℕ) → AddCall
add_called b t k d r = record { start = record { at = b.now; task = t; cell = k; amount = d; tries = r }; steps = 0; won = 0; lost = 0; parts = [] }

abbrev pub also_withdrawn_add : Option AddCall → List AddCall → List AddCall
also_withdrawn_add none l = l
also_withdrawn_add (some c) l = c ∷ l

-- task t's add, if it has one, is withdrawn
abbrev pub add_withdrawn : AddCalls → (task : ℕ) → AddCalls
add_withdrawn b t = record { now = suc b.now; pending = upd b.pending t none; finished = b.finished; withdrawn = also_withdrawn_add (b.pending t) b.withdrawn }

abbrev pub requester : Request → ℕ
requester (act a) = task_of a
requester (add t k d r) = t

abbrev pub enter_add : AddCalls → Request → List (Action × Event) → RequestEvent → AddCalls
enter_add b q l (plain (refused n)) = adds_passed b
enter_add b (act (begin t op)) l (plain (accepted x)) = adds_passed b
enter_add b (act (step t)) l (plain (accepted x)) = adds_moved b (upd b.pending t (add_steps x (reports_in l) (b.pending t))) b.finished
enter_add b (act (drop t)) l (plain (accepted x)) = add_withdrawn b t
enter_add b (add t k d r) l (plain (accepted x)) = adds_moved b (upd b.pending t (some (add_called b t k d r))) b.finished
enter_add b q l (plain (answered x r)) = adds_passed b
enter_add b q l (summed x r) = let t = requester q in adds_moved b (upd b.pending t none) (add_ends (add_steps x (reports_in l) (b.pending t)) r b.finished)

abbrev pub enter_adds : AddCalls → List (Request × Gave) → AddCalls
enter_adds b [] = b
enter_adds b (x ∷ h) = enter_adds (enter_add b x.0 x.1.did x.1.event) h

abbrev pub adds_of : List (Request × Gave) → AddCalls
adds_of h = enter_adds no_add_calls h

-- WHAT HOLDS OF THEM

-- added up over some parts
abbrev pub sum_of : (Report → ℕ) → List Report → ℕ
sum_of f [] = 0
sum_of f (r ∷ l) = f r + sum_of f l

abbrev pub no_of : Response → ℕ
no_of (Value v) = 0
no_of Yes = 0
no_of No = 1

-- the swaps that answered no
abbrev pub noes : List Report → ℕ
noes l = sum_of (λ (r : Report). no_of r.answer) l

abbrev pub last_answer : List Report → Option Response
last_answer [] = none
last_answer (r ∷ l) = some r.answer

abbrev pub but_last : List Report → List Report
but_last [] = []
but_last (r ∷ l) = l

-- `top` is none. An add goes on after a read whose value plus the amount is below it, and after a swap that answered no.
abbrev pub GoesOnAfter : (top amount : ℕ) → Response → Type 0
GoesOnAfter top d (Value v) = v + d < top
GoesOnAfter top d Yes = ⊥
GoesOnAfter top d No = Unit {0}

abbrev pub AllGoOn : (top amount : ℕ) → List Report → Type 0
AllGoOn top d l = (r : Report) → r ∈ l → GoesOnAfter top d r.answer

-- the part under way, by the answer of the part before it. A read at first, and after a swap that answered no. After a read, the swap of its
-- value to that plus the amount.
abbrev pub NextPart : (top cell amount : ℕ) → Option Response → Op → Type 0
NextPart top k d none op = op ≡ read k
NextPart top k d (some (Value v)) op = (op ≡ swap k v (v + d)) × (v + d < top)
NextPart top k d (some Yes) op = ⊥
NextPart top k d (some No) op = op ≡ read k

-- Added exactly where its last swap answered yes. Over exactly where the value just read plus the amount is none or more. Spent exactly where
-- as many swaps as it has tries answered no.
pub record RightAnswer (top amount tries : ℕ) (parts : List Report) (z : AddAnswer) : Type 0 where
  pub added : (z ≡ AmountAdded) ↔ (last_answer parts ≡ some Yes)
  pub over : (z ≡ Over) ↔ ((v : ℕ) × (last_answer parts ≡ some (Value v)) × (top ≤ v + amount))
  pub spent : (z ≡ Spent) ↔ (noes parts ≡ tries)

-- what a finished add reports is what it did, within 27 steps and 4 hardware CAS attempts for each of its 1 to 8 tries
pub record Counted (f : FinishedAdd) : Type 0 where
  pub cell : f.report.cell ≡ f.call.start.cell
  pub steps : f.report.steps ≡ f.call.steps
  pub won : f.report.won ≡ f.call.won
  pub lost : f.report.lost ≡ f.call.lost
  pub tries : (1 ≤ f.call.start.tries) × (f.call.start.tries ≤ 8)
  pub few-steps : f.call.steps ≤ 27 * f.call.start.tries
  pub few-attempts : f.call.won + f.call.lost ≤ 4 * f.call.start.tries

-- its counts are those of its parts, added up; it went on after each part but the last, and answers by that one
pub record RightAdd (top : ℕ) (f : FinishedAdd) : Type 0 where
  pub counted : Counted f
  pub steps : f.report.steps ≡ sum_of (λ (r : Report). r.steps) f.call.parts
  pub won : f.report.won ≡ sum_of (λ (r : Report). r.won) f.call.parts
  pub lost : f.report.lost ≡ sum_of (λ (r : Report). r.lost) f.call.parts
  pub went_on : AllGoOn top f.call.start.amount (but_last f.call.parts)
  pub few-noes : noes f.call.parts ≤ f.call.start.tries
  pub answer : RightAnswer top f.call.start.amount f.call.start.tries f.call.parts f.report.answer

-- a pending one has fewer steps than the most, so it ends; a withdrawn one had fewer before its drop
pub record FewSoFar (c : AddCall) : Type 0 where
  pub few-steps : c.steps < 27 * c.start.tries
  pub few-attempts : c.won + c.lost ≤ 4 * c.start.tries

pub record RightSoFar (top : ℕ) (c : AddCall) : Type 0 where
  pub few : FewSoFar c
  pub fewer-noes : noes c.parts < c.start.tries
  pub went_on : AllGoOn top c.start.amount c.parts

pub record RightAdds (top : ℕ) (b : AddCalls) : Type 0 where
  pub ended : (f : FinishedAdd) → f ∈ b.finished → RightAdd top f
  pub unended : (t : ℕ) (c : AddCall) → b.pending t ≡ some c → RightSoFar top c
  pub withdrawn : (c : AddCall) → c ∈ b.withdrawn → RightSoFar top c

-- beyond what is allowed for each swap that answered no, an add did a read where a swap is under way
abbrev pub more_steps : Op → ℕ
more_steps (read k) = 0
more_steps (swap k e n) = 6

abbrev pub more_attempts : Op → ℕ
more_attempts (read k) = 0
more_attempts (swap k e n) = 1

-- task t's add a is under way, as the call `call`, with its part `part`. What a says is what its ended parts did, and it keeps to the fit
-- limits.
pub record UnderWay (top : ℕ) (h : List (Request × Gave)) (t : ℕ) (a : Add) : Type 0 where
  pub call : AddCall
  pub its : (adds_of h).pending t ≡ some call
  pub part : Call
  pub busy : (enter_dids no_calls (dids_of h)).pending t ≡ some part
  pub comes : NextPart top call.start.cell call.start.amount (last_answer call.parts) part.start.op
  pub amount : a.amount ≡ call.start.amount
  pub tries : a.tries ≡ call.start.tries
  pub failed : a.failed ≡ noes call.parts
  pub steps : a.steps ≡ sum_of (λ (r : Report). r.steps) call.parts
  pub won : a.won ≡ sum_of (λ (r : Report). r.won) call.parts
  pub lost : a.lost ≡ sum_of (λ (r : Report). r.lost) call.parts
  pub all-steps : call.steps ≡ a.steps + part.steps
  pub all-won : call.won ≡ a.won + part.won
  pub all-lost : call.lost ≡ a.lost + part.lost
  pub some-tries : 1 ≤ a.tries
  pub few-tries : a.tries ≤ 8
  pub fewer : a.failed < a.tries
  pub few-steps : a.steps ≤ 27 * a.failed + more_steps part.start.op
  pub few-attempts : a.won + a.lost ≤ 4 * a.failed + more_attempts part.start.op

-- its parts are calls of its task on its cell: each is what a finished call reported
abbrev pub PartsAreCalls : Calls → AddCall → Type 0
PartsAreCalls b c = (r : Report) → r ∈ c.parts → (f : FinishedCall) × (f ∈ b.finished) × (f.report ≡ r) × (f.call.start.task ≡ c.start.task) × (cell_of f.call.start.op ≡ c.start.cell)

pub record AllPartsAreCalls (b : Calls) (A : AddCalls) : Type 0 where
  pub ended : (f : FinishedAdd) → f ∈ A.finished → PartsAreCalls b f.call
  pub unended : (t : ℕ) (c : AddCall) → A.pending t ≡ some c → PartsAreCalls b c
  pub withdrawn : (c : AddCall) → c ∈ A.withdrawn → PartsAreCalls b c

-- `adds`: those of each list of requests. After the requests l, so many more steps of task t, at most `few`, finish its add c.
pub record AddFinishes (adds : List Request → AddCalls) (l : List Request) (t : ℕ) (c : AddCall) (few : ℕ) : Type 0 where
  pub steps : ℕ
  pub at_most : steps ≤ few
  pub end : FinishedAdd
  pub done : end ∈ (adds (l ++ replicate steps (act (step t)))).finished
  pub is : end.call.start ≡ c.start
