-- What nudge prints: the earliest exchange of neighbouring actions of different tasks after which a finished call answers otherwise, does not
-- finish or is not begun.
use Rattle.std.specs.Prelude.{Bool, true, false, not, ◌&&◌, cond, List, [], ◌∷◌, ◌++◌, ℕ, zero, suc, ◌+◌, eqb, leb, length}
use Rattle.std.proofs.Math.Option.{Option, none, some}
use Rattle.cells_spec.specs.Machine.{Pool, pool}
use Rattle.history_spec.specs.History.{Action, task_of, Response, Value, Yes, No, Event, FinishedCall, history, calls_of}
use Rattle.session_spec.specs.Tools.{tool_printed}
use Rattle.text.specs.Bytes.{bytes}
use Rattle.text.specs.Lines.{line, bad_line}
use Rattle.nudge_spec.specs.Exchange.{exchanged, moved_to, answer_at}

-- THE NAMED CALL

-- a task's finished calls in the order in which they finish; the list has the last one first
abbrev pub finished_by : (task : ℕ) → List FinishedCall → List FinishedCall
finished_by t [] = []
finished_by t (f ∷ l) = finished_by t l ++ cond (eqb f.call.start.task t) (f ∷ []) []

-- the one with n before it
abbrev pub at_place : {A : Type 0} → (n : ℕ) → List A → Option A
at_place n [] = none
at_place zero (a ∷ l) = some a
at_place (suc n) (a ∷ l) = at_place n l

abbrev pub named_call : (task n : ℕ) → List (Action × Event) → Option FinishedCall
named_call t n h = at_place n (finished_by t (calls_of h).finished)

-- THE EXCHANGES

-- there are actions i and i + 1, and they belong to different tasks: each to the one that its form names, refused or not
abbrev pub of_two_tasks : ℕ → List Action → Bool
of_two_tasks i [] = false
of_two_tasks zero (a ∷ []) = false
of_two_tasks zero (a ∷ b ∷ l) = not (eqb (task_of a) (task_of b))
of_two_tasks (suc i) (a ∷ l) = of_two_tasks i l

abbrev pub same_answer : Response → Response → Bool
same_answer (Value v) (Value w) = eqb v w
same_answer (Value v) Yes = false
same_answer (Value v) No = false
same_answer Yes (Value w) = false
same_answer Yes Yes = true
same_answer Yes No = false
same_answer No (Value w) = false
same_answer No Yes = false
same_answer No No = true

-- a call that is not begun, or does not finish, has no answer; one that is withdrawn does not finish
abbrev pub answers_still : Response → Option Response → Bool
answers_still a none = false
answers_still a (some b) = same_answer a b

-- exchange i of the actions l, for the call begun at m that answers a
abbrev pub nudges : Pool → List Action → (m : ℕ) → Response → (i : ℕ) → Bool
nudges x l m a i = of_two_tasks i l && not (answers_still a (answer_at (moved_to i m) (history pool x (exchanged i l))))

-- the first of the k numbers from i on that passes
unfoldable pub earliest : (ℕ → Bool) → (i k : ℕ) → Option ℕ
earliest f i zero = none
earliest f i (suc k) = cond (f i) (some i) (earliest f (i + 1) k)

unfoldable pub nudge : Pool → List Action → FinishedCall → Option ℕ
nudge x l f = earliest (nudges x l f.call.start.at f.report.answer) 0 (length l)

-- WHAT IS PRINTED

abbrev pub nudge_line : Option ℕ → List ℕ
nudge_line none = bytes "(nudge none)\n"
nudge_line (some i) = line (bytes "(nudge") (i ∷ [])

-- 18. Does the named call finish?
abbrev pub asked18 : Pool → List Action → Option FinishedCall → List ℕ
asked18 x l none = bad_line 18
asked18 x l (some f) = nudge_line (nudge x l f)

-- 19, asked before 18. Are there at most 2,000 actions?
abbrev pub asked19 : Bool → (task n : ℕ) → Pool → List Action → List ℕ
asked19 false t n x l = bad_line 19
asked19 true t n x l = asked18 x l (named_call t n (history pool x l))

-- before them what every tool asks: 12 to 15, and the questions of open
abbrev pub nudge_text : (task n tasks : ℕ) → Pool → List Action → List ℕ
nudge_text t n tasks x l = asked19 (leb (length l) 2000) t n x l

abbrev pub nudged : (task n : ℕ) → List ℕ → List ℕ
nudged t n = tool_printed (nudge_text t n)
