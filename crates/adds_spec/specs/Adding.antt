-- The entries with adds: questions, what they leave and answer, and the machine that they are.
use Rattle.std.specs.Prelude.{Bool, true, false, ◌&&◌, ◌||◌, not, cond, List, [], ◌∷◌, ◌++◌, ℕ, ◌+◌, ◌*◌, ◌≤◌, eqb, leb, ltb, get_or, set, replicate}
use Rattle.std.specs.Prelude.{None, Some, Ok, Err, ⊤}
use Rattle.std.specs.Prelude as Std
use Rattle.std.specs.declared.result.Result as Rust
use Rattle.std.proofs.Math.Option.{Option, none, some}
use Rattle.figure_lines.specs.declared.Record.{Record}
use Rattle.figure_lines.specs.Basics.{ands, all_from, within}
use Rattle.figure_lines.specs.Record.{no_value, is_idle, record_at, first_read, first_swap}
use Rattle.figure_lines.specs.Answers.{Result, result_of}
use Rattle.cells_spec.specs.declared.State.{State}
use Rattle.cells_spec.specs.Questions.{Question, refusal, fit, begin_questions}
use Rattle.history_spec.specs.History.{Op, read, swap, begin, step, drop, Attempt, untried}
use Rattle.cells_spec.specs.declared.refusal.Refusal.{Refusal}
use Rattle.cells_spec.specs.Answers.{Said, Refused, Acted, Ended, Seen, NotShown, acts, number}
use Rattle.cells_spec.specs.Open.{After, blank, opened}
use Rattle.cells_spec.specs.Begin.{with_record}
use Rattle.cells_spec.specs.Step.{stepped}
use Rattle.cells_spec.specs.Drop.{dropped}
use Rattle.cells_spec.specs.Look.{looked}
use Rattle.cells_spec.specs.Events as Events
use Rattle.cells_spec.specs.Machine.{begins, tried_by}
use Rattle.adds_spec.specs.declared.Add.{Add}
use Rattle.adds_spec.specs.Requests.{Request, act, add, AddAnswer, AmountAdded, Over, Spent, AddReport, RequestEvent, plain, summed, fresh_add, add_report_of, Ahead, part, end, ahead, tries_ok}
use Rattle.adds_spec.specs.declared.AddingState.{AddingState}
use Rattle.adds_spec.specs.declared.AddVerdict.{AddVerdict}
use Rattle.adds_spec.specs.declared.AddVerdict.TheVariants as verdict
use Rattle.adds_spec.specs.declared.AddAhead.{AddAhead}
use Rattle.adds_spec.specs.declared.AddAhead.TheVariants as next
use Rattle.adds_spec.specs.declared.AddingEnd.{AddingEnd}
use Rattle.adds_spec.specs.declared.AddingEnd.TheVariants as finish

-- WHAT AN ENTRY ANSWERS

pub data AddingSaid : Type 0 where
  Denies : (question : ℕ) → AddingSaid
  GoesOn : AddingSaid
  FinishesCall : Result → AddingSaid
  FinishesAdd : AddReport → AddingSaid

abbrev pub denies : AddingSaid → Bool
denies (Denies n) = true
denies GoesOn = false
denies (FinishesCall f) = false
denies (FinishesAdd r) = false

-- what the code's enums say: an add's answer, what follows a part on cell k, what an entry answers
abbrev pub add_answer_of : AddVerdict → AddAnswer
add_answer_of verdict.Added = AmountAdded
add_answer_of verdict.Over = Over
add_answer_of verdict.Spent = Spent

abbrev pub ahead_of : (cell : ℕ) → AddAhead → Ahead
ahead_of k (next.NextRead a) = part (read k) a
ahead_of k (next.NextSwap e n a) = part (swap k e n) a
ahead_of k (next.LastPart v) = end (add_answer_of v)

abbrev pub finish_of : AddingEnd → AddingSaid
finish_of (finish.Call f) = FinishesCall (result_of f)
finish_of (finish.Add f) = FinishesAdd (record { cell = f.cell; answer = add_answer_of f.verdict; steps = f.steps; won = f.won; lost = f.lost })

abbrev pub going_or_finish_of : Std.Option AddingEnd → AddingSaid
going_or_finish_of None = GoesOn
going_or_finish_of (Some f) = finish_of f

-- a step
abbrev pub adding_said_of : Rust.Result (Std.Option AddingEnd) Refusal → AddingSaid
adding_said_of (Err e) = Denies (number e)
adding_said_of (Ok o) = going_or_finish_of o

-- an entry that ends neither a call nor an add
abbrev pub adding_acted_of : Rust.Result ⊤ Refusal → AddingSaid
adding_acted_of (Err e) = Denies (number e)
adding_acted_of (Ok u) = GoesOn

pub record AddingAfter : Type 0 where
  pub state : AddingState
  pub pool : List ℕ
  pub said : AddingSaid

abbrev pub adding_after : AddingState → List ℕ → AddingSaid → AddingAfter
adding_after s p o = record { state = s; pool = p; said = o }

abbrev pub unless_denies : Option ℕ → AddingState → List ℕ → AddingAfter → AddingAfter
unless_denies none s p acted = acted
unless_denies (some n) s p acted = adding_after s p (Denies n)

-- EACH TASK'S ADD

abbrev pub no_add : Add
no_add = record { amount = 0; tries = 0; failed = 0; steps = 0; won = 0; lost = 0 }

abbrev pub add_at : List Add → (task : ℕ) → Add
add_at l t = get_or l t no_add

abbrev pub has_add : Add → Bool
has_add a = not (eqb a.tries 0)

abbrev pub with_add : AddingState → State → (task : ℕ) → Add → AddingState
with_add s c t a = record { cells = c; adds = set s.adds t a }

abbrev pub with_cells : AddingState → State → AddingState
with_cells s c = record { cells = c; adds = s.adds }

-- a state to open
abbrev pub adding_blank : AddingState
adding_blank = record { cells = blank; adds = replicate 32 no_add }

-- QUESTION 6: the cells' state is fit, and each busy task's add, if it has one. Before the read or swap under way it did at most 27 steps and
-- 4 hardware CAS attempts for each swap that answered no, with 6 and 1 more where a swap is under way.

abbrev pub add_tests : Add → Record → List Bool
add_tests a r = within a.tries 1 8 ∷ ltb a.failed a.tries ∷ leb a.steps (27 * a.failed + cond (eqb r.kind 2) 6 0) ∷ leb (a.won + a.lost) (4 * a.failed + cond (eqb r.kind 2) 1 0) ∷ []

unfoldable pub add_fit : Add → Record → Bool
add_fit a r = is_idle r || (not (has_add a) || ands (add_tests a r))

unfoldable pub adds_fit : AddingState → Bool
adds_fit s = all_from (λ t. add_fit (add_at s.adds t) (record_at s.cells.records t)) 0 s.cells.tasks

abbrev pub adding_fit : AddingState → List ℕ → Bool
adding_fit s p = fit s.cells p && adds_fit s

-- the cells' own entries ask 6 of their state; here it is asked of the adds too, and before every other question
abbrev pub if_fit : AddingState → List ℕ → AddingAfter → AddingAfter
if_fit s p acted = cond (adds_fit s) acted (adding_after s p (Denies 6))

-- ENTRIES

abbrev pub lifted : Said → AddingSaid
lifted (Refused n) = Denies n
lifted Acted = GoesOn
lifted (Ended f) = FinishesCall f

unfoldable pub adding_opened : AddingState → List ℕ → (tasks cells blocks : ℕ) → List ℕ → AddingAfter
adding_opened s p n v b vs = let r = opened s.cells p n v b vs in cond (acts r.outcome) (adding_after (record { cells = r.state; adds = replicate 32 no_add }) r.pool (lifted r.outcome)) (adding_after s p (lifted r.outcome))

-- what the cells' entry left, and the task's add a; as it was, where that entry refused
abbrev pub then_add : AddingState → List ℕ → (task : ℕ) → Add → After → AddingAfter
then_add s p t a r = if_fit s p (cond (acts r.outcome) (adding_after (with_add s r.state t a) r.pool (lifted r.outcome)) (adding_after s p (lifted r.outcome)))

abbrev pub without_add : AddingState → List ℕ → (task : ℕ) → After → AddingAfter
without_add s p t r = then_add s p t no_add r

-- a read or a swap that is not refused has no add: whatever an idle task's add held
unfoldable pub adding_begun : AddingState → List ℕ → (task : ℕ) → Op → AddingAfter
adding_begun s p t op = without_add s p t (begins s.cells p t op)

-- a drop withdraws the call under way, and the add that it is a part of
unfoldable pub adding_dropped : AddingState → List ℕ → (task : ℕ) → AddingAfter
adding_dropped s p t = without_add s p t (dropped s.cells p t)

-- the first record of an operation
abbrev pub first_record : Op → Record
first_record (read k) = first_read k
first_record (swap k e n) = first_swap k e n

abbrev pub add_questions : AddingState → List ℕ → (task cell tries : ℕ) → List Question
add_questions s p t k n = (6, adding_fit s p) ∷ (begin_questions s.cells.tasks s.cells.cells (record_at s.cells.records t) t k ++ ((23, tries_ok n) ∷ []))

unfoldable pub add_begun : AddingState → List ℕ → (task cell amount tries : ℕ) → AddingAfter
add_begun s p t k d n = unless_denies (refusal (add_questions s p t k n)) s p (adding_after (with_add s (with_record s.cells t (first_read k)) t (fresh_add d n)) p GoesOn)

-- what follows a part of the add a, whose step left the cells c: the next part begins at once; or the add is finished
abbrev pub add_onwards : AddingState → State → List ℕ → (task : ℕ) → Add → Result → Ahead → AddingAfter
add_onwards s c p t a f (part op n) = adding_after (with_add s (with_record c t (first_record op)) t n) p GoesOn
add_onwards s c p t a f (end z) = adding_after (with_add s c t no_add) p (FinishesAdd (add_report_of a (Events.report_of f) z))

abbrev pub step_ends : AddingState → (task : ℕ) → Add → After → Said → AddingAfter
step_ends s t a r (Refused n) = adding_after s r.pool (Denies n)
step_ends s t a r Acted = adding_after (with_cells s r.state) r.pool GoesOn
step_ends s t a r (Ended f) = cond (has_add a) (add_onwards s r.state r.pool t a f (ahead no_value a (Events.report_of f) f.answer)) (adding_after (with_cells s r.state) r.pool (FinishesCall f))

unfoldable pub adding_stepped : AddingState → List ℕ → (task : ℕ) → AddingAfter
adding_stepped s p t = let r = stepped s.cells p t in if_fit s p (step_ends s t (add_at s.adds t) r r.outcome)

-- what is known of an add and of its part that ends, in a fit state: the sums fit 32 bits
abbrev pub PartsFit : Add → Result → Type 0
PartsFit a f = (a.failed ≤ 8) × (a.steps + f.steps ≤ 4294967295) × (a.won + f.won ≤ 4294967295) × (a.lost + f.lost ≤ 4294967295)

-- A STEP OVER A RECORD that the caller lends: it takes the place of the state's record of the task. The add stays in the state.

pub record AddingLent : Type 0 where
  pub entry : AddingAfter
  pub «record» : Record

abbrev pub adding_lent : AddingAfter → Record → AddingLent
adding_lent a r = record { entry = a; «record» = r }

-- the state with the lent record
abbrev pub lending : AddingState → (task : ℕ) → Record → AddingState
lending s t r = with_cells s (with_record s.cells t r)

-- refused: all as handed in, the state without the lent record; otherwise the lent record is the state's
unfoldable pub adding_stepped_lent : AddingState → List ℕ → (task : ℕ) → Record → AddingLent
adding_stepped_lent s p t r =
    let a = adding_stepped (lending s t r) p t in
    cond (denies a.said) (adding_lent (adding_after s p a.said) r) (adding_lent a (record_at a.state.cells.records t))

unfoldable pub adding_looked : AddingState → List ℕ → (cell : ℕ) → Seen
adding_looked s p k = cond (adds_fit s) (looked s.cells p k) (NotShown 6)

-- AS A MACHINE that handles requests and gives their events

abbrev pub AddingPool : Type 0
AddingPool = AddingState × List ℕ

abbrev pub adding_does : AddingState → List ℕ → Request → AddingAfter
adding_does s p (act (begin t op)) = adding_begun s p t op
adding_does s p (act (step t)) = adding_stepped s p t
adding_does s p (act (drop t)) = adding_dropped s p t
adding_does s p (add t k d n) = add_begun s p t k d n

abbrev pub request_tried : AddingState → List ℕ → Request → Attempt
request_tried s p (act a) = tried_by s.cells p a
request_tried s p (add t k d n) = untried

abbrev pub request_event : Attempt → AddingSaid → RequestEvent
request_event x (Denies n) = plain (Events.event_of x (Refused n))
request_event x GoesOn = plain (Events.event_of x Acted)
request_event x (FinishesCall f) = plain (Events.event_of x (Ended f))
request_event x (FinishesAdd r) = summed x r

abbrev pub adding_pool : AddingPool → Request → AddingPool × RequestEvent
adding_pool x q = let r = adding_does x.0 x.1 q in ((r.state, r.pool), request_event (request_tried x.0 x.1 q) r.said)
