-- Requests: actions as before, and begins of an add. An add reads its cell, then swaps it to the value plus an amount, and tries again after a
-- swap that answered no. Its reads and swaps, its parts, are calls of their own: the first begins with the add, each further one with the step
-- that ended the one before it. A drop withdraws the part under way, and the add with it.
use Rattle.std.specs.Prelude.{Bool, ◌&&◌, cond, List, [], ◌∷◌, map, ℕ, suc, ◌+◌, ltb, leb}
use Rattle.std.proofs.Math.Option.{Option, none, some}
use Rattle.adds_spec.specs.declared.Add.{Add}
use Rattle.history_spec.specs.Basics.{upd}
use Rattle.history_spec.specs.History.{Op, read, swap, Action, begin, step, drop, Response, Value, Yes, No, Report, Attempt, Event, refused, accepted, answered}

-- REQUESTS, AND WHAT THEY GIVE

pub data Request : Type 0 where
  act : Action → Request
  add : (task cell amount tries : ℕ) → Request

-- added; over: the sum would be none or more; spent: every try's swap answered no
pub data AddAnswer : Type 0 where
  AmountAdded Over Spent : AddAnswer

-- what an add's last step reports: counts over all its parts
pub record AddReport : Type 0 where
  pub cell : ℕ
  pub answer : AddAnswer
  pub steps : ℕ
  pub won : ℕ
  pub lost : ℕ

-- where an add is one call: an event as before, or that an add is finished. A step that ends a part and begins the next is accepted: the add
-- goes on.
pub data RequestEvent : Type 0 where
  plain : Event → RequestEvent
  summed : Attempt → AddReport → RequestEvent

-- the plain actions that a request stands for, with their events, all at its moment: an action itself; the begin of an add's first read; a
-- step that ended a part, and the begin of the next one; none, where question 23 refuses
pub record Gave : Type 0 where
  pub did : List (Action × Event)
  pub event : RequestEvent

-- what is seen of a list of requests: the events alone
abbrev pub events_of : List (Request × Gave) → List (Request × RequestEvent)
events_of h = map (λ (x : Request × Gave). (x.0, x.1.event)) h

-- AN ADD UNDER WAY: its amount and tries as begun; the swaps that answered no; the counts of the parts that ended

abbrev pub fresh_add : (amount tries : ℕ) → Add
fresh_add d r = record { amount = d; tries = r; failed = 0; steps = 0; won = 0; lost = 0 }

-- with a part's counts, and so many swaps more that answered no
abbrev pub with_part : Add → Report → (no : ℕ) → Add
with_part a r n = record { amount = a.amount; tries = a.tries; failed = a.failed + n; steps = a.steps + r.steps; won = a.won + r.won; lost = a.lost + r.lost }

abbrev pub add_report_of : Add → Report → AddAnswer → AddReport
add_report_of a r z = record { cell = r.cell; answer = z; steps = a.steps + r.steps; won = a.won + r.won; lost = a.lost + r.lost }

-- what follows a part: another one, with what is then known of the add; or the add's answer
pub data Ahead : Type 0 where
  part : Op → Add → Ahead
  end : AddAnswer → Ahead

-- the sum is below `top`; and another try is left after a swap that answered no
abbrev pub sum_below : (top : ℕ) → Add → (value : ℕ) → Bool
sum_below top a v = ltb (v + a.amount) top

abbrev pub try_left : Add → Bool
try_left a = ltb (suc a.failed) a.tries

-- by the part's report. A sum of `top` or more is over.
abbrev pub ahead : (top : ℕ) → Add → Report → Response → Ahead
ahead top a r (Value v) = cond (sum_below top a v) (part (swap r.cell v (v + a.amount)) (with_part a r 0)) (end Over)
ahead top a r Yes = end AmountAdded
ahead top a r No = cond (try_left a) (part (read r.cell) (with_part a r 1)) (end Spent)

-- question 23
abbrev pub tries_ok : ℕ → Bool
tries_ok r = leb 1 r && leb r 8

-- OVER ANY MACHINE that has begins, steps and drops

-- what a request leaves and gives
pub record Handled (S : Type 0) : Type 0 where
  pub state : S
  pub adds : ℕ → Option Add
  pub gave : Gave

module _ {S : Type 0} (top : ℕ) (machine : S → Action → S × Event) where
  abbrev pub handled : S → (ℕ → Option Add) → List (Action × Event) → RequestEvent → Handled S
  handled s f d e = record { state = s; adds = f; gave = record { did = d; event = e } }

  -- the step of task t ended a part of its add a, with the report r
  abbrev pub onwards : S → (ℕ → Option Add) → (t : ℕ) → Add → Attempt → Report → Ahead → Handled S
  onwards s f t a x r (part op n) = let b = machine s (begin t op) in handled b.0 (upd f t (some n)) ((step t, answered x r) ∷ (begin t op, b.1) ∷ []) (plain (accepted x))
  onwards s f t a x r (end z) = handled s (upd f t none) ((step t, answered x r) ∷ []) (summed x (add_report_of a r z))

  abbrev pub steps_on : S → (ℕ → Option Add) → (t : ℕ) → Option Add → Event → Handled S
  steps_on s f t none e = handled s f ((step t, e) ∷ []) (plain e)
  steps_on s f t (some a) (refused n) = handled s f ((step t, refused n) ∷ []) (plain (refused n))
  steps_on s f t (some a) (accepted x) = handled s f ((step t, accepted x) ∷ []) (plain (accepted x))
  steps_on s f t (some a) (answered x r) = onwards s f t a x r (ahead top a r r.answer)

  -- s was the state before the first read's begin, which led to s'
  abbrev pub add_begins : (s s' : S) → (ℕ → Option Add) → (task cell amount tries : ℕ) → Event → Handled S
  add_begins s s' f t k d r (refused n) = handled s' f ((begin t (read k), refused n) ∷ []) (plain (refused n))
  add_begins s s' f t k d r (accepted x) = cond (tries_ok r) (handled s' (upd f t (some (fresh_add d r))) ((begin t (read k), accepted x) ∷ []) (plain (accepted x))) (handled s f [] (plain (refused 23)))
  add_begins s s' f t k d r (answered x o) = handled s' f ((begin t (read k), answered x o) ∷ []) (plain (answered x o))

  -- a read or a swap that begins is no part of an add; an add whose part is withdrawn is withdrawn
  abbrev pub forgets : (ℕ → Option Add) → (task : ℕ) → Event → ℕ → Option Add
  forgets f t (refused n) = f
  forgets f t (accepted x) = upd f t none
  forgets f t (answered x r) = f

  abbrev pub handles : S → (ℕ → Option Add) → Request → Handled S
  handles s f (act (begin t op)) = let b = machine s (begin t op) in handled b.0 (forgets f t b.1) ((begin t op, b.1) ∷ []) (plain b.1)
  handles s f (act (step t)) = let b = machine s (step t) in steps_on b.0 f t (f t) b.1
  handles s f (act (drop t)) = let b = machine s (drop t) in handled b.0 (forgets f t b.1) ((drop t, b.1) ∷ []) (plain b.1)
  handles s f (add t k d r) = let b = machine s (begin t (read k)) in add_begins s b.0 f t k d r b.1

  -- as a machine, for `history` and `run`
  abbrev pub with_adds : S × (ℕ → Option Add) → Request → (S × (ℕ → Option Add)) × Gave
  with_adds x q = let r = handles x.0 x.1 q in ((r.state, r.adds), r.gave)

abbrev pub no_adds : ℕ → Option Add
no_adds t = none
