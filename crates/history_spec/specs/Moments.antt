-- When did each call happen? The marks of CR 8: of any machine that names the moments of its calls, the list of its calls in an order that
-- makes every answer that of the sequential specification.
use Rattle.std.specs.Prelude.{◌≡◌, Bool, true, false, not, cond, List, [], ◌∷◌, ◌++◌, ℕ, zero, suc, eqb, leb}
use Rattle.std.proofs.Math.Option.{Option, none, some}
use Rattle.history_spec.specs.Basics.{◌∈◌}
use Rattle.history_spec.specs.History.{Op, read, swap, Action, begin, step, drop, Event, refused, accepted, answered, Response, Value, Yes, No, CallId, Call, WithdrawnCall, Calls, no_calls, enter}
use Rattle.history_spec.specs.Linearization.{Point}

-- MARKS

-- at the action that is named, or immediately before or after it
pub data Side : Type 0 where
  before itself after : Side

-- the labels in the source's list of linearization points
pub data Rule : Type 0 where
  R1 R2 C1 C2 C3 C4 C5 C6 : Rule

-- where a call takes effect, and by which rule
pub record Spot : Type 0 where
  pub moment : ℕ
  pub side : Side
  pub rule : Rule

-- a call there. The answer is the call's; of a pending or withdrawn swap that is listed it is yes
pub record Mark : Type 0 where
  pub spot : Spot
  pub call : CallId
  pub answer : Response

abbrev pub point_of : Mark → Point
point_of m = record { moment = m.spot.moment; call = m.call }

-- the point with its answer, as `replies` has it
abbrev pub reply_of : Mark → Point × Response
reply_of m = (point_of m, m.answer)

-- THEIR ORDER: by the action; before, itself, after; who changes its cell first; lower tasks first

-- a swap of unequal values that answers yes changes its cell, and nothing else does
abbrev pub changes : Op → Response → Bool
changes (read k) a = false
changes (swap k e n) (Value v) = false
changes (swap k e n) Yes = not (eqb e n)
changes (swap k e n) No = false

abbrev pub changing : Mark → Bool
changing m = changes m.call.op m.answer

abbrev pub side_number : Side → ℕ
side_number before = 0
side_number itself = 1
side_number after = 2

abbrev pub key : Mark → List ℕ
key m = m.spot.moment ∷ side_number m.spot.side ∷ cond (changing m) 0 1 ∷ m.call.task ∷ []

-- the first number that differs decides
abbrev pub not_after : List ℕ → List ℕ → Bool
not_after [] m = true
not_after (a ∷ l) [] = false
not_after (a ∷ l) (b ∷ m) = cond (eqb a b) (not_after l m) (leb a b)

abbrev pub insert : Mark → List Mark → List Mark
insert x [] = x ∷ []
insert x (y ∷ l) = cond (not_after (key x) (key y)) (x ∷ y ∷ l) (y ∷ insert x l)

abbrev pub sort : List Mark → List Mark
sort [] = []
sort (x ∷ l) = insert x (sort l)

-- A MACHINE THAT NAMES MOMENTS

-- notes kept beside a machine, at every action
abbrev pub beside : {S N : Type 0} → (S → Action → S × Event) → (N → S → Action → Event → N) → S × N → Action → (S × N) × Event
beside machine note x a = let r = machine x.0 a in ((r.0, note x.1 x.0 a r.1), r.1)

-- where a task's call takes effect if its next step ends it with that answer; where its pending swap took effect, if it did; and if its next
-- step makes a withdrawn swap take effect: the number of that swap's drop, and where
pub record Names (S : Type 0) : Type 0 where
  pub ending : S → ℕ → Response → Spot
  pub standing : S → ℕ → Option Spot
  pub landing : S → ℕ → Option (ℕ × Spot)

-- the call that was withdrawn by the action n
abbrev pub withdrawn_at : List WithdrawnCall → ℕ → Option Call
withdrawn_at [] n = none
withdrawn_at (w ∷ l) n = cond (eqb n w.end) (some w.call) (withdrawn_at l n)

module _ {S : Type 0} (machine : S → Action → S × Event) (names : Names S) where
  abbrev pub mark_of : Option Call → Response → Spot → List Mark
  mark_of none a p = []
  mark_of (some c) a p = record { spot = p; call = c.start; answer = a } ∷ []

  abbrev pub mark_of_pending : Option Spot → Option Call → List Mark
  mark_of_pending none o = []
  mark_of_pending (some p) o = mark_of o Yes p

  abbrev pub mark_of_landed : Option (ℕ × Spot) → List WithdrawnCall → List Mark
  mark_of_landed none l = []
  mark_of_landed (some (n, p)) l = mark_of (withdrawn_at l n) Yes p

  -- the mark of a call that the action ends, of a pending swap that took effect and is withdrawn, of a withdrawn swap that takes effect
  abbrev pub marked : S → Calls → Action → Event → List Mark
  marked s b (begin t op) e = []
  marked s b (step t) (refused n) = []
  marked s b (step t) (accepted x) = mark_of_landed (names.landing s t) b.withdrawn
  marked s b (step t) (answered x r) = mark_of (b.pending t) r.answer (names.ending s t r.answer)
  marked s b (drop t) (refused n) = []
  marked s b (drop t) (accepted x) = mark_of_pending (names.standing s t) (b.pending t)
  marked s b (drop t) (answered x r) = []

  -- the pending swaps of tasks below n that took effect
  abbrev pub pending_marks : S → Calls → ℕ → List Mark
  pending_marks s b zero = []
  pending_marks s b (suc t) = mark_of_pending (names.standing s t) (b.pending t) ++ pending_marks s b t

  -- of so many tasks: the marks l so far, of finished and of withdrawn calls, those to come, and those of the pending swaps
  abbrev pub marks : ℕ → S → Calls → List Mark → List Action → List Mark
  marks n s b l [] = pending_marks s b n ++ l
  marks n s b l (a ∷ r) = marks n (machine s a).0 (enter b a (machine s a).1) (marked s b a (machine s a).1 ++ l) r

  -- all marks of a list of actions, in their order
  abbrev pub linearized : ℕ → S → List Action → List Mark
  linearized n s l = sort (marks n s no_calls [] l)

-- of a call that answers yes where it is listed: it is so exactly at the spot that is given, and nowhere if none is
abbrev pub ListedExactly : List Mark → Call → Option Spot → Type 0
ListedExactly l c there = (p : Spot) → let m : Mark = record { spot = p; call = c.start; answer = Yes } in (m ∈ l → there ≡ some p) × (there ≡ some p → m ∈ l)
