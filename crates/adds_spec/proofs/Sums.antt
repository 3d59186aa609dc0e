-- Where every call on a cell is finished and only adds swap there, what the calls leave is its first value and the amounts of all adds that
-- answered added.
use mathlib.Core.Path.{◌≡◌, refl, sym, ap, ◌∙◌, subst}
use mathlib.Core.Logic.{◌≢◌}
use mathlib.Core.Bool.{Bool, true, false, cond}
use mathlib.Core.List.{List, [], ◌∷◌, map}
use Prim.Native.Nat.{ℕ, ◌+◌}
use native.Mathlib.Omega.{arith}
use lib.Dec.{eqb}
use borrow.Author.Tests.{eqb-true, ne_eqb}
use Rattle.history_spec.specs.Basics.{◌∈◌}
use Rattle.history_spec.specs.History.{Op, read, swap, cell_of, Action, begin, Attempt, Response, Value, Yes, No, Event, accepted, history, FinishedCall, no_calls, enter_all}
use Rattle.history_spec.specs.Linearization.{reply, apply, Point, replies}
use Rattle.history_spec.specs.Demand3.{Meets}
use Rattle.history_spec.specs.Moments.{Mark, point_of, reply_of}
use Rattle.history_spec.proofs.Basics.{mem_map}
use Rattle.history_linearization.proofs.Order.{total}
use Rattle.history_linearization.proofs.Timeline.{left_by}
use Rattle.adds_spec.specs.Requests.{Request, act, AmountAdded, AddAnswer, Over, Spent, Gave, RequestEvent, plain, events_of, no_adds, with_adds}
use Rattle.adds_spec.specs.Demand3.{dids_of}
use Rattle.adds_spec.specs.Adds.{FinishedAdd, adds_of}
use Rattle.adds_spec.specs.Sums.{amount_if, brought_by, brought_to, OnlyAdds}
use Rattle.adds_spec.proofs.Clock.{joined}
use Rattle.adds_spec.proofs.Reached.{Continues}
use Rattle.adds_spec.proofs.Adds.{Weights, all_requests}

-- WHAT SWAPS TAKE AND PUT, on cell k

abbrev taken : ℕ → Op → Response → ℕ
taken k (read j) a = 0
taken k (swap j e n) (Value v) = 0
taken k (swap j e n) Yes = cond (eqb k j) e 0
taken k (swap j e n) No = 0

abbrev put : ℕ → Op → Response → ℕ
put k (read j) a = 0
put k (swap j e n) (Value v) = 0
put k (swap j e n) Yes = cond (eqb k j) n 0
put k (swap j e n) No = 0

-- nothing, elsewhere
taken_off : (k : ℕ) (op : Op) (a : Response) → cell_of op ≢ k → taken k op a ≡ 0
taken_off k (read j) a h = refl
taken_off k (swap j e n) (Value v) h = refl
taken_off k (swap j e n) Yes h = rw (ne_eqb k j (λ z. h (sym z)))
taken_off k (swap j e n) No h = refl

put_off : (k : ℕ) (op : Op) (a : Response) → cell_of op ≢ k → put k op a ≡ 0
put_off k (read j) a h = refl
put_off k (swap j e n) (Value v) h = refl
put_off k (swap j e n) Yes h = rw (ne_eqb k j (λ z. h (sym z)))
put_off k (swap j e n) No h = refl

step_balance : (k : ℕ) (c : ℕ → ℕ) (op : Op) → apply c op k + taken k op (reply (c (cell_of op)) op) ≡ c k + put k op (reply (c (cell_of op)) op)
step_balance k c (read j) = same (eqb k j)
  where
    same : (b : Bool) → cond b (c k) (c k) + 0 ≡ c k + 0
    same true = refl
    same false = refl
step_balance k c (swap j e n) = go (eqb k j) refl
  where
    go : (b : Bool) → eqb k j ≡ b → cond b (cond (eqb (c k) e) n (c k)) (c k) + taken k (swap j e n) (cond (eqb (c j) e) Yes No) ≡ c k + put k (swap j e n) (cond (eqb (c j) e) Yes No)
    go false z = off (eqb (c j) e)
      where
        off : (x : Bool) → c k + taken k (swap j e n) (cond x Yes No) ≡ c k + put k (swap j e n) (cond x Yes No)
        off true = rw z
        off false = refl
    go true z = rw (ap (λ i. eqb (c i) e) (eqb-true k j z)) (on (eqb (c j) e) refl)
      where
        on : (x : Bool) → eqb (c j) e ≡ x → cond x n (c k) + taken k (swap j e n) (cond x Yes No) ≡ c k + put k (swap j e n) (cond x Yes No)
        on true y = let q = ap c (eqb-true k j z) ∙ eqb-true (c j) e y in rw z (omega arith)
        on false y = refl

balance : (k : ℕ) (c : ℕ → ℕ) (l : List Point) → left_by c l k + total (λ (p : Point × Response). taken k p.0.call.op p.1) (replies c l) ≡ c k + total (λ (p : Point × Response). put k p.0.call.op p.1) (replies c l)
balance k c [] = refl
balance k c (x ∷ l) = omega (arith, balance k (apply c x.call.op) l, step_balance k c x.call.op)

by-marks : (w : Op → Response → ℕ) (ms : List Mark) → total (λ (p : Point × Response). w p.0.call.op p.1) (map reply_of ms) ≡ total (λ (m : Mark). w m.call.op m.answer) ms
by-marks w [] = refl
by-marks w (m ∷ ms) = omega (arith, by-marks w ms)

-- THE WEIGHTS OF ADDS

-- no swap on cell k
abbrev Off : ℕ → Op → Type 0
Off k (read j) = Unit {0}
Off k (swap j e n) = k ≢ j

weights : (k : ℕ) → Weights (Off k) (put k) (taken k) (brought_by k)
weights k = record { plain-even = even; read-even = λ j v. refl; no_even = λ j e n. refl; yes_gain = gains; no_gain = λ F h. nothing F.report.answer h (eqb k F.call.start.cell) F.call.start.amount }
  where
    even : (op : Op) (a : Response) → Off k op → put k op a ≡ taken k op a
    even (read j) a h = refl
    even (swap j e n) (Value v) h = refl
    even (swap j e n) Yes h = rw (ne_eqb k j h)
    even (swap j e n) No h = refl

    gains : (v : ℕ) (F : FinishedAdd) → F.report.answer ≡ AmountAdded → put k (swap F.call.start.cell v (v + F.call.start.amount)) Yes ≡ taken k (swap F.call.start.cell v (v + F.call.start.amount)) Yes + brought_by k F
    gains v F e = rw e (go (eqb k F.call.start.cell) F.call.start.amount)
      where
        go : (b : Bool) (d : ℕ) → cond b (v + d) 0 ≡ cond b v 0 + cond b d 0
        go true d = refl
        go false d = refl

    nothing : (z : AddAnswer) → z ≢ AmountAdded → (b : Bool) (d : ℕ) → cond b (amount_if z d) 0 ≡ 0
    nothing AmountAdded h b d = absurd (h refl)
    nothing Over h true d = refl
    nothing Over h false d = refl
    nothing Spent h true d = refl
    nothing Spent h false d = refl

all_brought : (k : ℕ) (l : List FinishedAdd) → total (brought_by k) l ≡ brought_to k l
all_brought k [] = refl
all_brought k (F ∷ l) = omega (arith, all_brought k l)

-- of a machine whose listed calls are ms; those on cell k are the finished ones
module _ {S : Type 0} (top : ℕ) (machine : S → Action → S × Event) (start : S) {Clear : List Action → ℕ → Type 0} {size : ℕ} {values : ℕ → ℕ} (meets : Meets machine start Clear size values) (continues : Continues machine start top) (l : List Request) (ms : List Mark) (k : ℕ)
    (answers : replies values (map point_of ms) ≡ map reply_of ms)
    (totals : (w : Op → Response → ℕ) → ((op : Op) (a : Response) → cell_of op ≢ k → w op a ≡ 0) → total (λ (m : Mark). w m.call.op m.answer) ms ≡ total (λ (f : FinishedCall). w f.call.start.op f.report.answer) (enter_all no_calls (joined (dids_of (history (with_adds top machine) (start, no_adds) l)))).finished) where
  pub sum_left : OnlyAdds k (events_of (history (with_adds top machine) (start, no_adds) l)) → left_by values (map point_of ms) k ≡ values k + brought_to k (adds_of (history (with_adds top machine) (start, no_adds) l)).finished
  sum_left only =
      let I = all_requests top (Off k) (put k) (taken k) (brought_by k) machine start (weights k) meets continues l plainly in
      let B = subst (λ (r : List (Point × Response)). left_by values (map point_of ms) k + total (λ (p : Point × Response). taken k p.0.call.op p.1) r ≡ values k + total (λ (p : Point × Response). put k p.0.call.op p.1) r) answers (balance k values (map point_of ms)) in
      omega (arith, B, by-marks (taken k) ms, by-marks (put k) ms, totals (taken k) (taken_off k), totals (put k) (put_off k), I.sum, all_brought k (adds_of (history (with_adds top machine) (start, no_adds) l)).finished)
    where
      plainly : (t : ℕ) (op : Op) (g : Gave) (x : Attempt) → (act (begin t op), g) ∈ history (with_adds top machine) (start, no_adds) l → g.event ≡ plain (accepted x) → Off k op
      plainly t (read j) g x i e = tt
      plainly t (swap j a n) g x i e = λ z.
          let h = history (with_adds top machine) (start, no_adds) l in
          let seen = mem_map {B = Request × RequestEvent} (λ (x : Request × Gave). (x.0, x.1.event)) h (act (begin t (swap j a n)), g) i in
          only t a n x (subst (λ (q : Request × RequestEvent). q ∈ events_of h) (λ m. (act (begin t (swap (sym z m) a n)), e m)) seen)
