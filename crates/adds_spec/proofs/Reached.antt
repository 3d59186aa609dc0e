-- What a machine that meets demand 3 gives at every state that it reaches, with the calls so far.
use mathlib.Core.Path.{◌≡◌, refl, sym, ap, ap₂, ◌∙◌, subst}
use mathlib.Core.Logic.{inl, inr}
use mathlib.Core.Bool.{Bool, true, false, cond}
use mathlib.Core.List.{List, [], ◌∷◌, ◌++◌}
use Prim.Native.Nat.{ℕ, ◌<◌}
use lib.Dec.{eqb}
use Rattle.history_spec.specs.Basics.{◌∈◌}
use Rattle.history_spec.specs.History.{Op, read, swap, cell_of, Action, begin, step, Response, Value, Yes, No, Attempt, untried, Report, Event, accepted, answered, history, run, CallId, FinishedCall, Calls, no_calls, enter, enter_all, calls_of, Allowed, WellFormed}
use Rattle.history_spec.specs.Linearization.{reply, apply, Point, replies}
use Rattle.history_spec.specs.Demand3.{Bounds, Meets}
use Rattle.history_spec.proofs.Basics.{history_append, enter_append}
use Rattle.adds_spec.proofs.Plays.{run_append}

well_formed_after : (size : ℕ) (h m : List (Action × Event)) (b : Calls) → WellFormed size b (h ++ m) → WellFormed size (enter_all b h) m
well_formed_after size [] m b w = w
well_formed_after size (x ∷ h) m b w = well_formed_after size h m (enter b x.0 x.1) w.1

-- a read answers a value, a swap yes or no
abbrev pub Suits : Op → Response → Type 0
Suits (read k) (Value v) = Unit {0}
Suits (read k) Yes = ⊥
Suits (read k) No = ⊥
Suits (swap k e n) (Value v) = ⊥
Suits (swap k e n) Yes = Unit {0}
Suits (swap k e n) No = Unit {0}

reply_suits : (v : ℕ) (op : Op) → Suits op (reply v op)
reply_suits v (read k) = tt
reply_suits v (swap k e n) = go (eqb v e)
  where
    go : (b : Bool) → Suits (swap k e n) (cond b Yes No)
    go true = tt
    go false = tt

replies_suit : (cells : ℕ → ℕ) (l : List Point) (p : Point × Response) → p ∈ replies cells l → Suits p.0.call.op p.1
replies_suit cells (e ∷ l) p (inl q) = subst (λ (p : Point × Response). Suits p.0.call.op p.1) (sym q) (reply_suits (cells (cell_of e.call.op)) e.call.op)
replies_suit cells (e ∷ l) p (inr i) = replies_suit (apply cells e.call.op) l p i
replies_suit cells [] p x' = elim x' [ ]

-- values below `top`, which is none
abbrev pub Below : ℕ → Op → Type 0
Below top (read k) = Unit {0}
Below top (swap k e n) = (e < top) × (n < top)

module _ {S : Type 0} (machine : S → Action → S × Event) (start : S) where
  -- by some plain actions
  pub record Reached (s : S) (b : Calls) : Type 0 where
    pub actions : List Action
    pub state : s ≡ run machine start actions
    pub calls : b ≡ calls_of (history machine start actions)

  -- whose step ended a call can begin another on the same cell at once
  abbrev pub Continues : ℕ → Type 0
  Continues top = (l : List Action) (t : ℕ) (x : Attempt) (r : Report) (op : Op) → let s = run machine start l in
      (machine s (step t)).1 ≡ answered x r → cell_of op ≡ r.cell → Below top op → (machine (machine s (step t)).0 (begin t op)).1 ≡ accepted untried

  pub reached-start : Reached start no_calls
  reached-start = record { actions = []; state = refl; calls = refl }

  pub reached-next : {s : S} {b : Calls} → Reached s b → (a : Action) → Reached (machine s a).0 (enter b a (machine s a).1)
  reached-next {s} {b} r a = record {
    actions = r.actions ++ (a ∷ []);
    state = ap (λ (s : S). (machine s a).0) r.state ∙ sym (run_append machine start r.actions (a ∷ []));
    calls = ap₂ (λ (b : Calls) (s : S). enter b a (machine s a).1) r.calls r.state
        ∙ sym (ap (enter_all no_calls) (history_append machine start r.actions (a ∷ [])) ∙ enter_append no_calls (history machine start r.actions) ((a, (machine (run machine start r.actions) a).1) ∷ []));
  }

  module _ {Clear : List Action → ℕ → Type 0} {size : ℕ} {values : ℕ → ℕ} (meets : Meets machine start Clear size values) {s : S} {b : Calls} (r : Reached s b) where
    pub allowed : (a : Action) → Allowed size b a (machine s a).1
    allowed a =
        let w = subst (WellFormed size no_calls) (history_append machine start r.actions (a ∷ [])) (meets (r.actions ++ (a ∷ []))).well_formed in
        let v = (well_formed_after size (history machine start r.actions) ((a, (machine (run machine start r.actions) a).1) ∷ []) no_calls w).0 in
        subst (λ (x : Calls × S). Allowed size x.0 a (machine x.1 a).1) (λ i. (sym r.calls i, sym r.state i)) v

    pub bounds : Bounds b
    bounds = subst Bounds (sym r.calls) (meets r.actions).calls.bounds

    pub suits : (f : FinishedCall) → f ∈ b.finished → Suits f.call.start.op f.report.answer
    suits f i =
        let d = (meets r.actions).calls in
        let e = d.linearizes.answers f (subst (λ (b : Calls). f ∈ b.finished) r.calls i) in
        subst (λ (c : CallId). Suits c.op f.report.answer) e.1 (replies_suit values d.linearization (e.0, f.report.answer) e.4)
