-- Wait-freedom from demand 3's clauses: a pending call whose task is stepped ends within its kind's most steps.
use mathlib.Core.Path.{◌≡◌, refl, sym, ap, ◌∙◌, subst}
use mathlib.Core.Logic.{inl}
use mathlib.Core.Option.{some}
use mathlib.Core.List.{List, [], ◌∷◌, ◌++◌, append_assoc}
use Prim.Native.Nat.{ℕ, zero, suc, ◌+◌, ◌≤◌}
use native.Mathlib.Omega.{arith}
use lib.ListN.{replicate}
use Rattle.history_spec.specs.Basics.{◌∈◌}
use Rattle.history_spec.specs.History.{Action, step, Event, refused, accepted, answered, history, run, Call, FinishedCall, Calls, no_calls, advance, advanced, closed, enter, enter_all, calls_of}
use Rattle.history_spec.specs.History.{Allowed, WellFormed}
use Rattle.history_spec.specs.Demand3.{most, Meets, Finishes}
use Rattle.history_spec.proofs.Basics.{upd_same, clash, history_append, enter_append}

last-allowed : (size : ℕ) (b : Calls) (h : List (Action × Event)) (x : Action × Event) → WellFormed size b (h ++ (x ∷ [])) → Allowed size (enter_all b h) x.0 x.1
last-allowed size b [] x w = w.0
last-allowed size b (y ∷ h) x w = last-allowed size (enter b y.0 y.1) h x w.1

module _ {S : Type 0} (machine : S → Action → S × Event) (start : S) where
  abbrev calls_after : List Action → Calls
  calls_after l = calls_of (history machine start l)

  module _ {Clear : List Action → ℕ → Type 0} {size : ℕ} {values : ℕ → ℕ} (meets : Meets machine start Clear size values) where
    -- each further step is accepted, and the bound leaves room for no more than k that do not end the call
    within : (k : ℕ) (l : List Action) (t : ℕ) (c : Call) → (calls_after l).pending t ≡ some c → most c.start.op ≤ c.steps + k → Finishes machine start l t c k
    within zero l t c h m = absurd (omega (arith, ((meets l).calls.bounds.unended t c h).0))
    within (suc k) l t c h m = go (machine (run machine start l) (step t)).1
        (ap calls_of (history_append machine start l (step t ∷ [])) ∙ enter_append no_calls (history machine start l) ((step t, (machine (run machine start l) (step t)).1) ∷ []))
        (last-allowed size no_calls (history machine start l) (step t, (machine (run machine start l) (step t)).1)
        (subst (λ h. WellFormed size no_calls h) (history_append machine start l (step t ∷ [])) (meets (l ++ (step t ∷ []))).well_formed))
        (within k (l ++ (step t ∷ [])) t)
      where
        b : Calls
        b = calls_after l

        b' : Calls
        b' = calls_after (l ++ (step t ∷ []))

        go : (e : Event) → b' ≡ enter b (step t) e → Allowed size b (step t) e →
            ((d : Call) → b'.pending t ≡ some d → most d.start.op ≤ d.steps + k → Finishes machine start (l ++ (step t ∷ [])) t d k) → Finishes machine start l t c (suc k)
        go (refused r) q f rec = absurd (clash f h)
        go (accepted x) q f rec =
            let r = rec (advance b x c) (ap (λ (b : Calls). b.pending t) q ∙ (upd_same b.pending t (advanced b x (b.pending t)) ∙ ap (advanced b x) h)) (omega arith) in
            record {
              steps = suc r.steps;
              at_most = omega (arith, r.at_most);
              end = r.end;
              is = r.is;
              done = subst (λ l. r.end ∈ (calls_after l).finished) (append_assoc l (step t ∷ []) (replicate r.steps (step t))) r.done;
            }
        go (answered x r) q f rec =
            let e : FinishedCall = record { call = advance b x c; report = r } in
            record {
              steps = 1;
              at_most = omega arith;
              end = e;
              is = refl;
              done = subst (λ d. e ∈ d) (sym (ap (λ (b : Calls). b.finished) q ∙ ap (λ z. closed (advanced b x z) r b.finished) h)) (inl refl);
            }

    -- from anywhere in any list, at most so many further steps of its task finish a pending call
    pub ends_within : (l : List Action) (t : ℕ) (c : Call) → (calls_after l).pending t ≡ some c → Finishes machine start l t c (most c.start.op)
    ends_within l t c h = within (most c.start.op) l t c h (omega arith)
