-- A pending add whose task is stepped ends within 27 steps for each of its tries.
use mathlib.Core.Path.{◌≡◌, refl, sym, ap, ◌∙◌, subst}
use mathlib.Core.Logic.{◌⊎◌, inl, inr}
use mathlib.Core.Option.{Option, none, some}
use mathlib.Core.List.{List, [], ◌∷◌, ◌++◌, append_assoc}
use Prim.Native.Nat.{ℕ, zero, suc, ◌+◌, ◌*◌, ◌≤◌}
use native.Mathlib.Omega.{arith}
use lib.ListN.{replicate}
use Rattle.history_spec.specs.Basics.{upd, ◌∈◌}
use Rattle.history_spec.specs.History.{Action, step, Attempt, Report, Event, refused, accepted, answered, history, run, Call, Calls, no_calls, enter_all, Allowed}
use Rattle.history_spec.specs.Demand3.{Meets}
use Rattle.history_spec.proofs.Basics.{clash, upd_same, history_append}
use Rattle.adds_spec.specs.declared.Add.{Add}
use Rattle.adds_spec.specs.Requests.{Request, act, AddReport, Gave, add_report_of, Ahead, part, end, ahead, onwards, steps_on, handles, with_adds, no_adds}
use Rattle.adds_spec.specs.Demand3.{dids_of}
use Rattle.adds_spec.specs.Adds.{AddCall, FinishedAdd, AddCalls, no_add_calls, reports_in, add_step, add_steps, add_ends, enter_add, enter_adds, adds_of, AddFinishes}
use Rattle.adds_spec.proofs.Clock.{joined}
use Rattle.adds_spec.proofs.Reached.{Continues, allowed}
use Rattle.adds_spec.proofs.Adds.{At, invariant, adds-right}

adds_append : (b : AddCalls) (g h : List (Request × Gave)) → enter_adds b (g ++ h) ≡ enter_adds (enter_adds b g) h
adds_append b [] h = refl
adds_append b (x ∷ g) h = adds_append (enter_add b x.0 x.1.did x.1.event) g h

module _ {S : Type 0} (top : ℕ) (machine : S → Action → S × Event) where
  -- a step of task t, whose add was C, has the add go on, or finishes it
  abbrev Moved : AddCalls → (t : ℕ) → AddCall → Gave → Type 0
  Moved A t C g = let A' = enter_add A (act (step t)) g.did g.event in
      (x : Attempt) × ((A'.pending t ≡ some (add_step x (reports_in g.did) C)) ⊎ ((r : AddReport) × (record { call = add_step x (reports_in g.did) C; report = r } ∈ A'.finished)))

  module _ (size : ℕ) (A : AddCalls) (b : Calls) (t : ℕ) (C : AddCall) (its : A.pending t ≡ some C) (s' : S) (f : ℕ → Option Add) where
    goes_on : (x : Attempt) (l : List Report) → upd A.pending t (add_steps x l (A.pending t)) t ≡ some (add_step x l C)
    goes_on x l = upd_same A.pending t (add_steps x l (A.pending t)) ∙ ap (add_steps x l) its

    turned : (a : Add) (x : Attempt) (r : Report) (w : Ahead) → Moved A t C (onwards top machine s' f t a x r w).gave
    turned a x r (part op n) = (x, inl (goes_on x (reports_in (onwards top machine s' f t a x r (part op n)).gave.did)))
    turned a x r (end z) =
        let o = add_report_of a r z in
        let F : FinishedAdd = record { call = add_step x (r ∷ []) C; report = o } in
        (x, inr (o, subst (λ (l : List FinishedAdd). F ∈ l) (sym (ap (λ (B : Option AddCall). add_ends (add_steps x (r ∷ []) B) o A.finished) its)) (inl refl)))

    stepped : (o : Option Add) (B : Option AddCall) (p : Option Call) → A.pending t ≡ B → b.pending t ≡ p → At top (λ op. Unit {0}) (λ op a. 0) (λ op a. 0) (λ F. 0) o B p → (e : Event) → Allowed size b (step t) e → Moved A t C (steps_on top machine s' f t o e).gave
    stepped o none p y z h e al = absurd (clash y its)
    stepped none (some D) p y z h e al = absurd h
    stepped (some a) (some D) none y z h e al = absurd h
    stepped (some a) (some D) (some c) y z h (refused n) al = absurd (clash al z)
    stepped (some a) (some D) (some c) y z h (accepted x) al = (x, inl (goes_on x []))
    stepped (some a) (some D) (some c) y z h (answered x r) al = turned a x r (ahead top a r r.answer)

module _ {S : Type 0} (top : ℕ) (machine : S → Action → S × Event) (start : S) {Clear : List Action → ℕ → Type 0} {size : ℕ} {values : ℕ → ℕ} (meets : Meets machine start Clear size values) (continues : Continues machine start top) where
  abbrev hist : List Request → List (Request × Gave)
  hist l = history (with_adds top machine) (start, no_adds) l

  -- what a step of task t does after the requests l
  abbrev gives : List Request → (t : ℕ) → Gave
  gives l t = let x = run (with_adds top machine) (start, no_adds) l in (handles top machine x.0 x.1 (act (step t))).gave

  moved : (l : List Request) (t : ℕ) (C : AddCall) → (adds_of (hist l)).pending t ≡ some C → Moved top machine (adds_of (hist l)) t C (gives l t)
  moved l t C e =
      let x = run (with_adds top machine) (start, no_adds) l in
      let I = invariant top machine start meets continues l in
      let b = enter_all no_calls (joined (dids_of (hist l))) in
      stepped top machine size (adds_of (hist l)) b t C e (machine x.0 (step t)).0 x.1 (x.1 t) ((adds_of (hist l)).pending t) (b.pending t) refl refl (I.tasks t) (machine x.0 (step t)).1 (allowed machine start meets I.reached (step t))

  -- the bound leaves room for no more than k further steps that do not end the add
  within : (k : ℕ) (l : List Request) (t : ℕ) (C : AddCall) → (adds_of (hist l)).pending t ≡ some C → 27 * C.start.tries ≤ C.steps + k → AddFinishes (λ l. adds_of (history (with_adds top machine) (start, no_adds) l)) l t C k
  within zero l t C e m = absurd (omega (arith, m, ((adds-right top machine start meets continues l).unended t C e).few.few-steps))
  within (suc k) l t C e m = go (moved l t C e) (ap (enter_adds no_add_calls) (history_append (with_adds top machine) (start, no_adds) l (act (step t) ∷ [])) ∙ adds_append no_add_calls (hist l) ((act (step t), gives l t) ∷ [])) (within k (l ++ (act (step t) ∷ [])) t)
    where
      A' : AddCalls
      A' = adds_of (hist (l ++ (act (step t) ∷ [])))

      go : Moved top machine (adds_of (hist l)) t C (gives l t) → A' ≡ enter_add (adds_of (hist l)) (act (step t)) (gives l t).did (gives l t).event →
          ((D : AddCall) → A'.pending t ≡ some D → 27 * D.start.tries ≤ D.steps + k → AddFinishes (λ l. adds_of (history (with_adds top machine) (start, no_adds) l)) (l ++ (act (step t) ∷ [])) t D k) → AddFinishes (λ l. adds_of (history (with_adds top machine) (start, no_adds) l)) l t C (suc k)
      go (x, inl z) q rec =
          let r = rec (add_step x (reports_in (gives l t).did) C) (ap (λ (A : AddCalls). A.pending t) q ∙ z) (omega (arith, m)) in
          record {
            steps = suc r.steps;
            at_most = omega (arith, r.at_most);
            end = r.end;
            is = r.is;
            done = subst (λ (l : List Request). r.end ∈ (adds_of (hist l)).finished) (append_assoc l (act (step t) ∷ []) (replicate r.steps (act (step t)))) r.done;
          }
      go (x, inr (r, z)) q rec =
          let F : FinishedAdd = record { call = add_step x (reports_in (gives l t).did) C; report = r } in
          record { steps = 1; at_most = omega arith; end = F; is = refl; done = subst (λ (A : AddCalls). F ∈ A.finished) (sym q) z }

  -- From anywhere in any list of requests, at most 27 further steps of its task for each try finish a pending add.
  pub adds-end : (l : List Request) (t : ℕ) (C : AddCall) → (adds_of (history (with_adds top machine) (start, no_adds) l)).pending t ≡ some C → AddFinishes (λ l. adds_of (history (with_adds top machine) (start, no_adds) l)) l t C (27 * C.start.tries)
  adds-end l t C e = within (27 * C.start.tries) l t C e (omega arith)
