-- A list of requests, played by the machine with adds, does a list of plain actions, played by the machine alone.
use mathlib.Core.Path.{◌≡◌, refl, sym, ap, ap₂, ◌∙◌}
use mathlib.Core.Bool.{Bool, true, false, cond}
use mathlib.Core.Option.{Option, none, some}
use mathlib.Core.List.{List, [], ◌∷◌, ◌++◌, map}
use Prim.Native.Nat.{ℕ}
use Rattle.history_spec.specs.Basics.{upd}
use Rattle.history_spec.specs.History.{read, Action, begin, step, drop, Event, refused, accepted, answered, history, run}
use Rattle.history_spec.proofs.Basics.{history_append}
use Rattle.adds_spec.specs.Requests.{Request, act, add, plain, Gave, fresh_add, Ahead, part, end, ahead, tries_ok, Handled, handled, onwards, steps_on, add_begins, handles, with_adds}
use Rattle.adds_spec.specs.declared.Add.{Add}
use Rattle.adds_spec.specs.Demand3.{dids_of}
use Rattle.adds_spec.proofs.Clock.{joined, BeginsLast, AllBeginsLast}

abbrev pub actions_of : List (Action × Event) → List Action
actions_of d = map (λ (x : Action × Event). x.0) d

pub run_append : {S A E : Type 0} (machine : S → A → S × E) (s : S) (l m : List A) → run machine s (l ++ m) ≡ run machine (run machine s l) m
run_append machine s [] m = refl
run_append machine s (a ∷ l) m = run_append machine (machine s a).0 l m

module _ {S : Type 0} (top : ℕ) (machine : S → Action → S × Event) where
  -- what a request did is what the machine gives to those plain actions
  pub record Played (s : S) (x : Handled S) : Type 0 where
    pub same : history machine s (actions_of x.gave.did) ≡ x.gave.did
    pub state : run machine s (actions_of x.gave.did) ≡ x.state
    pub begins-last : BeginsLast x.gave.did

  pub played : (s : S) (f : ℕ → Option Add) (q : Request) → Played s (handles top machine s f q)
  played s f (act (begin t op)) = record { same = refl; state = refl; begins-last = refl }
  played s f (act (step t)) = go (f t) (machine s (step t)).1 refl
    where
      s' : S
      s' = (machine s (step t)).0

      one : (e : Event) → (machine s (step t)).1 ≡ e → ◌≡◌ {A = List (Action × Event)} ((step t, (machine s (step t)).1) ∷ []) ((step t, e) ∷ [])
      one e z = ap (λ (e : Event). (step t, e) ∷ []) z

      go : (o : Option Add) (e : Event) → (machine s (step t)).1 ≡ e → Played s (steps_on top machine (machine s (step t)).0 f t o e)
      go none e z = record { same = one e z; state = refl; begins-last = tt }
      go (some a) (refused n) z = record { same = one (refused n) z; state = refl; begins-last = tt }
      go (some a) (accepted x) z = record { same = one (accepted x) z; state = refl; begins-last = tt }
      go (some a) (answered x r) z = next (ahead top a r r.answer)
        where
          next : (w : Ahead) → Played s (onwards top machine (machine s (step t)).0 f t a x r w)
          next (end y) = record { same = one (answered x r) z; state = refl; begins-last = tt }
          next (part op n) = record { same = ap (λ (e : Event). (step t, e) ∷ (begin t op, (machine (machine s (step t)).0 (begin t op)).1) ∷ []) z; state = refl; begins-last = refl }
  played s f (act (drop t)) = record { same = refl; state = refl; begins-last = tt }
  played s f (add t k d r) = go (machine s (begin t (read k))).1 refl
    where
      go : (e : Event) → (machine s (begin t (read k))).1 ≡ e → Played s (add_begins top machine s (machine s (begin t (read k))).0 f t k d r e)
      go (refused n) z = record { same = ap (λ (e : Event). (begin t (read k), e) ∷ []) z; state = refl; begins-last = refl }
      go (answered x o) z = record { same = ap (λ (e : Event). (begin t (read k), e) ∷ []) z; state = refl; begins-last = refl }
      go (accepted x) z = test (tries_ok r)
        where
          test : (c : Bool) → Played s (cond c (handled top machine (machine s (begin t (read k))).0 (upd f t (some (fresh_add d r))) ((begin t (read k), accepted x) ∷ []) (plain (accepted x))) (handled top machine s f [] (plain (refused 23))))
          test true = record { same = ap (λ (e : Event). (begin t (read k), e) ∷ []) z; state = refl; begins-last = refl }
          test false = record { same = refl; state = refl; begins-last = tt }

  -- ALL REQUESTS

  abbrev pub requested : S → (ℕ → Option Add) → List Request → List (Request × Gave)
  requested s f l = history (with_adds top machine) (s, f) l

  -- the plain actions of a list of requests
  abbrev pub flat : S → (ℕ → Option Add) → List Request → List Action
  flat s f [] = []
  flat s f (q ∷ l) = let x = handles top machine s f q in actions_of x.gave.did ++ flat x.state x.adds l

  pub flat_history : (l : List Request) (s : S) (f : ℕ → Option Add) → joined (dids_of (requested s f l)) ≡ history machine s (flat s f l)
  flat_history [] s f = refl
  flat_history (q ∷ l) s f =
      let x = handles top machine s f q in
      let p = played s f q in
      sym (history_append machine s (actions_of x.gave.did) (flat x.state x.adds l)
      ∙ ap₂ (λ (a b : List (Action × Event)). a ++ b) p.same (ap (λ (s : S). history machine s (flat x.state x.adds l)) p.state ∙ sym (flat_history l x.state x.adds)))

  pub flat_run : (l : List Request) (s : S) (f : ℕ → Option Add) → (run (with_adds top machine) (s, f) l).0 ≡ run machine s (flat s f l)
  flat_run [] s f = refl
  flat_run (q ∷ l) s f =
      let x = handles top machine s f q in
      flat_run l x.state x.adds ∙ ap (λ (s : S). run machine s (flat x.state x.adds l)) (sym (played s f q).state) ∙ sym (run_append machine s (actions_of x.gave.did) (flat x.state x.adds l))

  pub begins-last : (l : List Request) (s : S) (f : ℕ → Option Add) → AllBeginsLast (dids_of (requested s f l))
  begins-last [] s f = tt
  begins-last (q ∷ l) s f = let x = handles top machine s f q in ((played s f q).begins-last, begins-last l x.state x.adds)
