-- Where the events show every call on a cell finished, so it is: of the plain calls and of the adds' parts.
use mathlib.Core.Path.{◌≡◌, refl, sym, ap, ◌∙◌, subst}
use mathlib.Core.Logic.{◌≢◌, ◌⊎◌, inl, inr}
use mathlib.Core.Bool.{Bool, true, false, cond}
use mathlib.Core.Option.{Option, none, some}
use mathlib.Core.List.{List, [], ◌∷◌}
use Prim.Native.Nat.{ℕ}
use Rattle.history_spec.specs.Basics.{upd, ◌∈◌}
use Rattle.history_spec.specs.History.{Op, read, cell_of, Action, begin, step, drop, Attempt, Report, Event, refused, accepted, answered, history, run, Call, WithdrawnCall, Calls, no_calls, called, advanced, also_withdrawn, enter, enter_all, IsBusy, Allowed, Complete}
use Rattle.history_spec.specs.Demand3.{Meets}
use Rattle.history_spec.proofs.Basics.{either, upd_same, upd_off, clash, mem_map, enter_append}
use Rattle.adds_spec.specs.declared.Add.{Add}
use Rattle.adds_spec.specs.Requests.{Request, act, add, plain, Gave, events_of, fresh_add, Ahead, part, end, ahead, tries_ok, Handled, handled, onwards, steps_on, add_begins, forgets, handles, with_adds, no_adds}
use Rattle.adds_spec.specs.Demand3.{dids_of}
use Rattle.adds_spec.specs.Adds.{AddCall, AddCalls, no_add_calls, reports_in, add_steps, add_called, also_withdrawn_add, enter_add, enter_adds, adds_of}
use Rattle.adds_spec.specs.Seen.{enter_plain, enter_plains, calls_seen, IsAdding, NoCall, SomeCall, AllowedSeen, WellFormedSeen, AllFinished}
use Rattle.adds_spec.proofs.Clock.{joined}
use Rattle.adds_spec.proofs.Reached.{Continues, allowed}
use Rattle.adds_spec.proofs.Adds.{within_true, part-cell, At, Inv, idle-plain, requested_next, none_weighs, invariant}
use Rattle.adds_spec.proofs.Seen.{without_parts, shown, Shows, shows-next, seen-shows}

-- a task: its add, the plain call that is seen, its call
abbrev Like : Option AddCall → Option Call → Option Call → Type 0
Like none none none = Unit {0}
Like none none (some e) = ⊥
Like none (some d) none = ⊥
Like none (some d) (some e) = d.start.op ≡ e.start.op
Like (some C) none p = Unit {0}
Like (some C) (some d) p = ⊥

-- a withdrawn call is seen, as itself or as its add
abbrev Gone : List AddCall → List WithdrawnCall → WithdrawnCall → Type 0
Gone L m w = ((v : WithdrawnCall) × (v ∈ m) × (v.call.start.op ≡ w.call.start.op)) ⊎ ((C : AddCall) × (C ∈ L) × (cell_of w.call.start.op ≡ C.start.cell))

record Seen (A : AddCalls) (c b : Calls) : Type 0 where
  tasks : (t : ℕ) → Like (A.pending t) (c.pending t) (b.pending t)
  gone : (w : WithdrawnCall) → w ∈ b.withdrawn → Gone A.withdrawn c.withdrawn w

-- only task t changed
like_all : (A A' : ℕ → Option AddCall) (c c' b b' : ℕ → Option Call) (t : ℕ) → ((u : ℕ) → u ≢ t → (A' u ≡ A u) × (c' u ≡ c u) × (b' u ≡ b u)) → ((u : ℕ) → Like (A u) (c u) (b u)) → Like (A' t) (c' t) (b' t) → (u : ℕ) → Like (A' u) (c' u) (b' u)
like_all A A' c c' b b' t off all here u = go (either u t)
  where
    go : (u ≡ t) ⊎ (u ≢ t) → Like (A' u) (c' u) (b' u)
    go (inl e) = rw e here
    go (inr e) = let o = off u e in rw (o.0, o.1, o.2) (all u)

none_seen : (c : Option Call) → Like none c none → c ≡ none
none_seen none h = refl
none_seen (some d) h = absurd h

of_add : (C : AddCall) (c p : Option Call) → Like (some C) c p → c ≡ none
of_add C none p h = refl
of_add C (some d) p h = absurd h

module _ {S : Type 0} (top : ℕ) (machine : S → Action → S × Event) (start : S) {Clear : List Action → ℕ → Type 0} {size : ℕ} {values : ℕ → ℕ} (meets : Meets machine start Clear size values) (continues : Continues machine start top) where
  abbrev I₀ : S → (ℕ → Option Add) → Calls → AddCalls → Type 0
  I₀ = Inv top (λ op. Unit {0}) (λ op a. 0) (λ op a. 0) (λ F. 0) machine start

  module _ (s : S) (f : ℕ → Option Add) (b : Calls) (A : AddCalls) (I : I₀ s f b A) (c : Calls) (K : Seen A c b) where
    abbrev Then : Request → Handled S → Type 0
    Then q x = Seen (enter_add A q x.gave.did x.gave.event) (enter_plain c q x.gave.event) (enter_all b x.gave.did)

    -- whose task is idle has no add, and is seen idle
    idle : (t : ℕ) → b.pending t ≡ none → (A.pending t ≡ none) × (c.pending t ≡ none)
    idle t e =
        let a = (idle-plain top (λ op. Unit {0}) (λ op a. 0) (λ op a. 0) (λ F. 0) machine start none_weighs meets continues s f b A I (f t) (A.pending t) (b.pending t) (I.tasks t) e).1 in
        (a, none_seen (c.pending t) (subst (λ (x : Option AddCall × Option Call). Like x.0 (c.pending t) x.1) (λ i. (a i, e i)) (K.tasks t)))

    module _ (t : ℕ) (s' : S) where
      begins : (op : Op) (e : Event) → Allowed size b (begin t op) e → Then (act (begin t op)) (handled top machine s' (forgets top machine f t e) ((begin t op, e) ∷ []) (plain e))
      begins op (refused n) al = record { tasks = K.tasks; gone = K.gone }
      begins op (answered x r) al = absurd al
      begins op (accepted x) al = record {
        tasks = like_all A.pending A.pending c.pending (upd c.pending t (some (called c t op))) b.pending (upd b.pending t (some (called b t op))) t
            (λ u n. (refl, upd_off c.pending t (some (called c t op)) u n, upd_off b.pending t (some (called b t op)) u n)) K.tasks
            (rw ((idle t al.0).0, upd_same c.pending t (some (called c t op)), upd_same b.pending t (some (called b t op))) refl);
        gone = K.gone;
      }

      adds : (k d n : ℕ) (e : Event) → Allowed size b (begin t (read k)) e → Then (add t k d n) (add_begins top machine s s' f t k d n e)
      adds k d n (refused z) al = record { tasks = K.tasks; gone = K.gone }
      adds k d n (answered x r) al = absurd al
      adds k d n (accepted x) al = test (tries_ok n)
        where
          test : (z : Bool) → Then (add t k d n) (cond z (handled top machine s' (upd f t (some (fresh_add d n))) ((begin t (read k), accepted x) ∷ []) (plain (accepted x))) (handled top machine s f [] (plain (refused 23))))
          test false = record { tasks = K.tasks; gone = K.gone }
          test true = record {
            tasks = like_all A.pending (upd A.pending t (some (add_called A t k d n))) c.pending c.pending b.pending (upd b.pending t (some (called b t (read k)))) t
                (λ u i. (upd_off A.pending t (some (add_called A t k d n)) u i, refl, upd_off b.pending t (some (called b t (read k))) u i)) K.tasks
                (rw (upd_same A.pending t (some (add_called A t k d n)), (idle t al.0).1) tt);
            gone = K.gone;
          }

      -- A STEP

      -- of a plain call
      plain_step : A.pending t ≡ none → (e : Event) → Allowed size b (step t) e → Then (act (step t)) (handled top machine s' f ((step t, e) ∷ []) (plain e))
      plain_step z (refused n) al = record { tasks = K.tasks; gone = K.gone }
      plain_step z (accepted x) al = record {
        tasks = like_all A.pending (upd A.pending t (add_steps x [] (A.pending t))) c.pending (upd c.pending t (advanced c x (c.pending t))) b.pending (upd b.pending t (advanced b x (b.pending t))) t
            (λ u i. (upd_off A.pending t (add_steps x [] (A.pending t)) u i, upd_off c.pending t (advanced c x (c.pending t)) u i, upd_off b.pending t (advanced b x (b.pending t)) u i)) K.tasks
            (rw (upd_same A.pending t (add_steps x [] (A.pending t)), z, upd_same c.pending t (advanced c x (c.pending t)), upd_same b.pending t (advanced b x (b.pending t)))
            (on (c.pending t) (b.pending t) (subst (λ (o : Option AddCall). Like o (c.pending t) (b.pending t)) z (K.tasks t))));
        gone = K.gone;
      }
        where
          on : (d p : Option Call) → Like none d p → Like none (advanced c x d) (advanced b x p)
          on none none h = tt
          on none (some e) h = absurd h
          on (some d) none h = absurd h
          on (some d) (some e) h = h
      plain_step z (answered x r) al = record {
        tasks = like_all A.pending A.pending c.pending (upd c.pending t none) b.pending (upd b.pending t none) t (λ u i. (refl, upd_off c.pending t none u i, upd_off b.pending t none u i)) K.tasks
            (rw (z, upd_same c.pending t none, upd_same b.pending t none) tt);
        gone = K.gone;
      }

      -- of a part of the add C
      module _ (C : AddCall) (its : A.pending t ≡ some C) where
        unseen : c.pending t ≡ none
        unseen = of_add C (c.pending t) (b.pending t) (subst (λ (o : Option AddCall). Like o (c.pending t) (b.pending t)) its (K.tasks t))

        -- the add goes on, and the call became p
        goes_on : (x : Attempt) (l : List Report) (p : ℕ → Option Call) → ((u : ℕ) → u ≢ t → p u ≡ b.pending u) → (u : ℕ) → Like (upd A.pending t (add_steps x l (A.pending t)) u) (upd c.pending t (advanced c x (c.pending t)) u) (p u)
        goes_on x l p off = like_all A.pending (upd A.pending t (add_steps x l (A.pending t))) c.pending (upd c.pending t (advanced c x (c.pending t))) b.pending p t
            (λ u i. (upd_off A.pending t (add_steps x l (A.pending t)) u i, upd_off c.pending t (advanced c x (c.pending t)) u i, off u i)) K.tasks
            (rw (upd_same A.pending t (add_steps x l (A.pending t)), its, upd_same c.pending t (advanced c x (c.pending t)), unseen) tt)

        -- a begin of task t changes no other task's call, and withdraws none
        begin_off : (d : Calls) (op : Op) (e : Event) → ((u : ℕ) → u ≢ t → (enter d (begin t op) e).pending u ≡ d.pending u) × ((enter d (begin t op) e).withdrawn ≡ d.withdrawn)
        begin_off d op (refused n) = (λ u i. refl, refl)
        begin_off d op (accepted x) = (λ u i. upd_off d.pending t (some (called d t op)) u i, refl)
        begin_off d op (answered x r) = (λ u i. refl, refl)

        turns : (a : Add) (x : Attempt) (r : Report) (w : Ahead) → Then (act (step t)) (onwards top machine s' f t a x r w)
        turns a x r (part op n) =
            let e = (machine s' (begin t op)).1 in
            let d = enter b (step t) (answered x r) in
            let o = begin_off d op e in
            record {
              tasks = goes_on x (reports_in ((step t, answered x r) ∷ (begin t op, e) ∷ [])) (enter d (begin t op) e).pending (λ u i. o.0 u i ∙ upd_off b.pending t none u i);
              gone = λ w i. K.gone w (subst (λ (l : List WithdrawnCall). w ∈ l) o.1 i);
            }
        turns a x r (end z) = record {
          tasks = like_all A.pending (upd A.pending t none) c.pending c.pending b.pending (upd b.pending t none) t (λ u i. (upd_off A.pending t none u i, refl, upd_off b.pending t none u i)) K.tasks
              (rw (upd_same A.pending t none, unseen, upd_same b.pending t none) tt);
          gone = K.gone;
        }

      steps : (o : Option Add) (B : Option AddCall) (p : Option Call) → A.pending t ≡ B → b.pending t ≡ p → At top (λ op. Unit {0}) (λ op a. 0) (λ op a. 0) (λ F. 0) o B p → (e : Event) → Allowed size b (step t) e → Then (act (step t)) (steps_on top machine s' f t o e)
      steps none none p y z h e al = plain_step y e al
      steps none (some C) p y z h e al = absurd h
      steps (some a) none p y z h e al = absurd h
      steps (some a) (some C) none y z h e al = absurd h
      steps (some a) (some C) (some d) y z h (refused n) al = absurd (clash al z)
      steps (some a) (some C) (some d) y z h (accepted x) al = record { tasks = goes_on C y x [] (upd b.pending t (advanced b x (b.pending t))) (λ u i. upd_off b.pending t (advanced b x (b.pending t)) u i); gone = K.gone }
      steps (some a) (some C) (some d) y z h (answered x r) al = turns C y a x r (ahead top a r r.answer)

      -- A DROP
      drops : (e : Event) → Allowed size b (drop t) e → Then (act (drop t)) (handled top machine s' (forgets top machine f t e) ((drop t, e) ∷ []) (plain e))
      drops (refused n) al = record { tasks = K.tasks; gone = K.gone }
      drops (answered x r) al = absurd al
      drops (accepted x) al = record {
        tasks = like_all A.pending (upd A.pending t none) c.pending (upd c.pending t none) b.pending (upd b.pending t none) t (λ u i. (upd_off A.pending t none u i, upd_off c.pending t none u i, upd_off b.pending t none u i)) K.tasks
            (rw (upd_same A.pending t none, upd_same c.pending t none, upd_same b.pending t none) tt);
        gone = λ w i. also (f t) (A.pending t) (c.pending t) (b.pending t) (I.tasks t) (K.tasks t) w i;
      }
        where
          -- as before, with more withdrawn
          later : (o : Option AddCall) (d : Option Call) (w : WithdrawnCall) → Gone A.withdrawn c.withdrawn w → Gone (also_withdrawn_add o A.withdrawn) (also_withdrawn d c.now c.withdrawn) w
          later none none w g = g
          later none (some d) w (inl (v, i, e)) = inl (v, inr i, e)
          later none (some d) w (inr g) = inr g
          later (some C) none w (inl g) = inl g
          later (some C) none w (inr (D, i, e)) = inr (D, inr i, e)
          later (some C) (some d) w (inl (v, i, e)) = inl (v, inr i, e)
          later (some C) (some d) w (inr (D, i, e)) = inr (D, inr i, e)

          also : (o : Option Add) (B : Option AddCall) (d p : Option Call) → At top (λ op. Unit {0}) (λ op a. 0) (λ op a. 0) (λ F. 0) o B p → Like B d p → (w : WithdrawnCall) → w ∈ also_withdrawn p b.now b.withdrawn → Gone (also_withdrawn_add B A.withdrawn) (also_withdrawn d c.now c.withdrawn) w
          also o B d none h k w i = later B d w (K.gone w i)
          also o B d (some e) h k w (inr i) = later B d w (K.gone w i)
          also o none none (some e) h k w (inl q) = absurd k
          also o none (some d) (some e) h k w (inl q) = inl (record { call = d; end = c.now }, inl refl, k ∙ ap (λ (w : WithdrawnCall). w.call.start.op) (sym q))
          also none (some C) d (some e) h k w (inl q) = absurd h
          also (some a) (some C) d (some e) h k w (inl q) = inr (C, inl refl, ap (λ (w : WithdrawnCall). cell_of w.call.start.op) q ∙ part-cell a C.start.cell C.start.amount e.start.op h.its)

    seen_next : (q : Request) → Then q (handles top machine s f q)
    seen_next (act (begin t op)) = begins t (machine s (begin t op)).0 op (machine s (begin t op)).1 (allowed machine start meets I.reached (begin t op))
    seen_next (act (step t)) = steps t (machine s (step t)).0 (f t) (A.pending t) (b.pending t) refl refl (I.tasks t) (machine s (step t)).1 (allowed machine start meets I.reached (step t))
    seen_next (act (drop t)) = drops t (machine s (drop t)).0 (machine s (drop t)).1 (allowed machine start meets I.reached (drop t))
    seen_next (add t k d n) = adds t (machine s (begin t (read k))).0 k d n (machine s (begin t (read k))).1 (allowed machine start meets I.reached (begin t (read k)))

    -- ITS EVENTS

    module _ (B : AddCalls) (shows : Shows A B) where
      no_call : (t : ℕ) → b.pending t ≡ none → NoCall c B t
      no_call t e = let i = idle t e in (i.1, shows.pending t ∙ ap shown i.0)

      adding : (t : ℕ) (C : AddCall) → A.pending t ≡ some C → IsAdding (B.pending t)
      adding t C e = subst IsAdding (sym (shows.pending t ∙ ap shown e)) tt

      plain-busy : (d p : Option Call) → Like none d p → IsBusy p → IsBusy d
      plain-busy (some d) p h i = tt
      plain-busy none none h i = absurd i
      plain-busy none (some e) h i = absurd h

      some-call : (t : ℕ) → IsBusy (b.pending t) → SomeCall c B t
      some-call t i = go (A.pending t) refl
        where
          go : (o : Option AddCall) → A.pending t ≡ o → SomeCall c B t
          go none e = inl (plain-busy (c.pending t) (b.pending t) (subst (λ (o : Option AddCall). Like o (c.pending t) (b.pending t)) e (K.tasks t)) i)
          go (some C) e = inr (adding t C e)

      abbrev May : Request → Handled S → Type 0
      May q x = AllowedSeen size c B q x.gave.event

      module _ (t : ℕ) (s' : S) where
        may_begin : (op : Op) (e : Event) → Allowed size b (begin t op) e → May (act (begin t op)) (handled top machine s' (forgets top machine f t e) ((begin t op, e) ∷ []) (plain e))
        may_begin op (refused n) al = tt
        may_begin op (accepted x) al = (no_call t al.0, al.1, al.2)
        may_begin op (answered x r) al = al

        may_drop : (e : Event) → Allowed size b (drop t) e → May (act (drop t)) (handled top machine s' (forgets top machine f t e) ((drop t, e) ∷ []) (plain e))
        may_drop (refused n) al = no_call t al
        may_drop (accepted x) al = (some-call t al.0, al.1)
        may_drop (answered x r) al = al

        may_add : (k d n : ℕ) (e : Event) → Allowed size b (begin t (read k)) e → May (add t k d n) (add_begins top machine s s' f t k d n e)
        may_add k d n (refused z) al = tt
        may_add k d n (answered x r) al = al
        may_add k d n (accepted x) al = test (tries_ok n) refl
          where
            test : (z : Bool) → tries_ok n ≡ z → May (add t k d n) (cond z (handled top machine s' (upd f t (some (fresh_add d n))) ((begin t (read k), accepted x) ∷ []) (plain (accepted x))) (handled top machine s f [] (plain (refused 23))))
            test false z = tt
            test true z = let w = within_true n 1 8 z in (no_call t al.0, al.1, w.0, w.1, al.2)

        may_step : (o : Option Add) (D : Option AddCall) (p : Option Call) → A.pending t ≡ D → b.pending t ≡ p → At top (λ op. Unit {0}) (λ op a. 0) (λ op a. 0) (λ F. 0) o D p → (e : Event) → Allowed size b (step t) e → May (act (step t)) (steps_on top machine s' f t o e)
        may_step none none p y z h (refused n) al = no_call t al
        may_step none none p y z h (accepted x) al = some-call t al
        may_step none none p y z h (answered x r) al = plain-busy (c.pending t) (b.pending t) (subst (λ (o : Option AddCall). Like o (c.pending t) (b.pending t)) y (K.tasks t)) al
        may_step none (some C) p y z h e al = absurd h
        may_step (some a) none p y z h e al = absurd h
        may_step (some a) (some C) none y z h e al = absurd h
        may_step (some a) (some C) (some d) y z h (refused n) al = absurd (clash al z)
        may_step (some a) (some C) (some d) y z h (accepted x) al = some-call t al
        may_step (some a) (some C) (some d) y z h (answered x r) al = next (ahead top a r r.answer)
          where
            next : (w : Ahead) → May (act (step t)) (onwards top machine s' f t a x r w)
            next (part op n) = inr (adding t C y)
            next (end v) = adding t C y

      may : (q : Request) → May q (handles top machine s f q)
      may (act (begin t op)) = may_begin t (machine s (begin t op)).0 op (machine s (begin t op)).1 (allowed machine start meets I.reached (begin t op))
      may (act (step t)) = may_step t (machine s (step t)).0 (f t) (A.pending t) (b.pending t) refl refl (I.tasks t) (machine s (step t)).1 (allowed machine start meets I.reached (step t))
      may (act (drop t)) = may_drop t (machine s (drop t)).0 (machine s (drop t)).1 (allowed machine start meets I.reached (drop t))
      may (add t k d n) = may_add t (machine s (begin t (read k))).0 k d n (machine s (begin t (read k))).1 (allowed machine start meets I.reached (begin t (read k)))

  may_all : (l : List Request) (s : S) (f : ℕ → Option Add) (b : Calls) (A : AddCalls) → I₀ s f b A → (c : Calls) → Seen A c b → (B : AddCalls) → Shows A B → WellFormedSeen size c B (events_of (history (with_adds top machine) (s, f) l))
  may_all [] s f b A I c K B H = tt
  may_all (q ∷ l) s f b A I c K B H =
      let x = handles top machine s f q in
      let J = requested_next top (λ op. Unit {0}) (λ op a. 0) (λ op a. 0) (λ F. 0) machine start none_weighs meets continues s f b A I q (λ t op y e z. tt) in
      let A' = enter_add A q x.gave.did x.gave.event in
      let B' = enter_add B q [] x.gave.event in
      (may s f b A I c K B H q, may_all l x.state x.adds (enter_all b x.gave.did) A' J (enter_plain c q x.gave.event) (seen_next s f b A I c K q) B' (shows-next A B H q x.gave.did x.gave.event))

  -- The events of every list of requests are well_formed.
  pub well_formed_seen : (l : List Request) → WellFormedSeen size no_calls no_add_calls (events_of (history (with_adds top machine) (start, no_adds) l))
  well_formed_seen l = may_all l start no_adds no_calls no_add_calls (invariant top machine start meets continues []) no_calls (record { tasks = λ t. tt; gone = λ w i. absurd i }) no_add_calls (seen-shows [])

  seen_all : (l : List Request) (s : S) (f : ℕ → Option Add) (b : Calls) (A : AddCalls) → I₀ s f b A → (c : Calls) → Seen A c b →
      let h = history (with_adds top machine) (s, f) l in Seen (enter_adds A h) (enter_plains c (events_of h)) (enter_all b (joined (dids_of h)))
  seen_all [] s f b A I c K = K
  seen_all (q ∷ l) s f b A I c K =
      let x = handles top machine s f q in
      let J = requested_next top (λ op. Unit {0}) (λ op a. 0) (λ op a. 0) (λ F. 0) machine start none_weighs meets continues s f b A I q (λ t op y e z. tt) in
      let h = history (with_adds top machine) (x.state, x.adds) l in
      let c' = enter_plain c q x.gave.event in
      let A' = enter_add A q x.gave.did x.gave.event in
      subst (λ (d : Calls). Seen (enter_adds A' h) (enter_plains c' (events_of h)) d) (sym (enter_append b x.gave.did (joined (dids_of h)))) (seen_all l x.state x.adds (enter_all b x.gave.did) A' J c' (seen_next s f b A I c K q))

  module _ (l : List Request) where
    abbrev h : List (Request × Gave)
    h = history (with_adds top machine) (start, no_adds) l

    seen : Seen (adds_of h) (calls_seen (events_of h)) (enter_all no_calls (joined (dids_of h)))
    seen = seen_all l start no_adds no_calls no_add_calls (invariant top machine start meets continues []) no_calls (record { tasks = λ t. tt; gone = λ w i. absurd i })

    pub complete_seen : (cell : ℕ) → AllFinished (events_of (history (with_adds top machine) (start, no_adds) l)) cell → Complete (enter_all no_calls (joined (dids_of (history (with_adds top machine) (start, no_adds) l)))) cell
    complete_seen cell F = record {
      none_pending = λ t c e.
          let o = (run (with_adds top machine) (start, no_adds) l).1 t in
          let B = (adds_of h).pending t in
          let d = (calls_seen (events_of h)).pending t in
          pending t o B d refl refl c (subst (At top (λ op. Unit {0}) (λ op a. 0) (λ op a. 0) (λ F. 0) o B) e ((invariant top machine start meets continues l).tasks t)) (subst (Like B d) e (seen.tasks t));
      none_withdrawn = λ w i. gone w (seen.gone w i);
    }
      where
        pending : (t : ℕ) (o : Option Add) (B : Option AddCall) (d : Option Call) → (adds_of h).pending t ≡ B → (calls_seen (events_of h)).pending t ≡ d → (c : Call) → At top (λ op. Unit {0}) (λ op a. 0) (λ op a. 0) (λ F. 0) o B (some c) → Like B d (some c) → cell_of c.start.op ≢ cell
        pending t o none none y z c h k = absurd k
        pending t o none (some d) y z c h k = λ e. F.calls.none_pending t d z (ap cell_of k ∙ e)
        pending t none (some C) d y z c h k = absurd h
        pending t (some a) (some C) d y z c i k = λ e. F.none_pending t (without_parts C) ((seen-shows h).pending t ∙ ap shown y) (sym (part-cell a C.start.cell C.start.amount c.start.op i.its) ∙ e)

        gone : (w : WithdrawnCall) → Gone (adds_of h).withdrawn (calls_seen (events_of h)).withdrawn w → cell_of w.call.start.op ≢ cell
        gone w (inl (v, i, e)) = λ q. F.calls.none_withdrawn v i (ap cell_of e ∙ q)
        gone w (inr (C, i, e)) = λ q. F.none_withdrawn (without_parts C) (subst (λ (l : List AddCall). without_parts C ∈ l) (sym (seen-shows h).withdrawn) (mem_map without_parts (adds_of h).withdrawn C i)) (sym e ∙ q)
