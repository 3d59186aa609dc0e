-- The parts of an add are finished calls of its task on its cell.
use mathlib.Core.Path.{◌≡◌, refl, sym, ap, ◌∙◌, subst}
use mathlib.Core.Logic.{inl, inr}
use mathlib.Core.Bool.{Bool, true, false, cond}
use mathlib.Core.Option.{Option, none, some}
use mathlib.Core.List.{List, [], ◌∷◌}
use Prim.Native.Nat.{ℕ}
use Rattle.history_spec.specs.Basics.{upd, ◌∈◌}
use Rattle.history_spec.specs.History.{Op, read, cell_of, Action, begin, step, drop, Attempt, Report, Event, refused, accepted, answered, history, Call, FinishedCall, Calls, no_calls, called, advance, advanced, closed, enter, enter_all, Allowed}
use Rattle.history_spec.specs.Demand3.{Meets}
use Rattle.history_spec.proofs.Basics.{upd-cases, clash, some_inj, mem_map, enter_append}
use Rattle.adds_spec.specs.declared.Add.{Add}
use Rattle.adds_spec.specs.Requests.{Request, act, add, AddReport, plain, fresh_add, add_report_of, Ahead, part, end, ahead, tries_ok, Handled, handled, onwards, steps_on, add_begins, forgets, handles, with_adds, no_adds}
use Rattle.adds_spec.specs.Demand3.{dids_of, enter_dids}
use Rattle.adds_spec.specs.Adds.{AddCall, FinishedAdd, AddCalls, no_add_calls, reports_in, add_step, add_steps, add_ends, adds_moved, adds_passed, add_called, also_withdrawn_add, enter_add, enter_adds, adds_of, PartsAreCalls, AllPartsAreCalls}
use Rattle.adds_spec.proofs.Images.{finished_at}
use Rattle.adds_spec.proofs.Clock.{joined, clock_of}
use Rattle.adds_spec.proofs.Meets.{retelling}
use Rattle.adds_spec.proofs.Reached.{Continues, reached-next, allowed}
use Rattle.adds_spec.proofs.Adds.{part-cell, At, Inv, requested_next, none_weighs, invariant}

-- with whose they are
record Made (A : AddCalls) (b : Calls) : Type 0 where
  calls : AllPartsAreCalls b A
  add-task : (t : ℕ) (C : AddCall) → A.pending t ≡ some C → C.start.task ≡ t
  call-task : (t : ℕ) (c : Call) → b.pending t ≡ some c → c.start.task ≡ t

-- where more calls are finished
still : (b b' : Calls) (C : AddCall) → ((f : FinishedCall) → f ∈ b.finished → f ∈ b'.finished) → PartsAreCalls b C → PartsAreCalls b' C
still b b' C more h r i = let q = h r i in (q.0, more q.0 q.1, q.2, q.3, q.4)

-- what holds of a task's, after a change
kept : {X : Type 0} (P : ℕ → X → Type 0) (p : ℕ → Option X) (t : ℕ) (o : Option X) → ((u : ℕ) (x : X) → p u ≡ some x → P u x) → ((x : X) → o ≡ some x → P t x) → (u : ℕ) (x : X) → upd p t o u ≡ some x → P u x
kept P p t o all here u = upd-cases (λ (o : Option _). (x : _) → o ≡ some x → P u x) p t o u (λ e. rw e here) (λ e. all u)

module _ {S : Type 0} (top : ℕ) (machine : S → Action → S × Event) (start : S) {Clear : List Action → ℕ → Type 0} {size : ℕ} {values : ℕ → ℕ} (meets : Meets machine start Clear size values) (continues : Continues machine start top) where
  abbrev I₀ : S → (ℕ → Option Add) → Calls → AddCalls → Type 0
  I₀ = Inv top (λ op. Unit {0}) (λ op a. 0) (λ op a. 0) (λ F. 0) machine start

  module _ (s : S) (f : ℕ → Option Add) (b : Calls) (A : AddCalls) (I : I₀ s f b A) (M : Made A b) where
    abbrev Then : Request → Handled S → Type 0
    Then q x = Made (enter_add A q x.gave.did x.gave.event) (enter_all b x.gave.did)

    -- the adds as they were, where more calls are finished
    more-calls : (b' : Calls) → ((f : FinishedCall) → f ∈ b.finished → f ∈ b'.finished) → AllPartsAreCalls b' A
    more-calls b' more = record {
      ended = λ F i. still b b' F.call more (M.calls.ended F i);
      unended = λ t C e. still b b' C more (M.calls.unended t C e);
      withdrawn = λ C i. still b b' C more (M.calls.withdrawn C i);
    }

    -- no add moved
    passes : (b' : Calls) → ((f : FinishedCall) → f ∈ b.finished → f ∈ b'.finished) → ((t : ℕ) (c : Call) → b'.pending t ≡ some c → c.start.task ≡ t) → Made (adds_passed A) b'
    passes b' more tasks = let n = more-calls b' more in record { calls = record { ended = n.ended; unended = n.unended; withdrawn = n.withdrawn }; add-task = M.add-task; call-task = tasks }

    module _ (t : ℕ) (s' : S) where
      -- task t's call is p
      tasks-with : (d : Calls) → ((u : ℕ) (c : Call) → d.pending u ≡ some c → c.start.task ≡ u) → (p : Option Call) → ((c : Call) → p ≡ some c → c.start.task ≡ t) → (u : ℕ) (c : Call) → upd d.pending t p u ≡ some c → c.start.task ≡ u
      tasks-with d all p here = kept (λ (u : ℕ) (c : Call). c.start.task ≡ u) d.pending t p all here

      begun : (d : Calls) (op : Op) (c : Call) → ◌≡◌ {A = Option Call} (some (called d t op)) (some c) → c.start.task ≡ t
      begun d op c e = ap (λ (c : Call). c.start.task) (some_inj {o = some c} refl (sym e))

      nobody : (c : Call) → ◌≡◌ {A = Option Call} none (some c) → c.start.task ≡ t
      nobody c e = absurd (clash refl e)

      begins : (op : Op) (e : Event) → Allowed size b (begin t op) e → Then (act (begin t op)) (handled top machine s' (forgets top machine f t e) ((begin t op, e) ∷ []) (plain e))
      begins op (refused n) al = passes _ (λ f i. i) M.call-task
      begins op (answered x r) al = absurd al
      begins op (accepted x) al = passes (enter b (begin t op) (accepted x)) (λ f i. i) (tasks-with b M.call-task (some (called b t op)) (begun b op))

      adds : (k d n : ℕ) (e : Event) → Allowed size b (begin t (read k)) e → Then (add t k d n) (add_begins top machine s s' f t k d n e)
      adds k d n (refused z) al = passes (enter b (begin t (read k)) (refused z)) (λ f i. i) M.call-task
      adds k d n (answered x r) al = absurd al
      adds k d n (accepted x) al = test (tries_ok n)
        where
          C : AddCall
          C = add_called A t k d n

          b' : Calls
          b' = enter b (begin t (read k)) (accepted x)

          test : (z : Bool) → Then (add t k d n) (cond z (handled top machine s' (upd f t (some (fresh_add d n))) ((begin t (read k), accepted x) ∷ []) (plain (accepted x))) (handled top machine s f [] (plain (refused 23))))
          test false = passes b (λ f i. i) M.call-task
          test true = record {
            calls = record {
              ended = (more-calls b' (λ f i. i)).ended;
              unended = kept (λ (u : ℕ) (C : AddCall). PartsAreCalls b' C) A.pending t (some C) (more-calls b' (λ f i. i)).unended (λ D e. subst (PartsAreCalls b') (some_inj {o = some C} refl e) (λ r i. absurd i));
              withdrawn = (more-calls b' (λ f i. i)).withdrawn;
            };
            add-task = kept (λ (u : ℕ) (C : AddCall). C.start.task ≡ u) A.pending t (some C) M.add-task (λ D e. ap (λ (C : AddCall). C.start.task) (some_inj {o = some D} refl (sym e)));
            call-task = tasks-with b M.call-task (some (called b t (read k))) (begun b (read k));
          }

      -- A STEP

      on_call : (x : Attempt) (p : Option Call) → b.pending t ≡ p → (c : Call) → advanced b x p ≡ some c → c.start.task ≡ t
      on_call x none e c q = absurd (clash refl q)
      on_call x (some d) e c q = ap (λ (c : Call). c.start.task) (some_inj {o = some c} refl (sym q)) ∙ M.call-task t d e

      -- task t's add took a step, in which the parts l ended
      on_add : (b' : Calls) (x : Attempt) (l : List Report) → ((f : FinishedCall) → f ∈ b.finished → f ∈ b'.finished) → ((C : AddCall) → A.pending t ≡ some C → PartsAreCalls b' (add_step x l C)) →
          ((u : ℕ) (C : AddCall) → upd A.pending t (add_steps x l (A.pending t)) u ≡ some C → PartsAreCalls b' C × (C.start.task ≡ u))
      on_add b' x l more its = kept (λ (u : ℕ) (C : AddCall). PartsAreCalls b' C × (C.start.task ≡ u)) A.pending t (add_steps x l (A.pending t)) (λ u C e. ((more-calls b' more).unended u C e, M.add-task u C e)) (λ C e. go (A.pending t) refl C e)
        where
          go : (o : Option AddCall) → A.pending t ≡ o → (C : AddCall) → add_steps x l o ≡ some C → PartsAreCalls b' C × (C.start.task ≡ t)
          go none e C q = absurd (clash refl q)
          go (some D) e C q = subst (λ (C : AddCall). PartsAreCalls b' C × (C.start.task ≡ t)) (some_inj {o = some (add_step x l D)} refl q) (its D e, M.add-task t D e)

      -- the add goes on, and the calls are b'
      goes_on : (b' : Calls) (x : Attempt) (l : List Report) → ((f : FinishedCall) → f ∈ b.finished → f ∈ b'.finished) → ((C : AddCall) → A.pending t ≡ some C → PartsAreCalls b' (add_step x l C)) → ((u : ℕ) (c : Call) → b'.pending u ≡ some c → c.start.task ≡ u) →
          Made (adds_moved A (upd A.pending t (add_steps x l (A.pending t))) A.finished) b'
      goes_on b' x l more its tasks = let n = more-calls b' more in let m = on_add b' x l more its in record {
        calls = record { ended = n.ended; unended = λ u C e. (m u C e).0; withdrawn = n.withdrawn };
        add-task = λ u C e. (m u C e).1;
        call-task = tasks;
      }

      accepts : (x : Attempt) → Made (adds_moved A (upd A.pending t (add_steps x [] (A.pending t))) A.finished) (enter b (step t) (accepted x))
      accepts x = goes_on (enter b (step t) (accepted x)) x [] (λ f i. i) (λ C e. still b (enter b (step t) (accepted x)) C (λ f i. i) (M.calls.unended t C e)) (tasks-with b M.call-task (advanced b x (b.pending t)) (on_call x (b.pending t) refl))

      closes : (x : Attempt) (r : Report) (p : Option Call) (g : FinishedCall) → g ∈ b.finished → g ∈ closed (advanced b x p) r b.finished
      closes x r none g i = i
      closes x r (some c) g i = inr i

      idle_then : (u : ℕ) (c : Call) → upd b.pending t none u ≡ some c → c.start.task ≡ u
      idle_then = tasks-with b M.call-task none nobody

      -- a part ended, with the report r
      module _ (a : Add) (C : AddCall) (c : Call) (its : A.pending t ≡ some C) (busy : b.pending t ≡ some c) (cell : cell_of c.start.op ≡ C.start.cell) (x : Attempt) (r : Report) where
        abbrev d : Calls
        d = enter b (step t) (answered x r)

        more : (g : FinishedCall) → g ∈ b.finished → g ∈ d.finished
        more = closes x r (b.pending t)

        -- it is the call that ended
        with_it : PartsAreCalls d (add_step x (r ∷ []) C)
        with_it o (inl e) = (record { call = advance b x c; report = r }, rw busy (inl refl), sym e, M.call-task t c busy ∙ sym (M.add-task t C its), cell)
        with_it o (inr i) = still b d C more (M.calls.unended t C its) o i

        as_its : (D : AddCall) → A.pending t ≡ some D → PartsAreCalls d (add_step x (r ∷ []) D)
        as_its D e = subst (λ (C : AddCall). PartsAreCalls d (add_step x (r ∷ []) C)) (some_inj {o = A.pending t} its e) with_it

        next : (op : Op) (n : Add) (e : Event) → Allowed size d (begin t op) e → Made (adds_moved A (upd A.pending t (add_steps x (reports_in ((step t, answered x r) ∷ (begin t op, e) ∷ [])) (A.pending t))) A.finished) (enter d (begin t op) e)
        next op n (refused z) al = goes_on (enter d (begin t op) (refused z)) x (r ∷ []) more (λ D e. still d (enter d (begin t op) (refused z)) (add_step x (r ∷ []) D) (λ f i. i) (as_its D e)) idle_then
        next op n (accepted y) al = goes_on (enter d (begin t op) (accepted y)) x (r ∷ []) more (λ D e. still d (enter d (begin t op) (accepted y)) (add_step x (r ∷ []) D) (λ f i. i) (as_its D e)) (tasks-with d idle_then (some (called d t op)) (begun d op))
        next op n (answered y o) al = absurd al

        turns : ((op : Op) → Allowed size d (begin t op) (machine s' (begin t op)).1) → (w : Ahead) → Then (act (step t)) (onwards top machine s' f t a x r w)
        turns al (part op n) = next op n (machine s' (begin t op)).1 (al op)
        turns al (end z) = record {
          calls = record {
            ended = λ F i. among (add_report_of a r z) F (subst (λ (l : List FinishedAdd). F ∈ l) (ap (λ (o : Option AddCall). add_ends (add_steps x (r ∷ []) o) (add_report_of a r z) A.finished) its) i);
            unended = kept (λ (u : ℕ) (C : AddCall). PartsAreCalls d C) A.pending t none (more-calls d more).unended (λ C e. absurd (clash refl e));
            withdrawn = (more-calls d more).withdrawn;
          };
          add-task = kept (λ (u : ℕ) (C : AddCall). C.start.task ≡ u) A.pending t none M.add-task (λ C e. absurd (clash refl e));
          call-task = idle_then;
        }
          where
            among : (o : AddReport) (F : FinishedAdd) → F ∈ (record { call = add_step x (r ∷ []) C; report = o } ∷ A.finished) → PartsAreCalls d F.call
            among o F (inl e) = subst (λ (F : FinishedAdd). PartsAreCalls d F.call) (sym e) with_it
            among o F (inr i) = (more-calls d more).ended F i

      steps : (o : Option Add) (B : Option AddCall) (p : Option Call) → A.pending t ≡ B → b.pending t ≡ p → At top (λ op. Unit {0}) (λ op a. 0) (λ op a. 0) (λ F. 0) o B p → (e : Event) → Allowed size b (step t) e →
          ((x : Attempt) (r : Report) → e ≡ answered x r → (op : Op) → Allowed size (enter b (step t) (answered x r)) (begin t op) (machine s' (begin t op)).1) → Then (act (step t)) (steps_on top machine s' f t o e)
      steps none B p y z h (refused n) al next = passes (enter b (step t) (refused n)) (λ f i. i) M.call-task
      steps none B p y z h (accepted x) al next = accepts x
      steps none B p y z h (answered x r) al next = passes (enter b (step t) (answered x r)) (closes x r (b.pending t)) idle_then
      steps (some a) none p y z h e al next = absurd h
      steps (some a) (some C) none y z h e al next = absurd h
      steps (some a) (some C) (some c) y z h (refused n) al next = absurd (clash al z)
      steps (some a) (some C) (some c) y z h (accepted x) al next = accepts x
      steps (some a) (some C) (some c) y z h (answered x r) al next = turns a C c y z (part-cell a C.start.cell C.start.amount c.start.op h.its) x r (next x r refl) (ahead top a r r.answer)

      -- A DROP
      drops : (e : Event) → Allowed size b (drop t) e → Then (act (drop t)) (handled top machine s' (forgets top machine f t e) ((drop t, e) ∷ []) (plain e))
      drops (refused n) al = passes (enter b (drop t) (refused n)) (λ f i. i) M.call-task
      drops (answered x r) al = absurd al
      drops (accepted x) al = record {
        calls = record {
          ended = n.ended;
          unended = kept (λ (u : ℕ) (C : AddCall). PartsAreCalls (enter b (drop t) (accepted x)) C) A.pending t none n.unended (λ C e. absurd (clash refl e));
          withdrawn = λ C i. also (A.pending t) refl C i;
        };
        add-task = kept (λ (u : ℕ) (C : AddCall). C.start.task ≡ u) A.pending t none M.add-task (λ C e. absurd (clash refl e));
        call-task = idle_then;
      }
        where
          n : AllPartsAreCalls (enter b (drop t) (accepted x)) A
          n = more-calls (enter b (drop t) (accepted x)) (λ f i. i)

          also : (o : Option AddCall) → A.pending t ≡ o → (C : AddCall) → C ∈ also_withdrawn_add o A.withdrawn → PartsAreCalls (enter b (drop t) (accepted x)) C
          also none e C i = n.withdrawn C i
          also (some D) e C (inl q) = subst (PartsAreCalls (enter b (drop t) (accepted x))) (sym q) (n.unended t D e)
          also (some D) e C (inr i) = n.withdrawn C i

    made_next : (q : Request) → Then q (handles top machine s f q)
    made_next (act (begin t op)) = begins t (machine s (begin t op)).0 op (machine s (begin t op)).1 (allowed machine start meets I.reached (begin t op))
    made_next (act (step t)) = steps t (machine s (step t)).0 (f t) (A.pending t) (b.pending t) refl refl (I.tasks t) (machine s (step t)).1 (allowed machine start meets I.reached (step t))
        (λ x r e op. subst (λ (e : Event). Allowed size (enter b (step t) e) (begin t op) (machine (machine s (step t)).0 (begin t op)).1) e (allowed machine start meets (reached-next machine start I.reached (step t)) (begin t op)))
    made_next (act (drop t)) = drops t (machine s (drop t)).0 (machine s (drop t)).1 (allowed machine start meets I.reached (drop t))
    made_next (add t k d n) = adds t (machine s (begin t (read k))).0 k d n (machine s (begin t (read k))).1 (allowed machine start meets I.reached (begin t (read k)))

  made_all : (l : List Request) (s : S) (f : ℕ → Option Add) (b : Calls) (A : AddCalls) → I₀ s f b A → Made A b → let h = history (with_adds top machine) (s, f) l in Made (enter_adds A h) (enter_all b (joined (dids_of h)))
  made_all [] s f b A I M = M
  made_all (q ∷ l) s f b A I M =
      let x = handles top machine s f q in
      let J = requested_next top (λ op. Unit {0}) (λ op a. 0) (λ op a. 0) (λ F. 0) machine start none_weighs meets continues s f b A I q (λ t op y e z. tt) in
      let h = history (with_adds top machine) (x.state, x.adds) l in
      let A' = enter_add A q x.gave.did x.gave.event in
      subst (Made (enter_adds A' h)) (sym (enter_append b x.gave.did (joined (dids_of h)))) (made_all l x.state x.adds (enter_all b x.gave.did) A' J (made_next s f b A I M q))

  -- Every part of an add is a finished call of its task on its cell, at its requests' moments.
  pub parts_are_calls : (l : List Request) → let h = history (with_adds top machine) (start, no_adds) l in AllPartsAreCalls (enter_dids no_calls (dids_of h)) (adds_of h)
  parts_are_calls l = record { ended = λ F i. at_clock F.call (M.calls.ended F i); unended = λ t C e. at_clock C (M.calls.unended t C e); withdrawn = λ C i. at_clock C (M.calls.withdrawn C i) }
    where
      M : Made (adds_of (history (with_adds top machine) (start, no_adds) l)) (enter_all no_calls (joined (dids_of (history (with_adds top machine) (start, no_adds) l))))
      M = made_all l start no_adds no_calls no_add_calls (invariant top machine start meets continues [])
          (record { calls = record { ended = λ F i. absurd i; unended = λ t C e. absurd (clash refl e); withdrawn = λ C i. absurd i }; add-task = λ t C e. absurd (clash refl e); call-task = λ t c e. absurd (clash refl e) })

      at_clock : (C : AddCall) → PartsAreCalls (enter_all no_calls (joined (dids_of (history (with_adds top machine) (start, no_adds) l)))) C → PartsAreCalls (enter_dids no_calls (dids_of (history (with_adds top machine) (start, no_adds) l))) C
      at_clock C p r i =
          let q = p r i in
          let dids = dids_of (history (with_adds top machine) (start, no_adds) l) in
          let g = finished_at (clock_of dids) q.0 in
          (g, subst (λ (fs : List FinishedCall). g ∈ fs) (sym (retelling top machine start Clear size values meets l).image.finished) (mem_map (finished_at (clock_of dids)) (enter_all no_calls (joined dids)).finished q.0 q.1), q.2, q.3, q.4)
