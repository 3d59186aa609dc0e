-- Every add keeps to its bounds and says what it did, and what its parts bring is what it says: one induction over the requests.
use mathlib.Core.Path.{◌≡◌, refl, sym, ap, ◌∙◌, subst}
use mathlib.Core.Logic.{◌≢◌, ◌⊎◌, inl, inr}
use mathlib.Core.Bool.{Bool, true, false, cond, ◌&&◌, and-eq-true_iff}
use mathlib.Core.Option.{Option, none, some}
use mathlib.Core.List.{List, [], ◌∷◌}
use Prim.Native.Nat.{ℕ, suc, ◌+◌, ◌*◌, ◌≤◌, ◌<◌}
use native.Mathlib.Omega.{arith}
use lib.Dec.{leb}
use borrow.Author.Tests.{ltb-true, ltb-false, leb-true}
use Rattle.history_spec.specs.Basics.{upd, ◌∈◌}
use Rattle.history_spec.specs.History.{Op, read, swap, cell_of, Action, begin, step, drop, Response, Value, Yes, No, Attempt, untried, Report, Event, refused, accepted, answered, history, run, Call, attempts, FinishedCall, Calls, no_calls, called, advance, advanced, closed, enter, enter_all, Allowed}
use Rattle.history_spec.specs.Demand3.{most, most_hard, Reports, Meets}
use Rattle.history_spec.proofs.Basics.{either, upd_same, upd_off, clash, some_inj, enter_append}
use Rattle.history_linearization.proofs.Order.{total}
use Rattle.adds_spec.specs.Requests.{Request, act, add, AddAnswer, AmountAdded, Over, Spent, plain, Gave, fresh_add, with_part, add_report_of, part, end, sum_below, try_left, ahead, tries_ok, Handled, handled, onwards, steps_on, add_begins, forgets, handles, with_adds, no_adds}
use Rattle.adds_spec.specs.declared.Add.{Add}
use Rattle.adds_spec.specs.Demand3.{dids_of}
use Rattle.adds_spec.specs.Adds.{adds_of, AddCall, FinishedAdd, AddCalls, no_add_calls, add_step, add_steps, add_ends, also_withdrawn_add, enter_add, enter_adds, sum_of, no_of, noes, last_answer, GoesOnAfter, AllGoOn, NextPart, RightAnswer, RightAdd, RightSoFar, RightAdds, more_steps, more_attempts, UnderWay}
use Rattle.adds_spec.proofs.Images.{call_at, pending_at}
use Rattle.adds_spec.proofs.Clock.{joined, clock_of}
use Rattle.adds_spec.proofs.Meets.{retelling}
use Rattle.adds_spec.proofs.Reached.{Suits, Below, Reached, Continues, reached-start, reached-next, allowed, bounds, suits}

pub within_true : (n a b : ℕ) → (leb a n && leb n b) ≡ true → (a ≤ n) × (n ≤ b)
within_true n a b e = let q = (and-eq-true_iff (leb a n) (leb n b)).0 e in (leb-true a n q.0, leb-true n b q.1)

-- a part that is under way, with what the add did before it
pub data Part (a : Add) (cell amount : ℕ) : Op → Type 0 where
  reading : a.steps ≤ 27 * a.failed → a.won + a.lost ≤ 4 * a.failed → Part a cell amount (read cell)
  swapping : (v : ℕ) → a.steps ≤ 27 * a.failed + 6 → a.won + a.lost ≤ 4 * a.failed + 1 → Part a cell amount (swap cell v (v + amount))

-- task's add a, as a call C, with its part c under way
pub record Runs (top : ℕ) (a : Add) (C : AddCall) (c : Call) : Type 0 where
  pub tries : C.start.tries ≡ a.tries
  pub amount : C.start.amount ≡ a.amount
  pub failed : noes C.parts ≡ a.failed
  pub some-tries : 1 ≤ a.tries
  pub few-tries : a.tries ≤ 8
  pub fewer : a.failed < a.tries
  pub steps : C.steps ≡ a.steps + c.steps
  pub won : C.won ≡ a.won + c.won
  pub lost : C.lost ≡ a.lost + c.lost
  pub its : Part a C.start.cell C.start.amount c.start.op
  pub comes : NextPart top C.start.cell C.start.amount (last_answer C.parts) c.start.op
  pub went_on : AllGoOn top C.start.amount C.parts
  pub part-steps : a.steps ≡ sum_of (λ (r : Report). r.steps) C.parts
  pub part-won : a.won ≡ sum_of (λ (r : Report). r.won) C.parts
  pub part-lost : a.lost ≡ sum_of (λ (r : Report). r.lost) C.parts

-- it is on the add's cell
pub part-cell : (a : Add) (cell amount : ℕ) (op : Op) → Part a cell amount op → cell_of op ≡ cell
part-cell a cell amount op (reading h i) = refl
part-cell a cell amount op (swapping v h i) = refl

pub part_limits : (a : Add) (cell amount : ℕ) (op : Op) → Part a cell amount op → (a.steps ≤ 27 * a.failed + more_steps op) × (a.won + a.lost ≤ 4 * a.failed + more_attempts op)
part_limits a cell amount op (reading h i) = (omega arith, omega arith)
part_limits a cell amount op (swapping v h i) = (omega arith, omega arith)

part-bounds : (a : Add) (cell amount : ℕ) (op : Op) → Part a cell amount op → (most op + a.steps ≤ 27 * suc a.failed) × (most_hard op + (a.won + a.lost) ≤ 4 * suc a.failed)
part-bounds a cell amount op (reading h i) = (omega arith, omega arith)
part-bounds a cell amount op (swapping v h i) = (omega arith, omega arith)

so_far : (top : ℕ) (a : Add) (C : AddCall) (c : Call) → Runs top a C c → (c.steps < most c.start.op) × (attempts c ≤ most_hard c.start.op) → RightSoFar top C
so_far top a C c h w = let p = part-bounds a C.start.cell C.start.amount c.start.op h.its in record {
  few = record {
    few-steps = omega (arith, p.0, w.0, h.steps, h.tries, h.fewer);
    few-attempts = omega (arith, p.1, w.1, h.won, h.lost, h.tries, h.fewer);
  };
  fewer-noes = omega (arith, h.failed, h.tries, h.fewer);
  went_on = h.went_on;
}

-- what an add answers, by its last part

only_added : (top d tries : ℕ) (l : List Report) → last_answer l ≡ some Yes → noes l < tries → RightAnswer top d tries l AmountAdded
only_added top d tries l e f = record {
  added = (λ z. e, λ z. refl);
  over = (λ z. absurd (let g : ◌≡◌ {A = ℕ} 0 1 = cc in omega arith), λ (v, z, i). absurd (let g : ◌≡◌ {A = ℕ} 0 1 = cc in omega arith));
  spent = (λ z. absurd (let g : ◌≡◌ {A = ℕ} 0 1 = cc in omega arith), λ z. absurd (omega (arith, f, z)));
}

only_over : (top d tries v : ℕ) (l : List Report) → last_answer l ≡ some (Value v) → top ≤ v + d → noes l < tries → RightAnswer top d tries l Over
only_over top d tries v l e m f = record {
  added = (λ z. absurd (let g : ◌≡◌ {A = ℕ} 0 1 = cc in omega arith), λ z. absurd (let g : ◌≡◌ {A = ℕ} 0 1 = cc in omega arith));
  over = (λ z. (v, e, m), λ z. refl);
  spent = (λ z. absurd (let g : ◌≡◌ {A = ℕ} 0 1 = cc in omega arith), λ z. absurd (omega (arith, f, z)));
}

only_spent : (top d tries : ℕ) (l : List Report) → last_answer l ≡ some No → noes l ≡ tries → RightAnswer top d tries l Spent
only_spent top d tries l e f = record {
  added = (λ z. absurd (let g : ◌≡◌ {A = ℕ} 0 1 = cc in omega arith), λ z. absurd (let g : ◌≡◌ {A = ℕ} 0 1 = cc in omega arith));
  over = (λ z. absurd (let g : ◌≡◌ {A = ℕ} 0 1 = cc in omega arith), λ (v, z, i). absurd (let g : ◌≡◌ {A = ℕ} 0 1 = cc in omega arith));
  spent = (λ z. f, λ z. refl);
}

-- of plain calls, of which P holds, and of parts: what they put and take, and what an add brings
module _ (P : Op → Type 0) (up down : Op → Response → ℕ) (gain : FinishedAdd → ℕ) where
  pub record Weights : Type 0 where
    pub plain-even : (op : Op) (a : Response) → P op → up op a ≡ down op a
    pub read-even : (k v : ℕ) → up (read k) (Value v) ≡ down (read k) (Value v)
    pub no_even : (k e n : ℕ) → up (swap k e n) No ≡ down (swap k e n) No
    pub yes_gain : (v : ℕ) (F : FinishedAdd) → F.report.answer ≡ AmountAdded → up (swap F.call.start.cell v (v + F.call.start.amount)) Yes ≡ down (swap F.call.start.cell v (v + F.call.start.amount)) Yes + gain F
    pub no_gain : (F : FinishedAdd) → F.report.answer ≢ AmountAdded → gain F ≡ 0

module _ (top : ℕ) (P : Op → Type 0) (up down : Op → Response → ℕ) (gain : FinishedAdd → ℕ) where
  -- a task: its add, the add as a call, its pending call
  abbrev pub At : Option Add → Option AddCall → Option Call → Type 0
  At none none o = (c : Call) → o ≡ some c → P c.start.op
  At none (some C) o = ⊥
  At (some a) none o = ⊥
  At (some a) (some C) none = ⊥
  At (some a) (some C) (some c) = Runs top a C c

  abbrev pub Tasks : (ℕ → Option Add) → (ℕ → Option AddCall) → (ℕ → Option Call) → Type 0
  Tasks f A p = (t : ℕ) → At (f t) (A t) (p t)

  -- only task t changed
  at_all : (f f' : ℕ → Option Add) (A A' : ℕ → Option AddCall) (p p' : ℕ → Option Call) (t : ℕ) → ((u : ℕ) → u ≢ t → (f' u ≡ f u) × (A' u ≡ A u) × (p' u ≡ p u)) → Tasks f A p → At (f' t) (A' t) (p' t) → Tasks f' A' p'
  at_all f f' A A' p p' t off all here u = go (either u t)
    where
      go : (u ≡ t) ⊎ (u ≢ t) → At (f' u) (A' u) (p' u)
      go (inl e) = rw e here
      go (inr e) = let o = off u e in rw (o.0, o.1, o.2) (all u)

  abbrev up_of : FinishedCall → ℕ
  up_of f = up f.call.start.op f.report.answer

  abbrev down_of : FinishedCall → ℕ
  down_of f = down f.call.start.op f.report.answer

  module _ {S : Type 0} (machine : S → Action → S × Event) (start : S) where
    pub record Inv (s : S) (f : ℕ → Option Add) (b : Calls) (A : AddCalls) : Type 0 where
      pub reached : Reached machine start s b
      pub tasks : Tasks f A.pending b.pending
      pub ended : (F : FinishedAdd) → F ∈ A.finished → RightAdd top F
      pub left : (C : AddCall) → C ∈ A.withdrawn → RightSoFar top C
      pub sum : total up_of b.finished ≡ total down_of b.finished + total gain A.finished

    module _ (W : Weights P up down gain) {Clear : List Action → ℕ → Type 0} {size : ℕ} {values : ℕ → ℕ} (meets : Meets machine start Clear size values) (continues : Continues machine start top) (s : S) (f : ℕ → Option Add) (b : Calls) (A : AddCalls) (I : Inv s f b A) where
      -- what a request leaves
      abbrev After : Request → Handled S → Type 0
      After q x = Inv x.state x.adds (enter_all b x.gave.did) (enter_add A q x.gave.did x.gave.event)

      -- who is idle has no add
      pub idle-plain : (o : Option Add) (C : Option AddCall) (p : Option Call) → At o C p → p ≡ none → (o ≡ none) × (C ≡ none)
      idle-plain none none p h e = (refl, refl)
      idle-plain none (some C) p h e = absurd h
      idle-plain (some a) none p h e = absurd h
      idle-plain (some a) (some C) none h e = absurd h
      idle-plain (some a) (some C) (some c) h e = absurd (clash e refl)

      -- A BEGIN of task t, which gave e and led to s'
      module _ (t : ℕ) (op : Op) (s' : S) where
        plain-begin : (e : Event) → Reached machine start s' (enter b (begin t op) e) → Allowed size b (begin t op) e → ((x : Attempt) → e ≡ accepted x → P op) → After (act (begin t op)) (handled top machine s' (forgets top machine f t e) ((begin t op, e) ∷ []) (plain e))
        plain-begin (refused n) r al p = record { reached = r; tasks = I.tasks; ended = I.ended; left = I.left; sum = I.sum }
        plain-begin (answered x o) r al p = absurd al
        plain-begin (accepted x) r al p = record {
          reached = r;
          tasks = at_all f (upd f t none) A.pending A.pending b.pending (upd b.pending t (some (called b t op))) t (λ u n. (upd_off f t none u n, refl, upd_off b.pending t (some (called b t op)) u n)) I.tasks
              (let i = idle-plain (f t) (A.pending t) (b.pending t) (I.tasks t) al.0 in
              rw (upd_same f t none, i.1, upd_same b.pending t (some (called b t op))) (λ c e. subst (λ (c : Call). P c.start.op) (some_inj refl e) (p x refl)));
          ended = I.ended;
          left = I.left;
          sum = I.sum;
        }

      -- THE BEGIN OF AN ADD
      module _ (t k d n : ℕ) (s' : S) where
        add_begin : (e : Event) → Reached machine start s' (enter b (begin t (read k)) e) → Allowed size b (begin t (read k)) e → After (add t k d n) (add_begins top machine s s' f t k d n e)
        add_begin (refused z) r al = record { reached = r; tasks = I.tasks; ended = I.ended; left = I.left; sum = I.sum }
        add_begin (answered x o) r al = absurd al
        add_begin (accepted x) r al = test (tries_ok n) refl
          where
            C : AddCall
            C = record { start = record { at = A.now; task = t; cell = k; amount = d; tries = n }; steps = 0; won = 0; lost = 0; parts = [] }

            test : (c : Bool) → tries_ok n ≡ c → After (add t k d n) (cond c (handled top machine s' (upd f t (some (fresh_add d n))) ((begin t (read k), accepted x) ∷ []) (plain (accepted x))) (handled top machine s f [] (plain (refused 23))))
            test false z = record { reached = I.reached; tasks = I.tasks; ended = I.ended; left = I.left; sum = I.sum }
            test true z = record {
              reached = r;
              tasks = at_all f (upd f t (some (fresh_add d n))) A.pending (upd A.pending t (some C)) b.pending (upd b.pending t (some (called b t (read k)))) t
                  (λ u i. (upd_off f t (some (fresh_add d n)) u i, upd_off A.pending t (some C) u i, upd_off b.pending t (some (called b t (read k))) u i)) I.tasks
                  (rw (upd_same f t (some (fresh_add d n)), upd_same A.pending t (some C), upd_same b.pending t (some (called b t (read k)))) (record {
                    tries = refl;
                    amount = refl;
                    failed = refl;
                    some-tries = within.0;
                    few-tries = within.1;
                    fewer = within.0;
                    steps = refl;
                    won = refl;
                    lost = refl;
                    its = reading (omega arith) (omega arith);
                    comes = refl;
                    went_on = λ r i. absurd i;
                    part-steps = refl;
                    part-won = refl;
                    part-lost = refl;
                  }));
              ended = I.ended;
              left = I.left;
              sum = I.sum;
            }
              where
                within : (1 ≤ n) × (n ≤ 8)
                within = within_true n 1 8 z

      -- A STEP of task t, which gave e and led to s'
      module _ (t : ℕ) (s' : S) where
        -- of a plain call
        module _ (no_add_lem : f t ≡ none) (no_call : A.pending t ≡ none) (well : (c : Call) → b.pending t ≡ some c → P c.start.op) where
          plain_step : (e : Event) → Reached machine start s' (enter b (step t) e) → Allowed size b (step t) e → After (act (step t)) (handled top machine s' f ((step t, e) ∷ []) (plain e))
          plain_step (refused n) r al = record { reached = r; tasks = I.tasks; ended = I.ended; left = I.left; sum = I.sum }
          plain_step (accepted x) r al = record {
            reached = r;
            tasks = at_all f f A.pending (upd A.pending t (add_steps x [] (A.pending t))) b.pending (upd b.pending t (advanced b x (b.pending t))) t
                (λ u i. (refl, upd_off A.pending t (add_steps x [] (A.pending t)) u i, upd_off b.pending t (advanced b x (b.pending t)) u i)) I.tasks
                (rw (no_add_lem, upd_same A.pending t (add_steps x [] (A.pending t)), no_call, upd_same b.pending t (advanced b x (b.pending t))) (on (b.pending t) well));
            ended = I.ended;
            left = I.left;
            sum = I.sum;
          }
            where
              on : (p : Option Call) → ((c : Call) → p ≡ some c → P c.start.op) → (c : Call) → advanced b x p ≡ some c → P c.start.op
              on none h c e = absurd (clash refl e)
              on (some d) h c e = subst (λ (c : Call). P c.start.op) (some_inj {o = advanced b x (some d)} refl e) (h d refl)
          plain_step (answered x o) r al = record {
            reached = r;
            tasks = at_all f f A.pending A.pending b.pending (upd b.pending t none) t (λ u i. (refl, refl, upd_off b.pending t none u i)) I.tasks
                (rw (no_add_lem, no_call, upd_same b.pending t none) (λ c e. absurd (clash refl e)));
            ended = I.ended;
            left = I.left;
            sum = on (b.pending t) well;
          }
            where
              on : (p : Option Call) → ((c : Call) → p ≡ some c → P c.start.op) → total up_of (closed (advanced b x p) o b.finished) ≡ total down_of (closed (advanced b x p) o b.finished) + total gain A.finished
              on none h = I.sum
              on (some c) h = omega (arith, I.sum, W.plain-even c.start.op o.answer (h c refl))

        -- of a part c of the add a
        module _ (a : Add) (C : AddCall) (c : Call) (its-add : f t ≡ some a) (its-call : A.pending t ≡ some C) (busy : b.pending t ≡ some c) (R : Runs top a C c) where
          part_step : (x : Attempt) → Reached machine start s' (enter b (step t) (accepted x)) → After (act (step t)) (handled top machine s' f ((step t, accepted x) ∷ []) (plain (accepted x)))
          part_step x r = record {
            reached = r;
            tasks = at_all f f A.pending (upd A.pending t (add_steps x [] (A.pending t))) b.pending (upd b.pending t (advanced b x (b.pending t))) t
                (λ u i. (refl, upd_off A.pending t (add_steps x [] (A.pending t)) u i, upd_off b.pending t (advanced b x (b.pending t)) u i)) I.tasks
                (rw (its-add, upd_same A.pending t (add_steps x [] (A.pending t)), its-call, upd_same b.pending t (advanced b x (b.pending t)), busy) (record {
                  tries = R.tries;
                  amount = R.amount;
                  failed = omega (arith, R.failed);
                  some-tries = R.some-tries;
                  few-tries = R.few-tries;
                  fewer = R.fewer;
                  steps = omega (arith, R.steps);
                  won = omega (arith, R.won);
                  lost = omega (arith, R.lost);
                  its = R.its;
                  comes = R.comes;
                  went_on = R.went_on;
                  part-steps = R.part-steps;
                  part-won = R.part-won;
                  part-lost = R.part-lost;
                }));
            ended = I.ended;
            left = I.left;
            sum = I.sum;
          }

          -- the part ends, with the report r
          module _ (x : Attempt) (r : Report) (reached₁ : Reached machine start s' (enter b (step t) (answered x r))) where
            abbrev b₁ : Calls
            b₁ = enter b (step t) (answered x r)

            abbrev F₁ : FinishedCall
            F₁ = record { call = advance b x c; report = r }

            abbrev C₁ : AddCall
            C₁ = add_step x (r ∷ []) C

            closes : b₁.finished ≡ F₁ ∷ b.finished
            closes = ap (λ (p : Option Call). closed (advanced b x p) r b.finished) busy

            there : F₁ ∈ b₁.finished
            there = rw closes (inl refl)

            -- another part begins
            goes_on : (op' : Op) (a' : Add) → (machine s' (begin t op')).1 ≡ accepted untried → Runs top a' C₁ (called b₁ t op') → up_of F₁ ≡ down_of F₁ → After (act (step t)) (onwards top machine s' f t a x r (part op' a'))
            goes_on op' a' z runs even = subst (λ (e : Event). After (act (step t)) (handled top machine (machine s' (begin t op')).0 (upd f t (some a')) ((step t, answered x r) ∷ (begin t op', e) ∷ []) (plain (accepted x)))) (sym z) (record {
              reached = subst (λ (e : Event). Reached machine start (machine s' (begin t op')).0 (enter b₁ (begin t op') e)) z (reached-next machine start reached₁ (begin t op'));
              tasks = at_all f (upd f t (some a')) A.pending (upd A.pending t (add_steps x (r ∷ []) (A.pending t))) b.pending (upd (upd b.pending t none) t (some (called b₁ t op'))) t
                  (λ u i. (upd_off f t (some a') u i, upd_off A.pending t (add_steps x (r ∷ []) (A.pending t)) u i, upd_off (upd b.pending t none) t (some (called b₁ t op')) u i ∙ upd_off b.pending t none u i)) I.tasks
                  (rw (upd_same f t (some a'), upd_same A.pending t (add_steps x (r ∷ []) (A.pending t)), its-call, upd_same (upd b.pending t none) t (some (called b₁ t op'))) runs);
              ended = I.ended;
              left = I.left;
              sum = rw closes (omega (arith, I.sum, even));
            })

            -- the add ends
            abbrev Fz : AddAnswer → FinishedAdd
            Fz z = record { call = C₁; report = add_report_of a r z }

            finishes : (z : AddAnswer) → RightAdd top (Fz z) → up_of F₁ ≡ down_of F₁ + gain (Fz z) → After (act (step t)) (onwards top machine s' f t a x r (end z))
            finishes z right even = record {
              reached = reached₁;
              tasks = at_all f (upd f t none) A.pending (upd A.pending t none) b.pending (upd b.pending t none) t (λ u i. (upd_off f t none u i, upd_off A.pending t none u i, upd_off b.pending t none u i)) I.tasks
                  (rw (upd_same f t none, upd_same A.pending t none, upd_same b.pending t none) (λ c e. absurd (clash refl e)));
              ended = λ F i. among F (subst (λ (l : List FinishedAdd). F ∈ l) list i);
              left = I.left;
              sum = rw (closes, list) (omega (arith, I.sum, even));
            }
              where
                list : add_ends (add_steps x (r ∷ []) (A.pending t)) (add_report_of a r z) A.finished ≡ Fz z ∷ A.finished
                list = ap (λ (p : Option AddCall). add_ends (add_steps x (r ∷ []) p) (add_report_of a r z) A.finished) its-call

                among : (F : FinishedAdd) → (F ≡ Fz z) ⊎ (F ∈ A.finished) → RightAdd top F
                among F (inl e) = rw e right
                among F (inr i) = I.ended F i

            -- what is known of the part that ended
            reports : Reports (advance b x c) r
            reports = (bounds machine start meets reached₁).reported F₁ there

            few : (suc c.steps ≤ most c.start.op) × (attempts (advance b x c) ≤ most_hard c.start.op)
            few = (bounds machine start meets reached₁).ended F₁ there

            answers : Suits c.start.op r.answer
            answers = suits machine start meets reached₁ F₁ there

            module _ (more : (op' : Op) → cell_of op' ≡ r.cell → Below top op' → (machine s' (begin t op')).1 ≡ accepted untried) where
              -- of a part of the operation op that answered y
              module _ (op : Op) (q : c.start.op ≡ op) (y : Response) (e : r.answer ≡ y) where
                at-cell : r.cell ≡ cell_of op
                at-cell = reports.cell ∙ ap cell_of q

                few-steps : r.steps ≤ most op
                few-steps = subst (λ (o : Op). r.steps ≤ most o) q (omega (arith, reports.steps, few.0))

                few-attempts : r.won + r.lost ≤ most_hard op
                few-attempts = subst (λ (o : Op). r.won + r.lost ≤ most_hard o) q (omega (arith, reports.won, reports.lost, few.1))

                noes_are : no_of r.answer ≡ no_of y
                noes_are = ap no_of e

                -- the next part op', n more swaps having answered no
                next : (n : ℕ) → no_of y ≡ n → a.failed + n < a.tries → (op' : Op) → Part (with_part a r n) C.start.cell C.start.amount op' → NextPart top C.start.cell C.start.amount (some y) op' → GoesOnAfter top C.start.amount y → Runs top (with_part a r n) C₁ (called b₁ t op')
                next n z l op' p comes on = record {
                  tries = R.tries;
                  amount = R.amount;
                  failed = omega (arith, R.failed, noes_are, z);
                  some-tries = R.some-tries;
                  few-tries = R.few-tries;
                  fewer = l;
                  steps = omega (arith, R.steps, reports.steps);
                  won = omega (arith, R.won, reports.won);
                  lost = omega (arith, R.lost, reports.lost);
                  its = p;
                  comes = subst (λ (y : Response). NextPart top C.start.cell C.start.amount (some y) op') (sym e) comes;
                  went_on = went_on;
                  part-steps = omega (arith, R.part-steps);
                  part-won = omega (arith, R.part-won);
                  part-lost = omega (arith, R.part-lost);
                }
                  where
                    went_on : AllGoOn top C.start.amount (r ∷ C.parts)
                    went_on o (inl w) = subst (GoesOnAfter top C.start.amount) (sym (ap (λ (r : Report). r.answer) w ∙ e)) on
                    went_on o (inr i) = R.went_on o i

                last : (z : AddAnswer) → cell_of op ≡ C.start.cell → a.steps + r.steps ≤ 27 * a.tries → (a.won + r.won) + (a.lost + r.lost) ≤ 4 * a.tries → a.failed + no_of y ≤ a.tries →
                    RightAnswer top C.start.amount C.start.tries (r ∷ C.parts) z → RightAdd top (Fz z)
                last z k long hard fewer answer = record {
                  counted = record {
                    cell = at-cell ∙ k;
                    steps = omega (arith, R.steps, reports.steps);
                    won = omega (arith, R.won, reports.won);
                    lost = omega (arith, R.lost, reports.lost);
                    tries = (omega (arith, R.tries, R.some-tries), omega (arith, R.tries, R.few-tries));
                    few-steps = omega (arith, R.tries, R.steps, reports.steps);
                    few-attempts = omega (arith, R.tries, R.won, R.lost, reports.won, reports.lost);
                  };
                  steps = omega (arith, R.part-steps);
                  won = omega (arith, R.part-won);
                  lost = omega (arith, R.part-lost);
                  went_on = R.went_on;
                  few-noes = omega (arith, fewer, R.failed, R.tries, noes_are);
                  answer = answer;
                }

                noes-now : noes (r ∷ C.parts) ≡ a.failed + no_of y
                noes-now = omega (arith, R.failed, noes_are)

                up_is : up_of F₁ ≡ up op y
                up_is = rw (q, e)

                down_is : down_of F₁ ≡ down op y
                down_is = rw (q, e)

              turns : (op : Op) → c.start.op ≡ op → Part a C.start.cell C.start.amount op → (y : Response) → r.answer ≡ y → Suits op y → After (act (step t)) (onwards top machine s' f t a x r (ahead top a r y))
              turns op q (reading h i) (Value v) e u = test (sum_below top a v) refl
                where
                  k : r.cell ≡ C.start.cell
                  k = at-cell (read C.start.cell) q (Value v) e

                  even : up_of F₁ ≡ down_of F₁
                  even = up_is (read C.start.cell) q (Value v) e ∙ W.read-even C.start.cell v ∙ sym (down_is (read C.start.cell) q (Value v) e)

                  m : r.steps ≤ 6
                  m = few-steps (read C.start.cell) q (Value v) e

                  n : r.won + r.lost ≤ 1
                  n = few-attempts (read C.start.cell) q (Value v) e

                  test : (z : Bool) → sum_below top a v ≡ z → After (act (step t)) (onwards top machine s' f t a x r (cond z (part (swap r.cell v (v + a.amount)) (with_part a r 0)) (end Over)))
                  test true z =
                      let l = ltb-true _ _ z in
                      goes_on (swap r.cell v (v + a.amount)) (with_part a r 0) (more (swap r.cell v (v + a.amount)) refl (omega arith, l))
                      (next (read C.start.cell) q (Value v) e 0 refl (omega (arith, R.fewer)) (swap r.cell v (v + a.amount))
                      (subst (λ (o : Op). Part (with_part a r 0) C.start.cell C.start.amount o) (λ j. swap (sym k j) v (v + R.amount j)) (swapping v (omega (arith, h, m)) (omega (arith, i, n))))
                      ((λ j. swap (k j) v (v + sym R.amount j)), omega (arith, l, R.amount)) (omega (arith, l, R.amount))) even
                  test false z =
                      let l : top ≤ v + a.amount = ltb-false _ _ z in
                      finishes Over (last (read C.start.cell) q (Value v) e Over refl (omega (arith, h, m, R.fewer)) (omega (arith, i, n, R.fewer)) (omega (arith, R.fewer))
                      (only_over top C.start.amount C.start.tries v (r ∷ C.parts) (ap some e) (omega (arith, l, R.amount)) (omega (arith, noes-now (read C.start.cell) q (Value v) e, R.fewer, R.tries))))
                      (even ∙ omega (arith, W.no_gain (Fz Over) (λ w. let g : ◌≡◌ {A = ℕ} 0 1 = cc in omega arith)))
              turns op q (reading h i) Yes e u = absurd u
              turns op q (reading h i) No e u = absurd u
              turns op q (swapping v h i) (Value w) e u = absurd u
              turns op q (swapping v h i) Yes e u =
                  let o = swap C.start.cell v (v + C.start.amount) in
                  let m = few-steps o q Yes e in
                  let n = few-attempts o q Yes e in
                  finishes AmountAdded (last o q Yes e AmountAdded refl (omega (arith, h, m, R.fewer)) (omega (arith, i, n, R.fewer)) (omega (arith, R.fewer))
                  (only_added top C.start.amount C.start.tries (r ∷ C.parts) (ap some e) (omega (arith, noes-now o q Yes e, R.fewer, R.tries))))
                  (up_is o q Yes e ∙ W.yes_gain v (Fz AmountAdded) refl ∙ ap (λ (n : ℕ). n + gain (Fz AmountAdded)) (sym (down_is o q Yes e)))
              turns op q (swapping v h i) No e u = test (try_left a) refl
                where
                  o : Op
                  o = swap C.start.cell v (v + C.start.amount)

                  k : r.cell ≡ C.start.cell
                  k = at-cell o q No e

                  even : up_of F₁ ≡ down_of F₁
                  even = up_is o q No e ∙ W.no_even C.start.cell v (v + C.start.amount) ∙ sym (down_is o q No e)

                  m : r.steps ≤ 21
                  m = few-steps o q No e

                  n : r.won + r.lost ≤ 3
                  n = few-attempts o q No e

                  test : (z : Bool) → try_left a ≡ z → After (act (step t)) (onwards top machine s' f t a x r (cond z (part (read r.cell) (with_part a r 1)) (end Spent)))
                  test true z =
                      let l : suc a.failed < a.tries = ltb-true _ _ z in
                      goes_on (read r.cell) (with_part a r 1) (more (read r.cell) refl tt)
                      (next o q No e 1 refl (omega (arith, l)) (read r.cell)
                      (subst (λ (o : Op). Part (with_part a r 1) C.start.cell C.start.amount o) (ap read (sym k)) (reading (omega (arith, h, m)) (omega (arith, i, n)))) (ap read k) tt) even
                  test false z =
                      let l : a.tries ≤ suc a.failed = ltb-false _ _ z in
                      finishes Spent (last o q No e Spent refl (omega (arith, h, m, R.fewer)) (omega (arith, i, n, R.fewer)) (omega (arith, R.fewer))
                      (only_spent top C.start.amount C.start.tries (r ∷ C.parts) (ap some e) (omega (arith, noes-now o q No e, l, R.fewer, R.tries))))
                      (even ∙ omega (arith, W.no_gain (Fz Spent) (λ w. let g : ◌≡◌ {A = ℕ} 0 1 = cc in omega arith)))

        -- any step
        steps : (o : Option Add) (B : Option AddCall) (p : Option Call) → f t ≡ o → A.pending t ≡ B → b.pending t ≡ p → At o B p → (e : Event) → Reached machine start s' (enter b (step t) e) → Allowed size b (step t) e →
            ((x : Attempt) (r : Report) (op : Op) → e ≡ answered x r → cell_of op ≡ r.cell → Below top op → (machine s' (begin t op)).1 ≡ accepted untried) → After (act (step t)) (steps_on top machine s' f t o e)
        steps none none p x y z h e r al more = plain_step x y (λ c w. h c (sym z ∙ w)) e r al
        steps none (some C) p x y z h e r al more = absurd h
        steps (some a) none p x y z h e r al more = absurd h
        steps (some a) (some C) none x y z h e r al more = absurd h
        steps (some a) (some C) (some c) x y z h (refused n) r al more = absurd (clash al z)
        steps (some a) (some C) (some c) x y z h (accepted w) r al more = part_step a C c x y z h w r
        steps (some a) (some C) (some c) x y z h (answered w o) r al more = turns a C c x y z h w o r (λ op q l. more w o op refl q l) c.start.op refl h.its o.answer refl (answers a C c x y z h w o r)

      -- A DROP of task t
      module _ (t : ℕ) (s' : S) where
        drops : (e : Event) → Reached machine start s' (enter b (drop t) e) → Allowed size b (drop t) e → After (act (drop t)) (handled top machine s' (forgets top machine f t e) ((drop t, e) ∷ []) (plain e))
        drops (refused n) r al = record { reached = r; tasks = I.tasks; ended = I.ended; left = I.left; sum = I.sum }
        drops (answered x o) r al = absurd al
        drops (accepted x) r al = record {
          reached = r;
          tasks = at_all f (upd f t none) A.pending (upd A.pending t none) b.pending (upd b.pending t none) t (λ u i. (upd_off f t none u i, upd_off A.pending t none u i, upd_off b.pending t none u i)) I.tasks
              (rw (upd_same f t none, upd_same A.pending t none, upd_same b.pending t none) (λ c e. absurd (clash refl e)));
          ended = I.ended;
          left = λ C i. with-its (f t) (A.pending t) (b.pending t) refl (I.tasks t) C i;
          sum = I.sum;
        }
          where
            with-its : (o : Option Add) (B : Option AddCall) (p : Option Call) → b.pending t ≡ p → At o B p → (C : AddCall) → C ∈ also_withdrawn_add B A.withdrawn → RightSoFar top C
            with-its o none p z h C i = I.left C i
            with-its none (some D) p z h C i = absurd h
            with-its (some a) (some D) none z h C i = absurd h
            with-its (some a) (some D) (some c) z h C (inl e) = rw e (so_far top a D c h ((bounds machine start meets I.reached).unended t c z))
            with-its (some a) (some D) (some c) z h C (inr i) = I.left C i

      -- ANY REQUEST

      pub requested_next : (q : Request) → ((t : ℕ) (op : Op) (x : Attempt) → q ≡ act (begin t op) → (machine s (begin t op)).1 ≡ accepted x → P op) → After q (handles top machine s f q)
      requested_next (act (begin t op)) p = plain-begin t op (machine s (begin t op)).0 (machine s (begin t op)).1 (reached-next machine start I.reached (begin t op)) (allowed machine start meets I.reached (begin t op)) (λ x e. p t op x refl e)
      requested_next (act (step t)) p =
          let r = I.reached in
          steps t (machine s (step t)).0 (f t) (A.pending t) (b.pending t) refl refl refl (I.tasks t) (machine s (step t)).1 (reached-next machine start r (step t)) (allowed machine start meets r (step t))
          (λ x o op e q l. subst (λ (s : S). (machine (machine s (step t)).0 (begin t op)).1 ≡ accepted untried) (sym r.state) (continues r.actions t x o op (subst (λ (s : S). (machine s (step t)).1 ≡ answered x o) r.state e) q l))
      requested_next (act (drop t)) p = drops t (machine s (drop t)).0 (machine s (drop t)).1 (reached-next machine start I.reached (drop t)) (allowed machine start meets I.reached (drop t))
      requested_next (add t k d n) p = add_begin t k d n (machine s (begin t (read k))).0 (machine s (begin t (read k))).1 (reached-next machine start I.reached (begin t (read k))) (allowed machine start meets I.reached (begin t (read k)))

    -- ALL REQUESTS

    -- P holds of every plain call that is begun
    abbrev pub PlainWell : List (Request × Gave) → Type 0
    PlainWell h = (t : ℕ) (op : Op) (g : Gave) (x : Attempt) → (act (begin t op), g) ∈ h → g.event ≡ plain (accepted x) → P op

    module _ (W : Weights P up down gain) {Clear : List Action → ℕ → Type 0} {size : ℕ} {values : ℕ → ℕ} (meets : Meets machine start Clear size values) (continues : Continues machine start top) where
      all : (l : List Request) (s : S) (f : ℕ → Option Add) (b : Calls) (A : AddCalls) → Inv s f b A → PlainWell (history (with_adds top machine) (s, f) l) →
          let h = history (with_adds top machine) (s, f) l in
          let x = run (with_adds top machine) (s, f) l in
          Inv x.0 x.1 (enter_all b (joined (dids_of h))) (enter_adds A h)
      all [] s f b A I p = I
      all (q ∷ l) s f b A I p =
          let x = handles top machine s f q in
          let J = requested_next W meets continues s f b A I q (λ t op y e z. p t op x.gave y (inl (λ j. (sym e j, x.gave))) (ap (λ (q : Request). (handles top machine s f q).gave.event) e ∙ ap plain z)) in
          let r = all l x.state x.adds (enter_all b x.gave.did) (enter_add A q x.gave.did x.gave.event) J (λ t op g y i e. p t op g y (inr i) e) in
          let y = run (with_adds top machine) (x.state, x.adds) l in
          let B = enter_adds (enter_add A q x.gave.did x.gave.event) (history (with_adds top machine) (x.state, x.adds) l) in
          subst (λ (b : Calls). Inv y.0 y.1 b B) (sym (enter_append b x.gave.did (joined (dids_of (history (with_adds top machine) (x.state, x.adds) l))))) r

      -- from the start
      pub all_requests : (l : List Request) → PlainWell (history (with_adds top machine) (start, no_adds) l) → let h = history (with_adds top machine) (start, no_adds) l in let x = run (with_adds top machine) (start, no_adds) l in
          Inv x.0 x.1 (enter_all no_calls (joined (dids_of h))) (enter_adds no_add_calls h)
      all_requests l p = all l start no_adds no_calls no_add_calls (record { reached = reached-start machine start; tasks = λ t c e. absurd (clash refl e); ended = λ F i. absurd i; left = λ C i. absurd i; sum = refl }) p

abbrev pub none_weighs : Weights (λ op. Unit {0}) (λ op a. 0) (λ op a. 0) (λ F. 0)
none_weighs = record { plain-even = λ op a p. refl; read-even = λ k v. refl; no_even = λ k e n. refl; yes_gain = λ v F e. refl; no_gain = λ F e. refl }

-- THE BOUNDS OF ADDS, of any machine that meets demand 3 and lets a task whose call has ended begin another

module _ {S : Type 0} (top : ℕ) (machine : S → Action → S × Event) (start : S) {Clear : List Action → ℕ → Type 0} {size : ℕ} {values : ℕ → ℕ} (meets : Meets machine start Clear size values) (continues : Continues machine start top) (l : List Request) where
  abbrev pub h : List (Request × Gave)
  h = history (with_adds top machine) (start, no_adds) l

  pub invariant : let x = run (with_adds top machine) (start, no_adds) l in Inv top (λ op. Unit {0}) (λ op a. 0) (λ op a. 0) (λ F. 0) machine start x.0 x.1 (enter_all no_calls (joined (dids_of h))) (adds_of h)
  invariant = all_requests top (λ op. Unit {0}) (λ op a. 0) (λ op a. 0) (λ F. 0) machine start none_weighs meets continues l (λ t op g x i e. tt)

  -- Each add that is finished reports what it did, the sums over its parts, and answers by the last of them. Each that is pending or withdrawn
  -- has fewer steps than 27 for each try, and fewer swaps that answered no than tries.
  pub adds-right : RightAdds top (adds_of (history (with_adds top machine) (start, no_adds) l))
  adds-right = record {
    ended = invariant.ended;
    unended = λ t C e. unended t ((run (with_adds top machine) (start, no_adds) l).1 t) ((adds_of h).pending t) ((enter_all no_calls (joined (dids_of h))).pending t) refl (invariant.tasks t) C e;
    withdrawn = invariant.left;
  }
    where
      unended : (t : ℕ) (o : Option Add) (B : Option AddCall) (p : Option Call) → (enter_all no_calls (joined (dids_of h))).pending t ≡ p → At top (λ op. Unit {0}) (λ op a. 0) (λ op a. 0) (λ F. 0) o B p → (C : AddCall) → B ≡ some C → RightSoFar top C
      unended t o none p z x C e = absurd (clash refl e)
      unended t none (some D) p z x C e = absurd x
      unended t (some a) (some D) none z x C e = absurd x
      unended t (some a) (some D) (some c) z x C e = subst (RightSoFar top) (some_inj {o = some D} refl e) (so_far top a D c x ((bounds machine start meets invariant.reached).unended t c z))

  -- an add under way: its task has a part of it as its pending call
  pub record Doing (t : ℕ) (a : Add) : Type 0 where
    pub add : AddCall
    pub its : (adds_of h).pending t ≡ some add
    pub call : Call
    pub busy : (enter_all no_calls (joined (dids_of h))).pending t ≡ some call
    pub runs : Runs top a add call

  pub doing : (t : ℕ) (a : Add) → (run (with_adds top machine) (start, no_adds) l).1 t ≡ some a → Doing t a
  doing t a e = go ((run (with_adds top machine) (start, no_adds) l).1 t) ((adds_of h).pending t) ((enter_all no_calls (joined (dids_of h))).pending t) refl refl (invariant.tasks t) e
    where
      go : (o : Option Add) (B : Option AddCall) (p : Option Call) → (adds_of h).pending t ≡ B → (enter_all no_calls (joined (dids_of h))).pending t ≡ p → At top (λ op. Unit {0}) (λ op a. 0) (λ op a. 0) (λ F. 0) o B p → o ≡ some a → Doing t a
      go none none p z q x e = absurd (clash refl e)
      go none (some D) p z q x e = absurd x
      go (some d) none p z q x e = absurd x
      go (some d) (some D) none z q x e = absurd x
      go (some d) (some D) (some c) z q x e = subst (Doing t) (some_inj {o = some d} refl e) (record { add = D; its = z; call = c; busy = q; runs = x })

  -- Each add under way is as far as its ended parts, keeps to the limits of question 6, and its part is the one that follows theirs.
  pub adds_under_way : (t : ℕ) (a : Add) → (run (with_adds top machine) (start, no_adds) l).1 t ≡ some a → UnderWay top (history (with_adds top machine) (start, no_adds) l) t a
  adds_under_way t a e =
      let d = doing t a e in
      let R = d.runs in
      let b = part_limits a d.add.start.cell d.add.start.amount d.call.start.op R.its in
      record {
        call = d.add;
        its = d.its;
        part = call_at (clock_of (dids_of h)) d.call;
        busy = (retelling top machine start Clear size values meets l).image.pending t ∙ ap (pending_at (clock_of (dids_of h))) d.busy;
        comes = R.comes;
        amount = sym R.amount;
        tries = sym R.tries;
        failed = sym R.failed;
        steps = R.part-steps;
        won = R.part-won;
        lost = R.part-lost;
        all-steps = R.steps;
        all-won = R.won;
        all-lost = R.lost;
        some-tries = R.some-tries;
        few-tries = R.few-tries;
        fewer = R.fewer;
        few-steps = b.0;
        few-attempts = b.1;
      }
