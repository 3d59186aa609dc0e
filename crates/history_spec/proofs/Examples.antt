-- What linearizations are accepted and what they rule out, at histories written out. A refutation tries every order of the history's calls, and
-- computes the answers in each. (Nothing here uses the proof of demand 3, so that the checker comes to these examples first, and refuses a
-- wrong definition here.)
use mathlib.Core.Path.{◌≡◌, refl, sym, ap, ◌∙◌, subst}
use mathlib.Core.Logic.{◌≢◌, ◌⊎◌, inl, inr}
use mathlib.Core.Bool.{Bool, false, not, ◌&&◌, ◌||◌}
use mathlib.Core.Option.{Option, none, some}
use mathlib.Core.List.{List, [], ◌∷◌, ◌++◌, map}
use Prim.Native.Nat.{ℕ, zero, suc, ◌+◌, ◌*◌, ◌≤◌, ◌<◌}
use native.Mathlib.Omega.{arith}
use lib.Dec.{eqb, leb, T, T_not, eqb→eq, leb→le}
use lib.ListN.{length}
use borrow.Author.Tests.{eq-eqb, ne_eqb}
use Rattle.history_spec.specs.Basics.{upd, ◌∈◌, Once}
use Rattle.history_spec.specs.History.{Op, cell_of, Kind, a_read, a_swap, kind_of, Report, read, swap, Action, begin, step, drop, Attempt, untried, success, Event, accepted, answered, Response, Value, Yes, No, CallId, Call, attempts, FinishedCall, WithdrawnCall, Calls, calls_of}
use Rattle.history_spec.specs.History.{CallOf, finished, pending, withdrawn}
use Rattle.history_spec.specs.Linearization.{reply, apply, Point, replies, Sorted, Placed, Linearizes}
use Rattle.history_spec.specs.Demand3.{most, most_hard, Reports, Unequal, Alone, Demand3}
use Rattle.history_spec.proofs.Basics.{either, clash, mem_left, mem_right, mem_map, point}
use Rattle.history_spec.proofs.ListTests.{every, every_in, in_every, both, or_left, or_right, or_either, turned}

-- THE SEQUENTIAL CELLS: every cell holds 5 first

abbrev pub five : ℕ → ℕ
five k = 5

-- RIGHT: a swap changes its own cell and no other
pub its_own_cell : apply five (swap 1 5 7) 1 ≡ 7
its_own_cell = refl

pub no_other_cell : apply five (swap 1 5 7) 0 ≡ 5
no_other_cell = refl

-- RIGHT: it answers yes if its cell holds the value that it expects, else no, and then leaves the cell as it is
pub met_swap_says_yes : reply 5 (swap 0 5 7) ≡ Yes
met_swap_says_yes = refl

pub unmet_swap_says_no : reply 6 (swap 0 5 7) ≡ No
unmet_swap_says_no = refl

pub unmet_swap_changes_nothing : apply five (swap 0 6 7) 0 ≡ 5
unmet_swap_changes_nothing = refl

-- RIGHT: a swap of equal values is fed as a swap: it answers yes or no, and changes nothing
pub equal_swap_says_yes : reply 5 (swap 0 5 5) ≡ Yes
equal_swap_says_yes = refl

pub equal_swap_says_no : reply 6 (swap 0 5 5) ≡ No
equal_swap_says_no = refl

pub equal_swap_changes_nothing : apply five (swap 0 5 5) 0 ≡ 5
equal_swap_changes_nothing = refl

-- WRONG IN EVERY HISTORY: a call twice; a call at its own begin, or earlier

abbrev ats : List Point → List ℕ
ats l = map (λ e. e.call.at) l

to_ats : (l : List Point) (x : Point) → x ∈ l → x.call.at ∈ ats l
to_ats (y ∷ l) x (inl h) = inl (ap (λ (x : Point). x.call.at) h)
to_ats (y ∷ l) x (inr h) = inr (to_ats l x h)
to_ats [] x x3 = elim x3 [ ]

not_again : (xs ys : List Point) (x y : Point) → Once (ats (xs ++ (x ∷ ys))) → y ∈ ys → y.call.at ≡ x.call.at → ⊥
not_again [] ys x y o i q = o.0 (subst (λ n. n ∈ ats ys) q (to_ats ys y i))
not_again (z ∷ xs) ys x y o i q = not_again xs ys x y o.1 i q

pub no_call_twice : (values : ℕ → ℕ) (b : Calls) (c : Call) (m n : ℕ) (xs ys : List Point) → point c n ∈ ys → Linearizes values b (xs ++ (point c m ∷ ys)) → ⊥
no_call_twice values b c m n xs ys i r = not_again xs ys (point c m) (point c n) r.once i refl

pub no_effect_at_the_begin : (values : ℕ → ℕ) (b : Calls) (l : List Point) (x : Point) → x ∈ l → x.moment ≤ x.call.at → Linearizes values b l → ⊥
no_effect_at_the_begin values b l x i q r = let p = r.placed x i in omega (arith, p.after-begin, ap (λ (s : CallId). s.at) p.is)

-- TOOLS: a history of the tasks 0 and 1

-- of calls on cell 0
abbrev pub report : Kind → Response → (steps won lost : ℕ) → Report
report k a n w l = record { kind = k; cell = 0; answer = a; steps = n; won = w; lost = l }

abbrev pub answers : Attempt → Kind → Response → (steps won lost : ℕ) → Event
answers x k a n w l = answered x (report k a n w l)

abbrev of_task : Option Call → List Call
of_task none = []
of_task (some c) = c ∷ []

-- the calls of tasks 0 and 1
abbrev pub the_calls : Calls → List Call
the_calls b = of_task (b.pending 0) ++ (of_task (b.pending 1) ++ (map (λ f. f.call) b.finished ++ map (λ w. w.call) b.withdrawn))

abbrev pub OnlyTwoTasks : Calls → Type 0
OnlyTwoTasks b = (t : ℕ) → t ≢ 0 → t ≢ 1 → b.pending t ≡ none

of_task_lem : (o : Option Call) (c : Call) → o ≡ some c → c ∈ of_task o
of_task_lem o c e = rw e (inl refl)

pub the_calls_lem : (b : Calls) → OnlyTwoTasks b → (c : Call) (n : ℕ) → CallOf b c n → c ∈ the_calls b
the_calls_lem b two c n i = go c n i
  where
    ended : List Call
    ended = map (λ f. f.call) b.finished ++ map (λ w. w.call) b.withdrawn

    behind : (c : Call) → c ∈ ended → c ∈ the_calls b
    behind c i = mem_right (of_task (b.pending 0)) (of_task (b.pending 1) ++ ended) c (mem_right (of_task (b.pending 1)) ended c i)

    busy : (c : Call) (t : ℕ) → b.pending t ≡ some c → (t ≡ 0) ⊎ (t ≢ 0) → (t ≡ 1) ⊎ (t ≢ 1) → c ∈ the_calls b
    busy c t h (inl p) q = mem_left (of_task (b.pending 0)) _ c (of_task_lem (b.pending 0) c (rw p at h))
    busy c t h (inr p) (inl q) = mem_right (of_task (b.pending 0)) _ c (mem_left (of_task (b.pending 1)) ended c (of_task_lem (b.pending 1) c (rw q at h)))
    busy c t h (inr p) (inr q) = absurd (clash (two t p q) h)

    go : (c : Call) (n : ℕ) → CallOf b c n → c ∈ the_calls b
    go c n (finished f i) = behind c (mem_left (map (λ f. f.call) b.finished) _ c (mem_map (λ (f : FinishedCall). f.call) b.finished f i))
    go c n (withdrawn w i) = behind c (mem_right (map (λ f. f.call) b.finished) (map (λ w. w.call) b.withdrawn) c (mem_map (λ (w : WithdrawnCall). w.call) b.withdrawn w i))
    go c n (pending t d h) = busy c t h (either t 0) (either t 1)

nor : {A B : Type 0} → (A → ⊥) → (B → ⊥) → A ⊎ B → ⊥
nor f g (inl a) = f a
nor f g (inr b) = g b

-- a swap of unequal values on c's cell, begun before c's end and itself ended after c's begin, is contention
pub contends : (b : Calls) (c d : Call) (n end : ℕ) → CallOf b d n → Unequal d.start.op → cell_of d.start.op ≡ cell_of c.start.op → d.start.at ≢ c.start.at →
    c.start.at < n → d.start.at < end → Alone b c end → ⊥
contends b c d n end i u q ne low high alone = nor (λ z. omega arith) (λ z. omega arith) (alone d n i u q ne)

-- x is c's, after its begin and no later than its last step
abbrev Is : Call → Point → Type 0
Is c x = (x.call ≡ c.start) × (c.start.at < x.moment) × (x.moment ≤ c.last)

abbrev Drawn : List Call → List Point → Type 0
Drawn cs l = (x : Point) → x ∈ l → (c : Call) × (c ∈ cs) × Is c x

drawn : {values : ℕ → ℕ} {b : Calls} {l : List Point} → OnlyTwoTasks b → Linearizes values b l → Drawn (the_calls b) l
drawn {b = b} two r x i = let p = r.placed x i in (p.call, the_calls_lem b two p.call _ p.of_history, (p.is, p.after-begin, p.by_last_step))

-- a begin's moment and an answer as one number, so that what a linearization answers is computed
abbrev code : ℕ → Response → ℕ
code n (Value v) = n + 100 * (v + 2)
code n Yes = n + 100
code n No = n

abbrev says : (ℕ → ℕ) → CallId → ℕ
says cells s = code s.at (reply (cells (cell_of s.op)) s.op)

abbrev said : ℕ → List (Point × Response) → Bool
said k [] = false
said k (p ∷ l) = eqb k (code p.0.call.at p.1) || said k l

in_said : (r : List (Point × Response)) (p : Point × Response) → p ∈ r → T (said (code p.0.call.at p.1) r)
in_said (q ∷ r) p (inl h) = rw (eq-eqb (code p.0.call.at p.1) (code q.0.call.at q.1) (ap (λ (p : Point × Response). code p.0.call.at p.1) h)) tt
in_said (q ∷ r) p (inr h) = or_right (eqb (code p.0.call.at p.1) (code q.0.call.at q.1)) (said (code p.0.call.at p.1) r) (in_said r p h)
in_said [] p x' = elim x' [ ]

abbrev wanted : Calls → List ℕ
wanted b = map (λ f. code f.call.start.at f.report.answer) b.finished

-- a finished call's answer is among those of the linearization
must : {values : ℕ → ℕ} {b : Calls} {l : List Point} → Linearizes values b l → (fs : List FinishedCall) → ((f : FinishedCall) → f ∈ fs → f ∈ b.finished) → (k : ℕ) → k ∈ map (λ f. code f.call.start.at f.report.answer) fs → T (said k (replies values l))
must {values} {l = l} r (f ∷ fs) h k (inl e) =
    let a = r.answers f (h f (inl refl)) in
    rw e (subst (λ (s : CallId). T (said (code s.at f.report.answer) (replies values l))) a.1 (in_said (replies values l) (a.0, f.report.answer) a.4))
must r (f ∷ fs) h k (inr i) = must r fs (λ g j. h g (inr j)) k i
must {values = values} {b = b} {l = l} r [] h k x'' = elim x'' [ ]

-- the calls cs can be drawn in no order that has the wanted answers: `given` are those of the calls so far
module _ (cs : List Call) (answers : List ℕ) where
  -- c is one of the calls so far, or ended before one of them began
  abbrev barred : List Call → Call → Bool
  barred [] c = false
  barred (u ∷ used) c = (eqb c.start.at u.start.at || leb c.last u.start.at) || barred used c

  abbrev hopeless : ℕ → (ℕ → ℕ) → List Call → (ℕ → Bool) → Bool
  hopeless zero cells used given = false
  hopeless (suc n) cells used given = not (every given answers) && every (λ c. barred used c || hopeless n (apply cells c.start.op) (c ∷ used) (λ k. eqb k (says cells c.start) || given k)) cs

  unbarred : (used : List Call) (c : Call) → ((u : Call) → u ∈ used → (c.start.at ≢ u.start.at) × (u.start.at < c.last)) → T (barred used c) → ⊥
  unbarred [] c h z = z
  unbarred (u ∷ used) c h z = go (unbarred used c (λ v i. h v (inr i))) (or_either (eqb c.start.at u.start.at || leb c.last u.start.at) (barred used c) z)
    where
      first : T (eqb c.start.at u.start.at) ⊎ T (leb c.last u.start.at) → ⊥
      first (inl e) = (h u (inl refl)).0 (eqb→eq _ _ e)
      first (inr e) = omega (arith, leb→le c.last u.start.at e, (h u (inl refl)).1)

      go : (T (barred used c) → ⊥) → T (eqb c.start.at u.start.at || leb c.last u.start.at) ⊎ T (barred used c) → ⊥
      go r (inl e) = first (or_either (eqb c.start.at u.start.at) (leb c.last u.start.at) e)
      go r (inr e) = r e

  sound : (n : ℕ) (cells : ℕ → ℕ) (used : List Call) (given : ℕ → Bool) (l : List Point) → Drawn cs l → Sorted l → Once (ats l) →
      ((u : Call) → u ∈ used → (x : Point) → x ∈ l → (x.call.at ≢ u.start.at) × (u.start.at < x.moment)) →
      ((k : ℕ) → k ∈ answers → T (said k (replies cells l) || given k)) → T (hopeless n cells used given) → ⊥
  sound zero cells used given l d s o b w h = h
  sound (suc n) cells used given [] d s o b w h = T_not (every given answers) (both (not (every given answers)) _ h).0 (in_every given answers w)
  sound (suc n) cells used given (x ∷ l) d s o b w h =
      let c = d x (inl refl) in
      sound n (apply cells c.0.start.op) (c.0 ∷ used) _ l (λ y i. d y (inr i)) s.1 o.1 (behind c.0 c.2) (left c.0 c.2)
      (free c.0 c.2 _ (every_in _ cs (both (not (every given answers)) _ h).1 c.0 c.1))
    where
      behind : (c : Call) → Is c x → (u : Call) → u ∈ (c ∷ used) → (y : Point) → y ∈ l → (y.call.at ≢ u.start.at) × (u.start.at < y.moment)
      behind c i u (inl e) y j = rw e ((λ q. o.0 (subst (λ n. n ∈ ats l) (q ∙ ap (λ (s : CallId). s.at) (sym i.0)) (to_ats l y j))), omega (arith, s.0 y j, i.1))
      behind c i u (inr k) y j = b u k y (inr j)

      left : (c : Call) → Is c x → (k : ℕ) → k ∈ answers → T (said k (replies (apply cells c.start.op) l) || (eqb k (says cells c.start) || given k))
      left c i k m = subst (λ (s : CallId). T (said k (replies (apply cells s.op) l) || (eqb k (says cells s) || given k))) i.0 (turned (eqb k (says cells x.call)) _ (given k) (w k m))

      free : (c : Call) → Is c x → (t : Bool) → T (barred used c || t) → T t
      free c i t h = go (or_either (barred used c) t h)
        where
          go : T (barred used c) ⊎ T t → T t
          go (inl z) = absurd (unbarred used c (λ u j. let k = b u j x (inl refl) in ((λ e. k.0 (ap (λ (s : CallId). s.at) i.0 ∙ e)), omega (arith, k.1, i.2))) z)
          go (inr z) = z

refuted : {values : ℕ → ℕ} {b : Calls} {l : List Point} (cs : List Call) → Drawn cs l → Linearizes values b l → T (hopeless cs (wanted b) (suc (length cs)) values [] (λ k. false)) → ⊥
refuted {values} {b} {l} cs d r h = sound cs (wanted b) (suc (length cs)) values [] (λ k. false) l d r.sorted r.once (λ u i. absurd i) (λ k i. or_left (said k (replies values l)) false (must r b.finished (λ f j. j) k i)) h

no_order : (values : ℕ → ℕ) (b : Calls) → OnlyTwoTasks b → T (hopeless (the_calls b) (wanted b) (suc (length (the_calls b))) values [] (λ k. false)) → (l : List Point) → Linearizes values b l → ⊥
no_order values b two h l r = refuted (the_calls b) (drawn two r) r h

-- A LATE SWAP THAT HALTS

-- Cell 0 holds 5; task 0 swaps 5 to 7, task 1 swaps 5 to 9. Task 0 does lines 15 to 21; task 1 does 15, 16, 17, and with 27 (action 12) makes
-- the block inactive; task 0 stores with line 23 (action 13) and halts for good; task 1 decides the block for 7 (action 15) and answers no.
abbrev late_swap : List (Action × Event)
late_swap =
    (begin 0 (swap 0 5 7), accepted untried) ∷ (begin 1 (swap 0 5 9), accepted untried) ∷
    (step 0, accepted untried) ∷ (step 0, accepted untried) ∷ (step 0, accepted untried) ∷ (step 0, accepted untried) ∷ (step 0, accepted untried) ∷ (step 0, accepted untried) ∷ (step 0, accepted untried) ∷
    (step 1, accepted untried) ∷ (step 1, accepted untried) ∷ (step 1, accepted untried) ∷ (step 1, accepted untried) ∷
    (step 0, accepted untried) ∷
    (step 1, accepted untried) ∷ (step 1, accepted success) ∷ (step 1, answers untried a_swap No 7 1 0) ∷ []

abbrev halted : Call
halted = record { start = record { at = 0; task = 0; op = swap 0 5 7; before = [] }; last = 13; steps = 8; won = 0; lost = 0 }

abbrev decider : Call
decider = record { start = record { at = 1; task = 1; op = swap 0 5 9; before = begin 0 (swap 0 5 7) ∷ [] }; last = 16; steps = 7; won = 1; lost = 0 }

abbrev decided : FinishedCall
decided = record { call = decider; report = report a_swap No 7 1 0 }

its-calls : ((calls_of late_swap).pending 0 ≡ some halted) × ((calls_of late_swap).pending 1 ≡ none) × ((calls_of late_swap).finished ≡ decided ∷ []) × ((calls_of late_swap).now ≡ 17)
unfolding upd
its-calls = (refl, refl, refl, refl)

late_tasks : OnlyTwoTasks (calls_of late_swap)
unfolding upd
late_tasks t p q = rw (ne_eqb t 0 p, ne_eqb t 1 q)

late_calls : (c : Call) (n : ℕ) → CallOf (calls_of late_swap) c n → c ∈ (halted ∷ decider ∷ [])
unfolding upd
late_calls = the_calls_lem (calls_of late_swap) late_tasks

late_halted : CallOf (calls_of late_swap) halted 17
unfolding upd
late_halted = pending 0 halted refl

late_done : decided ∈ (calls_of late_swap).finished
unfolding upd
late_done = inl refl

-- the halted swap may take effect at any of its moments that is not past its last step
late_linearizes : (m : ℕ) → 0 < m → m ≤ 13 → Linearizes five (calls_of late_swap) (point halted m ∷ point decider 15 ∷ [])
unfolding upd
late_linearizes m low high = record { sorted = ((λ x i. omega (arith, first x i)), ((λ x i. absurd i), tt)); placed = placed; once = ((λ i. other i), ((λ i. i), tt)); answers = answers }
  where
    first : (x : Point) → x ∈ (point decider 15 ∷ []) → m ≤ x.moment
    first x (inl q) = rw q (omega arith)
    first x (inr x'') = elim x'' [ ]

    other : ◌∈◌ {A = ℕ} 0 (1 ∷ []) → ⊥
    other (inl q) = omega arith
    other (inr x') = elim x' [ ]

    placed : (x : Point) → x ∈ (point halted m ∷ point decider 15 ∷ []) → Placed (calls_of late_swap) x
    placed x (inl q) = rw q (record { call = halted; end = 17; of_history = late_halted; is = refl; after-begin = low; by_last_step = high })
    placed x (inr (inl q)) = rw q (record { call = decider; end = 16; of_history = finished decided (inl refl); is = refl; after-begin = omega arith; by_last_step = omega arith })
    placed x (inr (inr x3)) = elim x3 [ ]

    answers : (f : FinishedCall) → f ∈ (decided ∷ []) →
        (e : Point) × (e.call ≡ f.call.start) × (f.call.start.at < e.moment) × (e.moment ≤ f.call.last) × ((e, f.report.answer) ∈ replies five (point halted m ∷ point decider 15 ∷ []))
    answers f (inl q) = rw q (point decider 15, refl, omega arith, omega arith, inr (inl refl))
    answers f (inr x') = elim x' [ ]

-- RIGHT: at the action that made the block inactive, where the source puts it; and at its own store
pub late_swap_at_the_freezing : Linearizes five (calls_of late_swap) (point halted 12 ∷ point decider 15 ∷ [])
late_swap_at_the_freezing = late_linearizes 12 (omega arith) (omega arith)

pub late_swap_at_its_store : Linearizes five (calls_of late_swap) (point halted 13 ∷ point decider 15 ∷ [])
late_swap_at_its_store = late_linearizes 13 (omega arith) (omega arith)

-- RIGHT: the whole of demand 3, on a cell clear at both begins: the halted swap made no hardware CAS, the other was not alone
pub late_swap_meets_demand_3 : Demand3 (λ l k. Unit {0}) 1 five late_swap
unfolding upd
late_swap_meets_demand_3 = record {
  well_formed = ((refl, omega arith, refl), ((refl, omega arith, refl), (tt, (tt, (tt, (tt, (tt, (tt, (tt, (tt, (tt, (tt, (tt, (tt, (tt, (tt, (tt, tt)))))))))))))))));
  calls = record {
    linearization = point halted 12 ∷ point decider 15 ∷ [];
    linearizes = late_swap_at_the_freezing;
    bounds = record { ended = ended; reported = reported; unended = λ t c h. unended c (late_calls c 17 (pending t c h)); withdrawn = λ w i. absurd i };
    no_hardware = λ c n i a l. hard c n i l (late_calls c n i);
  };
}
  where
    ended : (f : FinishedCall) → f ∈ (decided ∷ []) → (f.call.steps ≤ most f.call.start.op) × (attempts f.call ≤ most_hard f.call.start.op)
    ended f (inl q) = rw q (omega arith)
    ended f (inr x') = elim x' [ ]

    reported : (f : FinishedCall) → f ∈ (decided ∷ []) → Reports f.call f.report
    reported f (inl q) = rw q (record { kind = refl; cell = refl; steps = refl; won = refl; lost = refl })
    reported f (inr x') = elim x' [ ]

    unended : (c : Call) → c ∈ (halted ∷ decider ∷ []) → (c.steps < most c.start.op) × (attempts c ≤ most_hard c.start.op)
    unended c (inl q) = rw q (omega arith)
    unended c (inr (inl q)) = rw q (omega arith)
    unended c (inr (inr x'')) = elim x'' [ ]

    apart : (c : Call) (n : ℕ) → 0 < n → c ≡ decider → Alone (calls_of late_swap) c n → ⊥
    apart c n h q l = contends (calls_of late_swap) decider halted 17 n late_halted (λ e. omega arith) refl (λ e. omega arith) (omega arith) h
        (subst (λ (c : Call). Alone (calls_of late_swap) c n) q l)

    hard : (c : Call) (n : ℕ) → CallOf (calls_of late_swap) c n → Alone (calls_of late_swap) c n → c ∈ (halted ∷ decider ∷ []) → attempts c ≡ 0
    hard c n i l (inl q) = ap attempts q
    hard c n (finished f i) l (inr (inl q)) = absurd (apart f.call f.call.last (rw q (omega arith)) q l)
    hard c n (pending t d h) l (inr (inl q)) = absurd (apart c 17 (omega arith) q l)
    hard c _ (finished _ i) l (inr (inr x8)) = elim x8 [ ]
    hard c _ (pending t _ h) l (inr (inr x8)) = elim x8 [ ]
    hard c n (withdrawn _ x12) l (inr _) = elim x12 [ ]

late_drawn : {l : List Point} → Linearizes five (calls_of late_swap) l → Drawn (halted ∷ decider ∷ []) l
unfolding upd
late_drawn r = drawn late_tasks r

-- WRONG: the halted swap only at the deciding, or at any other moment after its last step
pub no_effect_after_the_last_step : (l : List Point) (m : ℕ) → 13 < m → point halted m ∈ l → Linearizes five (calls_of late_swap) l → ⊥
no_effect_after_the_last_step l m h i r = go (late_drawn r (point halted m) i)
  where
    go : (c : Call) × (c ∈ (halted ∷ decider ∷ [])) × Is c (point halted m) → ⊥
    go (c, inl q, d) = omega (arith, d.2, ap (λ (c : Call). c.last) q)
    go (c, inr (inl q), d) = omega (arith, ap (λ (s : CallId). s.at) d.0, ap (λ (c : Call). c.start.at) q)
    go (c, inr (inr x4), d) = elim x4 [ ]

-- WRONG: the halted swap left out, though the other call saw its value; the finished call left out
pub no_seen_swap_left_out : (l : List Point) → ((x : Point) → x ∈ l → x.call ≢ halted.start) → Linearizes five (calls_of late_swap) l → ⊥
unfolding upd
no_seen_swap_left_out l out r = refuted (decider ∷ []) (λ x i. go x i (late_drawn r x i)) r tt
  where
    go : (x : Point) → x ∈ l → (c : Call) × (c ∈ (halted ∷ decider ∷ [])) × Is c x → (c : Call) × (c ∈ (decider ∷ [])) × Is c x
    go x i (c, inl q, d) = absurd (out x i (d.0 ∙ ap (λ (c : Call). c.start) q))
    go x i (c, inr j, d) = (c, j, d)

pub no_finished_call_left_out : (l : List Point) → ((x : Point) → x ∈ l → x.call ≢ decider.start) → Linearizes five (calls_of late_swap) l → ⊥
unfolding upd
no_finished_call_left_out l out r = refuted (halted ∷ []) (λ x i. go x i (late_drawn r x i)) r tt
  where
    go : (x : Point) → x ∈ l → (c : Call) × (c ∈ (halted ∷ decider ∷ [])) × Is c x → (c : Call) × (c ∈ (halted ∷ [])) × Is c x
    go x i (c, inl q, d) = (c, inl q, d)
    go x i (c, inr (inl q), d) = absurd (out x i (d.0 ∙ ap (λ (c : Call). c.start) q))
    go x i (c, inr (inr x5), d) = elim x5 [ ]

-- a call of one step or more, finished as reported
abbrev pub ended : (at task : ℕ) → Op → List Action → (last steps won lost : ℕ) → Response → FinishedCall
ended n t op l last steps won lost a = record {
  call = record { start = record { at = n; task = t; op = op; before = l }; last = last; steps = steps; won = won; lost = lost };
  report = report (kind_of op) a steps won lost;
}

-- RIGHT: a swap of equal values is placed as a swap
abbrev equal_swap : List (Action × Event)
equal_swap = (begin 0 (swap 0 5 5), accepted untried) ∷ (step 0, accepted untried) ∷ (step 0, accepted untried) ∷ (step 0, answers untried a_swap Yes 3 0 0) ∷ []

abbrev equal_yes : FinishedCall
equal_yes = ended 0 0 (swap 0 5 5) [] 3 3 0 0 Yes

pub equal_swap_placed : Linearizes five (calls_of equal_swap) (point equal_yes.call 2 ∷ [])
unfolding upd
equal_swap_placed = record { sorted = ((λ x i. absurd i), tt); placed = placed; once = ((λ i. i), tt); answers = answers }
  where
    placed : (x : Point) → x ∈ (point equal_yes.call 2 ∷ []) → Placed (calls_of equal_swap) x
    placed x (inl q) = rw q (record { call = equal_yes.call; end = 3; of_history = finished equal_yes (inl refl); is = refl; after-begin = omega arith; by_last_step = omega arith })
    placed x (inr x'') = elim x'' [ ]

    answers : (f : FinishedCall) → f ∈ (equal_yes ∷ []) →
        (e : Point) × (e.call ≡ f.call.start) × (f.call.start.at < e.moment) × (e.moment ≤ f.call.last) × ((e, f.report.answer) ∈ replies five (point equal_yes.call 2 ∷ []))
    answers f (inl q) = rw q (point equal_yes.call 2, refl, omega arith, omega arith, inl refl)
    answers f (inr x') = elim x' [ ]

-- RIGHT: a withdrawn swap is placed before its drop, and a later read sees it
abbrev seen-withdrawn : List (Action × Event)
seen-withdrawn = (begin 0 (swap 0 5 7), accepted untried) ∷ (step 0, accepted untried) ∷ (drop 0, accepted untried) ∷ (begin 1 (read 0), accepted untried) ∷ (step 1, answers untried a_read (Value 7) 1 0 0) ∷ []

abbrev dropped-swap : WithdrawnCall
dropped-swap = record { call = record { start = record { at = 0; task = 0; op = swap 0 5 7; before = [] }; last = 1; steps = 1; won = 0; lost = 0 }; end = 2 }

abbrev its_reader : FinishedCall
its_reader = ended 3 1 (read 0) (begin 0 (swap 0 5 7) ∷ step 0 ∷ drop 0 ∷ []) 4 1 0 0 (Value 7)

pub withdrawn_swap_placed : Linearizes five (calls_of seen-withdrawn) (point dropped-swap.call 1 ∷ point its_reader.call 4 ∷ [])
unfolding upd
withdrawn_swap_placed = record { sorted = (first, ((λ x i. absurd i), tt)); placed = placed; once = ((λ i. other i), ((λ i. i), tt)); answers = answers }
  where
    first : (x : Point) → x ∈ (point its_reader.call 4 ∷ []) → 1 ≤ x.moment
    first x (inl q) = rw q (omega arith)
    first x (inr x'') = elim x'' [ ]

    other : ◌∈◌ {A = ℕ} 0 (3 ∷ []) → ⊥
    other (inl q) = omega arith
    other (inr x') = elim x' [ ]

    placed : (x : Point) → x ∈ (point dropped-swap.call 1 ∷ point its_reader.call 4 ∷ []) → Placed (calls_of seen-withdrawn) x
    placed x (inl q) = rw q (record { call = dropped-swap.call; end = _; of_history = withdrawn dropped-swap (inl refl); is = refl; after-begin = omega arith; by_last_step = omega arith })
    placed x (inr (inl q)) = rw q (record { call = its_reader.call; end = 4; of_history = finished its_reader (inl refl); is = refl; after-begin = omega arith; by_last_step = omega arith })
    placed x (inr (inr x3)) = elim x3 [ ]

    answers : (f : FinishedCall) → f ∈ (its_reader ∷ []) →
        (e : Point) × (e.call ≡ f.call.start) × (f.call.start.at < e.moment) × (e.moment ≤ f.call.last) × ((e, f.report.answer) ∈ replies five (point dropped-swap.call 1 ∷ point its_reader.call 4 ∷ []))
    answers f (inl q) = rw q (point its_reader.call 4, refl, omega arith, omega arith, inr (inl refl))
    answers f (inr x') = elim x' [ ]

-- WRONG ANSWERS: no linearization has them

-- a read answers 6, which its cell never held
abbrev odd_read : List (Action × Event)
odd_read = (begin 0 (read 0), accepted untried) ∷ (step 0, accepted untried) ∷ (step 0, accepted untried) ∷ (step 0, answers untried a_read (Value 6) 3 0 0) ∷ []

pub no_value_never_held : (l : List Point) → Linearizes five (calls_of odd_read) l → ⊥
unfolding upd
no_value_never_held = no_order five (calls_of odd_read) (λ t p q. rw (ne_eqb t 0 p)) tt

-- a swap that nobody meets answers no, though its cell holds the value that it expects; after so many steps
abbrev pub spurious : (steps : ℕ) → FinishedCall
spurious n = ended 0 0 (swap 0 5 7) [] n n 0 0 No

pub no_such_no : (n : ℕ) (b : Calls) → ((t : ℕ) → t ≢ 0 → b.pending t ≡ none) → b.pending 0 ≡ none → b.withdrawn ≡ [] → b.finished ≡ spurious n ∷ [] → (l : List Point) → Linearizes five b l → ⊥
no_such_no n b rest at0 gone e = no_order five b (λ t p q. rest t p) (subst (λ (x : List Call × List ℕ). T (hopeless x.0 x.1 (suc (length x.0)) five [] (λ k. false))) (sym its) tt)
  where
    at1 : b.pending 1 ≡ none
    at1 = rest 1 (λ z. omega arith)

    its : ◌≡◌ {A = List Call × List ℕ} (the_calls b, wanted b) ((spurious n).call ∷ [], 0 ∷ [])
    its = λ i. (of_task (at0 i) ++ (of_task (at1 i) ++ (map (λ f. f.call) (e i) ++ map (λ w. w.call) (gone i))), map (λ f. code f.call.start.at f.report.answer) (e i))

pub no_spurious_no : (l : List Point) → Linearizes five (calls_of ((begin 0 (swap 0 5 7), accepted untried) ∷ (step 0, answers untried a_swap No 1 0 0) ∷ [])) l → ⊥
unfolding upd
no_spurious_no = no_such_no 1 _ (λ t p. rw (ne_eqb t 0 p)) refl refl refl

-- two swaps of the value 5 both answer yes
abbrev two_winners : List (Action × Event)
two_winners = (begin 0 (swap 0 5 7), accepted untried) ∷ (begin 1 (swap 0 5 9), accepted untried) ∷ (step 0, answers untried a_swap Yes 1 0 0) ∷ (step 1, answers untried a_swap Yes 1 0 0) ∷ []

pub no_two_winners : (l : List Point) → Linearizes five (calls_of two_winners) l → ⊥
unfolding upd
no_two_winners = no_order five (calls_of two_winners) (λ t p q. rw (ne_eqb t 0 p, ne_eqb t 1 q)) tt

-- a read begins after a swap has ended, and answers the value before it
abbrev stale_read : List (Action × Event)
stale_read = (begin 0 (swap 0 5 7), accepted untried) ∷ (step 0, answers untried a_swap Yes 1 0 0) ∷ (begin 1 (read 0), accepted untried) ∷ (step 1, answers untried a_read (Value 5) 1 0 0) ∷ []

pub no_stale_read : (l : List Point) → Linearizes five (calls_of stale_read) l → ⊥
unfolding upd
no_stale_read = no_order five (calls_of stale_read) (λ t p q. rw (ne_eqb t 0 p, ne_eqb t 1 q)) tt

-- a swap is withdrawn; then a read answers the value before it, and a later one its new value: an effect after its drop
abbrev effect_after_a_drop : List (Action × Event)
effect_after_a_drop =
    (begin 0 (swap 0 5 7), accepted untried) ∷ (step 0, accepted untried) ∷ (drop 0, accepted untried) ∷
    (begin 1 (read 0), accepted untried) ∷ (step 1, answers untried a_read (Value 5) 1 0 0) ∷ (begin 1 (read 0), accepted untried) ∷ (step 1, answers untried a_read (Value 7) 1 0 0) ∷ []

pub no_effect_after_a_drop : (l : List Point) → Linearizes five (calls_of effect_after_a_drop) l → ⊥
unfolding upd
no_effect_after_a_drop = no_order five (calls_of effect_after_a_drop) (λ t p q. rw (ne_eqb t 0 p, ne_eqb t 1 q)) tt

-- a swap of 5 to 7 is pending, and is withdrawn at the end. Another swaps 7 back to 5, and a read after that answers 7: an effect twice
abbrev effect_twice : List (Action × Event)
effect_twice =
    (begin 0 (swap 0 5 7), accepted untried) ∷ (step 0, accepted untried) ∷ (begin 1 (swap 0 7 5), accepted untried) ∷ (step 1, answers untried a_swap Yes 1 0 0) ∷
    (begin 1 (read 0), accepted untried) ∷ (step 1, answers untried a_read (Value 7) 1 0 0) ∷ (step 0, accepted untried) ∷ (drop 0, accepted untried) ∷ []

pub no_effect_twice : (l : List Point) → Linearizes five (calls_of effect_twice) l → ⊥
unfolding upd
no_effect_twice = no_order five (calls_of effect_twice) (λ t p q. rw (ne_eqb t 0 p, ne_eqb t 1 q)) tt
