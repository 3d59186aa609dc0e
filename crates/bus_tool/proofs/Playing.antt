-- The loop over the actions.
use mathlib.Core.Path.{◌≡◌, refl, sym, ap, subst, ◌∙◌}
use mathlib.Core.Logic.{◌⊎◌, inl, inr}
use mathlib.Core.Bool.{Bool, true, false, cond}
use mathlib.Core.List.{List, [], ◌∷◌, ◌++◌, map, append_assoc}
use Prim.Native.Nat.{ℕ, ◌+◌, ◌≤◌, ◌<◌}
use native.Mathlib.Omega.{arith}
use lib.Dec.{eqb, ltb}
use lib.ListN as list
use lib.ListN.{length, get_or, set, replicate, length-set, length-replicate, get_or-replicate}
use lib.Seq.{get_or-set_same, get_or-set_other}
use borrow.Author.Tests.{ltb-true, eq-eqb, ne_eqb}
use Rattle.figure_lines.specs.Basics.{ands}
use Rattle.figure_lines.specs.Record.{record_at}
use Rattle.cells_spec.specs.declared.State.{State}
use Rattle.cells_spec.specs.Questions.{Question, answers, fit, begin_questions, swap_questions}
use Rattle.cells_spec.proofs.Tests.{nth}
use Rattle.cells_spec.proofs.Fits.{sizes}
use Rattle.cells_spec.specs.Answers.{Said, Refused, Acted, Ended, acts}
use Rattle.cells_spec.specs.Open.{After, leaving}
use Rattle.cells_spec.specs.Step.{step_asks}
use Rattle.cells_spec.specs.Drop.{drop_asks}
use Rattle.cells_spec.specs.Events.{report_of, event_of}
use Rattle.cells_spec.specs.Machine.{does, tried_by, pool}
use Rattle.cells_spec.proofs.Acts.{read-acts, swap-acts, step-acts, drop-acts}
use Rattle.history_spec.specs.History.{read, swap, Action, begin, step, drop, task_of, Report, Attempt, untried, Event, refused, accepted, answered, history}
use Rattle.history_spec.proofs.Basics.{either}
use Rattle.session_engine.proofs.Listed.{action_then, no_action as no_more}
use Rattle.bus_spec.specs.Bus.{Times, short_times, finished_calls, finished_count, timed, timed_from, Sums, no_sums, add_call, add_calls, bus_calls, call_line, call_lines, all_line, calls_text}
use Rattle.bus_spec.proofs.Fits.{Within, sums-after}
use Rattle.bus_tool.specs.Loop.{added, EndsWithin, bus_on}

-- AN ACTION THAT ACTS IS OF A TASK THAT THERE IS

module _ (s : State) (p : List ℕ) where
  second : (f : Bool) (l : List Question) (t : ℕ) → ands (answers ((6, f) ∷ (7, ltb t s.tasks) ∷ l)) ≡ true → t < s.tasks
  second f l t e = ltb-true t s.tasks (nth (answers ((6, f) ∷ (7, ltb t s.tasks) ∷ l)) e 1)

  task-below : (a : Action) → acts (does s p a).outcome ≡ true → task_of a < s.tasks
  task-below (begin t (read k)) e = second (fit s p) (list.drop 1 (begin_questions s.tasks s.cells (record_at s.records t) t k)) t (sym (read-acts s p t k) ∙ e)
  task-below (begin t (swap k x n)) e = second (fit s p) (list.drop 1 (swap_questions s.tasks s.cells (record_at s.records t) t k x n)) t (sym (swap-acts s p t k x n) ∙ e)
  task-below (step t) e = ltb-true t s.tasks (nth (answers (step_asks s p t)) (sym (step-acts s p t) ∙ e) 1)
  task-below (drop t) e = ltb-true t s.tasks (nth (answers (drop_asks s p t)) (sym (drop-acts s p t) ∙ e) 1)

-- AFTER i ACTIONS: THE CALLS BEFORE, COUNTED AND SUMMED

pub record SoFar (i : ℕ) (l : List ℕ) (z : Sums) (before : List (ℕ × Report)) : Type 0 where
  pub numbered : (t : ℕ) → t < 32 → get_or l t 0 ≡ finished_count t before
  pub tasks : length l ≡ 32
  pub few : length before ≤ i
  pub within : Within i z

pub none_yet : {l : List ℕ} {z : Sums} → l ≡ replicate 32 0 → z ≡ no_sums → SoFar 0 l z []
none_yet el ez = rw (el, ez) (record { numbered = λ t h. get_or-replicate {A = ℕ} 32 t 0 0 h; tasks = length-replicate {A = ℕ} 32 0; few = omega arith; within = (omega arith, omega arith) })

by_at_most : (t : ℕ) (l : List (ℕ × Report)) → finished_count t l ≤ length l
by_at_most t [] = omega arith
by_at_most t (f ∷ l) = go (eqb f.0 t) (by_at_most t l)
  where
    go : (b : Bool) → finished_count t l ≤ length l → cond b 1 0 + finished_count t l ≤ length (f ∷ l)
    go true h = omega (arith, h)
    go false h = omega (arith, h)

module _ {i : ℕ} {l : List ℕ} {z : Sums} {before : List (ℕ × Report)} (c : SoFar i l z before) where
  none_more : SoFar (i + 1) l z before
  none_more = record { numbered = c.numbered; tasks = c.tasks; few = omega (arith, c.few); within = (omega (arith, c.within.0), omega (arith, c.within.1)) }

  pub one_more : (w : Times) → short_times w ≡ true → (a : Action) (e : Event) → EndsWithin l a e → let x = added w l z a e in SoFar (i + 1) x.counts x.sums (finished_calls ((a, e) ∷ []) ++ before)
  one_more w k a (refused n) h = none_more
  one_more w k a (accepted x) h = none_more
  one_more w k a (answered x r) h = record {
    numbered = λ u m. go u m (either u t);
    tasks = length-set l t (get_or l t 0 + 1) ∙ c.tasks;
    few = omega (arith, c.few);
    within = sums-after w k i z (get_or l t 0) (t, r) c.within;
  }
    where
      t : ℕ
      t = task_of a

      go : (u : ℕ) → u < 32 → (u ≡ t) ⊎ (u ≡ t → ⊥) → get_or (set l t (get_or l t 0 + 1)) u 0 ≡ cond (eqb t u) 1 0 + finished_count u before
      go u m (inl e) = rw (e, eq-eqb t t refl) (get_or-set_same l t (get_or l t 0 + 1) 0 (omega (arith, c.tasks, h.0)) ∙ omega (arith, c.numbered t h.0))
      go u m (inr d) = rw (ne_eqb t u (λ e. d (sym e))) (get_or-set_other l t u (get_or l t 0 + 1) 0 d ∙ omega (arith, c.numbered u m))

  ends : (a : Action) (n : ℕ) (o : Said) → (acts o ≡ true → task_of a < n) → n ≤ 32 → i < 65535 → EndsWithin l a (event_of untried o)
  ends a n (Refused q) below small h = tt
  ends a n Acted below small h = tt
  ends a n (Ended f) below small h = let b = below refl in (omega (arith, b, small), omega (arith, c.numbered (task_of a) (omega (arith, b, small)), by_at_most (task_of a) before, c.few, h))

  -- of an action that a fit state took
  pub ends_now : (s : State) (p : List ℕ) (a : Action) {s' : State} {p' : List ℕ} {o : Said} → leaving s' p' o ≡ does s p a → fit s p ≡ true → i < 65535 → EndsWithin l a (event_of untried o)
  ends_now s p a {o = o} ed e h = ends a s.tasks o (λ x. task-below s p a (sym (ap (λ (y : After). acts y.outcome) ed) ∙ x)) (sizes s p e).tasks h

-- THE TEXT

module _ {i : ℕ} {l : List ℕ} {z : Sums} {before : List (ℕ × Report)} (c : SoFar i l z before) (w : Times) (s : State) (p : List ℕ) where
  -- from the action on, which gave y
  abbrev prints : Action → List Action → After → List ℕ
  prints a r y =
      let e = event_of untried y.outcome in
      let x = added w l z a e in
      x.text ++ bus_on w (finished_calls ((a, e) ∷ []) ++ before) x.sums (y.state, y.pool) r

  first : (a : Action) (r : List Action) → EndsWithin l a (event_of untried (does s p a).outcome) → bus_on w before z (s, p) (a ∷ r) ≡ prints a r (does s p a)
  unfolding bus_on call_lines
  first a r = let y = does s p a in go (tried_by s p a) y.outcome (history pool (y.state, y.pool) r)
    where
      text : List (ℕ × Report) → Sums → List (ℕ × Report) → List ℕ
      text b z m = let y = add_calls z (timed_from w b m) in call_lines (timed_from w b m) ++ all_line y y.longest

      go : (x : Attempt) (o : Said) (h : List (Action × Event)) → let e = event_of untried o in let d = added w l z a e in
          EndsWithin l a e → text before z (finished_calls ((a, event_of x o) ∷ h)) ≡ d.text ++ text (finished_calls ((a, e) ∷ []) ++ before) d.sums (finished_calls h)
      go x (Refused q) h k = refl
      go x Acted h k = refl
      go x (Ended f) h k =
          let d = timed w (get_or l (task_of a) 0) (task_of a, report_of f) in
          let m = timed_from w ((task_of a, report_of f) ∷ before) (finished_calls h) in
          let y = add_calls (add_call z d) m in
          let same : List ℕ = call_line d ++ (call_lines m ++ all_line y y.longest) in
          subst (λ (n : ℕ). let d' = timed w n (task_of a, report_of f) in let y' = add_calls (add_call z d') m in (call_line d' ++ call_lines m) ++ all_line y' y'.longest ≡ same) (c.numbered (task_of a) k.0) (append_assoc (call_line d) (call_lines m) (all_line y y.longest))

  pub one_action : (f : ℕ → Action) (kept : List ℕ) {z' : Sums} {s' : State} {p' : List ℕ} {o : Said} {a : Action} → i < length kept → a ≡ f (get_or kept i 0) → leaving s' p' o ≡ does s p a
      → EndsWithin l a (event_of untried o) → let e = event_of untried o in let x = added w l z a e in z' ≡ x.sums →
      bus_on w before z (s, p) (list.drop i (map f kept)) ≡ x.text ++ bus_on w (finished_calls ((a, e) ∷ []) ++ before) z' (s', p') (list.drop (i + 1) (map f kept))
  one_action f kept {a = a} h ea ed k ez =
      let rest = list.drop (i + 1) (map f kept) in
      rw (action_then f kept i h, ← ea, ez) (first a rest (subst (λ (y : After). EndsWithin l a (event_of untried y.outcome)) ed k) ∙ ap (prints a rest) (sym ed))

pub no_action : (w : Times) (before : List (ℕ × Report)) (z : Sums) (s : State) (p : List ℕ) (f : ℕ → Action) (l : List ℕ) (i : ℕ) → length l ≤ i → bus_on w before z (s, p) (list.drop i (map f l)) ≡ all_line z z.longest
unfolding bus_on call_lines
no_action w before z s p f l i h = rw (no_more f l i h)

-- before the first action
pub start-text : (w : Times) (z : Sums) (s : State) (p : List ℕ) (l : List Action) → z ≡ no_sums → calls_text (bus_calls w (s, p) l) ≡ bus_on w [] z (s, p) l
unfolding bus_on
start-text w z s p l ez = rw ez
