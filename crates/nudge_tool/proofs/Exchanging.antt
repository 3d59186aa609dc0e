-- An exchange that the code tries from the state before it is the exchange of the definition.
use mathlib.Core.Path.{◌≡◌, refl, sym, ap, subst, ◌∙◌}
use mathlib.Core.Logic.{◌≢◌, ◌⊎◌, inl, inr}
use mathlib.Core.Bool.{Bool, true, false, not, ◌&&◌}
use mathlib.Core.Option.{Option, none, some}
use mathlib.Core.List.{List, [], ◌∷◌, ◌++◌, map, append-nil}
use Prim.Native.Nat.{ℕ, zero, suc, ◌+◌, ◌≤◌, ◌<◌}
use native.Mathlib.Nat.{add-zero, zero-add}
use native.Mathlib.Omega.{arith}
use lib.Dec.{eqb, ltb}
use lib.ListN.{length, take, drop, get_or, length-map, take-append-drop}
use lib.Seq.{length-take-le}
use borrow.Author.Tests.{eqb-false, ltb-true, ltb-false}
use Rattle.cells_spec.specs.declared.State.{State}
use Rattle.cells_spec.specs.Questions.{refusal, open_questions}
use Rattle.figure_lines.specs.declared.Record.{Record}
use Rattle.figure_lines.specs.Record.{record_at}
use Rattle.cells_spec.specs.Machine.{Pool, pool}
use Rattle.history_spec.specs.Basics.{◌∈◌}
use Rattle.history_spec.specs.History as History
use Rattle.history_spec.specs.History.{Action, begin, step, task_of, Event, FinishedCall, Calls, no_calls, enter, enter_all, calls_of, history, run}
use Rattle.history_spec.proofs.Basics.{either, clash, some_inj, history_append, enter_append}
use Rattle.figure.specs.Figure.{World, figure, opening}
use Rattle.figure.specs.Exchange.{if_accepted, touches, Apart, ApartAt}
use Rattle.cells_theorems.specs.Terms.{start}
use Rattle.cells_theorems.proofs.Demand3.{cells_meet_demand_3}
use Rattle.cells_theorems.proofs.Refines.{Together, together}
use Rattle.nudge_spec.specs.Exchange.{exchanged, moved_to, answer_at}
use Rattle.nudge_spec.specs.Nudge.{of_two_tasks, answers_still, nudges}
use Rattle.nudge_spec.proofs.Moved.{moved-first, moved_second, moved_other, moved_early, moved_back}
use Rattle.nudge_spec.proofs.Ledger.{answers, entered-now}
use Rattle.nudge_spec.proofs.Nudge.{apart_no_nudge}
use Rattle.nudge_tool.specs.Calls.{Summary, summary, calls, answer_of_call, Summarizes}
use Rattle.nudge_tool.specs.Exchange.{touched_by, same_cell, nudges_at}
use Rattle.nudge_tool.proofs.Asking.{Started}
use Rattle.nudge_tool.proofs.Following.{TasksOf, Between, between_start, between_on, BegunAt, followed, unanswered_yet}

-- LISTS WITH TWO ENTRIES EXCHANGED

pub exchanged_map : {A B : Type 0} (f : A → B) (i : ℕ) (l : List A) → map f (exchanged i l) ≡ exchanged i (map f l)
exchanged_map f i [] = refl
exchanged_map f zero (a ∷ []) = refl
exchanged_map f zero (a ∷ b ∷ l) = refl
exchanged_map f (suc i) (a ∷ l) = ap (λ m. f a ∷ m) (exchanged_map f i l)

pub exchanged_length : {A : Type 0} (i : ℕ) (l : List A) → length (exchanged i l) ≡ length l
exchanged_length i [] = refl
exchanged_length zero (a ∷ []) = refl
exchanged_length zero (a ∷ b ∷ l) = refl
exchanged_length (suc i) (a ∷ l) = ap suc (exchanged_length i l)

same-before : {A : Type 0} (i : ℕ) (l : List A) → take i (exchanged i l) ≡ take i l
same-before zero l = refl
same-before (suc i) [] = refl
same-before (suc i) (a ∷ l) = ap (λ m. a ∷ m) (same-before i l)

split_at : {A : Type 0} (i : ℕ) (l : List A) → exchanged i l ≡ take i l ++ drop i (exchanged i l)
split_at i l = sym (take-append-drop i (exchanged i l)) ∙ ap (λ m. m ++ drop i (exchanged i l)) (same-before i l)

moved_suc : (i j : ℕ) → moved_to (suc i) (suc j) ≡ suc (moved_to i j)
moved_suc i j = go (either j i) (either j (suc i))
  where
    go : (j ≡ i) ⊎ (j ≢ i) → (j ≡ suc i) ⊎ (j ≢ suc i) → moved_to (suc i) (suc j) ≡ suc (moved_to i j)
    go (inl e) z = moved-first (suc i) (suc j) (ap suc e) ∙ ap suc (sym (moved-first i j e))
    go (inr n) (inl e) = moved_second (suc i) (suc j) (ap suc e) ∙ ap suc (sym (moved_second i j e))
    go (inr n) (inr m) = moved_other (suc i) (suc j) (λ e. n (omega (arith, e))) (λ e. m (omega (arith, e))) ∙ ap suc (sym (moved_other i j n m))

pub exchanged-at : (i j : ℕ) (l : List ℕ) → suc i < length l → get_or (exchanged i l) j 0 ≡ get_or l (moved_to i j) 0
exchanged-at i j [] h = absurd (omega (arith, h))
exchanged-at zero j (a ∷ []) h = absurd (omega (arith, h))
exchanged-at zero zero (a ∷ b ∷ l) h = refl
exchanged-at zero (suc zero) (a ∷ b ∷ l) h = refl
exchanged-at zero (suc (suc j)) (a ∷ b ∷ l) h = ap (λ k. get_or (a ∷ b ∷ l) k 0) (sym (moved_other 0 (suc (suc j)) (λ e. omega (arith, e)) (λ e. omega (arith, e))))
exchanged-at (suc i) zero (a ∷ l) h = ap (λ k. get_or (a ∷ l) k 0) (sym (moved_early (suc i) 0 (omega arith)))
exchanged-at (suc i) (suc j) (a ∷ l) h = exchanged-at i j l (omega (arith, h)) ∙ ap (λ k. get_or (a ∷ l) k 0) (sym (moved_suc i j))

not_sooner : (i m : ℕ) → i ≤ m → i ≤ moved_to i m
not_sooner i m l = go (either m i) (either m (suc i))
  where
    go : (m ≡ i) ⊎ (m ≢ i) → (m ≡ suc i) ⊎ (m ≢ suc i) → i ≤ moved_to i m
    go (inl e) z = rw (moved-first i m e) (omega arith)
    go (inr o) (inl e) = rw (moved_second i m e) (omega arith)
    go (inr o) (inr q) = rw (moved_other i m o q) l

-- entries i and i + 1
record Two (i : ℕ) (l : List Action) : Type 0 where
  one : Action
  next : Action
  rest : List Action
  are : drop i l ≡ one ∷ next ∷ rest

two-there : (i : ℕ) (l : List Action) → suc i < length l → Two i l
two-there i [] h = absurd (omega (arith, h))
two-there zero (a ∷ []) h = absurd (omega (arith, h))
two-there zero (a ∷ b ∷ l) h = record { one = a; next = b; rest = l; are = refl }
two-there (suc i) (a ∷ l) h = let t = two-there i l (omega (arith, h)) in record { one = t.one; next = t.next; rest = t.rest; are = t.are }

not_empty : (a : Action) (l : List Action) → [] ≡ a ∷ l → ⊥
not_empty a l e = let z = ap length e in omega (arith, z)

two_tasks_at : (i : ℕ) (l : List Action) (a b : Action) (r : List Action) → drop i l ≡ a ∷ b ∷ r → of_two_tasks i l ≡ not (eqb (task_of a) (task_of b))
two_tasks_at zero l a b r e = ap (of_two_tasks 0) e
two_tasks_at (suc i) [] a b r e = absurd (not_empty a (b ∷ r) e)
two_tasks_at (suc i) (c ∷ l) a b r e = two_tasks_at i l a b r e

apart_at : (i : ℕ) (l : List Action) (w : World) (a b : Action) (r : List Action) → drop i l ≡ a ∷ b ∷ r → Apart (run figure w (take i l)) a b → ApartAt w i l
apart_at zero l w a b r e p = subst (λ l. ApartAt w 0 l) (sym e) p
apart_at (suc i) [] w a b r e p = absurd (not_empty a (b ∷ r) e)
apart_at (suc i) (c ∷ l) w a b r e p = apart_at i l (figure w c).0 a b r e p

-- HISTORIES

abbrev pub who_of : List Action → ℕ → ℕ
who_of l n = get_or (map task_of l) n 0

tasks_of : {S : Type 0} (act : S → Action → S × Event) (s : S) (l : List Action) (who : ℕ → ℕ) (n : ℕ) → ((j : ℕ) → who (n + j) ≡ who_of l j) → TasksOf who n (history act s l)
tasks_of act s [] who n h = tt
tasks_of act s (a ∷ l) who n h =
    (ap who (sym (add-zero n)) ∙ h 0, tasks_of act (act s a).0 l who (suc n) (λ j. let e : suc n + j ≡ n + suc j = omega arith in ap who e ∙ h (suc j)))

pub now-after : {S : Type 0} (act : S → Action → S × Event) (s : S) (l : List Action) (b : Calls) → (enter_all b (history act s l)).now ≡ b.now + length l
now-after act s [] b = sym (add-zero b.now)
now-after act s (a ∷ l) b = now-after act (act s a).0 l (enter b a (act s a).1) ∙ omega (arith, entered-now b a (act s a).1)

-- FROM AN OPENING THAT IS NOT REFUSED

module _ (old : State) (words : List ℕ) (tasks cells blocks : ℕ) (values : List ℕ) (allowed : refusal (open_questions (length words) tasks cells blocks values) ≡ none) (l : List Action) where
  abbrev x₀ : Pool
  x₀ = start old words tasks cells blocks values

  pub between : (m : List Action) → Between (who_of m) cells no_calls (history pool x₀ m)
  between m = between_start (history pool x₀ m) (cells_meet_demand_3 old words tasks cells blocks values allowed m).well_formed (tasks_of pool x₀ m (who_of m) 0 (λ j. ap (who_of m) (zero-add j)))

  -- before action i
  abbrev before : ℕ → Calls
  before i = enter_all no_calls (history pool x₀ (take i l))

  abbrev there : ℕ → Pool
  there i = run pool x₀ (take i l)

  between_at : (i : ℕ) (m r : List Action) → m ≡ take i l ++ r → Between (who_of m) cells (before i) (history pool (there i) r)
  between_at i m r e = between_on (history pool x₀ (take i l)) (subst (λ h. Between (who_of m) cells no_calls h) (ap (history pool x₀) e ∙ history_append pool x₀ (take i l) r) (between m))

  all-calls : (i : ℕ) (r : List Action) → calls_of (history pool x₀ (take i l ++ r)) ≡ enter_all (before i) (history pool (there i) r)
  all-calls i r = ap calls_of (history_append pool x₀ (take i l) r) ∙ enter_append no_calls (history pool x₀ (take i l)) (history pool (there i) r)

  module _ (i : ℕ) (two : suc i < length l) where
    now-is : (before i).now ≡ i
    now-is = omega (arith, now-after pool x₀ (take i l) no_calls, length-take-le i l (omega (arith, two)))

    -- THE ANSWER, of a finished call whose last step is not past
    module _ (f : FinishedCall) (finished : f ∈ (calls_of (history pool x₀ l)).finished) (yet : i ≤ f.call.last) where
      abbrev m : ℕ
      m = f.call.start.at

      its-task : who_of l m ≡ f.call.start.task
      its-task = (between_on (history pool x₀ l) (subst (λ h. Between (who_of l) cells no_calls h) (sym (append-nil (history pool x₀ l))) (between l))).whose.of_finished f finished

      moved-task : who_of (exchanged i l) (moved_to i m) ≡ f.call.start.task
      moved-task =
          ap (λ k. get_or k (moved_to i m) 0) (exchanged_map task_of i l)
          ∙ exchanged-at i (moved_to i m) (map task_of l) (omega (arith, two, length-map l task_of))
          ∙ ap (who_of l) (moved_back i m) ∙ its-task

      no_answer : answers (before i) (moved_to i m) ≡ none
      no_answer = go (ltb m i) refl
        where
          go : (c : Bool) → ltb m i ≡ c → answers (before i) (moved_to i m) ≡ none
          go true q =
              ap (answers (before i)) (moved_early i m (ltb-true m i q))
              ∙ unanswered_yet (history pool (there i) (drop i l)) (before i) (between_at i l (drop i l) (sym (take-append-drop i l))) f
              (subst (λ (b : Calls). f ∈ b.finished) (ap (λ k. calls_of (history pool x₀ k)) (sym (take-append-drop i l)) ∙ all-calls i (drop i l)) finished) (omega (arith, yet, now-is))
          go false q = (between_at i l (drop i l) (sym (take-append-drop i l))).early.not_yet (moved_to i m) (omega (arith, now-is, not_sooner i m (ltb-false m i q)))

      exchange_answer : (k : ℕ) → BegunAt (before i) f.call.start.task k
          → answer_at (moved_to i m) (history pool x₀ (exchanged i l)) ≡ answer_of_call (moved_to i m) (calls f.call.start.task k i (history pool (there i) (drop i (exchanged i l))))
      exchange_answer k K =
          ap (λ e. answer_at (moved_to i m) (history pool x₀ e)) (split_at i l)
          ∙ ap (λ (b : Calls). answers b (moved_to i m)) (all-calls i (drop i (exchanged i l)))
          ∙ followed f.call.start.task (moved_to i m) moved-task (history pool (there i) (drop i (exchanged i l))) (before i) k (between_at i (exchanged i l) (drop i (exchanged i l)) (split_at i l)) K no_answer
          ∙ ap (λ n. answer_of_call (moved_to i m) (calls f.call.start.task k n (history pool (there i) (drop i (exchanged i l))))) now-is

    -- WHAT AN ACTION TOUCHES, in the pool as in the figure
    abbrev w : World
    w = run figure (opening tasks cells values) (take i l)

    agrees : Together tasks cells (there i) w
    agrees = together old words tasks cells blocks values allowed (take i l)

    same_touch : (a : Action) → touched_by (there i).0.tasks (record_at (there i).0.records) a ≡ touches w a
    same_touch (begin t op) = refl
    same_touch (History.drop t) = refl
    same_touch (step t) = rw (agrees.agree.sizes.same-tasks, agrees.agree.sizes.tasks_too) (go (ltb t tasks) refl)
      where
        touched : Record → Bool → Option ℕ
        touched r c = if_accepted (refusal ((7, c) ∷ (11, not (eqb r.line 0)) ∷ [])) r.cell

        go : (c : Bool) → ltb t tasks ≡ c → touched (record_at (there i).0.records t) (ltb t tasks) ≡ touched (w.records t) (ltb t tasks)
        go false e = rw e
        go true e = ap (λ (r : Record). touched r (ltb t tasks)) (agrees.agree.records t (ltb-true t tasks e)).same

    not_same : (o p : Option ℕ) → same_cell o p ≡ false → (k : ℕ) → o ≡ some k → p ≢ some k
    not_same none p e k q z = clash refl q
    not_same (some j) none e k q z = clash refl z
    not_same (some j) (some n) e k q z = eqb-false j n e (some_inj refl q ∙ sym (some_inj refl z))

    apart : (a b : Action) → task_of a ≢ task_of b → same_cell (touched_by (there i).0.tasks (record_at (there i).0.records) a) (touched_by (there i).0.tasks (record_at (there i).0.records) b) ≡ false → Apart w a b
    apart a b n e = record { tasks = n; cells = λ k p q. not_same _ _ e k (same_touch a ∙ p) (same_touch b ∙ q) }

    -- THE EXCHANGE
    module _ (f : FinishedCall) (finished : f ∈ (calls_of (history pool x₀ l)).finished) (yet : i ≤ f.call.last) (k : ℕ) (K : BegunAt (before i) f.call.start.task k) where
      tried-there : nudges_at (there i) l f.call.start.task k f.call.start.at f.report.answer i ≡ nudges x₀ l f.call.start.at f.report.answer i
      tried-there = rw t.are (go (eqb (task_of t.one) (task_of t.next)) refl (same_cell touch touch') refl)
        where
          t : Two i l
          t = two-there i l two

          touch : Option ℕ
          touch = touched_by (there i).0.tasks (record_at (there i).0.records) t.one

          touch' : Option ℕ
          touch' = touched_by (there i).0.tasks (record_at (there i).0.records) t.next

          moved : Bool
          moved = not (answers_still f.report.answer (answer_at (moved_to i f.call.start.at) (history pool x₀ (exchanged i l))))

          tasks_are : (c : Bool) → eqb (task_of t.one) (task_of t.next) ≡ c → nudges x₀ l f.call.start.at f.report.answer i ≡ (not c && moved)
          tasks_are c e = ap (λ d. d && moved) (two_tasks_at i l t.one t.next t.rest t.are ∙ ap not e)

          go : (c : Bool) → eqb (task_of t.one) (task_of t.next) ≡ c → (d : Bool) → same_cell touch touch' ≡ d
              → ((not (eqb (task_of t.one) (task_of t.next)) && same_cell touch touch') && not (answers_still f.report.answer (answer_of_call (moved_to i f.call.start.at) (calls f.call.start.task k i (history pool (there i) (drop i (exchanged i l)))))))
              ≡ nudges x₀ l f.call.start.at f.report.answer i
          go true e d z = rw (e) (sym (tasks_are true e))
          go false e false z =
              rw (e, z) (sym (apart_no_nudge old words tasks cells blocks values allowed l f finished i
              (apart_at i l (opening tasks cells values) t.one t.next t.rest t.are (apart t.one t.next (eqb-false (task_of t.one) (task_of t.next) e) z))))
          go false e true z = rw (e, z, ← (exchange_answer f finished yet k K)) (sym (tasks_are false e))

-- Of newly opened cells; x is the state before action i.
pub tried-is : {s : State} {p : List ℕ} (F : Started s p) (l : List Action) (task : ℕ) (c : Summary) → Summarizes (history pool (s, p) l) task c
    → (i : ℕ) → suc i < length l → i ≤ c.last → (x : Pool) → x ≡ run pool (s, p) (take i l) → (k : ℕ) → BegunAt (enter_all no_calls (history pool (s, p) (take i l))) task k
    → nudges_at x l task k c.at c.answer i ≡ nudges (s, p) l c.at c.answer i
tried-is {s} {p} F l task c N i two yet x e k K = subst Claim (sym F.came) of_start N.call N.finished N.its-task N.kept (e) K
  where
    Claim : Pool → Type 0
    Claim y = (f : FinishedCall) → f ∈ (calls_of (history pool y l)).finished → f.call.start.task ≡ task → summary f ≡ c → x ≡ run pool y (take i l) → BegunAt (enter_all no_calls (history pool y (take i l))) task k
        → nudges_at x l task k c.at c.answer i ≡ nudges y l c.at c.answer i

    of_start : Claim (start F.old F.words s.tasks s.cells F.blocks F.values)
    of_start f fin t sc e K =
        let y = start F.old F.words s.tasks s.cells F.blocks F.values in
        let at : f.call.start.at ≡ c.at = ap (λ (c : Summary). c.at) sc in
        let answer : f.report.answer ≡ c.answer = ap (λ (c : Summary). c.answer) sc in
        let last : f.call.last ≡ c.last = ap (λ (c : Summary). c.last) sc in
        rw (e, ← at, ← answer, ← t) (tried-there F.old F.words s.tasks s.cells F.blocks F.values F.allowed l i two f fin (omega (arith, yet, last)) k (subst (λ u. BegunAt (enter_all no_calls (history pool y (take i l))) u k) (sym t) K))
