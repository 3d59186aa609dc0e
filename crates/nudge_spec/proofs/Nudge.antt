-- What nudge reports: the earliest exchange that nudges the call, at or before its last step, of two actions that are not apart.
use mathlib.Core.Path.{◌≡◌, refl, sym, ap, ◌∙◌}
use mathlib.Core.Logic.{◌⊎◌, inl, inr}
use mathlib.Core.Bool.{Bool, true, false, not, ◌&&◌, cond}
use mathlib.Core.Option.{none, some}
use mathlib.Core.List.{List, [], ◌∷◌}
use Prim.Native.Nat.{ℕ, zero, suc, ◌+◌, ◌≤◌, ◌<◌}
use lib.Dec.{eqb, ltb}
use lib.ListN.{length}
use native.Mathlib.Omega.{arith}
use borrow.Author.Tests.{eq-eqb, eqb-true, ltb-true, ltb-false}
use Rattle.cells_spec.specs.declared.State.{State}
use Rattle.cells_spec.specs.Questions.{refusal, open_questions}
use Rattle.cells_spec.specs.Machine.{Pool, pool}
use Rattle.history_spec.specs.Basics.{◌∈◌}
use Rattle.history_spec.specs.History.{Action, Response, Value, Yes, No, Event, FinishedCall, history, calls_of}
use Rattle.history_spec.proofs.Basics.{either, clash, some_inj, mem_append}
use Rattle.figure.specs.Figure.{opening}
use Rattle.figure.specs.Exchange.{ApartAt}
use Rattle.cells_theorems.specs.Terms.{start}
use Rattle.nudge_spec.specs.Exchange.{exchanged, moved_to, answer_at}
use Rattle.nudge_spec.specs.Nudge.{finished_by, at_place, named_call, of_two_tasks, same_answer, answers_still, nudges, earliest, nudge}
use Rattle.nudge_spec.proofs.Finished.{finished-answers, later-answers}
use Rattle.nudge_spec.proofs.Exchange.{apart_answers}

-- THE NAMED CALL is a finished call of the task

after_in : {A : Type 0} (n : ℕ) (l : List A) (a : A) → at_place n l ≡ some a → a ∈ l
after_in n [] a h = absurd (clash refl h)
after_in zero (x ∷ l) a h = inl (sym (some_inj refl h))
after_in (suc n) (x ∷ l) a h = inr (after_in n l a h)

of_task_lem : (t : ℕ) (l : List FinishedCall) (f : FinishedCall) → f ∈ finished_by t l → (f ∈ l) × (f.call.start.task ≡ t)
of_task_lem t [] f i = absurd i
of_task_lem t (x ∷ l) f i = go (mem_append (finished_by t l) (cond (eqb x.call.start.task t) (x ∷ []) []) f i) (of_task_lem t l f)
  where
    last : (c : Bool) → eqb x.call.start.task t ≡ c → f ∈ cond c (x ∷ []) [] → (f ∈ (x ∷ l)) × (f.call.start.task ≡ t)
    last true q (inl e) = (inl e, ap (λ (f : FinishedCall). f.call.start.task) e ∙ eqb-true x.call.start.task t q)
    last false q i = absurd i
    last true q (inr x4) = elim x4 [ ]

    go : (f ∈ finished_by t l) ⊎ (f ∈ cond (eqb x.call.start.task t) (x ∷ []) []) → (f ∈ finished_by t l → (f ∈ l) × (f.call.start.task ≡ t)) → (f ∈ (x ∷ l)) × (f.call.start.task ≡ t)
    go (inl i) rec = let (k, q) = rec i in (inr k, q)
    go (inr i) rec = last (eqb x.call.start.task t) refl i

pub named_is_finished : (t n : ℕ) (h : List (Action × Event)) (f : FinishedCall) → named_call t n h ≡ some f → (f ∈ (calls_of h).finished) × (f.call.start.task ≡ t)
named_is_finished t n h f e = of_task_lem t (calls_of h).finished f (after_in n (finished_by t (calls_of h).finished) f e)

-- THE EARLIEST

module _ (g : ℕ → Bool) where
  earliest-some : (k i j : ℕ) → earliest g i k ≡ some j → (g j ≡ true) × ((m : ℕ) → i ≤ m → m < j → g m ≡ false)
  unfolding earliest
  earliest-some zero i j h = absurd (clash refl h)
  earliest-some (suc k) i j h = go (g i) refl h (earliest-some k (i + 1) j)
    where
      go : (c : Bool) → g i ≡ c → cond c (some i) (earliest g (i + 1) k) ≡ some j → (earliest g (i + 1) k ≡ some j → (g j ≡ true) × ((m : ℕ) → i + 1 ≤ m → m < j → g m ≡ false))
          → (g j ≡ true) × ((m : ℕ) → i ≤ m → m < j → g m ≡ false)
      go true q h rec = let e : i ≡ j = some_inj refl h in (ap g (sym e) ∙ q, λ m l o. absurd (omega (arith, e, l, o)))
      go false q h rec = let (holds, none_before) = rec h in (holds, λ m l o. first m l o (either m i) none_before)
        where
          first : (m : ℕ) → i ≤ m → m < j → (m ≡ i) ⊎ (m ≡ i → ⊥) → ((m : ℕ) → i + 1 ≤ m → m < j → g m ≡ false) → g m ≡ false
          first m l o (inl e) rest = ap g e ∙ q
          first m l o (inr n) rest = rest m (omega (arith, l, n)) o

  earliest_none : (k i : ℕ) → earliest g i k ≡ none → (m : ℕ) → i ≤ m → m < i + k → g m ≡ false
  unfolding earliest
  earliest_none zero i h m l o = absurd (omega (arith, l, o))
  earliest_none (suc k) i h m l o = go (g i) refl h (either m i) (earliest_none k (i + 1))
    where
      go : (c : Bool) → g i ≡ c → cond c (some i) (earliest g (i + 1) k) ≡ none → (m ≡ i) ⊎ (m ≡ i → ⊥) → (earliest g (i + 1) k ≡ none → (m : ℕ) → i + 1 ≤ m → m < (i + 1) + k → g m ≡ false) → g m ≡ false
      go true q h z rec = absurd (clash h refl)
      go false q h (inl e) rec = ap g e ∙ q
      go false q h (inr n) rec = rec h m (omega (arith, l, n)) (omega (arith, o))

-- EXCHANGES THAT NUDGE NOTHING

same-itself : (a : Response) → same_answer a a ≡ true
same-itself (Value v) = eq-eqb v v refl
same-itself Yes = refl
same-itself No = refl

never : (c : Bool) → (c && false) ≡ false
never true = refl
never false = refl

still : (x : Pool) (l : List Action) (m : ℕ) (a : Response) (i : ℕ) → answer_at (moved_to i m) (history pool x (exchanged i l)) ≡ some a → nudges x l m a i ≡ false
still x l m a i h = ap (λ o. of_two_tasks i l && not (answers_still a o)) h ∙ (ap (λ c. of_two_tasks i l && not c) (same-itself a) ∙ never (of_two_tasks i l))

-- there is no action after action i
pub alone : (i : ℕ) (l : List Action) → length l ≤ suc i → of_two_tasks i l ≡ false
alone i [] h = refl
alone zero (a ∷ []) h = refl
alone zero (a ∷ b ∷ l) h = absurd (omega (arith, h))
alone (suc i) (a ∷ l) h = alone i l (omega (arith, h))

module _ (x : Pool) (actions : List Action) (f : FinishedCall) (finished : f ∈ (calls_of (history pool x actions)).finished) where
  abbrev nudges_it : ℕ → Bool
  nudges_it = nudges x actions f.call.start.at f.report.answer

  -- An exchange after the call's last step does not nudge it; the one of this step with the next action may.
  pub later_no_nudge : (i : ℕ) → f.call.last < i → nudges x actions f.call.start.at f.report.answer i ≡ false
  later_no_nudge i l = still x actions f.call.start.at f.report.answer i (later-answers pool x actions f finished i l)

  -- What is reported nudges the call, no earlier exchange does, and it is of the call's last step at the latest.
  pub reported_is_earliest : (i : ℕ) → nudge x actions f ≡ some i
      → (nudges x actions f.call.start.at f.report.answer i ≡ true) × ((m : ℕ) → m < i → nudges x actions f.call.start.at f.report.answer m ≡ false) × (i ≤ f.call.last)
  unfolding nudge
  reported_is_earliest i h = let (holds, before) = earliest-some nudges_it (length actions) 0 i h in (holds, λ m l. before m (omega arith) l, in_time holds (ltb f.call.last i) refl)
    where
      in_time : nudges_it i ≡ true → (c : Bool) → ltb f.call.last i ≡ c → i ≤ f.call.last
      in_time holds true q = absurd (differ (sym holds ∙ later_no_nudge i (ltb-true f.call.last i q)))
        where
          differ : true ≡ false → ⊥
          differ e = let z : ◌≡◌ {A = ℕ} 0 1 = cc in omega (arith, z)
      in_time holds false q = ltb-false f.call.last i q

  -- Where none is reported, no exchange nudges the call.
  pub none_is_none : nudge x actions f ≡ none → (i : ℕ) → nudges x actions f.call.start.at f.report.answer i ≡ false
  unfolding nudge
  none_is_none h i = go (ltb i (length actions)) refl
    where
      go : (c : Bool) → ltb i (length actions) ≡ c → nudges_it i ≡ false
      go true q = earliest_none nudges_it (length actions) 0 h i (omega arith) (omega (arith, ltb-true i (length actions) q))
      go false q = ap (λ c. c && not (answers_still f.report.answer (answer_at (moved_to i f.call.start.at) (history pool x (exchanged i actions))))) (alone i actions (omega (arith, ltb-false i (length actions) q)))

-- From an opening that is not refused, an exchange of two actions that are apart nudges no finished call.
pub apart_no_nudge : (old : State) (words : List ℕ) (tasks cells blocks : ℕ) (values : List ℕ) → refusal (open_questions (length words) tasks cells blocks values) ≡ none
    → (actions : List Action) → let x = start old words tasks cells blocks values in (f : FinishedCall) → f ∈ (calls_of (history pool x actions)).finished
    → (i : ℕ) → ApartAt (opening tasks cells values) i actions → nudges x actions f.call.start.at f.report.answer i ≡ false
apart_no_nudge old words n v b vs allowed l f d i p =
    still (start old words n v b vs) l f.call.start.at f.report.answer i
    (apart_answers old words n v b vs allowed l i f.call.start.at p ∙ finished-answers (history pool (start old words n v b vs) l) f d)
