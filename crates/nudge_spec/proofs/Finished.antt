-- A finished call is found by its begin; and what comes after its last step does not change its answer.
use mathlib.Core.Path.{◌≡◌, refl, sym, ap, ◌∙◌}
use mathlib.Core.Logic.{◌⊎◌, inl, inr}
use mathlib.Core.Bool.{Bool, true, false}
use mathlib.Core.Option.{Option, none, some}
use mathlib.Core.List.{List, [], ◌∷◌}
use Prim.Native.Nat.{ℕ, zero, suc, ◌+◌, ◌<◌}
use lib.Dec.{ltb}
use native.Mathlib.Omega.{arith}
use borrow.Author.Tests.{eq-eqb, ne_eqb, ltb-true, ltb-false}
use Rattle.history_spec.specs.Basics.{◌∈◌}
use Rattle.history_spec.specs.History.{Action, begin, step, drop, task_of, Response, Event, refused, accepted, answered, Call, FinishedCall, Calls, no_calls, advanced, closed, enter, enter_all, calls_of, history}
use Rattle.history_spec.proofs.Basics.{clash}
use Rattle.nudge_spec.specs.Exchange.{exchanged, moved_to, answer_at}
use Rattle.nudge_spec.proofs.Ledger.{begin_of, begins, answers, begun_at, answering, ended, adding, entered-answers, entered-now, own_begin, begin-cases, ended_is, Early, early_start, early_next}
use Rattle.nudge_spec.proofs.Moved.{moved_early}

-- the answers hold no pending call, and every finished one with its own answer
pub record Found (b : Calls) : Type 0 where
  pub unanswered : (t k : ℕ) → begins b t ≡ some k → answers b k ≡ none
  pub found : (f : FinishedCall) → f ∈ b.finished → answers b f.call.start.at ≡ some f.report.answer

pub found-start : Found no_calls
found-start = record { unanswered = λ t k e. refl; found = λ f i. absurd i }

-- a call that is finished after an entry was finished before it, or the entry ended it
pub ending-cases : (b : Calls) (a : Action) (e : Event) (f : FinishedCall) → f ∈ (enter b a e).finished
    → (f ∈ b.finished) ⊎ ((ended (begins b (task_of a)) a e ≡ some (f.call.start.at, f.report.answer)) × (f.call.last ≡ b.now))
ending-cases b a (refused r) f i = inl i
ending-cases b (begin t op) (accepted x) f i = inl i
ending-cases b (begin t op) (answered x r) f i = inl i
ending-cases b (step t) (accepted x) f i = inl i
ending-cases b (drop t) (accepted x) f i = inl i
ending-cases b (drop t) (answered x r) f i = inl i
ending-cases b (step t) (answered x r) f i = go (b.pending t) i
  where
    go : (o : Option Call) → f ∈ closed (advanced b x o) r b.finished → (f ∈ b.finished) ⊎ ((answering (begin_of o) r.answer ≡ some (f.call.start.at, f.report.answer)) × (f.call.last ≡ b.now))
    go none i = inl i
    go (some c) (inl q) = inr (sym (ap (λ (f : FinishedCall). some (f.call.start.at, f.report.answer)) q), ap (λ (f : FinishedCall). f.call.last) q)
    go (some c) (inr i) = inl i

-- who ends its call has none
ended_closes : (n : ℕ) (p : Option ℕ) (a : Action) (e : Event) (y : ℕ × Response) → ended p a e ≡ some y → begun_at n p a e ≡ none
ended_closes n p a (refused r) y h = absurd (clash refl h)
ended_closes n p (begin t op) (accepted x) y h = absurd (clash refl h)
ended_closes n p (begin t op) (answered x r) y h = absurd (clash refl h)
ended_closes n p (step t) (accepted x) y h = absurd (clash refl h)
ended_closes n p (step t) (answered x r) y h = refl
ended_closes n p (drop t) (accepted x) y h = refl
ended_closes n p (drop t) (answered x r) y h = absurd (clash refl h)

pub kept : (b : Calls) (a : Action) (e : Event) → Found b → (m : ℕ) (r : Response) → answers b m ≡ some r → answers (enter b a e) m ≡ some r
kept b a e F m r h = entered-answers b a e m ∙ go (ended (begins b (task_of a)) a e) refl
  where
    go : (o : Option (ℕ × Response)) → ended (begins b (task_of a)) a e ≡ o → adding o (answers b m) m ≡ some r
    go none q = h
    go (some (k, s)) q = rw (ne_eqb k m (λ z. clash (F.unanswered (task_of a) k (ended_is (begins b (task_of a)) a e k s q)) (ap (answers b) z ∙ h))) h

pub found-next : (b : Calls) (a : Action) (e : Event) → Early b → Found b → Found (enter b a e)
found-next b a e E F = record { unanswered = still; found = λ f i. ends f (ending-cases b a e f i) }
  where
    ends : (f : FinishedCall) → (f ∈ b.finished) ⊎ ((ended (begins b (task_of a)) a e ≡ some (f.call.start.at, f.report.answer)) × (f.call.last ≡ b.now))
        → answers (enter b a e) f.call.start.at ≡ some f.report.answer
    ends f (inl i) = kept b a e F f.call.start.at f.report.answer (F.found f i)
    ends f (inr (q, l)) = let m = f.call.start.at in entered-answers b a e m ∙ (ap (λ o. adding o (answers b m) m) q ∙ rw (eq-eqb m m refl))

    before : (s k : ℕ) → (begins b s ≡ some k) ⊎ ((s ≡ task_of a) × (b.now ≡ k)) → answers b k ≡ none
    before s k (inl p) = F.unanswered s k p
    before s k (inr (q, n)) = E.not_yet k (omega (arith, n))

    other : (s k j : ℕ) (r : Response) → begins (enter b a e) s ≡ some k → ended (begins b (task_of a)) a e ≡ some (j, r) → (begins b s ≡ some k) ⊎ ((s ≡ task_of a) × (b.now ≡ k)) → j ≡ k → ⊥
    other s k j r h q (inl p) z =
        let own = ended_is (begins b (task_of a)) a e j r q in
        let t : s ≡ task_of a = E.single s (task_of a) k p (own ∙ ap some z) in
        clash (own_begin b a e ∙ ended_closes b.now (begins b (task_of a)) a e (j, r) q) (ap (begins (enter b a e)) (sym t) ∙ h)
    other s k j r h q (inr (t, n)) z = omega (arith, E.past (task_of a) j (ended_is (begins b (task_of a)) a e j r q), n, z)

    still : (s k : ℕ) → begins (enter b a e) s ≡ some k → answers (enter b a e) k ≡ none
    still s k h = entered-answers b a e k ∙ go (ended (begins b (task_of a)) a e) refl
      where
        go : (o : Option (ℕ × Response)) → ended (begins b (task_of a)) a e ≡ o → adding o (answers b k) k ≡ none
        go none q = before s k (begin-cases b a e s k h)
        go (some (j, r)) q = rw (ne_eqb j k (other s k j r h q (begin-cases b a e s k h))) (before s k (begin-cases b a e s k h))

found_on : (h : List (Action × Event)) (b : Calls) → Early b → Found b → Found (enter_all b h)
found_on [] b E F = F
found_on (x ∷ h) b E F = found_on h (enter b x.0 x.1) (early_next b x.0 x.1 E) (found-next b x.0 x.1 E F)

-- Every finished call of a history is found by its begin.
pub finished-answers : (h : List (Action × Event)) (f : FinishedCall) → f ∈ (calls_of h).finished → answer_at f.call.start.at h ≡ some f.report.answer
finished-answers h = (found_on h no_calls early_start found-start).found

-- AFTER ITS LAST STEP

pub kept_on : (h : List (Action × Event)) (b : Calls) → Early b → Found b → (m : ℕ) (r : Response) → answers b m ≡ some r → answers (enter_all b h) m ≡ some r
kept_on [] b E F m r q = q
kept_on (x ∷ h) b E F m r q = kept_on h (enter b x.0 x.1) (early_next b x.0 x.1 E) (found-next b x.0 x.1 E F) m r (kept b x.0 x.1 F m r q)

-- whose last step is past is finished already
pub earlier : (h : List (Action × Event)) (b : Calls) (f : FinishedCall) → f ∈ (enter_all b h).finished → f.call.last < b.now → f ∈ b.finished
earlier [] b f i l = i
earlier (x ∷ h) b f i l = go (ending-cases b x.0 x.1 f (earlier h (enter b x.0 x.1) f i (rw (entered-now b x.0 x.1) (omega (arith, l)))))
  where
    go : (f ∈ b.finished) ⊎ ((ended (begins b (task_of x.0)) x.0 x.1 ≡ some (f.call.start.at, f.report.answer)) × (f.call.last ≡ b.now)) → f ∈ b.finished
    go (inl i) = i
    go (inr (q, n)) = absurd (omega (arith, l, n))

begun-before : (b : Calls) → Early b → Found b → (f : FinishedCall) → f ∈ b.finished → f.call.start.at < b.now
begun-before b E F f i = go (ltb f.call.start.at b.now) refl
  where
    go : (c : Bool) → ltb f.call.start.at b.now ≡ c → f.call.start.at < b.now
    go true q = ltb-true f.call.start.at b.now q
    go false q = absurd (clash (E.not_yet f.call.start.at (ltb-false f.call.start.at b.now q)) (F.found f i))

module _ {S : Type 0} (act : S → Action → S × Event) where
  exchange_after : (i j : ℕ) (l : List Action) (s : S) (b : Calls) → Early b → Found b → i ≡ b.now + j → (f : FinishedCall) → f ∈ (enter_all b (history act s l)).finished → f.call.last < i
      → (f.call.start.at < i) × (answers (enter_all b (history act s (exchanged j l))) f.call.start.at ≡ some f.report.answer)
  exchange_after i j [] s b E F q f d z = (omega (arith, q, begun-before b E F f d), F.found f d)
  exchange_after i zero (a ∷ l) s b E F q f d z = go l (earlier (history act s (a ∷ l)) b f d (omega (arith, q, z)))
    where
      go : (l : List Action) → f ∈ b.finished → (f.call.start.at < i) × (answers (enter_all b (history act s (exchanged 0 (a ∷ l)))) f.call.start.at ≡ some f.report.answer)
      go [] k = (omega (arith, q, begun-before b E F f k), kept_on (history act s (a ∷ [])) b E F f.call.start.at f.report.answer (F.found f k))
      go (c ∷ l) k = (omega (arith, q, begun-before b E F f k), kept_on (history act s (c ∷ a ∷ l)) b E F f.call.start.at f.report.answer (F.found f k))
  exchange_after i (suc j) (a ∷ l) s b E F q f d z =
      let e = (act s a).1 in
      exchange_after i j l (act s a).0 (enter b a e) (early_next b a e E) (found-next b a e E F) (rw (entered-now b a e) (omega (arith, q))) f d z

  -- An exchange of actions that both come after a call's last step leaves it where it was, with its answer: of any machine.
  pub later-answers : (s : S) (actions : List Action) (f : FinishedCall) → f ∈ (calls_of (history act s actions)).finished → (i : ℕ) → f.call.last < i
      → answer_at (moved_to i f.call.start.at) (history act s (exchanged i actions)) ≡ some f.report.answer
  later-answers s l f d i z =
      let (early, same) = exchange_after i i l s no_calls early_start found-start (omega arith) f d z in
      ap (λ m. answer_at m (history act s (exchanged i l))) (moved_early i f.call.start.at early) ∙ same
