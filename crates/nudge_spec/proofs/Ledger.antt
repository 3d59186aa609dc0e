-- In any history two neighbouring entries of different tasks can be exchanged: every call that is known by its begin answers as before.
use mathlib.Core.Path.{◌≡◌, refl, sym, ap, ap₂, ◌∙◌, subst}
use mathlib.Core.Logic.{◌≢◌, ◌⊎◌, inl, inr}
use mathlib.Core.Bool.{cond}
use mathlib.Core.Option.{Option, none, some}
use mathlib.Core.List.{List, [], ◌∷◌}
use Prim.Native.Nat.{ℕ, zero, suc, ◌+◌, ◌≤◌, ◌<◌}
use lib.Dec.{eqb}
use native.Mathlib.Omega.{arith}
use borrow.Author.Tests.{eq-eqb, ne_eqb}
use Rattle.history_spec.specs.Basics.{upd}
use Rattle.history_spec.specs.History.{Action, begin, step, drop, task_of, Response, Attempt, Event, refused, accepted, answered, Call, Calls, no_calls, called, advanced, closed, enter, enter_all}
use Rattle.history_spec.proofs.Basics.{either, upd-at, upd_same, upd_off, clash, some_inj}
use Rattle.nudge_spec.specs.Exchange.{exchanged, moved_to, answer_in, answer_at}
use Rattle.nudge_spec.proofs.Moved.{moved-first, moved_second, moved_other, moved_early, moved_late, moved_eqb}

abbrev moved : ℕ → Option ℕ → Option ℕ
moved i none = none
moved i (some k) = some (moved_to i k)

-- WHAT AN ENTRY DOES: to the begin of its task's pending call, and to the answers by begin

abbrev pub begin_of : Option Call → Option ℕ
begin_of none = none
begin_of (some c) = some c.start.at

abbrev pub begins : Calls → ℕ → Option ℕ
begins b t = begin_of (b.pending t)

abbrev pub answers : Calls → ℕ → Option Response
answers b m = answer_in m b.finished

abbrev pub begun_at : ℕ → Option ℕ → Action → Event → Option ℕ
begun_at n p a (refused r) = p
begun_at n p (begin t op) (accepted x) = some n
begun_at n p (begin t op) (answered x r) = p
begun_at n p (step t) (accepted x) = p
begun_at n p (step t) (answered x r) = none
begun_at n p (drop t) (accepted x) = none
begun_at n p (drop t) (answered x r) = p

-- the call that the entry ends with an answer, by its begin, and this answer; a drop ends its task's call without one
abbrev pub answering : Option ℕ → Response → Option (ℕ × Response)
answering none a = none
answering (some k) a = some (k, a)

abbrev pub ended : Option ℕ → Action → Event → Option (ℕ × Response)
ended p a (refused r) = none
ended p (begin t op) (accepted x) = none
ended p (begin t op) (answered x r) = none
ended p (step t) (accepted x) = none
ended p (step t) (answered x r) = answering p r.answer
ended p (drop t) (accepted x) = none
ended p (drop t) (answered x r) = none

abbrev pub adding : Option (ℕ × Response) → Option Response → ℕ → Option Response
adding none o m = o
adding (some (k, a)) o m = cond (eqb k m) (some a) o

upd_none : {A : Type 0} (f : ℕ → A) (t s : ℕ) → f s ≡ upd f t (f t) s
upd_none f t s = go (either s t)
  where
    go : (s ≡ t) ⊎ (s ≢ t) → f s ≡ upd f t (f t) s
    go (inl e) = ap f e ∙ sym (upd-at f t (f t) s e)
    go (inr n) = sym (upd_off f t (f t) s n)

upd-begin : (f : ℕ → Option Call) (t : ℕ) (c : Option Call) (s : ℕ) → begin_of (upd f t c s) ≡ upd (λ u. begin_of (f u)) t (begin_of c) s
upd-begin f t c s = go (either s t)
  where
    go : (s ≡ t) ⊎ (s ≢ t) → begin_of (upd f t c s) ≡ upd (λ u. begin_of (f u)) t (begin_of c) s
    go (inl e) = ap begin_of (upd-at f t c s e) ∙ sym (upd-at (λ u. begin_of (f u)) t (begin_of c) s e)
    go (inr n) = ap begin_of (upd_off f t c s n) ∙ sym (upd_off (λ u. begin_of (f u)) t (begin_of c) s n)

advanced-begin : (b : Calls) (o : Option Call) (x : Attempt) → begin_of (advanced b x o) ≡ begin_of o
advanced-begin b none x = refl
advanced-begin b (some c) x = refl

entered-begins : (b : Calls) (a : Action) (e : Event) (s : ℕ) → begins (enter b a e) s ≡ upd (begins b) (task_of a) (begun_at b.now (begins b (task_of a)) a e) s
entered-begins b a (refused r) s = upd_none (begins b) (task_of a) s
entered-begins b (begin t op) (accepted x) s = upd-begin b.pending t (some (called b t op)) s
entered-begins b (begin t op) (answered x r) s = upd_none (begins b) t s
entered-begins b (step t) (accepted x) s = upd-begin b.pending t (advanced b x (b.pending t)) s ∙ ap (λ p. upd (begins b) t p s) (advanced-begin b (b.pending t) x)
entered-begins b (step t) (answered x r) s = upd-begin b.pending t none s
entered-begins b (drop t) (accepted x) s = upd-begin b.pending t none s
entered-begins b (drop t) (answered x r) s = upd_none (begins b) t s

pub entered-answers : (b : Calls) (a : Action) (e : Event) (m : ℕ) → answers (enter b a e) m ≡ adding (ended (begins b (task_of a)) a e) (answers b m) m
entered-answers b a (refused r) m = refl
entered-answers b (begin t op) (accepted x) m = refl
entered-answers b (begin t op) (answered x r) m = refl
entered-answers b (step t) (accepted x) m = refl
entered-answers b (drop t) (accepted x) m = refl
entered-answers b (drop t) (answered x r) m = refl
entered-answers b (step t) (answered x r) m = go (b.pending t)
  where
    go : (o : Option Call) → answer_in m (closed (advanced b x o) r b.finished) ≡ adding (answering (begin_of o) r.answer) (answers b m) m
    go none = refl
    go (some c) = refl

pub entered-now : (b : Calls) (a : Action) (e : Event) → (enter b a e).now ≡ suc b.now
entered-now b a (refused r) = refl
entered-now b (begin t op) (accepted x) = refl
entered-now b (begin t op) (answered x r) = refl
entered-now b (step t) (accepted x) = refl
entered-now b (step t) (answered x r) = refl
entered-now b (drop t) (accepted x) = refl
entered-now b (drop t) (answered x r) = refl

pub own_begin : (b : Calls) (a : Action) (e : Event) → begins (enter b a e) (task_of a) ≡ begun_at b.now (begins b (task_of a)) a e
own_begin b a e = entered-begins b a e (task_of a) ∙ upd_same (begins b) (task_of a) _

pub other_begin : (b : Calls) (a : Action) (e : Event) (s : ℕ) → s ≢ task_of a → begins (enter b a e) s ≡ begins b s
other_begin b a e s n = entered-begins b a e s ∙ upd_off (begins b) (task_of a) _ s n

-- EVERY CALL WAS BEGUN BEFORE NOW, each at a moment of its own

pub record Early (b : Calls) : Type 0 where
  pub past : (t k : ℕ) → begins b t ≡ some k → k < b.now
  pub not_yet : (m : ℕ) → b.now ≤ m → answers b m ≡ none
  pub single : (t u k : ℕ) → begins b t ≡ some k → begins b u ≡ some k → t ≡ u

pub early_start : Early no_calls
early_start = record { past = λ t k e. absurd (clash refl e); not_yet = λ m l. refl; single = λ t u k e f. absurd (clash refl e) }

-- a task's begin after an entry of it: it was there, or it is now
begun-cases : (n : ℕ) (p : Option ℕ) (a : Action) (e : Event) (k : ℕ) → begun_at n p a e ≡ some k → (p ≡ some k) ⊎ (n ≡ k)
begun-cases n p a (refused r) k h = inl h
begun-cases n p (begin t op) (accepted x) k h = inr (some_inj refl h)
begun-cases n p (begin t op) (answered x r) k h = inl h
begun-cases n p (step t) (accepted x) k h = inl h
begun-cases n p (step t) (answered x r) k h = absurd (clash refl h)
begun-cases n p (drop t) (accepted x) k h = absurd (clash refl h)
begun-cases n p (drop t) (answered x r) k h = inl h

-- the same of any task: it was there, or the entry is the task's and it is now
pub begin-cases : (b : Calls) (a : Action) (e : Event) (s k : ℕ) → begins (enter b a e) s ≡ some k → (begins b s ≡ some k) ⊎ ((s ≡ task_of a) × (b.now ≡ k))
begin-cases b a e s k h = go (either s (task_of a))
  where
    own : s ≡ task_of a → (begins b (task_of a) ≡ some k) ⊎ (b.now ≡ k) → (begins b s ≡ some k) ⊎ ((s ≡ task_of a) × (b.now ≡ k))
    own q (inl p) = inl (ap (begins b) q ∙ p)
    own q (inr n) = inr (q, n)

    go : (s ≡ task_of a) ⊎ (s ≢ task_of a) → (begins b s ≡ some k) ⊎ ((s ≡ task_of a) × (b.now ≡ k))
    go (inl q) = own q (begun-cases b.now (begins b (task_of a)) a e k (sym (own_begin b a e) ∙ (ap (begins (enter b a e)) (sym q) ∙ h)))
    go (inr n) = inl (sym (other_begin b a e s n) ∙ h)

-- the call that an entry ends is its task's pending one
pub ended_is : (p : Option ℕ) (a : Action) (e : Event) (k : ℕ) (r : Response) → ended p a e ≡ some (k, r) → p ≡ some k
ended_is p a (refused n) k r h = absurd (clash refl h)
ended_is p (begin t op) (accepted x) k r h = absurd (clash refl h)
ended_is p (begin t op) (answered x z) k r h = absurd (clash refl h)
ended_is p (step t) (accepted x) k r h = absurd (clash refl h)
ended_is p (drop t) (accepted x) k r h = absurd (clash refl h)
ended_is p (drop t) (answered x z) k r h = absurd (clash refl h)
ended_is none (step t) (answered x z) k r h = absurd (clash refl h)
ended_is (some j) (step t) (answered x z) k r h = ap some (ap (λ (y : ℕ × Response). y.0) (some_inj refl h))

pub early_next : (b : Calls) (a : Action) (e : Event) → Early b → Early (enter b a e)
early_next b a e E = record {
  past = λ t k h. rw (entered-now b a e) (later t k (begin-cases b a e t k h));
  not_yet = λ m l. entered-answers b a e m ∙ (none_added m (rw (entered-now b a e) at l) (ended (begins b (task_of a)) a e) refl ∙ E.not_yet m (omega (arith, rw (entered-now b a e) at l)));
  single = λ t u k h g. one t u k (begin-cases b a e t k h) (begin-cases b a e u k g);
}
  where
    later : (t k : ℕ) → (begins b t ≡ some k) ⊎ ((t ≡ task_of a) × (b.now ≡ k)) → k < suc b.now
    later t k (inl h) = omega (arith, E.past t k h)
    later t k (inr (q, n)) = omega (arith, n)

    none_added : (m : ℕ) → suc b.now ≤ m → (o : Option (ℕ × Response)) → ended (begins b (task_of a)) a e ≡ o → adding o (answers b m) m ≡ answers b m
    none_added m l none h = refl
    none_added m l (some (k, r)) h = let p = E.past (task_of a) k (ended_is (begins b (task_of a)) a e k r h) in rw (ne_eqb k m (λ z. omega (arith, l, p, z)))

    one : (t u k : ℕ) → (begins b t ≡ some k) ⊎ ((t ≡ task_of a) × (b.now ≡ k)) → (begins b u ≡ some k) ⊎ ((u ≡ task_of a) × (b.now ≡ k)) → t ≡ u
    one t u k (inl h) (inl g) = E.single t u k h g
    one t u k (inl h) (inr (q, n)) = absurd (omega (arith, E.past t k h, n))
    one t u k (inr (q, n)) (inl g) = absurd (omega (arith, E.past u k g, n))
    one t u k (inr (q, n)) (inr (z, o)) = q ∙ sym z

-- THE SAME CALLS, but for the two moments that are exchanged

record Moved (i : ℕ) (b b'' : Calls) : Type 0 where
  now : b''.now ≡ b.now
  begin-moved : (t : ℕ) → begins b'' t ≡ moved i (begins b t)
  same-answers : (m : ℕ) → answers b'' (moved_to i m) ≡ answers b m

-- at the exchange
module _ (b : Calls) (E : Early b) (a c : Action) (e f : Event) (two : task_of a ≢ task_of c) where
  abbrev n : ℕ
  n = b.now

  unmoved : (p : Option ℕ) → ((k : ℕ) → p ≡ some k → k < n) → p ≡ moved n p
  unmoved none l = refl
  unmoved (some k) l = ap some (sym (moved_early n k (l k refl)))

  own_later : (p : Option ℕ) (a : Action) (e : Event) → ((k : ℕ) → p ≡ some k → k < n) → begun_at (suc n) p a e ≡ moved n (begun_at n p a e)
  own_later p a (refused r) l = unmoved p l
  own_later p (begin t op) (accepted x) l = ap some (sym (moved-first n n refl))
  own_later p (begin t op) (answered x r) l = unmoved p l
  own_later p (step t) (accepted x) l = unmoved p l
  own_later p (step t) (answered x r) l = refl
  own_later p (drop t) (accepted x) l = refl
  own_later p (drop t) (answered x r) l = unmoved p l

  own_sooner : (p : Option ℕ) (a : Action) (e : Event) → ((k : ℕ) → p ≡ some k → k < n) → begun_at n p a e ≡ moved n (begun_at (suc n) p a e)
  own_sooner p a (refused r) l = unmoved p l
  own_sooner p (begin t op) (accepted x) l = ap some (sym (moved_second n (suc n) refl))
  own_sooner p (begin t op) (answered x r) l = unmoved p l
  own_sooner p (step t) (accepted x) l = unmoved p l
  own_sooner p (step t) (answered x r) l = refl
  own_sooner p (drop t) (accepted x) l = refl
  own_sooner p (drop t) (answered x r) l = unmoved p l

  -- no answer yet at either of the two moments
  old-answers : (m : ℕ) → answers b (moved_to n m) ≡ answers b m
  old-answers m = go (either m n) (either m (suc n))
    where
      go : (m ≡ n) ⊎ (m ≢ n) → (m ≡ suc n) ⊎ (m ≢ suc n) → answers b (moved_to n m) ≡ answers b m
      go (inl q) z = ap (answers b) (moved-first n m q) ∙ (E.not_yet (suc n) (omega arith) ∙ sym (E.not_yet m (omega (arith, q))))
      go (inr o) (inl q) = ap (answers b) (moved_second n m q) ∙ (E.not_yet n (omega arith) ∙ sym (E.not_yet m (omega (arith, q))))
      go (inr o) (inr q) = ap (answers b) (moved_other n m o q)

  early_eqb : (k m : ℕ) → k < n → eqb k (moved_to n m) ≡ eqb k m
  early_eqb k m l = ap (λ j. eqb j (moved_to n m)) (sym (moved_early n k l)) ∙ moved_eqb n k m

  swapped : (k j : ℕ) (r s o : Option Response) (m : ℕ) → k ≢ j → cond (eqb k m) r (cond (eqb j m) s o) ≡ cond (eqb j m) s (cond (eqb k m) r o)
  swapped k j r s o m d = go (either k m)
    where
      go : (k ≡ m) ⊎ (k ≢ m) → cond (eqb k m) r (cond (eqb j m) s o) ≡ cond (eqb j m) s (cond (eqb k m) r o)
      go (inl q) = rw (eq-eqb k m q, ne_eqb j m (λ z. d (q ∙ sym z)))
      go (inr q) = rw (ne_eqb k m q)

  both_added : (m : ℕ) (x y : Option (ℕ × Response)) → ((k : ℕ) (r : Response) → x ≡ some (k, r) → begins b (task_of a) ≡ some k) → ((k : ℕ) (r : Response) → y ≡ some (k, r) → begins b (task_of c) ≡ some k)
      → adding x (adding y (answers b (moved_to n m)) (moved_to n m)) (moved_to n m) ≡ adding y (adding x (answers b m) m) m
  both_added m none none p q = old-answers m
  both_added m (some (k, r)) none p q = rw (early_eqb k m (E.past (task_of a) k (p k r refl)), old-answers m)
  both_added m none (some (j, s)) p q = rw (early_eqb j m (E.past (task_of c) j (q j s refl)), old-answers m)
  both_added m (some (k, r)) (some (j, s)) p q =
      rw (early_eqb k m (E.past (task_of a) k (p k r refl)), early_eqb j m (E.past (task_of c) j (q j s refl)), old-answers m)
      (swapped k j (some r) (some s) (answers b m) m (λ z. two (E.single (task_of a) (task_of c) k (p k r refl) (q j s refl ∙ ap some (sym z)))))

  exchange : Moved n (enter (enter b a e) c f) (enter (enter b c f) a e)
  exchange = record {
    now = entered-now (enter b c f) a e ∙ (ap suc (entered-now b c f) ∙ (ap suc (sym (entered-now b a e)) ∙ sym (entered-now (enter b a e) c f)));
    begin-moved = λ t. at t (either t (task_of a)) (either t (task_of c));
    same-answers = λ m.
        let x : answers (enter (enter b c f) a e) (moved_to n m) ≡ adding (ended (begins b (task_of a)) a e) (adding (ended (begins b (task_of c)) c f) (answers b (moved_to n m)) (moved_to n m)) (moved_to n m) =
        entered-answers (enter b c f) a e (moved_to n m) ∙ ap₂ (λ p o. adding (ended p a e) o (moved_to n m)) (other_begin b c f (task_of a) two) (entered-answers b c f (moved_to n m)) in
        let y : answers (enter (enter b a e) c f) m ≡ adding (ended (begins b (task_of c)) c f) (adding (ended (begins b (task_of a)) a e) (answers b m) m) m =
        entered-answers (enter b a e) c f m ∙ ap₂ (λ p o. adding (ended p c f) o m) (other_begin b a e (task_of c) (λ z. two (sym z))) (entered-answers b a e m) in
        x ∙ (both_added m (ended (begins b (task_of a)) a e) (ended (begins b (task_of c)) c f) (ended_is (begins b (task_of a)) a e) (ended_is (begins b (task_of c)) c f) ∙ sym y);
  }
    where
      first : begins (enter (enter b c f) a e) (task_of a) ≡ moved n (begins (enter (enter b a e) c f) (task_of a))
      first =
          own_begin (enter b c f) a e ∙ (ap₂ (λ l p. begun_at l p a e) (entered-now b c f) (other_begin b c f (task_of a) two)
          ∙ (own_later (begins b (task_of a)) a e (E.past (task_of a)) ∙ ap (moved n) (sym (other_begin (enter b a e) c f (task_of a) two ∙ own_begin b a e))))

      second : begins (enter (enter b c f) a e) (task_of c) ≡ moved n (begins (enter (enter b a e) c f) (task_of c))
      second =
          (other_begin (enter b c f) a e (task_of c) (λ z. two (sym z)) ∙ own_begin b c f)
          ∙ (own_sooner (begins b (task_of c)) c f (E.past (task_of c)) ∙ ap (moved n) (sym (own_begin (enter b a e) c f ∙ ap₂ (λ l p. begun_at l p c f) (entered-now b a e) (other_begin b a e (task_of c) (λ z. two (sym z))))))

      at : (t : ℕ) → (t ≡ task_of a) ⊎ (t ≢ task_of a) → (t ≡ task_of c) ⊎ (t ≢ task_of c) → begins (enter (enter b c f) a e) t ≡ moved n (begins (enter (enter b a e) c f) t)
      at t (inl q) z = subst (λ t. begins (enter (enter b c f) a e) t ≡ moved n (begins (enter (enter b a e) c f) t)) (sym q) first
      at t (inr o) (inl q) = subst (λ t. begins (enter (enter b c f) a e) t ≡ moved n (begins (enter (enter b a e) c f) t)) (sym q) second
      at t (inr o) (inr q) =
          (other_begin (enter b c f) a e t o ∙ other_begin b c f t q) ∙ (unmoved (begins b t) (E.past t) ∙ ap (moved n) (sym (other_begin (enter b a e) c f t q ∙ other_begin b a e t o)))

-- after it
begun-moved : (i n : ℕ) → suc i < n → (p : Option ℕ) (a : Action) (e : Event) → begun_at n (moved i p) a e ≡ moved i (begun_at n p a e)
begun-moved i n l p a (refused r) = refl
begun-moved i n l p (begin t op) (accepted x) = ap some (sym (moved_late i n l))
begun-moved i n l p (begin t op) (answered x r) = refl
begun-moved i n l p (step t) (accepted x) = refl
begun-moved i n l p (step t) (answered x r) = refl
begun-moved i n l p (drop t) (accepted x) = refl
begun-moved i n l p (drop t) (answered x r) = refl

added-moved : (i : ℕ) (p : Option ℕ) (a : Action) (e : Event) (o : Option Response) (m : ℕ) → adding (ended (moved i p) a e) o (moved_to i m) ≡ adding (ended p a e) o m
added-moved i p a (refused r) o m = refl
added-moved i p (begin t op) (accepted x) o m = refl
added-moved i p (begin t op) (answered x r) o m = refl
added-moved i p (step t) (accepted x) o m = refl
added-moved i p (drop t) (accepted x) o m = refl
added-moved i p (drop t) (answered x r) o m = refl
added-moved i none (step t) (answered x r) o m = refl
added-moved i (some k) (step t) (answered x r) o m = ap (λ c. cond c (some r.answer) o) (moved_eqb i k m)

moved-next : (i : ℕ) (b b'' : Calls) (a : Action) (e : Event) → suc i < b.now → Moved i b b'' → Moved i (enter b a e) (enter b'' a e)
moved-next i b b'' a e l M = record {
  now = entered-now b'' a e ∙ (ap suc M.now ∙ sym (entered-now b a e));
  begin-moved = λ t. at t (either t (task_of a));
  same-answers = λ m.
      entered-answers b'' a e (moved_to i m) ∙ (ap₂ (λ p o. adding (ended p a e) o (moved_to i m)) (M.begin-moved (task_of a)) (M.same-answers m)
      ∙ (added-moved i (begins b (task_of a)) a e (answers b m) m ∙ sym (entered-answers b a e m)));
}
  where
    own : begins (enter b'' a e) (task_of a) ≡ moved i (begins (enter b a e) (task_of a))
    own =
        own_begin b'' a e ∙ (ap₂ (λ n p. begun_at n p a e) M.now (M.begin-moved (task_of a))
        ∙ (begun-moved i b.now l (begins b (task_of a)) a e ∙ ap (moved i) (sym (own_begin b a e))))

    at : (t : ℕ) → (t ≡ task_of a) ⊎ (t ≢ task_of a) → begins (enter b'' a e) t ≡ moved i (begins (enter b a e) t)
    at t (inl q) = subst (λ t. begins (enter b'' a e) t ≡ moved i (begins (enter b a e) t)) (sym q) own
    at t (inr o) = other_begin b'' a e t o ∙ (M.begin-moved t ∙ ap (moved i) (sym (other_begin b a e t o)))

moved_on : (i : ℕ) (h : List (Action × Event)) (b b'' : Calls) → suc i < b.now → Moved i b b'' → Moved i (enter_all b h) (enter_all b'' h)
moved_on i [] b b'' l M = M
moved_on i (x ∷ h) b b'' l M = moved_on i h (enter b x.0 x.1) (enter b'' x.0 x.1) (rw (entered-now b x.0 x.1) (omega (arith, l))) (moved-next i b b'' x.0 x.1 l M)

-- there are entries j and j + 1, of different tasks
abbrev pub TwoTasks : ℕ → List (Action × Event) → Type 0
TwoTasks j [] = ⊥
TwoTasks zero (x ∷ []) = ⊥
TwoTasks zero (x ∷ y ∷ h) = task_of x.0 ≢ task_of y.0
TwoTasks (suc j) (x ∷ h) = TwoTasks j h

exchange_in : (i j : ℕ) (h : List (Action × Event)) (b : Calls) → Early b → TwoTasks j h → i ≡ b.now + j → Moved i (enter_all b h) (enter_all b (exchanged j h))
exchange_in i j [] b E d q = absurd d
exchange_in i zero (x ∷ []) b E d q = absurd d
exchange_in i zero (x ∷ y ∷ h) b E d q =
    let z : b.now ≡ i = omega (arith, q) in
    moved_on i h (enter (enter b x.0 x.1) y.0 y.1) (enter (enter b y.0 y.1) x.0 x.1)
    (rw (entered-now (enter b x.0 x.1) y.0 y.1, entered-now b x.0 x.1) (omega (arith, z)))
    (subst (λ i. Moved i (enter (enter b x.0 x.1) y.0 y.1) (enter (enter b y.0 y.1) x.0 x.1)) z (exchange b E x.0 y.0 x.1 y.1 d))
exchange_in i (suc j) (x ∷ h) b E d q = exchange_in i j h (enter b x.0 x.1) (early_next b x.0 x.1 E) d (rw (entered-now b x.0 x.1) (omega (arith, q)))

-- The call begun at m answers, followed to its new place, as before; or is pending as before.
pub same_answer_lem : (i m : ℕ) (h : List (Action × Event)) → TwoTasks i h → answer_at (moved_to i m) (exchanged i h) ≡ answer_at m h
same_answer_lem i m h d = (exchange_in i i h no_calls early_start d (omega arith)).same-answers m
