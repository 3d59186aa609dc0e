-- A withdrawn call keeps a place under a number of its own, behind those of the tasks: the number of tasks and the moment of its drop. For the
-- proof it is a call that halted there: so a drop moves a call to another number, and nothing else.
use mathlib.Core.Path.{◌≡◌, refl, sym, ap, ◌∙◌, subst}
use mathlib.Core.Logic.{◌≢◌, ◌⊎◌, inl, inr}
use mathlib.Core.Bool.{Bool, true, false, cond}
use mathlib.Core.Option.{Option, none, some}
use mathlib.Core.List.{List, [], ◌∷◌, ◌++◌}
use Prim.Native.Nat.{ℕ, suc, ◌+◌, ◌-◌, ◌≤◌, ◌<◌}
use native.Mathlib.Omega.{arith}
use lib.Dec.{eqb, ltb}
use borrow.Author.Tests.{eqb-true, eq-eqb, ne_eqb, lt-ltb, le-ltb}
use Rattle.history_spec.specs.Basics.{upd, ◌∈◌}
use Rattle.history_spec.specs.History.{Op, cell_of, begin, step, drop, Attempt, accepted, answered, Report, Call, WithdrawnCall, Calls, called, advanced, closed, also_withdrawn, enter, Complete}
use Rattle.history_spec.specs.Moments.{withdrawn_at}
use Rattle.history_spec.proofs.Basics.{either, upd-at, upd_same, upd_off, clash, some_inj}
use Rattle.history_linearization.proofs.Timeline.{le_or_lt}
use Rattle.history_linearization.proofs.MovesOne.{Dated}

-- each drop comes after those before it, and before the moment n
abbrev pub Ordered : List WithdrawnCall → ℕ → Type 0
Ordered [] n = Unit {0}
Ordered (w ∷ l) n = (w.end < n) × Ordered l w.end

pub ordered-later : (l : List WithdrawnCall) (m n : ℕ) → m ≤ n → Ordered l m → Ordered l n
ordered-later [] m n h o = tt
ordered-later (w ∷ l) m n h o = (omega (arith, o.0), o.1)

pub not_yet : (l : List WithdrawnCall) (n m : ℕ) → Ordered l n → n ≤ m → withdrawn_at l m ≡ none
not_yet [] n m o h = refl
not_yet (w ∷ l) n m o h = rw (ne_eqb m w.end (λ e. omega (arith, o.0))) (not_yet l w.end m o.1 (omega (arith, o.0)))

pub is-there : (l : List WithdrawnCall) (n : ℕ) → Ordered l n → (w : WithdrawnCall) → w ∈ l → (w.end < n) × (withdrawn_at l w.end ≡ some w.call)
is-there (v ∷ l) n o w (inl e) = rw e (o.0, rw (eq-eqb v.end v.end refl) refl)
is-there (v ∷ l) n o w (inr i) = let r = is-there l v.end o.1 w i in (omega (arith, r.0, o.0), rw (ne_eqb w.end v.end (λ e. omega (arith, r.0))) r.1)
is-there [] n o w x'' = elim x'' [ ]

pub was_there : (l : List WithdrawnCall) (n : ℕ) (c : Call) → withdrawn_at l n ≡ some c → (w : WithdrawnCall) × (w ∈ l) × (w.end ≡ n) × (w.call ≡ c)
was_there [] n c h = absurd (clash refl h)
was_there (w ∷ l) n c h = go (eqb n w.end) refl h (was_there l n c)
  where
    go : (b : Bool) → eqb n w.end ≡ b → cond b (some w.call) (withdrawn_at l n) ≡ some c → (withdrawn_at l n ≡ some c → (v : WithdrawnCall) × (v ∈ l) × (v.end ≡ n) × (v.call ≡ c)) → (v : WithdrawnCall) × (v ∈ (w ∷ l)) × (v.end ≡ n) × (v.call ≡ c)
    go true e h r = (w, inl refl, sym (eqb-true n w.end e), some_inj {o = some w.call} refl h)
    go false e h r = let v = r h in (v.0, inr v.1, v.2, v.3)

module _ (tasks : ℕ) where
  -- the pending calls, and the withdrawn ones under their numbers
  unfoldable pub everyone : Calls → ℕ → Option Call
  everyone b u = cond (ltb u tasks) (b.pending u) (withdrawn_at b.withdrawn (u - tasks))

  abbrev pub with_parked : Calls → Calls
  with_parked b = record { now = b.now; accepted = b.accepted; pending = everyone b; finished = b.finished; withdrawn = b.withdrawn }

  pub task-is : (b : Calls) (u : ℕ) → u < tasks → everyone b u ≡ b.pending u
  unfolding everyone
  task-is b u h = rw (lt-ltb u tasks h)

  pub parked_is : (b : Calls) (n : ℕ) → everyone b (tasks + n) ≡ withdrawn_at b.withdrawn n
  unfolding everyone
  parked_is b n = rw (le-ltb (tasks + n) tasks (omega arith)) (ap (withdrawn_at b.withdrawn) (let e : tasks + n - tasks ≡ n = omega arith in e))

  pub task_or_parked : (u : ℕ) → (u < tasks) ⊎ ((n : ℕ) × (u ≡ tasks + n))
  task_or_parked u = go (le_or_lt tasks u)
    where
      go : (tasks ≤ u) ⊎ (u < tasks) → (u < tasks) ⊎ ((n : ℕ) × (u ≡ tasks + n))
      go (inl h) = inr (u - tasks, omega arith)
      go (inr h) = inl h

  -- where every call on a cell is finished, nobody is there
  pub nobody-there : (b : Calls) (k : ℕ) → Complete b k → (u : ℕ) (c : Call) → everyone b u ≡ some c → cell_of c.start.op ≢ k
  nobody-there b k all u c e = go (task_or_parked u)
    where
      go : (u < tasks) ⊎ ((n : ℕ) × (u ≡ tasks + n)) → cell_of c.start.op ≢ k
      go (inl h) = all.none_pending u c (sym (task-is b u h) ∙ e)
      go (inr (n, h)) =
          let w = was_there b.withdrawn n c (sym (parked_is b n) ∙ sym (ap (everyone b) h) ∙ e) in
          subst (λ (c : Call). cell_of c.start.op ≢ k) w.3 (all.none_withdrawn w.0 w.1)

  module _ (b : Calls) (t : ℕ) (low : t < tasks) where
    -- a task's call changes
    put : (b' : Calls) (v : Option Call) → b'.withdrawn ≡ b.withdrawn → b'.pending ≡ upd b.pending t v → everyone b' ≡ upd (everyone b) t v
    put b' v e f = λ i u. at u i
      where
        at : (u : ℕ) → everyone b' u ≡ upd (everyone b) t v u
        at u = go (either u t) (task_or_parked u)
          where
            go : (u ≡ t) ⊎ (u ≢ t) → (u < tasks) ⊎ ((n : ℕ) × (u ≡ tasks + n)) → everyone b' u ≡ upd (everyone b) t v u
            go (inl e) k = task-is b' u (omega arith) ∙ ap (λ (g : ℕ → Option Call). g u) f ∙ upd-at b.pending t v u e ∙ sym (upd-at (everyone b) t v u e)
            go (inr n) (inl h) = task-is b' u h ∙ ap (λ (g : ℕ → Option Call). g u) f ∙ upd_off b.pending t v u n ∙ sym (task-is b u h) ∙ sym (upd_off (everyone b) t v u n)
            go (inr n) (inr (m, h)) = ap (everyone b') h ∙ parked_is b' m ∙ ap (λ l. withdrawn_at l m) e ∙ sym (parked_is b m) ∙ sym (ap (everyone b) h) ∙ sym (upd_off (everyone b) t v u n)

    pub enter-begin : (op : Op) (x : Attempt) → with_parked (enter b (begin t op) (accepted x)) ≡ enter (with_parked b) (begin t op) (accepted x)
    enter-begin op x = λ i. record { now = suc b.now; accepted = b.accepted ++ (begin t op ∷ []); pending = put (enter b (begin t op) (accepted x)) (some (called b t op)) refl refl i; finished = b.finished; withdrawn = b.withdrawn }

    module _ (x : Attempt) (c : Call) (busy : b.pending t ≡ some c) where
      its : everyone b t ≡ some c
      its = task-is b t low ∙ busy

      pub enter_step : with_parked (enter b (step t) (accepted x)) ≡ enter (with_parked b) (step t) (accepted x)
      enter_step = λ i. record {
        now = suc b.now;
        accepted = b.accepted ++ (step t ∷ []);
        pending = (put (enter b (step t) (accepted x)) (advanced b x (b.pending t)) refl refl ∙ ap (upd (everyone b) t) (ap (advanced b x) busy ∙ sym (ap (advanced (with_parked b) x) its))) i;
        finished = b.finished;
        withdrawn = b.withdrawn;
      }

      pub enter-end : (r : Report) → with_parked (enter b (step t) (answered x r)) ≡ enter (with_parked b) (step t) (answered x r)
      enter-end r = λ i. record {
        now = suc b.now;
        accepted = b.accepted ++ (step t ∷ []);
        pending = put (enter b (step t) (answered x r)) none refl refl i;
        finished = (ap (λ o. closed (advanced b x o) r b.finished) busy ∙ sym (ap (λ o. closed (advanced (with_parked b) x o) r b.finished) its)) i;
        withdrawn = b.withdrawn;
      }

-- A CALL GETS ANOTHER NUMBER: task t's call c becomes number u's

pub record Renumbers (t u : ℕ) (c : Call) (b b' : Calls) : Type 0 where
  pub later : b'.now ≡ suc b.now
  pub was : b.pending t ≡ some c
  pub free : b.pending u ≡ none
  pub parked : b'.pending u ≡ some c
  pub idle : b'.pending t ≡ none
  pub others : (v : ℕ) → v ≢ t → v ≢ u → b'.pending v ≡ b.pending v
  pub same-finished : b'.finished ≡ b.finished

module _ {t u : ℕ} {c : Call} {b b' : Calls} (m : Renumbers t u c b b') where
  pub other_number : t ≢ u
  other_number e = clash m.free (subst (λ n. b.pending n ≡ some c) e m.was)

  -- whose call a number has now
  pub comes_from : (v : ℕ) (d : Call) → b'.pending v ≡ some d → ((v ≡ u) × (c ≡ d)) ⊎ ((v ≢ u) × (v ≢ t) × (b.pending v ≡ some d))
  comes_from v d h = go (either v u) (either v t)
    where
      go : (v ≡ u) ⊎ (v ≢ u) → (v ≡ t) ⊎ (v ≢ t) → ((v ≡ u) × (c ≡ d)) ⊎ ((v ≢ u) × (v ≢ t) × (b.pending v ≡ some d))
      go (inl e) k = inl (e, some_inj m.parked (rw e at h))
      go (inr n) (inl e) = absurd (clash m.idle (rw e at h))
      go (inr n) (inr o) = inr (n, o, sym (m.others v o n) ∙ h)

  -- and where it has gone
  pub goes_to : (v : ℕ) (d : Call) → b.pending v ≡ some d → ((v ≡ t) × (c ≡ d)) ⊎ ((v ≢ u) × (v ≢ t) × (b'.pending v ≡ some d))
  goes_to v d h = go (either v t)
    where
      n : v ≢ u
      n e = clash m.free (subst (λ n. b.pending n ≡ some d) e h)

      go : (v ≡ t) ⊎ (v ≢ t) → ((v ≡ t) × (c ≡ d)) ⊎ ((v ≢ u) × (v ≢ t) × (b'.pending v ≡ some d))
      go (inl e) = inl (e, some_inj m.was (rw e at h))
      go (inr o) = inr (n, o, m.others v o n ∙ h)

  pub renumbered_dated : Dated b → Dated b'
  renumbered_dated k = record { past = λ v d h. past v d (comes_from v d h); distinct = λ v w d e h i q. distinct v w d e q (comes_from v d h) (comes_from w e i) }
    where
      past : (v : ℕ) (d : Call) → ((v ≡ u) × (c ≡ d)) ⊎ ((v ≢ u) × (v ≢ t) × (b.pending v ≡ some d)) → (d.start.at < b'.now) × (d.last < b'.now)
      past v d (inl (e, f)) = rw (← f) (omega (arith, k.past t c m.was, m.later))
      past v d (inr (n, o, h)) = omega (arith, k.past v d h, m.later)

      distinct : (v w : ℕ) (d e : Call) → d.start.at ≡ e.start.at → ((v ≡ u) × (c ≡ d)) ⊎ ((v ≢ u) × (v ≢ t) × (b.pending v ≡ some d)) → ((w ≡ u) × (c ≡ e)) ⊎ ((w ≢ u) × (w ≢ t) × (b.pending w ≡ some e)) → v ≡ w
      distinct v w d e q (inl (f, g)) (inl (h, i)) = f ∙ sym h
      distinct v w d e q (inl (f, g)) (inr (n, o, h)) = absurd (o (k.distinct w t e c h m.was (sym q ∙ ap (λ (c : Call). c.start.at) (sym g))))
      distinct v w d e q (inr (n, o, h)) (inl (f, g)) = absurd (o (k.distinct v t d c h m.was (q ∙ ap (λ (c : Call). c.start.at) (sym g))))
      distinct v w d e q (inr (n, o, h)) (inr (n', o', h')) = k.distinct v w d e h h' q

-- a drop is such a change
pub renumbers : (tasks : ℕ) (b : Calls) (t : ℕ) (x : Attempt) (c : Call) → t < tasks → b.pending t ≡ some c → Ordered b.withdrawn b.now → Renumbers t (tasks + b.now) c (with_parked tasks b) (with_parked tasks (enter b (drop t) (accepted x)))
renumbers tasks b t x c low busy o = record {
  later = refl;
  was = task-is tasks b t low ∙ busy;
  free = parked_is tasks b b.now ∙ not_yet b.withdrawn b.now b.now o (omega arith);
  parked = parked_is tasks b' b.now ∙ ap (λ l. withdrawn_at l b.now) gone ∙ rw (eq-eqb b.now b.now refl) refl;
  idle = task-is tasks b' t low ∙ upd_same b.pending t none;
  others = λ v n m. go v n m (task_or_parked tasks v);
  same-finished = refl;
}
  where
    b' : Calls
    b' = enter b (drop t) (accepted x)

    gone : b'.withdrawn ≡ record { call = c; end = b.now } ∷ b.withdrawn
    gone = ap (λ o. also_withdrawn o b.now b.withdrawn) busy

    go : (v : ℕ) → v ≢ t → v ≢ tasks + b.now → (v < tasks) ⊎ ((n : ℕ) × (v ≡ tasks + n)) → everyone tasks b' v ≡ everyone tasks b v
    go v n m (inl h) = task-is tasks b' v h ∙ upd_off b.pending t none v n ∙ sym (task-is tasks b v h)
    go v n m (inr (k, e)) = ap (everyone tasks b') e ∙ parked_is tasks b' k ∙ ap (λ l. withdrawn_at l k) gone
        ∙ rw (ne_eqb k b.now (λ z. m (e ∙ ap (λ n. tasks + n) z))) refl ∙ sym (parked_is tasks b k) ∙ sym (ap (everyone tasks b) e)
