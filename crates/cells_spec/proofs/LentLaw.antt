-- The step over a lent record, from the step of the state that holds it.
use mathlib.Core.Path.{◌≡◌, refl, sym, ap, ◌∙◌}
use mathlib.Core.Logic.{◌⊎◌, inl, inr}
use mathlib.Core.Bool.{true, false, ◌||◌, not, cond, false≢true}
use mathlib.Core.List.{List, [], ◌∷◌}
use Prim.Native.Nat.{ℕ, ◌≤◌, ◌<◌}
use native.Mathlib.Omega.{arith}
use lib.Dec.{eqb}
use lib.ListN.{length}
use lib.Seq.{set_out, set-get_or}
use Rattle.figure_lines.specs.declared.Record.{Record}
use Rattle.cells_spec.specs.declared.State.{State}
use Rattle.cells_spec.specs.Blocks.{unused, is_found}
use Rattle.cells_spec.specs.Answers.{Said, Refused, Acted, Ended, acts}
use Rattle.figure_lines.specs.Record.{idle, is_idle, record_at}
use Rattle.cells_spec.specs.Open.{After, leaving, Untouched}
use Rattle.cells_spec.specs.Begin.{with_record}
use Rattle.cells_spec.specs.Step.{step_asks, stepped}
use Rattle.cells_spec.specs.Lent.{is_refused, Lent, lent, stepped_lent}
use Rattle.cells_spec.specs.Events.{event_of}
use Rattle.cells_spec.specs.Machine.{does, does_lent, tried_by, pool, lent_pool}
use Rattle.history_spec.specs.History.{Action, begin, step, drop}
use Rattle.cells_spec.proofs.Acts.{acts_iff, step-acts, step_untouched}
use Rattle.cells_spec.proofs.Replies.{asked_below}

-- a record beyond them is put nowhere
pub placed : (s : State) (t : ℕ) (r : Record) (q : State) → length s.records ≡ 32 → (q ≡ with_record s t r) ⊎ ((32 ≤ t) × (q ≡ s)) → q ≡ with_record s t r
placed s t r q l (inl e) = e
placed s t r q l (inr (h, e)) =
    let out : length s.records ≤ t = omega arith in
    e ∙ sym (rw (set_out s.records t r out))

acted : (o : Said) → is_refused o ≡ false → acts o ≡ true
acted (Refused n) e = sym e
acted Acted e = refl
acted (Ended f) e = refl

module _ (s : State) (p : List ℕ) (t : ℕ) (a : After) (e : a ≡ stepped s p t) where
  pub below_32 : is_refused a.outcome ≡ false → t < 32
  below_32 h =
      let q = record_at s.records t in
      asked_below s p t ((11, not (is_idle q)) ∷ (20, not (eqb q.line 4) || is_found (unused s)) ∷ []) ((acts_iff (step_asks s p t)).1 (sym (step-acts s p t) ∙ acted (stepped s p t).outcome (rw e at h)))

  pool-kept : is_refused a.outcome ≡ true → a.pool ≡ p
  pool-kept h = rw e (go (stepped s p t).outcome refl (rw e at h))
    where
      go : (o : Said) → (stepped s p t).outcome ≡ o → is_refused o ≡ true → (stepped s p t).pool ≡ p
      go (Refused n) g h = ap (λ (x : After). x.pool) (step_untouched s p t n g)
      go Acted g h = absurd (false≢true h)
      go (Ended f) g h = absurd (false≢true h)

module _ (s : State) (p : List ℕ) (t : ℕ) (r : Record) (q : State) (a : After) (i : q ≡ with_record s t r) (e : a ≡ stepped q p t) where
  pub lent-refused : is_refused a.outcome ≡ true → lent (leaving s a.pool a.outcome) r ≡ stepped_lent s p t r
  unfolding stepped_lent
  lent-refused h = rw (← i, ← e, h, pool-kept q p t a e h)

  pub lent-acted : is_refused a.outcome ≡ false → lent a (record_at a.state.records t) ≡ stepped_lent s p t r
  unfolding stepped_lent
  lent-acted h = rw (← i, ← e, h)

-- A STEP THAT IS LENT THE TASK'S OWN RECORD IS THE STEP: it leaves the state and pool and gives the outcome that `stepped` does, and hands
-- back the record that then stands in the state (for a task beyond the records, which is refused, the idle one that was lent).
module _ (s : State) (p : List ℕ) (t : ℕ) where
  abbrev handed : After → Lent
  handed a = lent a (record_at a.state.records t)

  same : (a : After) (o : Said) → a.outcome ≡ o → Untouched s p a → cond (is_refused a.outcome) (lent (leaving s p a.outcome) (record_at s.records t)) (handed a) ≡ handed a
  same a (Refused n) e h = rw (h n e)
  same a Acted e h = rw e
  same a (Ended f) e h = rw e

  pub lent_own : stepped_lent s p t (record_at s.records t) ≡ lent (stepped s p t) (record_at (stepped s p t).state.records t)
  unfolding stepped_lent
  lent_own = rw (set-get_or s.records t idle) (same (stepped s p t) (stepped s p t).outcome refl (step_untouched s p t))

lent-does : (s : State) (p : List ℕ) (a : Action) → does_lent s p a ≡ does s p a
lent-does s p (begin t op) = refl
lent-does s p (step t) = ap (λ (x : Lent). x.entry) (lent_own s p t)
lent-does s p (drop t) = refl

-- So the machine whose steps are lent is the machine of demands 2 and 3: what holds of every list of actions holds of those lists.
pub lent_machine : lent_pool ≡ pool
lent_machine = λ i x a. let r = lent-does x.0 x.1 a i in ((r.state, r.pool), event_of (tried_by x.0 x.1 a) r.outcome)
