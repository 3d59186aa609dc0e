-- The rule for withdrawn swaps, looked up at the end of the list, lists what the notes list step by step.
use mathlib.Core.Path.{◌≡◌, refl, sym, ap, subst, ◌∙◌}
use mathlib.Core.Logic.{◌≢◌, ◌⊎◌, inl, inr}
use mathlib.Core.Bool.{Bool, true, false, not, ◌&&◌, ◌||◌, cond, false≢true}
use mathlib.Core.Option.{Option, none, some}
use mathlib.Core.List.{List, [], ◌∷◌, ◌++◌, map}
use Prim.Native.Nat.{ℕ, suc, ◌+◌, ◌≤◌, ◌<◌}
use native.Mathlib.Omega.{arith}
use lib.Dec.{eqb, ltb, T, T_not}
use lib.ListN.{get_or}
use borrow.Author.Tests.{eq-eqb, ne_eqb, lt-ltb, le-ltb}
use Rattle.figure_lines.specs.declared.Record.{Record}
use Rattle.figure_lines.specs.Answers.{Next, Go, Done}
use Rattle.figure_lines.specs.Basics.{within}
use Rattle.figure_lines.specs.Record.{no_value, idle}
use Rattle.figure_lines.specs.Lines.{Line, for25, l3, l23, line_of, access_at, attempt, counted, next_at}
use Rattle.cells_spec.specs.Turn.{record_after, outcome_of}
use Rattle.cells_spec.specs.Events.{event_of}
use Rattle.cells_spec.specs.Questions.{line_fit}
use Rattle.history_spec.specs.Basics.{upd, ◌∈◌}
use Rattle.history_spec.specs.History.{Op, Action, begin, step, drop, Attempt, untried, Event, accepted, history, run, CallId, Call, WithdrawnCall, Calls, no_calls, called, advanced, also_withdrawn, passed, withdraw, enter, enter_all, calls_of}
use Rattle.history_spec.specs.Moments.{C3, C4, Spot, Mark, beside, ListedExactly}
use Rattle.history_spec.proofs.Basics.{clash, some_inj, upd-at, upd_same, upd_off}
use Rattle.history_spec.proofs.ListTests.{every, every_in, has, has_append, implies, by_test}
use Rattle.history_linearization.proofs.Simulation.{Ghost, Knowledge}
use Rattle.history_linearization.proofs.Tracks.{upd-some}
use Rattle.history_linearization.proofs.MovesOne as Placed
use Rattle.history_linearization.proofs.Unnamed.{same_states}
use Rattle.history_linearization.proofs.EveryAction as Every
use Rattle.history_linearization.proofs.EveryAction.{good_start, good_next, at-end}
use Rattle.figure_cell.specs.Memory.{Cell, access_cell}
use Rattle.figure_cell.proofs.LineLaws.{every_line, same, same-is, before}
use Rattle.figure_cell.proofs.Classes.{is, figure_line, busy, holding, swapping, stored, lies_in}
use Rattle.figure_cell.proofs.Invariant.{TaskOf}
use Rattle.figure_cell.proofs.Dropping.{kept}
use Rattle.figure.specs.Figure.{World, with_task, with_both, WorldAfter, figure_ran, opening, figure, tried_in, first_of}
use Rattle.figure.specs.Traces.{Trace, no_trace, did_line, enter_line}
use Rattle.figure.proofs.Records.{Pending, Sound, Begun, starts, begin-cases, Stepped, runs, step-cases, Dropped, leaves, drop-cases, act_sound}
use Rattle.figure.proofs.Paths.{start_sound}
use Rattle.figure.proofs.Views.{view}
use Rattle.figure.proofs.Worlds.{facts, pending-at, cell_after, next_after, step_after}
use Rattle.figure.proofs.Fixed.{Fixed, fixed_next}
use Rattle.figure_moments.specs.Moments.{holds_block, Notes, no_notes, nothing_noted, noted, drop_noted, spot_at, stands, sees, moments}
use Rattle.figure_moments.specs.WithdrawnRule.{Withdrawal, kept_of, withdraws, withdrawals, effect_of, withdrawn_spot}
use Rattle.figure_moments.proofs.Notes.{cond_true, cond_false, holds-block, figure_line_is, keeps_elsewhere, notes_stored, keeps_others, keeps_inactive}
use Rattle.figure_moments.proofs.Known.{known}
use Rattle.figure_moments.proofs.Drops.{parked_world, parked_notes}
use Rattle.figure_moments.proofs.Beyond.{SameNotes, stands-idle}
use Rattle.figure_moments.proofs.Simulation.{Watched, watch, stands_in, Invariant, q⁺, simulation, Watching, watching, withdrawn_listed}
use Rattle.figure_moments.proofs.Reachable.{reached_by, reached-task}
use Rattle.figure_moments.proofs.Late.{through25, later, comes-later, one_more, Late, act_late}

-- LINE 23 IS DONE

abbrev wrote : List Line → Bool
wrote did = has same did l23

-- found by computing over all that may come before a line
stored_wrote : (ℓ : Line) (did : List Line) → did ∈ before ℓ → T (stored ℓ) → T (wrote did)
stored_wrote ℓ did m = implies (stored ℓ) (wrote did) (every_in (λ d. not (stored ℓ) || wrote d) (before ℓ) (every_line (λ ℓ. every (λ d. not (stored ℓ) || wrote d) (before ℓ)) tt ℓ) did m)

wrote_stored : (ℓ : Line) (did : List Line) → did ∈ before ℓ → wrote did ≡ true → through25 did ≡ false → T (stored ℓ)
wrote_stored ℓ did m e f = rw f at (implies (wrote did) (through25 did || stored ℓ)
    (every_in (λ d. not (wrote d) || (through25 d || stored ℓ)) (before ℓ) (every_line (λ ℓ. every (λ d. not (wrote d) || (through25 d || stored ℓ)) (before ℓ)) tt ℓ) did m) (rw e tt))

later_unstored : (ℓ : Line) → ℓ ∈ later → T (not (stored ℓ)) × T (not (is 23 ℓ)) × T (swapping ℓ)
later_unstored ℓ i = (every_in (λ ℓ. not (stored ℓ)) later tt ℓ i, every_in (λ ℓ. not (is 23 ℓ)) later tt ℓ i, every_in swapping later tt ℓ i)

-- its moment, against the begin's
abbrev Times : Bool → (at stored : ℕ) → Type 0
Times true at s = at < s
Times false at s = s ≤ at

-- what is noted of task t's pending call, begun at the moment `at`. Line 23, if it is done, came after that. Where line 25 did not answer, the
-- block was inactive at the store
record OfCall (o : Notes) (did : List Line) (t at : ℕ) : Type 0 where
  times : Times (wrote did) at (o.stored t)
  late : through25 did ≡ true → o.stored_active t ≡ false

-- WHAT IS KEPT OF A WITHDRAWN CALL, against the other figure, where number u is given to it

record Parked (w⁺ : World) (p : Notes) (u : ℕ) (y : Withdrawal) : Type 0 where
  has_stored : T (stored (line_of (w⁺.records u)))
  cell : (w⁺.records u).cell ≡ y.cell
  block : (w⁺.records u).held ≡ y.block
  new : (w⁺.records u).new ≡ y.new
  stored_at : p.stored u ≡ y.stored
  active : p.stored_active u ≡ y.stored_active
  inactive-at : p.stored_active u ≡ false → p.inactive u ≡ y.inactive

data Kept (w w⁺ : World) (p : Notes) (u : ℕ) (y : Withdrawal) : Type 0 where
  unwritten : y.stored ≤ y.call.start.at → w⁺.records u ≡ idle → Kept w w⁺ p u y
  parked : y.call.start.at < y.stored → Parked w⁺ p u y → Kept w w⁺ p u y
  lost : (d : ℕ) → d ≢ y.new → y.stored_active ≡ false → Fixed w y.cell y.block d → w⁺.records u ≡ idle → Kept w w⁺ p u y

-- what an action leaves of number u
record Stays (w⁺ w⁺' : World) (p p' : Notes) (u : ℕ) : Type 0 where
  record_same : w⁺'.records u ≡ w⁺.records u
  stored_same : p'.stored u ≡ p.stored u
  active-same : p'.stored_active u ≡ p.stored_active u
  inactive-same : T (stored (line_of (w⁺.records u))) → p.stored_active u ≡ false → p'.inactive u ≡ p.inactive u

abbrev On : World → World → Type 0
On w w' = (k b d : ℕ) → Fixed w k b d → Fixed w' k b d

kept_on : {w w' w⁺ w⁺' : World} {p p' : Notes} {u : ℕ} {y : Withdrawal} → On w w' → Stays w⁺ w⁺' p p' u → Kept w w⁺ p u y → Kept w' w⁺' p' u y
kept_on on s (unwritten h e) = unwritten h (s.record_same ∙ e)
kept_on on s (lost d n a f e) = lost d n a (on _ _ d f) (s.record_same ∙ e)
kept_on on s (parked h k) = parked h (record {
  has_stored = rw s.record_same k.has_stored;
  cell = ap (λ (r : Record). r.cell) s.record_same ∙ k.cell;
  block = ap (λ (r : Record). r.held) s.record_same ∙ k.block;
  new = ap (λ (r : Record). r.new) s.record_same ∙ k.new;
  stored_at = s.stored_same ∙ k.stored_at;
  active = s.active-same ∙ k.active;
  inactive-at = λ z. let y = sym s.active-same ∙ z in s.inactive-same k.has_stored y ∙ k.inactive-at y;
})

-- all of them, the last one first
abbrev Matches : (n : ℕ) (w w⁺ : World) (p : Notes) → List Withdrawal → List WithdrawnCall → Type 0
Matches n w w⁺ p [] [] = Unit {0}
Matches n w w⁺ p [] (v ∷ vs) = ⊥
Matches n w w⁺ p (y ∷ ys) [] = ⊥
Matches n w w⁺ p (y ∷ ys) (v ∷ vs) = ((y.call ≡ v.call) × (v.end < p.now) × Kept w w⁺ p (n + v.end) y) × Matches n w w⁺ p ys vs

matches_on : (n : ℕ) {w w' w⁺ w⁺' : World} {p p' : Notes} → On w w' → p.now ≤ p'.now → ((m : ℕ) → m < p.now → Stays w⁺ w⁺' p p' (n + m)) → (ys : List Withdrawal) (vs : List WithdrawnCall) → Matches n w w⁺ p ys vs → Matches n w' w⁺' p' ys vs
matches_on n on le s [] [] h = tt
matches_on n on le s [] (v ∷ vs) h = absurd h
matches_on n on le s (y ∷ ys) [] h = absurd h
matches_on n on le s (y ∷ ys) (v ∷ vs) ((e, m, k), h) = ((e, omega arith, kept_on on (s v.end m) k), matches_on n on le s ys vs h)

same-calls : (n : ℕ) (w w⁺ : World) (p : Notes) (ys : List Withdrawal) (vs : List WithdrawnCall) → Matches n w w⁺ p ys vs → map (λ y. y.call) ys ≡ map (λ v. v.call) vs
same-calls n w w⁺ p [] [] h = refl
same-calls n w w⁺ p [] (v ∷ vs) h = absurd h
same-calls n w w⁺ p (y ∷ ys) [] h = absurd h
same-calls n w w⁺ p (y ∷ ys) (v ∷ vs) ((e, m, k), h) = λ i. e i ∷ same-calls n w w⁺ p ys vs h i

matched : (n : ℕ) (w w⁺ : World) (p : Notes) (ys : List Withdrawal) (vs : List WithdrawnCall) → Matches n w w⁺ p ys vs → (y : Withdrawal) → y ∈ ys → (v : WithdrawnCall) × (v ∈ vs) × (y.call ≡ v.call) × Kept w w⁺ p (n + v.end) y
matched n w w⁺ p (z ∷ ys) [] h y i = absurd h
matched n w w⁺ p (z ∷ ys) (v ∷ vs) ((e, m, k), h) y (inl q) = (v, inl refl, ap (λ (y : Withdrawal). y.call) q ∙ e, subst (Kept w w⁺ p (n + v.end)) (sym q) k)
matched n w w⁺ p (z ∷ ys) (v ∷ vs) (f, h) y (inr i) = let r = matched n w w⁺ p ys vs h y i in (r.0, inr r.1, r.2, r.3)
matched n w w⁺ p [] vs h y i = elim i [ ]

record Ruled (n : ℕ) (x : Watched) (b : Calls) (r : Trace) (ys : List Withdrawal) : Type 0 where
  past : (t : ℕ) → x.1.0.stored t ≤ x.1.0.now
  calls : (t : ℕ) (c : Call) → b.pending t ≡ some c → OfCall x.1.0 (r.did t) t c.start.at
  withdrawn : Matches n x.0 x.1.1.0 x.1.1.1 ys b.withdrawn

-- ONE ACTION

module _ (n v : ℕ) (w : World) (o : Notes) (w⁺ : World) (p : Notes) (g : Ghost) (κ : Knowledge) (i : Invariant n v (w, (o, (w⁺, p))) g κ) (b : Calls) (clock : p.now ≡ b.now) (dated : Placed.Dated b)
    (r : Trace) (s : Sound w r) (behind : Late w r) (ys : List Withdrawal) (R : Ruled n (w, (o, (w⁺, p))) b r ys) where
  abbrev now : ℕ → Line
  now t = line_of (w.records t)

  time : o.now ≡ b.now
  time = sym i.same.now ∙ clock

  abbrev After : Action → World → Event → Type 0
  After a w' e = Ruled n (w', watch n (o, (w⁺, p)) w a e) (enter b a e) (enter_line now r a e) (withdraws w o b a e ++ ys)

  passing : Ruled n (w, (nothing_noted o, (w⁺, nothing_noted p))) (passed b) r ys
  passing = record {
    past = λ t. omega (arith, R.past t);
    calls = λ t c h. let k = R.calls t c h in record { times = k.times; late = k.late };
    withdrawn = matches_on n (λ k b d f. f) (omega arith) (λ m h. record { record_same = refl; stored_same = refl; active-same = refl; inactive-same = λ x z. refl }) ys b.withdrawn R.withdrawn;
  }

  begin-ruled : (t : ℕ) (op : Op) {f : WorldAfter} → Begun w t op f → On w f.world → After (begin t op) f.world (event_of untried f.outcome)
  begin-ruled t op (Begun.refuses m) on = passing
  begin-ruled t op (starts a) on = record {
    past = λ u. omega (arith, R.past u);
    calls = λ u c h. go u c (upd-some b.pending t (some (called b t op)) u c h);
    withdrawn = matches_on n on (omega arith) (λ m h. record { record_same = upd_off w⁺.records t (first_of op) (n + m) (λ e. omega (arith, l)); stored_same = refl; active-same = refl; inactive-same = λ x z. refl }) ys b.withdrawn R.withdrawn;
  }
    where
      l : t < n
      l = subst (λ n. t < n) i.tasks a.task

      go : (u : ℕ) (c : Call) → ((u ≡ t) × (some (called b t op) ≡ some c)) ⊎ ((u ≢ t) × (b.pending u ≡ some c)) → OfCall (nothing_noted o) (upd r.did t [] u) u c.start.at
      go u c (inl (e, z)) = subst (λ d. OfCall (nothing_noted o) d u c.start.at) (sym (upd-at r.did t [] u e))
          (record { times = omega (arith, R.past u, time, ap (λ (c : Call). c.start.at) (some_inj {o = some (called b t op)} refl z)); late = λ h. absurd (false≢true h) })
      go u c (inr (e, z)) = let k = R.calls u c z in subst (λ d. OfCall (nothing_noted o) d u c.start.at) (sym (upd_off r.did t [] u e)) (record { times = k.times; late = k.late })

  module _ (t : ℕ) (task : t < w.tasks) (y : Pending w.cells (r.did t) (w.records t)) where
    abbrev q : Record
    q = w.records t

    abbrev m : Cell
    m = w.cell q.cell

    abbrev o₁ : Notes
    o₁ = noted o t (sees w t)

    low : t < n
    low = subst (λ n. t < n) i.tasks task

    far : (j : ℕ) → n + j ≢ t
    far j e = omega (arith, low)

    its : TaskOf (view w g q.cell) (known p (record { saw = λ u m x. Unit {0}; early = λ u. Unit {0} })) t (now t) q
    its = reached-task v w (reached_by i) t task

    -- A STEP

    past-step : (u : ℕ) → o₁.stored u ≤ suc o.now
    past-step u = by_test (λ s. s ≤ suc o.now) (eqb q.line 23 && eqb u t) o.now (o.stored u) (λ z. omega arith) (λ z. omega (arith, R.past u))

    stays_step : (j : ℕ) → Stays w⁺ (step_after w⁺ t) p (noted p t (sees w⁺ t)) (n + j)
    stays_step j =
        let fit = (q⁺ n v w o w⁺ p g κ i t (r.did t) task y).line in
        let k = keeps_others w⁺ p t fit (n + j) (far j) in
        record {
          record_same = upd_off w⁺.records t (record_after (next_after w⁺ t)) (n + j) (far j);
          stored_same = k.0;
          active-same = k.1;
          inactive-same = λ z a. keeps_inactive w⁺ p t fit (n + j) ((facts w⁺ g (known p κ) i.good (n + j)).store.late_store_lem z (rw a tt));
        }

    others_step : (u : ℕ) (c : Call) → u ≢ t → b.pending u ≡ some c → OfCall o₁ (r.did u) u c.start.at
    others_step u c ne h = let k = keeps_others w o t y.line u ne in let z = R.calls u c h in record { times = subst (Times (wrote (r.did u)) c.start.at) (sym k.0) z.times; late = λ e. k.1 ∙ z.late e }

    -- line 25 did not answer: the store took no effect, so its block was inactive
    came_late : now t ≡ l3 for25 → m.d q.held ≢ q.new → o.stored_active t ≡ false
    came_late e n = go (o.stored_active t) refl
      where
        go : (x : Bool) → o.stored_active t ≡ x → x ≡ false
        go false z = refl
        go true z =
            let k = subst (λ ℓ. TaskOf (view w g q.cell) (known p (record { saw = λ u m x. Unit {0}; early = λ u. Unit {0} })) t ℓ q) e its in
            absurd (n (k.decided.placed-decided tt (k.store.active-placed tt (rw ((i.same.notes t low).stored_active ∙ z) tt)) (k.decided.decided tt)))

    own_step : (c : Call) → b.pending t ≡ some c → (z : Record) → next_after w t ≡ Go z → OfCall o₁ (did_line now r t) t c.start.at
    own_step c h z e = record { times = subst (λ x. Times x c.start.at (o₁.stored t)) (sym (has_append same (r.did t) (now t) l23)) (times (same l23 (now t)) refl); late = λ k. late (one_more (r.did t) (now t) k) }
      where
        was : OfCall o (r.did t) t c.start.at
        was = R.calls t c h

        written : (x : Bool) (s : ℕ) → c.start.at < s → Times (x || true) c.start.at s
        written true s l = l
        written false s l = l

        as_before : (x : Bool) (s : ℕ) → Times x c.start.at s → Times (x || false) c.start.at s
        as_before true s l = l
        as_before false s l = l

        times : (x : Bool) → same l23 (now t) ≡ x → Times (wrote (r.did t) || x) c.start.at (o₁.stored t)
        times true f = written (wrote (r.did t)) (o₁.stored t) (omega (arith, (notes_stored w o t y.line (subst (λ ℓ. T (is 23 ℓ)) (same-is l23 (now t) (rw f tt)) tt)).0, (dated.past t c h).0, time))
        times false f = as_before (wrote (r.did t)) (o₁.stored t) (subst (Times (wrote (r.did t)) c.start.at)
            (sym (keeps_elsewhere w o t y.line t (lies_in (λ ℓ. not (same l23 ℓ)) (λ ℓ. not (is 23 ℓ)) tt (now t) (rw f tt))).0) was.times)

        -- it goes on
        other : now t ≡ l3 for25 → m.d q.held ≢ q.new
        other f d = absurd (
            let x = subst (λ ℓ. let a = access_cell m (access_at ℓ t q) in next_at ℓ t (counted q (attempt (access_at ℓ t q) a.value)) a.value ≡ Go z) f e in
            let x' = rw (eq-eqb (m.d q.held) q.new d) at x in
            let k : ◌≡◌ {A = ℕ} 0 1 = cc in
            omega arith)

        late : (through25 (r.did t) ≡ true) ⊎ (now t ≡ l3 for25) → o₁.stored_active t ≡ false
        late (inl k) = (keeps_elsewhere w o t y.line t (later_unstored (now t) (comes-later (now t) (r.did t) y.lines k)).1).1 ∙ was.late k
        late (inr f) = (keeps_elsewhere w o t y.line t (subst (λ ℓ. T (not (is 23 ℓ))) (sym f) tt)).1 ∙ came_late f (other f)

    abbrev tries : Attempt
    tries = tried_in w t q

    went : (x : Option Call) (d : Call) → advanced b tries x ≡ some d → (c : Call) × (x ≡ some c) × (d.start ≡ c.start)
    went none d h = absurd (clash refl h)
    went (some c) d h = (c, refl, ap (λ (c : Call). c.start) (some_inj h refl))

    line-ruled : (x : Next) → next_after w t ≡ x → On w (with_both w q.cell (cell_after w t) t (record_after x)) → After (step t) (with_both w q.cell (cell_after w t) t (record_after x)) (event_of tries (outcome_of x))
    line-ruled (Go z) e on = record {
      past = past-step;
      calls = λ u d h. go u d (upd-some b.pending t (advanced b tries (b.pending t)) u d h);
      withdrawn = matches_on n on (omega arith) (λ j h. stays_step j) ys b.withdrawn R.withdrawn;
    }
      where
        go : (u : ℕ) (d : Call) → ((u ≡ t) × (advanced b tries (b.pending t) ≡ some d)) ⊎ ((u ≢ t) × (b.pending u ≡ some d)) → OfCall o₁ (upd r.did t (did_line now r t) u) u d.start.at
        go u d (inl (f, h)) =
            let c = went (b.pending t) d h in
            subst (λ l. OfCall o₁ l u d.start.at) (sym (upd-at r.did t (did_line now r t) u f)) (subst (λ u. OfCall o₁ (did_line now r t) u d.start.at) (sym f) (subst (λ (x : CallId). OfCall o₁ (did_line now r t) t x.at) (sym c.2) (own_step c.0 c.1 z e)))
        go u d (inr (f, h)) = subst (λ l. OfCall o₁ l u d.start.at) (sym (upd_off r.did t (did_line now r t) u f)) (others_step u d f h)
    line-ruled (Done f) e on = record {
      past = past-step;
      calls = λ u d h. go u d (upd-some b.pending t none u d h);
      withdrawn = matches_on n on (omega arith) (λ j h. stays_step j) ys b.withdrawn R.withdrawn;
    }
      where
        go : (u : ℕ) (d : Call) → ((u ≡ t) × (none ≡ some d)) ⊎ ((u ≢ t) × (b.pending u ≡ some d)) → OfCall o₁ (upd r.did t [] u) u d.start.at
        go u d (inl (f, h)) = absurd (clash refl h)
        go u d (inr (f, h)) = subst (λ l. OfCall o₁ l u d.start.at) (sym (upd_off r.did t [] u f)) (others_step u d f h)

    -- A DROP

    abbrev u : ℕ
    u = n + p.now

    abbrev w₂ : World
    w₂ = with_task w t idle

    abbrev w⁺₂ : World
    w⁺₂ = parked_world w⁺ t u

    abbrev p₂ : Notes
    p₂ = parked_notes p t u

    stays_drop : (j : ℕ) → j < p.now → Stays w⁺ w⁺₂ p p₂ (n + j)
    stays_drop j h =
        let other : n + j ≢ u = λ e. omega arith in
        record {
          record_same = upd_off (upd w⁺.records t idle) u (kept (w⁺.records t)) (n + j) other ∙ upd_off w⁺.records t idle (n + j) (far j);
          stored_same = upd_off p.stored u (p.stored t) (n + j) other;
          active-same = upd_off p.stored_active u (p.stored_active t) (n + j) other;
          inactive-same = λ z a. upd_off p.inactive u (p.inactive t) (n + j) other;
        }

    here : w⁺₂.records u ≡ kept q
    here = upd_same (upd w⁺.records t idle) u (kept (w⁺.records t)) ∙ ap kept (i.same.records t low)

    module _ (on : On w w₂) (c : Call) (h : b.pending t ≡ some c) where
      abbrev its-drop : Withdrawal
      its-drop = record { call = c; cell = q.cell; block = q.held; new = q.new; stored = o.stored t; stored_active = o.stored_active t; inactive = o.inactive t }

      was : OfCall o (r.did t) t c.start.at
      was = R.calls t c h

      new-kept : Kept w₂ w⁺₂ p₂ u its-drop
      new-kept = go (wrote (r.did t)) (through25 (r.did t)) refl refl was.times
        where
          notes : SameNotes o p t
          notes = i.same.notes t low

          gone : (T (stored (now t)) → ⊥) → w⁺₂.records u ≡ idle
          gone z = here ∙ cond_false (stored (now t)) q idle z

          go : (x z : Bool) → wrote (r.did t) ≡ x → through25 (r.did t) ≡ z → Times x c.start.at (o.stored t) → Kept w₂ w⁺₂ p₂ u its-drop
          go false z e f l = unwritten l (gone (λ st. rw e at (stored_wrote (now t) (r.did t) y.lines st)))
          go true true e f l =
              let k = later_unstored (now t) (comes-later (now t) (r.did t) y.lines f) in
              lost q.expected (its.self.differ k.2) (was.late f) (on q.cell q.held q.expected (behind t f)) (gone (T_not (stored (now t)) k.0))
          go true false e f l =
              let st = wrote_stored (now t) (r.did t) y.lines e f in
              let is : w⁺₂.records u ≡ q = here ∙ cond_true (stored (now t)) q idle st in
              parked l (record {
                has_stored = rw is st;
                cell = ap (λ (r : Record). r.cell) is;
                block = ap (λ (r : Record). r.held) is;
                new = ap (λ (r : Record). r.new) is;
                stored_at = upd_same p.stored u (p.stored t) ∙ notes.stored;
                active = upd_same p.stored_active u (p.stored_active t) ∙ notes.stored_active;
                inactive-at = λ z. upd_same p.inactive u (p.inactive t) ∙ notes.inactive;
              })

    drop-ruled : On w w₂ → Ruled n (w₂, (drop_noted o t (sees w t), (w⁺₂, p₂))) (withdraw b t) (enter_line now r (drop t) (accepted untried)) (kept_of w o t (b.pending t) ++ ys)
    drop-ruled on = record {
      past = λ u. omega (arith, R.past u);
      calls = λ u d h. go u d (upd-some b.pending t none u d h);
      withdrawn = with-new (b.pending t) refl;
    }
      where
        go : (u : ℕ) (d : Call) → ((u ≡ t) × (none ≡ some d)) ⊎ ((u ≢ t) × (b.pending u ≡ some d)) → OfCall (drop_noted o t (sees w t)) (upd r.did t [] u) u d.start.at
        go u d (inl (f, h)) = absurd (clash refl h)
        go u d (inr (f, h)) = let k = R.calls u d h in subst (λ l. OfCall (drop_noted o t (sees w t)) l u d.start.at) (sym (upd_off r.did t [] u f)) (record { times = k.times; late = k.late })

        old : Matches n w₂ w⁺₂ p₂ ys b.withdrawn
        old = matches_on n on (omega arith) stays_drop ys b.withdrawn R.withdrawn

        with-new : (x : Option Call) → b.pending t ≡ x → Matches n w₂ w⁺₂ p₂ (kept_of w o t x ++ ys) (also_withdrawn x b.now b.withdrawn)
        with-new none h = old
        with-new (some c) h = ((refl, omega (arith, clock), subst (λ m. Kept w₂ w⁺₂ p₂ (n + m) (its-drop on c h)) clock (new-kept on c h)), old)

  step-ruled : (t : ℕ) {f : WorldAfter} → Stepped w t (r.did t) f → On w f.world → After (step t) f.world (event_of (tried_in w t (w.records t)) f.outcome)
  unfolding figure_ran
  step-ruled t (Stepped.refuses m e) on = passing
  step-ruled t (runs task y) on = line-ruled t task y (next_after w t) refl on

  drop_cases_ruled : (t : ℕ) {f : WorldAfter} → Dropped w t (r.did t) f → On w f.world → After (drop t) f.world (event_of untried f.outcome)
  drop_cases_ruled t (Dropped.refuses m e) on = passing
  drop_cases_ruled t (leaves task y) on = drop-ruled t task y on

  on_next : (a : Action) → On w (figure w a).0
  on_next a k c d f = fixed_next w i.on_path k c d f a

  act-ruled : (a : Action) → After a (figure w a).0 (figure w a).1
  act-ruled (begin t op) = begin-ruled t op (begin-cases w t op) (on_next (begin t op))
  act-ruled (step t) = step-ruled t (step-cases w t (r.did t) (s.pending t)) (on_next (step t))
  act-ruled (drop t) = drop_cases_ruled t (drop-cases w t (r.did t) (s.pending t)) (on_next (drop t))

-- AT THE END

module _ (n v : ℕ) (w : World) (o : Notes) (w⁺ : World) (p : Notes) (g : Ghost) (κ : Knowledge) (i : Invariant n v (w, (o, (w⁺, p))) g κ) (u : ℕ) (y : Withdrawal) where
  abbrev end : Record
  end = w⁺.records u

  listed_so : Kept w w⁺ p u y → withdrawn_spot w y ≡ stands p u (sees w⁺ u)
  listed_so (unwritten h e) = ap (λ x. cond x (effect_of w y) none) (le-ltb y.call.start.at y.stored h) ∙ sym (stands-idle w⁺ p u e)
  listed_so (lost d z a f e) = (λ j. cond (ltb y.call.start.at y.stored) (cond (a j) (some (spot_at y.stored C4)) (cond (ne_eqb ((w.cell y.cell).d y.block) y.new (λ h. z (sym f.is ∙ h)) j) (some (spot_at y.inactive C3)) none)) none)
      ∙ (either_way (ltb y.call.start.at y.stored) ∙ sym (stands-idle w⁺ p u e))
    where
      either_way : (x : Bool) → ◌≡◌ {A = Option Spot} (cond x none none) none
      either_way true = refl
      either_way false = refl
  listed_so (parked h k) = ap (λ x. cond x (effect_of w y) none) (lt-ltb y.call.start.at y.stored h) ∙ (go y.stored_active refl ∙ sym (cond_true (within (sees w⁺ u).figure_line 24 26) there none in_there))
    where
      fit : line_fit end ≡ true
      fit = (pending-at w⁺ i.good.on_path u (lies_in stored busy tt (line_of end) k.has_stored)).1.line

      in_there : T (within (sees w⁺ u).figure_line 24 26)
      in_there = subst (λ n. T (within n 24 26)) (sym (figure_line_is end fit)) (lies_in stored (λ ℓ. within (figure_line ℓ) 24 26) tt (line_of end) k.has_stored)

      there : Option Spot
      there = cond (p.stored_active u) (some (spot_at (p.stored u) C4)) (cond (sees w⁺ u).as_new (some (spot_at (p.inactive u) C3)) none)

      by-active : (x : Bool) → y.stored_active ≡ x → there ≡ cond x (some (spot_at (p.stored u) C4)) (cond (sees w⁺ u).as_new (some (spot_at (p.inactive u) C3)) none)
      by-active x e = ap (λ x. cond x (some (spot_at (p.stored u) C4)) (cond (sees w⁺ u).as_new (some (spot_at (p.inactive u) C3)) none)) (k.active ∙ e)

      and_true : (a x : Bool) → T a → (a && x) ≡ x
      and_true true x z = refl
      and_true false x z = absurd z

      as_new_lem : (sees w⁺ u).as_new ≡ eqb ((w.cell y.cell).d y.block) y.new
      as_new_lem = and_true (holds_block end) _ (holds-block end fit (lies_in stored holding tt (line_of end) k.has_stored)) ∙ (λ j. eqb ((i.same.cell j (k.cell j)).d (k.block j)) (k.new j))

      go : (x : Bool) → y.stored_active ≡ x → cond x (some (spot_at y.stored C4)) (cond (eqb ((w.cell y.cell).d y.block) y.new) (some (spot_at y.inactive C3)) none) ≡ there
      go true e = ap (λ s. some (spot_at s C4)) (sym k.stored_at) ∙ sym (by-active true e)
      go false e = sym (by-active false e ∙ (λ j. cond (as_new_lem j) (some (spot_at (k.inactive-at (k.active ∙ e) j) C3)) none))

-- ALL OF IT

module _ (tasks cells : ℕ) (values : List ℕ) (some-values : (cell : ℕ) → get_or values cell 0 ≢ no_value) where
  abbrev begun : Watched
  begun = (opening tasks cells values, (no_notes, (opening tasks cells values, no_notes)))

  ruled : (l : List Action) (x : Watched) (b : Calls) (ms es : List Mark) → Every.Good (simulation tasks cells values some-values) x b ms es → (r : Trace) → Sound x.0 r → Late x.0 r → (ys : List Withdrawal) → Ruled tasks x b r ys →
      (r' : Trace) × Ruled tasks (run (beside figure (watch tasks)) x l) (enter_all b (history figure x.0 l)) r' (withdrawals x.0 x.1.0 b ys l)
  ruled [] x b ms es G r s k ys R = (r, R)
  ruled (a ∷ l) x b ms es G r s k ys R =
      let W = watching tasks cells values some-values x b ms es G in
      ruled l (beside figure (watch tasks) x a).0 (enter b a (figure x.0 a).1) _ _ (good_next (simulation tasks cells values some-values) x b ms es G a) (enter_line (λ t. line_of (x.0.records t)) r a (figure x.0 a).1) (act_sound x.0 r s a)
      (act_late cells x.0 (reached_by W.inv) r s k a) (withdraws x.0 x.1.0 b a (figure x.0 a).1 ++ ys)
      (act-ruled tasks cells x.0 x.1.0 x.1.1.0 x.1.1.1 W.ghost W.known W.inv b W.clock W.dated r s k ys R a)

  module _ (actions : List Action) where
    abbrev kept-all : List Withdrawal
    kept-all = withdrawals (opening tasks cells values) no_notes no_calls [] actions

    abbrev x : Watched
    x = run (beside figure (watch tasks)) begun actions

    abbrev b : Calls
    b = calls_of (history figure (opening tasks cells values) actions)

    at_last : (r : Trace) × Ruled tasks x b r kept-all
    at_last = ruled actions begun no_calls [] [] (good_start (simulation tasks cells values some-values)) no_trace (start_sound tasks cells values) (λ t h. absurd (false≢true h)) []
        (record { past = λ t. omega arith; calls = λ t c h. absurd (clash refl h); withdrawn = tt })

    -- Kept are the withdrawn calls, in their order.
    pub withdrawals_are : map (λ y. y.call) kept-all ≡ map (λ v. v.call) b.withdrawn
    withdrawals_are = same-calls tasks x.0 x.1.1.0 x.1.1.1 kept-all b.withdrawn at_last.1.withdrawn

    -- What is noted step by step is the rule: a withdrawn call is listed exactly where the rule says so at the end.
    pub withdrawn-rule : (y : Withdrawal) → y ∈ withdrawals (opening tasks cells values) no_notes no_calls [] actions → ListedExactly (moments tasks cells values actions) y.call (withdrawn_spot (run figure (opening tasks cells values) actions) y)
    withdrawn-rule y h = go (matched tasks x.0 x.1.1.0 x.1.1.1 kept-all b.withdrawn at_last.1.withdrawn y h)
      where
        W : Watching tasks cells values some-values x b
        W = watching tasks cells values some-values x b _ _ (at-end (simulation tasks cells values some-values) actions).good

        go : (v : WithdrawnCall) × (v ∈ b.withdrawn) × (y.call ≡ v.call) × Kept x.0 x.1.1.0 x.1.1.1 (tasks + v.end) y → ListedExactly (moments tasks cells values actions) y.call (withdrawn_spot (run figure (opening tasks cells values) actions) y)
        go (v, i, e, k) = subst (λ (c : Call). ListedExactly (moments tasks cells values actions) c (withdrawn_spot (run figure (opening tasks cells values) actions) y)) (sym e)
            (subst (ListedExactly (moments tasks cells values actions) v.call) (sym same_spot) (withdrawn_listed tasks cells values some-values actions v i))
          where
            same_spot : withdrawn_spot (run figure (opening tasks cells values) actions) y ≡ stands_in tasks x v.end
            same_spot = ap (λ (w : World). withdrawn_spot w y) (sym (same_states figure (watch tasks) (opening tasks cells values) (no_notes, (opening tasks cells values, no_notes)) actions))
                ∙ listed_so tasks cells x.0 x.1.0 x.1.1.0 x.1.1.1 W.ghost W.known W.inv (tasks + v.end) y k
