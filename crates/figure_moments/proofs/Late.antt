-- A swap that line 25 did not answer came late: the decision of its block is the value that it expects, and stays so.
use mathlib.Core.Path.{◌≡◌, refl, sym, ap, subst, ◌∙◌}
use mathlib.Core.Logic.{◌≢◌, ◌⊎◌, inl, inr}
use mathlib.Core.Bool.{Bool, true, false, not, ◌||◌, false≢true}
use mathlib.Core.List.{List, [], ◌∷◌, ◌++◌}
use Prim.Native.Nat.{ℕ, ◌<◌}
use lib.Dec.{eqb, T, not_T}
use borrow.Author.Tests.{eqb-false}
use Rattle.figure_lines.specs.declared.Record.{Record}
use Rattle.figure_lines.specs.Answers.{Next, Go, Done}
use Rattle.figure_lines.specs.Record.{idle}
use Rattle.figure_lines.specs.Lines.{Line, for25, for28, l1, l2, l3, l4, l5, l6, l7, l8, l30, line_of, access_at, attempt, counted, next_at}
use Rattle.history_spec.specs.Basics.{upd, ◌∈◌}
use Rattle.history_spec.specs.History.{Op, Action, begin, step, drop, untried}
use Rattle.history_spec.proofs.ListTests.{every, every_in, has, has_append, imp, has_in, by_test}
use Rattle.figure_cell.specs.Memory.{Cell, access_cell}
use Rattle.cells_spec.specs.Turn.{record_after, outcome_of}
use Rattle.cells_spec.specs.Events.{event_of}
use Rattle.cells_spec.specs.Questions.{taken_before, has_taken}
use Rattle.cells_spec.proofs.Numbers.{at-number}
use Rattle.figure.specs.Figure.{World, with_both, WorldAfter, figure_ran, figure, tried_in, first_of}
use Rattle.figure.specs.Traces.{Trace, did_line, enter_line}
use Rattle.figure_cell.proofs.LineLaws.{every_line, same, same-is, before}
use Rattle.figure_cell.proofs.Classes.{busy, taking, lies_in}
use Rattle.figure_cell.proofs.Invariant as Local
use Rattle.figure_cell.proofs.Invariant.{TaskOf}
use Rattle.figure.proofs.Records.{OnPath, AllOnPath, Sound, upd_both, Begun, starts, begin-cases, Stepped, runs, step-cases, Dropped, leaves, drop-cases}
use Rattle.figure.proofs.Views.{view}
use Rattle.figure.proofs.Worlds.{cell_after, next_after}
use Rattle.figure.proofs.Fixed.{Fixed, fixed_next}
use Rattle.figure_moments.proofs.Reachable.{Reachable, knows, reached-task, reached_unheld}

-- THE LINES BEHIND LINE 25

abbrev pub through25 : List Line → Bool
through25 did = has same did (l3 for25)

abbrev pub later : List Line
later = l1 for28 ∷ l2 for28 ∷ l3 for28 ∷ l4 ∷ l5 ∷ l6 ∷ l7 ∷ l8 ∷ l30 ∷ []

-- found by computing over all that may come before a line
pub comes-later : (ℓ : Line) (did : List Line) → did ∈ before ℓ → through25 did ≡ true → ℓ ∈ later
comes-later ℓ did m h = has_in same same-is later ℓ (imp (through25 did) (has same later ℓ)
    (every_in (λ d. has same later ℓ || not (through25 d)) (before ℓ) (every_line (λ ℓ. every (λ d. has same later ℓ || not (through25 d)) (before ℓ)) tt ℓ) did m) h)

-- with one more line
pub one_more : (did : List Line) (ℓ : Line) → through25 (did ++ (ℓ ∷ [])) ≡ true → (through25 did ≡ true) ⊎ (ℓ ≡ l3 for25)
one_more did ℓ h = go (through25 did) (same (l3 for25) ℓ) refl refl (sym (has_append same did ℓ (l3 for25)) ∙ h)
  where
    go : (a b : Bool) → through25 did ≡ a → same (l3 for25) ℓ ≡ b → (a || b) ≡ true → (through25 did ≡ true) ⊎ (ℓ ≡ l3 for25)
    go true b e f h = inl e
    go false true e f h = inr (sym (same-is (l3 for25) ℓ (rw f tt)))
    go false false e f h = absurd (false≢true h)

-- the task keeps its block and its values there
abbrev Keeps : Record → Next → Type 0
Keeps q (Go r) = (r.held ≡ q.held) × (r.expected ≡ q.expected) × (r.cell ≡ q.cell)
Keeps q (Done f) = Unit {0}

keeps : (t x : ℕ) (q : Record) (ℓ : Line) → ℓ ∈ later → Keeps q (next_at ℓ t q x)
keeps t x q ℓ (inl e) = rw e (refl, refl, refl)
keeps t x q ℓ (inr (inl e)) = rw e (refl, refl, refl)
keeps t x q ℓ (inr (inr (inl e))) = rw e (by_test (Keeps q) (eqb x q.expected) _ _ (λ z. (refl, refl, refl)) (λ z. tt))
keeps t x q ℓ (inr (inr (inr (inl e)))) = rw e (refl, refl, refl)
keeps t x q ℓ (inr (inr (inr (inr (inl e))))) = rw e (refl, refl, refl)
keeps t x q ℓ (inr (inr (inr (inr (inr (inl e)))))) = rw e (refl, refl, refl)
keeps t x q ℓ (inr (inr (inr (inr (inr (inr (inl e))))))) = rw e (refl, refl, refl)
keeps t x q ℓ (inr (inr (inr (inr (inr (inr (inr (inl e)))))))) = rw e (refl, refl, refl)
keeps t x q ℓ (inr (inr (inr (inr (inr (inr (inr (inr (inl e))))))))) = rw e (by_test (Keeps q) (eqb x 1) _ _ (λ z. tt) (λ z. tt))
keeps t x q ℓ (inr (inr (inr (inr (inr (inr (inr (inr (inr x10))))))))) = elim x10 [ ]

-- THE DECISION OF A TASK'S BLOCK is the value that it expects

abbrev pub Expected : World → Record → Type 0
Expected w q = Fixed w q.cell q.held q.expected

-- of each call that line 25 did not answer; r is the trace of the figure, now w
abbrev pub Late : World → Trace → Type 0
Late w r = (t : ℕ) → through25 (r.did t) ≡ true → Expected w (w.records t)

module _ (v : ℕ) (w : World) (i : Reachable v w) (r : Trace) (s : Sound w r) (o : Late w r) where
  abbrev now : ℕ → Line
  now t = line_of (w.records t)

  path : AllOnPath w
  path t = (r.did t, s.pending t)

  low : (t : ℕ) → T (busy (now t)) → t < w.tasks
  low t b = go (s.pending t)
    where
      go : OnPath w.tasks w.cells t (r.did t) (w.records t) → t < w.tasks
      go (inl e) = absurd (rw e.0 at b)
      go (inr p) = p.0

  its-line : (t : ℕ) → through25 (r.did t) ≡ true → now t ∈ later
  its-line t h = go (s.pending t)
    where
      go : OnPath w.tasks w.cells t (r.did t) (w.records t) → now t ∈ later
      go (inl e) = absurd (false≢true (rw e.1 at h))
      go (inr p) = comes-later (now t) (r.did t) p.1.lines h

  -- who has taken a block, by its line
  has_taken_lem : (u : ℕ) → has_taken (w.records u) ≡ true → T (taking (now u))
  has_taken_lem u h = go (s.pending u)
    where
      go : OnPath w.tasks w.cells u (r.did u) (w.records u) → T (taking (now u))
      go (inl e) = absurd (false≢true (ap has_taken (sym e.0) ∙ h))
      go (inr p) = rw (sym (ap taken_before (at-number (w.records u) p.1.line)) ∙ h) tt

  module _ (t : ℕ) where
    abbrev q : Record
    q = w.records t

    abbrev m : Cell
    m = w.cell q.cell

    -- line 25 found another value than the new one: the swap is not placed, so the decision is the expected value
    came_late : now t ≡ l3 for25 → m.d q.held ≢ q.new → Expected w q
    unfolding Local.none
    came_late e n =
        let f = subst (λ ℓ. TaskOf (view w i.ghost q.cell) (knows v w i) t ℓ q) e (reached-task v w i t (low t (rw e tt))) in
        let k = f.decided in
        record {
          some = f.self.ev_some tt;
          below = f.value.there tt;
          untaken = λ u c h. let b = has_taken_lem u h in reached_unheld v w i u t (low u (lies_in taking busy tt (now u) b)) (low t (rw e tt)) (sym c) b (rw e tt);
          is = k.late_decided tt (not_T (i.ghost.placed t) (λ z. n (k.placed-decided tt z (k.decided tt)))) (k.decided tt);
        }

    -- in a world where what is fixed is fixed still
    module _ (w' : World) (on : (k b d : ℕ) → Fixed w k b d → Fixed w' k b d) where
      abbrev Goes : Next → Type 0
      Goes (Go p) = Expected w' p
      Goes (Done f) = Unit {0}

      goes_on : through25 (did_line now r t) ≡ true → Goes (next_after w t)
      goes_on h = go (one_more (r.did t) (now t) h)
        where
          kept : (n : Next) → Keeps (counted q (tried_in w t q)) n → Expected w q → Goes n
          kept (Go p) (a, b, c) z = rw (c, a, b) (on q.cell q.held q.expected z)
          kept (Done f) k z = tt

          go : (through25 (r.did t) ≡ true) ⊎ (now t ≡ l3 for25) → Goes (next_after w t)
          go (inl k) = kept (next_after w t) (keeps t _ (counted q (tried_in w t q)) (now t) (its-line t k)) (o t k)
          go (inr e) = subst (λ ℓ. let x = access_cell m (access_at ℓ t q) in Goes (next_at ℓ t (counted q (attempt (access_at ℓ t q) x.value)) x.value)) (sym e)
              (by_test Goes (eqb (m.d q.held) q.new) _ _ (λ z. tt) (λ z. on q.cell q.held q.expected (came_late e (eqb-false _ _ z))))

      -- with another record for t and other lines
      put : (p : Record) (did : List Line) → (through25 did ≡ true → Expected w' p) → (u : ℕ) → through25 (upd r.did t did u) ≡ true → Expected w' (upd w.records t p u)
      put p did h = upd_both (λ u did p. through25 did ≡ true → Expected w' p) r.did w.records t did p h (λ u k. let p = w.records u in on p.cell p.held p.expected (o u k))

    abbrev On : World → Type 0
    On w' = (k b d : ℕ) → Fixed w k b d → Fixed w' k b d

    line_late : (n : Next) → next_after w t ≡ n → On (with_both w q.cell (cell_after w t) t (record_after n)) → Late (with_both w q.cell (cell_after w t) t (record_after n)) (enter_line now r (step t) (event_of (tried_in w t (w.records t)) (outcome_of n)))
    line_late (Go p) e on = put _ on p (did_line now r t) (λ h. subst (λ (n : Next). Goes _ on n) e (goes_on _ on h))
    line_late (Done f) e on = put _ on idle [] (λ h. absurd (false≢true h))

    step_late : {f : WorldAfter} → Stepped w t (r.did t) f → On f.world → Late f.world (enter_line now r (step t) (event_of (tried_in w t (w.records t)) f.outcome))
    unfolding figure_ran
    step_late (Stepped.refuses n e) on = o
    step_late (runs n p) on = line_late (next_after w t) refl on

    begin_late : (op : Op) {f : WorldAfter} → Begun w t op f → On f.world → Late f.world (enter_line now r (begin t op) (event_of untried f.outcome))
    begin_late op (Begun.refuses n) on = o
    begin_late op (starts a) on = put _ on (first_of op) [] (λ h. absurd (false≢true h))

    drop_late : {f : WorldAfter} → Dropped w t (r.did t) f → On f.world → Late f.world (enter_line now r (drop t) (event_of untried f.outcome))
    drop_late (Dropped.refuses n e) on = o
    drop_late (leaves n p) on = put _ on idle [] (λ h. absurd (false≢true h))

  pub act_late : (a : Action) → Late (figure w a).0 (enter_line now r a (figure w a).1)
  act_late (begin t op) = begin_late t op (begin-cases w t op) (λ k b d f. fixed_next w path k b d f (begin t op))
  act_late (step t) = step_late t (step-cases w t (r.did t) (s.pending t)) (λ k b d f. fixed_next w path k b d f (step t))
  act_late (drop t) = drop_late t (drop-cases w t (r.did t) (s.pending t)) (λ k b d f. fixed_next w path k b d f (drop t))
