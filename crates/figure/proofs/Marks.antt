-- An active block whose Y is set has a task in its splitter, as long as none that is in it is withdrawn. So where no swap of unequal
-- values is pending or was withdrawn, Y is clear.
use mathlib.Core.Path.{◌≡◌, refl, sym, ap, subst, ◌∙◌}
use mathlib.Core.Logic.{◌≢◌, ◌⊎◌, inl, inr}
use mathlib.Core.Option.{some}
use mathlib.Core.List.{List}
use Prim.Native.Nat.{ℕ, ◌<◌}
use native.Mathlib.Omega.{arith}
use lib.Dec.{eqb, T}
use borrow.Author.Tests.{eqb-false}
use Rattle.cells_spec.specs.Turn.{record_after}
use Rattle.figure_lines.specs.declared.Record.{Record}
use Rattle.figure_lines.specs.declared.Field.TheVariants.{Y, C, D}
use Rattle.figure_lines.specs.Answers.{Next}
use Rattle.figure_lines.specs.Record.{no_value, idle}
use Rattle.figure_lines.specs.Lines.{for13, for25, for28, Line, l1, l2, l3, l4, l5, l6, l7, l8, l10, l11, l12, l15, l16, l17, l18, l19, l20, l21, l22, l23, l24, l26, l27, l30, nowhere, line_of, access_at, access_of, attempt, counted, next_at, next_of}
use Rattle.history_spec.specs.Basics.{upd}
use Rattle.history_spec.specs.History.{Op, cell_of, Action, begin, step, drop}
use Rattle.history_spec.specs.Demand3.{Unequal}
use Rattle.history_spec.proofs.Basics.{either, upd_same, upd_off, upd-cases}
use Rattle.figure_cell.specs.Memory.{Cell, store, install, Accessed, accessed, access_cell}
use Rattle.history_spec.proofs.ListTests.{by_test}
use Rattle.history_linearization.proofs.Simulation.{Ghost, Tally, Free}
use Rattle.history_linearization.proofs.Undropped.{Spares}
use Rattle.figure_cell.proofs.AsBegun.{cell_of_lem}
use Rattle.figure_cell.proofs.Classes.{busy, swapping, contended, taking, marking, lies_in}
use Rattle.figure_cell.proofs.Invariant.{View, Knowledge, TaskOf, line, held}
use Rattle.figure.specs.Figure.{World, with_task, WorldAfter, figure_ran, figure, active, first_of}
use Rattle.figure.proofs.Records.{Pending, AllOnPath, Begun, starts, begin-cases, Stepped, runs, step-cases, Dropped, leaves, drop-cases, cell-there, cell_elsewhere}
use Rattle.figure.proofs.Tallies.{tally, doing}
use Rattle.figure.proofs.Views.{on, on_in, on_other, on_changed, on_others, view}
use Rattle.figure.proofs.Operations.{busy-line, busy_doing, is_unequal}
use Rattle.figure.proofs.Worlds.{there, pending-at, cell_after, next_after, step_after, idle_to}
use Rattle.figure.proofs.Quietly.{ready, stays}

-- a task that set Y of the current block and has not reset it
pub record Marked (L : ℕ) (f : ℕ → Record) : Type 0 where
  pub who : ℕ
  pub marks : T (marking (line_of (f who)))
  pub here : (f who).held ≡ L

abbrev pub Marks : Cell → (ℕ → Record) → Type 0
Marks m f = m.c m.current ≡ 0 → m.y m.current ≢ 0 → Marked m.current f

-- A LINE OF TASK t keeps this of its cell, by what is known of t

module _ (s : View) (κ : Knowledge) (t : ℕ) (i : TaskOf s κ t (line s t) (s.task t)) (k : Marks s.cell s.task) where
  abbrev q : Record
  q = s.task t

  abbrev m : Cell
  m = s.cell

  abbrev L : ℕ
  L = m.current

  -- the marker was another task
  other : (r : Record) → (T (marking (line s t)) → q.held ≡ L → ⊥) → Marked L s.task → Marked L (upd s.task t r)
  other r n x =
      let ne : x.who ≢ t = λ z. n (subst (λ u. T (marking (line s u))) z x.marks) (subst (λ u. held s u ≡ L) z x.here) in
      record { who = x.who; marks = rw (upd_off s.task t r x.who ne) x.marks; here = rw (upd_off s.task t r x.who ne) x.here }

  -- it is the stepper
  mine : (r : Record) → T (marking (line_of r)) → r.held ≡ L → Marked L (upd s.task t r)
  mine r b h = record { who = t; marks = rw upd_same b; here = rw upd_same h }

  -- from a line that does not mark; to one that does, on the same block; from an inactive block
  from_outside : (ℓ : Line) → line s t ≡ ℓ → (T (marking ℓ) → ⊥) → (r : Record) → Marks m (upd s.task t r)
  from_outside ℓ e n r c y = other r (λ b. absurd (n (rw e at b))) (k c y)

  to_marking : (r : Record) → T (marking (line_of r)) → r.held ≡ q.held → Marks m (upd s.task t r)
  to_marking r b h c y = go (either q.held L)
    where
      go : (q.held ≡ L) ⊎ (q.held ≢ L) → Marked L (upd s.task t r)
      go (inl z) = mine r b (h ∙ z)
      go (inr z) = other r (λ a. z) (k c y)

  from_inactive : (r : Record) → m.c q.held ≢ 0 → Marks m (upd s.task t r)
  from_inactive r n c y = other r (λ b z. n (ap m.c z ∙ c)) (k c y)

  -- the splitter is set, reset; the block becomes inactive
  sets : line s t ≡ l18 → (r : Record) → T (marking (line_of r)) → r.held ≡ q.held → Marks (store m q.held Y 1) (upd s.task t r)
  sets e r b h c = upd-cases (λ z. z ≢ 0 → Marked L (upd s.task t r)) m.y q.held 1 L (λ z g. mine r b (h ∙ sym z)) (λ z. from_outside l18 e (λ x. x) r c)

  resets : (r : Record) → Marks (store m q.held Y 0) (upd s.task t r)
  resets r c = upd-cases (λ z. z ≢ 0 → Marked L (upd s.task t r)) m.y q.held 0 L (λ z g. absurd (g refl)) (λ z y. other r (λ b h. z (sym h)) (k c y))

  closes : (r : Record) → Marks (store m q.held C 1) (upd s.task t r)
  closes r = upd-cases (λ z. z ≡ 0 → m.y L ≢ 0 → Marked L (upd s.task t r)) m.c q.held 1 L (λ z g. absurd (omega arith)) (λ z c y. other r (λ b h. z (sym h)) (k c y))

  abbrev Does : Line → Accessed → Type 0
  Does ℓ x = Marks x.cell (upd s.task t (record_after (next_at ℓ t (counted q (attempt (access_at ℓ t q) x.value)) x.value)))

  abbrev Leaves : Next → Type 0
  Leaves n = Marks m (upd s.task t (record_after n))

  at-line : (ℓ : Line) → line s t ≡ ℓ → TaskOf s κ t ℓ q
  at-line ℓ e = subst (λ ℓ. TaskOf s κ t ℓ q) e i

  decided-inactive : (ℓ : Line) → line s t ≡ ℓ → T (contended ℓ) → m.c q.held ≢ 0
  decided-inactive ℓ e b = (at-line ℓ e).decided.inactive b

  -- the block that is filled is not the cell's
  unnamed : (ℓ : Line) → line s t ≡ ℓ → T (taking ℓ) → L ≢ q.taken
  unnamed ℓ e b z = ((at-line ℓ e).fresh b).other (sym z)

  pub marks-kept : (ℓ : Line) → line s t ≡ ℓ → T (busy ℓ) → Does ℓ (access_cell m (access_at ℓ t q))
  marks-kept (l1 x) e b = from_inactive _ (decided-inactive (l1 x) e tt)
  marks-kept (l2 x) e b = by_test (Does (l2 x)) (eqb (m.d q.held) no_value) (accessed (store m q.held D q.loaded) 1) (accessed m 0) (λ z. from_inactive _ (decided-inactive (l2 x) e tt)) (λ z. from_inactive _ (decided-inactive (l2 x) e tt))
  marks-kept (l3 for13) e b = from_inactive _ (decided-inactive (l3 for13) e tt)
  marks-kept (l3 for25) e b = from_inactive _ (decided-inactive (l3 for25) e tt)
  marks-kept (l3 for28) e b = from_inactive _ (decided-inactive (l3 for28) e tt)
  marks-kept l4 e b = from_outside l4 e (λ x. x) _
  marks-kept l5 e b = λ c y. from_outside l5 e (λ x. x) _ c (λ z. y (upd_off m.y q.taken 0 L (unnamed l5 e tt) ∙ z))
  marks-kept l6 e b = λ c. from_outside l6 e (λ x. x) _ (sym (upd_off m.c q.taken 0 L (unnamed l6 e tt)) ∙ c)
  marks-kept l7 e b = from_outside l7 e (λ x. x) _
  marks-kept l8 e b = from_outside l8 e (λ x. x) _
  marks-kept l10 e b = from_outside l10 e (λ x. x) _
  marks-kept l11 e b = from_outside l11 e (λ x. x) _
  marks-kept l12 e b = from_outside l12 e (λ x. x) _
  marks-kept l15 e b = from_outside l15 e (λ x. x) _
  marks-kept l16 e b = from_outside l16 e (λ x. x) _
  marks-kept l17 e b = from_outside l17 e (λ x. x) _
  marks-kept l18 e b = sets e _ tt refl
  marks-kept l19 e b = by_test Leaves (eqb (m.x q.held) t) _ _ (λ z. to_marking _ tt refl) (λ z. to_marking _ tt refl)
  marks-kept l20 e b = to_marking _ tt refl
  marks-kept l21 e b = by_test Leaves (eqb (m.c q.held) 0) _ _ (λ z. by_test Leaves (eqb q.loaded q.expected) _ _ (λ z. to_marking _ tt refl) (λ z. to_marking _ tt refl)) (λ z. from_inactive _ (eqb-false _ _ z))
  marks-kept l22 e b = resets _
  marks-kept l23 e b = to_marking _ tt refl
  marks-kept l24 e b = by_test Leaves (eqb (m.c q.held) 0) _ _ (λ z. to_marking _ tt refl) (λ z. to_marking _ tt refl)
  marks-kept l26 e b = resets _
  marks-kept l27 e b = closes _
  marks-kept l30 e b = by_test (Does l30) (eqb m.current q.held) (accessed (install m q.taken) 1) (accessed m 0)
      (λ z c y. absurd (y (((at-line l30 e).fresh tt).y-is tt))) (λ z. from_outside l30 e (λ x. x) _)
  marks-kept nowhere e b = absurd b

-- IN THE WHOLE FIGURE

abbrev pub MarksIn : World → ℕ → Type 0
MarksIn w k = Marks (w.cell k) (on w.records k)

-- what is known of each task, by its own record
abbrev pub AllKnown : World → Type 1
AllKnown w = (t : ℕ) → t < w.tasks → (g : Ghost) × (κ : Knowledge) × TaskOf (view w g (w.records t).cell) κ t (line_of (w.records t)) (w.records t)

-- a step of t
module _ (w : World) (t : ℕ) (did : List Line) (o : Pending w.cells did (w.records t)) (g : Ghost) (κ : Knowledge) (f : TaskOf (view w g (w.records t).cell) κ t (line_of (w.records t)) (w.records t)) where
  abbrev j : ℕ
  j = (w.records t).cell

  here : on w.records j t ≡ w.records t
  here = on_in w.records j t refl

  marks-here : MarksIn w j → Marks (cell_after w t) (upd (on w.records j) t (record_after (next_after w t)))
  marks-here h = subst (λ (r : Record). let x = access_cell (w.cell j) (access_of t r) in Marks x.cell (upd (on w.records j) t (record_after (next_of t r x.value)))) here
      (marks-kept (view w g j) κ t (subst (λ (r : Record). TaskOf (view w g j) κ t (line_of r) r) (sym here) f) h (line_of (on w.records j t)) refl (rw here (busy-line (w.records t) o.line)))

  marks-stepped : (k : ℕ) → MarksIn w k → MarksIn (step_after w t) k
  marks-stepped k h = go (either k j)
    where
      r : Record
      r = record_after (next_after w t)

      go : (k ≡ j) ⊎ (k ≢ j) → MarksIn (step_after w t) k
      go (inl e) = subst (MarksIn (step_after w t)) (sym e) (rw (cell-there w j (cell_after w t) t r, on_changed w.records t r j (stays w t did o).0) (marks-here (subst (MarksIn w) e h)))
      go (inr e) = rw (cell_elsewhere w j (cell_after w t) t r k e, on_others w.records t r k e (stays w t did o).0) h

-- another record for t, who is not in the splitter
marks_put : (w : World) (t : ℕ) (r : Record) (k : ℕ) → (T (marking (line_of (on w.records k t))) → ⊥) → MarksIn w k → MarksIn (with_task w t r) k
marks_put w t r k n h c y =
    let x = h c y in
    let e = on_other w.records t r k x.who (λ z. n (subst (λ u. T (marking (line_of (on w.records k u)))) z x.marks)) in
    record { who = x.who; marks = rw e x.marks; here = rw e x.here }

-- a task in the splitter is swapping unequal values
in_splitter : (w : World) → AllOnPath w → (k u : ℕ) → T (marking (line_of (on w.records k u))) → (n : Tally) × (doing w u ≡ some n) × Unequal n.op × (cell_of n.op ≡ k)
in_splitter w p k u b =
    let i = there w k u marking tt b in
    let y = lies_in marking busy tt (line_of (w.records u)) i.2 in
    (tally (w.records u), busy_doing (w.records u) y, is_unequal (w.records u) (pending-at w p u y).1.line (lies_in marking swapping tt (line_of (w.records u)) i.2), cell_of_lem (w.records u) ∙ i.1)

-- whatever the action, if it withdraws none of them
pub marks-next : (w : World) → AllOnPath w → AllKnown w → (a : Action) (k : ℕ) → Spares doing w a k → MarksIn w k → MarksIn (figure w a).0 k
unfolding figure_ran
marks-next w p f (begin t op) k s h = go (begin-cases w t op)
  where
    go : {x : WorldAfter} → Begun w t op x → MarksIn x.world k
    go (Begun.refuses n) = h
    go (starts a) = marks_put w t (first_of op) k (λ b. rw (idle_to w p t op a k) at b) h
marks-next w p f (step t) k s h = go (step-cases w t (p t).0 (p t).1)
  where
    go : {x : WorldAfter} → Stepped w t (p t).0 x → MarksIn x.world k
    go (Stepped.refuses n e) = h
    go (runs l o) = let y = f t l in marks-stepped w t (p t).0 o y.0 y.1 y.2 k h
marks-next w p f (drop t) k s h = go (drop-cases w t (p t).0 (p t).1)
  where
    go : {x : WorldAfter} → Dropped w t (p t).0 x → MarksIn x.world k
    go (Dropped.refuses n e) = h
    go (leaves l o) = marks_put w t idle k (λ b. let i = in_splitter w p k t b in s i.0 i.1 i.2 i.3) h

-- where no swap of unequal values is pending, an active block is all that a call needs
pub marks-ready : (w : World) → AllOnPath w → (op : Op) → Free doing w (cell_of op) → MarksIn w (cell_of op) → active w (cell_of op) → ready w op
marks-ready w p op free h c = (c, λ u. go (either y 0))
  where
    y : ℕ
    y = (w.cell (cell_of op)).y (w.cell (cell_of op)).current

    go : (y ≡ 0) ⊎ (y ≢ 0) → y ≡ 0
    go (inl z) = z
    go (inr z) = let x = h c z in let i = in_splitter w p (cell_of op) x.who x.marks in absurd (free x.who i.0 i.1 i.2 i.3)
