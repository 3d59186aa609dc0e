-- What the figure counts of its pending calls, as the simulation asks for it: each step adds one, within the bounds of demand 3.
use mathlib.Core.Path.{◌≡◌, refl, ap, subst}
use mathlib.Core.Logic.{◌⊎◌, ◌≢◌, inl, inr}
use mathlib.Core.Bool.{Bool, true, false, cond}
use mathlib.Core.Option.{Option, none, some}
use mathlib.Core.List.{List}
use Prim.Native.Nat.{ℕ, ◌+◌, ◌≤◌, ◌<◌}
use native.Mathlib.Numerals.{add-one}
use lib.Dec.{eqb, leb, leb→le}
use borrow.Author.Tests.{eqb-true}
use Rattle.figure_lines.specs.declared.Record.{Record}
use Rattle.figure_lines.specs.Answers.{Next}
use Rattle.figure_lines.specs.Record.{idle, is_idle, op_of}
use Rattle.figure_lines.specs.Lines.{Line, line_of, access_of, counted, hardware}
use Rattle.history_spec.specs.Basics.{upd, ◌∈◌}
use Rattle.history_spec.specs.History.{Op, read, swap, Action, begin, step, drop, untried, Response}
use Rattle.history_spec.specs.Demand3.{most, most_hard}
use Rattle.history_spec.proofs.Basics.{either, clash, some_inj, upd-at, upd_off}
use Rattle.history_linearization.proofs.Simulation.{Tally, first, Follows}
use Rattle.figure_cell.specs.Memory.{Cell, access_cell}
use Rattle.cells_spec.specs.Turn.{record_after, outcome_of}
use Rattle.figure.specs.Figure.{World, WorldAfter, with_both, figure_ran, figure, tried_in, first_of}
use Rattle.cells_spec.specs.Events.{event_of}
use Rattle.figure_cell.specs.Paths.{read_paths, paths, access_count}
use Rattle.history_spec.proofs.ListTests.{every_in, by_test}
use Rattle.figure_cell.proofs.LineLaws.{ways_of, on_paths, on_read_paths, Leads, goes, done}
use Rattle.figure.proofs.Records.{Pending, not_idle, led, Then, one_line, pending-bounds, read-bounds, Begun, starts, begin-cases, Stepped, runs, step-cases, Dropped, leaves, drop-cases, OnPath, AllOnPath}

abbrev pub tally : Record → Tally
tally q = record { op = op_of q; steps = q.steps; won = q.won; lost = q.lost }

abbrev pub tally_of : Record → Option Tally
tally_of q = cond (is_idle q) none (some (tally q))

abbrev pub doing : World → ℕ → Option Tally
doing w t = tally_of (w.records t)

pub was_doing : (v : ℕ) (did : List Line) (q : Record) → Pending v did q → tally_of q ≡ some (tally q)
was_doing v did q o = rw (not_idle q o.line)

-- BOUNDS

-- found by computing over the paths
few-hard : (op : Op) (a : Response) (p : List Line) → p ∈ ways_of op a → access_count hardware p ≤ most_hard op
few-hard (read k) a p i = leb→le _ _ (every_in (λ p. leb (access_count hardware p) 1) read_paths tt p (on_read_paths k a p i))
few-hard (swap k e n) a p i = leb→le _ _ (every_in (λ p. leb (access_count hardware p) 3) paths tt p (on_paths (swap k e n) a p i))

abbrev Few : Tally → Type 0
Few n = (n.steps < most n.op) × (n.won + n.lost ≤ most_hard n.op)

pub within : (w : World) → AllOnPath w → (t : ℕ) (n : Tally) → doing w t ≡ some n → (n.steps < most n.op) × (n.won + n.lost ≤ most_hard n.op)
within w p t n e = go (w.records t) (p t).1 e
  where
    go : (q : Record) → OnPath w.tasks w.cells t (p t).0 q → tally_of q ≡ some n → Few n
    go q (inl i) e = absurd (clash (ap tally_of i.0) e)
    go q (inr (m, o)) e = let k : tally q ≡ n = some_inj (was_doing w.cells (p t).0 q o) e in
        subst Few k (by_test (λ op. (q.steps < most op) × (q.won + q.lost ≤ most_hard op)) (eqb q.kind 1) (read q.cell) (swap q.cell q.expected q.new) (λ z. read-bounds w.cells (p t).0 q o (eqb-true _ _ z)) (λ z. pending-bounds w.cells (p t).0 q o))

-- ACTIONS

module _ (w : World) where
  -- another record for task t
  put : (t : ℕ) (q : Record) (x : Option Tally) → tally_of q ≡ x → (u : ℕ) → tally_of (upd w.records t q u) ≡ upd (doing w) t x u
  put t q x e u = go (either u t)
    where
      go : (u ≡ t) ⊎ (u ≢ t) → tally_of (upd w.records t q u) ≡ upd (doing w) t x u
      go (inl i) = rw (upd-at w.records t q u i, upd-at (doing w) t x u i) e
      go (inr i) = rw (upd_off w.records t q u i, upd_off (doing w) t x u i)

  begin_follows : (t : ℕ) (op : Op) {f : WorldAfter} → Begun w t op f → Follows doing w.cells w (begin t op) f.world (event_of untried f.outcome)
  begin_follows t op (Begun.refuses n) = refl
  begin_follows t op (starts a) = record { idle = rw a.free; cell = a.cell; no_attempt = refl; rest = put t (first_of op) (some (first op)) (new op) }
    where
      new : (op : Op) → tally_of (first_of op) ≡ some (first op)
      new (read k) = refl
      new (swap k e n) = go (eqb e n)
        where
          go : (b : Bool) → cond (eqb (cond b 10 15) 0) none (some (first (swap k e n))) ≡ some (first (swap k e n))
          go true = refl
          go false = refl

  module _ (t : ℕ) (did : List Line) (o : Pending w.cells did (w.records t)) where
    abbrev q : Record
    q = w.records t

    line_follows : (c : Cell) {n : Next} → Leads (line_of q) (counted q (tried_in w t q)) n → Then w.cells did q o n
        → Follows doing w.cells w (step t) (with_both w q.cell c t (record_after n)) (event_of (tried_in w t (w.records t)) (outcome_of n))
    line_follows c (goes f) next = record { now = tally q; was = was_doing w.cells did q o; rest = put t _ _ (rw (not_idle _ next.line, add-one)) }
    line_follows c (done f) end = record {
      now = tally q;
      was = was_doing w.cells did q o;
      rest = put t idle none refl;
      kind = end.kind;
      cell = end.cell;
      steps = add-one q.steps;
      won = refl;
      lost = refl;
      few = rw end.all-hard (few-hard (op_of q) _ _ end.path);
    }

  step_follows : (t : ℕ) (did : List Line) {f : WorldAfter} → Stepped w t did f → Follows doing w.cells w (step t) f.world (event_of (tried_in w t (w.records t)) f.outcome)
  unfolding figure_ran
  step_follows t did (Stepped.refuses n i) = (refl, rw i)
  step_follows t did (runs m o) =
      let c = access_cell (w.cell (w.records t).cell) (access_of t (w.records t)) in
      line_follows t did o c.cell (led w.cells did (w.records t) o t c.value) (one_line w.cells did (w.records t) o t c.value)

  drop_follows : (t : ℕ) (did : List Line) {f : WorldAfter} → Dropped w t did f → Follows doing w.cells w (drop t) f.world (event_of untried f.outcome)
  drop_follows t did (Dropped.refuses n i) = (refl, rw i)
  drop_follows t did (leaves m o) = record { now = tally (w.records t); was = was_doing w.cells did (w.records t) o; rest = put t idle none refl; no_attempt = refl }

pub follows : (w : World) → AllOnPath w → (a : Action) → Follows doing w.cells w a (figure w a).0 (figure w a).1
follows w p (begin t op) = begin_follows w t op (begin-cases w t op)
follows w p (step t) = step_follows w t (p t).0 (step-cases w t (p t).0 (p t).1)
follows w p (drop t) = drop_follows w t (p t).0 (drop-cases w t (p t).0 (p t).1)
