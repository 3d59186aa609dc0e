-- All cells together: what the proof keeps of them, who is at a line of which cell, and what the next line of a task makes of them.
use mathlib.Core.Path.{◌≡◌, refl, sym, subst, ◌∙◌}
use mathlib.Core.Logic.{inl, inr}
use mathlib.Core.Bool.{Bool, not, ◌||◌, false≢true}
use mathlib.Core.Option.{some}
use mathlib.Core.List.{List}
use Prim.Native.Nat.{ℕ, ◌<◌}
use lib.Dec.{T}
use Rattle.figure_lines.specs.declared.Record.{Record}
use Rattle.figure_lines.specs.Answers.{Next}
use Rattle.figure_lines.specs.Record.{idle}
use Rattle.figure_lines.specs.Lines.{Line, line_of, access_of, next_of}
use Rattle.history_spec.specs.History.{Op, cell_of, read, swap}
use Rattle.history_linearization.proofs.Simulation.{settled, Ghost, Tally}
use Rattle.figure_cell.specs.Memory.{Cell, access_cell}
use Rattle.cells_spec.specs.Turn.{record_after}
use Rattle.figure.specs.Figure.{World, with_both, first_of}
use Rattle.history_spec.proofs.ListTests.{every}
use Rattle.figure_cell.proofs.LineLaws.{lines}
use Rattle.figure.proofs.Records.{Pending, AllOnPath, OnPath, Accepted, not_idle}
use Rattle.figure.proofs.Tallies.{tally, doing}
use Rattle.figure_cell.proofs.Classes.{busy, lies_in}
use Rattle.figure_cell.proofs.Invariant.{Knowledge, TaskOf, Inv}
use Rattle.figure.proofs.Views.{on, on_in, on_it, view, on_idle}
use Rattle.figure.proofs.Operations.{busy_doing}

-- what the proof keeps of the whole figure
pub record Good (w : World) (g : Ghost) (κ : Knowledge) : Type 0 where
  pub on_path : AllOnPath w
  pub cells : (k : ℕ) → Inv (view w g k) κ
  -- in a settled cell every pending call began before any freezing to come
  pub eager : (u : ℕ) (n : Tally) → doing w u ≡ some n → g.phase (cell_of n.op) ≡ settled → κ.early u

-- who is to cell j at a line of class c, by its own record
pub there : (w : World) (j u : ℕ) (c : Line → Bool) → T (every (λ ℓ. not (c ℓ) || busy ℓ) lines) → T (c (line_of (on w.records j u))) → (on w.records j u ≡ w.records u) × ((w.records u).cell ≡ j) × T (c (line_of (w.records u)))
there w j u c h b =
    let i = on_it w.records j u (lies_in c busy h (line_of (on w.records j u)) b) in
    let e = on_in w.records j u i in
    (e, i, subst (λ (r : Record). T (c (line_of r))) e b)

-- who is busy to cell k is doing something there
pub doing_on : (w : World) (k u : ℕ) → T (busy (line_of (on w.records k u))) → (doing w u ≡ some (tally (w.records u))) × ((w.records u).cell ≡ k)
doing_on w k u b = let i = there w k u busy tt b in (busy_doing (w.records u) i.2, i.1)

-- the record of a busy task
pub pending-at : (w : World) → AllOnPath w → (u : ℕ) → T (busy (line_of (w.records u))) → (did : List Line) × Pending w.cells did (w.records u) × (u < w.tasks)
pending-at w p u b = go (p u).1
  where
    go : OnPath w.tasks w.cells u (p u).0 (w.records u) → (did : List Line) × Pending w.cells did (w.records u) × (u < w.tasks)
    go (inl i) = absurd (rw i.0 at b)
    go (inr o) = ((p u).0, o.1, o.0)

-- what is known of a task, by its own record
pub facts : (w : World) (g : Ghost) (κ : Knowledge) → Good w g κ → (u : ℕ) → TaskOf (view w g (w.records u).cell) κ u (line_of (w.records u)) (w.records u)
facts w g κ G u = let k = (w.records u).cell in subst (λ (r : Record). TaskOf (view w g k) κ u (line_of r) r) (on_in w.records k u refl) ((G.cells k).tasks u)

-- what the next line of task t makes of its cell, what follows, and the figure afterwards
abbrev pub cell_after : World → ℕ → Cell
cell_after w t = (access_cell (w.cell (w.records t).cell) (access_of t (w.records t))).cell

abbrev pub next_after : World → ℕ → Next
next_after w t = next_of t (w.records t) (access_cell (w.cell (w.records t).cell) (access_of t (w.records t))).value

abbrev pub step_after : World → ℕ → World
step_after w t = with_both w (w.records t).cell (cell_after w t) t (record_after (next_after w t))

-- A CALL THAT BEGINS: its record is the first one of its operation, and its task was idle

pub its-cell : (op : Op) → (first_of op).cell ≡ cell_of op
its-cell (read k) = refl
its-cell (swap k e n) = refl

module _ (w : World) (p : AllOnPath w) (t : ℕ) (op : Op) (a : Accepted w t op) where
  pub was_idle : w.records t ≡ idle
  was_idle = go (p t).1
    where
      go : OnPath w.tasks w.cells t (p t).0 (w.records t) → w.records t ≡ idle
      go (inl i) = i.0
      go (inr o) = absurd (false≢true (sym (not_idle (w.records t) o.1.line) ∙ a.free))

  pub idle_to : (j : ℕ) → on w.records j t ≡ idle
  idle_to j = on_idle w.records j t was_idle
