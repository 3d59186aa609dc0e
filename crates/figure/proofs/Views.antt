-- From one cell to all: a cell sees the tasks that are on it, and a step on one cell leaves the views of the others.
use mathlib.Core.Path.{◌≡◌, refl}
use mathlib.Core.Logic.{◌≢◌, ◌⊎◌, inl, inr}
use mathlib.Core.Bool.{Bool, true, false, not}
use Prim.Native.Nat.{ℕ}
use lib.Dec.{T}
use Rattle.figure_lines.specs.declared.Record.{Record}
use Rattle.figure_lines.specs.Record.{idle}
use Rattle.figure_lines.specs.Lines.{Line, line_of, nowhere}
use Rattle.history_spec.specs.Basics.{upd}
use Rattle.history_spec.proofs.Basics.{either}
use Rattle.history_spec.proofs.OnCell as OnCell
use Rattle.history_linearization.proofs.Simulation.{late, Ghost}
use Rattle.figure.specs.Figure.{World}
use Rattle.figure_cell.proofs.LineLaws.{same, same-is}
use Rattle.figure_cell.proofs.Classes.{busy, lies_in}
use Rattle.figure_cell.proofs.Invariant.{View, Knowledge, Task, line, Inv}
use Rattle.figure_cell.proofs.Looking.{idle-task}

-- the tasks on cell k; the others are idle to it
abbrev pub on : (ℕ → Record) → ℕ → ℕ → Record
on = OnCell.on (λ (r : Record). r.cell) idle

pub on_in : (f : ℕ → Record) (k u : ℕ) → (f u).cell ≡ k → on f k u ≡ f u
on_in = OnCell.on_in (λ (r : Record). r.cell) idle

pub on_out : (f : ℕ → Record) (k u : ℕ) → (f u).cell ≢ k → on f k u ≡ idle
on_out = OnCell.on_out (λ (r : Record). r.cell) idle

pub on_idle : (f : ℕ → Record) (k u : ℕ) → f u ≡ idle → on f k u ≡ idle
on_idle = OnCell.on_idle (λ (r : Record). r.cell) idle

-- who is busy to a cell is on it
pub on_it : (f : ℕ → Record) (k u : ℕ) → T (busy (line_of (on f k u))) → (f u).cell ≡ k
on_it f k u b = go (either (f u).cell k)
  where
    go : ((f u).cell ≡ k) ⊎ ((f u).cell ≢ k) → (f u).cell ≡ k
    go (inl z) = z
    go (inr z) = absurd (rw (on_out f k u z) at b)

abbrev pub view : World → Ghost → ℕ → View
view w g k = record { cell = w.cell k; task = on w.records k; value = g.cells k; placed = g.placed; phase = g.phase k }

-- A RECORD CHANGES

module _ (f : ℕ → Record) (t : ℕ) (q : Record) where
  pub on_other : (k u : ℕ) → u ≢ t → on (upd f t q) k u ≡ on f k u
  on_other = OnCell.on_other (λ (r : Record). r.cell) idle f t q

  pub on_changed : (k : ℕ) → (q.cell ≡ k) ⊎ (q ≡ idle) → on (upd f t q) k ≡ upd (on f k) t q
  on_changed = OnCell.on_changed (λ (r : Record). r.cell) idle f t q

  pub on_elsewhere : (j : ℕ) → ((f t).cell ≢ j) ⊎ (f t ≡ idle) → (q.cell ≢ j) ⊎ (q ≡ idle) → on (upd f t q) j ≡ on f j
  on_elsewhere = OnCell.on_elsewhere (λ (r : Record). r.cell) idle f t q

  pub on_others : (j : ℕ) → j ≢ (f t).cell → (q.cell ≡ (f t).cell) ⊎ (q ≡ idle) → on (upd f t q) j ≡ on f j
  on_others = OnCell.on_others (λ (r : Record). r.cell) idle f t q

-- WHOSE SWAP TOOK EFFECT matters only of busy tasks

-- only `nowhere` is no line
nowhere-is : (ℓ : Line) → busy ℓ ≡ false → ℓ ≡ nowhere
nowhere-is ℓ e = same-is ℓ nowhere (lies_in (λ ℓ. not (busy ℓ)) (λ ℓ. same ℓ nowhere) tt ℓ (rw e tt))

busy_or_not : (ℓ : Line) → T (busy ℓ) ⊎ (ℓ ≡ nowhere)
busy_or_not ℓ = go (busy ℓ) refl
  where
    go : (b : Bool) → busy ℓ ≡ b → T (busy ℓ) ⊎ (ℓ ≡ nowhere)
    go true e = inl (rw e tt)
    go false e = inr (nowhere-is ℓ e)

pub placed_changed : (s : View) (κ : Knowledge) (placed : ℕ → Bool) → ((u : ℕ) → T (busy (line s u)) → placed u ≡ s.placed u) → ((u : ℕ) → s.phase ≡ late u → T (busy (line s u)))
    → Inv s κ → Inv (record { cell = s.cell; task = s.task; value = s.value; placed = placed; phase = s.phase }) κ
placed_changed s κ placed same lates i = record { current = i.current; rivals = i.rivals; apart = i.apart; unheld = i.unheld; tasks = λ u. go u (busy_or_not (line s u)) }
  where
    go : (u : ℕ) → T (busy (line s u)) ⊎ (line s u ≡ nowhere) → Task s.cell s.value (placed u) s.phase κ u (line s u) (s.task u)
    go u (inl b) = rw (same u b) (i.tasks u)
    go u (inr e) = rw e (idle-task (record { cell = s.cell; task = s.task; value = s.value; placed = placed; phase = s.phase }) κ u (s.task u) (λ z. rw e at (lates u z)))
