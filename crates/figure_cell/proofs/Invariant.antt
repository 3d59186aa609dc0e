-- The invariant of one cell, as small facts grouped by the words that they look at.
use mathlib.Core.Path.{◌≡◌}
use mathlib.Core.Logic.{◌≢◌}
use mathlib.Core.Bool.{Bool, not}
use Prim.Native.Nat.{ℕ, ◌<◌}
use lib.Dec.{T}
use Rattle.figure_lines.specs.declared.Record.{Record}
use Rattle.figure_lines.specs.Lines.{Line, line_of}
use Rattle.figure_lines.specs.Record as Reserved
use Rattle.history_linearization.proofs.Simulation.{Phase, settled, frozen, late}
use Rattle.figure_cell.specs.Memory.{Cell}
use Rattle.figure_cell.proofs.Classes.{is, busy, holding, swapping, racing, won, loaded, stored, contended, replacing, taking, filled_y, filled_c, filled_d, checking}

-- document 01's none, kept shut: its digits say nothing here
unfoldable pub none : ℕ
none = Reserved.no_value

-- one cell as the proof sees it: its memory, the tasks on it (the others idle), and the ghost: the sequential cell's value, whose
-- swap took effect, the phase
pub record View : Type 0 where
  pub cell : Cell
  pub task : ℕ → Record
  pub value : ℕ
  pub placed : ℕ → Bool
  pub phase : Phase

-- what a task's pending call knows of its cell: the value at its load of V; the decision of the block that it holds; the value after
-- that block was replaced. That its begin comes before the last freezing, or that the cell is settled; whether its store found its block
-- active.
pub record Knowledge : Type 1 where
  pub loaded : (task value : ℕ) → Type 0
  pub decided : (task value : ℕ) → Type 0
  pub replaced : (task value : ℕ) → Type 0
  pub early : (task : ℕ) → Type 0
  pub stored_active : (task : ℕ) → Bool

-- OF A TASK. ℓ is its line; x y c v d are the words of the block that it holds, number h.

-- looks at the record alone
pub record Self (ℓ : Line) (ev nv v : ℕ) (placed : Bool) : Type 0 where
  -- line 14: a swap of equal values reads
  pub differ : T (swapping ℓ) → ev ≢ nv
  pub ev_some : T (swapping ℓ) → ev ≢ none
  pub nv_some : T (swapping ℓ) → nv ≢ none
  pub loaded-some : T (is 12 ℓ) → v ≢ none
  -- line 22's test
  pub other_loaded : T (is 22 ℓ) → v ≢ ev
  pub same-loaded : T (is 23 ℓ) → v ≡ ev
  -- an active block at line 24 means that the store took effect
  pub yes-placed : T (is 26 ℓ) → T placed
  -- only who stored can have taken effect and be pending
  pub placed-stored : T (busy ℓ) → T placed → T (stored ℓ)

-- the splitter's words
pub record Split (u : ℕ) (ℓ : Line) (x y : ℕ) : Type 0 where
  -- who finds its own number in X wins a splitter that is set
  pub about_to_win : T (is 19 ℓ) → x ≡ u → y ≢ 0
  -- who has won keeps it: Y stays set until the winner resets it
  pub kept : T (won ℓ) → y ≢ 0

-- V
pub record Value (ℓ : Line) (nv h loadedV next v : ℕ) : Type 0 where
  pub there : T (holding ℓ) → h < next
  pub some : T (holding ℓ) → v ≢ none
  -- nobody but the winner stores V
  pub still_loaded : T (loaded ℓ) → v ≡ loadedV
  pub still-stored : T (stored ℓ) → v ≡ nv

-- C and D; L is the cell's current block, P the sequential cell's value
pub record Decided (u : ℕ) (ℓ : Line) (q : Record) (placed : Bool) (d c L P : ℕ) (phase : Phase) : Type 0 where
  -- a block is replaced only after it is decided, and decided only after it is inactive
  pub replaced-decided : T (holding ℓ) → q.held ≢ L → d ≢ none
  pub decided-inactive : T (holding ℓ) → d ≢ none → c ≢ 0
  -- the winner's V is unchanged, so what is decided before its store is what it expects
  pub before-store : T (is 23 ℓ) → d ≢ none → d ≡ q.expected
  -- a store that took effect: the cell has the new value, and it will be decided so
  pub placed-value : T (stored ℓ) → T placed → d ≡ none → P ≡ q.new
  pub placed-decided : T (stored ℓ) → T placed → d ≢ none → d ≡ q.new
  -- a store that did not: it came late, and may yet, or the decision is the expected value
  pub late_inactive : T (stored ℓ) → T (not placed) → c ≢ 0
  pub late_phase : T (stored ℓ) → T (not placed) → d ≡ none → phase ≡ late u
  pub late_decided : T (stored ℓ) → T (not placed) → d ≢ none → d ≡ q.expected
  pub inactive : T (contended ℓ) → c ≢ 0
  pub decided : T (is 3 ℓ) → d ≢ none
  pub expected : T (replacing ℓ) → d ≡ q.expected

-- what the task has seen in its cell since its begin
pub record Seen (ℓ : Line) (h v : ℕ) (loading decided replacing : ℕ → Type 0) (d c L : ℕ) : Type 0 where
  pub active-value : T (checking ℓ) → c ≡ 0 → loading v
  pub refusing : T (is 22 ℓ) → loading v
  pub decision : T (holding ℓ) → d ≢ none → decided d
  -- a replaced block's decision was followed by another value
  pub replaced : T (holding ℓ) → h ≢ L → (n : ℕ) × replacing n × (n ≢ d)

-- a swap that stored: if its block was active then, it took effect; else the block is inactive, and it took effect only with the decision
pub record Store (ℓ : Line) (active placed : Bool) (d c : ℕ) : Type 0 where
  pub active-placed : T (stored ℓ) → T active → T placed
  pub late_placed : T (stored ℓ) → T (not active) → T placed → d ≢ none
  pub late_store_lem : T (stored ℓ) → T (not active) → c ≢ 0
  pub yes-active : T (is 26 ℓ) → T active

-- what is about to be decided; vL is V of the current block
pub record Planned (ℓ : Line) (v d P vL : ℕ) : Type 0 where
  pub plan_some : T (is 2 ℓ) → v ≢ none
  -- the sequential cell's value, or what a late swap stored
  pub plan : T (is 2 ℓ) → d ≡ none → v ≢ P → vL ≡ v

-- the block that a task at line ℓ has taken: nobody else knows it, and the words that are stored so far are a new block's
pub record Fresh (ℓ : Line) (b nv next v d y c L : ℕ) : Type 0 where
  pub below : b < next
  pub other : b ≢ L
  pub y-is : T (filled_y ℓ) → y ≡ 0
  pub c-is : T (filled_c ℓ) → c ≡ 0
  pub d-is : T (filled_d ℓ) → d ≡ none
  pub v-is : T (is 30 ℓ) → v ≡ nv

-- the task whose late store may yet take effect
pub record Owner (ℓ : Line) (q : Record) (placed : Bool) (L P vL : ℕ) : Type 0 where
  pub has_stored : T (stored ℓ)
  pub here : q.held ≡ L
  pub not_placed : T (not placed)
  pub new_is : q.new ≡ vL
  pub expected_is : q.expected ≡ P

pub record Task (m : Cell) (P : ℕ) (placed : Bool) (phase : Phase) (κ : Knowledge) (u : ℕ) (ℓ : Line) (q : Record) : Type 0 where
  pub self : Self ℓ q.expected q.new q.loaded placed
  pub split : Split u ℓ (m.x q.held) (m.y q.held)
  pub value : Value ℓ q.new q.held q.loaded m.next (m.v q.held)
  pub decided : Decided u ℓ q placed (m.d q.held) (m.c q.held) m.current P phase
  pub store : Store ℓ (κ.stored_active u) placed (m.d q.held) (m.c q.held)
  pub seen : Seen ℓ q.held q.loaded (κ.loaded u) (κ.decided u) (κ.replaced u) (m.d q.held) (m.c q.held) m.current
  pub planned : Planned ℓ q.loaded (m.d q.held) P (m.v m.current)
  pub fresh : T (taking ℓ) → Fresh ℓ q.taken q.new m.next (m.v q.taken) (m.d q.taken) (m.y q.taken) (m.c q.taken) m.current
  -- a store can come late only from a call that began before the block became inactive
  pub early : T (is 23 ℓ) → κ.early u
  pub owner : phase ≡ late u → Owner ℓ q placed m.current P (m.v m.current)

abbrev pub TaskOf : View → Knowledge → ℕ → Line → Record → Type 0
TaskOf s κ u ℓ q = Task s.cell s.value (s.placed u) s.phase κ u ℓ q

-- OF TWO TASKS that hold one block, u and w: ℓ and ℓ' are their lines, x is X of the block

pub record Rival (w : ℕ) (ℓ ℓ' : Line) (x : ℕ) : Type 0 where
  pub one_won : T (won ℓ) → T (won ℓ') → ⊥
  pub no_race : T (won ℓ) → T (racing ℓ') → x ≡ w → ⊥

-- OF THE CELL

-- settled: active, or decided. Frozen: inactive and undecided. Late: the same, and a swap stored since.
abbrev pub PhaseIs : Phase → (c v d P : ℕ) → Type 0
PhaseIs settled c v d P = d ≡ none → (c ≡ 0) × (v ≡ P)
PhaseIs frozen c v d P = (c ≢ 0) × (d ≡ none) × (v ≡ P)
PhaseIs (late u) c v d P = (c ≢ 0) × (d ≡ none)

-- the current block, number L
pub record Current (L next P c v d : ℕ) (phase : Phase) : Type 0 where
  pub low : L < next
  pub P-some : P ≢ none
  pub v-some : v ≢ none
  pub decided-inactive : d ≢ none → c ≢ 0
  pub decision : d ≢ none → d ≡ P
  pub phase_is : PhaseIs phase c v d P

abbrev pub CurrentOf : View → Type 0
CurrentOf s = Current s.cell.current s.cell.next s.value (s.cell.c s.cell.current) (s.cell.v s.cell.current) (s.cell.d s.cell.current) s.phase

-- ALL OF IT

abbrev pub line : View → ℕ → Line
line s u = line_of (s.task u)

abbrev pub held : View → ℕ → ℕ
held s u = (s.task u).held

abbrev pub RivalOf : View → ℕ → ℕ → Type 0
RivalOf s u w = Rival w (line s u) (line s w) (s.cell.x (held s w))

pub record Inv (s : View) (κ : Knowledge) : Type 0 where
  pub current : CurrentOf s
  pub tasks : (u : ℕ) → TaskOf s κ u (line s u) (s.task u)
  pub rivals : (u w : ℕ) → u ≢ w → held s u ≡ held s w → RivalOf s u w
  -- two tasks never take the same block
  pub apart : (u w : ℕ) → u ≢ w → T (taking (line s u)) → T (taking (line s w)) → (s.task u).taken ≢ (s.task w).taken
  -- nobody holds a block that is taken
  pub unheld : (u w : ℕ) → T (taking (line s u)) → T (holding (line s w)) → (s.task u).taken ≢ held s w
