-- What the lines' accesses keep to: a block's words are the held block's, at lines that hold one, or, in a store, the taken block's, at lines
-- that have taken one; the cell is the task's own, and what it comes to name is the taken block; only line 4 asks for an unused block.
use mathlib.Core.Path.{◌≡◌, refl}
use mathlib.Core.Logic.{◌⊎◌, inl, inr}
use mathlib.Core.Bool.{true}
use Prim.Native.Nat.{ℕ}
use Rattle.figure_lines.specs.declared.Record.{Record}
use Rattle.figure_lines.specs.declared.Access.{Access}
use Rattle.figure_lines.specs.declared.Access.TheVariants.{LoadCell, Load, Store, DecideCas, InstallCas, Allocate, Nothing}
use Rattle.figure_lines.specs.Lines.{Line, l1, l2, l3, l4, l5, l6, l7, l8, l10, l11, l12, l15, l16, l17, l18, l19, l20, l21, l22, l23, l24, l26, l27, l30, nowhere, access_at}
use Rattle.cells_spec.specs.Questions.{holds_before, taken_before}
use Rattle.cells_spec.proofs.Numbers.{number}

abbrev pub Holds : Line → Type 0
Holds l = holds_before (number l) ≡ true

abbrev pub HasTaken : Line → Type 0
HasTaken l = taken_before (number l) ≡ true

abbrev pub Keeps : Line → Record → Access → Type 0
Keeps l r (LoadCell k) = k ≡ r.cell
Keeps l r (Load b f) = (b ≡ r.held) × Holds l
Keeps l r (Store b f v) = ((b ≡ r.held) × Holds l) ⊎ ((b ≡ r.taken) × HasTaken l)
Keeps l r (DecideCas b v) = (b ≡ r.held) × Holds l
Keeps l r (InstallCas k b n) = (k ≡ r.cell) × (b ≡ r.held) × (n ≡ r.taken) × HasTaken l
Keeps l r Allocate = number l ≡ 4
Keeps l r Nothing = Prim.Unit

ruleset accesses = (refl, inl, inr)

pub keeps : (t : ℕ) (r : Record) (l : Line) → Keeps l r (access_at l t r)
keeps t r (l1 w) = search accesses
keeps t r (l2 w) = search accesses
keeps t r (l3 w) = search accesses
keeps t r l4 = search accesses
keeps t r l5 = search accesses
keeps t r l6 = search accesses
keeps t r l7 = search accesses
keeps t r l8 = search accesses
keeps t r l10 = search accesses
keeps t r l11 = search accesses
keeps t r l12 = search accesses
keeps t r l15 = search accesses
keeps t r l16 = search accesses
keeps t r l17 = search accesses
keeps t r l18 = search accesses
keeps t r l19 = search accesses
keeps t r l20 = search accesses
keeps t r l21 = search accesses
keeps t r l22 = search accesses
keeps t r l23 = search accesses
keeps t r l24 = search accesses
keeps t r l26 = search accesses
keeps t r l27 = search accesses
keeps t r l30 = search accesses
keeps t r nowhere = search accesses
