-- Only line 30's hardware CAS changes which block the task's cell names.
use mathlib.Core.Path.{◌≡◌, refl, sym}
use mathlib.Core.Bool.{Bool, true, false, false≢true}
use mathlib.Core.Option.{Option, none, some}
use mathlib.Core.List.{List}
use Prim.Native.Nat.{ℕ}
use lib.Dec.{eqb}
use Rattle.figure_lines.specs.declared.Field.TheVariants.{D}
use Rattle.figure_lines.specs.declared.Access.{Access}
use Rattle.figure_lines.specs.declared.Access.TheVariants.{LoadCell, Load, Store, DecideCas, InstallCas, Allocate, Nothing}
use Rattle.figure_lines.specs.Record.{no_value}
use Rattle.cells_spec.specs.Pool.{word}
use Rattle.cells_spec.specs.Memory.{performed}

abbrev pub installs : Access → Bool
installs (LoadCell k) = false
installs (Load b f) = false
installs (Store b f v) = false
installs (DecideCas b v) = false
installs (InstallCas k b n) = true
installs Allocate = false
installs Nothing = false

pub block_stays : (p : List ℕ) (c l : ℕ) (f : Option ℕ) (a : Access) → installs a ≡ false → (performed p c l f a).current ≡ c
block_stays p c l f (LoadCell k) h = refl
block_stays p c l f (Load b g) h = refl
block_stays p c l f (Store b g v) h = refl
block_stays p c l f (DecideCas b v) h = go (eqb (word p b D) no_value) refl
  where
    go : (x : Bool) → eqb (word p b D) no_value ≡ x → (performed p c l f (DecideCas b v)).current ≡ c
    go true e = rw e
    go false e = rw e
block_stays p c l f (InstallCas k b n) h = absurd (false≢true (sym h))
block_stays p c l none Allocate h = refl
block_stays p c l (some b) Allocate h = refl
block_stays p c l f Nothing h = refl
