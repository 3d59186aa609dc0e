-- A hardware CAS is won or lost, never both; any other access is neither.
use mathlib.Core.Path.{◌≡◌, refl}
use mathlib.Core.Bool.{Bool, true, false, cond}
use Prim.Native.Nat.{ℕ, ◌+◌}
use native.Mathlib.Omega.{arith}
use lib.Dec.{eqb}
use Rattle.figure_lines.specs.declared.Access.{Access}
use Rattle.figure_lines.specs.declared.Access.TheVariants.{LoadCell, Load, Store, DecideCas, InstallCas, Allocate, Nothing}
use Rattle.figure_lines.specs.Lines.{hardware, attempt}
use Rattle.history_spec.specs.History.{success, failure, untried, wins, losses}

one : (b : Bool) → wins (cond b success failure) + losses (cond b success failure) ≡ 1
one true = refl
one false = refl

pub tries : (a : Access) (v : ℕ) → wins (attempt a v) + losses (attempt a v) ≡ hardware a
tries (LoadCell k) v = refl
tries (Load b f) v = refl
tries (Store b f n) v = refl
tries (DecideCas b n) v = one (eqb v 1)
tries (InstallCas k b n) v = one (eqb v 1)
tries Allocate v = refl
tries Nothing v = refl

pub none_tried : (a : Access) (v : ℕ) → hardware a ≡ 0 → attempt a v ≡ untried
none_tried (LoadCell k) v e = refl
none_tried (Load b f) v e = refl
none_tried (Store b f n) v e = refl
none_tried (DecideCas b n) v e = absurd (omega arith)
none_tried (InstallCas k b n) v e = absurd (omega arith)
none_tried Allocate v e = refl
none_tried Nothing v e = refl
