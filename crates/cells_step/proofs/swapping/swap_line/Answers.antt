use mathlib.Core.Path.{◌≡◌, refl}
use native.Mathlib.Nat.{add-zero}
use native.Mathlib.Omega.{arith}
use Rattle.figure_lines.specs.declared.Field.TheVariants.{C}
use Rattle.figure_lines.specs.Lines.{l21}
use Rattle.figure_lines.proofs.Ranges.{line-at}
use Rattle.cells_spec.proofs.LineRuns.{by-load}
use Rattle.cells_step.proofs.swapping.swap_line.Goals as goal

pub store-requires : goal.store-requires
store-requires c = rw c.in-16.is at c.requires.within 0

pub load-requires : goal.load-requires
load-requires c = rw c.in-17.is at c.requires.within 0

pub store-requires-in-18 : goal.store-requires-in-18
store-requires-in-18 c = rw c.in-18.is at c.requires.within 0

pub load-requires-in-19 : goal.load-requires-in-19
load-requires-in-19 c = rw c.in-19.is at c.requires.within 0

pub load-requires-in-20 : goal.load-requires-in-20
load-requires-in-20 c = rw c.in-20.is at c.requires.within 0

pub load-requires-in-21 : goal.load-requires-in-21
load-requires-in-21 c = rw c.in-21.is at c.requires.within 0

pub store-requires-in-22 : goal.store-requires-in-22
store-requires-in-22 c = rw c.in-22.is at c.requires.within 0

pub store-requires-in-23 : goal.store-requires-in-23
store-requires-in-23 c = rw c.in-23.is at c.requires.within 0

pub load-requires-in_default : goal.load-requires-in_default
load-requires-in_default c = let e : c.args.r.now.line ≡ 24 = omega arith in rw e at c.requires.within 0

pub returns-in-15 : goal.returns-in-15
returns-in-15 c l f = rw (c.hold.ensures, c.in-15.is) (simp add-zero refl)

pub returns-in-21 : goal.returns-in-21
returns-in-21 c l f = let r = c.args.r.now in by-load c.args.pool.now c.args.task r c.args.current l f l21 C (line-at r 21 c.in-21.is) refl c.load-in-21.ensures (c.compared.ensures c.args.task)
