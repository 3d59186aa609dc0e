use mathlib.Core.Path.{sym, ◌∙◌}
use borrow.Author.Tests.{lt-ltb, le-ltb}
use Rattle.cells_spec.specs.Look.{looked}
use Rattle.cells_spec.proofs.Fits.{current-below}
use Rattle.cells.proofs.looks.look.Goals as goal

-- Each return by the tests that led to it; a fit state says where the block lies.
pub returns-then-not-is_fit : goal.returns-then-not-is_fit
unfolding looked
returns-then-not-is_fit c = rw (sym c.is_fit.ensures ∙ c.if-not-is_fit.true)

pub returns-then-s-cell : goal.returns-then-s-cell
unfolding looked
returns-then-s-cell c = rw (sym c.is_fit.ensures ∙ c.if-not-is_fit.false, le-ltb _ _ c.if-s-cell.true)

pub bounds-s-cell : goal.bounds-s-cell
bounds-s-cell c = let e = c.args in (current-below e.s.now e.pool.now (sym c.is_fit.ensures ∙ c.if-not-is_fit.false) e.cell c.if-s-cell.false).0

pub shown_value-requires : goal.shown_value-requires
shown_value-requires c = let e = c.args in (current-below e.s.now e.pool.now (sym c.is_fit.ensures ∙ c.if-not-is_fit.false) e.cell c.if-s-cell.false).1

pub returns : goal.returns
unfolding looked
returns c = rw (sym c.is_fit.ensures ∙ c.if-not-is_fit.false, lt-ltb _ _ c.if-s-cell.false, c.shown_value.ensures)
