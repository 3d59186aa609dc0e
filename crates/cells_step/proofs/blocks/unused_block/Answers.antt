use mathlib.Core.Path.{◌≡◌}
use mathlib.Core.Logic.{inl, inr}
use Prim.Native.Nat.{suc, ◌+◌, ◌-◌}
use native.Mathlib.Omega.{arith}
use native.Mathlib.Nat.{sub-zero}
use Rattle.cells_spec.specs.Blocks.{block_after}
use Rattle.cells_spec.proofs.Unused.{after-below}
use Rattle.cells_spec.proofs.Search.{finds, finds_none, here, onward, nowhere}
use Rattle.cells_step.proofs.blocks.unused_block.Goals as goal
use Rattle.cells_step.proofs.blocks.unused_block.Goals.{then-blocks-gt128-via-then-blocks-gt128, then-blocks-gt128-via-else-blocks-gt128+then-blocks-last}

pub returns-then-blocks-gt128 : goal.returns-then-blocks-gt128
returns-then-blocks-gt128 c = let a = c.args in elim c.then-blocks-gt128.branch [
  | then-blocks-gt128-via-then-blocks-gt128 w ↦ finds_none a.counts.now a.blocks a.last (inl w.if-blocks-gt128.true)
  | then-blocks-gt128-via-else-blocks-gt128+then-blocks-last w ↦ finds_none a.counts.now a.blocks a.last (inr w.if-blocks-last.true)
]

pub loop-init : goal.loop-init
loop-init c = let a = c.args in rw sub-zero (c.if-blocks-gt128.false, c.if-blocks-last.false, finds a.counts.now a.blocks a.last c.if-blocks-gt128.false c.if-blocks-last.false)

pub bounds-counts-b : goal.bounds-counts-b
bounds-counts-b c = rw c.block_after-b.ensures (omega (arith, after-below c.args.blocks c.loop.b c.loop.invariant.1, c.loop.invariant.0))

pub returns-then-counts-b-eq0 : goal.returns-then-counts-b-eq0
returns-then-counts-b-eq0 c = let a = c.args in
    let e : a.blocks - c.loop.counter ≡ suc (a.blocks - (c.loop.counter + 1)) = omega arith in
    rw c.block_after-b.ensures (here a.counts.now a.blocks (block_after a.blocks c.loop.b) (a.blocks - c.loop.counter) c.loop.invariant.2 _ e (rw c.block_after-b.ensures at c.if-counts-b-eq0.true))

pub loop-preserved : goal.loop-preserved
loop-preserved c = let a = c.args in
    let e : a.blocks - c.loop.counter ≡ suc (a.blocks - (c.loop.counter + 1)) = omega arith in
    rw c.block_after-b.ensures (c.loop.invariant.0, after-below a.blocks c.loop.b c.loop.invariant.1, onward a.counts.now a.blocks (block_after a.blocks c.loop.b) (a.blocks - c.loop.counter) c.loop.invariant.2 _ e (rw c.block_after-b.ensures at c.if-counts-b-eq0.false))

pub returns : goal.returns
returns c = let a = c.args in nowhere a.counts.now a.blocks (block_after a.blocks c.loop.b) (a.blocks - c.loop.counter) c.loop.invariant.2 (omega arith)
