use Rattle.std.proofs.Common.{◌*◌, refl}
use native.Mathlib.Nat.{mod-add-mod}
use Rattle.shake_spec.specs.Generator.{next, below}
use Rattle.shake_tool.proofs.generator.Generator.draw.Goals as goal

pub returns-clause-moved : goal.returns-clause-moved
unfolding next
returns-clause-moved c = rw c.wrapping_product.ensures (mod-add-mod (1664525 * c.args.self.now.state) 4294967296 1013904223)

pub returns-clause-drawn : goal.returns-clause-drawn
unfolding below
returns-clause-drawn c = refl
