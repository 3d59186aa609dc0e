-- What an access does to a memory and what memory answers, said once for the pool and for the figure with a new block each time. What
-- differs between the two is how words are kept and how a block is had: a parameter.
use Rattle.std.specs.Prelude.{cond, ℕ, eqb}
use Rattle.figure_lines.specs.declared.Field.{Field}
use Rattle.figure_lines.specs.declared.Field.TheVariants.{D}
use Rattle.figure_lines.specs.declared.Access.{Access}
use Rattle.figure_lines.specs.declared.Access.TheVariants.{LoadCell, Load, Store, DecideCas, InstallCas, Allocate, Nothing}
use Rattle.figure_lines.specs.Record.{no_value}

-- a memory M as a task sees it, and what is left of it with the value answered, R
pub record Keeping (M R : Type 0) : Type 0 where
  pub named : M → ℕ  -- the block that the task's cell names
  pub word : M → (block : ℕ) → Field → ℕ
  pub store : M → (block : ℕ) → Field → (value : ℕ) → M
  pub install : M → (block : ℕ) → M  -- the task's cell names the block
  pub allocate : M → R  -- line 4: a block, its X stored
  pub give : M → (value : ℕ) → R

-- a hardware CAS answers 1 where it found what it expected, and else changes nothing; no line names another cell than the task's own, so the
-- cell's number is not looked at
abbrev pub access_in : {M R : Type 0} → Keeping M R → M → Access → R
access_in k m (LoadCell c) = k.give m (k.named m)
access_in k m (Load b f) = k.give m (k.word m b f)
access_in k m (Store b f v) = k.give (k.store m b f v) 0
access_in k m (DecideCas b v) = cond (eqb (k.word m b D) no_value) (k.give (k.store m b D v) 1) (k.give m 0)
access_in k m (InstallCas c b n) = cond (eqb (k.named m) b) (k.give (k.install m n) 1) (k.give m 0)
access_in k m Allocate = k.allocate m
access_in k m Nothing = k.give m 0
