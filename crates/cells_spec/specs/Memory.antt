-- The pool as memory (figure_lines/specs/Memory.antt), given numbers only: the block that the task's cell names, the block taken last, and what the
-- search for an unused block answers. No line names another cell than the task's own (cells_spec/proofs/Accesses.antt).
use Rattle.std.proofs.Math.Option.{Option, none, some}
use Rattle.std.specs.Prelude.{List, ℕ, ◌+◌, ◌*◌, ◌<◌}
use Rattle.figure_lines.specs.declared.Field.TheVariants.{X}
use Rattle.figure_lines.specs.declared.Access.{Access}
use Rattle.figure_lines.specs.declared.Access.TheVariants.{LoadCell, Load, Store, DecideCas, InstallCas, Allocate, Nothing}
use Rattle.figure_lines.specs.Record.{no_value}
use Rattle.figure_lines.specs.Memory.{Keeping, access_in}
use Rattle.cells_spec.specs.Pool.{word, set_word, no_task}

-- what an access leaves, and the value that it answers
pub record Touched : Type 0 where
  pub pool : List ℕ
  pub current : ℕ
  pub last : ℕ
  pub value : ℕ

abbrev pub touched : List ℕ → (current last value : ℕ) → Touched
touched p c l v = record { pool = p; current = c; last = l; value = v }

-- line 4 takes the unused block and stores its X; where every block is in use nothing is stored, and no block is handed back (question 20
-- refuses such a step)
abbrev pub taking : Option ℕ → List ℕ → (current last : ℕ) → Touched
taking none p c l = touched p c l no_value
taking (some b) p c l = touched (set_word p b X no_task) c b b

-- the pool, the block that the task's cell names, and the block taken last
pub record Shared : Type 0 where
  pub words : List ℕ
  pub named : ℕ
  pub last : ℕ

-- free is what the search for an unused block answers
abbrev pub pool_keeping : (free : Option ℕ) → Keeping Shared Touched
pool_keeping f = record {
  named = λ m. m.named;
  word = λ m b g. word m.words b g;
  store = λ m b g v. record { words = set_word m.words b g v; named = m.named; last = m.last };
  install = λ m n. record { words = m.words; named = n; last = m.last };
  allocate = λ m. taking f m.words m.named m.last;
  give = λ m v. touched m.words m.named m.last v;
}

abbrev pub performed : List ℕ → (current last : ℕ) → Option ℕ → Access → Touched
performed p c l f a = access_in (pool_keeping f) (record { words = p; named = c; last = l }) a

-- WHAT MEMORY NEEDS (this part only helps the proofs)

-- the block that an access names is among the words
abbrev pub Reaches : (words : ℕ) → Access → Type 0
Reaches n (LoadCell k) = Prim.Unit
Reaches n (Load b f) = 5 * b + 4 < n
Reaches n (Store b f v) = 5 * b + 4 < n
Reaches n (DecideCas b v) = 5 * b + 4 < n
Reaches n (InstallCas k b m) = Prim.Unit
Reaches n Allocate = Prim.Unit
Reaches n Nothing = Prim.Unit

-- so is the unused block
abbrev pub There : (words : ℕ) → Option ℕ → Type 0
There n none = Prim.Unit
There n (some b) = 5 * b + 4 < n
