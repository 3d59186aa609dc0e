-- The memory of figure 2 with a new block each time. The cells share nothing: each numbers its own blocks.
use Rattle.std.specs.Prelude.{ℕ, suc}
use Rattle.figure_lines.specs.declared.Field.{Field}
use Rattle.figure_lines.specs.declared.Field.TheVariants.{X, Y, C, D}
use Rattle.figure_lines.specs.declared.Access.{Access}
use Rattle.figure_lines.specs.Memory.{Keeping, access_in}
use Rattle.cells_spec.specs.Pool.{no_task}
use Rattle.history_spec.specs.Basics.{upd}

-- a cell: the block that it names, the number of its next new block, and the five words of each block
pub record Cell : Type 0 where
  pub current : ℕ
  pub next : ℕ
  pub x : ℕ → ℕ
  pub y : ℕ → ℕ
  pub c : ℕ → ℕ
  pub v : ℕ → ℕ
  pub d : ℕ → ℕ

abbrev pub word_of : Cell → ℕ → Field → ℕ
word_of m b X = m.x b
word_of m b Y = m.y b
word_of m b C = m.c b
word_of m b Field.V = m.v b
word_of m b D = m.d b

abbrev pub store : Cell → ℕ → Field → ℕ → Cell
store m b X n = record { current = m.current; next = m.next; x = upd m.x b n; y = m.y; c = m.c; v = m.v; d = m.d }
store m b Y n = record { current = m.current; next = m.next; x = m.x; y = upd m.y b n; c = m.c; v = m.v; d = m.d }
store m b C n = record { current = m.current; next = m.next; x = m.x; y = m.y; c = upd m.c b n; v = m.v; d = m.d }
store m b Field.V n = record { current = m.current; next = m.next; x = m.x; y = m.y; c = m.c; v = upd m.v b n; d = m.d }
store m b D n = record { current = m.current; next = m.next; x = m.x; y = m.y; c = m.c; v = m.v; d = upd m.d b n }

abbrev pub install : Cell → ℕ → Cell
install m b = record { current = b; next = m.next; x = m.x; y = m.y; c = m.c; v = m.v; d = m.d }

-- a new block: line 4 stores its X; its other words, whatever they are, are stored by lines 5 to 8
abbrev pub allocate : Cell → Cell
allocate m = record { current = m.current; next = suc m.next; x = upd m.x m.next no_task; y = m.y; c = m.c; v = m.v; d = m.d }

-- what an access makes of the task's own cell (so the cell's number is not looked at), and the value that it answers
pub record Accessed : Type 0 where
  pub cell : Cell
  pub value : ℕ

abbrev pub accessed : Cell → ℕ → Accessed
accessed m n = record { cell = m; value = n }

abbrev pub cell_keeping : Keeping Cell Accessed
cell_keeping = record {
  named = λ m. m.current;
  word = word_of;
  store = store;
  install = install;
  allocate = λ m. accessed (allocate m) m.next;
  give = accessed;
}

abbrev pub access_cell : Cell → Access → Accessed
access_cell m a = access_in cell_keeping m a
