-- The lent pool: a block is five neighbouring words.
use Rattle.std.specs.Prelude.{List, ℕ, ◌+◌, ◌*◌, get_or, set}
use Rattle.figure_lines.specs.declared.Field.{Field}
use Rattle.figure_lines.specs.declared.Field.TheVariants.{X, Y, C, D}
use Rattle.figure_lines.specs.Record.{no_value}

abbrev pub offset : Field → ℕ
offset X = 0
offset Y = 1
offset C = 2
offset Field.V = 3
offset D = 4

abbrev pub word : List ℕ → ℕ → Field → ℕ
word p b f = get_or p (5 * b + offset f) 0

abbrev pub set_word : List ℕ → ℕ → Field → ℕ → List ℕ
set_word p b f v = set p (5 * b + offset f) v

-- X where no task has written it
abbrev pub no_task : ℕ
no_task = 255

-- a block that an opening fills: X no task, Y and C false, D none, V the value
abbrev pub fresh : ℕ → Field → ℕ
fresh v X = no_task
fresh v Y = 0
fresh v C = 0
fresh v Field.V = v
fresh v D = no_value

abbrev pub fill : List ℕ → ℕ → ℕ → List ℕ
fill p b v = set_word (set_word (set_word (set_word (set_word p b X (fresh v X)) b Y (fresh v Y)) b C (fresh v C)) b Field.V (fresh v Field.V)) b D (fresh v D)
