-- The stored counts as a task's record and its cell's block change: what the old ones name is taken away, what the new ones name is added.
use Rattle.std.specs.Prelude.{◌≡◌, ◌&&◌, not, cond, List, ℕ, ◌+◌, ◌-◌, ◌≤◌, ◌<◌, eqb, get_or, set, length}
use Rattle.figure_lines.specs.declared.Record.{Record}
use Rattle.figure_lines.specs.Record.{is_idle}
use Rattle.cells_spec.specs.Questions.{holds, has_taken, record_uses}
use Rattle.cells_spec.specs.Counts.{more, claimed, Roomy, Room}

abbrev pub less : List ℕ → (block : ℕ) → List ℕ
less l b = set l b (get_or l b 0 - 1)

-- without what a record names: the block that it holds, the one that it has taken
abbrev pub released : List ℕ → Record → List ℕ
released l r =
    let m = cond (not (is_idle r) && holds r) (less l r.held) l in
    cond (not (is_idle r) && has_taken r) (less m r.taken) m

-- a cell names d where it named c
abbrev pub renamed : List ℕ → (c d : ℕ) → List ℕ
renamed l c d = cond (eqb c d) l (more (less l c) d)

-- task's record r becomes q, and its cell's block c becomes d
unfoldable pub recounted : List ℕ → (r q : Record) (c d : ℕ) → List ℕ
recounted l r q c d = renamed (claimed (released l r) q) c d

-- WHAT 8 BITS NEED (this part only helps the proofs)

-- each block's count is at least what the record names of it
abbrev pub Named : List ℕ → Record → Type 0
Named l r = (length l ≡ 128) × Room l r × ((b : ℕ) → b < 128 → record_uses r b ≤ get_or l b 0)

-- c is counted, and there is room for d
abbrev pub MayRename : List ℕ → (c d : ℕ) → Type 0
MayRename l c d = (c < 128) × (0 < get_or l c 0) × (d < 128) × (get_or l d 0 < 255)

-- there is room for what is named, and each block's count is at least what the old record and the old block name of it
abbrev pub Countable : List ℕ → (r q : Record) (c d : ℕ) → Type 0
Countable l r q c d = (length l ≡ 128) × Room l r × Room l q × Roomy l c × Roomy l d × ((b : ℕ) → b < 128 → record_uses r b + cond (eqb c b) 1 0 ≤ get_or l b 0)
