-- A table of counts, a number for each block, as a record is counted into it.
use Rattle.std.specs.Prelude.{◌≡◌, true, ◌&&◌, not, cond, List, ℕ, ◌+◌, ◌<◌, get_or, set}
use Rattle.figure_lines.specs.declared.Record.{Record}
use Rattle.figure_lines.specs.Record.{is_idle}
use Rattle.cells_spec.specs.Questions.{holds, has_taken}

abbrev pub more : List ℕ → (block : ℕ) → List ℕ
more l b = set l b (get_or l b 0 + 1)

-- with what a record names: the block that it holds, the one that it has taken
abbrev pub claimed : List ℕ → Record → List ℕ
claimed l r =
    let m = cond (not (is_idle r) && holds r) (more l r.held) l in
    cond (not (is_idle r) && has_taken r) (more m r.taken) m

-- a count for block b, of 8 bits, to which 3 can be added
abbrev pub Roomy : List ℕ → (block : ℕ) → Type 0
Roomy l b = (b < 128) × (get_or l b 0 + 2 < 255)

-- for what the record names
abbrev pub Room : List ℕ → Record → Type 0
Room l r = (not (is_idle r) && holds r ≡ true → Roomy l r.held) × (not (is_idle r) && has_taken r ≡ true → Roomy l r.taken)
