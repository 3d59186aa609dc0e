-- Which blocks are in use, and the search for one that is not.
use Rattle.std.specs.Prelude.{◌≡◌, Bool, true, false, ◌&&◌, ◌||◌, not, cond, List, ℕ, zero, suc, ◌+◌, ◌<◌, eqb, leb, ltb, get_or}
use Rattle.std.proofs.Math.Option.{Option, none, some}
use Rattle.figure_lines.specs.declared.Record.{Record}
use Rattle.cells_spec.specs.declared.State.{State}
use Rattle.figure_lines.specs.Basics.{any_from}
use Rattle.figure_lines.specs.Record.{is_idle, record_at}
use Rattle.cells_spec.specs.Questions.{holds, has_taken}

-- some cell's current block is b
unfoldable pub is_current : State → ℕ → Bool
is_current s b = any_from (λ k. eqb (get_or s.current k 0) b) 0 s.cells

-- a task holds b, or has taken it
abbrev pub uses_block : Record → ℕ → Bool
uses_block r b = not (is_idle r) && ((holds r && eqb r.held b) || (has_taken r && eqb r.taken b))

unfoldable pub used_by_task : State → ℕ → Bool
used_by_task s b = any_from (λ t. uses_block (record_at s.records t) b) 0 s.tasks

unfoldable pub used : State → ℕ → Bool
used s b = is_current s b || used_by_task s b

-- a task holds a block that no cell names any more
abbrev pub holds_replaced : State → Record → Bool
holds_replaced s r = (not (is_idle r) && holds r) && not (is_current s r.held)

-- some task holds none: so it is in every state that an opening leads to (cells_theorems/proofs/Refines.antt)
abbrev pub Spare : State → Type 0
Spare s = (t : ℕ) × (t < s.tasks) × (holds_replaced s (record_at s.records t) ≡ false)

-- THE SEARCH FOR AN UNUSED BLOCK, by the counts alone

-- the block after b, going round after the last
abbrev pub block_after : ℕ → ℕ → ℕ
block_after blocks b = cond (eqb (b + 1) blocks) 0 (b + 1)

-- of k blocks going upward from b, the first whose count is 0, if there is one
abbrev pub unused_from : (counts : List ℕ) (blocks b k : ℕ) → Option ℕ
unused_from l n b zero = none
unused_from l n b (suc k) = cond (eqb (get_or l b 0) 0) (some b) (unused_from l n (block_after n b) k)

-- from the block after the last taken; where there is no block to start from, or more than counts, none is handed out
unfoldable pub first_unused : (counts : List ℕ) (blocks last : ℕ) → Option ℕ
first_unused l n last = cond (leb n 128 && ltb last n) (unused_from l n (block_after n last) n) none

abbrev pub unused : State → Option ℕ
unused s = first_unused s.counts s.blocks s.last

-- whether it is found
abbrev pub is_found : Option ℕ → Bool
is_found none = false
is_found (some b) = true

-- document 01's search, by the table: of k blocks going upward from b, the first that is not used. The counts find the same
-- (cells_spec/proofs/Unused.antt)
abbrev pub read_from : State → (b k : ℕ) → Option ℕ
read_from s b zero = none
read_from s b (suc k) = cond (used s b) (read_from s (block_after s.blocks b) k) (some b)
