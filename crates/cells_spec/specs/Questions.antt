-- The questions before anything is done, in document 01's order with its numbers; the first "no" gives its number.
use Rattle.std.specs.Prelude.{Bool, false, ◌&&◌, ◌||◌, not, cond, List, [], ◌∷◌, ◌++◌, ℕ, ◌+◌, ◌-◌, ◌*◌, eqb, leb, ltb, get_or, length}
use Rattle.std.proofs.Math.Option.{Option, none, some}
use Rattle.figure_lines.specs.declared.Record.{Record}
use Rattle.cells_spec.specs.declared.State.{State}
use Rattle.figure_lines.specs.Basics.{ands, all_from, any_from, within, sum_from}
use Rattle.figure_lines.specs.Record.{no_value, is_idle, record_at}
use Rattle.figure_lines.specs.Lines.{Line, Wanted, for13, for25, for28, l1, l2, l3, l4, l5, l6, l7, l8, l10, l11, l12, l15, l16, l17, l18, l19, l20, l21, l22, l23, l24, l26, l27, l30, nowhere, line_of}

-- a question: its number and whether the answer is yes
abbrev pub Question : Type 0
Question = ℕ × Bool

abbrev pub refusal : List Question → Option ℕ
refusal [] = none
refusal (q ∷ l) = cond q.1 (refusal l) (some q.0)

abbrev pub answers : List Question → List Bool
answers [] = []
answers (q ∷ l) = q.1 ∷ answers l

-- OPEN: 1 to 5

abbrev pub tasks_ok : ℕ → Bool
tasks_ok n = within n 1 32

abbrev pub cells_ok : ℕ → Bool
cells_ok v = within v 1 16

abbrev pub blocks_ok : (tasks cells blocks words : ℕ) → Bool
blocks_ok n v b len = (leb (v + 2 * n - 1) b && leb b 128) && eqb len (5 * b)

unfoldable pub has_none : List ℕ → Bool
has_none vs = any_from (λ k. eqb (get_or vs k 0) no_value) 0 (length vs)

unfoldable pub open_questions : (words tasks cells blocks : ℕ) → List ℕ → List Question
open_questions len n v b vs =
    (1, tasks_ok n) ∷ (2, cells_ok v) ∷ (3, blocks_ok n v b len) ∷ (4, eqb (length vs) v) ∷ (5, not (has_none vs)) ∷ []

-- WHEN A STATE IS FIT: 6. Fit is document 01's word for a well_formed state.

-- a read, or a swap of equal values
abbrev pub reads : Record → Bool
reads r = eqb r.kind 1 || (eqb r.kind 2 && eqb r.expected r.new)

-- a swap of unequal values
abbrev pub swaps : Record → Bool
swaps r = eqb r.kind 2 && not (eqb r.expected r.new)

-- whether the read or the swap wants the decision
abbrev pub decides_for : Wanted → Bool → Bool → Bool
decides_for for13 read swap = read
decides_for for25 read swap = swap
decides_for for28 read swap = swap

-- which of two kinds has the line
abbrev pub of_kind : Line → (read swap : Bool) → Bool
of_kind (l1 w) a b = decides_for w a b
of_kind (l2 w) a b = decides_for w a b
of_kind (l3 w) a b = decides_for w a b
of_kind l4 a b = b
of_kind l5 a b = b
of_kind l6 a b = b
of_kind l7 a b = b
of_kind l8 a b = b
of_kind l10 a b = a
of_kind l11 a b = a
of_kind l12 a b = a
of_kind l15 a b = b
of_kind l16 a b = b
of_kind l17 a b = b
of_kind l18 a b = b
of_kind l19 a b = b
of_kind l20 a b = b
of_kind l21 a b = b
of_kind l22 a b = b
of_kind l23 a b = b
of_kind l24 a b = b
of_kind l26 a b = b
of_kind l27 a b = b
of_kind l30 a b = b
of_kind nowhere a b = false

abbrev pub line_fit : Record → Bool
line_fit r = of_kind (line_of r) (reads r) (swaps r)

-- by its next line, a busy task has done its first load (asked of busy records only)
abbrev pub holds_before : ℕ → Bool
holds_before n = not (eqb n 10 || eqb n 15)

abbrev pub holds : Record → Bool
holds r = holds_before r.line

-- by its next line, a task has taken a block: it fills it or is about to install it
abbrev pub taken_before : ℕ → Bool
taken_before n = within n 5 8 || eqb n 30

abbrev pub has_taken : Record → Bool
has_taken r = taken_before r.line

abbrev pub blocks_fit : Record → ℕ → Bool
blocks_fit r b = (not (holds r) || ltb r.held b) && (not (has_taken r) || ltb r.taken b)

abbrev pub values_fit : Record → Bool
values_fit r = eqb r.kind 1 || (not (eqb r.expected no_value) && not (eqb r.new no_value))

abbrev pub busy_tests : Record → (cells blocks : ℕ) → List Bool
busy_tests r v b = ltb r.cell v ∷ line_fit r ∷ blocks_fit r b ∷ values_fit r ∷ leb r.steps 20 ∷ leb (r.won + r.lost) 3 ∷ []

unfoldable pub record_fit : Record → (cells blocks : ℕ) → Bool
record_fit r v b = is_idle r || ands (busy_tests r v b)

unfoldable pub cells_fit : State → Bool
cells_fit s = all_from (λ k. ltb (get_or s.current k 0) s.blocks) 0 s.cells

unfoldable pub records_fit : State → Bool
records_fit s = all_from (λ t. record_fit (record_at s.records t) s.cells s.blocks) 0 s.tasks

-- HOW MANY TIMES A BLOCK IS USED

-- by a task: once if it holds it, once if it has taken it
abbrev pub record_uses : Record → ℕ → ℕ
record_uses r b = cond (is_idle r) 0 (cond (holds r && eqb r.held b) 1 0 + cond (has_taken r && eqb r.taken b) 1 0)

-- by the first k cells: once for each whose current block it is
abbrev pub names_of : (current : List ℕ) → (block k : ℕ) → ℕ
names_of l b k = sum_from (λ k. cond (eqb (get_or l k 0) b) 1 0) 0 k

-- read off the table: by the cells, and by each task
unfoldable pub uses : State → ℕ → ℕ
uses s b = names_of s.current b s.cells + sum_from (λ t. record_uses (record_at s.records t) b) 0 s.tasks

-- what the state stores for each block is that
unfoldable pub counts_true : State → Bool
counts_true s = all_from (λ b. eqb (get_or s.counts b 0) (uses s b)) 0 s.blocks

abbrev pub fit_tests : State → List ℕ → List Bool
fit_tests s p = tasks_ok s.tasks ∷ cells_ok s.cells ∷ blocks_ok s.tasks s.cells s.blocks (length p) ∷ cells_fit s ∷ ltb s.last s.blocks ∷ records_fit s ∷ counts_true s ∷ []

unfoldable pub fit : State → List ℕ → Bool
fit s p = ands (fit_tests s p)

-- BEGIN, STEP AND LOOK: 7 to 11 and 20, of N tasks and V cells and the task's record

abbrev pub begin_questions : (tasks cells : ℕ) → Record → (task cell : ℕ) → List Question
begin_questions n v r t k = (7, ltb t n) ∷ (8, ltb k v) ∷ (9, is_idle r) ∷ []

abbrev pub swap_questions : (tasks cells : ℕ) → Record → (task cell expected new : ℕ) → List Question
swap_questions n v r t k e w = (7, ltb t n) ∷ (8, ltb k v) ∷ (9, is_idle r) ∷ (10, not (eqb e no_value) && not (eqb w no_value)) ∷ []

-- of figure 2, which has a new block each time
abbrev pub step_questions : (tasks : ℕ) → Record → (task : ℕ) → List Question
step_questions n r t = (7, ltb t n) ∷ (11, not (is_idle r)) ∷ []

-- of the pool, from which line 4 takes a block: found, where one is unused
abbrev pub pool_step_questions : (tasks : ℕ) → Record → (task : ℕ) → (found : Bool) → List Question
pool_step_questions n r t found = step_questions n r t ++ ((20, not (eqb r.line 4) || found) ∷ [])

abbrev pub look_questions : (cells cell : ℕ) → List Question
look_questions v k = (8, ltb k v) ∷ []
