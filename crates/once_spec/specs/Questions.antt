-- The questions before anything is done, with the papers' numbers; the first "no" gives its number.
use Rattle.std.specs.Prelude.{Bool, true, false, ◌||◌, not, List, [], ◌∷◌, ℕ, eqb, leb, ltb, get_or, replicate}
use Rattle.figure_lines.specs.Basics.{ands, all_from}
use Rattle.figure_lines.specs.Record.{no_value}
use Rattle.cells_spec.specs.Questions.{Question, tasks_ok, cells_ok}
use Rattle.once_spec.specs.declared.OnceCell.{OnceCell}
use Rattle.once_spec.specs.declared.Offer.{Offer}
use Rattle.once_spec.specs.declared.OnceState.{OnceState}
use Rattle.once_spec.specs.Figure.{Stage, write_x, read_y, write_y, read_x, store_v, read_c, store_d, set_c, test_v, load_v, look_d, cas_d, read_d, nowhere, stage_of, idle_offer}

-- the offer of task t; idle beyond the list
abbrev pub offer_at : OnceState → ℕ → Offer
offer_at s t = get_or s.offers t idle_offer

abbrev pub is_idle_offer : Offer → Bool
is_idle_offer r = eqb r.line 0

-- a cell that an opening leaves
abbrev pub fresh_cell : OnceCell
fresh_cell = record { x = 255; y = 0; c = 0; v = no_value; d = no_value; offered = replicate 32 false }

abbrev pub once_at : OnceState → ℕ → OnceCell
once_at s k = get_or s.words k fresh_cell

abbrev pub has_offered : OnceCell → (task : ℕ) → Bool
has_offered m t = get_or m.offered t false

abbrev pub open_once : (tasks cells : ℕ) → List Question
open_once n v = (1, tasks_ok n) ∷ (2, cells_ok v) ∷ []

-- WHEN A STATE IS FIT: 6

abbrev pub is_step : Stage → Bool
is_step write_x = true
is_step read_y = true
is_step write_y = true
is_step read_x = true
is_step store_v = true
is_step read_c = true
is_step store_d = true
is_step set_c = true
is_step test_v = true
is_step load_v = true
is_step look_d = true
is_step cas_d = true
is_step read_d = true
is_step nowhere = false

abbrev pub offer_tests : Offer → (cells : ℕ) → List Bool
offer_tests r v = ltb r.cell v ∷ is_step (stage_of r) ∷ not (eqb r.value no_value) ∷ leb r.steps 9 ∷ []

unfoldable pub offer_fit : Offer → (cells : ℕ) → Bool
offer_fit r v = is_idle_offer r || ands (offer_tests r v)

unfoldable pub offers_fit : OnceState → Bool
offers_fit s = all_from (λ t. offer_fit (offer_at s t) s.cells) 0 s.tasks

unfoldable pub once_fit : OnceState → Bool
once_fit s = ands (tasks_ok s.tasks ∷ cells_ok s.cells ∷ offers_fit s ∷ [])

-- BEGIN AND STEP, of N tasks and V cells, the task's offer and the cell

abbrev pub offer_questions : (tasks cells : ℕ) → Offer → OnceCell → (task cell value : ℕ) → List Question
offer_questions n v r m t k w = (7, ltb t n) ∷ (8, ltb k v) ∷ (9, is_idle_offer r) ∷ (16, not (has_offered m t)) ∷ (10, not (eqb w no_value)) ∷ []

abbrev pub turn_questions : (tasks : ℕ) → Offer → (task : ℕ) → List Question
turn_questions n r t = (7, ltb t n) ∷ (11, not (is_idle_offer r)) ∷ []
