-- Figure 1 of source document 003, one access a step, in the variant of section 3's last paragraph: who would return from line 3 first
-- stores its value in D, and every other looks at D directly before its hardware CAS and, unless it is none, answers it instead.
use Rattle.std.specs.Prelude.{Bool, true, false, ◌||◌, cond, List, [], ◌∷◌, ℕ, ◌+◌, eqb, Option, None, Some, Ok, Err, ⊤}
use Rattle.std.specs.declared.result.Result.{Result}
use Rattle.figure_lines.specs.Record.{no_value}
use Rattle.once_spec.specs.declared.OnceCell.{OnceCell}
use Rattle.once_spec.specs.declared.Offer.{Offer}
use Rattle.once_spec.specs.declared.Agreement.{Agreement}
use Rattle.cells_spec.specs.declared.refusal.Refusal.{Refusal}
use Rattle.cells_spec.specs.Answers.{number}

-- THE STEPS

pub data Stage : Type 0 where
  write_x read_y write_y read_x store_v read_c store_d set_c test_v load_v look_d cas_d read_d nowhere : Stage

-- each step with the number that an offer's next line takes, and the figure's line (the splitter is figure 2's lines 16 to 19; the two
-- steps of the variant stand where it puts them, in lines 3 and 7)
abbrev pub stage_numbers : List (ℕ × Stage × ℕ)
stage_numbers =
    (1, write_x, 1) ∷ (2, read_y, 1) ∷ (3, write_y, 1) ∷ (4, read_x, 1) ∷
    (5, store_v, 2) ∷ (6, read_c, 3) ∷ (7, store_d, 3) ∷
    (8, set_c, 4) ∷ (9, test_v, 5) ∷ (10, load_v, 6) ∷
    (11, look_d, 7) ∷ (12, cas_d, 7) ∷ (13, read_d, 8) ∷ []

abbrev pub stage_in : List (ℕ × Stage × ℕ) → ℕ → Stage
stage_in [] n = nowhere
stage_in ((m, ℓ, f) ∷ l) n = cond (eqb n m) ℓ (stage_in l n)

abbrev pub stage_at : ℕ → Stage
stage_at = stage_in stage_numbers

abbrev pub stage_of : Offer → Stage
stage_of r = stage_at r.line

abbrev pub is_cas : Stage → Bool
is_cas write_x = false
is_cas read_y = false
is_cas write_y = false
is_cas read_x = false
is_cas store_v = false
is_cas read_c = false
is_cas store_d = false
is_cas set_c = false
is_cas test_v = false
is_cas load_v = false
is_cas look_d = false
is_cas cas_d = true
is_cas read_d = false
is_cas nowhere = false

-- WHAT AN ENTRY ANSWERS: for each case of the code's results the paper's number and values. The promises use this.

pub data Given : Type 0 where
  Refuses : (question : ℕ) → Given
  GoesOn : Given
  Ends : Agreement → Given

-- a step that is made: the call goes on, or is finished
abbrev pub made : Option Agreement → Given
made None = GoesOn
made (Some a) = Ends a

-- a step
abbrev pub given : Result (Option Agreement) Refusal → Given
given (Err e) = Refuses (number e)
given (Ok o) = made o

-- an entry that ends no call
abbrev pub allowed : Result ⊤ Refusal → Given
allowed (Err e) = Refuses (number e)
allowed (Ok u) = GoesOn

-- WHAT A STEP LEAVES: the cell, the task's offer, and its answer

pub record Leaves : Type 0 where
  pub cell : OnceCell
  pub offer : Offer
  pub gives : Given

-- of a task without a call
abbrev pub idle_offer : Offer
idle_offer = record { line = 0; cell = 0; value = 0; steps = 0; tried = false }

abbrev pub go_on : OnceCell → Offer → (next value : ℕ) → Leaves
go_on m r n v = record { cell = m; offer = record { line = n; cell = r.cell; value = v; steps = r.steps; tried = r.tried }; gives = GoesOn }

abbrev pub agree : OnceCell → Offer → (value : ℕ) → Leaves
agree m r v = record { cell = m; offer = idle_offer; gives = Ends (record { cell = r.cell; value = v; steps = r.steps; hard = cond r.tried 1 0 }) }

-- a store of one word
abbrev pub put_x : OnceCell → ℕ → OnceCell
put_x m n = record { x = n; y = m.y; c = m.c; v = m.v; d = m.d; offered = m.offered }

abbrev pub put_y : OnceCell → ℕ → OnceCell
put_y m n = record { x = m.x; y = n; c = m.c; v = m.v; d = m.d; offered = m.offered }

abbrev pub put_c : OnceCell → ℕ → OnceCell
put_c m n = record { x = m.x; y = m.y; c = n; v = m.v; d = m.d; offered = m.offered }

abbrev pub put_v : OnceCell → ℕ → OnceCell
put_v m n = record { x = m.x; y = m.y; c = m.c; v = n; d = m.d; offered = m.offered }

abbrev pub put_d : OnceCell → ℕ → OnceCell
put_d m n = record { x = m.x; y = m.y; c = m.c; v = m.v; d = n; offered = m.offered }

-- of task p with the offer r, which has counted this step
abbrev pub stage_does : Stage → ℕ → Offer → OnceCell → Leaves
stage_does write_x p r m = go_on (put_x m p) r 2 r.value
stage_does read_y p r m = go_on m r (cond (eqb m.y 0) 3 8) r.value
stage_does write_y p r m = go_on (put_y m 1) r 4 r.value
stage_does read_x p r m = go_on m r (cond (eqb m.x p) 5 8) r.value
stage_does store_v p r m = go_on (put_v m r.value) r 6 r.value
stage_does read_c p r m = go_on m r (cond (eqb m.c 0) 7 11) r.value
stage_does store_d p r m = agree (put_d m r.value) r r.value
stage_does set_c p r m = go_on (put_c m 1) r 9 r.value
stage_does test_v p r m = go_on m r (cond (eqb m.v no_value) 11 10) r.value
stage_does load_v p r m = go_on m r 11 m.v
stage_does look_d p r m = cond (eqb m.d no_value) (go_on m r 12 r.value) (agree m r m.d)
stage_does cas_d p r m = go_on (put_d m (cond (eqb m.d no_value) r.value m.d)) r 13 r.value
stage_does read_d p r m = agree m r m.d
stage_does nowhere p r m = go_on m r r.line r.value

-- each step counts, and the hardware CAS where it is one
abbrev pub with_step : Offer → Offer
with_step r = record { line = r.line; cell = r.cell; value = r.value; steps = r.steps + 1; tried = r.tried || is_cas (stage_of r) }

abbrev pub leaves : ℕ → Offer → OnceCell → Leaves
leaves p r m = stage_does (stage_of r) p (with_step r) m
