-- Question 6 with adds, worked out: at each limit and one past it, at every entry; then 23.
use mathlib.Core.Path.{◌≡◌, refl}
use mathlib.Core.Option.{Option, none, some}
use mathlib.Core.List.{List, [], ◌∷◌}
use Prim.Native.Nat.{ℕ}
use lib.ListN.{set, replicate}
use Rattle.cells_spec.specs.declared.State.{State}
use Rattle.cells_spec.specs.Questions.{fit, record_fit, cells_fit, records_fit, has_none, open_questions, uses, counts_true}
use Rattle.cells_spec.specs.Answers.{Seen, Shown, NotShown}
use Rattle.cells_spec.specs.Open.{After, blank, opened}
use Rattle.cells_spec.specs.Begin.{read_begun, swap_begun}
use Rattle.cells_spec.specs.Step.{stepped}
use Rattle.cells_spec.specs.Drop.{dropped}
use Rattle.cells_spec.specs.Look.{looked}
use Rattle.cells_spec.specs.Machine.{begins}
use Rattle.history_spec.specs.History.{Op, read, swap}
use Rattle.adds_spec.specs.declared.Add.{Add}
use Rattle.adds_spec.specs.declared.AddingState.{AddingState}
use Rattle.adds_spec.specs.Requests.{fresh_add}
use Rattle.adds_spec.specs.Adding.{AddingSaid, Denies, GoesOn, FinishesCall, FinishesAdd, no_add, add_at, add_fit, adds_fit, adding_begun, add_begun, adding_dropped, adding_stepped, adding_looked}

-- TWO TASKS, ONE CELL

abbrev idle : After
idle = opened blank (replicate 20 0) 2 1 4 (5 ∷ [])

abbrev words : List ℕ
words = idle.pool

-- task t's add is a
abbrev adding : State → (task : ℕ) → Add → AddingState
adding c t a = record { cells = c; adds = set (replicate 32 no_add) t a }

-- task 0 has begun op
abbrev busy : Op → State
busy op = (begins idle.state words 0 op).state

abbrev denied : AddingSaid → Option ℕ
denied (Denies n) = some n
denied GoesOn = none
denied (FinishesCall f) = none
denied (FinishesAdd r) = none

abbrev unseen : Seen → Option ℕ
unseen (Shown v) = none
unseen (NotShown n) = some n

-- every entry, asked for a task and a cell that are not there, an add with no try
abbrev asked : AddingState → List (Option ℕ)
asked s = denied (adding_begun s words 2 (read 1)).said ∷ denied (adding_begun s words 2 (swap 1 5 9)).said ∷ denied (add_begun s words 2 1 3 0).said
    ∷ denied (adding_stepped s words 2).said ∷ denied (adding_dropped s words 2).said ∷ unseen (adding_looked s words 1) ∷ []

abbrev is_fit : List (Option ℕ)
is_fit = some 7 ∷ some 7 ∷ some 7 ∷ some 7 ∷ some 7 ∷ some 8 ∷ []

abbrev unfit : List (Option ℕ)
unfit = some 6 ∷ some 6 ∷ some 6 ∷ some 6 ∷ some 6 ∷ some 6 ∷ []

abbrev counts : (tries failed steps won lost : ℕ) → Add
counts r f n w l = record { amount = 3; tries = r; failed = f; steps = n; won = w; lost = l }

abbrev Holds : {A : Type 0} → List (A × A) → Type 0
Holds [] = Unit {0}
Holds (x ∷ l) = (x.0 ≡ x.1) × Holds l

-- 27 steps and 4 hardware CAS attempts for each lost swap, 6 and 1 more where a swap is under way
pub limits : Holds (
    (asked (adding (busy (read 0)) 0 (counts 8 7 189 20 8)), is_fit) ∷
    (asked (adding (busy (read 0)) 0 (counts 8 7 190 20 8)), unfit) ∷
    (asked (adding (busy (read 0)) 0 (counts 8 7 189 20 9)), unfit) ∷
    (asked (adding (busy (read 0)) 0 (counts 8 0 0 0 0)), is_fit) ∷
    (asked (adding (busy (read 0)) 0 (counts 8 0 1 0 0)), unfit) ∷
    (asked (adding (busy (read 0)) 0 (counts 8 0 0 1 0)), unfit) ∷
    (asked (adding (busy (swap 0 5 8)) 0 (counts 8 7 195 9 20)), is_fit) ∷
    (asked (adding (busy (swap 0 5 8)) 0 (counts 8 7 196 9 20)), unfit) ∷
    (asked (adding (busy (swap 0 5 8)) 0 (counts 8 7 195 10 20)), unfit) ∷
    -- a swap of equal values, which runs as a read, is a swap here
    (asked (adding (busy (swap 0 5 5)) 0 (counts 8 7 195 9 20)), is_fit) ∷
    (asked (adding (busy (swap 0 5 5)) 0 (counts 8 7 196 9 20)), unfit) ∷
    (asked (adding (busy (swap 0 5 5)) 0 (counts 8 7 195 10 20)), unfit) ∷
    -- r 1 to 8, fewer swaps lost
    (asked (adding (busy (read 0)) 0 (counts 1 0 0 0 0)), is_fit) ∷
    (asked (adding (busy (read 0)) 0 (counts 1 1 0 0 0)), unfit) ∷
    (asked (adding (busy (read 0)) 0 (counts 8 8 0 0 0)), unfit) ∷
    (asked (adding (busy (read 0)) 0 (counts 9 0 0 0 0)), unfit) ∷
    -- no try: no add; then nothing is asked of the other fields
    (asked (adding (busy (read 0)) 0 (counts 0 9 1000 9 9)), is_fit) ∷
    -- nor of an idle task's add, nor of that of no task
    (asked (adding idle.state 0 (counts 9 9 1000 9 9)), is_fit) ∷
    (asked (adding (busy (read 0)) 2 (counts 9 9 1000 9 9)), is_fit) ∷
    []
    )
unfolding fit record_fit cells_fit records_fit has_none open_questions uses counts_true opened read_begun swap_begun stepped dropped looked add_fit adds_fit adding_begun add_begun adding_stepped adding_dropped adding_looked
limits = (refl, (refl, (refl, (refl, (refl, (refl, (refl, (refl, (refl, (refl, (refl, (refl, (refl, (refl, (refl, (refl, (refl, (refl, (refl, tt)))))))))))))))))))

-- Whatever an idle task's add was, a begin of a read or a swap leaves none, and a begin of an add its own. A drop leaves none.
pub left : Holds (
    (add_at (adding_begun (adding idle.state 0 (counts 9 9 1000 9 9)) words 0 (read 0)).state.adds 0, no_add) ∷
    (add_at (adding_begun (adding idle.state 0 (counts 9 9 1000 9 9)) words 0 (swap 0 5 9)).state.adds 0, no_add) ∷
    (add_at (add_begun (adding idle.state 0 (counts 9 9 1000 9 9)) words 0 0 3 2).state.adds 0, fresh_add 3 2) ∷
    (add_at (adding_dropped (adding (busy (read 0)) 0 (counts 8 7 189 20 8)) words 0).state.adds 0, no_add) ∷
    []
    )
unfolding fit record_fit cells_fit records_fit has_none open_questions uses counts_true opened read_begun swap_begun dropped add_fit adds_fit adding_begun add_begun adding_dropped
left = (refl, (refl, (refl, (refl, tt))))

-- 23: r outside 1 to 8, whatever d is; asked after 7, 8 and 9
abbrev adds : State → (task cell amount tries : ℕ) → Option ℕ
adds c t k d r = denied (add_begun (adding c 0 no_add) words t k d r).said

pub tries_asked : Holds (
    (adds idle.state 0 0 3 0, some 23) ∷
    (adds idle.state 0 0 3 1, none) ∷
    (adds idle.state 0 0 3 8, none) ∷
    (adds idle.state 0 0 3 9, some 23) ∷
    (adds idle.state 0 0 0 1, none) ∷
    (adds idle.state 0 0 4294967295 1, none) ∷
    (adds idle.state 2 1 3 0, some 7) ∷
    (adds (busy (read 0)) 0 1 3 0, some 8) ∷
    (adds (busy (read 0)) 0 0 3 0, some 9) ∷
    []
    )
unfolding fit record_fit cells_fit records_fit has_none open_questions uses counts_true opened read_begun add_fit adds_fit add_begun
tries_asked = (refl, (refl, (refl, (refl, (refl, (refl, (refl, (refl, (refl, tt)))))))))
