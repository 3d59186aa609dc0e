-- What look shows is what a read returns that runs now, alone: on the figure by running it, in the pool by the same history.
use mathlib.Core.Path.{◌≡◌, refl, sym, ap, ◌∙◌, fun_ext, subst}
use mathlib.Core.Bool.{Bool, true, false, cond}
use mathlib.Core.Option.{none, some}
use mathlib.Core.List.{List, [], ◌∷◌}
use Prim.Native.Nat.{ℕ, zero, suc, ◌+◌, ◌<◌}
use native.Mathlib.Omega.{arith}
use lib.Dec.{eqb, ltb}
use lib.ListN.{length, replicate}
use borrow.Author.Tests.{ltb-true, lt-ltb, eqb-true, eqb-false, eq-eqb, ne_eqb}
use Rattle.figure_lines.specs.declared.Record.{Record}
use Rattle.cells_spec.specs.declared.State.{State}
use Rattle.cells_spec.specs.Answers.{Shown}
use Rattle.figure_lines.specs.declared.Field.TheVariants.{C, D}
use Rattle.figure_lines.specs.Answers.{Next}
use Rattle.figure_lines.specs.Record.{no_value, is_idle, record_at}
use Rattle.figure_lines.specs.Lines.{found, access_of, next_of}
use Rattle.cells_spec.specs.Questions.{refusal, open_questions}
use Rattle.figure_lines.specs.Record.{first_read}
use Rattle.cells_spec.specs.Pool.{word}
use Rattle.cells_spec.specs.Step.{current}
use Rattle.cells_spec.specs.Look.{looked, shown, shown_value}
use Rattle.history_spec.specs.Basics.{upd}
use Rattle.history_spec.specs.History.{Action, begin, step, read, a_read, Value, Report, Attempt, success, failure, untried, wins, losses, Event, accepted, answered, history, run}
use Rattle.history_spec.proofs.Basics.{upd_same, upd_off, upd-cases}
use Rattle.figure_cell.specs.Memory.{Cell, store, access_cell, accessed}
use Rattle.cells_spec.specs.Turn.{record_after, outcome_of}
use Rattle.figure.specs.Figure.{World, with_both, figure, figure_begun, figure_looked, figure_ran, figure_stepped}
use Rattle.cells_spec.specs.Events.{event_of, tried}
use Rattle.cells_spec.specs.Machine.{Pool, pool}
use Rattle.cells_theorems.specs.Terms.{start, is_active, is_undecided, lone_read, lone_attempt, last_event, read_report}
use Rattle.cells_theorems.proofs.Agree.{upd_own}
use Rattle.cells_theorems.proofs.Refines.{Together, together, histories, looks, same-words}

-- A TASK ALONE, on the figure: only its cell and its record change

upd_twice : {A : Type 0} (f : ℕ → A) (k : ℕ) (a b : A) → upd (upd f k a) k b ≡ upd f k b
upd_twice f k a b = fun_ext (λ j. upd-cases (λ x. x ≡ upd f k b j) (upd f k a) k b j (λ e. rw e (sym (upd_same f k b))) (λ d. upd_off f k a j d ∙ sym (upd_off f k b j d)))

abbrev shows : Cell → ℕ
shows m = let b = m.current in shown_value (m.c b) (m.v b) (m.d b)

module _ (t : ℕ) where
  abbrev next : Cell → Record → Next
  next m q = next_of t q (access_cell m (access_of t q)).value

  abbrev next_cell : Cell → Record → Cell
  next_cell m q = (access_cell m (access_of t q)).cell

  abbrev event : Cell → Record → Event
  event m q = event_of (tried t q (λ a. (access_cell m a).value)) (outcome_of (next m q))

  abbrev alone : ℕ → Cell → Record → List (Action × Event)
  alone zero m q = []
  alone (suc i) m q = (step t, event m q) ∷ alone i (next_cell m q) (record_after (next m q))

  -- at each of the steps its call is pending, on cell k
  abbrev Pending : ℕ → ℕ → Cell → Record → Type 0
  Pending k zero m q = Unit {0}
  Pending k (suc i) m q = (is_idle q ≡ false) × (q.cell ≡ k) × Pending k i (next_cell m q) (record_after (next m q))

  module _ (w : World) (l : t < w.tasks) where
    -- a busy task's step, in any world
    one_step : (x : World) → t < x.tasks → is_idle (x.records t) ≡ false → let q = x.records t in let m = x.cell q.cell in
        figure x (step t) ≡ (with_both x q.cell (next_cell m q) t (record_after (next m q)), event m q)
    unfolding figure_stepped figure_ran
    one_step x h busy = rw (lt-ltb t x.tasks h, busy)

    steps-alone : (m : Cell) (q : Record) → is_idle q ≡ false → figure (with_both w q.cell m t q) (step t) ≡ (with_both w q.cell (next_cell m q) t (record_after (next m q)), event m q)
    steps-alone m q busy =
        let x = with_both w q.cell m t q in
        one_step x l (ap is_idle (upd_same w.records t q) ∙ busy)
        ∙ (ap (λ (r : Record). let c = upd w.cell q.cell m r.cell in (with_both x r.cell (next_cell c r) t (record_after (next c r)), event c r)) (upd_same w.records t q)
        ∙ (ap (λ (c : Cell). (with_both x q.cell (next_cell c q) t (record_after (next c q)), event c q)) (upd_same w.cell q.cell m)
        ∙ ap (λ (y : (ℕ → Cell) × (ℕ → Record)). (record { tasks = w.tasks; cells = w.cells; cell = y.0; records = y.1 }, event m q)) (λ i. (upd_twice w.cell q.cell m (next_cell m q) i, upd_twice w.records t q (record_after (next m q)) i))))

    runs_alone : (k i : ℕ) (m : Cell) (q : Record) → Pending k i m q → history figure (with_both w k m t q) (replicate i (step t)) ≡ alone i m q
    runs_alone k zero m q h = refl
    runs_alone k (suc i) m q h =
        let one = subst (λ (k : ℕ). figure (with_both w k m t q) (step t) ≡ (with_both w k (next_cell m q) t (record_after (next m q)), event m q)) h.1 (steps-alone m q h.0) in
        ap (λ (r : World × Event). (step t, r.1) ∷ history figure r.0 (replicate i (step t))) one
        ∙ ap (λ (x : List (Action × Event)). (step t, event m q) ∷ x) (runs_alone k i (next_cell m q) (record_after (next m q)) h.2)

    -- A READ ALONE

    reads-alone : (k i : ℕ) → k < w.cells → is_idle (w.records t) ≡ true → Pending k i (w.cell k) (first_read k)
        → history figure w (lone_read t k i) ≡ (begin t (read k), accepted untried) ∷ alone i (w.cell k) (first_read k)
    unfolding figure_begun
    reads-alone k i h idle pending =
        rw (lt-ltb t w.tasks l, lt-ltb k w.cells h, idle)
        (ap (λ (x : List (Action × Event)). (begin t (read k), accepted untried) ∷ x) (rw (upd_own w.cell k) at (runs_alone k i (w.cell k) (first_read k) pending)))

  -- of a call at q, the last of i steps answers x; what became of its hardware CAS is y
  abbrev Answers : (k i : ℕ) → Attempt → (x : ℕ) → Cell → Record → Type 0
  Answers k i y x m q = Pending k i m q × (last_event (alone i m q) ≡ some (answered untried (read_report k x i y)))

  -- where C is false, three steps
  active-read : (k : ℕ) (m : Cell) → eqb (m.c m.current) 0 ≡ true → Answers k 3 untried (shows m) m (first_read k)
  active-read k m e = rw e ((refl, refl, (refl, refl, (refl, refl, tt))), refl)

  -- else three to line 13, and three that decide
  abbrev wanting13 : ℕ → Cell → Record
  wanting13 k m = record { line = 1; wanted = 13; kind = 1; cell = k; expected = 0; new = 0; held = m.current; taken = 0; loaded = m.v m.current; steps = 3; won = 0; lost = 0 }

  -- the read's report, by what memory answered to its hardware CAS
  decided : (k : ℕ) (m : Cell) (b x : ℕ) (u : Bool) → let y = cond u (accessed (store m b D x) 1) (accessed m 0) in
      record { kind = a_read; cell = k; answer = Value (y.cell.d b); steps = 6; won = 0 + wins (found y.value) + 0; lost = 0 + losses (found y.value) + 0 } ≡ read_report k (cond u x (m.d b)) 6 (cond u success failure)
  decided k m b x true = ap (λ (n : ℕ). read_report k n 6 success) (upd_same m.d b x)
  decided k m b x false = refl

  decides : (k : ℕ) (m : Cell) → let b = m.current in let u = eqb (m.d b) no_value in
      Pending k 3 m (wanting13 k m) × (last_event (alone 3 m (wanting13 k m)) ≡ some (answered untried (read_report k (cond u (m.v b) (m.d b)) 6 (cond u success failure))))
  decides k m = let b = m.current in ((refl, refl, (refl, refl, (refl, refl, tt))), ap (λ (r : Report). some (answered untried r)) (decided k m b (m.v b) (eqb (m.d b) no_value)))

  module _ (k i : ℕ) (m : Cell) (e : eqb (m.c m.current) 0 ≡ false) where
    to_line_13 : alone (suc (suc (suc i))) m (first_read k) ≡ (step t, accepted untried) ∷ (step t, accepted untried) ∷ (step t, accepted untried) ∷ alone i m (wanting13 k m)
    to_line_13 = rw e

    pending_to_13 : Pending k i m (wanting13 k m) → Pending k (suc (suc (suc i))) m (first_read k)
    pending_to_13 h = rw e (refl, refl, (refl, refl, (refl, refl, h)))

  decided-read : (k : ℕ) (m : Cell) → eqb (m.c m.current) 0 ≡ false → Answers k 6 (cond (eqb (m.d m.current) no_value) success failure) (shows m) m (first_read k)
  decided-read k m e =
      let u = eqb (m.d m.current) no_value in
      let value : shows m ≡ cond u (m.v m.current) (m.d m.current) = rw e in
      (pending_to_13 k 3 m e (decides k m).0, ap last_event (to_line_13 k 3 m e) ∙ (decides k m).1 ∙ ap (λ (x : ℕ). some (answered untried (read_report k x 6 (cond u success failure)))) (sym value))

lone-read : (t k : ℕ) (w : World) → t < w.tasks → k < w.cells → is_idle (w.records t) ≡ true
    → (c : Bool) → eqb ((w.cell k).c (w.cell k).current) 0 ≡ c
    → last_event (history figure w (lone_read t k (cond c 3 6))) ≡ some (answered untried (read_report k (shows (w.cell k)) (cond c 3 6) (lone_attempt c (eqb ((w.cell k).d (w.cell k).current) no_value))))
lone-read t k w l h idle true e = let r = active-read t k (w.cell k) e in ap last_event (reads-alone t w l k 3 h idle r.0) ∙ r.1
lone-read t k w l h idle false e = let r = decided-read t k (w.cell k) e in ap last_event (reads-alone t w l k 6 h idle r.0) ∙ r.1

shown_by : (k y : ℕ) (w : World) → figure_looked w k ≡ Shown y → (k < w.cells) × (shows (w.cell k) ≡ y)
unfolding figure_looked
shown_by k y w = go (ltb k w.cells) refl
  where
    go : (c : Bool) → ltb k w.cells ≡ c → shown (cond c none (some 8)) (shows (w.cell k)) ≡ Shown y → (k < w.cells) × (shows (w.cell k) ≡ y)
    go true e h = (ltb-true k w.cells e, cc)
    go false e h = let z : ◌≡◌ {A = ℕ} 0 1 = cc in absurd (omega (arith, z))

-- IN THE POOL

-- C of the current block is false where the cell is active, and nowhere else
active-is : (x : Pool) (k : ℕ) (c : Bool) → is_active x k ≡ c → eqb (word x.1 (current x.0 k) C) 0 ≡ c
active-is x k true e = eq-eqb (word x.1 (current x.0 k) C) 0 (eqb-true _ _ e)
active-is x k false e = ne_eqb (word x.1 (current x.0 k) C) 0 (eqb-false _ _ e)

reads_what_it_shows : {n v : ℕ} {x : Pool} {w : World} → Together n v x w → (t k y : ℕ) → t < n → is_idle (record_at x.0.records t) ≡ true → looked x.0 x.1 k ≡ Shown y
    → (c : Bool) → is_active x k ≡ c → last_event (history pool x (lone_read t k (cond c 3 6))) ≡ some (answered untried (read_report k y (cond c 3 6) (lone_attempt c (is_undecided x k))))
reads_what_it_shows {n} {v} {x} {w} g t k y l idle look c e =
    let sizes = g.agree.sizes in
    let by = shown_by k y w (sym (looks g k) ∙ look) in
    let same = same-words g k (rw sizes.cells_too at by.0) in
    let free : is_idle (w.records t) ≡ true = sym (ap is_idle (g.agree.records t l).same) ∙ idle in
    ap last_event (histories (lone_read t k (cond c 3 6)) g)
    ∙ lone-read t k w (rw sizes.tasks_too l) by.0 free c (ap (λ (x : ℕ). eqb x 0) (sym (same C)) ∙ active-is x k c e)
    ∙ ap (λ (d : ℕ). some (answered untried (read_report k (shows (w.cell k)) (cond c 3 6) (lone_attempt c (eqb d no_value))))) (sym (same D))
    ∙ ap (λ (y : ℕ). some (answered untried (read_report k y (cond c 3 6) (lone_attempt c (is_undecided x k))))) by.1

-- What look shows, a read returns that an idle task begins now and runs alone: with its third step, no hardware CAS attempted, where C of the
-- cell's current block is false; otherwise with its sixth, having attempted one, and won it where D was none.
pub look_is_a_lone_read : (old : State) (words : List ℕ) (tasks cells blocks : ℕ) (values : List ℕ) → refusal (open_questions (length words) tasks cells blocks values) ≡ none
    → (actions : List Action) → let now = run pool (start old words tasks cells blocks values) actions in
    (task cell value : ℕ) → task < tasks → is_idle (record_at now.0.records task) ≡ true → looked now.0 now.1 cell ≡ Shown value
    → let active = is_active now cell in last_event (history pool now (lone_read task cell (cond active 3 6))) ≡ some (answered untried (read_report cell value (cond active 3 6) (lone_attempt active (is_undecided now cell))))
look_is_a_lone_read old words tasks cells blocks values allowed actions task cell value h idle look =
    reads_what_it_shows (together old words tasks cells blocks values allowed actions) task cell value h idle look (is_active (run pool (start old words tasks cells blocks values) actions) cell) refl
