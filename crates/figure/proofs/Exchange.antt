-- Two neighbouring actions that are apart can be exchanged: each gives the event that it gave, and the world after both is the same.
use mathlib.Core.Path.{◌≡◌, refl, sym, ap, ap₂, ◌∙◌, subst, fun_ext}
use mathlib.Core.Logic.{◌≢◌, ◌⊎◌, inl, inr}
use mathlib.Core.Option.{Option, none, some}
use Prim.Native.Nat.{ℕ}
use Rattle.figure_lines.specs.declared.Record.{Record}
use Rattle.figure_lines.specs.Answers.{Next}
use Rattle.figure_lines.specs.Record.{idle}
use Rattle.figure_lines.specs.Lines.{access_of, next_of}
use Rattle.cells_spec.specs.Questions.{refusal, begin_questions, swap_questions, step_questions}
use Rattle.cells_spec.specs.Answers.{Acted}
use Rattle.cells_spec.specs.Events.{event_of, tried}
use Rattle.history_spec.specs.History.{Op, read, swap, Action, begin, step, drop, task_of, Event, untried}
use Rattle.history_spec.proofs.Basics.{either, upd_same, upd_off, clash, some_inj}
use Rattle.figure_cell.specs.Memory.{Cell, access_cell}
use Rattle.cells_spec.specs.Turn.{record_after, outcome_of}
use Rattle.figure.specs.Figure.{World, world_after, with_task, unless_refused, first_of, figure_ran, figure_stepped, figure_begun, figure_dropped, tried_in, figure}
use Rattle.figure.specs.Exchange.{if_accepted, touches, Apart}
use Rattle.figure.proofs.Records.{cell_at, cell_elsewhere}

-- WHAT AN ACTION LEAVES AS IT WAS: sizes, the records of other tasks, the cells that it does not touch
record Leaves (w : World) (t : ℕ) (touch : Option ℕ) (w' : World) : Type 0 where
  tasks : w'.tasks ≡ w.tasks
  cells : w'.cells ≡ w.cells
  others : (u : ℕ) → u ≢ t → w'.records u ≡ w.records u
  untouched : (k : ℕ) → touch ≢ some k → w'.cell k ≡ w.cell k

all_left : (w : World) (t : ℕ) (touch : Option ℕ) → Leaves w t touch w
all_left w t o = record { tasks = refl; cells = refl; others = λ u n. refl; untouched = λ k n. refl }

begin-leaves : (w : World) (t : ℕ) (q : Record) (r : Option ℕ) → Leaves w t none (unless_refused r w (world_after (with_task w t q) Acted)).world
begin-leaves w t q none = record { tasks = refl; cells = refl; others = λ u n. upd_off w.records t q u n; untouched = λ k n. refl }
begin-leaves w t q (some n) = all_left w t none

step-leaves : (w : World) (t : ℕ) (r : Option ℕ) → Leaves w t (if_accepted r (w.records t).cell) (unless_refused r w (figure_ran w t (w.records t))).world
unfolding figure_ran
step-leaves w t none = record {
  tasks = refl;
  cells = refl;
  others = λ u n. upd_off w.records t _ u n;
  untouched = λ k n. cell_elsewhere w (w.records t).cell _ t (w.records t) k (λ e. n (ap some (sym e)));
}
step-leaves w t (some n) = all_left w t none

leaves : (w : World) (a : Action) → Leaves w (task_of a) (touches w a) (figure w a).0
unfolding figure_begun figure_stepped figure_dropped
leaves w (begin t (read k)) = begin-leaves w t (first_of (read k)) (refusal (begin_questions w.tasks w.cells (w.records t) t k))
leaves w (begin t (swap k e n)) = begin-leaves w t (first_of (swap k e n)) (refusal (swap_questions w.tasks w.cells (w.records t) t k e n))
leaves w (step t) = step-leaves w t (refusal (step_questions w.tasks (w.records t) t))
leaves w (drop t) = begin-leaves w t idle (refusal (step_questions w.tasks (w.records t) t))

-- WHAT AN ACTION DOES depends on sizes, its task's record and the cell that it touches alone
record Alike (w w' : World) (t : ℕ) (touch : Option ℕ) : Type 0 where
  tasks : w'.tasks ≡ w.tasks
  cells : w'.cells ≡ w.cells
  task : w'.records t ≡ w.records t
  cell : (k : ℕ) → touch ≡ some k → w'.cell k ≡ w.cell k

record Does (t : ℕ) (touch touch' : Option ℕ) (x x' : World × Event) : Type 0 where
  touch_same : touch' ≡ touch
  event : x'.1 ≡ x.1
  task : x'.0.records t ≡ x.0.records t
  cell : (k : ℕ) → touch ≡ some k → x'.0.cell k ≡ x.0.cell k

-- a begin, or a drop, or a step of which the questions say r
abbrev begin_said : World → ℕ → Record → Option ℕ → World × Event
begin_said w t q r = let x = unless_refused r w (world_after (with_task w t q) Acted) in (x.world, event_of untried x.outcome)

abbrev went : World → ℕ → Option ℕ → World × Event
went w t r = let x = unless_refused r w (figure_ran w t (w.records t)) in (x.world, event_of (tried_in w t (w.records t)) x.outcome)

begin-does : (w w' : World) (t : ℕ) (q : Record) → w'.records t ≡ w.records t → (r : Option ℕ) → Does t none none (begin_said w t q r) (begin_said w' t q r)
begin-does w w' t q s none = record { touch_same = refl; event = refl; task = upd_same w'.records t q ∙ sym (upd_same w.records t q); cell = λ k e. absurd (clash refl e) }
begin-does w w' t q s (some n) = record { touch_same = refl; event = refl; task = s; cell = λ k e. absurd (clash refl e) }

-- a step's event, and the record and the cell after it, from record and cell
module _ (t : ℕ) where
  abbrev next : Record → Cell → Next
  next q m = next_of t q (access_cell m (access_of t q)).value

  abbrev event_for : Record → Cell → Event
  event_for q m = event_of (tried t q (λ a. (access_cell m a).value)) (outcome_of (next q m))

  abbrev record_for : Record → Cell → Record
  record_for q m = record_after (next q m)

  abbrev cell_for : Record → Cell → Cell
  cell_for q m = (access_cell m (access_of t q)).cell

step-does : (w w' : World) (t : ℕ) → w'.records t ≡ w.records t → (r : Option ℕ) → ((k : ℕ) → if_accepted r (w.records t).cell ≡ some k → w'.cell k ≡ w.cell k)
    → Does t (if_accepted r (w.records t).cell) (if_accepted r (w'.records t).cell) (went w t r) (went w' t r)
unfolding figure_ran
step-does w w' t s none c = record {
  touch_same = ap (λ (q : Record). some q.cell) s;
  event = ap₂ (event_for t) s here;
  task = upd_same w'.records t (record_for t q' m') ∙ (ap₂ (record_for t) s here ∙ sym (upd_same w.records t (record_for t q m)));
  cell = λ k e.
      let j : k ≡ q.cell = sym (some_inj refl e) in
      cell_at w' q'.cell (cell_for t q' m') t q' k (j ∙ sym (ap (λ (q : Record). q.cell) s)) ∙ (ap₂ (cell_for t) s here ∙ sym (cell_at w q.cell (cell_for t q m) t q k j));
}
  where
    q : Record
    q = w.records t

    q' : Record
    q' = w'.records t

    m : Cell
    m = w.cell q.cell

    m' : Cell
    m' = w'.cell q'.cell

    here : m' ≡ m
    here = ap (λ (q : Record). w'.cell q.cell) s ∙ c q.cell refl
step-does w w' t s (some n) c = record { touch_same = refl; event = refl; task = s; cell = λ k e. absurd (clash refl e) }

does : (w w' : World) (a : Action) → Alike w w' (task_of a) (touches w a) → Does (task_of a) (touches w a) (touches w' a) (figure w a) (figure w' a)
unfolding figure_begun figure_stepped figure_dropped
does w w' (begin t op) s = go op
  where
    -- the same questions are answered no
    begins : (q : Record) (asked : ℕ → ℕ → Record → Option ℕ) → Does t none none (begin_said w t q (asked w.tasks w.cells (w.records t))) (begin_said w' t q (asked w'.tasks w'.cells (w'.records t)))
    begins q asked =
        let r = asked w.tasks w.cells (w.records t) in
        subst (λ r'. Does t none none (begin_said w t q r) (begin_said w' t q r')) (sym (λ i. asked (s.tasks i) (s.cells i) (s.task i))) (begin-does w w' t q s.task r)

    go : (op : Op) → Does t none none (figure w (begin t op)) (figure w' (begin t op))
    go (read k) = begins (first_of (read k)) (λ n v q. refusal (begin_questions n v q t k))
    go (swap k e m) = begins (first_of (swap k e m)) (λ n v q. refusal (swap_questions n v q t k e m))
does w w' (step t) s =
    let asked : ℕ → Record → Option ℕ = λ n q. refusal (step_questions n q t) in
    let r = asked w.tasks (w.records t) in
    subst (λ r'. Does t (if_accepted r (w.records t).cell) (if_accepted r' (w'.records t).cell) (went w t r) (went w' t r')) (sym (λ i. asked (s.tasks i) (s.task i))) (step-does w w' t s.task r s.cell)
does w w' (drop t) s =
    let asked : ℕ → Record → Option ℕ = λ n q. refusal (step_questions n q t) in
    let r = asked w.tasks (w.records t) in
    subst (λ r'. Does t none none (begin_said w t idle r) (begin_said w' t idle r')) (sym (λ i. asked (s.tasks i) (s.task i))) (begin-does w w' t idle s.task r)

-- TWO ACTIONS THAT ARE APART

turned : {w : World} {a b : Action} → Apart w a b → Apart w b a
turned p = record { tasks = λ e. p.tasks (sym e); cells = λ k e h. p.cells k h e }

-- b does after a what it does alone
undisturbed : (w : World) (a b : Action) → Apart w a b → Does (task_of b) (touches w b) (touches (figure w a).0 b) (figure w b) (figure (figure w a).0 b)
undisturbed w a b p = does w (figure w a).0 b (record { tasks = l.tasks; cells = l.cells; task = l.others (task_of b) (λ e. p.tasks (sym e)); cell = λ k e. l.untouched k (λ h. p.cells k h e) })
  where
    l : Leaves w (task_of a) (touches w a) (figure w a).0
    l = leaves w a

is_some : (o : Option ℕ) (k : ℕ) → (o ≡ some k) ⊎ (o ≢ some k)
is_some none k = inr (λ e. clash refl e)
is_some (some j) k = go (either j k)
  where
    go : (j ≡ k) ⊎ (j ≢ k) → (some j ≡ some k) ⊎ (some j ≢ some k)
    go (inl e) = inl (ap some e)
    go (inr n) = inr (λ e. n (some_inj refl e))

module _ (w : World) (a b : Action) (p : Apart w a b) where
  -- the record and the cell that a changes are the same after both
  record_of_lem : (figure (figure w a).0 b).0.records (task_of a) ≡ (figure (figure w b).0 a).0.records (task_of a)
  record_of_lem = (leaves (figure w a).0 b).others (task_of a) p.tasks ∙ sym (undisturbed w b a (turned p)).task

  cell_of_lem : (k : ℕ) → touches w a ≡ some k → (figure (figure w a).0 b).0.cell k ≡ (figure (figure w b).0 a).0.cell k
  cell_of_lem k h = (leaves (figure w a).0 b).untouched k (λ e. p.cells k h (sym (undisturbed w a b p).touch_same ∙ e)) ∙ sym ((undisturbed w b a (turned p)).cell k h)

  -- what neither of them changes is as it was
  record_off : (t : ℕ) → t ≢ task_of a → t ≢ task_of b → (figure (figure w a).0 b).0.records t ≡ w.records t
  record_off t n m = (leaves (figure w a).0 b).others t m ∙ (leaves w a).others t n

  cell_off : (k : ℕ) → touches w a ≢ some k → touches w b ≢ some k → (figure (figure w a).0 b).0.cell k ≡ w.cell k
  cell_off k n m = (leaves (figure w a).0 b).untouched k (λ e. m (sym (undisturbed w a b p).touch_same ∙ e)) ∙ (leaves w a).untouched k n

module _ (w : World) (a b : Action) (p : Apart w a b) where
  abbrev ab : World
  ab = (figure (figure w a).0 b).0

  abbrev ba : World
  ba = (figure (figure w b).0 a).0

  records-same : (t : ℕ) → ab.records t ≡ ba.records t
  records-same t = go (either t (task_of a)) (either t (task_of b))
    where
      go : (t ≡ task_of a) ⊎ (t ≢ task_of a) → (t ≡ task_of b) ⊎ (t ≢ task_of b) → ab.records t ≡ ba.records t
      go (inl e) z = subst (λ t. ab.records t ≡ ba.records t) (sym e) (record_of_lem w a b p)
      go (inr n) (inl e) = subst (λ t. ab.records t ≡ ba.records t) (sym e) (sym (record_of_lem w b a (turned p)))
      go (inr n) (inr m) = record_off w a b p t n m ∙ sym (record_off w b a (turned p) t m n)

  cells_same : (k : ℕ) → ab.cell k ≡ ba.cell k
  cells_same k = go (is_some (touches w a) k) (is_some (touches w b) k)
    where
      go : (touches w a ≡ some k) ⊎ (touches w a ≢ some k) → (touches w b ≡ some k) ⊎ (touches w b ≢ some k) → ab.cell k ≡ ba.cell k
      go (inl e) z = cell_of_lem w a b p k e
      go (inr n) (inl e) = sym (cell_of_lem w b a (turned p) k e)
      go (inr n) (inr m) = cell_off w a b p k n m ∙ sym (cell_off w b a (turned p) k m n)

  -- The world after both, in either order, and the event of each are the same.
  pub apart : ((figure (figure w a).0 b).0 ≡ (figure (figure w b).0 a).0) × ((figure (figure w a).0 b).1 ≡ (figure w b).1) × ((figure (figure w b).0 a).1 ≡ (figure w a).1)
  apart = (worlds, (undisturbed w a b p).event, (undisturbed w b a (turned p)).event)
    where
      sizes : (f : World → ℕ) → ((w : World) (a : Action) → f (figure w a).0 ≡ f w) → f ab ≡ f ba
      sizes f stays = (stays (figure w a).0 b ∙ stays w a) ∙ sym (stays (figure w b).0 a ∙ stays w b)

      worlds : ab ≡ ba
      worlds = λ i. record {
        tasks = sizes (λ w. w.tasks) (λ w a. (leaves w a).tasks) i;
        cells = sizes (λ w. w.cells) (λ w a. (leaves w a).cells) i;
        cell = fun_ext cells_same i;
        records = fun_ext records-same i;
      }
