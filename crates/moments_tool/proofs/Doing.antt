-- What an action does to the records, and so to the pending calls: each is of the operation that its task's record has.
use mathlib.Core.Path.{◌≡◌, refl, sym, ◌∙◌}
use mathlib.Core.Logic.{◌≢◌, ◌⊎◌, inl, inr}
use mathlib.Core.Bool.{true, false, not, ◌&&◌, false≢true}
use mathlib.Core.Option.{Option, none, some}
use mathlib.Core.List.{List, [], ◌∷◌}
use Prim.Native.Nat.{ℕ, ◌≤◌, ◌<◌}
use native.Mathlib.Omega.{arith}
use lib.ListN.{length, set}
use lib.Seq.{get_or-set_same, get_or-set_other}
use lib.Dec.{eqb, ltb}
use borrow.Author.Tests.{ltb-true, not-true}
use Rattle.figure_lines.specs.declared.Record.{Record}
use Rattle.figure_lines.specs.Answers.{Result, Next}
use Rattle.figure_lines.specs.Record.{no_value, idle, is_idle, record_at, first_read, first_swap, op_of}
use Rattle.figure_lines.specs.Lines.{Line, line_of, access_of, attempt, counted, next_of}
use Rattle.cells_spec.specs.declared.State.{State}
use Rattle.cells_spec.specs.Questions.{Question, refusal, answers, fit, begin_questions, swap_questions}
use Rattle.cells_spec.proofs.Tests.{all_yes, nth, yes_to}
use Rattle.cells_spec.specs.Blocks.{unused}
use Rattle.cells_spec.specs.Answers.{Refused, Acted, Ended}
use Rattle.cells_spec.specs.Open.{After, leaving, unless}
use Rattle.cells_spec.specs.Begin.{started, read_begun, swap_begun}
use Rattle.cells_spec.specs.Step.{current, put_back, ran, step_asks, stepped}
use Rattle.cells_spec.specs.Drop.{drop_asks, call_withdrawn, dropped}
use Rattle.cells_spec.specs.Memory.{Touched, performed}
use Rattle.cells_spec.specs.Turn.{ending, turn}
use Rattle.cells_spec.specs.Events.{event_of}
use Rattle.cells_spec.specs.Machine.{does}
use Rattle.cells_spec.proofs.Stepping.{Acting, own_acting}
use Rattle.figure_cell.proofs.LineLaws.{Leads, goes, done, leads}
use Rattle.figure.proofs.Records.{not_idle}
use Rattle.history_spec.specs.Basics.{upd}
use Rattle.history_spec.specs.History.{Op, read, swap, Action, begin, step, drop, Attempt, Call, Calls, called, advance, advanced, enter}
use Rattle.history_spec.proofs.Basics.{either, upd-at, upd_off}

-- a step that is done
pub record Steps (s : State) (p : List ℕ) (t : ℕ) : Type 0 where
  pub below : t < s.tasks
  pub acting : Acting s p t (record_at s.records t)
  pub busy : is_idle (record_at s.records t) ≡ false

pub data Did (s : State) (p : List ℕ) : Action → After → Type 0 where
  refuses : {a : Action} (n : ℕ) → Did s p a (leaving s p (Refused n))
  begins : {t : ℕ} {op : Op} (q : Record) → t < s.tasks → op ≡ op_of q → Did s p (begin t op) (started s p t q)
  moves : {t : ℕ} {s' : State} {p' : List ℕ} (q : Record) → Steps s p t → s'.records ≡ set s.records t q → op_of q ≡ op_of (record_at s.records t) → Did s p (step t) (leaving s' p' Acted)
  drops : {t : ℕ} → t < s.tasks → is_idle (record_at s.records t) ≡ false → Did s p (drop t) (call_withdrawn s p t)
  ends : {t : ℕ} {s' : State} {p' : List ℕ} (f : Result) → Steps s p t → s'.records ≡ set s.records t idle → Did s p (step t) (leaving s' p' (Ended f))

module _ (s : State) (p : List ℕ) (t : ℕ) where
  abbrev r : Record
  r = record_at s.records t

  unless-begun : (op : Op) (q : Record) → op ≡ op_of q → (l : List Question) → (refusal l ≡ none → t < s.tasks) → Did s p (begin t op) (unless (refusal l) s p (started s p t q))
  unless-begun op q e l below = go (refusal l) below
    where
      go : (o : Option ℕ) → (o ≡ none → t < s.tasks) → Did s p (begin t op) (unless o s p (started s p t q))
      go none h = begins q (h refl) e
      go (some n) h = refuses n

  -- questions 6 and 7 come first
  below : (l : List Question) → refusal ((6, fit s p) ∷ (7, ltb t s.tasks) ∷ l) ≡ none → t < s.tasks
  below l e = ltb-true t s.tasks (nth (answers ((6, fit s p) ∷ (7, ltb t s.tasks) ∷ l)) (all_yes ((6, fit s p) ∷ (7, ltb t s.tasks) ∷ l) e) 1)

  line-done : (m : Touched) (l : Line) (q : Record) (x : Next) → op_of q ≡ op_of r → Leads l q x → Steps s p t → Did s p (step t) (put_back s t r (ending m x))
  line-done m l q x e (goes h) z = moves _ z refl e
  line-done m l q x e (done h) z = ends _ z refl

  unless-stepped : Did s p (step t) (stepped s p t)
  unfolding stepped ran
  unless-stepped = go (refusal (step_asks s p t)) refl
    where
      go : (o : Option ℕ) → refusal (step_asks s p t) ≡ o → Did s p (step t) (unless o s p (put_back s t r (turn p t r (current s r.cell) s.last (unused s))))
      go none e =
          let a : Acting s p t r = own_acting s p t e in
          let m = performed p (current s r.cell) s.last (unused s) (access_of t r) in
          let q = counted r (attempt (access_of t r) m.value) in
          line-done m (line_of r) q (next_of t r m.value) refl (leads (line_of r) t q m.value refl a.line)
          (record { below = ltb-true t s.tasks (yes_to (step_asks s p t) e 7); acting = a; busy = not_idle r a.line })
      go (some n) e = refuses n

  unless-dropped : Did s p (drop t) (dropped s p t)
  unfolding dropped
  unless-dropped = go (refusal (drop_asks s p t)) refl
    where
      go : (o : Option ℕ) → refusal (drop_asks s p t) ≡ o → Did s p (drop t) (unless o s p (call_withdrawn s p t))
      go none e = drops (ltb-true t s.tasks (yes_to (drop_asks s p t) e 7)) (not-true (is_idle r) (yes_to (drop_asks s p t) e 11))
      go (some n) e = refuses n

pub did : (s : State) (p : List ℕ) (a : Action) → Did s p a (does s p a)
unfolding read_begun swap_begun
did s p (begin t (read k)) = unless-begun s p t (read k) (first_read k) refl ((6, fit s p) ∷ begin_questions s.tasks s.cells (record_at s.records t) t k) (below s p t ((8, ltb k s.cells) ∷ (9, is_idle (record_at s.records t)) ∷ []))
did s p (begin t (swap k e n)) = unless-begun s p t (swap k e n) (first_swap k e n) refl ((6, fit s p) ∷ swap_questions s.tasks s.cells (record_at s.records t) t k e n) (below s p t ((8, ltb k s.cells) ∷ (9, is_idle (record_at s.records t)) ∷ (10, not (eqb e no_value) && not (eqb n no_value)) ∷ []))
did s p (step t) = unless-stepped s p t
did s p (drop t) = unless-dropped s p t

-- PENDING CALLS

-- a busy record's call is pending, of its operation
abbrev pub BegunAs : ℕ → Record → Option Call → Type 0
BegunAs t r o = is_idle r ≡ false → (c : Call) × (o ≡ some c) × (c.start.op ≡ op_of r) × (c.start.task ≡ t)

abbrev pub AllBegun : List Record → (ℕ → Option Call) → Type 0
AllBegun l f = (t : ℕ) → BegunAs t (record_at l t) (f t)

module _ (l : List Record) (f : ℕ → Option Call) (all : AllBegun l f) (t : ℕ) (h : t < length l) where
  put : (q : Record) (o : Option Call) → BegunAs t q o → AllBegun (set l t q) (upd f t o)
  put q o z u = go (either u t)
    where
      go : (u ≡ t) ⊎ (u ≢ t) → BegunAs u (record_at (set l t q) u) (upd f t o u)
      go (inl e) = rw (e, upd-at f t o t refl, get_or-set_same l t q idle h) z
      go (inr e) = rw (upd_off f t o u e, get_or-set_other l t u q idle e) (all u)

begun_first : (b : Calls) (t : ℕ) (op : Op) (q : Record) → op ≡ op_of q → BegunAs t q (some (called b t op))
begun_first b t op q e _ = (called b t op, refl, e, refl)

begun_on : (b : Calls) (x : Attempt) (t : ℕ) (r q : Record) (o : Option Call) → op_of q ≡ op_of r → is_idle r ≡ false → BegunAs t r o → BegunAs t q (advanced b x o)
begun_on b x t r q o e i z _ = go (z i)
  where
    go : (c : Call) × (o ≡ some c) × (c.start.op ≡ op_of r) × (c.start.task ≡ t) → (c : Call) × (advanced b x o ≡ some c) × (c.start.op ≡ op_of q) × (c.start.task ≡ t)
    go (c, y, k, m) = (advance b x c, rw y, k ∙ sym e, m)

begun_none : (t : ℕ) (o : Option Call) → BegunAs t idle o
begun_none t o e = let z : true ≡ false = e in absurd (false≢true (sym z))

module _ {s : State} {p : List ℕ} (records : length s.records ≡ 32) (tasks : s.tasks ≤ 32) (b : Calls) (x : Attempt) (all : AllBegun s.records b.pending) where
  pub begun-next : (a : Action) (y : After) → Did s p a y → AllBegun y.state.records (enter b a (event_of x y.outcome)).pending
  begun-next (begin t op) y (refuses n) = all
  begun-next (step t) y (refuses n) = all
  begun-next (drop t) y (refuses n) = all
  begun-next (begin t op) y (begins q h e) = put s.records b.pending all t (omega (arith, h)) q (some (called b t op)) (begun_first b t op q e)
  begun-next (step t) y (moves q z g e) = rw g (put s.records b.pending all t (omega (arith, z.below)) q (advanced b x (b.pending t)) (begun_on b x t (record_at s.records t) q (b.pending t) e z.busy (all t)))
  begun-next (step t) y (ends f z g) = rw g (put s.records b.pending all t (omega (arith, z.below)) idle none (begun_none t none))
  begun-next (drop t) y (drops h i) = put s.records b.pending all t (omega (arith, h)) idle none (begun_none t none)
