-- The numbers of a finished call are small: its task's, and its record's cell and counts.
use mathlib.Core.Path.{◌≡◌, refl}
use mathlib.Core.Bool.{true}
use mathlib.Core.Option.{Option, none, some}
use mathlib.Core.List.{List, ◌∷◌}
use Prim.Native.Nat.{ℕ, ◌+◌, ◌≤◌, ◌<◌}
use native.Mathlib.Omega.{arith}
use lib.Dec.{leb, leb→le}
use Rattle.figure_lines.specs.declared.Record.{Record}
use Rattle.figure_lines.specs.Answers.{Next}
use Rattle.figure_lines.specs.Record.{record_at, first_read, first_swap}
use Rattle.figure_lines.specs.Lines.{Line, line_of, access_at, access_of, next_of, attempt, counted, hardware}
use Rattle.figure_cell.proofs.Tries.{tries}
use Rattle.cells_spec.specs.declared.State.{State}
use Rattle.cells_spec.specs.Questions.{refusal, line_fit, fit, begin_questions, swap_questions}
use Rattle.cells_spec.specs.Blocks.{unused}
use Rattle.cells_spec.specs.Open.{After, unless}
use Rattle.cells_spec.specs.Begin.{started, read_begun, swap_begun}
use Rattle.cells_spec.specs.Step.{current, ran, step_asks, stepped}
use Rattle.cells_spec.specs.Drop.{drop_asks, call_withdrawn, dropped}
use Rattle.cells_spec.specs.Memory.{Touched, performed}
use Rattle.cells_spec.specs.Turn.{ending, turn}
use Rattle.cells_spec.proofs.Stepping.{Acting, own_acting}
use Rattle.figure_cell.proofs.LineLaws.{every_line, Leads, goes, done as ends, leads}
use Rattle.history_spec.specs.History.{read, swap, Action, begin, step, drop, task_of, untried}
use Rattle.cells_spec.specs.Events.{event_of}
use Rattle.cells_spec.specs.Machine.{does}
use Rattle.session_spec.specs.Lines.{FewDigits}

-- a line is at most one hardware CAS
at_most_one : (t : ℕ) (r : Record) → hardware (access_of t r) ≤ 1
at_most_one t r = leb→le _ _ (every_line (λ l. leb (hardware (access_at l t r)) 1) tt (line_of r))

module _ (t : ℕ) where
  asked : (o : Option ℕ) (s : State) (p : List ℕ) (a : After) → (o ≡ none → FewDigits t (event_of untried a.outcome)) → FewDigits t (event_of untried (unless o s p a).outcome)
  asked none s p a h = h refl
  asked (some n) s p a h = tt

  -- what follows a line of a task whose cell and counts are small
  ended : (m : Touched) (l : Line) (r : Record) (x : Next) → Leads l r x → t < 100 → r.cell < 100 → r.steps < 100 → r.won < 10 → r.lost < 10 → FewDigits t (event_of untried (ending m x).outcome)
  ended m l r x (goes f) h i j k n = tt
  ended m l r x (ends f) h i j k n = (h, i, j, k, n)

  turns : (p : List ℕ) (r : Record) (c l : ℕ) (f : Option ℕ) → line_fit r ≡ true → t < 100 → r.cell < 100 → r.steps ≤ 20 → r.won + r.lost ≤ 3 → FewDigits t (event_of untried (turn p t r c l f).outcome)
  turns p r c l f e h i j k =
      let m = performed p c l f (access_of t r) in
      let x = attempt (access_of t r) m.value in
      let q = counted r x in
      let one = tries (access_of t r) m.value in
      ended m (line_of r) q (next_of t r m.value) (leads (line_of r) t q m.value refl e) h i (omega arith) (omega (arith, one, at_most_one t r)) (omega (arith, one, at_most_one t r))

  steps : (s : State) (p : List ℕ) → FewDigits t (event_of untried (stepped s p t).outcome)
  unfolding stepped ran
  steps s p =
      let r = record_at s.records t in
      asked (refusal (step_asks s p t)) s p (ran s p t r) (λ g.
      let a : Acting s p t r = own_acting s p t g in
      turns p r (current s r.cell) s.last (unused s) a.line (omega (arith, a.task)) (omega (arith, a.cell)) a.ready.steps a.ready.hard)

pub small : (s : State) (p : List ℕ) (a : Action) → FewDigits (task_of a) (event_of untried (does s p a).outcome)
unfolding read_begun swap_begun dropped
small s p (begin t (read k)) = asked t (refusal ((6, fit s p) ∷ begin_questions s.tasks s.cells (record_at s.records t) t k)) s p (started s p t (first_read k)) (λ _. tt)
small s p (begin t (swap k e n)) = asked t (refusal ((6, fit s p) ∷ swap_questions s.tasks s.cells (record_at s.records t) t k e n)) s p (started s p t (first_swap k e n)) (λ _. tt)
small s p (step t) = steps t s p
small s p (drop t) = asked t (refusal (drop_asks s p t)) s p (call_withdrawn s p t) (λ _. tt)
