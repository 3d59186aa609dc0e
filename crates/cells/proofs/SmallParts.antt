-- In a fit state the counts of an add, and of its part that ends, are small.
use mathlib.Core.Path.{◌≡◌, refl, sym}
use mathlib.Core.Bool.{Bool, true, false, not, cond, false≢true}
use mathlib.Core.Option.{Option, none, some}
use mathlib.Core.List.{List}
use Prim.Native.Nat.{ℕ, ◌+◌, ◌*◌, ◌≤◌, ◌<◌}
use native.Mathlib.Omega.{arith}
use lib.Dec.{eqb, leb, leb→le}
use borrow.Author.Tests.{ltb-true, leb-true}
use Rattle.figure_lines.specs.declared.Record.{Record}
use Rattle.figure_lines.specs.Answers.{Result, Next}
use Rattle.figure_lines.specs.Basics.{ands}
use Rattle.figure_lines.specs.Record.{is_idle, record_at}
use Rattle.figure_lines.specs.Lines.{Line, line_of, access_at, access_of, next_of, attempt, counted, hardware}
use Rattle.figure_cell.proofs.Tries.{tries}
use Rattle.figure_cell.proofs.LineLaws.{every_line, Leads, goes, done as ends, leads}
use Rattle.cells_spec.specs.declared.State.{State}
use Rattle.cells_spec.specs.Questions.{refusal}
use Rattle.cells_spec.specs.Blocks.{unused}
use Rattle.cells_spec.specs.Memory.{Touched, performed}
use Rattle.cells_spec.specs.Answers.{Ended}
use Rattle.cells_spec.specs.Open.{unless}
use Rattle.cells_spec.specs.Step.{current, ran, step_asks, stepped}
use Rattle.cells_spec.specs.Turn.{ending}
use Rattle.cells_spec.proofs.Tests.{nth, yes-at, all-at, within_true}
use Rattle.cells_spec.proofs.Stepping.{Acting, own_acting}
use Rattle.adds_spec.specs.declared.Add.{Add}
use Rattle.adds_spec.specs.declared.AddingState.{AddingState}
use Rattle.adds_spec.specs.Adding.{add_at, has_add, add_tests, add_fit, adds_fit, PartsFit}

-- a line is at most one hardware CAS
at_most_one : (t : ℕ) (r : Record) → hardware (access_of t r) ≤ 1
at_most_one t r = leb→le _ _ (every_line (λ l. leb (hardware (access_at l t r)) 1) tt (line_of r))

abbrev Small : (steps won lost : ℕ) → Type 0
Small n w l = (n ≤ 21) × (w ≤ 4) × (l ≤ 4)

of_next : (m : Touched) (l : Line) (r : Record) (x : Next) → Leads l r x → Small r.steps r.won r.lost → (g : Result) → (ending m x).outcome ≡ Ended g → Small g.steps g.won g.lost
of_next m l r x (goes f) h g e = absurd (let w : ◌≡◌ {A = ℕ} 0 1 = cc in omega arith)
of_next m l r x (ends {a} f) h g e = let w : record { kind = r.kind; cell = r.cell; answer = a; steps = r.steps; won = r.won; lost = r.lost } ≡ g = cc in rw (← w) h

-- of a step that ends a call
record Ends (s : State) (t : ℕ) (g : Result) : Type 0 where
  below_32 : t < 32
  busy : is_idle (record_at s.records t) ≡ false
  below : t < s.tasks
  small : Small g.steps g.won g.lost

of_ran : (s : State) (p : List ℕ) (t : ℕ) (o : Option ℕ) → o ≡ refusal (step_asks s p t) → (g : Result) → (unless o s p (ran s p t (record_at s.records t))).outcome ≡ Ended g → Ends s t g
unfolding ran
of_ran s p t (some n) z g e = absurd (let w : ◌≡◌ {A = ℕ} 0 1 = cc in omega arith)
of_ran s p t none z g e =
    let r = record_at s.records t in
    let a : Acting s p t r = own_acting s p t (sym z) in
    let m = performed p (current s r.cell) s.last (unused s) (access_of t r) in
    let q = counted r (attempt (access_of t r) m.value) in
    let one = tries (access_of t r) m.value in
    record {
      below_32 = a.task;
      busy = is-busy (is_idle r) (yes-at (step_asks s p t) (sym z) 2);
      below = ltb-true t s.tasks (yes-at (step_asks s p t) (sym z) 1);
      small = of_next m (line_of r) q (next_of t r m.value) (leads (line_of r) t q m.value refl a.line)
          (omega (arith, a.ready.steps), omega (arith, one, at_most_one t r, a.ready.hard), omega (arith, one, at_most_one t r, a.ready.hard)) g e;
    }
  where
    is-busy : (b : Bool) → not b ≡ true → b ≡ false
    is-busy true e = absurd (false≢true e)
    is-busy false e = refl

small-add : (a : Add) (r : Record) → add_fit a r ≡ true → is_idle r ≡ false → has_add a ≡ true → (a.failed ≤ 8) × (a.steps ≤ 1000) × (a.won + a.lost ≤ 1000)
unfolding add_fit
small-add a r e i h =
    let l : ands (add_tests a r) ≡ true = rw (i, h) at e in
    let w = within_true a.tries 1 8 (nth (add_tests a r) l 0) in
    let f = ltb-true a.failed a.tries (nth (add_tests a r) l 1) in
    go (eqb r.kind 2) w.1 f (leb-true _ _ (nth (add_tests a r) l 2)) (leb-true _ _ (nth (add_tests a r) l 3))
  where
    go : (b : Bool) → a.tries ≤ 8 → a.failed < a.tries → a.steps ≤ 27 * a.failed + cond b 6 0 → a.won + a.lost ≤ 4 * a.failed + cond b 1 0 → (a.failed ≤ 8) × (a.steps ≤ 1000) × (a.won + a.lost ≤ 1000)
    go true w f x y = (omega arith, omega arith, omega arith)
    go false w f x y = (omega arith, omega arith, omega arith)

pub parts-fit : (s : AddingState) (p : List ℕ) (t : ℕ) (g : Result) → adds_fit s ≡ true → (stepped s.cells p t).outcome ≡ Ended g → (t < 32) × (has_add (add_at s.adds t) ≡ true → PartsFit (add_at s.adds t) g)
unfolding adds_fit stepped
parts-fit s p t g e z =
    let k = of_ran s.cells p t (refusal (step_asks s.cells p t)) refl g z in
    let f = all-at (λ t. add_fit (add_at s.adds t) (record_at s.cells.records t)) 0 s.cells.tasks e t (omega arith) (omega (arith, k.below)) in (
      k.below_32,
      λ h.
          let a = small-add (add_at s.adds t) (record_at s.cells.records t) f k.busy h in
          (a.0, omega (arith, a.1, k.small.0), omega (arith, a.2, k.small.1), omega (arith, a.2, k.small.2)),
    )
