-- A cell comes to name another block by a won attempt at line 30, and only so; from an opening every such attempt does it.
use mathlib.Core.Path.{◌≡◌, refl, sym, ap, subst, ◌∙◌}
use mathlib.Core.Logic.{◌≢◌, ◌⊎◌, inl, inr}
use mathlib.Core.Bool.{Bool, true, false}
use mathlib.Core.Option.{Option, none}
use mathlib.Core.List.{List, []}
use Prim.Native.Nat.{ℕ, ◌<◌}
use native.Mathlib.Omega.{arith}
use lib.Dec.{eqb, T}
use lib.ListN.{get_or, set, length}
use lib.Seq.{get_or-set_same}
use Rattle.figure_lines.specs.declared.Record.{Record}
use Rattle.cells_spec.specs.declared.State.{State}
use Rattle.figure_lines.specs.declared.Access.{Access}
use Rattle.figure_lines.specs.declared.Field.TheVariants.{X}
use Rattle.figure_lines.specs.Record.{record_at}
use Rattle.figure_lines.specs.Lines.{l30, line_of, access_at, next_at, found, counted}
use Rattle.cells_spec.proofs.Numbers.{number}
use Rattle.cells_spec.specs.Blocks.{unused}
use Rattle.cells_spec.specs.Questions.{refusal, open_questions}
use Rattle.cells_spec.specs.Open.{After}
use Rattle.cells_spec.specs.Memory.{Touched, touched, performed}
use Rattle.cells_spec.proofs.Installs.{installs, block_stays}
use Rattle.cells_spec.specs.Step.{current}
use Rattle.cells_spec.specs.Events.{event_of}
use Rattle.cells_spec.specs.Machine.{Pool, pool}
use Rattle.history_spec.specs.History.{Action, begin, step, drop, Yes, success, Attempt, Report, Event, answered, run}
use Rattle.history_spec.proofs.ListTests.{by_test}
use Rattle.cells_spec.specs.Turn.{outcome_of}
use Rattle.figure.specs.Figure.{World}
use Rattle.figure_cell.proofs.LineLaws.{same, same-is}
use Rattle.figure_cell.proofs.Classes.{is, lies_in}
use Rattle.figure.proofs.Records.{WellRecord}
use Rattle.figure_cell.proofs.Invariant.{TaskOf}
use Rattle.figure.proofs.Views.{view}
use Rattle.figure_moments.proofs.Reachable.{Reachable, knows, reached-task, reachable}
use Rattle.cells_theorems.specs.Terms.{start, named as named-as}
use Rattle.cells_theorems.specs.Attempts.{wins_of, Replaces}
use Rattle.cells_theorems.proofs.Refines.{Together, together}
use Rattle.cells_theorems.proofs.Demand3.{starting_values}
use Rattle.cells_theorems.proofs.Stepped.{set_either, touched_at, tries_at, ran_at, Stepped, refuses, runs, step-cases, Began, declines, starts, begin-cases, Dropped, keeps, leaves, drop-cases}

-- ANY STATE

only_installs : (p : List ℕ) (c l : ℕ) (f : Option ℕ) (a : Access) → (performed p c l f a).current ≢ c → T (installs a)
only_installs p c l f a n = go (installs a) refl
  where
    go : (x : Bool) → installs a ≡ x → T x
    go true e = tt
    go false e = absurd (n (block_stays p c l f a e))

module _ (s : State) (p : List ℕ) (t k : ℕ) where
  abbrev r : Record
  r = record_at s.records t

  abbrev c : ℕ
  c = current s r.cell

  -- cell k after its own block becomes b
  abbrev named : ℕ → ℕ
  named b = get_or (set s.current r.cell b) k 0

  -- only its own cell comes to name another block, and it is another
  changed : (b : ℕ) → named b ≢ current s k → (r.cell ≡ k) × (named b ≡ b) × (b ≢ c)
  changed b n = go (set_either s.current r.cell b 0 k)
    where
      go : ((k ≡ r.cell) × (named b ≡ b)) ⊎ (named b ≡ current s k) → (r.cell ≡ k) × (named b ≡ b) × (b ≢ c)
      go (inl (e, g)) = (sym e, g, λ z. n (g ∙ z ∙ ap (current s) (sym e)))
      go (inr e) = absurd (n e)

  -- what line 30 leaves, m, and what it reports
  record Won (x : Attempt) (e : Event) (b : ℕ) : Type 0 where
    cell : r.cell ≡ k
    won : x ≡ success
    report : Report
    event : e ≡ answered success report
    yes : report.answer ≡ Yes
    names : b ≡ r.taken

  line_30 : named (touched_at s p t l30).current ≢ current s k → Won (tries_at s p t l30) (event_of (tries_at s p t l30) (ran_at s p t l30).outcome) (named (touched_at s p t l30).current)
  line_30 = by_test (λ (m : Touched). named m.current ≢ current s k → Won (found m.value) (event_of (found m.value) (outcome_of (next_at l30 t (counted r (found m.value)) m.value))) (named m.current))
      (eqb c r.held) (touched p r.taken s.last 1) (touched p c s.last 0)
      (λ z n. let h = changed r.taken n in record { cell = h.0; won = refl; report = _; event = refl; yes = refl; names = h.1 })
      (λ z n. absurd ((changed c n).2 refl))

  abbrev Changes : After → Type 0
  Changes f = get_or f.state.current k 0 ≢ current s k → (r.line ≡ 30) × Won (tries_at s p t (line_of r)) (event_of (tries_at s p t (line_of r)) f.outcome) (get_or f.state.current k 0)

  replaced : {f : After} → Stepped s p t f → Changes f
  replaced (refuses n) d = absurd (d refl)
  replaced (runs h) d =
      let e : line_of r ≡ l30 = same-is (line_of r) l30 (lies_in (λ ℓ. installs (access_at ℓ t r)) (λ ℓ. same ℓ l30) tt (line_of r) (only_installs p c s.last (unused s) (access_at (line_of r) t r) (changed _ d).2)) in
      (h.line ∙ ap number e, subst (λ ℓ. named (touched_at s p t ℓ).current ≢ current s k → Won (tries_at s p t ℓ) (event_of (tries_at s p t ℓ) (ran_at s p t ℓ).outcome) (named (touched_at s p t ℓ).current)) (sym e) line_30 d)

  step_replaces : current (pool (s, p) (step t)).0.0 k ≢ current s k → Replaces (s, p) (step t) k
  step_replaces d = let h = replaced (step-cases s p t) d in let y = h.1 in record { is-step = refl; line = h.0; its-cell = y.cell; won = y.won; report = y.report; event = y.event; yes = y.yes; names = y.names }

begin-leaves : (s : State) (p : List ℕ) (t : ℕ) {f : After} → Began s p t f → f.state.current ≡ s.current
begin-leaves s p t (declines n) = refl
begin-leaves s p t (starts q h) = refl

drop-leaves : (s : State) (p : List ℕ) (t : ℕ) {f : After} → Dropped s p t f → f.state.current ≡ s.current
drop-leaves s p t (keeps n) = refl
drop-leaves s p t leaves = refl

-- In any state whatever: where an action makes a cell name another block, it is a step at line 30 on that cell that wins its attempt and answers
-- yes, and the cell then names the block that the task has taken.
pub replacements_are_won : (now : Pool) (action : Action) (cell : ℕ) → current (pool now action).0.0 cell ≢ current now.0 cell → Replaces now action cell
replacements_are_won x (begin t op) k d = absurd (d (ap (λ (l : List ℕ). get_or l k 0) (begin-leaves x.0 x.1 t (begin-cases x.0 x.1 t op))))
replacements_are_won x (step t) k d = step_replaces x.0 x.1 t k d
replacements_are_won x (drop t) k d = absurd (d (ap (λ (l : List ℕ). get_or l k 0) (drop-leaves x.0 x.1 t (drop-cases x.0 x.1 t))))

-- FROM AN OPENING

module _ {n v : ℕ} {x : Pool} {w : World} (g : Together n v x w) (i : Reachable v w) (t : ℕ) where
  abbrev q : Record
  q = w.records t

  abbrev its : Record
  its = record_at x.0.records t

  module _ (l : t < n) where
    same-its : its ≡ named-as q its.held its.taken
    same-its = (g.agree.records t l).same

    module _ (e : line_of its ≡ l30) (z : its.line ≡ 30) where
      cell_below : its.cell < v
      cell_below = go (g.well [] t)
        where
          go : WellRecord v q → its.cell < v
          go (inl y) = absurd (let h : ◌≡◌ {A = ℕ} 0 30 = sym (ap (λ (r : Record). r.line) (same-its ∙ ap (λ (r : Record). named-as r its.held its.taken) y)) ∙ z in omega arith)
          go (inr y) = subst (λ k. k < v) (sym (ap (λ (r : Record). r.cell) same-its)) y.cell

      -- the block that it has taken is not the cell's
      other : its.taken ≢ current x.0 its.cell
      other y =
          let k : its.cell ≡ q.cell = ap (λ (r : Record). r.cell) same-its in
          let at : line_of q ≡ l30 = sym (ap line_of same-its) ∙ e in
          let line : q.line ≡ 30 = sym (ap (λ (r : Record). r.line) same-its) ∙ z in
          let fresh = (subst (λ ℓ. TaskOf (view w i.ghost q.cell) (knows v w i) t ℓ q) at (reached-task v w i t (omega (arith, l, g.agree.sizes.tasks_too)))).fresh tt in
          let mine : g.R q.cell q.taken its.taken X = (g.agree.records t l).taken X (rw line tt) in
          let its_own : g.R q.cell (w.cell q.cell).current its.taken X = subst (λ b. g.R q.cell (w.cell q.cell).current b X) (sym (y ∙ ap (current x.0) k)) (g.agree.current q.cell (subst (λ k. k < v) k cell_below) X) in
          fresh.other (g.agree.blocks.same q.cell q.taken its.taken q.cell (w.cell q.cell).current X X mine its_own).1

      at_30 : wins_of (event_of (tries_at x.0 x.1 t l30) (ran_at x.0 x.1 t l30).outcome) ≡ 1 → current (ran_at x.0 x.1 t l30).state its.cell ≢ current x.0 its.cell
      at_30 = by_test (λ (m : Touched). wins_of (event_of (found m.value) (outcome_of (next_at l30 t (counted its (found m.value)) m.value))) ≡ 1 → get_or (set x.0.current its.cell m.current) its.cell 0 ≢ current x.0 its.cell)
          (eqb (current x.0 its.cell) its.held) (touched x.1 its.taken x.0.last 1) (touched x.1 (current x.0 its.cell) x.0.last 0)
          (λ c h y. other (sym (get_or-set_same x.0.current its.cell its.taken 0 (omega (arith, cell_below, g.agree.places))) ∙ y))
          (λ c h. absurd (omega arith))

  changes : its.line ≡ 30 → {f : After} → Stepped x.0 x.1 t f → wins_of (event_of (tries_at x.0 x.1 t (line_of its)) f.outcome) ≡ 1 → current f.state its.cell ≢ current x.0 its.cell
  changes z (refuses n) h = absurd (omega arith)
  changes z (runs y) h =
      let e : line_of its ≡ l30 = same-is (line_of its) l30 (lies_in (is 30) (λ ℓ. same ℓ l30) tt (line_of its) (rw (sym y.line ∙ z) tt)) in
      subst (λ ℓ. wins_of (event_of (tries_at x.0 x.1 t ℓ) (ran_at x.0 x.1 t ℓ).outcome) ≡ 1 → current (ran_at x.0 x.1 t ℓ).state its.cell ≢ current x.0 its.cell) (sym e) (at_30 (omega (arith, y.task, g.agree.sizes.same-tasks)) e z) h

module _ (old : State) (words : List ℕ) (tasks cells blocks : ℕ) (values : List ℕ) (allowed : refusal (open_questions (length words) tasks cells blocks values) ≡ none) (actions : List Action) where
  -- From an opening that is not refused, after any list of actions, a step at line 30 that wins its attempt makes its cell name another block.
  pub won_replaces : (task : ℕ) → let now = run pool (start old words tasks cells blocks values) actions in let r = record_at now.0.records task in
      r.line ≡ 30 → wins_of (pool now (step task)).1 ≡ 1 → current (pool now (step task)).0.0 r.cell ≢ current now.0 r.cell
  won_replaces t z = let now = run pool (start old words tasks cells blocks values) actions in
      changes (together old words tasks cells blocks values allowed actions) (reachable tasks cells values (starting_values old words tasks cells blocks values allowed) actions) t z (step-cases now.0 now.1 t)
