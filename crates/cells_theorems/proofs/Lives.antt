-- For each life of a block at most one deciding attempt is won: a won one leaves the block decided, and nobody has taken it.
use mathlib.Core.Path.{◌≡◌, refl, sym, ap, subst, ◌∙◌}
use mathlib.Core.Logic.{◌≢◌, ◌⊎◌, inl, inr}
use mathlib.Core.Bool.{Bool, true, false, ◌&&◌, false≢true, and-eq-true_iff}
use mathlib.Core.Option.{none}
use mathlib.Core.List.{List, [], ◌∷◌}
use Prim.Native.Nat.{ℕ, suc, ◌+◌, ◌*◌, ◌≤◌, ◌<◌}
use native.Mathlib.Omega.{arith}
use lib.Dec.{eqb, T}
use lib.ListN.{set, length}
use borrow.Author.Tests.{eqb-true}
use Rattle.figure_lines.specs.declared.Record.{Record}
use Rattle.cells_spec.specs.declared.State.{State}
use Rattle.figure_lines.specs.declared.Field.TheVariants.{X, D}
use Rattle.figure_lines.specs.Record.{no_value, record_at, idle}
use Rattle.figure_lines.specs.Lines.{Line, Wanted, for13, for25, for28, l2, line_of, found}
use Rattle.cells_spec.specs.Questions.{refusal, open_questions, taken_before, has_taken}
use Rattle.cells_spec.proofs.Numbers.{number, at-number}
use Rattle.cells_spec.specs.Pool.{word, set_word}
use Rattle.cells_spec.specs.Answers.{Said, Refused, Acted, Ended}
use Rattle.cells_spec.specs.Open.{After}
use Rattle.cells_spec.specs.Memory.{Touched, touched}
use Rattle.cells_spec.specs.Step.{current}
use Rattle.cells_spec.specs.Drop.{dropped}
use Rattle.cells_spec.specs.Events.{event_of}
use Rattle.cells_spec.specs.Machine.{Pool, begins, pool}
use Rattle.cells_spec.proofs.Words.{set_here}
use Rattle.history_spec.specs.Basics.{◌∈◌}
use Rattle.history_spec.specs.History.{Action, begin, step, drop, untried, wins, run}
use Rattle.history_spec.proofs.ListTests.{has, has_in, by_test}
use Rattle.cells_spec.specs.Turn.{record_after}
use Rattle.figure.specs.Figure.{World, figure, opening}
use Rattle.figure_cell.proofs.LineLaws.{same, same-is}
use Rattle.figure_cell.proofs.Classes.{is, taking, holding, lies_in}
use Rattle.figure.proofs.Records.{WellRecord}
use Rattle.figure_cell.proofs.Invariant as Invariant
use Rattle.figure_moments.proofs.Reachable.{Reachable, reached-task, reached_unheld, next_reachable, opening_reachable}
use Rattle.cells_theorems.specs.Terms.{start}
use Rattle.cells_theorems.specs.Attempts.{wins_of, wins_decision, takes, tallied, decisions}
use Rattle.cells_theorems.proofs.Memory.{in_pool_lem}
use Rattle.cells_theorems.proofs.Refines.{Together, together}
use Rattle.cells_theorems.proofs.Demand3.{starting_values}
use Rattle.cells_theorems.proofs.Stepped.{set_either, touched_at, tries_at, following, ran_at, Runs, Stepped, refuses, runs, step-cases, begin-cases, drop-cases}
use Rattle.cells_theorems.proofs.Deciding.{Kept, begin_keeps, step_keeps, drop_keeps}

-- A WON DECISION

module _ (s : State) (p : List ℕ) (t b : ℕ) where
  abbrev r : Record
  r = record_at s.records t

  -- the step that leaves f wins the decision at b
  abbrev wins_by : After → Bool
  wins_by f = eqb r.line 2 && (eqb r.held b && eqb (wins_of (event_of (tries_at s p t (line_of r)) f.outcome)) 1)

  record Decides (f : After) : Type 0 where
    runs_on : Runs s p t
    line : number (line_of r) ≡ 2
    held : r.held ≡ b
    undecided : word p b D ≡ no_value
    stored : f.pool ≡ set_word p b D r.loaded
    same-tasks : f.state.tasks ≡ s.tasks
    next : Record
    next-line : next.line ≡ 3
    records : f.state.records ≡ set s.records t next

  line_2 : (ℓ : Line) → number ℓ ≡ 2 → (w : Wanted) × (ℓ ≡ l2 w)
  line_2 ℓ e = go (has_in same same-is (l2 for13 ∷ l2 for25 ∷ l2 for28 ∷ []) ℓ (lies_in (is 2) (has same (l2 for13 ∷ l2 for25 ∷ l2 for28 ∷ [])) tt ℓ (rw e tt)))
    where
      go : ℓ ∈ (l2 for13 ∷ l2 for25 ∷ l2 for28 ∷ []) → (w : Wanted) × (ℓ ≡ l2 w)
      go (inl e) = (for13, e)
      go (inr (inl e)) = (for25, e)
      go (inr (inr (inl e))) = (for28, e)
      go (inr (inr (inr x3))) = elim x3 [ ]

  -- line 2 won: D was none, and is what the task loaded
  at_2 : (w : Wanted) → wins_of (event_of (tries_at s p t (l2 w)) (ran_at s p t (l2 w)).outcome) ≡ 1 → (word p r.held D ≡ no_value) × ((touched_at s p t (l2 w)).pool ≡ set_word p r.held D r.loaded)
  at_2 w = by_test (λ (m : Touched). wins (found m.value) ≡ 1 → (word p r.held D ≡ no_value) × (m.pool ≡ set_word p r.held D r.loaded))
      (eqb (word p r.held D) no_value) (touched (set_word p r.held D r.loaded) (current s r.cell) s.last 1) (touched p (current s r.cell) s.last 0)
      (λ z h. (eqb-true _ _ z, refl)) (λ z h. absurd (omega arith))

  decides : {f : After} → Stepped s p t f → wins_by f ≡ true → Decides f
  decides (refuses n) e = absurd (go (eqb r.line 2) (eqb r.held b) e)
    where
      go : (x y : Bool) → (x && (y && false)) ≡ true → ⊥
      go true true e = false≢true e
      go true false e = false≢true e
      go false y e = false≢true e
  decides (runs y) e =
      let k = (and-eq-true_iff (eqb r.line 2) (eqb r.held b && eqb (wins_of (event_of (tries_at s p t (line_of r)) (ran_at s p t (line_of r)).outcome)) 1)).0 e in
      let m = (and-eq-true_iff (eqb r.held b) (eqb (wins_of (event_of (tries_at s p t (line_of r)) (ran_at s p t (line_of r)).outcome)) 1)).0 k.1 in
      let held : r.held ≡ b = eqb-true _ _ m.0 in
      let two : number (line_of r) ≡ 2 = sym y.line ∙ eqb-true _ _ k.0 in
      let at = line_2 (line_of r) two in
      let won = subst (λ ℓ. wins_of (event_of (tries_at s p t ℓ) (ran_at s p t ℓ).outcome) ≡ 1 → (word p r.held D ≡ no_value) × ((touched_at s p t ℓ).pool ≡ set_word p r.held D r.loaded)) (sym at.1) (at_2 at.0) (eqb-true _ _ m.1) in
      record {
        runs_on = y;
        line = two;
        held = held;
        undecided = subst (λ b. word p b D ≡ no_value) held won.0;
        stored = won.1 ∙ ap (λ b. set_word p b D r.loaded) held;
        same-tasks = refl;
        next = _;
        next-line = subst (λ ℓ. (record_after (following s p t ℓ)).line ≡ 3) (sym at.1) refl;
        records = refl;
      }

-- FROM AN OPENING

module _ {n v : ℕ} {x : Pool} {w : World} (g : Together n v x w) (i : Reachable v w) where
  abbrev pools : ℕ → Record
  pools u = record_at x.0.records u

  -- the record of a task is the figure's but for block numbers, and has its line's number
  same_line : (u : ℕ) → u < n → (pools u).line ≡ (w.records u).line
  same_line u l = ap (λ (r : Record). r.line) (g.agree.records u l).same

  is-taking : (u : ℕ) → T (taken_before (w.records u).line) → T (taking (line_of (w.records u)))
  is-taking u h = go (g.well [] u)
    where
      go : WellRecord v (w.records u) → T (taking (line_of (w.records u)))
      go (inl e) = absurd (rw e at h)
      go (inr y) = rw (at-number (w.records u) y.line) at h

  -- a block that a task holds at line 2 nobody has taken
  module _ (t : ℕ) (y : Runs x.0 x.1 t) (two : number (line_of (pools t)) ≡ 2) where
    abbrev q : Record
    q = w.records t

    l : t < n
    l = omega (arith, y.task, g.agree.sizes.same-tasks)

    at-two : number (line_of q) ≡ 2
    at-two = sym (ap (λ (r : Record). number (line_of r)) (g.agree.records t l).same) ∙ two

    held_link : g.R q.cell q.held (pools t).held X
    held_link = let e : q.line ≡ 2 = sym (same_line t l) ∙ (y.line ∙ two) in (g.agree.records t l).held (rw e tt) X

    is_holding : T (holding (line_of q))
    is_holding = lies_in (is 2) holding tt (line_of q) (rw at-two tt)

    nobody : (u : ℕ) → u < n → T (has_taken (pools u)) → (pools u).taken ≢ (pools t).held
    nobody u m h e =
        let k = w.records u in
        let z : T (taken_before k.line) = rw (same_line u m) at h in
        let taken : g.R k.cell k.taken (pools t).held X = subst (λ b. g.R k.cell k.taken b X) e ((g.agree.records u m).taken X z) in
        let one = g.agree.blocks.same k.cell k.taken (pools t).held q.cell q.held X X taken held_link in
        reached_unheld v w i u t (omega (arith, m, g.agree.sizes.tasks_too)) (omega (arith, l, g.agree.sizes.tasks_too)) (sym one.0) (is-taking u z) is_holding one.1

    -- what it is about to decide is a value
    loaded-some : (pools t).loaded ≢ no_value
    unfolding Invariant.none
    loaded-some e = (reached-task v w i t (omega (arith, l, g.agree.sizes.tasks_too))).planned.plan_some (rw at-two tt) (sym (ap (λ (r : Record). r.loaded) (g.agree.records t l).same) ∙ e)

  -- so a won decision leaves its block decided, and nobody has taken it
  kept-now : (t b : ℕ) {f : After} → Decides x.0 x.1 t b f → Kept (f.state, f.pool) b
  kept-now t b {f} d =
      let there = in_pool_lem g.agree (pools t).held (g.agree.blocks.below _ _ _ X (held_link t d.runs_on d.line)) in
      record {
        decided = λ e. loaded-some t d.runs_on d.line (sym (set_here x.1 b D (pools t).loaded D (subst (λ b. 5 * b + 4 < length x.1) d.held there)) ∙ (ap (λ p. word p b D) (sym d.stored) ∙ e));
        untaken = λ u m. subst (λ (rs : List Record). T (has_taken (record_at rs u)) → (record_at rs u).taken ≢ b) (sym d.records) (go u (rw d.same-tasks at m) (set_either x.0.records t d.next idle u));
      }
    where
      go : (u : ℕ) → u < x.0.tasks → let now = record_at (set x.0.records t d.next) u in ((u ≡ t) × (now ≡ d.next)) ⊎ (now ≡ pools u) → T (has_taken now) → now.taken ≢ b
      go u m (inl (e, k)) = λ h. absurd (rw d.next-line at (subst (λ (r : Record). T (has_taken r)) k h))
      go u m (inr k) = subst (λ (r : Record). T (has_taken r) → r.taken ≢ b) (sym k) (λ h z. nobody t d.runs_on d.line u (omega (arith, m, g.agree.sizes.same-tasks)) h (z ∙ sym d.held))

-- COUNTING

-- none in this life so far; or one, and then the block is decided and nobody has taken it
abbrev AtMostOnce : Pool → (block number : ℕ) → Type 0
AtMostOnce x b m = (m ≡ 0) ⊎ ((m ≡ 1) × Kept x b)

module _ {n v : ℕ} {x : Pool} {w : World} (g : Together n v x w) (i : Reachable v w) (b : ℕ) where
  never : (c d : Bool) (o : Said) → (c && (d && eqb (wins_of (event_of untried o)) 1)) ≡ false
  never true true (Refused k) = refl
  never true true Acted = refl
  never true true (Ended f) = refl
  never true false o = refl
  never false d o = refl

  -- whatever the action, by whether it takes the block and whether it wins a decision at it
  on : (y : Pool) (taken won : Bool) (m : ℕ) → (won ≡ true → Kept y b) → (Kept x b → won ≡ true → ⊥) → (Kept x b → taken ≡ false → Kept y b) → AtMostOnce x b m → AtMostOnce y b (tallied taken won m)
  on y true won m now not-twice stays c = inl refl
  on y false true m now not-twice stays (inl e) = inr (ap suc e, now refl)
  on y false true m now not-twice stays (inr (e, k)) = absurd (not-twice k refl)
  on y false false m now not-twice stays (inl e) = inl e
  on y false false m now not-twice stays (inr (e, k)) = inr (e, stays k refl)

  counted_on : (a : Action) (m : ℕ) → AtMostOnce x b m → AtMostOnce (pool x a).0 b (tallied (takes x a b) (wins_decision x a b) m)
  counted_on (begin t op) m =
      let r = record_at x.0.records t in
      let no : wins_decision x (begin t op) b ≡ false = never (eqb r.line 2) (eqb r.held b) (begins x.0 x.1 t op).outcome in
      on (pool x (begin t op)).0 (takes x (begin t op) b) (wins_decision x (begin t op) b) m (λ e. absurd (false≢true (sym no ∙ e))) (λ k e. false≢true (sym no ∙ e)) (λ k e. begin_keeps x.0 x.1 t b k (begin-cases x.0 x.1 t op))
  counted_on (drop t) m =
      let r = record_at x.0.records t in
      let no : wins_decision x (drop t) b ≡ false = never (eqb r.line 2) (eqb r.held b) (dropped x.0 x.1 t).outcome in
      on (pool x (drop t)).0 (takes x (drop t) b) (wins_decision x (drop t) b) m (λ e. absurd (false≢true (sym no ∙ e))) (λ k e. false≢true (sym no ∙ e)) (λ k e. drop_keeps x.0 x.1 t b k (drop-cases x.0 x.1 t))
  counted_on (step t) m =
      let f = step-cases x.0 x.1 t in
      on (pool x (step t)).0 (takes x (step t) b) (wins_decision x (step t) b) m
      (λ e. kept-now g i t b (decides x.0 x.1 t b f e)) (λ k e. k.decided (decides x.0 x.1 t b f e).undecided) (λ k e. step_keeps x.0 x.1 t b k f e)

-- pool and figure together, for as long as they run on
few : {n v : ℕ} (l : List Action) (x : Pool) (w : World) (m : ℕ → ℕ) (b : ℕ) → ((l : List Action) → Together n v (run pool x l) (run figure w l)) → Reachable v w → AtMostOnce x b (m b) → decisions x m l b ≤ 1
few [] x w m b g i c = go c
  where
    go : AtMostOnce x b (m b) → m b ≤ 1
    go (inl e) = omega arith
    go (inr (e, k)) = omega arith
few {v = v} (a ∷ l) x w m b g i c = few l (pool x a).0 (figure w a).0 (λ b. tallied (takes x a b) (wins_decision x a b) (m b)) b (λ l. g (a ∷ l)) (next_reachable v w i a) (counted_on (g []) i b a (m b) c)

-- From an opening that is not refused, for every list of actions: of each block at most one deciding attempt was won since it was taken last.
pub one_decision_a_life : (old : State) (words : List ℕ) (tasks cells blocks : ℕ) (values : List ℕ) → refusal (open_questions (length words) tasks cells blocks values) ≡ none → (actions : List Action) (block : ℕ)
    → decisions (start old words tasks cells blocks values) (λ b. 0) actions block ≤ 1
one_decision_a_life old words tasks cells blocks values allowed actions block =
    few actions (start old words tasks cells blocks values) (opening tasks cells values) (λ b. 0) block (together old words tasks cells blocks values allowed)
    (opening_reachable tasks cells values (starting_values old words tasks cells blocks values allowed)) (inl refl)
