-- Each action keeps the agreement, and pool and figure give the same event.
use mathlib.Core.Path.{◌≡◌, refl, sym, ap, ◌∙◌, subst}
use mathlib.Core.Bool.{Bool, true, false, ◌&&◌, ◌||◌, cond, not, false≢true}
use mathlib.Core.Logic.{inl, inr}
use mathlib.Core.Option.{Option, none, some}
use mathlib.Core.List.{List, [], ◌∷◌}
use Prim.Native.Nat.{ℕ, ◌<◌}
use lib.Dec.{eqb, ltb, T}
use borrow.Author.Tests.{eqb-true, ltb-true}
use Rattle.figure_lines.specs.declared.Record.{Record}
use Rattle.figure_lines.specs.declared.Field.{Field}
use Rattle.cells_spec.specs.declared.State.{State}
use Rattle.cells_spec.specs.Answers.{Said, Refused, Acted}
use Rattle.figure_lines.specs.Answers.{Next}
use Rattle.figure_lines.specs.Basics.{ands}
use Rattle.figure_lines.specs.Record.{no_value, idle, is_idle, record_at}
use Rattle.figure_lines.specs.Lines.{line_of, access_of, counted}
use Rattle.cells_spec.specs.Questions.{Question, refusal, reads, swaps, counts_true, fit, answers}
use Rattle.cells_spec.specs.Open.{After, unless}
use Rattle.figure_lines.specs.Record.{first_read, first_swap}
use Rattle.cells_spec.specs.Begin.{read_begun, swap_begun, started}
use Rattle.cells_spec.specs.Blocks.{Spare, unused, is_found}
use Rattle.cells_spec.specs.Memory.{Touched, performed}
use Rattle.cells_spec.specs.Turn.{ending, record_after, outcome_of}
use Rattle.cells_spec.specs.Step.{current, with_blocks, put_back, tried_at, ran, step_asks, stepped}
use Rattle.cells_spec.specs.Drop.{call_withdrawn, dropped}
use Rattle.cells_spec.proofs.Tests.{nth, all_yes, implied}
use Rattle.cells_spec.proofs.Numbers.{number, at-number}
use Rattle.cells_spec.proofs.Unused.{Found, one_is_unused}
use Rattle.history_spec.specs.History.{Op, read, swap, begin, step, drop, Attempt, untried, Event}
use Rattle.figure_cell.specs.Memory.{Cell, access_cell}
use Rattle.figure.specs.Figure.{World, with_both, world_after, figure, WorldAfter, figure_begun, figure_dropped, figure_ran, figure_stepped, unless_refused, with_task, tried_in}
use Rattle.cells_spec.specs.Events.{event_of}
use Rattle.cells_spec.specs.Machine.{Pool, pool}
use Rattle.cells_theorems.specs.Terms.{named}
use Rattle.figure.proofs.Records.{Busy, WellRecord}
use Rattle.cells_theorems.proofs.Agree.{Links, Whole, Agree, Task, holds_at, stored_before, no_blocks, records_change, counts_change}
use Rattle.cells_theorems.proofs.Memory.{with_cell}
use Rattle.cells_theorems.proofs.Fits.{fits}
use Rattle.cells_theorems.proofs.Access.{performs, same_attempt}
use Rattle.cells_theorems.proofs.Lines.{Has, linked, Nexts, going, ended, nexts}

pub record Same (n v : ℕ) (x : Pool × Event) (y : World × Event) : Type 1 where
  pub R : Links
  pub agree : Agree n v R x.0.0 x.0.1 y.0
  pub event : x.1 ≡ y.1

abbrev gives : (Said → Event) → After → Pool × Event
gives e r = ((r.state, r.pool), e r.outcome)

abbrev figure_gives : (Said → Event) → WorldAfter → World × Event
figure_gives e r = (r.world, e r.outcome)

-- what follows a line, in the pool and in the figure
finishes : {n v : ℕ} {R : Links} (s : State) (m : Touched) (w : World) (r₀ : Record) (t : ℕ) (x : Attempt) (c : Cell) {X Y : Next} → Agree n v R (with_blocks s r₀.cell m.current m.last) m.pool (with_cell w r₀.cell c) → t < n → Nexts R X Y
    → Same n v (gives (event_of x) (put_back s t r₀ (ending m X))) (figure_gives (event_of x) (world_after (with_both w r₀.cell c t (record_after Y)) (outcome_of Y)))
finishes {R = R} s m w r₀ t x c a l (going {r} {q} e) = record { R = R; agree = counts_change (records_change a t r q l e) _; event = refl }
finishes {R = R} s m w r₀ t x c a l ended = record { R = R; agree = counts_change (records_change a t idle idle l (no_blocks idle tt)) _; event = refl }

module _ {n v : ℕ} {R : Links} {s : State} {p : List ℕ} {w : World} (a : Agree n v R s p w) (well : (t : ℕ) → WellRecord v (w.records t)) (true_counts : counts_true s ≡ true) (spare : Spare s) (t : ℕ) where
  -- THE QUESTIONS

  -- the task's records
  abbrev r : Record
  r = record_at s.records t

  abbrev q : Record
  q = w.records t

  -- after 6 and 7, which every action asks, those of the action: by the number of cells and whether the task is idle
  module _ (rest : ℕ → Bool → List Question) where
    abbrev questions : List Question
    questions = (7, ltb t n) ∷ rest v (is_idle q)

    abbrev answered : Option ℕ
    answered = refusal ((6, fit s p) ∷ (7, ltb t s.tasks) ∷ rest s.cells (is_idle r))

    abbrev figure_answered : Option ℕ
    figure_answered = refusal ((7, ltb t w.tasks) ∷ rest w.cells (is_idle q))

    same-refusal : answered ≡ refusal questions
    same-refusal = rw (fits a well true_counts, a.sizes.same-tasks, a.sizes.same-cells) (go (ltb t n) refl)
      where
        go : (x : Bool) → ltb t n ≡ x → cond x (refusal (rest v (is_idle r))) (some 7) ≡ cond x (refusal (rest v (is_idle q))) (some 7)
        go true e = ap (λ (r : Record). refusal (rest v (is_idle r))) (a.records t (ltb-true t n e)).same
        go false e = refl

    figures_refusal : figure_answered ≡ refusal questions
    figures_refusal = rw (a.sizes.tasks_too, a.sizes.cells_too)

    -- both refuse, with the same number, or both act
    asked : (e e' : Said → Event) (X : After) (Y : WorldAfter) → ((r : ℕ) → e (Refused r) ≡ e' (Refused r)) → (t < n → ands (answers questions) ≡ true → Same n v (gives e X) (figure_gives e' Y))
        → Same n v (gives e (unless answered s p X)) (figure_gives e' (unless_refused figure_answered w Y))
    asked e e' X Y same f = rw (same-refusal, figures_refusal) (go (refusal questions) refl)
      where
        go : (o : Option ℕ) → refusal questions ≡ o → Same n v (gives e (unless o s p X)) (figure_gives e' (unless_refused o w Y))
        go none g = let yes = all_yes questions g in f (ltb-true t n (nth (answers questions) yes 0)) yes
        go (some r) g = record { R = R; agree = a; event = same r }

  -- A STEP

  pub found : t < n → r.line ≡ 4 → Found s (unused s)
  found l e = one_is_unused s p t (fits a well true_counts) spare (rw a.sizes.same-tasks l) e

  -- so question 20 is answered yes
  pub yes_20 : t < n → (not (eqb r.line 4) || is_found (unused s)) ≡ true
  yes_20 l = implied (eqb r.line 4) (is_found (unused s)) (λ e. ap is_found (found l (eqb-true r.line 4 e)).1)

  asks_no_20 : refusal (step_asks s p t) ≡ answered (λ v i. (11, not i) ∷ [])
  asks_no_20 = go (fit s p) (ltb t s.tasks) (not (is_idle r)) (not (eqb r.line 4) || is_found (unused s)) (λ y. yes_20 (rw (← a.sizes.same-tasks) (ltb-true t s.tasks y)))
    where
      go : (x y z u : Bool) → (y ≡ true → u ≡ true) → refusal ((6, x) ∷ (7, y) ∷ (11, z) ∷ (20, u) ∷ []) ≡ refusal ((6, x) ∷ (7, y) ∷ (11, z) ∷ [])
      go x true z u h = rw (h refl)
      go x false z u h = refl

  module _ (l : t < n) (h k : ℕ) (e : r ≡ named q h k) (y : Busy v q) where
    busy-step : Same n v (gives (event_of (tried_at s p t (named q h k))) (ran s p t (named q h k))) (figure_gives (event_of (tried_in w t q)) (figure_ran w t q))
    unfolding ran figure_ran
    busy-step =
        let at = at-number q y.line in
        let task : Task R (named q h k) q = subst (λ (r : Record). Task R r q) e (a.records t l) in
        let has : Has R s q h k (line_of q) = record {
          held = subst (λ (n : ℕ). T (holds_at n) → Whole R q.cell q.held h) at task.held;
          taken = subst (λ (n : ℕ). (f : Field) → T (stored_before n f) → R q.cell q.taken k f) at task.taken;
          found = λ g. found l (ap (λ (r : Record). r.line) e ∙ at ∙ g);
        } in
        let accesses = linked R s q h k t (reads q) (swaps q) (line_of q) y.line has in
        let m = performed p (current s q.cell) s.last (unused s) (access_of t (named q h k)) in
        let m' = access_cell (w.cell q.cell) (access_of t q) in
        let done = performs a q.cell y.cell accesses in
        let R⁺ = done.R in
        let task⁺ : Task R⁺ (named q h k) q = subst (λ (r : Record). Task R⁺ r q) e (done.agree.records t l) in
        let held : T (holds_at (number (line_of q))) → Whole R⁺ q.cell q.held h = subst (λ (n : ℕ). T (holds_at n) → Whole R⁺ q.cell q.held h) at task⁺.held in
        let taken : (f : Field) → T (stored_before (number (line_of q)) f) → R⁺ q.cell q.taken k f = subst (λ (n : ℕ). (f : Field) → T (stored_before n f) → R⁺ q.cell q.taken k f) at task⁺.taken in
        rw (same_attempt R⁺ m.value m'.value accesses done.answer)
        (finishes s m w (named q h k) t (tried_in w t q) m'.cell done.agree l (nexts R⁺ (counted q (tried_in w t q)) h k q refl t m.value m'.value (reads q) (swaps q) (line_of q) y.line held taken done.answer))

  busy : WellRecord v q → not (is_idle q) ≡ true → Busy v q
  busy (inl e) g = absurd (false≢true (rw e at g))
  busy (inr y) g = y

  step-acts : t < n → not (is_idle q) ≡ true → Same n v (gives (event_of (tried_at s p t r)) (ran s p t r)) (figure_gives (event_of (tried_in w t q)) (figure_ran w t q))
  step-acts l g =
      let e = (a.records t l).same in
      subst (λ (r : Record). Same n v (gives (event_of (tried_at s p t r)) (ran s p t r)) (figure_gives (event_of (tried_in w t q)) (figure_ran w t q))) (sym e) (busy-step l r.held r.taken e (busy (well t) g))

  pub steps : Same n v (pool (s, p) (step t)) (figure w (step t))
  unfolding stepped figure_stepped
  steps = rw asks_no_20 (asked (λ v i. (11, not i) ∷ []) (event_of (tried_at s p t r)) (event_of (tried_in w t q)) (ran s p t r) (figure_ran w t q) (λ _. refl) (λ l g. step-acts l (nth (ltb t n ∷ not (is_idle q) ∷ []) g 1)))

  -- A BEGIN

  begins_alike : (r : Record) → T (not (holds_at r.line)) → t < n → Same n v (gives (event_of untried) (started s p t r)) (figure_gives (event_of untried) (world_after (with_task w t r) Acted))
  begins_alike r x l = record { R = R; agree = records_change a t r r l (no_blocks r x); event = refl }

  at_first : (c : Bool) → T (not (holds_at (cond c 10 15)))
  at_first true = tt
  at_first false = tt

  pub begins : (op : Op) → Same n v (pool (s, p) (begin t op)) (figure w (begin t op))
  unfolding read_begun swap_begun figure_begun
  begins (read k) = asked (λ v i. (8, ltb k v) ∷ (9, i) ∷ []) (event_of untried) (event_of untried) _ _ (λ _. refl) (λ l _. begins_alike (first_read k) tt l)
  begins (swap k e x) = asked (λ v i. (8, ltb k v) ∷ (9, i) ∷ (10, not (eqb e no_value) && not (eqb x no_value)) ∷ []) (event_of untried) (event_of untried) _ _ (λ _. refl) (λ l _. begins_alike (first_swap k e x) (at_first (eqb e x)) l)

  -- A DROP: both records are idle, and refer to no block

  pub drops : Same n v (pool (s, p) (drop t)) (figure w (drop t))
  unfolding dropped figure_dropped
  drops = asked (λ v i. (11, not i) ∷ []) (event_of untried) (event_of untried) (call_withdrawn s p t) (world_after (with_task w t idle) Acted) (λ _. refl)
      (λ l g. record { R = R; agree = counts_change (records_change a t idle idle l (no_blocks idle tt)) _; event = refl })
