-- A task whose step ended a call can begin another on the same cell at once: on the figure, and so in the pool.
use mathlib.Core.Path.{◌≡◌, refl, sym, ap, ◌∙◌, subst}
use mathlib.Core.Logic.{inl, inr}
use mathlib.Core.Bool.{Bool, true, false, cond}
use mathlib.Core.Option.{none, some}
use mathlib.Core.List.{List, [], ◌∷◌, ◌++◌}
use Prim.Native.Nat.{ℕ, ◌<◌}
use native.Mathlib.Omega.{arith}
use lib.Dec.{eqb}
use lib.ListN.{length}
use borrow.Author.Tests.{lt-ltb, ne_eqb}
use Rattle.figure_lines.specs.declared.Record.{Record}
use Rattle.figure_lines.specs.Record.{no_value, is_idle, op_of}
use Rattle.cells_spec.specs.declared.State.{State}
use Rattle.cells_spec.specs.Questions.{refusal, open_questions}
use Rattle.history_spec.specs.History.{Op, read, swap, cell_of, begin, step, Attempt, untried, Report, Event, accepted, answered, run}
use Rattle.history_spec.proofs.Basics.{clash, some_inj, upd_same}
use Rattle.history_linearization.proofs.Simulation.{Tally, Ends, Follows}
use Rattle.cells_spec.specs.Machine.{Pool, pool}
use Rattle.figure.specs.Figure.{World, figure, figure_begun, opening}
use Rattle.figure.proofs.Records.{AllOnPath, OnPath, act_sizes, run_on_path, opening_on_path}
use Rattle.figure.proofs.Tallies.{tally, tally_of, doing, was_doing, follows}
use Rattle.cells_theorems.specs.Terms.{start}
use Rattle.cells_theorems.proofs.Refines.{together}
use Rattle.cells_theorems.proofs.Traces.{same-event}
use Rattle.adds_spec.proofs.Reached.{Below, Continues}
use Rattle.adds_spec.proofs.Plays.{run_append}

begins : (w : World) (t : ℕ) (op : Op) → t < w.tasks → cell_of op < w.cells → is_idle (w.records t) ≡ true → Below no_value op → (figure w (begin t op)).1 ≡ accepted untried
unfolding figure_begun
begins w t (read k) a b c d = rw (lt-ltb t w.tasks a, lt-ltb k w.cells b, c)
begins w t (swap k e n) a b c d = rw (lt-ltb t w.tasks a, lt-ltb k w.cells b, c, ne_eqb e no_value (λ z. omega (arith, d.0)), ne_eqb n no_value (λ z. omega (arith, d.1)))

op-cell : (q : Record) → cell_of (op_of q) ≡ q.cell
op-cell q = go (eqb q.kind 1)
  where
    go : (b : Bool) → cell_of (cond b (read q.cell) (swap q.cell q.expected q.new)) ≡ q.cell
    go true = refl
    go false = refl

no_tally : (q : Record) → tally_of q ≡ none → is_idle q ≡ true
no_tally q = go (is_idle q)
  where
    go : (b : Bool) → cond b none (some (tally q)) ≡ none → b ≡ true
    go true e = refl
    go false e = absurd (clash e refl)

module _ (w : World) (p : AllOnPath w) (t : ℕ) (x : Attempt) (r : Report) (op : Op) (e : (figure w (step t)).1 ≡ answered x r) (k : cell_of op ≡ r.cell) (below : Below no_value op) where
  abbrev w' : World
  w' = (figure w (step t)).0

  ended : Ends doing w w' t x r
  ended = subst (λ (e : Event). Follows doing w.cells w (step t) w' e) e (follows w p (step t))

  there : (t < w.tasks) × (r.cell < w.cells)
  there = go (p t).1
    where
      go : OnPath w.tasks w.cells t (p t).0 (w.records t) → (t < w.tasks) × (r.cell < w.cells)
      go (inl i) = absurd (clash (ap tally_of i.0) ended.was)
      go (inr (m, o)) = (m, subst (λ (n : ℕ). n < w.cells) (sym (ended.cell ∙ ap (λ (n : Tally). cell_of n.op) (sym (some_inj (was_doing w.cells (p t).0 (w.records t) o) ended.was)) ∙ op-cell (w.records t))) o.cell)

  figure_continues : (figure w' (begin t op)).1 ≡ accepted untried
  figure_continues =
      let s = act_sizes w (step t) in
      begins w' t op (omega (arith, there.0, s.0)) (omega (arith, there.1, s.1, k)) (no_tally (w'.records t) (ended.rest t ∙ upd_same (doing w) t none)) below

module _ (old : State) (words : List ℕ) (tasks cells blocks : ℕ) (values : List ℕ) (allowed : refusal (open_questions (length words) tasks cells blocks values) ≡ none) where
  -- The begin of an add's next part is never refused.
  pub pool_continues : Continues pool (start old words tasks cells blocks values) no_value
  pool_continues l t x r op e k below =
      let x₀ = start old words tasks cells blocks values in
      let w = run figure (opening tasks cells values) l in
      let g = together old words tasks cells blocks values allowed l in
      let f = figure_continues w (run_on_path (opening tasks cells values) (opening_on_path tasks cells values) l) t x r op (sym (same-event g (step t)) ∙ e) k below in
      let h = same-event (together old words tasks cells blocks values allowed (l ++ (step t ∷ []))) (begin t op) in
      ap (λ (y : Pool). (pool y (begin t op)).1) (sym (run_append pool x₀ l (step t ∷ []))) ∙ h ∙ ap (λ (w : World). (figure w (begin t op)).1) (run_append figure (opening tasks cells values) l (step t ∷ [])) ∙ f
