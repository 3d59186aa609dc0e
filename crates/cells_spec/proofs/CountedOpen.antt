-- An opening's counts are true; and a state keeps its arrays' lengths from action to action.
use mathlib.Core.Path.{◌≡◌, refl, ◌∙◌}
use mathlib.Core.Bool.{true, cond, false≢true}
use mathlib.Core.Option.{Option, none, some}
use mathlib.Core.List.{List, ◌∷◌, ◌++◌}
use Prim.Native.Nat.{ℕ, zero, suc, ◌+◌, ◌-◌, ◌≤◌, ◌<◌}
use native.Mathlib.Omega.{arith}
use native.Mathlib.Decide.{dec_le}
use lib.Dec.{eqb}
use lib.ListN.{get_or, length, replicate, length-append, length-replicate, length-set, get_or-replicate}
use borrow.Author.Tests.{eqb-true, eq-eqb, ne_eqb}
use Rattle.figure_lines.specs.declared.Record.{Record}
use Rattle.cells_spec.specs.declared.State.{State}
use Rattle.figure_lines.specs.Basics.{sum_from}
use Rattle.figure_lines.specs.Record.{idle, record_at, first_read, first_swap}
use Rattle.cells_spec.specs.Questions.{refusal, answers, record_uses, uses, counts_true, open_questions, fit, begin_questions, swap_questions}
use Rattle.cells_spec.specs.Blocks.{unused}
use Rattle.history_spec.specs.History.{read, swap, Action, begin, step, drop}
use Rattle.history_spec.proofs.Basics.{replicate_at}
use Rattle.cells_spec.specs.Answers.{Acted, acts}
use Rattle.cells_spec.specs.Open.{After, leaving, unless, open_state, open_pool, opened}
use Rattle.cells_spec.specs.Begin.{started, read_begun, swap_begun}
use Rattle.cells_spec.specs.Turn.{turn}
use Rattle.cells_spec.specs.Step.{current, ran, step_asks, stepped}
use Rattle.cells_spec.specs.Drop.{drop_asks, call_withdrawn, dropped}
use Rattle.cells_spec.specs.Machine.{does}
use Rattle.cells_spec.proofs.Tests.{all_yes, all-at, all_from_lem, nth, within_true}
use Rattle.cells_spec.proofs.Sums.{sum_same, sum_changed, sum_zero}
use Rattle.cells_spec.proofs.Recount.{length_released, length_recounted}
use Rattle.cells_spec.proofs.CountsKept.{Arrays}

-- ones, then zeros
ones : (v m b : ℕ) → b < v → ◌≡◌ {A = ℕ} (get_or (replicate v 1 ++ replicate m 0) b 0) 1
ones zero m b h = absurd (omega arith)
ones (suc v) m zero h = refl
ones (suc v) m (suc b) h = ones v m b (omega arith)

past : (v m b : ℕ) → v ≤ b → ◌≡◌ {A = ℕ} (get_or (replicate v 1 ++ replicate m 0) b 0) 0
past zero m b h = replicate_at 0 m b
past (suc v) m zero h = absurd (omega arith)
past (suc v) m (suc b) h = past v m b (omega arith)

module _ (n v blocks : ℕ) (tasks : n ≤ 32) (cells : v ≤ 16) where
  abbrev s : State
  s = open_state n v blocks

  -- block b is named by cell b, if there is one
  here : (k : ℕ) → k < v → get_or s.current k 0 ≡ k
  here k h = eqb-true _ _ (all-at (λ k. eqb (get_or s.current k 0) k) 0 16 refl k (omega arith) (omega arith))

  named : (b : ℕ) → sum_from (λ k. cond (eqb (get_or s.current k 0) b) 1 0) 0 v ≡ sum_from (λ k. cond (eqb k b) 1 0) 0 v
  named b = sum_same (λ k. cond (eqb k b) 1 0) (λ k. cond (eqb (get_or s.current k 0) b) 1 0) 0 v (λ k l h. rw (here k (omega arith)))

  once : (b : ℕ) → b < v → sum_from (λ k. cond (eqb k b) 1 0) 0 v ≡ 1
  once b h =
      let own : ◌≡◌ {A = ℕ} (cond (eqb b b) 1 0) 1 = rw (eq-eqb b b refl) in
      let off = sum_changed (λ k. 0) (λ k. cond (eqb k b) 1 0) b 0 v (omega arith) (omega arith) (λ k e. rw (ne_eqb k b e)) in
      omega (arith, own, off, sum_zero (λ k. 0) 0 v (λ k l m. refl))

  never : (b : ℕ) → v ≤ b → sum_from (λ k. cond (eqb k b) 1 0) 0 v ≡ 0
  never b h = sum_zero (λ k. cond (eqb k b) 1 0) 0 v (λ k l m. rw (ne_eqb k b (λ e. omega arith)))

  nobody : (b : ℕ) → sum_from (λ t. record_uses (record_at s.records t) b) 0 n ≡ 0
  nobody b = sum_zero (λ t. record_uses (record_at s.records t) b) 0 n (λ t l m. rw (get_or-replicate 32 t idle idle (omega arith)))

  stored : (b : ℕ) → get_or s.counts b 0 ≡ uses s b
  unfolding uses
  stored b = go (dec_le v b)
    where
      go : Dec (v ≤ b) → get_or s.counts b 0 ≡ sum_from (λ k. cond (eqb (get_or s.current k 0) b) 1 0) 0 v + sum_from (λ t. record_uses (record_at s.records t) b) 0 n
      go (yes h) = omega (arith, past v (128 - v) b h, named b, never b h, nobody b)
      go (no h) = omega (arith, ones v (128 - v) b (omega arith), named b, once b (omega arith), nobody b)

  opening-counts : counts_true s ≡ true
  unfolding counts_true
  opening-counts = all_from_lem _ 0 blocks (λ b l m. eq-eqb _ _ (stored b))

  opening_arrays : Arrays s
  opening_arrays =
      let e = length-append {A = ℕ} (replicate v 1) (replicate (128 - v) 0) in
      (refl, refl, omega (arith, e, length-replicate {A = ℕ} v 1, length-replicate {A = ℕ} (128 - v) 0))

-- An opening that is not refused leaves true counts.
pub open_counts : (words values : List ℕ) (tasks cells blocks : ℕ) → refusal (open_questions (length words) tasks cells blocks values) ≡ none → counts_true (open_state tasks cells blocks) ≡ true
unfolding open_questions
open_counts p vs n v b e =
    let test = nth (answers (open_questions (length p) n v b vs)) (all_yes (open_questions (length p) n v b vs) e) in
    opening-counts n v b (within_true n 1 32 (test 0)).1 (within_true v 1 16 (test 1)).1

-- So it does whatever was in the state and in the pool before.
pub opened-counts : (old : State) (words values : List ℕ) (tasks cells blocks : ℕ) → acts (opened old words tasks cells blocks values).outcome ≡ true → counts_true (opened old words tasks cells blocks values).state ≡ true
unfolding opened
opened-counts s p vs n v b = go (refusal (open_questions (length p) n v b vs)) (open_counts p vs n v b)
  where
    go : (o : Option ℕ) → (o ≡ none → counts_true (open_state n v b) ≡ true)
        → acts (unless o s p (leaving (open_state n v b) (open_pool p vs) Acted)).outcome ≡ true → counts_true (unless o s p (leaving (open_state n v b) (open_pool p vs) Acted)).state ≡ true
    go none f h = f refl
    go (some m) f h = absurd (false≢true h)

pub open_arrays : (p vs : List ℕ) (n v b : ℕ) → refusal (open_questions (length p) n v b vs) ≡ none → Arrays (open_state n v b)
unfolding open_questions
open_arrays p vs n v b e =
    let test = nth (answers (open_questions (length p) n v b vs)) (all_yes (open_questions (length p) n v b vs) e) in
    opening_arrays n v b (within_true n 1 32 (test 0)).1 (within_true v 1 16 (test 1)).1

-- FROM ACTION TO ACTION

module _ (s : State) (p : List ℕ) (z : Arrays s) where
  either : (o : Option ℕ) (x : After) → Arrays x.state → Arrays (unless o s p x).state
  either none x h = h
  either (some n) x h = z

  starts : (t : ℕ) (q : Record) → Arrays (started s p t q).state
  starts t q = (z.0, length-set s.records t q ∙ z.1, z.2)

  pub arrays_stay : (a : Action) → Arrays (does s p a).state
  unfolding read_begun swap_begun stepped ran dropped
  arrays_stay (begin t (read k)) = either (refusal ((6, fit s p) ∷ begin_questions s.tasks s.cells (record_at s.records t) t k)) (started s p t (first_read k)) (starts t (first_read k))
  arrays_stay (begin t (swap k x n)) = either (refusal ((6, fit s p) ∷ swap_questions s.tasks s.cells (record_at s.records t) t k x n)) (started s p t (first_swap k x n)) (starts t (first_swap k x n))
  arrays_stay (step t) =
      let r = record_at s.records t in
      let x = turn p t r (current s r.cell) s.last (unused s) in
      either (refusal (step_asks s p t)) (ran s p t r)
      (length-set s.current r.cell x.current ∙ z.0, length-set s.records t x.record ∙ z.1, length_recounted s.counts r x.record (current s r.cell) x.current ∙ z.2)
  arrays_stay (drop t) = either (refusal (drop_asks s p t)) (call_withdrawn s p t) (z.0, length-set s.records t idle ∙ z.1, length_released s.counts (record_at s.records t) ∙ z.2)
