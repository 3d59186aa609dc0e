-- A state that agrees with the figure and whose counts are true is fit; and nothing refers to an unused block.
use mathlib.Core.Path.{◌≡◌, refl, sym, ap, ◌∙◌}
use mathlib.Core.Bool.{Bool, true, false, ◌&&◌, ◌||◌, not}
use mathlib.Core.Logic.{inl, inr}
use mathlib.Core.List.{List}
use Prim.Native.Nat.{ℕ, ◌<◌}
use native.Mathlib.Omega.{arith}
use lib.Dec.{eqb, ltb, T}
use lib.ListN.{length}
use borrow.Author.Tests.{eqb-false, lt-ltb, le-leb}
use Rattle.figure_lines.specs.declared.Record.{Record}
use Rattle.figure_lines.specs.declared.Field.{Field}
use Rattle.figure_lines.specs.declared.Field.TheVariants.{X}
use Rattle.cells_spec.specs.declared.State.{State}
use Rattle.figure_lines.specs.Basics.{ands}
use Rattle.figure_lines.specs.Record.{is_idle, record_at}
use Rattle.cells_spec.specs.Questions.{tasks_ok, cells_ok, blocks_ok, holds, has_taken, busy_tests, record_fit, cells_fit, records_fit, counts_true, fit}
use Rattle.cells_spec.specs.Blocks.{is_current, used_by_task, used, uses_block}
use Rattle.cells_spec.specs.Step.{current}
use Rattle.cells_spec.proofs.Tests.{both, implied, or_left, or_right, all_from_lem, none_of}
use Rattle.figure.specs.Figure.{World}
use Rattle.cells_theorems.specs.Terms.{named}
use Rattle.figure.proofs.Records.{WellRecord}
use Rattle.cells_theorems.proofs.Agree.{Links, Agree, Task, took, took_holds}

-- FIT

record_fits : (R : Links) (v b : ℕ) (r q : Record) → Task R r q → ((k i c : ℕ) (f : Field) → R k i c f → c < b) → WellRecord v q → record_fit r v b ≡ true
unfolding record_fit
record_fits R v b r q x below (inl e) = rw (x.same, e)
record_fits R v b r q x below (inr y) = rw x.same (go (is_idle q) refl)
  where
    go : (i : Bool) → is_idle q ≡ i → (i || ands (busy_tests (named q r.held r.taken) v b)) ≡ true
    go true e = refl
    go false e =
        let held : holds q ≡ true → ltb r.held b ≡ true = λ h. lt-ltb _ _ (below _ _ _ X (x.held (rw (e, h) tt) X)) in
        let taken : has_taken q ≡ true → ltb r.taken b ≡ true = λ h. lt-ltb _ _ (below _ _ _ X (x.taken X (rw h tt))) in
        let blocks = both (implied (holds q) (ltb r.held b) held) (implied (has_taken q) (ltb r.taken b) taken) in
        both (lt-ltb _ _ y.cell) (both y.line (both blocks (both y.values (both (le-leb _ _ y.steps) (both (le-leb _ _ y.hard) refl)))))

-- question 6 is answered yes
pub fits : {n v : ℕ} {R : Links} {s : State} {p : List ℕ} {w : World} → Agree n v R s p w → ((t : ℕ) → WellRecord v (w.records t)) → counts_true s ≡ true → fit s p ≡ true
unfolding fit cells_fit records_fit
fits {n} {v} {R} {s} {p} {w} a well true_counts =
    let z = a.sizes in
    let below = a.blocks.below in
    let enough : blocks_ok s.tasks s.cells s.blocks (length p) ≡ true = rw (z.same-tasks, z.same-cells) z.blocks_ok_lem in
    let each : (t : ℕ) → t < n → record_fit (record_at s.records t) s.cells s.blocks ≡ true = λ t h. rw z.same-cells (record_fits R v s.blocks (record_at s.records t) (w.records t) (a.records t h) below (well t)) in
    both (ap tasks_ok z.same-tasks ∙ z.tasks_ok_lem)
    (both (ap cells_ok z.same-cells ∙ z.cells_ok_lem)
    (both enough
    (both (all_from_lem _ 0 s.cells (λ k l h. lt-ltb _ _ (below k (w.cell k).current (current s k) X (a.current k (omega (arith, z.same-cells)) X))))
    (both (lt-ltb _ _ a.last)
    (both (all_from_lem _ 0 s.tasks (λ t l h. each t (omega (arith, z.same-tasks))))
    (both true_counts
    refl))))))

-- UNUSED

not_held : (idle holding at other : Bool) → (not idle && ((holding && at) || other)) ≡ false → T (not idle && holding) → at ≡ false
not_held true holding at other e h = absurd h
not_held false true at other e h = or_left at other e
not_held false false at other e h = absurd h

not_taken : (idle holding at taking at' : Bool) → (not idle && ((holding && at) || (taking && at'))) ≡ false → T (not idle && holding) → T taking → at' ≡ false
not_taken true holding at taking at' e h k = absurd h
not_taken false true at true at' e h k = or_right at at' e
not_taken false true at false at' e h k = absurd k
not_taken false false at taking at' e h k = absurd h

module _ {n v : ℕ} {R : Links} {s : State} {p : List ℕ} {w : World} (a : Agree n v R s p w) (u : ℕ) (e : used s u ≡ false) where
  pub not_current : (k : ℕ) → k < v → current s k ≡ u → ⊥
  unfolding used is_current
  not_current k l = eqb-false _ _ (none_of _ 0 s.cells (or_left (is_current s u) (used_by_task s u) e) k (omega arith) (omega (arith, a.sizes.same-cells)))

  not_used : (t : ℕ) → t < n → uses_block (record_at s.records t) u ≡ false
  unfolding used used_by_task
  not_used t l = none_of (λ t. uses_block (record_at s.records t) u) 0 s.tasks (or_right (is_current s u) (used_by_task s u) e) t (omega arith) (omega (arith, a.sizes.same-tasks))

  -- each task's links are to other blocks
  pub other_blocks : (S : Links) → ((k i b : ℕ) (f : Field) → R k i b f → (b ≡ u → ⊥) → S k i b f) → (t : ℕ) → t < n → Task S (record_at s.records t) (w.records t)
  other_blocks S up t l =
      let r = record_at s.records t in
      let q = w.records t in
      let x = a.records t l in
      let free : uses_block (named q r.held r.taken) u ≡ false = sym (ap (λ (r : Record). uses_block r u) x.same) ∙ not_used t l in
      record {
        same = x.same;
        held = λ h f. up _ _ _ f (x.held h f) (eqb-false _ _ (not_held (is_idle q) (holds q) (eqb r.held u) (has_taken q && eqb r.taken u) free h));
        taken = λ f h. let k = took q.line f h in up _ _ _ f (x.taken f h) (eqb-false _ _ (not_taken (is_idle q) (holds q) (eqb r.held u) (has_taken q) (eqb r.taken u) free (took_holds q.line k) k));
      }
