-- A table into which the cells and the first t tasks are counted: that there is room for the next, what the next makes of it, and what a
-- comparison with it says at the end.
use mathlib.Core.Path.{◌≡◌, refl, ap, ◌∙◌}
use mathlib.Core.Bool.{Bool, true, false, ◌&&◌, ◌||◌, not, and-eq-true_iff, false≢true}
use mathlib.Core.List.{List}
use Prim.Native.Nat.{ℕ, suc, ◌+◌, ◌≤◌, ◌<◌}
use native.Mathlib.Omega.{arith}
use lib.Dec.{eqb, ltb}
use lib.ListN.{get_or, length}
use borrow.Author.Tests.{ltb-true, eqb-false}
use Rattle.figure_lines.specs.declared.Record.{Record}
use Rattle.cells_spec.specs.declared.State.{State}
use Rattle.figure_lines.specs.Basics.{all_from, sum_from}
use Rattle.figure_lines.specs.Record.{is_idle, record_at}
use Rattle.cells_spec.specs.Questions.{holds, has_taken, blocks_fit, record_fit, record_uses, uses, counts_true}
use Rattle.cells_spec.specs.Counts.{claimed, Roomy, Room}
use Rattle.cells_spec.proofs.Tests.{all_alike}
use Rattle.cells_spec.proofs.Fits.{busy_test}
use Rattle.cells_spec.proofs.Sums.{sum-last}
use Rattle.cells_spec.proofs.Tables.{length_claimed, claimed-at}
use Rattle.cells_spec.proofs.Uses.{uses_so_far, few_so_far}

-- WHAT A RECORD THAT FITS NAMES

module _ (r : Record) (v n : ℕ) (e : record_fit r v n ≡ true) where
  needs_test : (i h : Bool) → not i && h ≡ true → (i ≡ false) × (h ≡ true)
  needs_test true h q = absurd (false≢true q)
  needs_test false h q = (refl, q)

  busy : is_idle r ≡ false → blocks_fit r n ≡ true
  busy i = busy_test r v n e (eqb-false r.line 0 i) 2

  asked_of : (h l : Bool) → h ≡ true → (not h || l) ≡ true → l ≡ true
  asked_of true l q w = w
  asked_of false l q w = absurd (false≢true q)

  pub held_below : not (is_idle r) && holds r ≡ true → r.held < n
  held_below q =
      let p = needs_test (is_idle r) (holds r) q in
      ltb-true _ _ (asked_of (holds r) _ p.1 ((and-eq-true_iff (not (holds r) || ltb r.held n) _).0 (busy p.0)).0)

  pub taken_below : not (is_idle r) && has_taken r ≡ true → r.taken < n
  taken_below q =
      let p = needs_test (is_idle r) (has_taken r) q in
      ltb-true _ _ (asked_of (has_taken r) _ p.1 ((and-eq-true_iff (not (holds r) || ltb r.held n) _).0 (busy p.0)).1)

-- COUNTING

module _ (s : State) where
  pub record Counted (table : List ℕ) (t : ℕ) : Type 0 where
    pub long : length table ≡ 128
    pub each : (b : ℕ) → b < 128 → get_or table b 0 ≡ uses_so_far s b t

  module _ (table : List ℕ) (t : ℕ) (c : Counted table t) where
    roomy : (b : ℕ) → s.cells ≤ 16 → t ≤ 32 → b < 128 → Roomy table b
    roomy b h l m = (m, omega (arith, c.each b m, few_so_far s b t))

    module _ (r : Record) (v n : ℕ) (e : record_fit r v n ≡ true) (small : n ≤ 128) where
      held_128 : not (is_idle r) && holds r ≡ true → r.held < 128
      held_128 q = omega (arith, held_below r v n e q)

      taken_128 : not (is_idle r) && has_taken r ≡ true → r.taken < 128
      taken_128 q = omega (arith, taken_below r v n e q)

      pub has_room : s.cells ≤ 16 → t ≤ 32 → Room table r
      has_room h l = (λ q. roomy r.held h l (held_128 q), λ q. roomy r.taken h l (taken_128 q))

      pub counted_next : record_at s.records t ≡ r → Counted (claimed table r) (t + 1)
      counted_next g = record {
        long = length_claimed table r ∙ c.long;
        each = λ b m.
            let a = claimed-at b table (omega (arith, m, c.long)) r in
            let f : ℕ → ℕ = λ i. record_uses (record_at s.records i) b in
            let z : sum_from f 0 (t + 1) ≡ sum_from f 0 t + record_uses r b = ap (sum_from f 0) (next t) ∙ (sum-last f 0 t ∙ (ap (λ (i : ℕ). sum_from f 0 t + f i) (here t) ∙ ap (λ (q : Record). sum_from f 0 t + record_uses q b) g)) in
            omega (arith, a, z, c.each b m);
      }
        where
          next : (k : ℕ) → k + 1 ≡ suc k
          next k = omega arith

          here : (k : ℕ) → 0 + k ≡ k
          here k = omega arith

  -- where all are counted, the state's counts are true exactly if they are the table's
  pub compared : (table : List ℕ) → Counted table s.tasks → s.blocks ≤ 128 → all_from (λ b. eqb (get_or s.counts b 0) (get_or table b 0)) 0 s.blocks ≡ counts_true s
  unfolding counts_true uses
  compared table c h =
      all_alike (λ b. eqb (get_or s.counts b 0) (get_or table b 0)) (λ b. eqb (get_or s.counts b 0) (uses s b)) 0 s.blocks
      (λ b l m. ap (eqb (get_or s.counts b 0)) (c.each b (omega arith)))
