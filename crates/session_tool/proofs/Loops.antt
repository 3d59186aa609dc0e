-- One turn of each loop.
use mathlib.Core.Path.{◌≡◌, refl}
use mathlib.Core.Bool.{Bool, true, false, cond, not}
use mathlib.Core.List.{List, [], ◌++◌}
use Prim.Native.Nat.{ℕ, zero, suc, ◌+◌, ◌-◌, ◌≤◌, ◌<◌}
use native.Mathlib.Omega.{arith}
use lib.Dec.{eqb, ltb}
use borrow.Author.Tests.{ltb-true, ltb-false}
use lib.ListN.{length, take, drop, drop_of_length-le}
use Rattle.std.specs.List.{count_by}
use Rattle.std.proofs.lemmas.List.Sums.{sum_by-cons}
use Rattle.std.proofs.lemmas.List.{drop_more, get_or_past}
use Rattle.figure_lines.specs.declared.Record.{Record}
use Rattle.cells_spec.specs.declared.State.{State}
use Rattle.figure_lines.specs.Record.{idle, record_at}
use Rattle.cells_spec.specs.Look.{looked}
use Rattle.session_spec.specs.Printed.{look_line, cell_lines, pending_tasks}

flip : (b : Bool) → ◌≡◌ {A = ℕ} (cond (not b) 1 0) (cond b 0 1)
flip true = refl
flip false = refl

module _ (s : State) where
  pub cell_at : (p : List ℕ) (k n : ℕ) → k < n → cell_lines s p k (n - k) ≡ look_line k (looked s p k) ++ cell_lines s p (k + 1) (n - (k + 1))
  unfolding cell_lines
  cell_at p k n h = let e : n - k ≡ suc (n - (k + 1)) = omega arith in rw e

  pub cell-end : (p : List ℕ) (k n : ℕ) → n ≤ k → cell_lines s p k (n - k) ≡ []
  unfolding cell_lines
  cell-end p k n h = let e : n - k ≡ 0 = omega arith in rw e

  abbrev busy : Record → Bool
  busy r = not (eqb r.line 0)

  -- beyond the records no task is busy
  none_busy : (i k : ℕ) → length s.records ≤ i → pending_tasks s i k ≡ 0
  unfolding pending_tasks
  none_busy i zero h = refl
  none_busy i (suc k) h = rw (get_or_past s.records i idle h, none_busy (i + 1) k (omega arith))

  -- the k records from i on
  busy_from : (i k : ℕ) → count_by busy (take k (drop i s.records)) ≡ pending_tasks s i k
  unfolding pending_tasks
  busy_from i zero = refl
  busy_from i (suc k) = go (busy_from (i + 1) k) (ltb i (length s.records)) refl
    where
      go : count_by busy (take k (drop (i + 1) s.records)) ≡ pending_tasks s (i + 1) k → (b : Bool) → ltb i (length s.records) ≡ b → count_by busy (take (suc k) (drop i s.records)) ≡ pending_tasks s i (suc k)
      go rest true e =
          let d = drop_more s.records i idle (ltb-true i (length s.records) e) in
          let one = flip (eqb (record_at s.records i).line 0) in
          rw (d, sum_by-cons (λ r. cond (busy r) 1 0) (record_at s.records i) (take k (drop (i + 1) s.records)), one, rest)
      go rest false e =
          let h = ltb-false i (length s.records) e in
          rw (drop_of_length-le s.records h, none_busy i (suc k) h)

  pub busy_tasks : (k : ℕ) → count_by busy (take k s.records) ≡ pending_tasks s 0 k
  busy_tasks k = busy_from 0 k
