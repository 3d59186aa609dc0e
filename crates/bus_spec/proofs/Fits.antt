-- No sum wraps: a call does at most 21 accesses, a time is at most 1,000,000 and a session has at most 65,535 actions.
use mathlib.Core.Path.{◌≡◌, refl, ap}
use mathlib.Core.Bool.{Bool, true, false, ◌&&◌, cond, and-eq-true_iff}
use mathlib.Core.Option.{Option, none, some}
use mathlib.Core.List.{List, [], ◌∷◌}
use Prim.Native.Nat.{ℕ, zero, suc, ◌+◌, ◌*◌, ◌≤◌}
use native.Mathlib.Nat.{mul-le-mul_right}
use native.Mathlib.Omega.{arith}
use lib.Dec.{eqb, leb}
use lib.ListN.{get_or, length}
use borrow.Author.Tests.{eqb-true, leb-true}
use Rattle.figure_lines.specs.Paths.{table, entry, row_below, row_of}
use Rattle.history_spec.specs.History.{Action, Report, Event, refused, accepted, answered, history}
use Rattle.history_spec.proofs.Basics.{clash, some_inj}
use Rattle.cells_spec.specs.Machine.{Pool, pool}
use Rattle.bus_spec.specs.Bus.{PerKind, Times, at_most, short_times, in_row, counts_of, total, finished_calls, finished_count, timed, timed_from, Sums, no_sums, add_call, add_calls, bus_calls, sums_of}
use Rattle.bus_spec.proofs.Totals.{three_le}

-- FEW ACCESSES

abbrev few : List ℕ → Bool
few r = leb (get_or r 1 0 + get_or r 2 0 + get_or r 3 0) 21

abbrev AllFew : List (List ℕ) → Type 0
AllFew [] = Unit {0}
AllFew (r ∷ l) = (few r ≡ true) × AllFew l

table-few : AllFew table
table-few = (refl, (refl, (refl, (refl, (refl, (refl, (refl, (refl, (refl, (refl, (refl, (refl, (refl, tt)))))))))))))

few-at : (l : List (List ℕ)) → AllFew l → (i : ℕ) → few (get_or l i []) ≡ true
few-at [] h i = refl
few-at (r ∷ l) h zero = h.0
few-at (r ∷ l) h (suc i) = few-at l h.1 i

entry-few : (i : ℕ) → entry i 1 + entry i 2 + entry i 3 ≤ 21
entry-few i = leb-true _ _ (few-at table table-few i)

row-few : (i s h l st : ℕ) → row_below i s h ≡ some (l, st) → l + st + h ≤ 21
row-few zero s h l st e = absurd (clash refl e)
row-few (suc i) s h l st e = go (eqb (entry i 0) s && eqb (entry i 3) h) refl e (row-few i s h l st)
  where
    go : (c : Bool) → (eqb (entry i 0) s && eqb (entry i 3) h) ≡ c → cond c (some (entry i 1, entry i 2)) (row_below i s h) ≡ some (l, st) → (row_below i s h ≡ some (l, st) → l + st + h ≤ 21) → l + st + h ≤ 21
    go true q e rec =
        let same : ◌≡◌ {A = ℕ × ℕ} (entry i 1, entry i 2) (l, st) = some_inj refl e in
        let hard = eqb-true (entry i 3) h ((and-eq-true_iff (eqb (entry i 0) s) (eqb (entry i 3) h)).0 q).1 in
        omega (arith, entry-few i, ap (λ (p : ℕ × ℕ). p.0) same, ap (λ (p : ℕ × ℕ). p.1) same, hard)
    go false q e rec = rec e

pub row-found : (s h l st : ℕ) → row_of s h ≡ some (l, st) → l + st + h ≤ 21
unfolding row_of
row-found = row-few 13

pub few-accesses : (r : Report) → let c = counts_of r in c.load + c.store + c.hardware ≤ 21
few-accesses r = go (row_of r.steps (r.won + r.lost)) refl
  where
    go : (o : Option (ℕ × ℕ)) → row_of r.steps (r.won + r.lost) ≡ o → let c = in_row (r.won + r.lost) o in c.load + c.store + c.hardware ≤ 21
    go none e = omega arith
    go (some (l, s)) e = row-found r.steps (r.won + r.lost) l s e

-- A CALL'S TOTAL

total-fits : (t c : PerKind) → at_most 1000000 t ≡ true → c.load + c.store + c.hardware ≤ 21 → total t c ≤ 21000000
total-fits t c h few =
    let (l, s, x) = three_le t.load 1000000 t.store 1000000 t.hardware 1000000 h in
    omega (arith, few, mul-le-mul_right c.load l, mul-le-mul_right c.store s, mul-le-mul_right c.hardware x)

-- the sums of n calls
abbrev pub Within : (n : ℕ) → Sums → Type 0
Within n z = (z.least ≤ 21000000 * n) × (z.greatest ≤ 21000000 * n)

-- a session of at most 65,535 actions
pub within-fits : (n : ℕ) (z : Sums) → Within n z → n ≤ 65535 → (z.least ≤ 1376235000000) × (z.greatest ≤ 1376235000000)
within-fits n z h k = (omega (arith, h.0, k), omega (arith, h.1, k))

-- no more calls finish than there are actions
pub calls-few : (x : Pool) (actions : List Action) → length (finished_calls (history pool x actions)) ≤ length actions
calls-few x [] = omega arith
calls-few x (a ∷ l) = go (pool x a).1 (calls-few (pool x a).0 l)
  where
    go : (e : Event) → length (finished_calls (history pool (pool x a).0 l)) ≤ length l → length (finished_calls ((a, e) ∷ history pool (pool x a).0 l)) ≤ length (a ∷ l)
    go (refused n) h = omega (arith, h)
    go (accepted y) h = omega (arith, h)
    go (answered y r) h = omega (arith, h)

module _ (w : Times) (is-short : short_times w ≡ true) where
  pub call_fits : (n : ℕ) (f : ℕ × Report) → ((timed w n f).least ≤ 21000000) × ((timed w n f).greatest ≤ 21000000)
  call_fits n (t, r) =
      let both = (and-eq-true_iff (at_most 1000000 w.low) (at_most 1000000 w.high && true)).0 is-short in
      (total-fits w.low (counts_of r) both.0 (few-accesses r), total-fits w.high (counts_of r) ((and-eq-true_iff (at_most 1000000 w.high) true).0 both.1).0 (few-accesses r))

  -- THE SUMS, call by call: after n calls

  pub sums-after : (n : ℕ) (z : Sums) (earlier : ℕ) (f : ℕ × Report) → Within n z → Within (n + 1) (add_call z (timed w earlier f))
  sums-after n z k f h = let c = call_fits k f in (omega (arith, h.0, c.0), omega (arith, h.1, c.1))

  sums-within : (l before : List (ℕ × Report)) (n : ℕ) (z : Sums) → Within n z → Within (n + length l) (add_calls z (timed_from w before l))
  sums-within [] before n z h = (omega (arith, h.0), omega (arith, h.1))
  sums-within (f ∷ l) before n z h = let r = sums-within l (f ∷ before) (n + 1) (add_call z (timed w (finished_count f.0 before) f)) (sums-after n z (finished_count f.0 before) f h) in (omega (arith, r.0), omega (arith, r.1))

  -- of a whole session
  pub sums-fit : (x : Pool) (actions : List Action) → length actions ≤ 65535 → let z = sums_of (bus_calls w x actions) in (z.least ≤ 1376235000000) × (z.greatest ≤ 1376235000000)
  sums-fit x actions h =
      let fs = finished_calls (history pool x actions) in
      let r = sums-within fs [] 0 no_sums (omega arith, omega arith) in
      within-fits (0 + length fs) (sums_of (timed_from w [] fs)) r (omega (arith, calls-few x actions, h))
