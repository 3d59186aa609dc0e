-- Totals of accesses: by kind they are products of times and counts; the low times give the least one and the high times the greatest.
use mathlib.Core.Path.{◌≡◌, refl, sym, ◌∙◌}
use mathlib.Core.Bool.{true}
use mathlib.Core.List.{List, [], ◌∷◌, ◌++◌}
use Prim.Native.Nat.{ℕ, ◌+◌, ◌*◌, ◌%◌, ◌≤◌, ◌<◌}
use native.Mathlib.Nat.{mul-zero, mul-one, mul-add, div-add-mod, mod-lt}
use native.Mathlib.Omega.{arith}
use lib.Dec.{leb}
use borrow.Author.Tests.{leb-true}
use Rattle.figure_lines.specs.declared.Record.{Record}
use Rattle.figure_lines.specs.declared.Access.{Access}
use Rattle.figure_lines.specs.declared.Access.TheVariants.{LoadCell, Load, Store, DecideCas, InstallCas, Allocate, Nothing}
use Rattle.figure_lines.specs.Basics.{ands}
use Rattle.figure_lines.specs.Record.{idle}
use Rattle.figure_lines.specs.Lines.{Line, access_at, loads, stores, hardware}
use Rattle.cells_spec.proofs.Tests.{nth}
use Rattle.figure_cell.proofs.LineLaws.{loads_alike, stores_alike, hardware_alike}
use Rattle.bus_spec.specs.Bus.{PerKind, per_kind, Times, ordered, rounded_down, rounded_up, total}
use Rattle.bus_spec.specs.Choices.{accesses, did_per_kind, number_for, sum, EachWithin, KindsWithin, by_kind, Between}

-- three tests, of each kind one
pub three_le : (a a' b b' c c' : ℕ) → ands (leb a a' ∷ leb b b' ∷ leb c c' ∷ []) ≡ true → (a ≤ a') × (b ≤ b') × (c ≤ c')
three_le a a' b b' c c' e =
    let l = leb a a' ∷ leb b b' ∷ leb c c' ∷ [] in
    (leb-true a a' (nth l e 0), leb-true b b' (nth l e 1), leb-true c c' (nth l e 2))

-- PRODUCTS

one_access : (c : PerKind) (a : Access) → number_for c a ≡ total c (per_kind (loads a) (stores a) (hardware a))
one_access c (LoadCell k) = omega (arith, mul-one c.load, mul-zero c.store, mul-zero c.hardware)
one_access c (Load b f) = omega (arith, mul-one c.load, mul-zero c.store, mul-zero c.hardware)
one_access c (Store b f v) = omega (arith, mul-zero c.load, mul-one c.store, mul-zero c.hardware)
one_access c (DecideCas b v) = omega (arith, mul-zero c.load, mul-zero c.store, mul-one c.hardware)
one_access c (InstallCas k b n) = omega (arith, mul-zero c.load, mul-zero c.store, mul-one c.hardware)
one_access c Allocate = omega (arith, mul-zero c.load, mul-one c.store, mul-zero c.hardware)
one_access c Nothing = omega (arith, mul-zero c.load, mul-zero c.store, mul-zero c.hardware)

-- which kind of access a line is does not depend on task and record
pub kind_of_line : (c : PerKind) (l : Line) (t : ℕ) (r : Record) → number_for c (access_at l t r) ≡ number_for c (access_at l 0 idle)
kind_of_line c l t r = one_access c (access_at l t r) ∙ (rw (loads_alike l t r, stores_alike l t r, hardware_alike l t r) (sym (one_access c (access_at l 0 idle))))

added : (c : PerKind) (l l' s s' h h' : ℕ) → total c (per_kind (l + l') (s + s') (h + h')) ≡ total c (per_kind l s h) + total c (per_kind l' s' h')
added c l l' s s' h h' = omega (arith, mul-add c.load l l', mul-add c.store s s', mul-add c.hardware h h')

-- the total of the accesses of some lines, each with the time of its kind
pub sum_by_kind : (c : PerKind) (p : List Line) → sum (by_kind c (accesses p)) ≡ total c (did_per_kind p)
sum_by_kind c [] = omega (arith, mul-zero c.load, mul-zero c.store, mul-zero c.hardware)
sum_by_kind c (l ∷ p) =
    let a = access_at l 0 idle in
    let d = did_per_kind p in
    omega (arith, one_access c a, sum_by_kind c p, added c (loads a) d.load (stores a) d.store (hardware a) d.hardware)

pub sum_append : (c : PerKind) (l m : List Access) → sum (by_kind c (l ++ m)) ≡ sum (by_kind c l) + sum (by_kind c m)
sum_append c [] m = omega arith
sum_append c (a ∷ l) m = omega (arith, sum_append c l m)

-- BETWEEN

module _ (w : Times) where
  kinds-each : (c : PerKind) → KindsWithin w c → (l : List Access) → EachWithin w l (by_kind c l)
  kinds-each c k [] = tt
  kinds-each c k (a ∷ l) = (one a, kinds-each c k l)
    where
      one : (a : Access) → (number_for w.low a ≤ number_for c a) × (number_for c a ≤ number_for w.high a)
      one (LoadCell i) = k.load
      one (Load b f) = k.load
      one (Store b f v) = k.store
      one (DecideCas b v) = k.hardware
      one (InstallCas i b n) = k.hardware
      one Allocate = k.store
      one Nothing = (omega arith, omega arith)

  each_between : (l : List Access) (ts : List ℕ) → EachWithin w l ts → (sum (by_kind w.low l) ≤ sum ts) × (sum ts ≤ sum (by_kind w.high l))
  each_between [] [] h = (omega arith, omega arith)
  each_between [] (t ∷ ts) h = absurd h
  each_between (a ∷ l) [] h = absurd h
  each_between (a ∷ l) (t ∷ ts) h = let r = each_between l ts h.1 in (omega (arith, h.0.0, r.0), omega (arith, h.0.1, r.1))

  module _ (is-ordered : ordered w ≡ true) where
    abbrev in_order : (w.low.load ≤ w.high.load) × (w.low.store ≤ w.high.store) × (w.low.hardware ≤ w.high.hardware)
    in_order = three_le _ _ _ _ _ _ is-ordered

    low-within : KindsWithin w w.low
    low-within = record { load = (omega arith, in_order.0); store = (omega arith, in_order.1); hardware = (omega arith, in_order.2) }

    high-within : KindsWithin w w.high
    high-within = record { load = (in_order.0, omega arith); store = (in_order.1, omega arith); hardware = (in_order.2, omega arith) }

    -- The ends of any accesses are their totals by the low times and by the high ones.
    pub ends_between : (l : List Access) → Between w l (sum (by_kind w.low l)) (sum (by_kind w.high l))
    ends_between l = record {
      each = each_between l;
      each-least = (by_kind w.low l, kinds-each w.low low-within l, refl);
      each-greatest = (by_kind w.high l, kinds-each w.high high-within l, refl);
      kinds = λ c k. each_between l (by_kind c l) (kinds-each c k l);
      kinds-least = (w.low, low-within, refl);
      kinds-greatest = (w.high, high-within, refl);
    }

-- ROUNDING

-- the least is rounded down to whole nanoseconds, the greatest up: by less than one
pub rounded_down_lem : (n : ℕ) → (10 * rounded_down n ≤ n) × (n < 10 * rounded_down n + 10)
rounded_down_lem n = let e = div-add-mod n 10 in let b : n % 10 < 10 = mod-lt n (omega arith) in (omega (arith, e), omega (arith, e, b))

pub rounded-up : (n : ℕ) → (n ≤ 10 * rounded_up n) × (10 * rounded_up n < n + 10)
rounded-up n = let e = div-add-mod (n + 9) 10 in let b : (n + 9) % 10 < 10 = mod-lt (n + 9) (omega arith) in (omega (arith, e, b), omega (arith, e))

module _ {w : Times} {l : List Access} {least greatest : ℕ} (b : Between w l least greatest) where
  -- So the printed nanoseconds, in tenths, bracket every total.
  pub printed_brackets : (ts : List ℕ) → EachWithin w l ts → (10 * rounded_down least ≤ sum ts) × (sum ts ≤ 10 * rounded_up greatest)
  printed_brackets ts h = let t = b.each ts h in (omega (arith, rounded_down_lem least, t.0), omega (arith, rounded-up greatest, t.1))

  -- No other two numbers lie so.
  pub ends_unique : {least' greatest' : ℕ} → Between w l least' greatest' → (least ≡ least') × (greatest ≡ greatest')
  ends_unique b'' =
      let (ts, h, e) = b.each-least in
      let (ts', h', e') = b''.each-least in
      let (us, k, f) = b.each-greatest in
      let (us', k', f') = b''.each-greatest in
      (omega (arith, e, e', (b.each ts' h').0, (b''.each ts h).0), omega (arith, f, f', (b.each us' k').1, (b''.each us k).1))
