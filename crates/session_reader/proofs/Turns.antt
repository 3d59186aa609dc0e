-- Items read one after another, at a place of the text.
use mathlib.Core.Path.{◌≡◌, refl, sym, ap, ◌∙◌}
use mathlib.Core.List.{List}
use mathlib.Core.Option.{Option, none, some}
use Prim.Native.Nat.{ℕ, suc, ◌+◌, ◌-◌, ◌≤◌, ◌<◌}
use native.Mathlib.Omega.{arith}
use lib.ListN.{length, drop, length-drop}
use Rattle.text.specs.Readers.{Reader}
use Rattle.session_spec.specs.Session.{many_within, many}

module _ {A B : Type 0} (add : B → A → B) (each : Reader A) (end : Reader (Unit {0})) where
  -- from at to i the items l were read, and what is said of the rest after them is what is said of the whole
  pub record Turn (whole : Option (B × List ℕ)) (s : List ℕ) (at i : ℕ) (l : B) : Type 0 where
    pub fuel : ℕ
    pub from : at ≤ i
    pub within : i ≤ length s
    pub enough : length s ≤ i + fuel
    pub goes : many_within add each end (suc fuel) l (drop i s) ≡ whole

  pub turn-start : (s : List ℕ) (at : ℕ) (l : B) → at ≤ length s → Turn (many add each end l (drop at s)) s at at l
  turn-start s at l h = record {
    fuel = length (drop at s);
    from = omega arith;
    within = h;
    enough = omega (arith, length-drop at s);
    goes = refl;
  }

  module _ {whole : Option (B × List ℕ)} {s : List ℕ} {at i : ℕ} {l : B} (x : Turn whole s at i l) where
    pub turn_end : {r : List ℕ} → end (drop i s) ≡ some (tt, r) → whole ≡ some (l, r)
    unfolding many_within
    turn_end e = sym x.goes ∙ rw e

    pub turn_stop : end (drop i s) ≡ none → each (drop i s) ≡ none → whole ≡ none
    unfolding many_within
    turn_stop e f = sym x.goes ∙ rw (e, f)

    pub turn_more : {a : A} {j : ℕ} → end (drop i s) ≡ none → each (drop i s) ≡ some (a, drop j s) → i < j → j ≤ length s → Turn whole s at j (add l a)
    unfolding many_within
    turn_more {a} {j} e f h g =
        let one : suc (x.fuel - 1) ≡ x.fuel = omega (arith, x.enough) in
        let next : many_within add each end (suc x.fuel) l (drop i s) ≡ many_within add each end x.fuel (add l a) (drop j s) = rw (e, f) in
        record {
          fuel = x.fuel - 1;
          from = omega (arith, x.from);
          within = g;
          enough = omega (arith, x.enough);
          goes = ap (λ (k : ℕ). many_within add each end k (add l a) (drop j s)) one ∙ sym next ∙ x.goes;
        }
