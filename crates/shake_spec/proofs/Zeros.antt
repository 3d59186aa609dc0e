-- The opening's line, whose values are all 0.
use mathlib.Core.Path.{◌≡◌, sym, ap, subst, ◌∙◌}
use mathlib.Core.List.{List, [], ◌∷◌, ◌++◌, append_assoc}
use Prim.Native.Nat.{ℕ, zero, suc, ◌-◌, ◌*◌, ◌≤◌, ◌<◌}
use native.Mathlib.Omega.{arith}
use lib.ListN.{length, take, replicate, length-replicate}
use Rattle.text.proofs.Zeros.{take-zeros}
use Rattle.text.specs.Bytes.{bytes, digits}
use Rattle.text.specs.Lines.{numbers}
use Rattle.text.specs.Page.{Written}
use Rattle.text.specs.declared.page.Page.{Page}
use Rattle.text.proofs.Spaced.{numbers_length, none_length}
use Rattle.session_spec.specs.Written.{written_values, opening_line}
use Rattle.shake_spec.specs.Actions.{zero_opening}

-- A PART OF MANY ZEROS

module _ {l : List ℕ} (n m : ℕ) (e : l ≡ replicate m 0) (h : n ≤ m) where
  pub part-zeros : take n l ≡ replicate n 0
  part-zeros = ap (take n) e ∙ take-zeros n m h

  pub part_length : n ≡ length (take n l)
  part_length = sym (ap length part-zeros ∙ length-replicate {A = ℕ} n 0)

-- THE LINE

pub zeros_length : (m : ℕ) → length (numbers (replicate m 0)) ≡ 2 * m
unfolding digits
zeros_length zero = none_length
zeros_length (suc m) = omega (arith, numbers_length 0 (replicate m 0), zeros_length m)

-- the code prints the first value with the bracket before it
values-text : (l : List ℕ) (v : ℕ) → 0 < v → (l ++ bytes " (0") ++ numbers (replicate (v - 1) 0) ≡ (l ++ bytes " (") ++ written_values (replicate v 0)
unfolding digits written_values
values-text l zero h = absurd (omega arith)
values-text l (suc m) h =
    let e : suc m - 1 ≡ m = omega arith in
    let z = numbers (replicate m 0) in
    rw e (append_assoc l (bytes " (0") z ∙ sym (append_assoc l (bytes " (") (48 ∷ z)))

opening-text : (n v b : ℕ) → 0 < v → (((bytes "(open" ++ numbers (n ∷ v ∷ b ∷ [])) ++ bytes " (0") ++ numbers (replicate (v - 1) 0)) ++ bytes "))\n" ≡ opening_line (zero_opening n v b)
unfolding opening_line
opening-text n v b h = ap (λ (l : List ℕ). l ++ bytes "))\n") (values-text (bytes "(open" ++ numbers (n ∷ v ∷ b ∷ [])) v h)

pub opens : (n v b : ℕ) {x y z : ℕ} {l : List ℕ} {o p : Page} → x ≡ n → y ≡ v → z ≡ b → l ≡ replicate (v - 1) 0 → 0 < v → Written o p ((((bytes "(open" ++ numbers (x ∷ y ∷ z ∷ [])) ++ bytes " (0") ++ numbers l) ++ bytes "))\n") → Written o p (opening_line (zero_opening n v b))
opens n v b {o = o} {p = p} ex ey ez el h a = subst (Written o p) (rw (ex, ey, ez, el) (opening-text n v b h)) a
