-- Which step a number is: none outside 1 to 13; the hardware CAS is 12.
use mathlib.Core.Path.{◌≡◌, refl, sym, ◌∙◌}
use mathlib.Core.Bool.{Bool, true, false, ◌&&◌, not, cond, and-eq-true_iff}
use mathlib.Core.List.{List, [], ◌∷◌}
use Prim.Native.Nat.{ℕ, ◌≤◌, ◌<◌}
use native.Mathlib.Omega.{arith}
use native.Mathlib.Decide.{dec_le}
use lib.Dec.{eqb, leb}
use borrow.Author.Tests.{le-leb, lt-leb, ne_eqb}
use Rattle.figure_lines.specs.Basics.{within}
use Rattle.cells_spec.proofs.Tests.{within_true, all-at}
use Rattle.once_spec.specs.Figure.{Stage, nowhere, stage_numbers, stage_in, stage_at, is_cas}
use Rattle.once_spec.specs.Questions.{is_step}

-- every number of the list is one of 1 to 13
abbrev in_range : List (ℕ × Stage × ℕ) → Bool
in_range [] = true
in_range ((m, ℓ, f) ∷ l) = within m 1 13 && in_range l

module _ (n : ℕ) where
  unlisted : (1 ≤ n → n ≤ 13 → ⊥) → (l : List (ℕ × Stage × ℕ)) → in_range l ≡ true → stage_in l n ≡ nowhere
  unlisted out [] e = refl
  unlisted out ((m, ℓ, f) ∷ l) e =
      let q = (and-eq-true_iff (within m 1 13) (in_range l)).0 e in
      let w = within_true m 1 13 q.0 in
      let other : n ≡ m → ⊥ = λ i. out (omega (arith, i, w.0)) (omega (arith, i, w.1)) in
      rw (ne_eqb n m other) (unlisted out l q.1)

  pub outside : (1 ≤ n → n ≤ 13 → ⊥) → stage_at n ≡ nowhere
  outside out = unlisted out stage_numbers refl

  pub inside : 1 ≤ n → n ≤ 13 → is_step (stage_at n) ≡ true
  inside l h = all-at (λ n. is_step (stage_at n)) 1 13 refl n l (omega arith)

  -- of a number that is not idle's
  pub is-step : (n ≡ 0 → ⊥) → is_step (stage_at n) ≡ leb n 13
  is-step busy = go (dec_le n 13)
    where
      go : Dec (n ≤ 13) → is_step (stage_at n) ≡ leb n 13
      go (yes h) = inside (omega arith) h ∙ sym (le-leb n 13 h)
      go (no h) =
          let g : 13 < n = omega (arith, h) in
          let out : 1 ≤ n → n ≤ 13 → ⊥ = λ a b. h b in
          rw (outside out, lt-leb n 13 g)

  pub is_cas_lem : is_cas (stage_at n) ≡ eqb n 12
  is_cas_lem = go (dec_le 1 n) (dec_le n 13)
    where
      same : Bool → Bool → Bool
      same a b = cond a b (not b)

      alike : (a b : Bool) → same a b ≡ true → a ≡ b
      alike true true e = refl
      alike true false e = sym e
      alike false true e = e
      alike false false e = refl

      elsewhere : (1 ≤ n → n ≤ 13 → ⊥) → is_cas (stage_at n) ≡ eqb n 12
      elsewhere out =
          let other : n ≡ 12 → ⊥ = λ i. out (omega arith) (omega arith) in
          rw (outside out, ne_eqb n 12 other)

      go : Dec (1 ≤ n) → Dec (n ≤ 13) → is_cas (stage_at n) ≡ eqb n 12
      go (yes l) (yes h) = alike (is_cas (stage_at n)) (eqb n 12) (all-at (λ n. same (is_cas (stage_at n)) (eqb n 12)) 1 13 refl n l (omega arith))
      go (no l) h = elsewhere (λ a b. l a)
      go (yes l) (no h) = elsewhere (λ a b. h b)
