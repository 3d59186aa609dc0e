-- Words and numbers of a written file are answered yes by question 13.
use mathlib.Core.Path.{◌≡◌, refl, ap, ◌∙◌}
use mathlib.Core.Bool.{Bool, true, false, cond, ◌&&◌, and-eq-true_iff}
use mathlib.Core.List.{List, [], ◌∷◌, ◌++◌, append_assoc}
use Prim.Native.Nat.{ℕ, zero, suc, ◌+◌, ◌/◌, ◌%◌, ◌<◌}
use native.Mathlib.Omega.{arith}
use borrow.Author.Tests.{lt-ltb, ltb-true, ne_eqb}
use lib.Dec.{eqb, ltb}
use Rattle.text.specs.Bytes.{digits, decimal}
use Rattle.text.specs.Lines.{numbers}
use Rattle.session_spec.specs.Shape.{fits, deeper, shaped_after}

-- letters and digits stand above brackets, spaces and line ends
abbrev pub above : List ℕ → Bool
above [] = true
above (b ∷ l) = ltb 41 b && above l

pub first_above : (c : Bool) (t : List ℕ) → above t ≡ true → above (cond c [] t) ≡ true
first_above true t a = refl
first_above false t a = a

above_both : (t u : List ℕ) → above t ≡ true → above u ≡ true → above (t ++ u) ≡ true
above_both [] u a b = b
above_both (x ∷ t) u a b = let q = (and-eq-true_iff (ltb 41 x) (above t)).0 a in rw q.0 (above_both t u q.1 b)

digits_above : (k n : ℕ) → above (digits k n) ≡ true
unfolding digits
digits_above zero n = refl
digits_above (suc k) n = above_both (cond (ltb n 10) [] (digits k (n / 10))) ((48 + n % 10) ∷ []) (first_above (ltb n 10) (digits k (n / 10)) (digits_above k (n / 10))) (rw (lt-ltb 41 (48 + n % 10) (omega arith)))

-- ONE BYTE

module _ (d : ℕ) (inside : 0 < d) where
  item_byte : (p b : ℕ) (s : List ℕ) → eqb p 41 ≡ false → 41 < b → shaped_after d p (b ∷ s) ≡ shaped_after d b s
  unfolding shaped_after fits deeper
  item_byte p b s e h =
      rw (ne_eqb b 40 (λ z. omega (arith, z)), ne_eqb b 41 (λ z. omega (arith, z)), ne_eqb b 32 (λ z. omega (arith, z)), ne_eqb b 10 (λ z. omega (arith, z)), lt-ltb 0 d inside, e)

  -- after one of them all is as after another
  after-item : (b : ℕ) (s : List ℕ) → 41 < b → shaped_after d b s ≡ shaped_after d 48 s
  unfolding shaped_after fits
  after-item b [] h = rw (ne_eqb b 10 (λ z. omega (arith, z)))
  after-item b (c ∷ s) h = rw (ne_eqb b 40 (λ z. omega (arith, z)), ne_eqb b 41 (λ z. omega (arith, z)), ne_eqb b 32 (λ z. omega (arith, z)), ne_eqb b 10 (λ z. omega (arith, z)))

  pub after-space : (s : List ℕ) → shaped_after d 48 (32 ∷ s) ≡ shaped_after d 32 s
  unfolding shaped_after fits deeper
  after-space s = rw (lt-ltb 0 d inside)

  -- A WORD, AND A NUMBER

  -- all but its last byte, that one, and what follows
  pub item-shaped : (t : List ℕ) (p b : ℕ) (s : List ℕ) → eqb p 41 ≡ false → above t ≡ true → 41 < b → shaped_after d p (t ++ (b ∷ s)) ≡ shaped_after d 48 s
  item-shaped [] p b s e a h = item_byte p b s e h ∙ after-item b s h
  item-shaped (c ∷ t) p b s e a h =
      let q = (and-eq-true_iff (ltb 41 c) (above t)).0 a in
      let k = ltb-true 41 c q.0 in
      item_byte p c (t ++ (b ∷ s)) e k ∙ item-shaped t c b s (ne_eqb c 41 (λ z. omega (arith, z))) q.1 h

  pub decimal-shaped : (p n : ℕ) (s : List ℕ) → eqb p 41 ≡ false → shaped_after d p (decimal n ++ s) ≡ shaped_after d 48 s
  unfolding digits
  decimal-shaped p n s e =
      let t = cond (ltb n 10) [] (digits 19 (n / 10)) in
      ap (shaped_after d p) (append_assoc t ((48 + n % 10) ∷ []) s) ∙ item-shaped t p (48 + n % 10) s e (first_above (ltb n 10) (digits 19 (n / 10)) (digits_above 19 (n / 10))) (omega arith)

  pub numbers-shaped : (l s : List ℕ) → shaped_after d 48 (numbers l ++ s) ≡ shaped_after d 48 s
  unfolding numbers
  numbers-shaped [] s = refl
  numbers-shaped (n ∷ l) s =
      rw (append_assoc (decimal n) (numbers l) s) (after-space (decimal n ++ (numbers l ++ s)) ∙ decimal-shaped 32 n (numbers l ++ s) refl ∙ numbers-shaped l s)
