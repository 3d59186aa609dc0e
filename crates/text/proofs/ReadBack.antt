-- What is written is read back: words, and numbers in decimal.
use mathlib.Core.Path.{◌≡◌, refl, ap, ◌∙◌}
use mathlib.Core.Bool.{Bool, true, false, cond}
use mathlib.Core.List.{List, [], ◌∷◌, ◌++◌, append_assoc}
use mathlib.Core.Option.{some}
use Prim.Native.Nat.{ℕ, zero, suc, ◌+◌, ◌-◌, ◌*◌, ◌/◌, ◌%◌, ◌^◌, ◌≤◌, ◌<◌}
use native.Mathlib.Nat.{div-lt_iff_lt-mul, pow-suc}
use native.Mathlib.Omega.{arith}
use borrow.Author.Tests.{le-leb, eq-eqb, ne_eqb, ltb-true, ltb-false}
use lib.Dec.{ltb}
use Rattle.text.specs.Bytes.{digits, decimal}
use Rattle.text.specs.Readers.{literal, is_digit, digits_after, number}
use Rattle.text.proofs.Reading.{digit}

-- the word w, whatever follows it
pub word_back : (w s : List ℕ) → literal w (w ++ s) ≡ some (tt, s)
unfolding literal
word_back [] s = refl
word_back (x ∷ w) s = rw (eq-eqb x x refl) (word_back w s)

-- a number ends before a text that starts with no digit
abbrev pub starts_digit : List ℕ → Bool
starts_digit [] = false
starts_digit (d ∷ s) = is_digit d

digits_stop : (v : ℕ) (s : List ℕ) → starts_digit s ≡ false → digits_after v s ≡ some (v, s)
unfolding digits_after
digits_stop v [] e = refl
digits_stop v (d ∷ s) e = rw e

first_digit : (n : ℕ) (s : List ℕ) → 0 < n → n < 10 → number ((48 + n % 10) ∷ s) ≡ digits_after n s
unfolding number
first_digit n s h k =
    let e : 48 + n % 10 ≡ 48 + n = omega arith in
    let m : 48 + n - 48 ≡ n = omega arith in
    rw (e, ne_eqb (48 + n) 48 (λ z. omega (arith, z)), digit (48 + n) (omega arith) (omega arith), m)

next_digit : (n : ℕ) (s : List ℕ) → n ≤ 4294967295 → digits_after (n / 10) ((48 + n % 10) ∷ s) ≡ digits_after n s
unfolding digits_after
next_digit n s h =
    let m : n / 10 * 10 + (48 + n % 10 - 48) ≡ n = omega arith in
    rw (digit (48 + n % 10) (omega arith) (omega arith), m, le-leb n 4294967295 h)

-- the digits of a number other than 0, whatever follows them
abbrev Back : ℕ → Type 0
Back k = (n : ℕ) (s : List ℕ) → 0 < n → n ≤ 4294967295 → n < 10 ^ k → number (digits k n ++ s) ≡ digits_after n s

more_back : (k : ℕ) → Back k → Back (suc k)
unfolding digits
more_back k back n s h j b = go (ltb n 10) refl
  where
    go : (c : Bool) → ltb n 10 ≡ c → number ((cond c [] (digits k (n / 10)) ++ ((48 + n % 10) ∷ [])) ++ s) ≡ digits_after n s
    go true e = first_digit n s h (ltb-true n 10 e)
    go false e =
        let more = ltb-false n 10 e in
        let below : n / 10 < 10 ^ k = (div-lt_iff_lt-mul {k = 10} {x = n} {y = 10 ^ k} (omega arith)).1 (rw pow-suc at b) in
        ap number (append_assoc (digits k (n / 10)) ((48 + n % 10) ∷ []) s)
        ∙ back (n / 10) ((48 + n % 10) ∷ s) (omega (arith, more)) (omega arith) below ∙ next_digit n s j

digits_back : (k : ℕ) → Back k
digits_back zero n s h j b = absurd (omega arith)
digits_back (suc k) n s h j b = more_back k (digits_back k) n s h j b

-- a number of 32 bits, before a text that starts with no digit
pub number_back : (n : ℕ) (s : List ℕ) → n ≤ 4294967295 → starts_digit s ≡ false → number (decimal n ++ s) ≡ some (n, s)
unfolding digits number
number_back zero s h e = refl
number_back (suc n) s h e = digits_back 20 (suc n) s (omega arith) h (omega arith) ∙ digits_stop (suc n) s e
