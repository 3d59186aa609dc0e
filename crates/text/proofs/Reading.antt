-- Laws of readers at a place of a text.
use mathlib.Core.Path.{◌≡◌, refl, sym, ap, ◌∙◌}
use mathlib.Core.Bool.{Bool, true, false, cond, ◌&&◌}
use mathlib.Core.List.{List, [], ◌∷◌}
use mathlib.Core.Option.{none, some}
use Prim.Native.Nat.{ℕ, ◌+◌, ◌-◌, ◌*◌, ◌≤◌, ◌<◌}
use native.Mathlib.Numerals.{add-one}
use native.Mathlib.Omega.{arith}
use borrow.Author.Tests.{ltb-true, ltb-false, le-leb, lt-leb, eq-eqb, ne_eqb}
use lib.Dec.{eqb, ltb}
use lib.ListN.{length, take, drop, get_or, length-drop, drop_of_length-le}
use lib.Pointwise.{pointwise}
use lib.Seq.{take_all, drop-cons, drop-drop}
use Rattle.std.proofs.lemmas.Grind.{get_or_default_zero}
use Rattle.text.specs.Readers.{Reads, literal, is_digit, digits_after, number}

-- the byte at a place, and the text after it
pub drop_byte : (s : List ℕ) (i : ℕ) → i < length s → drop i s ≡ get_or s i 0 ∷ drop (i + 1) s
drop_byte s i h = rw (add-one, drop-cons s i 0 h)

-- the word w, as the library's test of a slice's start finds it
literal_is : (w s : List ℕ) → literal w s ≡ cond (pointwise eqb (take (length w) s) w) (some (tt, drop (length w) s)) none
unfolding literal
literal_is [] s = refl
literal_is (x ∷ w) [] = refl
literal_is (x ∷ w) (y ∷ s) = go (eqb y x) (literal_is w s)
  where
    go : (b : Bool) → literal w s ≡ cond (pointwise eqb (take (length w) s) w) (some (tt, drop (length w) s)) none → cond b (literal w s) none ≡ cond (b && pointwise eqb (take (length w) s) w) (some (tt, drop (length w) s)) none
    go true e = e
    go false e = refl

-- the same of the slice from a place on
module _ (w s : List ℕ) (at : ℕ) where
  abbrev slice : List ℕ
  slice = take (length s - at) (drop at s)

  whole_slice : slice ≡ drop at s
  whole_slice = take_all (length s - at) (drop at s) (omega (arith, length-drop at s))

  pub word_no : pointwise eqb (take (length w) slice) w ≡ false → literal w (drop at s) ≡ none
  word_no e = literal_is w (drop at s) ∙ rw (rw whole_slice at e)

  pub word_at : (n : ℕ) → at ≤ length s → pointwise eqb (take (length w) slice) w ≡ true → n + length w ≡ length slice → Reads (literal w) s at (length w) tt (length s - n)
  word_at n h e k =
      let l : n + length w ≡ length s - at = omega (arith, k, ap length whole_slice, length-drop at s) in
      let next : at + length w ≡ length s - n = omega (arith, l) in
      record {
        finds = literal_is w (drop at s) ∙ rw (rw whole_slice at e) (ap (λ (r : List ℕ). some (tt, r)) (drop-drop (length w) at s ∙ ap (λ (i : ℕ). drop i s) next));
        past = omega (arith, next);
        within = omega arith;
      }

pub digit : (d : ℕ) → 48 ≤ d → d ≤ 57 → is_digit d ≡ true
digit d h k = rw (le-leb 48 d h, le-leb d 57 k)

-- what `get` tells of a place
pub out_of : (s : List ℕ) (i : ℕ) → false ≡ ltb i (length s) → length s ≤ i
out_of s i e = ltb-false i (length s) (sym e)

pub got_at : (s : List ℕ) (i d : ℕ) → true ≡ ltb i (length s) → d ≡ get_or s i d → (i < length s) × (d ≡ get_or s i 0)
got_at s i d e x = let h = ltb-true i (length s) (sym e) in (h, x ∙ get_or_default_zero s i d h)

-- a number at the place i, past the end
module _ (s : List ℕ) (i : ℕ) (h : length s ≤ i) where
  pub number-end : number (drop i s) ≡ none
  unfolding number
  number-end = rw (drop_of_length-le s h)

  pub digits-end : (v : ℕ) → digits_after v (drop i s) ≡ some (v, drop i s)
  unfolding digits_after
  digits-end v = rw (drop_of_length-le s h)

-- and by the byte d there
module _ (s : List ℕ) (i d : ℕ) (h : i < length s) (e : d ≡ get_or s i 0) where
  byte : drop i s ≡ d ∷ drop (i + 1) s
  byte = rw e (drop_byte s i h)

  pub number_zero : d ≡ 48 → number (drop i s) ≡ some (0, drop (i + 1) s)
  unfolding number
  number_zero z = rw (byte, eq-eqb d 48 z)

  pub number_other : (d ≡ 48 → ⊥) → is_digit d ≡ false → number (drop i s) ≡ none
  unfolding number
  number_other n f = rw (byte, ne_eqb d 48 n, f)

  pub number_digit : (d ≡ 48 → ⊥) → is_digit d ≡ true → number (drop i s) ≡ digits_after (d - 48) (drop (i + 1) s)
  unfolding number
  number_digit n f = rw (byte, ne_eqb d 48 n, f)

  module _ (v : ℕ) where
    pub digits_other : is_digit d ≡ false → digits_after v (drop i s) ≡ some (v, drop i s)
    unfolding digits_after
    digits_other f = rw (byte, f)

    pub digits-over : is_digit d ≡ true → 4294967295 < v * 10 + (d - 48) → digits_after v (drop i s) ≡ none
    unfolding digits_after
    digits-over f k = rw (byte, f, lt-leb (v * 10 + (d - 48)) 4294967295 k)

    pub digits_more : is_digit d ≡ true → v * 10 + (d - 48) ≤ 4294967295 → digits_after v (drop i s) ≡ digits_after (v * 10 + (d - 48)) (drop (i + 1) s)
    unfolding digits_after
    digits_more f k = rw (byte, f, le-leb (v * 10 + (d - 48)) 4294967295 k)
