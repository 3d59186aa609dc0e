-- A mark and its word: the words' order is the marks' order, and a word's line is its mark's.
use mathlib.Core.Path.{◌≡◌, refl, sym, ap, ap₂, ◌∙◌}
use mathlib.Core.Bool.{Bool, true, false, cond}
use mathlib.Core.List.{List, [], ◌∷◌, ◌++◌, map}
use Prim.Native.Nat.{ℕ, ◌+◌, ◌*◌, ◌/◌, ◌%◌, ◌≤◌, ◌<◌}
use native.Mathlib.Omega.{arith}
use native.Mathlib.Decide.{dec_le}
use lib.Dec.{eqb, leb}
use borrow.Author.Tests.{le-leb, lt-leb, leb-true, leb-false, eqb-true, eqb-false}
use Rattle.history_spec.specs.History.{cell_of, Kind, a_read, a_swap, kind_of}
use Rattle.history_spec.specs.Moments.{Side, before, itself, after, Rule, R1, R2, C1, C2, C3, C4, C5, C6, Mark, changing, side_number, key, not_after, insert, sort}
use Rattle.moments_spec.specs.Lines.{at_line, mark_line, mark_lines}
use Rattle.std.specs.Prelude.{Some}
use Rattle.moments_tool.specs.Words.{rule_number, kind_number, rank, joined, encode, insert_word, entered, IsWord, FitsWord, AllFit, Listed, side_at, kind_bit, rule_numbered, word_line, word_lines}
use Rattle.moments_tool.proofs.Sorting.{insert-sorted}

-- THE PARTS

pub side-small : (s : Side) → side_number s ≤ 2
side-small before = omega arith
side-small itself = omega arith
side-small after = omega arith

pub rule-small : (r : Rule) → rule_number r ≤ 7
rule-small R1 = omega arith
rule-small R2 = omega arith
rule-small C1 = omega arith
rule-small C2 = omega arith
rule-small C3 = omega arith
rule-small C4 = omega arith
rule-small C5 = omega arith
rule-small C6 = omega arith

pub kind-small : (k : Kind) → kind_number k ≤ 1
kind-small a_read = omega arith
kind-small a_swap = omega arith

pub bit_small : (b : Bool) → cond b 0 1 ≤ 1
bit_small true = omega arith
bit_small false = omega arith

side_back : (s : Side) → side_at (side_number s) ≡ s
side_back before = refl
side_back itself = refl
side_back after = refl

kind_back : (k : Kind) → kind_bit (kind_number k) ≡ k
kind_back a_read = refl
kind_back a_swap = refl

rule_back : (r : Rule) → rule_numbered (rule_number r) ≡ r
rule_back R1 = refl
rule_back R2 = refl
rule_back C1 = refl
rule_back C2 = refl
rule_back C3 = refl
rule_back C4 = refl
rule_back C5 = refl
rule_back C6 = refl

module _ (m s c t d k r : ℕ) (hs : s ≤ 2) (hc : c ≤ 1) (ht : t < 32) (hd : d ≤ 1) (hk : k < 16) (hr : r ≤ 7) where
  abbrev w : ℕ
  w = joined (rank m s c t) d k r

  rank_back : w / 256 ≡ rank m s c t
  rank_back = omega arith

  parts_back : (w / 65536 ≡ m) × (w / 16384 % 4 ≡ s) × (w / 256 % 32 ≡ t) × (w / 128 % 2 ≡ d) × (w / 8 % 16 ≡ k) × (w % 8 ≡ r)
  parts_back = (omega arith, omega arith, omega arith, omega arith, omega arith, omega arith)

-- THE ORDER

otherwise : (a b : ℕ) → (b ≤ a → ⊥) → a < b
otherwise a b f = go (dec_le b a)
  where
    go : Dec (b ≤ a) → a < b
    go (yes h) = absurd (f h)
    go (no h) = omega (arith, h)

same_leb : (x y u v : ℕ) → (x ≤ y → u ≤ v) → (u ≤ v → x ≤ y) → leb x y ≡ leb u v
same_leb x y u v f g = go (leb u v) refl
  where
    go : (b : Bool) → leb u v ≡ b → leb x y ≡ b
    go true e = le-leb x y (g (leb-true u v e))
    go false e = lt-leb x y (otherwise y x (λ h. omega (arith, leb-false u v e, f h)))

-- numbers of two digits, the first of which weighs more
module _ (a c x y w b d : ℕ) (same : a ≡ c → x ≡ y) (less : a < c → x + w ≤ y) (more : c < a → y + w ≤ x) (hb : b < w) (hd : d < w) where
  two_digits : cond (eqb a c) (leb b d) (leb a c) ≡ leb (x + b) (y + d)
  two_digits = go (eqb a c) refl
    where
      go : (z : Bool) → eqb a c ≡ z → cond z (leb b d) (leb a c) ≡ leb (x + b) (y + d)
      go true e = let q = same (eqb-true a c e) in same_leb b d (x + b) (y + d) (λ h. omega (arith, q, h)) (λ h. omega (arith, q, h))
      go false e = same_leb a c (x + b) (y + d)
          (λ h. let l : a < c = unequal h (eqb-false a c e) in omega (arith, less l, hb))
          (λ h. by h)
        where
          unequal : a ≤ c → (a ≡ c → ⊥) → a < c
          unequal h n = omega (arith, h, n)

          by : x + b ≤ y + d → a ≤ c
          by h = let k = otherwise a (c + 1) (λ g. omega (arith, h, hd, more (omega (arith, g)))) in omega (arith, k)

last_digit : (t u : ℕ) → cond (eqb t u) true (leb t u) ≡ leb t u
last_digit t u = go (eqb t u) refl
  where
    go : (z : Bool) → eqb t u ≡ z → cond z true (leb t u) ≡ leb t u
    go true e = sym (le-leb t u (omega (arith, eqb-true t u e)))
    go false e = refl

module _ (m s c t m' s' c' t' : ℕ) (hs : s ≤ 2) (hs' : s' ≤ 2) (hc : c ≤ 1) (hc' : c' ≤ 1) (ht : t < 32) (ht' : t' < 32) where
  ranked : not_after (m ∷ s ∷ c ∷ t ∷ []) (m' ∷ s' ∷ c' ∷ t' ∷ []) ≡ leb (rank m s c t) (rank m' s' c' t')
  ranked =
      ap (λ (z : Bool). cond (eqb m m') (cond (eqb s s') (cond (eqb c c') z (leb c c')) (leb s s')) (leb m m')) (last_digit t t')
      ∙ ap (λ (z : Bool). cond (eqb m m') (cond (eqb s s') z (leb s s')) (leb m m')) (two_digits c c' (c * 32) (c' * 32) 32 t t' (λ h. omega (arith, h)) (λ h. omega (arith, h)) (λ h. omega (arith, h)) ht ht')
      ∙ ap (λ (z : Bool). cond (eqb m m') z (leb m m')) (two_digits s s' (s * 64) (s' * 64) 64 (c * 32 + t) (c' * 32 + t') (λ h. omega (arith, h)) (λ h. omega (arith, h)) (λ h. omega (arith, h)) (omega arith) (omega arith))
      ∙ two_digits m m' (m * 256) (m' * 256) 256 (s * 64 + (c * 32 + t)) (s' * 64 + (c' * 32 + t')) (λ h. omega (arith, h)) (λ h. omega (arith, h)) (λ h. omega (arith, h)) (omega arith) (omega arith)

module _ (x : Mark) (h : FitsWord x) where
  abbrev rank_of : ℕ
  rank_of = rank x.spot.moment (side_number x.spot.side) (cond (changing x) 0 1) x.call.task

  encode-rank : encode x / 256 ≡ rank_of
  encode-rank = rank_back x.spot.moment (side_number x.spot.side) (cond (changing x) 0 1) x.call.task (kind_number (kind_of x.call.op)) (cell_of x.call.op) (rule_number x.spot.rule)
      (side-small x.spot.side) (bit_small (changing x)) h.task (kind-small (kind_of x.call.op)) h.cell (rule-small x.spot.rule)

  -- THE LINE
  pub encode-line : mark_line x ≡ word_line (encode x)
  encode-line =
      let p = parts_back x.spot.moment (side_number x.spot.side) (cond (changing x) 0 1) x.call.task (kind_number (kind_of x.call.op)) (cell_of x.call.op) (rule_number x.spot.rule)
      (side-small x.spot.side) (bit_small (changing x)) h.task (kind-small (kind_of x.call.op)) h.cell (rule-small x.spot.rule) in
      sym (λ i. at_line (record { moment = p.0 i; side = (ap side_at p.1 ∙ side_back x.spot.side) i; rule = (ap rule_numbered p.5 ∙ rule_back x.spot.rule) i }) (p.2 i) ((ap kind_bit p.3 ∙ kind_back (kind_of x.call.op)) i) (p.4 i))

encode_order : (x y : Mark) → FitsWord x → FitsWord y → not_after (key x) (key y) ≡ leb (encode x / 256) (encode y / 256)
encode_order x y h k =
    ranked x.spot.moment (side_number x.spot.side) (cond (changing x) 0 1) x.call.task y.spot.moment (side_number y.spot.side) (cond (changing y) 0 1) y.call.task
    (side-small x.spot.side) (side-small y.spot.side) (bit_small (changing x)) (bit_small (changing y)) h.task k.task
    ∙ sym (ap₂ leb (encode-rank x h) (encode-rank y k))

-- LISTS

all_insert : (m : Mark) (l : List Mark) → FitsWord m → AllFit l → AllFit (insert m l)
all_insert m [] h s = (h, tt)
all_insert m (y ∷ l) h s = go (not_after (key m) (key y)) (all_insert m l h s.1)
  where
    go : (b : Bool) → AllFit (insert m l) → AllFit (cond b (m ∷ y ∷ l) (y ∷ insert m l))
    go true r = (h, s)
    go false r = (s.0, r)

encode-insert : (m : Mark) (l : List Mark) → FitsWord m → AllFit l → map encode (insert m l) ≡ insert_word (encode m) (map encode l)
encode-insert m [] h s = refl
encode-insert m (y ∷ l) h s = go (not_after (key m) (key y)) (sym (encode_order m y h s.0)) (encode-insert m l h s.1)
  where
    go : (b : Bool) → leb (encode m / 256) (encode y / 256) ≡ b → map encode (insert m l) ≡ insert_word (encode m) (map encode l)
        → map encode (cond b (m ∷ y ∷ l) (y ∷ insert m l)) ≡ cond (leb (encode m / 256) (encode y / 256)) (encode m ∷ encode y ∷ map encode l) (encode y ∷ insert_word (encode m) (map encode l))
    go true e r = rw e
    go false e r = rw (e, r)

pub none_listed : Listed [] []
none_listed = record { same = refl; fit = tt; sorted = tt }

one_listed : {words : List ℕ} {l : List Mark} → Listed words l → (m : Mark) → FitsWord m → Listed (insert_word (encode m) words) (m ∷ l)
one_listed {words} {l} x m h = record {
  same = ap (insert_word (encode m)) x.same ∙ sym (encode-insert m (sort l) h x.fit);
  fit = all_insert m (sort l) h x.fit;
  sorted = insert-sorted (encode m) words x.sorted;
}

-- A MARK THAT IS MADE: a word of 32 bits has a moment of 16

pub entered_listed : {words : List ℕ} {l : List Mark} → Listed words l → (m : Mark) → IsWord (encode m) → m.call.task < 32 → cell_of m.call.op < 16 → Listed (entered (Some (encode m)) words) (m ∷ l)
entered_listed x m w h k = one_listed x m (record { moment = omega (arith, w); task = h; cell = k })

lines_same : (l : List Mark) → AllFit l → word_lines (map encode l) ≡ mark_lines l
unfolding word_lines mark_lines
lines_same [] s = refl
lines_same (m ∷ l) s = ap₂ (λ (x y : List ℕ). x ++ y) (sym (encode-line m s.0)) (lines_same l s.1)

pub listed_lines : {words : List ℕ} {l : List Mark} → Listed words l → word_lines words ≡ mark_lines (sort l)
listed_lines {l = l} x = ap word_lines x.same ∙ lines_same (sort l) x.fit
