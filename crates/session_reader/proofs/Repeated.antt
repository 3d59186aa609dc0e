-- Words copied behind themselves.
use mathlib.Core.Path.{◌≡◌, refl, sym, ap, ◌∙◌}
use mathlib.Core.List.{List, [], ◌∷◌, ◌++◌, append_assoc, append-nil}
use Prim.Native.Nat.{ℕ, zero, suc, ◌+◌, ◌-◌, ◌*◌, ◌≤◌, ◌<◌}
use native.Mathlib.Nat.{suc-mul, mul-zero}
use native.Mathlib.Omega.{arith}
use lib.ListN.{length, take, drop, get_or, set, length-append, length-drop, get_or-append}
use lib.Seq.{length-take-le, take-add, take_at, take_all, get_or-append-add, get_or-take}
use Rattle.text.specs.Append.{Appended}
use Rattle.text.proofs.Appending.{more}
use Rattle.session_spec.specs.Session.{times}

module _ {A : Type 0} where
  pub times_none : (l : List A) → times 0 l ≡ []
  unfolding times
  times_none [] = refl
  times_none (a ∷ l) = refl

  pub times_more : (c : ℕ) (l : List A) → times (suc c) l ≡ l ++ times c l
  unfolding times
  times_more c [] = refl
  times_more c (a ∷ l) = refl

  times-last : (c : ℕ) (l : List A) → times (suc c) l ≡ times c l ++ l
  times-last zero l = times_more zero l ∙ ap (λ (x : List A). l ++ x) (times_none l) ∙ append-nil l ∙ ap (λ (x : List A). x ++ l) (sym (times_none l))
  times-last (suc c) l =
      times_more (suc c) l ∙ ap (λ (x : List A). l ++ x) (times-last c l) ∙ sym (append_assoc l (times c l) l)
      ∙ ap (λ (x : List A). x ++ l) (sym (times_more c l))

  pub length_times : (c : ℕ) (l : List A) → length (times c l) ≡ c * length l
  length_times zero l = ap length (times_none l) ∙ omega arith
  length_times (suc c) l = ap length (times_more c l) ∙ length-append l (times c l) ∙ rw (suc-mul, length_times c l) (omega arith)

-- one time further on stands the same
again-same : (c i : ℕ) (l : List ℕ) → i < c * length l → get_or (times (suc c) l) (length l + i) 0 ≡ get_or (times (suc c) l) i 0
again-same c i l h =
    ap (λ (x : List ℕ). get_or x (length l + i) 0) (times_more c l) ∙ get_or-append-add l (times c l) i 0
    ∙ sym (get_or-append (times c l) l 0 i (omega (arith, length_times c l))) ∙ ap (λ (x : List ℕ). get_or x i 0) (sym (times-last c l))

some_words : (c k i : ℕ) → i < c * k → 0 < k
some_words c zero i h = omega (arith, mul-zero c)
some_words c (suc k) i h = omega arith

-- the block of words from n to m stands c times behind n: so far up to `to`
module _ (old : List ℕ) (n m c : ℕ) (h : n ≤ m) (g : m ≤ length old) (pos : 0 < c) where
  abbrev pub block : List ℕ
  block = take (m - n) (drop n old)

  block_length : length block ≡ m - n
  block_length = length-take-le (m - n) (drop n old) (omega (arith, length-drop n old))

  pub copied_start : Appended old old n m (take (m - n) (times c block))
  copied_start =
      let e : suc (c - 1) ≡ c = omega arith in
      let b : n + (m - n) ≡ m = omega arith in
      let first : take (m - n) (times c block) ≡ block =
      ap (λ (k : ℕ). take (m - n) (times k block)) (sym e) ∙ ap (take (m - n)) (times_more (c - 1) block)
      ∙ take_at block (times (c - 1) block) (m - n) block_length in
      record {
        stored = record {
          words = ap (λ (k : ℕ). take k old) (sym b) ∙ take-add n (m - n) old ∙ ap (λ (x : List ℕ). take n old ++ x) (sym first);
          next = omega (arith, ap length first, block_length);
        };
        rest = refl;
      }

  all : length (times c block) ≡ c * (m - n)
  all = length_times c block ∙ ap (λ (k : ℕ). c * k) block_length

  pub copied_end : {new : List ℕ} {to : ℕ} → Appended old new n to (take (to - n) (times c block)) → to ≡ n + c * (m - n) → Appended old new n to (times c block)
  copied_end {new} {to} x e = rw (take_all (to - n) (times c block) (omega (arith, all))) at x

  module _ {new : List ℕ} {to : ℕ} (x : Appended old new n to (take (to - n) (times c block))) (low : m ≤ to) (high : to < n + c * (m - n)) where
    -- the word one block back is the next of the copies
    back : get_or new (to - (m - n)) 0 ≡ get_or (times c block) (to - n) 0
    back =
        let k : 0 < m - n = some_words c (m - n) (to - n) (omega arith) in
        let i : ℕ = to - (m - n) - n in
        let e : suc (c - 1) ≡ c = omega arith in
        let b : length block ≡ m - n = block_length in
        let o : length (take n old) ≡ n = length-take-le n old (omega arith) in
        let there : length (take n old) + i ≡ to - (m - n) = omega arith in
        let far : length block + i ≡ to - n = omega arith in
        let fits : i < (c - 1) * length block = rw b (omega (arith, suc-mul (c - 1) (m - n), ap (λ (j : ℕ). j * (m - n)) e)) in
        sym (get_or-take to new (to - (m - n)) 0 (omega arith)) ∙ ap (λ (l : List ℕ). get_or l (to - (m - n)) 0) x.stored.words
        ∙ ap (λ (j : ℕ). get_or (take n old ++ take (to - n) (times c block)) j 0) (sym there)
        ∙ get_or-append-add (take n old) (take (to - n) (times c block)) i 0 ∙ get_or-take (to - n) (times c block) i 0 (omega arith)
        ∙ rw (e, far) at (sym (again-same (c - 1) i block fits))

    pub copied_more : to < length new → Appended old (set new to (get_or new (to - (m - n)) 0)) n (to + 1) (take (to + 1 - n) (times c block))
    copied_more k =
        let here : n + (to - n) ≡ to = omega arith in
        let next : n + (to - n + 1) ≡ to + 1 = omega arith in
        let one : to + 1 - n ≡ to - n + 1 = omega arith in
        rw (back, one) (rw (here, next) at (more {o = new} {o₀ = old} (times c block) n (to - n) (rw here x) (omega arith) (omega (arith, all))))
