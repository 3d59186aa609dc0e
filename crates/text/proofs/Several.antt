-- The reader of k numbers, with some of them read, and what is stored of them.
use mathlib.Core.Path.{◌≡◌, refl, sym, ap, ◌∙◌}
use mathlib.Core.List.{List, [], ◌∷◌, ◌++◌, append_assoc, append-nil}
use mathlib.Core.Option.{Option, none, some}
use Prim.Native.Nat.{ℕ, zero, suc, ◌+◌, ◌-◌, ◌*◌, ◌≤◌, ◌<◌}
use native.Mathlib.Nat.{sub-zero}
use native.Mathlib.Omega.{arith}
use lib.ListN.{length, take, drop, set, take-append-drop}
use Rattle.text.specs.Readers.{Reader, Reads, pure, onward, several, overwritten, stored}
use Rattle.text.proofs.Appending.{later, one}
use Rattle.text.proofs.Reading.{drop_byte}

-- the numbers l, and then those that x found
abbrev pub prefixed : List ℕ → Option (List ℕ × List ℕ) → Option (List ℕ × List ℕ)
prefixed l x = onward x λ m. pure (l ++ m)

prefixed_by_nothing : (x : Option (List ℕ × List ℕ)) → prefixed [] x ≡ x
prefixed_by_nothing none = refl
prefixed_by_nothing (some (m, r)) = refl

prefixed_by_one : (l : List ℕ) (v : ℕ) (x : Option (List ℕ × List ℕ)) → prefixed l (onward x λ m. pure (v ∷ m)) ≡ prefixed (l ++ (v ∷ [])) x
prefixed_by_one l v none = refl
prefixed_by_one l v (some (m, r)) = ap (λ (y : List ℕ). some (y, r)) (sym (append_assoc l (v ∷ []) m))

module _ (p : Reader ℕ) where
  none_read : (k : ℕ) (t : List ℕ) → prefixed [] (several p (k - 0) t) ≡ several p k t
  none_read k t = rw sub-zero (prefixed_by_nothing (several p k t))

  all_read : (l : List ℕ) (k n : ℕ) (t : List ℕ) → k ≡ n → prefixed l (several p (k - n) t) ≡ some (l, t)
  unfolding several
  all_read l k n t e = let z : k - n ≡ 0 = omega arith in rw (z, append-nil)

  -- STORED

  nothing_stored : (k : ℕ) (s old : List ℕ) → p s ≡ none → stored p k s old ≡ old
  unfolding stored
  nothing_stored zero s old e = refl
  nothing_stored (suc k) s [] e = refl
  nothing_stored (suc k) s (o ∷ old) e = rw e

  no_more_stored : (k n : ℕ) (s old : List ℕ) → k ≡ n → stored p (k - n) s old ≡ old
  unfolding stored
  no_more_stored k n s old e = let z : k - n ≡ 0 = omega arith in rw z

  -- behind the first k words nothing is stored
  pub stored-rest : (k : ℕ) (s old : List ℕ) → drop k (stored p k s old) ≡ drop k old
  unfolding stored
  stored-rest zero s old = refl
  stored-rest (suc k) s [] = refl
  stored-rest (suc k) s (o ∷ old) = go (p s) λ t. stored-rest k t old
    where
      go : (x : Option (ℕ × List ℕ)) → ((t : List ℕ) → drop k (stored p k t old) ≡ drop k old) → drop (suc k) (overwritten x (λ t. stored p k t old) (o ∷ old)) ≡ drop k old
      go none i = refl
      go (some (v, t)) i = i t

  module _ (s : List ℕ) (k n i : ℕ) (h : n < k) where
    left : k - n ≡ suc (k - (n + 1))
    left = omega arith

    none_there : (l : List ℕ) → p (drop i s) ≡ none → prefixed l (several p (k - n) (drop i s)) ≡ none
    unfolding several
    none_there l e = rw (left, e)

    module _ {v j : ℕ} (x : Reads p s i 2 v j) where
      one_more : (l : List ℕ) → prefixed l (several p (k - n) (drop i s)) ≡ prefixed (l ++ (v ∷ [])) (several p (k - (n + 1)) (drop j s))
      unfolding several
      one_more l = rw (left, x.finds) (prefixed_by_one l v (several p (k - (n + 1)) (drop j s)))

      one_stored : (old : List ℕ) → n < length old → stored p (k - n) (drop i s) (drop n old) ≡ v ∷ stored p (k - (n + 1)) (drop j s) (drop (n + 1) old)
      unfolding stored
      one_stored old b = rw (left, drop_byte old n b, x.finds)

-- a loop that has read and stored n of k numbers, from the place at up to i
pub record Storing (p : Reader ℕ) (s : List ℕ) (at k : ℕ) (old new : List ℕ) (i n : ℕ) : Type 0 where
  pub past : at + 2 * n ≤ i
  pub read : prefixed (take n new) (several p (k - n) (drop i s)) ≡ several p k (drop at s)
  pub put : take n new ++ stored p (k - n) (drop i s) (drop n old) ≡ stored p k (drop at s) old
  pub rest : drop n new ≡ drop n old

module _ (p : Reader ℕ) (s : List ℕ) (at k : ℕ) (old : List ℕ) where
  pub none_stored : Storing p s at k old old at 0
  none_stored = record { past = omega arith; read = none_read p k (drop at s); put = rw sub-zero; rest = refl }

  module _ {new : List ℕ} {i n : ℕ} (x : Storing p s at k old new i n) where
    -- what is stored so far is all
    as_stored : stored p (k - n) (drop i s) (drop n old) ≡ drop n old → new ≡ stored p k (drop at s) old
    as_stored e =
        sym (take-append-drop n new) ∙ ap (λ (l : List ℕ). take n new ++ l) (x.rest ∙ sym e) ∙ x.put

    pub one_missing : n < k → p (drop i s) ≡ none → (several p k (drop at s) ≡ none) × (new ≡ stored p k (drop at s) old)
    one_missing h e = (sym x.read ∙ none_there p s k n i h (take n new) e, as_stored (nothing_stored p (k - n) (drop i s) (drop n old) e))

    pub all-stored : k ≡ n → i ≤ length s → Reads (several p k) s at (2 * k) (take k new) i × (new ≡ stored p k (drop at s) old)
    all-stored e w = (
      record {
        finds = sym x.read ∙ all_read p (take n new) k n (drop i s) e ∙ ap (λ (j : ℕ). some (take j new, drop i s)) (sym e);
        past = omega (arith, x.past);
        within = w;
      },
      as_stored (no_more_stored p k n (drop i s) (drop n old) e),
    )

    pub then_stored : {v j : ℕ} → n < k → n < length new → length new ≡ length old → Reads p s i 2 v j → Storing p s at k old (set new n v) j (n + 1)
    then_stored {v} {j} h b e y =
        let w = one new n v b in
        record {
          past = omega (arith, x.past, y.past);
          read = rw w.stored.words (sym (one_more p s k n i h y (take n new)) ∙ x.read);
          put = rw w.stored.words (append_assoc (take n new) (v ∷ []) _ ∙ ap (λ (l : List ℕ). take n new ++ l) (sym (one_stored p s k n i h y old (omega (arith, b, e)))) ∙ x.put);
          rest = w.rest ∙ later old new n (n + 1) (omega arith) x.rest;
        }
