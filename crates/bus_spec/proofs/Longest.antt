-- The call that bus names beside the sums: all that finished before it are shorter, and none that finished after it is longer.
use mathlib.Core.Path.{◌≡◌, refl, sym, ap, ◌∙◌, subst}
use mathlib.Core.Bool.{Bool, true, false, cond}
use mathlib.Core.Option.{Option, none, some}
use mathlib.Core.List.{List, [], ◌∷◌, ◌++◌, append_assoc, append-nil}
use Prim.Native.Nat.{ℕ, ◌≤◌, ◌<◌}
use native.Mathlib.Omega.{arith}
use borrow.Author.Tests.{ltb-true, ltb-false}
use Rattle.bus_spec.specs.Bus.{Timed, Sums, no_sums, exceeds, longer, add_call, add_calls}
use Rattle.bus_spec.specs.Choices.{Every, FirstLongest, LongestOf}

module _ {A : Type 0} where
  every_map : (P Q : A → Type 0) → ((a : A) → P a → Q a) → (l : List A) → Every P l → Every Q l
  every_map P Q f [] h = tt
  every_map P Q f (a ∷ l) h = (f a h.0, every_map P Q f l h.1)

  every_append : (P : A → Type 0) (l m : List A) → Every P l → Every P m → Every P (l ++ m)
  every_append P [] m h k = k
  every_append P (a ∷ l) m h k = (h.0, every_append P l m h.1 k)

abbrev Below : ℕ → Timed → Type 0
Below n c = c.greatest < n

abbrev AtMost : ℕ → Timed → Type 0
AtMost n c = c.greatest ≤ n

-- one call more
next : (o : Option Timed) (l : List Timed) (c : Timed) → LongestOf o l → LongestOf (some (longer o c)) (l ++ (c ∷ []))
next none l c h = record { earlier = []; later = []; parts = ap (λ l. l ++ (c ∷ [])) h; shorter = tt; no_longer = tt }
next (some d) l c h = go (exceeds c d) refl
  where
    go : (x : Bool) → exceeds c d ≡ x → FirstLongest (cond x c d) (l ++ (c ∷ []))
    go true e =
        let less = ltb-true _ _ e in
        record {
          earlier = l;
          later = [];
          parts = refl;
          shorter = subst (Every (Below c.greatest)) (sym h.parts)
              (every_append (Below c.greatest) h.earlier (d ∷ h.later)
              (every_map (Below d.greatest) (Below c.greatest) (λ b k. omega (arith, k, less)) h.earlier h.shorter)
              (less, every_map (AtMost d.greatest) (Below c.greatest) (λ b k. omega (arith, k, less)) h.later h.no_longer));
          no_longer = tt;
        }
    go false e = record {
      earlier = h.earlier;
      later = h.later ++ (c ∷ []);
      parts = ap (λ l. l ++ (c ∷ [])) h.parts ∙ append_assoc h.earlier (d ∷ h.later) (c ∷ []);
      shorter = h.shorter;
      no_longer = every_append (AtMost d.greatest) h.later (c ∷ []) h.no_longer (ltb-false _ _ e, tt);
    }

from : (calls : List Timed) (z : Sums) (l : List Timed) → LongestOf z.longest l → LongestOf (add_calls z calls).longest (l ++ calls)
from [] z l h = subst (LongestOf z.longest) (sym (append-nil l)) h
from (c ∷ calls) z l h = subst (LongestOf (add_calls (add_call z c) calls).longest) (append_assoc l (c ∷ []) calls) (from calls (add_call z c) (l ++ (c ∷ [])) (next z.longest l c h))

pub longest_is_first : (calls : List Timed) → LongestOf (add_calls no_sums calls).longest calls
longest_is_first calls = from calls no_sums [] refl
