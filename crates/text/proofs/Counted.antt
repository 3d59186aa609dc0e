-- The end after k numbers.
use Rattle.std.specs.Prelude.{Option, Some, None}
use Rattle.std.specs.Option.{option_eq}
use mathlib.Core.Path.{◌≡◌, refl, sym, ap, ◌∙◌}
use mathlib.Core.Bool.{Bool, true, false}
use mathlib.Core.List.{List}
use mathlib.Core.Option.{some}
use Prim.Native.Nat.{ℕ, ◌≤◌, ◌<◌}
use native.Mathlib.Omega.{arith}
use borrow.Author.Tests.{eqb-true, eqb-false}
use lib.Dec.{eqb}
use lib.ListN.{length, drop, drop_of_length-le}
use lib.Seq.{take_all}
use Rattle.text.specs.Answers.{SeveralIs}
use Rattle.text.proofs.Reading.{drop_byte}
use Rattle.text.specs.Arguments.{argument, whole, numbers_given, numbers_or}

at-end : (s l : List ℕ) (at : ℕ) → at ≤ length s → numbers_or (eqb at (length s)) l ≡ whole (some (l, drop at s))
at-end s l at h = go (eqb at (length s)) refl
  where
    go : (b : Bool) → eqb at (length s) ≡ b → numbers_or b l ≡ whole (some (l, drop at s))
    go true e = let q : length s ≤ at = omega (arith, eqb-true at (length s) e) in rw (drop_of_length-le s q)
    go false e = let q : at < length s = omega (arith, eqb-false at (length s) e) in rw (drop_byte s at q)

-- the place after k numbers, compared with the end
pub given : (s out : List ℕ) (k : ℕ) (r : Option ℕ) → length out ≡ k → SeveralIs argument s 0 k out r → numbers_or (option_eq eqb r (Some (length s))) out ≡ numbers_given k s
unfolding numbers_given
given s out k None e x = ap whole (sym x)
given s out k (Some at) e x =
    at-end s out at x.within ∙ ap (λ (l : List ℕ). whole (some (l, drop at s))) (sym (take_all k out (omega (arith, e)))) ∙ ap whole (sym x.finds)
