-- The tests of a fit state, as the code groups them; what a fit state gives.
use mathlib.Core.Path.{◌≡◌, refl, sym, ap, ◌∙◌}
use mathlib.Core.Bool.{Bool, true, false, ◌&&◌, and-true}
use mathlib.Core.List.{List, [], ◌∷◌}
use Prim.Native.Nat.{ℕ, zero, suc, ◌+◌, ◌≤◌, ◌<◌}
use native.Mathlib.Omega.{arith}
use lib.ListN.{get_or, take}
use borrow.Author.Tests.{ltb-true, leb-true, ne_eqb}
use Rattle.std.proofs.Common.{add-zero}
use Rattle.std.proofs.Math.Seq.{take-nil}
use Rattle.std.specs.List.{list_all}
use Rattle.figure_lines.specs.Basics.{ands, all_from}
use Rattle.cells_spec.specs.Questions.{tasks_ok, cells_ok}
use Rattle.cells_spec.proofs.Tests.{nth, within_true, all-at}
use Rattle.once_spec.specs.declared.OnceState.{OnceState}
use Rattle.once_spec.specs.Figure.{idle_offer}
use Rattle.once_spec.specs.Questions.{offer_at, offer_tests, offer_fit, offers_fit, once_fit}

-- A test of a list's first n is the same test number by number. What is read beyond the list passes.
module _ {A : Type 0} (p : A → Bool) (d : A) (passes : p d ≡ true) where
  pub all_from-taken : (l : List A) (n i : ℕ) (f : ℕ → Bool) → ((t : ℕ) → f (i + t) ≡ p (get_or l t d)) → all_from f i n ≡ list_all p (take n l)
  all_from-taken l zero i f e = refl
  all_from-taken [] (suc n) i f e =
      let first : f i ≡ true = ap f (sym (add-zero i)) ∙ e 0 ∙ passes in
      let rest : all_from f (i + 1) n ≡ list_all p (take n []) = all_from-taken [] n (i + 1) f (λ t. let k : i + 1 + t ≡ i + suc t = omega arith in ap f k ∙ e (suc t)) in
      rw (first, rest, take-nil n)
  all_from-taken (x ∷ l) (suc n) i f e =
      let first : f i ≡ p x = ap f (sym (add-zero i)) ∙ e 0 in
      let rest : all_from f (i + 1) n ≡ list_all p (take n l) = all_from-taken l n (i + 1) f (λ t. let k : i + 1 + t ≡ i + suc t = omega arith in ap f k ∙ e (suc t)) in
      rw (first, rest)

pub regroup_4 : (a b c d : Bool) → ((a && b) && c) && d ≡ ands (a ∷ b ∷ c ∷ d ∷ [])
regroup_4 false b c d = refl
regroup_4 true false c d = refl
regroup_4 true true false d = refl
regroup_4 true true true d = sym (and-true d)

module _ (s : OnceState) where
  pub offers_fit-taken : offers_fit s ≡ list_all (λ r. offer_fit r s.cells) (take s.tasks s.offers)
  unfolding offers_fit offer_fit
  offers_fit-taken = all_from-taken (λ r. offer_fit r s.cells) idle_offer refl s.offers s.tasks 0 _ (λ t. let z : 0 + t ≡ t = omega arith in rw z)

  module _ (e : once_fit s ≡ true) where
    abbrev tests : List Bool
    tests = tasks_ok s.tasks ∷ cells_ok s.cells ∷ offers_fit s ∷ []

    pub sizes : (s.tasks ≤ 32) × (s.cells ≤ 16)
    unfolding once_fit
    sizes = ((within_true _ 1 32 (nth tests e 0)).1, (within_true _ 1 16 (nth tests e 1)).1)

    -- of a task that has a call
    pub busy : (t : ℕ) → t < s.tasks → ((offer_at s t).line ≡ 0 → ⊥) → ((offer_at s t).cell < 16) × ((offer_at s t).steps ≤ 9)
    unfolding once_fit offers_fit offer_fit
    busy t l h =
        let r = offer_at s t in
        let fits = all-at (λ t. offer_fit (offer_at s t) s.cells) 0 s.tasks (nth tests e 2) t (omega arith) (omega arith) in
        let test = nth (offer_tests r s.cells) (rw (ne_eqb _ _ h) at fits) in
        (omega (arith, ltb-true r.cell s.cells (test 0), sizes.1), leb-true r.steps 9 (test 3))
