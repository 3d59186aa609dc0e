-- The first line is read back as it was written.
use mathlib.Core.Path.{◌≡◌, refl, ap, ◌∙◌}
use mathlib.Core.Bool.{Bool, true, false, cond}
use mathlib.Core.List.{List, [], ◌∷◌, ◌++◌, append_assoc}
use mathlib.Core.Option.{Option, none, some}
use Prim.Native.Nat.{ℕ, suc, ◌+◌, ◌-◌}
use native.Mathlib.Omega.{arith}
use borrow.Author.Tests.{eqb-true}
use lib.Dec.{eqb}
use lib.ListN.{length, length-append}
use Rattle.text.specs.Bytes.{bytes, decimal}
use Rattle.text.specs.Lines.{numbers as spaced}
use Rattle.text.specs.Readers.{literal, number}
use Rattle.text.proofs.ReadBack.{number_back}
use Rattle.session_spec.specs.Session.{Opening, close, item, many_within, many, snoc, values, read_opening}
use Rattle.session_spec.specs.Written.{written_values, opening_line}
use Rattle.session_spec.specs.Proper.{Small, ProperOpening}
use Rattle.session_spec.proofs.NumbersBack.{numbers_apart, numbers_back, items_back, items_room}

-- where a number stands, no bracket does
not_close : (s : List ℕ) {n : ℕ} {t : List ℕ} → number s ≡ some (n, t) → literal (bytes ")") s ≡ none
unfolding number literal
not_close [] e = refl
not_close (d ∷ s) {n} {t} e = go (eqb d 41) refl
  where
    none_some : ◌≡◌ {A = Option (ℕ × List ℕ)} none (some (n, t)) → ⊥
    none_some x = let z : ◌≡◌ {A = ℕ} 0 1 = cc in omega arith

    go : (b : Bool) → eqb d 41 ≡ b → cond {A = Option (Unit {0} × List ℕ)} b (some (tt, s)) none ≡ none
    go false f = refl
    go true f = absurd (none_some (rw (eqb-true d 41 f) at e))

-- values up to their bracket
more-values : (l a s : List ℕ) → Small l → many snoc item close a (spaced l ++ (41 ∷ s)) ≡ some (a ++ l, s)
unfolding many_within literal
more-values l a s h =
    let t = spaced l ++ (41 ∷ s) in
    let e : suc (length t) ≡ length l + suc (length t - length l) = omega (arith, items_room l, length-append (spaced l) (41 ∷ s)) in
    ap (λ (k : ℕ). many_within snoc item close k a t) e ∙ items_back l a (41 ∷ s) (suc (length t - length l)) h refl

values_back : (l s : List ℕ) → Small l → values (written_values l ++ (41 ∷ s)) ≡ some (l, s)
unfolding values written_values literal
values_back [] s h = refl
values_back (v ∷ l) s h =
    let e = number_back v (spaced l ++ (41 ∷ s)) h.0 (numbers_apart l (41 ∷ s) refl) in
    rw (append_assoc (decimal v) (spaced l) (41 ∷ s), not_close (decimal v ++ (spaced l ++ (41 ∷ s))) e, e) (more-values l (v ∷ []) s h.1)

pub parts : (a b c d e : List ℕ) → ((a ++ b) ++ c) ++ d ++ e ≡ a ++ (b ++ (c ++ (d ++ e)))
parts a b c d e = append_assoc (a ++ b ++ c) d e ∙ append_assoc (a ++ b) c (d ++ e) ∙ append_assoc a b (c ++ (d ++ e))

pub opening_back : (o : Opening) (s : List ℕ) → ProperOpening o → read_opening (opening_line o ++ s) ≡ some (o, s)
unfolding read_opening opening_line literal
opening_back o s h =
    let three = o.tasks ∷ o.cells ∷ o.blocks ∷ [] in
    let rest : List ℕ = 41 ∷ 41 ∷ 10 ∷ s in
    rw (parts (spaced three) (bytes " (") (written_values o.values) (bytes "))\n") s, numbers_back three (32 ∷ 40 ∷ (written_values o.values ++ rest)) (h.0, (h.1.0, (h.1.1.0, tt))) refl, values_back o.values (41 ∷ 10 ∷ s) h.1.1.1)
