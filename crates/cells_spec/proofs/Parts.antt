-- A block's five words, written as one part of the pool.
use mathlib.Core.Path.{◌≡◌, refl, sym, ap, ◌∙◌}
use mathlib.Core.List.{List, [], ◌∷◌, ◌++◌}
use Prim.Native.Nat.{ℕ, ◌+◌, ◌*◌, ◌≤◌, ◌<◌}
use native.Mathlib.Omega.{arith}
use lib.ListN.{length, take, drop, set, length-drop, take-append-drop}
use lib.Seq.{take-set-le, drop-set-add}
use Rattle.figure_lines.specs.Record.{no_value}
use Rattle.cells_spec.specs.Pool.{fill}

written : (l : List ℕ) (x y c v d : ℕ) → 5 ≤ length l → set (set (set (set (set l 0 x) 1 y) 2 c) 3 v) 4 d ≡ (x ∷ y ∷ c ∷ v ∷ d ∷ []) ++ drop 5 l
written [] x y c v d h = absurd (omega arith)
written (p ∷ []) x y c v d h = absurd (omega arith)
written (p ∷ q ∷ []) x y c v d h = absurd (omega arith)
written (p ∷ q ∷ r ∷ []) x y c v d h = absurd (omega arith)
written (p ∷ q ∷ r ∷ s ∷ []) x y c v d h = absurd (omega arith)
written (p ∷ q ∷ r ∷ s ∷ t ∷ l) x y c v d h = refl

module _ (a : ℕ) (xs : List ℕ) where
  -- zs has xs up to a, and then ys
  record Joined (ys zs : List ℕ) : Type 0 where
    start : take a zs ≡ take a xs
    rest : drop a zs ≡ ys

  -- nothing is written yet; and after a write
  none : Joined (drop a xs) xs
  none = record { start = refl; rest = refl }

  more : {ys zs : List ℕ} (f v : ℕ) → Joined ys zs → Joined (set ys f v) (set zs (a + f) v)
  more {ys} {zs} f v j =
      let h : a ≤ a + f = omega arith in
      record { start = take-set-le a zs (a + f) v h ∙ j.start; rest = rw (drop-set-add a zs f v, j.rest) }

  back : {ys zs : List ℕ} → Joined ys zs → take a xs ++ ys ≡ zs
  back {ys} {zs} j = rw (← j.start, ← j.rest) (take-append-drop a zs)

pub filled : (b : ℕ) (xs : List ℕ) (v : ℕ) → 5 * b + 4 < length xs
    → take (5 * b) xs ++ ((255 ∷ 0 ∷ 0 ∷ v ∷ no_value ∷ []) ++ drop 5 (drop (5 * b) xs)) ≡ fill xs b v
filled b xs v h = let a = 5 * b in
    ap (λ (ys : List ℕ). take a xs ++ ys) (sym (written (drop a xs) 255 0 0 v no_value (simp length-drop (omega arith)))) ∙ back a xs (more a xs 4 _ (more a xs 3 _ (more a xs 2 _ (more a xs 1 _ (more a xs 0 _ (none a xs))))))
