-- The words of a cell after a store.
use mathlib.Core.Path.{◌≡◌, refl, ◌∙◌}
use mathlib.Core.Bool.{Bool, true, false, cond}
use Prim.Native.Nat.{ℕ}
use lib.Dec.{eqb}
use Rattle.figure_lines.specs.declared.Field.{Field}
use Rattle.figure_lines.specs.declared.Field.TheVariants.{X, Y, C, D}
use Rattle.cells_spec.specs.Pool.{offset}
use Rattle.cells_spec.proofs.Words.{fields}
use Rattle.history_spec.specs.Basics.{upd}
use Rattle.history_spec.proofs.Basics.{upd_same, upd_off}
use Rattle.figure_cell.specs.Memory.{Cell, word_of, store}

stored : (m : Cell) (i x i' : ℕ) (f g : Field) → word_of (store m i f x) i' g ≡ cond (eqb (offset g) (offset f)) (upd (λ j. word_of m j g) i x i') (word_of m i' g)
stored m i x i' =
    let same : Field → Field → Type 0 = λ f g. word_of (store m i f x) i' g ≡ cond (eqb (offset g) (offset f)) (upd (λ j. word_of m j g) i x i') (word_of m i' g) in
    fields (λ f. (g : Field) → same f g)
    (fields (same X) refl refl refl refl refl)
    (fields (same Y) refl refl refl refl refl)
    (fields (same C) refl refl refl refl refl)
    (fields (same Field.V) refl refl refl refl refl)
    (fields (same D) refl refl refl refl refl)

pub store-here : (m : Cell) (i x : ℕ) (f g : Field) → word_of (store m i f x) i g ≡ cond (eqb (offset g) (offset f)) x (word_of m i g)
store-here m i x f g = stored m i x i f g ∙ rw (upd_same (λ j. word_of m j g) i x)

pub store_else : (m : Cell) (i x i' : ℕ) (f g : Field) → (i' ≡ i → ⊥) → word_of (store m i f x) i' g ≡ word_of m i' g
store_else m i x i' f g n = stored m i x i' f g ∙ rw (upd_off (λ j. word_of m j g) i x i' n) (either_way (eqb (offset g) (offset f)))
  where
    either_way : (c : Bool) → cond c (word_of m i' g) (word_of m i' g) ≡ word_of m i' g
    either_way true = refl
    either_way false = refl

pub store-next : (m : Cell) (i x : ℕ) (f : Field) → (store m i f x).next ≡ m.next
store-next m i x = fields (λ f. (store m i f x).next ≡ m.next) refl refl refl refl refl

pub store-current : (m : Cell) (i x : ℕ) (f : Field) → (store m i f x).current ≡ m.current
store-current m i x = fields (λ f. (store m i f x).current ≡ m.current) refl refl refl refl refl
