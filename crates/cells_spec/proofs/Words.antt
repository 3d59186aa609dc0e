-- Words of the pool after a store, after a block is filled, and after opening.
use mathlib.Core.Path.{◌≡◌, refl, ◌∙◌}
use mathlib.Core.Bool.{cond}
use mathlib.Core.List.{List, [], ◌∷◌}
use Prim.Native.Nat.{ℕ, zero, suc, ◌+◌, ◌*◌, ◌≤◌, ◌<◌}
use native.Mathlib.Omega.{arith}
use native.Mathlib.Decide.{ℕ_discrete}
use lib.Dec.{eqb, lit<}
use lib.ListN.{get_or, length, length-set}
use lib.Seq.{get_or-set_same, get_or-set_other}
use borrow.Author.Tests.{eq-eqb, ne_eqb}
use Rattle.figure_lines.specs.declared.Field.{Field}
use Rattle.figure_lines.specs.declared.Field.TheVariants.{X, Y, C, D}
use Rattle.figure_lines.specs.Record.{no_value}
use Rattle.cells_spec.specs.Pool.{offset, word, set_word, fresh, fill}
use Rattle.cells_spec.specs.Open.{filled}

pub fields : (Q : Field → Type 0) → Q X → Q Y → Q C → Q Field.V → Q D → (f : Field) → Q f
fields Q x y c v d X = x
fields Q x y c v d Y = y
fields Q x y c v d C = c
fields Q x y c v d Field.V = v
fields Q x y c v d D = d

pub offset-small : (f : Field) → offset f < 5
offset-small = fields (λ f. offset f < 5) (lit< tt) (lit< tt) (lit< tt) (lit< tt) (lit< tt)

-- A STORE

pub set_else : (p : List ℕ) (b : ℕ) (f : Field) (v b'' : ℕ) (g : Field) → (b'' ≡ b → ⊥) → word (set_word p b f v) b'' g ≡ word p b'' g
set_else p b f v b'' g n = get_or-set_other p (5 * b + offset f) (5 * b'' + offset g) v 0 (λ e. n (omega (arith, offset-small f, offset-small g)))

pub set_here : (p : List ℕ) (b : ℕ) (f : Field) (v : ℕ) (g : Field) → 5 * b + 4 < length p → word (set_word p b f v) b g ≡ cond (eqb (offset g) (offset f)) v (word p b g)
set_here p b f v g h = go (ℕ_discrete (offset g) (offset f))
  where
    go : Dec (offset g ≡ offset f) → word (set_word p b f v) b g ≡ cond (eqb (offset g) (offset f)) v (word p b g)
    go (yes e) = rw (eq-eqb _ _ e, e) (get_or-set_same p (5 * b + offset f) v 0 (omega (arith, offset-small f)))
    go (no n) = rw (ne_eqb _ _ n) (get_or-set_other p (5 * b + offset f) (5 * b + offset g) v 0 (λ e. n (omega arith)))

-- A FILLED BLOCK

pub length_fill : (p : List ℕ) (b v : ℕ) → length (fill p b v) ≡ length p
length_fill p b v = simp length-set

module _ (p : List ℕ) (b v : ℕ) where
  abbrev p1 : List ℕ
  p1 = set_word p b X 255

  abbrev p2 : List ℕ
  p2 = set_word p1 b Y 0

  abbrev p3 : List ℕ
  p3 = set_word p2 b C 0

  abbrev p4 : List ℕ
  p4 = set_word p3 b Field.V v

  pub fill_else : (b'' : ℕ) (g : Field) → (b'' ≡ b → ⊥) → word (fill p b v) b'' g ≡ word p b'' g
  fill_else b'' g n = set_else p4 b D no_value b'' g n ∙ set_else p3 b Field.V v b'' g n ∙ set_else p2 b C 0 b'' g n ∙ set_else p1 b Y 0 b'' g n ∙ set_else p b X 255 b'' g n

  pub fill_here : (g : Field) → 5 * b + 4 < length p → word (fill p b v) b g ≡ fresh v g
  fill_here g h =
      rw (set_here p4 b D no_value g (simp length-set h), set_here p3 b Field.V v g (simp length-set h), set_here p2 b C 0 g (simp length-set h), set_here p1 b Y 0 g (simp length-set h), set_here p b X 255 g h)
      (fields (λ g. cond (eqb (offset g) 4) no_value (cond (eqb (offset g) 3) v (cond (eqb (offset g) 2) 0 (cond (eqb (offset g) 1) 0 (cond (eqb (offset g) 0) 255 (word p b g))))) ≡ fresh v g) refl refl refl refl refl g)

-- OPENING

pub length_filled : (vs p : List ℕ) (k : ℕ) → length (filled p vs k) ≡ length p
length_filled [] p k = refl
length_filled (x ∷ vs) p k = length_filled vs (fill p k x) (k + 1) ∙ length_fill p k x

filled-before : (vs p : List ℕ) (k b : ℕ) (g : Field) → b < k → word (filled p vs k) b g ≡ word p b g
filled-before [] p k b g h = refl
filled-before (x ∷ vs) p k b g h = filled-before vs (fill p k x) (k + 1) b g (omega arith) ∙ fill_else p k x b g (λ e. omega arith)

pub filled-word : (vs p : List ℕ) (k j : ℕ) (g : Field) → j < length vs → 5 * (k + length vs) ≤ length p → word (filled p vs k) (k + j) g ≡ fresh (get_or vs j 0) g
filled-word [] p k j g h l = absurd (omega arith)
filled-word (x ∷ vs) p k zero g h l =
    let e : k + zero ≡ k = omega arith in
    rw e (filled-before vs (fill p k x) (k + 1) k g (omega arith) ∙ fill_here p k x g (omega arith))
filled-word (x ∷ vs) p k (suc j) g h l =
    let e : k + suc j ≡ (k + 1) + j = omega arith in
    rw e (filled-word vs (fill p k x) (k + 1) j g (omega arith) (rw (length_fill p k x) (omega arith)))
