-- A busy record's operation as begun: a read, a swap of equal values, which reads, or a swap of unequal values.
use mathlib.Core.Path.{◌≡◌, refl, sym, ap}
use mathlib.Core.Logic.{◌≢◌, ◌⊎◌, inl, inr}
use mathlib.Core.Bool.{Bool, true, false, not, ◌&&◌, ◌||◌, cond, false≢true}
use lib.Dec.{eqb}
use borrow.Author.Tests.{eqb-true, eqb-false}
use Rattle.figure_lines.specs.declared.Record.{Record}
use Rattle.figure_lines.specs.Record.{op_of}
use Rattle.cells_spec.specs.Questions.{reads, swaps}
use Rattle.history_spec.specs.History.{read, swap, cell_of, a_read, a_swap, kind_of}

module _ (q : Record) where
  -- kind and cell as a finished call reports them
  pub kind_of_lem : cond (eqb q.kind 1) a_read a_swap ≡ kind_of (op_of q)
  kind_of_lem = go (eqb q.kind 1)
    where
      go : (b : Bool) → cond b a_read a_swap ≡ kind_of (cond b (read q.cell) (swap q.cell q.expected q.new))
      go true = refl
      go false = refl

  pub cell_of_lem : cell_of (op_of q) ≡ q.cell
  cell_of_lem = go (eqb q.kind 1)
    where
      go : (b : Bool) → cell_of (cond b (read q.cell) (swap q.cell q.expected q.new)) ≡ q.cell
      go true = refl
      go false = refl

  pub swap-op : swaps q ≡ true → (op_of q ≡ swap q.cell q.expected q.new) × (q.expected ≢ q.new)
  swap-op = go (eqb q.kind 2) (eqb q.expected q.new) refl refl
    where
      go : (x y : Bool) → eqb q.kind 2 ≡ x → eqb q.expected q.new ≡ y → (x && not y) ≡ true → (op_of q ≡ swap q.cell q.expected q.new) × (q.expected ≢ q.new)
      go true false ex ey z = (rw (eqb-true q.kind 2 ex) refl, eqb-false _ _ ey)
      go true true ex ey z = absurd (false≢true z)
      go false y ex ey z = absurd (false≢true z)

  -- a read, or a swap of equal values
  abbrev pub Reads : Type 0
  Reads = ((op_of q ≡ read q.cell) × (q.kind ≡ 1)) ⊎ ((op_of q ≡ swap q.cell q.expected q.expected) × (q.kind ≡ 2))

  pub read-op : reads q ≡ true → Reads
  read-op = go (eqb q.kind 1) (eqb q.kind 2) (eqb q.expected q.new) refl refl refl
    where
      go : (x y z : Bool) → eqb q.kind 1 ≡ x → eqb q.kind 2 ≡ y → eqb q.expected q.new ≡ z → (x || (y && z)) ≡ true → Reads
      go true y z ex ey ez h = inl (rw ex, eqb-true _ _ ex)
      go false true true ex ey ez h = inr (rw ex (ap (λ n. swap q.cell q.expected n) (sym (eqb-true q.expected q.new ez))), eqb-true _ _ ey)
      go false true false ex ey ez h = absurd (false≢true h)
      go false false z ex ey ez h = absurd (false≢true h)
