-- A busy record's operation, and what the sequential specification says of it.
use mathlib.Core.Path.{◌≡◌, refl, sym, subst, ◌∙◌}
use mathlib.Core.Logic.{◌≢◌, inl, inr}
use mathlib.Core.Bool.{Bool, true, false, not, ◌||◌, cond}
use mathlib.Core.Option.{some}
use Prim.Native.Nat.{ℕ}
use lib.Dec.{eqb, T}
use borrow.Author.Tests.{eqb-true, eq-eqb, ne_eqb}
use Rattle.figure_lines.specs.declared.Record.{Record}
use Rattle.figure_lines.specs.Record.{is_idle, op_of}
use Rattle.figure_lines.specs.Lines.{line_at, line_of, read_answer}
use Rattle.cells_spec.specs.Questions.{of_kind, reads, swaps, line_fit}
use Rattle.history_spec.specs.History.{Op, cell_of, Yes, No}
use Rattle.history_spec.specs.Linearization.{reply, value_left, apply}
use Rattle.history_spec.specs.Demand3.{Unequal}
use Rattle.history_spec.proofs.ListTests.{imp}
use Rattle.figure_cell.proofs.LineLaws.{every_line}
use Rattle.figure_cell.proofs.AsBegun.{swap-op, Reads, read-op}
use Rattle.figure.proofs.Tallies.{tally, tally_of}
use Rattle.figure_cell.proofs.Classes.{busy, swapping, are_apart}

-- a line that fits a kind is a line
pub busy-line : (q : Record) → line_fit q ≡ true → T (busy (line_of q))
busy-line q = imp (line_fit q) (busy (line_of q)) (every_line (λ l. busy l || not (of_kind l (reads q) (swaps q))) tt (line_of q))

pub busy_doing : (q : Record) → T (busy (line_of q)) → tally_of q ≡ some (tally q)
busy_doing q b = go (is_idle q) refl
  where
    go : (i : Bool) → is_idle q ≡ i → tally_of q ≡ some (tally q)
    go true e = absurd (subst (λ n. T (busy (line_at n q.wanted))) (eqb-true q.line 0 e) b)
    go false e = rw e

must : (x : Bool) → (x ≡ false → ⊥) → x ≡ true
must true h = refl
must false h = absurd (h refl)

-- a line of a swap of unequal values is of such a swap, any other of a read or of a swap of equal values
module _ (q : Record) (e : line_fit q ≡ true) where
  pub is-swap : T (swapping (line_of q)) → swaps q ≡ true
  is-swap b = must (swaps q) (λ z. are_apart swapping (λ l. of_kind l (reads q) false) tt (line_of q) b (subst T (sym (rw z at e)) tt))

  pub is_read : T (not (swapping (line_of q))) → reads q ≡ true
  is_read b = must (reads q) (λ z. are_apart (λ l. not (swapping l)) (λ l. of_kind l false (swaps q)) tt (line_of q) b (subst T (sym (rw z at e)) tt))

  -- WHAT THE SEQUENTIAL SPECIFICATION ANSWERS

  -- a read's answer is right for the value that it returns, and it changes nothing
  pub reads-right : T (not (swapping (line_of q))) → (v : ℕ) → (reply v (op_of q) ≡ read_answer q v) × (value_left v (op_of q) ≡ v)
  reads-right b v = go (read-op q (is_read b))
    where
      go : Reads q → (reply v (op_of q) ≡ read_answer q v) × (value_left v (op_of q) ≡ v)
      go (inl (o, k)) = rw (o, k) (refl, refl)
      go (inr (o, k)) = rw (o, k) (refl, test (eqb v q.expected) refl)
        where
          test : (x : Bool) → eqb v q.expected ≡ x → cond x q.expected v ≡ v
          test true z = sym (eqb-true _ _ z)
          test false z = refl

  -- a swap that finds its expected value succeeds and puts the new one there; with another it does nothing
  module _ (b : T (swapping (line_of q))) where
    pub swap-yes : (v : ℕ) → v ≡ q.expected → (reply v (op_of q) ≡ Yes) × (value_left v (op_of q) ≡ q.new)
    swap-yes v z = rw ((swap-op q (is-swap b)).0, eq-eqb v q.expected z) (refl, refl)

    pub swap_no : (v : ℕ) → v ≢ q.expected → (reply v (op_of q) ≡ No) × (value_left v (op_of q) ≡ v)
    swap_no v z = rw ((swap-op q (is-swap b)).0, ne_eqb v q.expected z) (refl, refl)

    pub is_unequal : Unequal (op_of q)
    is_unequal = rw (swap-op q (is-swap b)).0 (swap-op q (is-swap b)).1

-- the cells after an operation: its own, and the others
pub apply-here : (cells : ℕ → ℕ) (op : Op) (k : ℕ) → cell_of op ≡ k → apply cells op k ≡ value_left (cells k) op
apply-here cells op k e = rw (eq-eqb k (cell_of op) (sym e))

pub apply-there : (cells : ℕ → ℕ) (op : Op) (k j : ℕ) → cell_of op ≡ k → j ≢ k → apply cells op j ≡ cells j
apply-there cells op k j e n = rw (ne_eqb j (cell_of op) (λ z. n (z ∙ e)))
