-- A line other than 4, 10 and 15 that does not end its call leaves the counts as they are.
use mathlib.Core.Path.{◌≡◌, sym, ap, ◌∙◌}
use mathlib.Core.Bool.{Bool, true, false, cond, ◌&&◌, ◌||◌, not}
use mathlib.Core.Option.{Option}
use mathlib.Core.List.{List}
use Prim.Native.Nat.{ℕ}
use native.Mathlib.Omega.{arith}
use lib.Dec.{eqb}
use Rattle.figure_lines.specs.declared.Record.{Record}
use Rattle.figure_lines.specs.Answers.{Next, Go, Done}
use Rattle.figure_lines.specs.Lines.{Line, for13, for25, for28, l1, l2, l3, l4, l5, l6, l7, l8, l10, l11, l12, l15, l16, l17, l18, l19, l20, l21, l22, l23, l24, l26, l27, l30, nowhere, line_of, access_at, access_of, next_at, attempt, counted}
use Rattle.cells_spec.specs.Memory.{Touched, performed}
use Rattle.cells_spec.proofs.Installs.{installs, block_stays}
use Rattle.history_spec.proofs.Basics.{no_such}
use Rattle.cells_spec.specs.Questions.{reads, swaps, of_kind, line_fit, holds_before, taken_before}
use Rattle.cells_spec.specs.Counts.{claimed}
use Rattle.cells_spec.proofs.Numbers.{number, at-number}
use Rattle.cells_spec.specs.StoredCounts.{released, renamed, recounted, Countable}
use Rattle.cells_spec.specs.Answers.{Acted}
use Rattle.cells_spec.specs.Turn.{ending, turn}
use Rattle.cells_spec.proofs.Countable.{recounted-same}

-- a record at line n holds a block; it has taken one
abbrev holds_at : ℕ → Bool
holds_at n = not (eqb n 0) && holds_before n

abbrev taken_at : ℕ → Bool
taken_at n = not (eqb n 0) && taken_before n

-- the record q names what r names, which is at line n
abbrev Same : ℕ → (r q : Record) → Type 0
Same n r q = (q.held ≡ r.held) × (q.taken ≡ r.taken) × (holds_at q.line ≡ holds_at n) × (taken_at q.line ≡ taken_at n)

not_plain : {A : Type 0} → true ≡ false → A
not_plain e = no_such (sym e)

-- what follows a line, unless it ends the call
module _ (t : ℕ) (r : Record) (v : ℕ) where
  abbrev Kept : Line → Next → Type 0
  Kept i (Go q) = Same (number i) r q × ((x : Record) → installs (access_at i t x) ≡ false)
  Kept i (Done f) = Unit {0}

  either : (i : Line) (b : Bool) (x y : Next) → Kept i x → Kept i y → Kept i (cond b x y)
  either i true x y h k = h
  either i false x y h k = k

  abbrev Plain : Line → Type 0
  Plain i = (eqb (number i) 4 || (eqb (number i) 10 || eqb (number i) 15)) ≡ false

  ruleset keeping = (either, no_such, not_plain)

  -- whatever a line tests
  kept : (i : Line) → Plain i → of_kind i (reads r) (swaps r) ≡ true → Kept i (next_at i t r v)
  kept (l1 w) h k = search keeping
  kept (l2 w) h k = search keeping
  kept (l3 for13) h k = search keeping
  kept (l3 for25) h k = search keeping
  kept (l3 for28) h k = search keeping
  kept l4 h k = search keeping
  kept l5 h k = search keeping
  kept l6 h k = search keeping
  kept l7 h k = search keeping
  kept l8 h k = search keeping
  kept l10 h k = search keeping
  kept l11 h k = search keeping
  kept l12 h k = search keeping
  kept l15 h k = search keeping
  kept l16 h k = search keeping
  kept l17 h k = search keeping
  kept l18 h k = search keeping
  kept l19 h k = search keeping
  kept l20 h k = search keeping
  kept l21 h k = search keeping
  kept l22 h k = search keeping
  kept l23 h k = search keeping
  kept l24 h k = search keeping
  kept l26 h k = search keeping
  kept l27 h k = search keeping
  kept l30 h k = search keeping
  kept nowhere h k = search keeping

claimed-same : (l : List ℕ) (r q : Record) → Same r.line r q → claimed l q ≡ claimed l r
claimed-same l r q h = rw (h.2, h.3, h.0, h.1)

-- the line is one that may change what is counted, if it doesn't end the call
abbrev pub renames : ℕ → Bool
renames i = eqb i 4 || (eqb i 10 || eqb i 15)

module _ (p : List ℕ) (t : ℕ) (r : Record) (c l : ℕ) (f : Option ℕ) (fits : line_fit r ≡ true) where
  abbrev m : Touched
  m = performed p c l f (access_of t r)

  abbrev r' : Record
  r' = counted r (attempt (access_of t r) m.value)

  -- what follows leaves a call pending
  goes : (x : Next) → Kept t r' m.value (line_of r) x → (ending m x).outcome ≡ Acted → ((ending m x).current ≡ c) × Same r.line r (ending m x).record
  goes (Go q) h z = (block_stays p c l f (access_of t r) (h.1 r), rw (at-number r fits) h.0)
  goes (Done y) h z = absurd (let w : ◌≡◌ {A = ℕ} 0 1 = cc in omega arith)

  pub quiet : (k : List ℕ) → renames r.line ≡ false → (turn p t r c l f).outcome ≡ Acted
      → Countable k r (turn p t r c l f).record c (turn p t r c l f).current → k ≡ recounted k r (turn p t r c l f).record c (turn p t r c l f).current
  unfolding recounted
  quiet k plain z n =
      let x = next_at (line_of r) t r' m.value in
      let g = goes x (kept t r' m.value (line_of r) (rw (at-number r fits) at plain) fits) z in
      rw g.0 (sym (ap (λ (y : List ℕ). renamed y c c) (claimed-same (released k r) r (turn p t r c l f).record g.1) ∙ recounted-same k r c n.0 (λ b h. omega (arith, n.5 b h))))
