-- Counts in a table: what a name, or a record, adds to the count of block b.
use mathlib.Core.Path.{◌≡◌, refl, sym, ◌∙◌}
use mathlib.Core.Bool.{Bool, true, false, ◌&&◌, not, cond}
use mathlib.Core.List.{List}
use Prim.Native.Nat.{ℕ, ◌+◌, ◌≤◌, ◌<◌}
use native.Mathlib.Omega.{arith}
use native.Mathlib.Decide.{ℕ_discrete}
use lib.Dec.{eqb}
use lib.ListN.{get_or, length, set, length-set}
use lib.Seq.{get_or-set_same, get_or-set_other}
use borrow.Author.Tests.{eqb-true, eq-eqb, ne_eqb}
use Rattle.figure_lines.specs.declared.Record.{Record}
use Rattle.figure_lines.specs.Record.{is_idle}
use Rattle.cells_spec.specs.Questions.{holds, has_taken, record_uses}
use Rattle.cells_spec.specs.Counts.{more, claimed}
use Rattle.cells_spec.proofs.Sums.{once, once-most}

-- LENGTHS

pub length_if : (x : Bool) (l m : List ℕ) → length l ≡ length m → length (cond x l m) ≡ length m
length_if true l m e = e
length_if false l m e = refl

pub length_claimed : (l : List ℕ) (r : Record) → length (claimed l r) ≡ length l
length_claimed l r =
    let m = cond (not (is_idle r) && holds r) (more l r.held) l in
    length_if (not (is_idle r) && has_taken r) (more m r.taken) m (length-set m r.taken _) ∙ length_if (not (is_idle r) && holds r) (more l r.held) l (length-set l r.held _)

-- ONE BLOCK'S COUNT

module _ (b : ℕ) where
  module _ (l : List ℕ) (h : b < length l) where
    pub set_at : (m x : ℕ) → get_or (set l m x) b 0 ≡ cond (eqb m b) x (get_or l b 0)
    set_at m x = go (ℕ_discrete m b)
      where
        go : Dec (m ≡ b) → get_or (set l m x) b 0 ≡ cond (eqb m b) x (get_or l b 0)
        go (yes e) = rw (eq-eqb m b e, e) (get_or-set_same l b x 0 h)
        go (no n) = rw (ne_eqb m b n) (get_or-set_other l m b x 0 (λ e. n (sym e)))

    pub more-at : (m : ℕ) → get_or (more l m) b 0 ≡ get_or l b 0 + once (eqb m b)
    more-at m = set_at m _ ∙ go (eqb m b) refl
      where
        go : (x : Bool) → eqb m b ≡ x → cond x (get_or l m 0 + 1) (get_or l b 0) ≡ get_or l b 0 + once x
        go true e = rw (eqb-true m b e)
        go false e = omega arith

    more_if : (x : Bool) (m : ℕ) → get_or (cond x (more l m) l) b 0 ≡ get_or l b 0 + once (x && eqb m b)
    more_if true m = more-at m
    more_if false m = omega arith

  -- what a record names, in two tests
  pub two-uses : (r : Record) → once ((not (is_idle r) && holds r) && eqb r.held b) + once ((not (is_idle r) && has_taken r) && eqb r.taken b) ≡ record_uses r b
  two-uses r = go (is_idle r)
    where
      go : (x : Bool) → once ((not x && holds r) && eqb r.held b) + once ((not x && has_taken r) && eqb r.taken b)
          ≡ cond x 0 (once (holds r && eqb r.held b) + once (has_taken r && eqb r.taken b))
      go true = refl
      go false = refl

  -- A record counted into a table adds its uses.
  pub claimed-at : (l : List ℕ) → b < length l → (r : Record) → get_or (claimed l r) b 0 ≡ get_or l b 0 + record_uses r b
  claimed-at l h r =
      let x = not (is_idle r) && holds r in
      let m = cond x (more l r.held) l in
      let e = length_if x (more l r.held) l (length-set l r.held _) in
      let first = more_if l h x r.held in
      let second = more_if m (omega (arith, e)) (not (is_idle r) && has_taken r) r.taken in
      omega (arith, first, second, two-uses r)

pub record_most : (r : Record) (b : ℕ) → record_uses r b ≤ 2
record_most r b = omega (arith, two-uses b r, once-most ((not (is_idle r) && holds r) && eqb r.held b), once-most ((not (is_idle r) && has_taken r) && eqb r.taken b))
