-- What a line leaves, by its kind of access.
use mathlib.Core.Path.{◌≡◌, refl, sym, subst, ◌∙◌}
use mathlib.Core.Option.{Option}
use mathlib.Core.List.{List}
use mathlib.Core.Bool.{true, ◌||◌}
use Prim.Native.Nat.{ℕ, ◌+◌, ◌*◌, ◌≤◌, ◌<◌}
use native.Mathlib.Omega.{arith}
use native.Mathlib.Nat.{add-zero}
use native.Mathlib.Decide.{ℕ_discrete}
use lib.Dec.{eqb}
use Rattle.figure_lines.specs.declared.Record.{Record}
use Rattle.figure_lines.specs.declared.Field.{Field}
use Rattle.figure_lines.specs.declared.Access.{Access}
use Rattle.figure_lines.specs.declared.Access.TheVariants.{Load}
use Rattle.figure_lines.specs.Answers.{Next}
use Rattle.figure_lines.specs.Lines.{Line, Wanted, l1, l2, l3, l4, l5, l6, l7, l8, l10, l11, l12, l15, l16, l17, l18, l19, l20, l21, l22, l23, l24, l26, l27, l30, nowhere, deciding, line_of, access_at, access_of, next_at}
use Rattle.cells_spec.specs.Pool.{word}
use Rattle.cells_spec.specs.Memory.{Reaches}
use Rattle.figure_lines.proofs.Ranges.{line-at, wanted}
use Rattle.cells_spec.specs.LineRun.{left, line_run, line_done, step_done, Within}

-- NO ACCESS DEPENDS ON THE COUNT OF STEPS

module _ (t : ℕ) (r : Record) (k : ℕ) where
  same : (i : Line) → access_at i t (record r { steps = k }) ≡ access_at i t r
  same (l1 w) = refl
  same (l2 w) = refl
  same (l3 w) = refl
  same l4 = refl
  same l5 = refl
  same l6 = refl
  same l7 = refl
  same l8 = refl
  same l10 = refl
  same l11 = refl
  same l12 = refl
  same l15 = refl
  same l16 = refl
  same l17 = refl
  same l18 = refl
  same l19 = refl
  same l20 = refl
  same l21 = refl
  same l22 = refl
  same l23 = refl
  same l24 = refl
  same l26 = refl
  same l27 = refl
  same l30 = refl
  same nowhere = refl

  pub within_steps : (n : ℕ) → Reaches n (access_of t r) → Reaches n (access_of t (record r { steps = k }))
  within_steps n h = subst (λ (a : Access). Reaches n a) (sym (same (line_of r))) h

pub done-run : (p : List ℕ) (t : ℕ) (r : Record) (c l : ℕ) (f : Option ℕ) → line_done p t (step_done r) c l f ≡ line_run p t r c l f
done-run p t r c l f = rw (same t r (r.steps + 1) (line_of r))

-- WHAT A LINE LEAVES; the record has its step counted

-- of a load
pub by-load : (p : List ℕ) (t : ℕ) (r : Record) (c l : ℕ) (f : Option ℕ) (i : Line) {x : Next} {b v : ℕ} (g : Field) → line_of r ≡ i → access_at i t r ≡ Load b g → v ≡ word p b g → x ≡ next_at i t r v → left p c l x ≡ line_done p t r c l f
by-load p t r c l f i {x} {b} {v} g at ea ev ex = rw (at, ea, ← ev, ex) (simp add-zero)

reaches-at : (n : ℕ) (r : Record) (i : Line) → line_of r ≡ i → Within n r → Reaches n (access_at i 0 r)
reaches-at n r i e y = subst (λ (x : Line). Reaches n (access_at x 0 r)) e (y 0)

-- the deciding part, for a line that wants it, reaches the held block
pub deciding-reaches : (n : ℕ) (r : Record) → Within n r → 1 ≤ r.line → r.line ≤ 3 → (eqb r.wanted 13 || (eqb r.wanted 25 || eqb r.wanted 28)) ≡ true → 5 * r.held + 4 < n
deciding-reaches n r y a b e = go (ℕ_discrete r.line 1) (ℕ_discrete r.line 2)
  where
    d : (x : Wanted) × ((l : Wanted → Line) → deciding l r.wanted ≡ l x)
    d = wanted r.wanted e

    go : Dec (r.line ≡ 1) → Dec (r.line ≡ 2) → 5 * r.held + 4 < n
    go (yes h) k = reaches-at n r (l1 d.0) (line-at r 1 h ∙ d.1 l1) y
    go (no h) (yes k) = reaches-at n r (l2 d.0) (line-at r 2 k ∙ d.1 l2) y
    go (no h) (no k) = let e : r.line ≡ 3 = omega arith in reaches-at n r (l3 d.0) (line-at r 3 e ∙ d.1 l3) y
