-- The line of an action, and how long it is.
use mathlib.Core.Path.{◌≡◌, sym, ap, subst, ◌∙◌}
use mathlib.Core.Bool.{Bool, true, false, cond}
use mathlib.Core.List.{List, [], ◌∷◌, ◌++◌, append_assoc, map}
use Prim.Native.Nat.{ℕ, suc, ◌+◌, ◌-◌, ◌/◌, ◌≤◌, ◌<◌}
use native.Mathlib.Nat.{mod-lt}
use native.Mathlib.Omega.{arith}
use lib.Dec.{eqb}
use lib.ListN.{length}
use Rattle.text.specs.Bytes.{bytes}
use Rattle.text.specs.Page.{Written}
use Rattle.text.specs.declared.page.Page.{Page}
use Rattle.text.proofs.Decimal.{decimal-short}
use Rattle.text.proofs.Spaced.{numbers_length, none_length, line_length}
use Rattle.history_spec.specs.History.{read, swap, Action, begin, step, drop, run}
use Rattle.figure_lines.specs.Record.{is_idle, record_at}
use Rattle.cells_spec.specs.declared.State.{State}
use Rattle.cells_spec.specs.Machine.{Pool, pool}
use Rattle.session_spec.specs.Session.{act}
use Rattle.session_spec.specs.Written.{action_start, written, form_line, form_lines}
use Rattle.shake_spec.specs.Generator.{next, below}
use Rattle.shake_spec.specs.Drawn.{Drawn, drawn, drawn_begin, drawn_action}
use Rattle.shake_spec.specs.Actions.{drawn_actions, Short}

-- THE LINE OF A DRAWN ACTION

as_line : (a : Action) → action_start a ++ bytes ")\n" ≡ form_line (act a)
unfolding written
as_line a = sym (append_assoc (action_start a) (bytes ")") (bytes "\n"))

pub short-line : (a : Action) → Short a → length (action_start a ++ bytes ")\n") ≤ 17
short-line (begin t (read k)) h = omega (arith, line_length (bytes "(read") (t ∷ k ∷ []), numbers_length t (k ∷ []), numbers_length k [], none_length, decimal-short 1 t h.0, decimal-short 1 k h.1)
short-line (begin t (swap k e n)) h =
    omega (arith, line_length (bytes "(swap") (t ∷ k ∷ e ∷ n ∷ []), numbers_length t (k ∷ e ∷ n ∷ []), numbers_length k (e ∷ n ∷ []), numbers_length e (n ∷ []), numbers_length n [], none_length, decimal-short 1 t h.0, decimal-short 1 k h.1, decimal-short 0 e h.2, decimal-short 0 n h.3)
short-line (step t) h = omega (arith, line_length (bytes "(step") (t ∷ []), numbers_length t [], none_length, decimal-short 1 t h)
short-line (drop t) h = omega (arith, line_length (bytes "(drop") (t ∷ []), numbers_length t [], none_length, decimal-short 1 t h)

pub written-short : (a : Action) → Short a → length (form_line (act a)) ≤ 17
written-short a h = rw (← (as_line a)) (short-line a h)

pub puts : (a : Action) {old new : Page} → Written old new (action_start a ++ bytes ")\n") → Written old new (form_line (act a)) × (Short a → new.at ≤ old.at + 17)
puts a {old} {new} x = (subst (Written old new) (as_line a) x, λ h. omega (arith, x.appended.stored.next, short-line a h))

pub below_lt : (m g : ℕ) → 0 < m → below m g < m
unfolding below
below_lt m g h = mod-lt (g / 65536) h

short-begin : (t v g : ℕ) → t < 100 → 0 < v → v ≤ 16 → Short (drawn_begin t v g).action
unfolding drawn_begin
short-begin t v g ht hv kv = go (eqb (below 2 g₁) 0)
  where
    g₁ : ℕ
    g₁ = next g

    g₂ : ℕ
    g₂ = next g₁

    g₃ : ℕ
    g₃ = next g₂

    g₄ : ℕ
    g₄ = next g₃

    cell : below v g₂ < 100
    cell = omega (arith, below_lt v g₂ hv)

    go : (b : Bool) → Short (cond b (drawn (begin t (read (below v g₂))) g₂) (drawn (begin t (swap (below v g₂) (below 4 g₃) (below 4 g₄))) g₄)).action
    go true = (ht, cell)
    go false = (ht, cell, omega (arith, below_lt 4 g₃ (omega arith)), omega (arith, below_lt 4 g₄ (omega arith)))

pub short-drawn : (n v : ℕ) (s : State) (g : ℕ) → 0 < n → n ≤ 32 → 0 < v → v ≤ 16 → Short (drawn_action n v s g).action
unfolding drawn_action
short-drawn n v s g hn kn hv kv = go (is_idle (record_at s.records (below n (next g))))
  where
    task : below n (next g) < 100
    task = omega (arith, below_lt n (next g) hn)

    go : (b : Bool) → Short (cond b (drawn_begin (below n (next g)) v (next g)) (drawn (step (below n (next g))) (next g))).action
    go true = short-begin (below n (next g)) v (next g) task hv kv
    go false = task

-- THE LOOP

module _ (n v k i g : ℕ) (s : State) (p : List ℕ) where
  abbrev lines_from : Drawn → Pool → List ℕ
  lines_from y x = form_line (act y.action) ++ form_lines (map act (drawn_actions n v (k - (i + 1)) y.generator x))

  first-line : i < k → form_lines (map act (drawn_actions n v (k - i) g (s, p))) ≡ lines_from (drawn_action n v s g) (pool (s, p) (drawn_action n v s g).action).0
  unfolding drawn_actions form_lines
  first-line h = let e : k - i ≡ suc (k - (i + 1)) = omega arith in rw e

  pub one_line : i < k → {d : Drawn} {x : Pool} → d ≡ drawn_action n v s g → x ≡ (pool (s, p) d.action).0 → form_lines (map act (drawn_actions n v (k - i) g (s, p))) ≡ lines_from d x
  one_line h {d} {x} ed ex =
      first-line h ∙ ap (λ (y : Drawn). lines_from y (pool (s, p) y.action).0) (sym ed) ∙ ap (lines_from d) (sym ex)

  -- the state and pool after the last
  abbrev end_from : Drawn → Pool → Pool
  end_from y x = run pool x (drawn_actions n v (k - (i + 1)) y.generator x)

  first_done : i < k → run pool (s, p) (drawn_actions n v (k - i) g (s, p)) ≡ end_from (drawn_action n v s g) (pool (s, p) (drawn_action n v s g).action).0
  unfolding drawn_actions
  first_done h = let e : k - i ≡ suc (k - (i + 1)) = omega arith in rw e

  pub one_done : i < k → {d : Drawn} {x : Pool} → d ≡ drawn_action n v s g → x ≡ (pool (s, p) d.action).0 → run pool (s, p) (drawn_actions n v (k - i) g (s, p)) ≡ end_from d x
  one_done h {d} {x} ed ex = first_done h ∙ ap (λ (y : Drawn). end_from y (pool (s, p) y.action).0) (sym ed) ∙ ap (end_from d) (sym ex)

  pub none_done : k ≤ i → run pool (s, p) (drawn_actions n v (k - i) g (s, p)) ≡ (s, p)
  unfolding drawn_actions
  none_done h = let e : k - i ≡ 0 = omega arith in rw e

  pub no_line_lem : k ≤ i → form_lines (map act (drawn_actions n v (k - i) g (s, p))) ≡ []
  unfolding drawn_actions form_lines
  no_line_lem h = let e : k - i ≡ 0 = omega arith in rw e
