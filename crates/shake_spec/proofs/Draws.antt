-- What the code draws is what is drawn.
use mathlib.Core.Path.{◌≡◌}
use Prim.Native.Nat.{ℕ}
use borrow.Author.Tests.{ne_eqb}
use Rattle.history_spec.specs.History.{read, swap, begin, step}
use Rattle.figure_lines.specs.Record.{record_at}
use Rattle.cells_spec.specs.declared.State.{State}
use Rattle.shake_spec.specs.Generator.{next, below}
use Rattle.shake_spec.specs.Drawn.{Drawn, drawn, drawn_begin, drawn_action}

module _ (t v g : ℕ) {a b kind cell : ℕ} (ea : a ≡ next g) (eb : b ≡ next a) (ek : kind ≡ below 2 a) (ec : cell ≡ below v b) where
  kinds : below 2 (next g) ≡ kind
  kinds = rw (ek, ea)

  pub begins-read : kind ≡ 0 → drawn (begin t (read cell)) b ≡ drawn_begin t v g
  unfolding drawn_begin
  begins-read z = rw (ec, eb, ea, kinds, z)

  pub begins-swap : (kind ≡ 0 → ⊥) → {c d e n : ℕ} → c ≡ next b → d ≡ next c → e ≡ below 4 c → n ≡ below 4 d → drawn (begin t (swap cell e n)) d ≡ drawn_begin t v g
  unfolding drawn_begin
  begins-swap f hc hd he hn = rw (hn, he, hd, hc, ec, eb, ea, kinds, ne_eqb kind 0 f)

module _ (n v g : ℕ) (s : State) {a t : ℕ} (ea : a ≡ next g) (et : t ≡ below n a) where
  pub draws-begin : (record_at s.records t).line ≡ 0 → {d : Drawn} → d ≡ drawn_begin t v a → d ≡ drawn_action n v s g
  unfolding drawn_action
  draws-begin z e = rw (← ea, ← et, z) e

  pub draws-step : ((record_at s.records t).line ≡ 0 → ⊥) → drawn (step t) a ≡ drawn_action n v s g
  unfolding drawn_action
  draws-step f = rw (← ea, ← et, ne_eqb (record_at s.records t).line 0 f)
