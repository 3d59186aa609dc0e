-- A step over a lent record, by what the step of the state that holds it answers.
use mathlib.Core.Path.{◌≡◌, refl, sym, ap, ◌∙◌}
use mathlib.Core.Logic.{inr}
use mathlib.Core.Bool.{false}
use mathlib.Core.List.{List}
use Prim.Native.Nat.{ℕ, ◌≤◌}
use native.Mathlib.Omega.{arith}
use lib.ListN.{length, set}
use lib.Seq.{set-get_or, set-set}
use Rattle.std.specs.Prelude.{Option, Some, None, Ok}
use Rattle.figure_lines.specs.declared.Finished.{Finished}
use Rattle.figure_lines.specs.declared.Record.{Record}
use Rattle.figure_lines.specs.Record.{idle, record_at}
use Rattle.cells_spec.specs.declared.State.{State}
use Rattle.cells_spec.specs.Answers.{Said, Refused, Acted, Ended, answered}
use Rattle.cells_spec.specs.Begin.{with_record}
use Rattle.cells_spec.specs.Lent.{is_refused, lent, stepped_lent}
use Rattle.cells_spec.specs.Open.{After, leaving}
use Rattle.cells_spec.specs.Step.{stepped}
use Rattle.cells_spec.proofs.Acts.{step_untouched}
use Rattle.cells_spec.proofs.LentLaw.{placed, below_32, lent-refused, lent-acted}

ok_acts : (x : Option Finished) → is_refused (answered (Ok x)) ≡ false
ok_acts None = refl
ok_acts (Some f) = refl

module _ (s : State) (p : List ℕ) (t : ℕ) (r : Record) where
  -- the state that is stepped
  abbrev q : State
  q = with_record s t r

  pub acted_lent : (s' : State) (p' : List ℕ) (x : Option Finished) → leaving s' p' (answered (Ok x)) ≡ stepped q p t
      → lent (leaving s' p' (answered (Ok x))) (record_at s'.records t) ≡ stepped_lent s p t r
  acted_lent s' p' x e = lent-acted s p t r q (leaving s' p' (answered (Ok x))) refl e (ok_acts x)

  refused : (n : ℕ) → leaving q p (Refused n) ≡ stepped q p t → lent (leaving s p (Refused n)) r ≡ stepped_lent s p t r
  refused n e = lent-refused s p t r q (leaving q p (Refused n)) refl e refl

  untouched : (s' : State) (p' : List ℕ) (n : ℕ) → leaving s' p' (Refused n) ≡ stepped q p t → leaving s' p' (Refused n) ≡ leaving q p (Refused n)
  untouched s' p' n e = e ∙ step_untouched q p t n (ap (λ (a : After). a.outcome) (sym e))

  -- the state's own record is put back
  put_back : set (set s.records t r) t (record_at s.records t) ≡ s.records
  put_back = set-set s.records t r _ ∙ set-get_or s.records t idle

  pub refused_lent : (s' : State) (p' : List ℕ) (n : ℕ) → leaving s' p' (Refused n) ≡ stepped q p t → lent (leaving (with_record s' t (record_at s.records t)) p' (Refused n)) r ≡ stepped_lent s p t r
  refused_lent s' p' n e =
      let kept = untouched s' p' n e in
      ap (λ (a : After). lent (leaving (with_record a.state t (record_at s.records t)) a.pool (Refused n)) r) kept
      ∙ (ap (λ (l : List Record). lent (leaving (record { tasks = s.tasks; cells = s.cells; blocks = s.blocks; last = s.last; current = s.current; records = l; counts = s.counts }) p (Refused n)) r) put_back
      ∙ refused n (sym kept ∙ e))

  -- a task beyond the records has none that could be lent
  pub beyond : length s.records ≡ 32 → 32 ≤ t → (s' : State) (p' : List ℕ) (o : Said) → leaving s' p' o ≡ stepped s p t → lent (leaving s' p' o) r ≡ stepped_lent s p t r
  beyond l h s' p' o e = go o e
    where
      same : s ≡ q
      same = placed s t r s l (inr (h, refl))

      no : (o : Said) → leaving s' p' o ≡ stepped s p t → is_refused o ≡ false → lent (leaving s' p' o) r ≡ stepped_lent s p t r
      no o e z = let b = below_32 s p t (leaving s' p' o) e z in absurd (omega arith)

      go : (o : Said) → leaving s' p' o ≡ stepped s p t → lent (leaving s' p' o) r ≡ stepped_lent s p t r
      go (Refused n) e =
          let kept = untouched s' p' n (e ∙ ap (λ (x : State). stepped x p t) same) in
          ap (λ (a : After). lent a r) (kept ∙ ap (λ (x : State). leaving x p (Refused n)) (sym same)) ∙ refused n (sym kept ∙ (e ∙ ap (λ (x : State). stepped x p t) same))
      go Acted e = no Acted e refl
      go (Ended f) e = no (Ended f) e refl
