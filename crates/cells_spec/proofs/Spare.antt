-- SOME TASK HOLDS NO REPLACED BLOCK: every task at an opening, and then the same one as before, until a line 30 succeeds. That makes its
-- task the next: its call has ended, so it holds none. When it holds one again, it is current, until the next line 30 succeeds.
use mathlib.Core.Path.{◌≡◌, refl, sym, ap, subst, ◌∙◌}
use mathlib.Core.Logic.{◌⊎◌, inl, inr}
use mathlib.Core.Bool.{Bool, true, false, ◌&&◌, not, false≢true}
use mathlib.Core.Option.{Option, none, some}
use mathlib.Core.List.{List, ◌∷◌}
use Prim.Native.Nat.{ℕ, ◌≤◌, ◌<◌}
use native.Mathlib.Omega.{arith}
use lib.Dec.{eqb}
use lib.ListN.{get_or, set, length}
use lib.Seq.{get_or-set_same, get_or-set_other, set-get_or}
use borrow.Author.Tests.{ltb-true}
use Rattle.figure_lines.specs.declared.Record.{Record}
use Rattle.cells_spec.specs.declared.State.{State}
use Rattle.figure_lines.specs.Record.{idle, is_idle, record_at, first_read, first_swap}
use Rattle.cells_spec.specs.Questions.{refusal, fit, holds, begin_questions, swap_questions}
use Rattle.cells_spec.proofs.Tests.{yes_to}
use Rattle.cells_spec.specs.Blocks.{is_current, holds_replaced, Spare, unused}
use Rattle.history_spec.specs.History.{read, swap, Action, begin, step, drop}
use Rattle.history_spec.proofs.Basics.{either}
use Rattle.cells_spec.specs.Open.{unless, open_state}
use Rattle.cells_spec.specs.Begin.{with_record, started, read_begun, swap_begun}
use Rattle.cells_spec.specs.Turn.{Turned, turn}
use Rattle.cells_spec.specs.Step.{current, put_back, ran, step_asks, stepped}
use Rattle.cells_spec.specs.Drop.{drop_asks, call_withdrawn, dropped}
use Rattle.cells_spec.specs.Machine.{does}
use Rattle.cells_spec.proofs.Stepping.{holds-current, block_stays}

module _ (s : State) (t : ℕ) (long : s.tasks ≤ length s.records) where
  abbrev r : Record
  r = record_at s.records t

  -- the cells name the same blocks
  same-current : (s' : State) → s'.current ≡ s.current → s'.cells ≡ s.cells → (b : ℕ) → is_current s' b ≡ is_current s b
  unfolding is_current
  same-current s' e f b = rw (e, f)

  -- with q for the task's record
  module _ (s' : State) (q : Record) (n : s'.tasks ≡ s.tasks) (e : s'.records ≡ set s.records t q) where
    own : t < s.tasks → holds_replaced s' q ≡ false → Spare s'
    own l h = (t, rw n l, subst (λ (r : Record). holds_replaced s' r ≡ false) (sym (ap (λ (l : List Record). get_or l t idle) e ∙ get_or-set_same s.records t q idle (omega arith))) h)

    -- where the cells name the same blocks, the same task, if it is another one or holds no replaced block
    still : s'.current ≡ s.current → s'.cells ≡ s.cells → (holds_replaced s r ≡ false → not (is_idle q) && holds q ≡ true → is_current s q.held ≡ true) → Spare s → Spare s'
    still f g keeps (w, m, z) = go (either w t)
      where
        none_held : (x y : Bool) → (x ≡ true → y ≡ true) → x && not y ≡ false
        none_held true y h = rw (h refl)
        none_held false y h = refl

        seen : (o : Record) → (not (is_idle o) && holds o) && not (is_current s o.held) ≡ false → holds_replaced s' o ≡ false
        seen o h = ap (λ (x : Bool). (not (is_idle o) && holds o) && not x) (same-current s' f g o.held) ∙ h

        go : (w ≡ t) ⊎ (w ≡ t → ⊥) → Spare s'
        go (inl i) = own (rw (← i) m) (seen q (none_held (not (is_idle q) && holds q) (is_current s q.held) (keeps (rw i at z))))
        go (inr i) = (w, rw n m, subst (λ (r : Record). holds_replaced s' r ≡ false) (sym (ap (λ (l : List Record). get_or l w idle) e ∙ get_or-set_other s.records t w q idle i)) (seen (record_at s.records w) z))

  module _ (p : List ℕ) (g : Spare s) where
    step_spare : Spare (stepped s p t).state
    unfolding stepped ran
    step_spare = go (refusal (step_asks s p t)) refl
      where
        x : Turned
        x = turn p t r (current s r.cell) s.last (unused s)

        acted : (e : refusal (step_asks s p t) ≡ none) (i : Bool) → is_idle x.record ≡ i → Spare (put_back s t r x).state
        acted e true i = own (put_back s t r x).state x.record refl refl (ltb-true t s.tasks (yes_to (step_asks s p t) e 7)) (rw i)
        acted e false i = still (put_back s t r x).state x.record refl refl (ap (set s.current r.cell) (block_stays s p t e i) ∙ set-get_or s.current r.cell 0) refl (holds-current s p t e) g

        go : (o : Option ℕ) → refusal (step_asks s p t) ≡ o → Spare (unless o s p (ran s p t r)).state
        go none e = acted e (is_idle x.record) refl
        go (some n) e = g

    -- whose call is withdrawn holds none
    drop_spare : Spare (dropped s p t).state
    unfolding dropped
    drop_spare = go (refusal (drop_asks s p t)) refl
      where
        go : (o : Option ℕ) → refusal (drop_asks s p t) ≡ o → Spare (unless o s p (call_withdrawn s p t)).state
        go none e = own (call_withdrawn s p t).state idle refl refl (ltb-true t s.tasks (yes_to (drop_asks s p t) e 7)) refl
        go (some n) e = g

    -- a first record holds no block
    begin_spare : (o : Option ℕ) (q : Record) → not (is_idle q) && holds q ≡ false → Spare (unless o s p (started s p t q)).state
    begin_spare none q h = still (with_record s t q) q refl refl refl refl (λ z e. absurd (false≢true (sym h ∙ e))) g
    begin_spare (some n) q h = g

    first-swap : (k e n : ℕ) → not (is_idle (first_swap k e n)) && holds (first_swap k e n) ≡ false
    first-swap k e n = go (eqb e n) refl
      where
        go : (x : Bool) → eqb e n ≡ x → not (is_idle (first_swap k e n)) && holds (first_swap k e n) ≡ false
        go true h = rw h
        go false h = rw h

-- Some task holds no replaced block before an action, whichever it is: so after it.
pub spare_stay : (s : State) (p : List ℕ) → s.tasks ≤ length s.records → Spare s → (a : Action) → Spare (does s p a).state
unfolding read_begun swap_begun
spare_stay s p long g (begin t (read k)) = begin_spare s t long p g (refusal ((6, fit s p) ∷ begin_questions s.tasks s.cells (record_at s.records t) t k)) (first_read k) refl
spare_stay s p long g (begin t (swap k e n)) = begin_spare s t long p g (refusal ((6, fit s p) ∷ swap_questions s.tasks s.cells (record_at s.records t) t k e n)) (first_swap k e n) (first-swap s t long p g k e n)
spare_stay s p long g (step t) = step_spare s t long p g
spare_stay s p long g (drop t) = drop_spare s t long p g

pub open_spare : (tasks cells blocks : ℕ) → 1 ≤ tasks → Spare (open_state tasks cells blocks)
open_spare tasks cells blocks h = (0, omega arith, refl)
