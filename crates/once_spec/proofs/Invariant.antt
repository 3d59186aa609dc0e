-- The invariant of one once-only cell, as small facts grouped by the words that they look at.
use mathlib.Core.Path.{◌≡◌, sym, subst}
use mathlib.Core.Logic.{◌≢◌}
use mathlib.Core.Bool.{Bool, not}
use mathlib.Core.Option.{Option, some}
use mathlib.Core.Option as Maybe
use Prim.Native.Nat.{ℕ}
use lib.Dec.{T}
use Rattle.figure_lines.specs.Record as Reserved
use Rattle.history_spec.specs.Basics.{upd}
use Rattle.history_spec.proofs.Basics.{upd-cases}
use Rattle.once_spec.specs.declared.OnceCell.{OnceCell}
use Rattle.once_spec.specs.declared.Offer.{Offer}
use Rattle.once_spec.specs.Figure.{Stage, stage_of}
use Rattle.once_spec.proofs.Classes.{is, busy, racing, winning, stored, past, choosing}

-- document 01's none, kept shut: its digits say nothing here
unfoldable pub none : ℕ
none = Reserved.no_value

-- Beside the cell the proof sees the offers on it (the other tasks idle), who won the splitter, and whether it found C false (fast).

-- OF A TASK u at step ℓ with the value w; Offered are the values offered on the cell

pub record Splits (winner : Option ℕ) (x y u : ℕ) (ℓ : Stage) : Type 0 where
  pub has_won : T (winning ℓ) → winner ≡ some u
  pub is_set : T (is 4 ℓ) → y ≢ 0
  -- once somebody has won, no one else can
  pub no_race : T (racing ℓ) → (t : ℕ) → winner ≡ some t → x ≢ u

pub record Values (Offered : ℕ → Type 0) (v : ℕ) (ℓ : Stage) (w : ℕ) : Type 0 where
  pub some-value : T (busy ℓ) → w ≢ none
  pub was_offered : T (busy ℓ) → Offered w
  pub not_stored : T (is 5 ℓ) → v ≡ none
  pub has_stored : T (stored ℓ) → v ≡ w
  pub finds : T (is 10 ℓ) → v ≢ none

pub record Decides (fast : Bool) (c v d : ℕ) (ℓ : Stage) (w : ℕ) : Type 0 where
  pub contended : T (past ℓ) → c ≢ 0
  pub decided : T (is 13 ℓ) → d ≢ none
  pub is_fast : T (is 7 ℓ) → T fast
  -- after a winner found C false, whoever comes to decide has taken over its value
  pub follows : T (choosing ℓ) → T fast → w ≡ v

pub record Task (Offered : ℕ → Type 0) (m : OnceCell) (winner : Option ℕ) (fast : Bool) (u : ℕ) (ℓ : Stage) (w : ℕ) : Type 0 where
  pub splits : Splits winner m.x m.y u ℓ
  pub values : Values Offered m.v ℓ w
  pub decides : Decides fast m.c m.v m.d ℓ w

-- OF THE CELL

pub record Words (Offered : ℕ → Type 0) (winner : Option ℕ) (fast : Bool) (y c v d : ℕ) : Type 0 where
  pub kept : (t : ℕ) → winner ≡ some t → y ≢ 0
  pub unstored : winner ≡ Maybe.none → v ≡ none
  pub v_offered : v ≢ none → Offered v
  pub d_offered : d ≢ none → Offered d
  -- before C is set, only a winner that found it so decides
  pub undecided : T (not fast) → c ≡ 0 → d ≡ none
  pub fast_stored : T fast → v ≢ none
  pub fast_decided : T fast → d ≢ none → d ≡ v

-- ALL OF IT

abbrev pub WordsOf : (ℕ → Type 0) → OnceCell → Option ℕ → Bool → Type 0
WordsOf O m winner fast = Words O winner fast m.y m.c m.v m.d

pub record Inv (O : ℕ → Type 0) (m : OnceCell) (task : ℕ → Offer) (winner : Option ℕ) (fast : Bool) : Type 0 where
  pub words : WordsOf O m winner fast
  pub tasks : (u : ℕ) → Task O m winner fast u (stage_of (task u)) (task u).value

-- words and ghost change, then one offer: what holds of everybody else, and what holds of the stepper, make the invariant again
pub finish : (O : ℕ → Type 0) (m : OnceCell) (task : ℕ → Offer) (winner : Option ℕ) (fast : Bool) (p : ℕ) (ℓ : Stage) (r : Offer) → stage_of r ≡ ℓ →
    WordsOf O m winner fast → ((u : ℕ) → u ≢ p → Task O m winner fast u (stage_of (task u)) (task u).value) → Task O m winner fast p ℓ r.value → Inv O m (upd task p r) winner fast
finish O m task winner fast p ℓ r e w others mine = record {
  words = w;
  tasks = λ u. upd-cases (λ q. Task O m winner fast u (stage_of q) q.value) task p r u (λ z. subst (λ n. Task O m winner fast n (stage_of r) r.value) (sym z) (rw e mine)) (others u);
}
