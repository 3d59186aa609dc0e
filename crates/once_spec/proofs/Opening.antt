-- Everything holds of an opening.
use mathlib.Core.Path.{◌≡◌, refl, ap}
use mathlib.Core.Bool.{false}
use mathlib.Core.Option as Maybe
use mathlib.Core.List.{[]}
use Prim.Native.Nat.{ℕ}
use Rattle.figure_lines.specs.Record.{no_value}
use Rattle.history_spec.proofs.OnCell.{on_idle}
use Rattle.history_spec.proofs.Basics.{no_eq, clash, replicate_at}
use Rattle.once_spec.specs.declared.Offer.{Offer}
use Rattle.once_spec.specs.Figure.{nowhere, stage_of, idle_offer}
use Rattle.once_spec.specs.Questions.{offer_at, fresh_cell, once_at}
use Rattle.once_spec.specs.Entries.{once_start}
use Rattle.once_spec.specs.History.{no_offers}
use Rattle.once_spec.proofs.Invariant as I
use Rattle.once_spec.proofs.Invariant.{Task}
use Rattle.once_spec.proofs.Keeping.{no_winner}
use Rattle.once_spec.proofs.Lone.{nobody}
use Rattle.once_spec.proofs.Sound.{on, OfferedOn, CellSound, Sound}

fresh-is : no_value ≡ I.none
unfolding I.none
fresh-is = refl

module _ (task : ℕ → Offer) (idle : (u : ℕ) → stage_of (task u) ≡ nowhere) (k : ℕ) where
  no_offer : (w : ℕ) → ⊥ → OfferedOn [] k w
  no_offer w x = absurd x

  rests : (u w : ℕ) → Task (OfferedOn [] k) fresh_cell Maybe.none false u nowhere w
  rests u w = search (no_eq, no_winner, no_offer)

  fresh-cell : CellSound k fresh_cell task [] []
  fresh-cell = record {
    winner = Maybe.none;
    fast = false;
    company = nobody;
    inv = record {
      words = record { kept = λ t e. absurd (clash refl e); unstored = λ e. fresh-is; v_offered = λ e. absurd (e fresh-is); d_offered = λ e. absurd (e fresh-is); undecided = λ f c. fresh-is; fast_stored = λ f. absurd f; fast_decided = λ f. absurd f };
      tasks = λ u. rw (idle u) (rests u (task u).value);
    };
    company_is = (idle, refl, refl);
    calls_on = (λ i x. absurd x, λ f x. absurd x);
    agreed = λ f x. absurd x;
    noted-all = λ i x. absurd x;
    room = refl;
  }

pub opening_sound : (n v : ℕ) → Sound n v (once_at (once_start n v)) (offer_at (once_start n v)) no_offers
opening_sound n v = record {
  each-cell = λ k. rw (replicate_at fresh_cell 16 k) (fresh-cell (on (offer_at (once_start n v)) k) (λ u. ap stage_of (on_idle (λ (r : Offer). r.cell) idle_offer (offer_at (once_start n v)) k u (replicate_at idle_offer 32 u))) k);
  each-task = λ t. replicate_at idle_offer 32 t;
  each-end = λ f x. absurd x;
  begun-before = λ i x. absurd x;
  one_offer = λ i j x. absurd x;
}
