-- What holds of all cells, tasks and calls of a history together.
use mathlib.Core.Path.{◌≡◌}
use mathlib.Core.Logic.{◌≢◌, inl, inr}
use mathlib.Core.Bool.{Bool, true, cond}
use mathlib.Core.Option.{Option, none, some}
use mathlib.Core.List.{List, ◌∷◌}
use Prim.Native.Nat.{ℕ, ◌≤◌, ◌<◌}
use lib.ListN.{length}
use Rattle.history_spec.specs.Basics.{◌∈◌}
use Rattle.history_spec.proofs.OnCell as OnCell
use Rattle.once_spec.specs.declared.OnceCell.{OnceCell}
use Rattle.once_spec.specs.declared.Offer.{Offer}
use Rattle.once_spec.specs.Figure.{stage_of, idle_offer}
use Rattle.once_spec.specs.Questions.{has_offered}
use Rattle.once_spec.specs.History.{OnceId, OnceCall, OnceFinished, OnceCalls, hard, attempts_in}
use Rattle.once_spec.specs.Consensus.{offered_cell, Reported}
use Rattle.once_spec.proofs.Invariant as I
use Rattle.once_spec.proofs.Invariant.{Inv}
use Rattle.once_spec.proofs.Lone.{Company, nobody, first, settled, crowded, Company-is}
use Rattle.once_spec.proofs.Ways.{ways}

-- the offers on cell k; the other tasks are idle to it
abbrev pub on : (ℕ → Offer) → ℕ → ℕ → Offer
on = OnCell.on (λ (r : Offer). r.cell) idle_offer

-- OF A CELL, given the calls begun and those finished

abbrev pub OfferedOn : List OnceId → (cell value : ℕ) → Type 0
OfferedOn B k w = (i : OnceId) × (i ∈ B) × (i.cell ≡ k) × (i.value ≡ w)

abbrev pub NoneEnded : List OnceFinished → ℕ → Type 0
NoneEnded F k = (f : OnceFinished) → f ∈ F → offered_cell f.call ≢ k

-- two calls, both begun before any that has ended did
pub record Two (k : ℕ) (B : List OnceId) (F : List OnceFinished) : Type 0 where
  pub one : OnceId
  pub two : OnceId
  pub one_in : one ∈ B
  pub two_in : two ∈ B
  pub one_on : one.cell ≡ k
  pub two_on : two.cell ≡ k
  pub differ : one.at ≢ two.at
  pub before_ends : (f : OnceFinished) → f ∈ F → offered_cell f.call ≡ k → (one.at ≤ f.call.last) × (two.at ≤ f.call.last)

abbrev pub CallsOn : Company → ℕ → List OnceId → List OnceFinished → Type 0
CallsOn nobody k B F = ((i : OnceId) → i ∈ B → i.cell ≢ k) × NoneEnded F k
CallsOn (first p) k B F = ((i : OnceId) × (i ∈ B) × (i.cell ≡ k)) × NoneEnded F k
CallsOn settled k B F = (f : OnceFinished) → f ∈ F → offered_cell f.call ≡ k → hard f.call ≡ 0
CallsOn crowded k B F = Two k B F

pub record CellSound (k : ℕ) (m : OnceCell) (task : ℕ → Offer) (B : List OnceId) (F : List OnceFinished) : Type 0 where
  pub winner : Option ℕ
  pub fast : Bool
  pub company : Company
  pub inv : Inv (OfferedOn B k) m task winner fast
  pub company_is : Company-is company m task
  pub calls_on : CallsOn company k B F
  -- whoever has ended has the decision
  pub agreed : (f : OnceFinished) → f ∈ F → offered_cell f.call ≡ k → (f.agreed.value ≡ m.d) × (m.d ≢ I.none)
  pub noted-all : (i : OnceId) → i ∈ B → i.cell ≡ k → has_offered m i.task ≡ true
  pub room : length m.offered ≡ 32

-- OF A TASK, of n tasks and v cells

pub record Pends (n v : ℕ) (B : List OnceId) (t : ℕ) (c : OnceCall) (r : Offer) : Type 0 where
  pub low-task : t < n
  pub low-cell : r.cell < v
  pub on_cell : r.cell ≡ offered_cell c
  pub way : c.done ∈ ways (stage_of r)
  pub all-steps : r.steps ≡ length c.done
  pub all-hard : cond r.tried 1 0 ≡ attempts_in c.done
  pub is-begun : c.start ∈ B

abbrev pub Doing : (n v : ℕ) → List OnceId → ℕ → Option OnceCall → Offer → Type 0
Doing n v B t none r = r ≡ idle_offer
Doing n v B t (some c) r = Pends n v B t c r

-- OF A FINISHED CALL

pub record Ended (now : ℕ) (B : List OnceId) (f : OnceFinished) : Type 0 where
  pub reported : Reported f
  pub is-begun : f.call.start ∈ B
  pub over : f.call.last < now
  -- its value was offered before
  pub valid : (i : OnceId) × (i ∈ B) × (i.cell ≡ offered_cell f.call) × (i.value ≡ f.agreed.value) × (i.at < f.call.last)

-- ALL OF IT

pub record Sound (n v : ℕ) (cells : ℕ → OnceCell) (offers : ℕ → Offer) (b : OnceCalls) : Type 0 where
  pub each-cell : (k : ℕ) → CellSound k (cells k) (on offers k) b.ids b.finished
  pub each-task : (t : ℕ) → Doing n v b.ids t (b.pending t) (offers t)
  pub each-end : (f : OnceFinished) → f ∈ b.finished → Ended b.now b.ids f
  pub begun-before : (i : OnceId) → i ∈ b.ids → i.at < b.now
  pub one_offer : (i j : OnceId) → i ∈ b.ids → j ∈ b.ids → i.task ≡ j.task → i.cell ≡ j.cell → i ≡ j

-- WHAT GROWS

-- more is offered
pub grow : (O P : ℕ → Type 0) → ((w : ℕ) → O w → P w) → (m : OnceCell) (task : ℕ → Offer) (winner : Option ℕ) (fast : Bool) → Inv O m task winner fast → Inv P m task winner fast
grow O P g m task winner fast i = record {
  words = let w = i.words in record { kept = w.kept; unstored = w.unstored; v_offered = λ a. g m.v (w.v_offered a); d_offered = λ a. g m.d (w.d_offered a); undecided = w.undecided; fast_stored = w.fast_stored; fast_decided = w.fast_decided };
  tasks = λ u. let t = i.tasks u in record {
    splits = t.splits;
    decides = t.decides;
    values = let v = t.values in record { some-value = v.some-value; was_offered = λ a. g (task u).value (v.was_offered a); not_stored = v.not_stored; has_stored = v.has_stored; finds = v.finds };
  };
}

module _ (k : ℕ) (m : OnceCell) (task : ℕ → Offer) (B : List OnceId) (F : List OnceFinished) (S : CellSound k m task B F) where
  -- a call ends on another cell
  pub ends_elsewhere : (f : OnceFinished) → offered_cell f.call ≢ k → CellSound k m task B (f ∷ F)
  ends_elsewhere f ne = record {
    winner = S.winner;
    fast = S.fast;
    company = S.company;
    inv = S.inv;
    company_is = S.company_is;
    noted-all = S.noted-all;
    room = S.room;
    calls_on = calls S.company S.calls_on;
    agreed = old (λ g. (g.agreed.value ≡ m.d) × (m.d ≢ I.none)) S.agreed;
  }
    where
      old : (Q : OnceFinished → Type 0) → ((g : OnceFinished) → g ∈ F → offered_cell g.call ≡ k → Q g) → (g : OnceFinished) → g ∈ (f ∷ F) → offered_cell g.call ≡ k → Q g
      old Q h g (inl e) on_k = absurd (ne (rw (← e) on_k))
      old Q h g (inr i) on_k = h g i on_k

      none_ended : NoneEnded F k → NoneEnded (f ∷ F) k
      none_ended h g i on_k = old (λ g. ⊥) h g i on_k

      calls : (c : Company) → CallsOn c k B F → CallsOn c k B (f ∷ F)
      calls nobody h = (h.0, none_ended h.1)
      calls (first p) h = (h.0, none_ended h.1)
      calls settled h = old (λ g. hard g.call ≡ 0) h
      calls crowded h = record { one = h.one; two = h.two; one_in = h.one_in; two_in = h.two_in; one_on = h.one_on; two_on = h.two_on; differ = h.differ; before_ends = old (λ g. (h.one.at ≤ g.call.last) × (h.two.at ≤ g.call.last)) h.before_ends }

  -- a call begins on another cell
  pub begins_elsewhere : (i : OnceId) → i.cell ≢ k → CellSound k m task (i ∷ B) F
  begins_elsewhere i ne = record {
    winner = S.winner;
    fast = S.fast;
    company = S.company;
    inv = grow (OfferedOn B k) (OfferedOn (i ∷ B) k) (λ w o. (o.0, inr o.1, o.2, o.3)) m task S.winner S.fast S.inv;
    company_is = S.company_is;
    room = S.room;
    agreed = S.agreed;
    noted-all = noted S.noted-all;
    calls_on = calls S.company S.calls_on;
  }
    where
      noted : ((j : OnceId) → j ∈ B → j.cell ≡ k → has_offered m j.task ≡ true) → (j : OnceId) → j ∈ (i ∷ B) → j.cell ≡ k → has_offered m j.task ≡ true
      noted h j (inl e) on_k = absurd (ne (rw (← e) on_k))
      noted h j (inr x) on_k = h j x on_k

      calls : (c : Company) → CallsOn c k B F → CallsOn c k (i ∷ B) F
      calls nobody h = (away, h.1)
        where
          away : (j : OnceId) → j ∈ (i ∷ B) → j.cell ≢ k
          away j (inl e) = rw e ne
          away j (inr x) = h.0 j x
      calls (first p) h = ((h.0.0, inr h.0.1, h.0.2), h.1)
      calls settled h = h
      calls crowded h = record { one = h.one; two = h.two; one_in = inr h.one_in; two_in = inr h.two_in; one_on = h.one_on; two_on = h.two_on; differ = h.differ; before_ends = h.before_ends }
