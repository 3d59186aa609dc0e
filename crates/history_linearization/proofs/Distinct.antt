-- No two calls have the same begin, finished and withdrawn ones included.
use mathlib.Core.Path.{◌≡◌, refl, ap, subst}
use mathlib.Core.Logic.{◌⊎◌, ◌≢◌, inl, inr}
use mathlib.Core.Option.{none, some}
use mathlib.Core.List.{List, ◌∷◌, map}
use Prim.Native.Nat.{ℕ, suc, ◌<◌}
use native.Mathlib.Omega.{arith}
use Rattle.history_spec.specs.Basics.{◌∈◌, Once}
use Rattle.history_spec.specs.History.{Action, step, drop, Event, accepted, answered, Call, FinishedCall, WithdrawnCall, Calls, called, advanced, enter}
use Rattle.history_spec.proofs.Basics.{clash, some_inj}
use Rattle.history_linearization.proofs.Tracks.{upd-some, Change, refuses, starts, goes, ends, drops}
use Rattle.history_linearization.proofs.MovesOne.{Dated, last_one, ended-finished, last-withdrawn, dropped-withdrawn}

abbrev pub call_begins : List FinishedCall → List ℕ
call_begins l = map (λ f. f.call.start.at) l

abbrev pub drop_begins : List WithdrawnCall → List ℕ
drop_begins l = map (λ w. w.call.start.at) l

-- the begins of calls that have ended, one way or the other: those of one list, and of another
pub record Distinct (b : Calls) : Type 0 where
  pub past : (n : ℕ) → (n ∈ call_begins b.finished) ⊎ (n ∈ drop_begins b.withdrawn) → n < b.now
  pub once : Once (call_begins b.finished)
  pub once-withdrawn : Once (drop_begins b.withdrawn)
  pub apart : (t : ℕ) (c : Call) → b.pending t ≡ some c → (c.start.at ∈ call_begins b.finished) ⊎ (c.start.at ∈ drop_begins b.withdrawn) → ⊥
  pub apart_withdrawn : (n : ℕ) → n ∈ call_begins b.finished → n ∈ drop_begins b.withdrawn → ⊥

pub distinct_next : {S : Type 0} {s s' : S} {b : Calls} {a : Action} {e : Event} → Dated b → Distinct b → Change s s' b a e → Distinct (enter b a e)
distinct_next dated k (refuses q) = record { past = λ n i. omega (arith, k.past n i); once = k.once; once-withdrawn = k.once-withdrawn; apart = k.apart; apart_withdrawn = k.apart_withdrawn }
distinct_next {b = b} dated k (starts {t} {op} idle) = record {
  past = λ n i. omega (arith, k.past n i);
  once = k.once;
  once-withdrawn = k.once-withdrawn;
  apart = λ u c h i. apart u c i (upd-some b.pending t (some (called b t op)) u c h);
  apart_withdrawn = k.apart_withdrawn;
}
  where
    apart : (u : ℕ) (c : Call) → (c.start.at ∈ call_begins b.finished) ⊎ (c.start.at ∈ drop_begins b.withdrawn) → ((u ≡ t) × (some (called b t op) ≡ some c)) ⊎ ((u ≢ t) × (b.pending u ≡ some c)) → ⊥
    apart u c i (inl (q, e)) = let z = some_inj e refl in let y = k.past c.start.at i in omega (arith, ap (λ (c : Call). c.start.at) z)
    apart u c i (inr (q, h)) = k.apart u c h i
distinct_next {b = b} dated k (goes {t} {x} c busy) = record {
  past = λ n i. omega (arith, k.past n i);
  once = k.once;
  once-withdrawn = k.once-withdrawn;
  apart = λ u d h i. apart u d i (upd-some b.pending t (advanced b x (b.pending t)) u d h);
  apart_withdrawn = k.apart_withdrawn;
}
  where
    Ended : ℕ → Type 0
    Ended n = (n ∈ call_begins b.finished) ⊎ (n ∈ drop_begins b.withdrawn)

    apart : (u : ℕ) (d : Call) → Ended d.start.at → ((u ≡ t) × (advanced b x (b.pending t) ≡ some d)) ⊎ ((u ≢ t) × (b.pending u ≡ some d)) → ⊥
    apart u d i (inl (q, e)) = k.apart t c busy (subst (λ (d : Call). Ended d.start.at) (some_inj e (ap (advanced b x) busy)) i)
    apart u d i (inr (q, h)) = k.apart u d h i
distinct_next {b = b} dated k (ends {t} {x} {r} c busy p q) = record {
  past = λ j i. past j (rw fin at i);
  once = rw fin ((λ i. k.apart t c busy (inl i)), k.once);
  once-withdrawn = k.once-withdrawn;
  apart = λ u d j i. apart u d (rw fin at i) (upd-some b.pending t none u d j);
  apart_withdrawn = λ j h i. apart_withdrawn j (rw fin at h) i;
}
  where
    fin : (enter b (step t) (answered x r)).finished ≡ last_one b dated t x c busy r ∷ b.finished
    fin = ended-finished b dated t x c busy r

    past : (j : ℕ) → ((j ≡ c.start.at) ⊎ (j ∈ call_begins b.finished)) ⊎ (j ∈ drop_begins b.withdrawn) → j < suc b.now
    past j (inl (inl e)) = omega (arith, dated.past t c busy)
    past j (inl (inr i)) = omega (arith, k.past j (inl i))
    past j (inr i) = omega (arith, k.past j (inr i))

    apart : (u : ℕ) (d : Call) → ((d.start.at ≡ c.start.at) ⊎ (d.start.at ∈ call_begins b.finished)) ⊎ (d.start.at ∈ drop_begins b.withdrawn) → ((u ≡ t) × (none ≡ some d)) ⊎ ((u ≢ t) × (b.pending u ≡ some d)) → ⊥
    apart u d i (inl (z, e)) = clash refl e
    apart u d (inl (inl e)) (inr (z, j)) = z (dated.distinct u t d c j busy e)
    apart u d (inl (inr i)) (inr (z, j)) = k.apart u d j (inl i)
    apart u d (inr i) (inr (z, j)) = k.apart u d j (inr i)

    apart_withdrawn : (j : ℕ) → (j ≡ c.start.at) ⊎ (j ∈ call_begins b.finished) → j ∈ drop_begins b.withdrawn → ⊥
    apart_withdrawn j (inl e) i = k.apart t c busy (inr (subst (λ n. n ∈ drop_begins b.withdrawn) e i))
    apart_withdrawn j (inr h) i = k.apart_withdrawn j h i
distinct_next {b = b} dated k (drops {t} {x} c busy) = record {
  past = λ j i. past j (rw fin at i);
  once = k.once;
  once-withdrawn = rw fin ((λ i. k.apart t c busy (inr i)), k.once-withdrawn);
  apart = λ u d j i. apart u d (rw fin at i) (upd-some b.pending t none u d j);
  apart_withdrawn = λ j h i. apart_withdrawn j h (rw fin at i);
}
  where
    fin : (enter b (drop t) (accepted x)).withdrawn ≡ last-withdrawn b dated t x c busy ∷ b.withdrawn
    fin = dropped-withdrawn b dated t x c busy

    past : (j : ℕ) → (j ∈ call_begins b.finished) ⊎ ((j ≡ c.start.at) ⊎ (j ∈ drop_begins b.withdrawn)) → j < suc b.now
    past j (inl i) = omega (arith, k.past j (inl i))
    past j (inr (inl e)) = omega (arith, dated.past t c busy)
    past j (inr (inr i)) = omega (arith, k.past j (inr i))

    apart : (u : ℕ) (d : Call) → (d.start.at ∈ call_begins b.finished) ⊎ ((d.start.at ≡ c.start.at) ⊎ (d.start.at ∈ drop_begins b.withdrawn)) → ((u ≡ t) × (none ≡ some d)) ⊎ ((u ≢ t) × (b.pending u ≡ some d)) → ⊥
    apart u d i (inl (z, e)) = clash refl e
    apart u d (inl i) (inr (z, j)) = k.apart u d j (inl i)
    apart u d (inr (inl e)) (inr (z, j)) = z (dated.distinct u t d c j busy e)
    apart u d (inr (inr i)) (inr (z, j)) = k.apart u d j (inr i)

    apart_withdrawn : (j : ℕ) → j ∈ call_begins b.finished → (j ≡ c.start.at) ⊎ (j ∈ drop_begins b.withdrawn) → ⊥
    apart_withdrawn j h (inl e) = k.apart t c busy (inl (subst (λ n. n ∈ call_begins b.finished) e h))
    apart_withdrawn j h (inr i) = k.apart_withdrawn j h i
