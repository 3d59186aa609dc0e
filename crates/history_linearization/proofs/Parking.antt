-- A drop leaves the timeline as it is: the call's place is kept under another number.
use mathlib.Core.Path.{◌≡◌, refl, sym, ap, ◌∙◌, subst}
use mathlib.Core.Logic.{◌≢◌, ◌⊎◌, inl, inr}
use mathlib.Core.Bool.{Bool, true, false, not, cond}
use mathlib.Core.Option.{some}
use mathlib.Core.List.{List}
use Prim.Native.Nat.{ℕ, ◌≤◌, ◌<◌}
use native.Mathlib.Omega.{arith}
use lib.Dec.{eqb, T}
use borrow.Author.Tests.{eqb-true, eqb-false}
use Rattle.history_spec.specs.History.{Response, Yes, Call, Calls}
use Rattle.history_spec.specs.Linearization.{Point}
use Rattle.history_spec.specs.Moments.{Mark}
use Rattle.history_spec.proofs.Basics.{upd_same, upd_off, some_inj, point}
use Rattle.history_linearization.proofs.Simulation.{Phase, settled, frozen, late, Ghost, renamed, parks}
use Rattle.history_linearization.proofs.Timeline.{cell}
use Rattle.history_linearization.proofs.Growing.{regarded}
use Rattle.history_linearization.proofs.Kept.{Entry, of_finished, of_pending, Late, Kept}
use Rattle.history_linearization.proofs.Moves.{firm_of, firm, firm_later, Onto}
use Rattle.history_linearization.proofs.Parked.{Renumbers, comes_from, goes_to}

pub firm_renamed : (t u : ℕ) (p : Phase) (now froze : ℕ) → firm_of (renamed t u p) now froze ≡ firm_of p now froze
firm_renamed t u settled now froze = refl
firm_renamed t u frozen now froze = refl
firm_renamed t u (late v) now froze = go (eqb v t)
  where
    go : (b : Bool) → firm_of (cond b (late u) (late v)) now froze ≡ froze
    go true = refl
    go false = refl

-- a phase that is late now was late before, of the call that got another number or of another one
pub late_before : (t u : ℕ) (p : Phase) (w : ℕ) → renamed t u p ≡ late w → ((w ≡ u) × (p ≡ late t)) ⊎ ((w ≢ t) × (p ≡ late w))
late_before t u settled w h = absurd (let z : ◌≡◌ {A = ℕ} 0 1 = cc in omega arith)
late_before t u frozen w h = absurd (let z : ◌≡◌ {A = ℕ} 0 1 = cc in omega arith)
late_before t u (late v) w h = go (eqb v t) refl h
  where
    go : (b : Bool) → eqb v t ≡ b → cond b (late u) (late v) ≡ late w → ((w ≡ u) × (late v ≡ late t)) ⊎ ((w ≢ t) × (late v ≡ late w))
    go true e h = inl (let z : u ≡ w = cc in sym z, ap late (eqb-true v t e))
    go false e h = inr ((λ y. eqb-false v t e (let z : v ≡ w = cc in z ∙ y)), h)

module _ {values : ℕ → ℕ} (g : Ghost) {t u : ℕ} {c : Call} {b b' : Calls} {past : ℕ → ℕ → ℕ} {ms : List Mark} (k : Kept values g b past (firm g b.now) ms) (m : Renumbers t u c b b') where
  abbrev g' : Ghost
  g' = parks g t u

  abbrev Before : Point → Response → Type 0
  Before = Entry g.placed g.when b.pending ms

  abbrev Then : Point → Response → Type 0
  Then = Entry g'.placed g'.when b'.pending ms

  placed_off : (v : ℕ) → v ≢ u → g'.placed v ≡ g.placed v
  placed_off = upd_off g.placed u (g.placed t)

  when_off : (v : ℕ) → v ≢ u → g'.when v ≡ g.when v
  when_off = upd_off g.when u (g.when t)

  placed-here : g'.placed u ≡ g.placed t
  placed-here = upd_same g.placed u (g.placed t)

  when_here : g'.when u ≡ g.when t
  when_here = upd_same g.when u (g.when t)

  to : (e : Point) (a : Response) → Before e a → Then e a
  to e a (of_finished x i) = of_finished x i
  to e a (of_pending v d h p) = go (goes_to m v d h)
    where
      go : ((v ≡ t) × (c ≡ d)) ⊎ ((v ≢ u) × (v ≢ t) × (b'.pending v ≡ some d)) → Then (point d (g.when v)) Yes
      go (inl (q, z)) = subst (λ n. Then (point d n) Yes) (when_here ∙ ap g.when (sym q)) (of_pending u d (m.parked ∙ ap (λ (c : Call). some c) z) (subst T (sym placed-here) (subst (λ n. T (g.placed n)) q p)))
      go (inr (n, o, i)) = subst (λ n. Then (point d n) Yes) (when_off v n) (of_pending v d i (subst T (sym (placed_off v n)) p))

  from : (e : Point) (a : Response) → Then e a → Before e a
  from e a (of_finished x i) = of_finished x i
  from e a (of_pending v d h p) = go (comes_from m v d h)
    where
      go : ((v ≡ u) × (c ≡ d)) ⊎ ((v ≢ u) × (v ≢ t) × (b.pending v ≡ some d)) → Before (point d (g'.when v)) Yes
      go (inl (q, z)) = subst (λ n. Before (point d n) Yes) (sym (ap g'.when q ∙ when_here)) (of_pending t d (m.was ∙ ap (λ (c : Call). some c) z) (subst T placed-here (subst (λ n. T (g'.placed n)) q p)))
      go (inr (n, o, i)) = subst (λ n. Before (point d n) Yes) (sym (when_off v n)) (of_pending v d i (subst T (placed_off v n) p))

  up : (j : ℕ) → (firm g b.now j ≤ firm g' b'.now j) × (firm g' b'.now j ≤ b'.now)
  up j = let f = firm_later (g.phase j) b.now (g.since j) (k.bound j) in rw (firm_renamed t u (g.phase j) b'.now (g.since j), m.later) f

  -- what the drop leaves
  pub park_onto : Onto values g' b' past (firm g b.now) ms
  park_onto = record { later = past; kept = kept; stays = λ j i h. refl; up = λ j. (up j).0 }
    where
      stands : (v : ℕ) (d : Call) → T (g'.placed v) → ((v ≡ u) × (c ≡ d)) ⊎ ((v ≢ u) × (v ≢ t) × (b.pending v ≡ some d)) → (d.start.at < g'.when v) × (g'.when v ≤ d.last)
      stands v d p (inl (q, z)) = rw (← z) (let s = k.stands t c m.was (subst T placed-here (subst (λ n. T (g'.placed n)) q p)) in omega (arith, ap g'.when q, when_here))
      stands v d p (inr (n, o, i)) = let s = k.stands v d i (subst T (placed_off v n) p) in omega (arith, when_off v n)

      lates : (j w : ℕ) → ((w ≡ u) × (g.phase j ≡ late t)) ⊎ ((w ≢ t) × (g.phase j ≡ late w)) → Late g'.placed g'.since b'.pending j w
      lates j w (inl (q, z)) =
          let p = k.lates j t z in
          let e : p.call ≡ c = some_inj p.busy m.was in
          rw q (record { call = p.call; busy = m.parked ∙ ap (λ (c : Call). some c) (sym e); on = p.on; after-begin = p.after-begin; by_last_step = p.by_last_step; unplaced = subst (λ x. T (not x)) (sym placed-here) p.unplaced })
      lates j w (inr (n, z)) = let p = k.lates j w z in go p (goes_to m w p.call p.busy)
        where
          go : (p : Late g.placed g.since b.pending j w) → ((w ≡ t) × (c ≡ p.call)) ⊎ ((w ≢ u) × (w ≢ t) × (b'.pending w ≡ some p.call)) → Late g'.placed g'.since b'.pending j w
          go p (inl (e, f)) = absurd (n e)
          go p (inr (n', o, i)) = record { call = p.call; busy = i; on = p.on; after-begin = p.after-begin; by_last_step = p.by_last_step; unplaced = subst (λ x. T (not x)) (sym (placed_off w n')) p.unplaced }

      kept : Kept values g' b' past (firm g' b'.now) ms
      kept = record {
        line = regarded k.line to from;
        ends = λ j n h. k.ends j n (omega (arith, (up j).0));
        firmed = λ e a i. omega (arith, k.firmed e a (from e a i), (up (cell e)).0);
        bound = λ j. (up j).1;
        marked = rw m.same-finished k.marked;
        stands = λ v d h p. stands v d p (comes_from m v d h);
        lates = λ j w h. lates j w (late_before t u (g.phase j) w h);
      }
