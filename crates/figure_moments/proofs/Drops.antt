-- A call is withdrawn. For the proof it goes on as one that has halted, under a number of its own, if it has stored: the invariant holds again,
-- and so do the moments.
use mathlib.Core.Path.{◌≡◌, refl, sym, ap, subst, ◌∙◌}
use mathlib.Core.Logic.{◌≢◌, ◌⊎◌, inl, inr}
use mathlib.Core.Bool.{Bool, true, false, cond}
use mathlib.Core.Option.{some}
use mathlib.Core.List.{List, []}
use Prim.Native.Nat.{ℕ, suc, ◌≤◌, ◌<◌}
use native.Mathlib.Omega.{arith}
use lib.Dec.{T}
use Rattle.figure_lines.specs.declared.Record.{Record}
use Rattle.figure_lines.specs.Record.{idle}
use Rattle.figure_lines.specs.Lines.{Line, line_of, nowhere}
use Rattle.history_spec.specs.Basics.{upd}
use Rattle.history_spec.proofs.Basics.{either, upd_same, upd_off}
use Rattle.history_linearization.proofs.Simulation.{settled, late, Ghost, renamed, parks, Grown, Passes}
use Rattle.history_linearization.proofs.Simulation as Sim
use Rattle.figure.specs.Figure.{World, figure}
use Rattle.figure_moments.specs.Moments.{Notes, effect, names, sees}
use Rattle.figure.proofs.Records.{Pending, OnPath, AllOnPath}
use Rattle.figure_cell.proofs.Classes.{busy, holding, stored, storing, viewing, lies_in}
use Rattle.figure_cell.proofs.Invariant.{View, Knowledge, line, Inv}
use Rattle.figure_cell.proofs.Frame.{Grows, grow, moved}
use Rattle.figure_cell.proofs.Dropping.{renamed_off, Inherits, kept, without, parks_there}
use Rattle.figure.proofs.Tallies.{tally, tally_of, doing}
use Rattle.figure.proofs.Views.{on, on_in, on_out, on_idle, on_changed, on_elsewhere, view, placed_changed}
use Rattle.figure.proofs.Worlds.{Good, there, doing_on}
use Rattle.figure_moments.proofs.Known.{doing_in, clock, known}
use Rattle.figure_moments.proofs.Dated.{Dated}

-- task t's call gets the number u
abbrev pub parked_world : World → (t u : ℕ) → World
parked_world w t u = record { tasks = suc u; cells = w.cells; cell = w.cell; records = upd (upd w.records t idle) u (kept (w.records t)) }

abbrev pub parked_notes : Notes → (t u : ℕ) → Notes
parked_notes o t u = record {
  now = suc o.now;
  loaded = upd o.loaded u (o.loaded t);
  stored = upd o.stored u (o.stored t);
  stored_active = upd o.stored_active u (o.stored_active t);
  inactive = upd o.inactive u (o.inactive t);
  decided = upd o.decided u (o.decided t);
  replaced = upd o.replaced u (o.replaced t);
  waiting = o.waiting;
}

pub kept_either : (q : Record) → (T (stored (line_of q)) × (kept q ≡ q)) ⊎ (((T (stored (line_of q))) → ⊥) × (kept q ≡ idle))
kept_either q = go (stored (line_of q)) refl
  where
    go : (x : Bool) → stored (line_of q) ≡ x → (T (stored (line_of q)) × (cond x q idle ≡ q)) ⊎ ((T (stored (line_of q)) → ⊥) × (cond x q idle ≡ idle))
    go true e = inl (rw e tt, refl)
    go false e = inr ((λ z. rw e at z), refl)

nowhere_grows : (s : View) (κ κ' : Knowledge) (v : ℕ) (ℓ : Line) → ℓ ≡ nowhere → Grows s κ κ' v ℓ
nowhere_grows s κ κ' v ℓ e = rw e (record { loaded = λ b. absurd b; decided = λ b. absurd b; replaced = λ b. absurd b; early = λ b. absurd b; stored_active = λ b. absurd b })

module _ (w : World) (notes : Notes) (g : Ghost) (κ : Sim.Knowledge) (G : Good w g (known notes κ)) (t u : ℕ) (did : List Line) (o : Pending w.cells did (w.records t)) (low : t < w.tasks) (room : w.tasks ≤ u) (free : w.records u ≡ idle) where
  abbrev q : Record
  q = w.records t

  abbrev k : ℕ
  k = q.cell

  abbrev w' : World
  w' = parked_world w t u

  abbrev notes' : Notes
  notes' = parked_notes notes t u

  abbrev g' : Ghost
  g' = parks g t u

  pub ne : t ≢ u
  ne e = omega arith

  pub record_there : w'.records u ≡ kept q
  record_there = upd_same (upd w.records t idle) u (kept q)

  pub record_gone : w'.records t ≡ idle
  record_gone = upd_off (upd w.records t idle) u (kept q) t ne ∙ upd_same w.records t idle

  pub record_other : (v : ℕ) → v ≢ t → v ≢ u → w'.records v ≡ w.records v
  record_other v n m = upd_off (upd w.records t idle) u (kept q) v m ∙ upd_off w.records t idle v n

  -- its late store is awaited only on its own cell
  pub not_late : (j : ℕ) → j ≢ k → g.phase j ≢ late t
  not_late j n z = n (sym (there w j t stored tt (((G.cells j).tasks t).owner z).has_stored).1)

  on_path : AllOnPath w'
  on_path v = go (either v u) (either v t)
    where
      go : (v ≡ u) ⊎ (v ≢ u) → (v ≡ t) ⊎ (v ≢ t) → (d : List Line) × OnPath (suc u) w.cells v d (w'.records v)
      go (inl e) z = at (kept_either q)
        where
          at : (T (stored (line_of q)) × (kept q ≡ q)) ⊎ ((T (stored (line_of q)) → ⊥) × (kept q ≡ idle)) → (d : List Line) × OnPath (suc u) w.cells v d (w'.records v)
          at (inl y) = (did, inr (omega arith, subst (Pending w.cells did) (sym (ap w'.records e ∙ record_there ∙ y.1)) o))
          at (inr y) = ([], inl (ap w'.records e ∙ record_there ∙ y.1, refl))
      go (inr n) (inl e) = ([], inl (ap w'.records e ∙ record_gone, refl))
      go (inr n) (inr m) = let p = G.on_path v in (p.0, subst (OnPath (suc u) w.cells v p.0) (sym (record_other v m n)) (more p.1))
        where
          more : {d : List Line} {r : Record} → OnPath w.tasks w.cells v d r → OnPath (suc u) w.cells v d r
          more (inl i) = inl i
          more (inr (l, i)) = inr (omega arith, i)

  module _ (κ' : Sim.Knowledge) (grown : Grown doing_in clock (names figure sees) (w, notes) (w', notes') g' κ κ') (passes : Passes doing_in clock (names figure sees) κ κ' t u) where
    abbrev κ₀ : Knowledge
    κ₀ = known notes κ

    abbrev κ₁ : Knowledge
    κ₁ = known notes' κ'

    -- what the others know
    theirs : (j v : ℕ) → v ≢ t → v ≢ u → Grows (view w g j) κ₀ κ₁ v (line (view w g j) v)
    theirs j v n m = record {
      loaded = λ b x z. knows (lies_in viewing busy tt (line (view w g j) v) b) (sym (upd_off notes.loaded u (notes.loaded t) v m)) x z;
      decided = λ b d x z. knows (lies_in holding busy tt (line (view w g j) v) b) (sym (upd_off notes.decided u (notes.decided t) v m)) x z;
      replaced = λ b d x z. knows (lies_in holding busy tt (line (view w g j) v) b) (sym (upd_off notes.replaced u (notes.replaced t) v m)) x z;
      early = λ b z. grown.early v _ _ (was b) (is b) z;
      stored_active = λ b. upd_off notes.stored_active u (notes.stored_active t) v m;
    }
      where
        was : T (busy (line (view w g j) v)) → doing w v ≡ some (tally (w.records v))
        was b = (doing_on w j v b).0

        is : T (busy (line (view w g j) v)) → doing w' v ≡ some (tally (w.records v))
        is b = ap tally_of (record_other v n m) ∙ was b

        knows : T (busy (line (view w g j) v)) → {a a' : ℕ} → a ≡ a' → (x : ℕ) → κ.saw v a x → κ'.saw v a' x
        knows b {a} e x z = subst (λ a. κ'.saw v a x) e (grown.saw v _ _ (was b) (is b) a x z)

    inherits : Inherits κ₀ κ₁ t u
    inherits = record {
      loaded = λ v z. subst (λ a. κ'.saw u a v) (sym (upd_same notes.loaded u (notes.loaded t))) (passes.saw (notes.loaded t) v z);
      decided = λ v z. subst (λ a. κ'.saw u a v) (sym (upd_same notes.decided u (notes.decided t))) (passes.saw (notes.decided t) v z);
      replaced = λ v z. subst (λ a. κ'.saw u a v) (sym (upd_same notes.replaced u (notes.replaced t))) (passes.saw (notes.replaced t) v z);
      early = passes.early;
      stored_active = upd_same notes.stored_active u (notes.stored_active t);
    }

    idle-there : (j : ℕ) → on w.records j u ≡ idle
    idle-there j = on_idle w.records j u free

    here : on w.records k t ≡ q
    here = on_in w.records k t refl

    -- its own cell
    kept_here : Inv (moved (without (view w g k) κ₀ κ₁ (G.cells k) t u ne (ap line_of (idle-there k)) inherits (theirs k)) u (kept q)) κ₁
    kept_here = subst (λ (r : Record). Inv (moved (without (view w g k) κ₀ κ₁ (G.cells k) t u ne (ap line_of (idle-there k)) inherits (theirs k)) u (kept r)) κ₁) here
        (parks_there (view w g k) κ₀ κ₁ (G.cells k) t u ne (ap line_of (idle-there k)) inherits (theirs k))

    on_own : on w'.records k ≡ upd (upd (on w.records k) t idle) u (kept q)
    on_own = on_changed (upd w.records t idle) u (kept q) k (its (kept_either q)) ∙ ap (λ f. upd f u (kept q)) (on_changed w.records t idle k (inr refl))
      where
        its : (T (stored (line_of q)) × (kept q ≡ q)) ⊎ ((T (stored (line_of q)) → ⊥) × (kept q ≡ idle)) → ((kept q).cell ≡ k) ⊎ (kept q ≡ idle)
        its (inl y) = inl (ap (λ (r : Record). r.cell) y.1)
        its (inr y) = inr y.1

    view_here : view w' g' k ≡ moved (without (view w g k) κ₀ κ₁ (G.cells k) t u ne (ap line_of (idle-there k)) inherits (theirs k)) u (kept q)
    view_here = λ i. record { cell = w.cell k; task = on_own i; value = g.cells k; placed = g'.placed; phase = g'.phase k }

    -- another cell
    module _ (j : ℕ) (n : j ≢ k) where
      on_there : on w'.records j ≡ on w.records j
      on_there = on_elsewhere (upd w.records t idle) u (kept q) j (inr (upd_off w.records t idle u (λ e. ne (sym e)) ∙ free)) (its (kept_either q)) ∙ on_elsewhere w.records t idle j (inl (λ e. n (sym e))) (inr refl)
        where
          its : (T (stored (line_of q)) × (kept q ≡ q)) ⊎ ((T (stored (line_of q)) → ⊥) × (kept q ≡ idle)) → ((kept q).cell ≢ j) ⊎ (kept q ≡ idle)
          its (inl y) = inl (λ e. n (sym (sym (ap (λ (r : Record). r.cell) y.1) ∙ e)))
          its (inr y) = inr y.1

      t_off : on w.records j t ≡ idle
      t_off = on_out w.records j t (λ e. n (sym e))

      grown_there : Inv (view w g j) κ₁
      grown_there = grow (view w g j) κ₀ κ₁ (λ v. all v (either v t) (either v u)) (G.cells j)
        where
          all : (v : ℕ) → (v ≡ t) ⊎ (v ≢ t) → (v ≡ u) ⊎ (v ≢ u) → Grows (view w g j) κ₀ κ₁ v (line (view w g j) v)
          all v (inl e) z = nowhere_grows (view w g j) κ₀ κ₁ v (line (view w g j) v) (ap (λ v. line (view w g j) v) e ∙ ap line_of t_off)
          all v (inr m) (inl e) = nowhere_grows (view w g j) κ₀ κ₁ v (line (view w g j) v) (ap (λ v. line (view w g j) v) e ∙ ap line_of (idle-there j))
          all v (inr m) (inr l) = theirs j v m l

      busy_other : (v : ℕ) → T (busy (line (view w g j) v)) → v ≢ u
      busy_other v b e = rw (e, idle-there j) at b

      kept_there : Inv (record { cell = w.cell j; task = on w.records j; value = g.cells j; placed = g'.placed; phase = g.phase j }) κ₁
      kept_there = placed_changed (view w g j) κ₁ g'.placed (λ v b. upd_off g.placed u (g.placed t) v (busy_other v b))
          (λ v z. lies_in stored busy tt (line (view w g j) v) (((G.cells j).tasks v).owner z).has_stored) grown_there

      view_there : view w' g' j ≡ record { cell = w.cell j; task = on w.records j; value = g.cells j; placed = g'.placed; phase = g.phase j }
      view_there = λ i. record { cell = w.cell j; task = on_there i; value = g.cells j; placed = g'.placed; phase = renamed_off t u (g.phase j) (not_late j n) i }

    pub parked_good : Good w' g' κ₁
    parked_good = record { on_path = on_path; eager = grown.fresh_early; cells = λ j. go j (either j k) }
      where
        go : (j : ℕ) → (j ≡ k) ⊎ (j ≢ k) → Inv (view w' g' j) κ₁
        go j (inl e) = subst (λ i. Inv (view w' g' i) κ₁) (sym e) (subst (λ (v : View). Inv v κ₁) (sym view_here) kept_here)
        go j (inr e) = subst (λ (v : View). Inv v κ₁) (sym (view_there j e)) (kept_there j e)

  -- MOMENTS

  effect-there : effect notes' u ≡ effect notes t
  effect-there = λ i. cond (upd_same notes.stored_active u (notes.stored_active t) i) (upd_same notes.stored u (notes.stored t) i) (upd_same notes.inactive u (notes.inactive t) i)

  effect_other : (v : ℕ) → v ≢ u → effect notes' v ≡ effect notes v
  effect_other v m = λ i. cond (upd_off notes.stored_active u (notes.stored_active t) v m i) (upd_off notes.stored u (notes.stored t) v m i) (upd_off notes.inactive u (notes.inactive t) v m i)

  -- whose record it is now
  data Whose (v : ℕ) : Type 0 where
    parked : v ≡ u → w'.records v ≡ q → Whose v
    other : v ≢ u → w'.records v ≡ w.records v → Whose v
    nobody : w'.records v ≡ idle → Whose v

  whose : (v : ℕ) → Whose v
  whose v = go (either v u) (either v t)
    where
      go : (v ≡ u) ⊎ (v ≢ u) → (v ≡ t) ⊎ (v ≢ t) → Whose v
      go (inl e) z = at (kept_either q)
        where
          at : (T (stored (line_of q)) × (kept q ≡ q)) ⊎ ((T (stored (line_of q)) → ⊥) × (kept q ≡ idle)) → Whose v
          at (inl y) = parked e (ap w'.records e ∙ record_there ∙ y.1)
          at (inr y) = nobody (ap w'.records e ∙ record_there ∙ y.1)
      go (inr n) (inl e) = nobody (ap w'.records e ∙ record_gone)
      go (inr n) (inr m) = other n (record_other v m n)

  pub parked_dated : Dated w notes g → Dated w' notes' g'
  parked_dated D = record { placed = λ v. placed v (whose v); since = λ v. since v (whose v) }
    where
      placed : (v : ℕ) → Whose v → T (busy (line_of (w'.records v))) → T (g'.placed v) → g'.when v ≡ effect notes' v
      placed v (parked e r) b z = ap g'.when e ∙ upd_same g.when u (g.when t) ∙ D.placed t (rw r at b) (subst T (ap g'.placed e ∙ upd_same g.placed u (g.placed t)) z) ∙ sym (ap (effect notes') e ∙ effect-there)
      placed v (other n r) b z = upd_off g.when u (g.when t) v n ∙ D.placed v (rw r at b) (subst T (upd_off g.placed u (g.placed t) v n) z) ∙ sym (effect_other v n)
      placed v (nobody r) b z = absurd (rw r at b)

      unsettled : (j : ℕ) → renamed t u (g.phase j) ≢ settled → g.phase j ≢ settled
      unsettled j n z = n (ap (renamed t u) z)

      since : (v : ℕ) → Whose v → T (storing (line_of (w'.records v))) → (w'.records v).held ≡ (w'.cell (w'.records v).cell).current → g'.phase (w'.records v).cell ≢ settled → notes'.inactive v ≡ g'.since (w'.records v).cell
      since v (parked e r) = rw r (λ b h z. ap notes'.inactive e ∙ upd_same notes.inactive u (notes.inactive t) ∙ D.since t b h (unsettled k z))
      since v (other n r) = rw r (λ b h z. upd_off notes.inactive u (notes.inactive t) v n ∙ D.since v b h (unsettled (w.records v).cell z))
      since v (nobody r) = rw r (λ b. absurd b)
