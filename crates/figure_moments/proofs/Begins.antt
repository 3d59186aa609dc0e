-- A call that begins: its record is the first one of its operation, and nobody has seen anything new.
use mathlib.Core.Path.{◌≡◌, refl, sym, ap, subst, ◌∙◌}
use mathlib.Core.Logic.{◌≢◌, ◌⊎◌, inl, inr}
use mathlib.Core.Bool.{Bool, true, false, not, ◌&&◌, cond, false≢true}
use mathlib.Core.List.{List}
use Prim.Native.Nat.{ℕ}
use native.Mathlib.Omega.{arith}
use lib.Dec.{eqb, T}
use lib.ListN.{get_or}
use borrow.Author.Tests.{eqb-false}
use Rattle.figure_lines.specs.declared.Record.{Record}
use Rattle.figure_lines.specs.Record.{no_value, idle, first, first_read}
use Rattle.figure_lines.specs.Lines.{line_of, l10, l15}
use Rattle.cells_spec.specs.Questions.{values_fit}
use Rattle.history_spec.specs.History.{Op, read, swap, cell_of}
use Rattle.history_spec.proofs.Basics.{either, clash, upd_same, upd_off}
use Rattle.history_linearization.proofs.Simulation.{late, Ghost, unplaced, Grown}
use Rattle.figure.specs.Figure.{World, with_task, opening, figure, first_of}
use Rattle.figure_moments.specs.Moments.{Notes, nothing_noted, names, sees}
use Rattle.figure.proofs.Records.{AllOnPath, Accepted, opening_on_path}
use Rattle.figure.proofs.Tallies.{tally_of}
use Rattle.figure_cell.proofs.Classes.{busy, stored, lies_in}
use Rattle.figure_cell.proofs.Invariant.{none, View, Knowledge, line, Inv}
use Rattle.figure_cell.proofs.Frame.{moved, Mine, quiet}
use Rattle.figure_cell.proofs.Looking.{off, idle-task, settled≢late}
use Rattle.figure.proofs.Views.{on, on_idle, on_changed, on_elsewhere, view, placed_changed}
use Rattle.figure.proofs.Worlds.{Good, doing_on, its-cell, was_idle, idle_to}
use Rattle.figure_moments.proofs.Known.{doing_in, clock, known, knows_more}
use Rattle.history_linearization.proofs.Simulation as Sim

-- THE STEPPER'S FACTS at its first line

module _ (s : View) (κ : Knowledge) (t : ℕ) (new : s.placed t ≡ false) (o : s.phase ≢ late t) where
  placed-nowhere : T (s.placed t) → ⊥
  placed-nowhere z = rw new at z

  mine_read : (q : Record) → Mine s κ t l10 q
  mine_read q = let n = placed-nowhere in search off

  mine_swap : (q : Record) → q.expected ≢ q.new → q.expected ≢ none → q.new ≢ none → Mine s κ t l15 q
  mine_swap q d e v = let n = placed-nowhere in search off

-- a swap's values are other than none
values-some : (e n : ℕ) → (not (eqb e no_value) && not (eqb n no_value)) ≡ true → (e ≢ none) × (n ≢ none)
unfolding none
values-some e n = go (eqb e no_value) (eqb n no_value) refl refl
  where
    go : (x y : Bool) → eqb e no_value ≡ x → eqb n no_value ≡ y → (not x && not y) ≡ true → (e ≢ no_value) × (n ≢ no_value)
    go false false ex ey z = (eqb-false _ _ ex, eqb-false _ _ ey)
    go false true ex ey z = absurd (false≢true z)
    go true y ex ey z = absurd (false≢true z)

module _ (w : World) (g : Ghost) (κ : Knowledge) (G : Good w g κ) (t : ℕ) (op : Op) (a : Accepted w t op) where
  busy_other : (j u : ℕ) → T (busy (line (view w g j) u)) → u ≢ t
  busy_other j u b z = rw (z, idle_to w G.on_path t op a j) at b

  not_late : (j : ℕ) → g.phase j ≢ late t
  not_late j z = rw (idle_to w G.on_path t op a j) at (((G.cells j).tasks t).owner z).has_stored

module _ (w : World) (notes : Notes) (g : Ghost) (κ : Sim.Knowledge) (G : Good w g (known notes κ)) (t : ℕ) (op : Op) (a : Accepted w t op) where
  abbrev w' : World
  w' = with_task w t (first_of op)

  abbrev g' : Ghost
  g' = unplaced g t

  -- the others know what they knew, and t nothing
  abbrev others : Sim.Knowledge
  others = record { saw = λ u n v. (u ≢ t) × κ.saw u n v; early = λ u. (u ≢ t) × κ.early u }

  abbrev κ₁ : Knowledge
  κ₁ = known notes others

  -- the cell as before, where t's swap has not taken effect
  abbrev before : ℕ → View
  before j = record { cell = w.cell j; task = on w.records j; value = g.cells j; placed = g'.placed; phase = g.phase j }

  kept-before : (j : ℕ) → Inv (before j) κ₁
  kept-before j = placed_changed (view w g j) κ₁ g'.placed (λ u b. upd_off g.placed t false u (busy_other w g (known notes κ) G t op a j u b))
      (λ u z. lies_in stored busy tt (line (view w g j) u) (((G.cells j).tasks u).owner z).has_stored)
      (knows_more (view w g j) notes κ others (λ u b. let ne = busy_other w g (known notes κ) G t op a j u b in ((λ n v z. (ne, z)), λ z. (ne, z))) (G.cells j))

  kept_there : Inv (moved (before (cell_of op)) t (first_of op)) κ₁
  kept_there = go op a.values
    where
      s : View
      s = before (cell_of op)

      n : s.placed t ≡ false
      n = upd_same g.placed t false

      by : (k e v : ℕ) (b : Bool) → eqb e v ≡ b → (e ≢ none) × (v ≢ none) → Inv (moved s t (first (cond b 10 15) 2 k e v)) κ₁
      by k e v true z x = quiet s κ₁ t l10 (first 10 2 k e v) refl (kept-before (cell_of op)) (mine_read s κ₁ t n (not_late w g (known notes κ) G t op a (cell_of op)) (first 10 2 k e v))
      by k e v false z x = quiet s κ₁ t l15 (first 15 2 k e v) refl (kept-before (cell_of op)) (mine_swap s κ₁ t n (not_late w g (known notes κ) G t op a (cell_of op)) (first 15 2 k e v) (eqb-false _ _ z) x.0 x.1)

      go : (p : Op) → values_fit (first_of p) ≡ true → Inv (moved s t (first_of p)) κ₁
      go (read k) v = quiet s κ₁ t l10 (first_read k) refl (kept-before (cell_of op)) (mine_read s κ₁ t n (not_late w g (known notes κ) G t op a (cell_of op)) (first_read k))
      go (swap k e v) z = by k e v (eqb e v) refl (values-some e v z)

  here : view w' g' (cell_of op) ≡ moved (before (cell_of op)) t (first_of op)
  here = λ i. record { cell = w.cell (cell_of op); task = on_changed w.records t (first_of op) (cell_of op) (inl (its-cell op)) i; value = g.cells (cell_of op); placed = g'.placed; phase = g.phase (cell_of op) }

  there : (j : ℕ) → j ≢ cell_of op → view w' g' j ≡ before j
  there j n = λ i. record { cell = w.cell j; task = on_elsewhere w.records t (first_of op) j (inr (was_idle w G.on_path t op a)) (inl (λ z. n (sym z ∙ its-cell op))) i; value = g.cells j; placed = g'.placed; phase = g.phase j }

  pub begun_good : AllOnPath w' → (κ' : Sim.Knowledge) → Grown doing_in clock (names figure sees) (w, notes) (w', nothing_noted notes) g' κ κ' → Good w' g' (known (nothing_noted notes) κ')
  begun_good p κ' grown = record { on_path = p; eager = grown.fresh_early; cells = λ j. knows_more (view w' g' j) notes others κ' (knows j) (go j (either j (cell_of op))) }
    where
      go : (j : ℕ) → (j ≡ cell_of op) ⊎ (j ≢ cell_of op) → Inv (view w' g' j) κ₁
      go j (inl e) = subst (λ i. Inv (view w' g' i) κ₁) (sym e) (subst (λ (v : View). Inv v κ₁) (sym here) kept_there)
      go j (inr e) = subst (λ (v : View). Inv v κ₁) (sym (there j e)) (kept-before j)

      knows : (j u : ℕ) → T (busy (line_of (on w'.records j u))) → ((n v : ℕ) → (u ≢ t) × κ.saw u n v → κ'.saw u n v) × ((u ≢ t) × κ.early u → κ'.early u)
      knows j u b =
          let d = (doing_on w' j u b).0 in (
            (λ n v z. grown.saw u _ _ (sym (ap tally_of (upd_off w.records t (first_of op) u z.0)) ∙ d) d n v z.1),
            (λ z. grown.early u _ _ (sym (ap tally_of (upd_off w.records t (first_of op) u z.0)) ∙ d) d z.1),
          )

-- THE OPENING

pub opening_good : (n v : ℕ) (vs : List ℕ) → ((k : ℕ) → get_or vs k 0 ≢ none) → (κ : Knowledge) → Good (opening n v vs) (Sim.fresh (λ k. get_or vs k 0)) κ
unfolding none
opening_good n v vs ok κ = record {
  on_path = opening_on_path n v vs;
  eager = λ u n z. absurd (clash refl z);
  cells = λ k. record {
    current = record { low = omega arith; P-some = ok k; v-some = ok k; decided-inactive = λ z. absurd (z refl); decision = λ z. absurd (z refl); phase_is = λ z. (refl, refl) };
    tasks = λ u. rw (on_idle (λ t. idle) k u refl) (idle-task (view (opening n v vs) (Sim.fresh (λ k. get_or vs k 0)) k) κ u idle (settled≢late u));
    rivals = λ u x ne e. rw (on_idle (λ t. idle) k u refl, on_idle (λ t. idle) k x refl) record { one_won = λ b. absurd b; no_race = λ b. absurd b };
    apart = λ u x ne. rw (on_idle (λ t. idle) k u refl) (λ b. absurd b);
    unheld = λ u x. rw (on_idle (λ t. idle) k u refl) (λ b. absurd b);
  };
}

-- a refused action: more is known
pub good_grown : (w : World) (notes : Notes) (g : Ghost) (κ κ' : Sim.Knowledge) → Good w g (known notes κ) → Grown doing_in clock (names figure sees) (w, notes) (w, nothing_noted notes) g κ κ' → Good w g (known (nothing_noted notes) κ')
good_grown w notes g κ κ' G grown = record { on_path = G.on_path; eager = grown.fresh_early; cells = λ j. knows_more (view w g j) notes κ κ' (λ u b. let d = (doing_on w j u b).0 in (grown.saw u _ _ d d, grown.early u _ _ d d)) (G.cells j) }
