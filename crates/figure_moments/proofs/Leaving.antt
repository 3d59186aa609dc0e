-- A drop keeps what the notes say of the withdrawn swaps, and adds one.
use mathlib.Core.Path.{◌≡◌, refl, sym, ap, subst, ◌∙◌}
use mathlib.Core.Logic.{◌≢◌, ◌⊎◌, inl, inr}
use mathlib.Core.Bool.{Bool, true, false, not, cond}
use mathlib.Core.Option.{Option, none, some}
use mathlib.Core.List.{List}
use Prim.Native.Nat.{ℕ, ◌+◌, ◌≤◌, ◌<◌}
use native.Mathlib.Omega.{arith}
use lib.Dec.{T, not_T, eqb→eq}
use Rattle.figure_lines.specs.declared.Record.{Record}
use Rattle.figure_lines.specs.Record.{idle}
use Rattle.figure_lines.specs.Basics.{within}
use Rattle.figure_lines.specs.Lines.{Line, line_of}
use Rattle.history_spec.specs.Basics.{upd}
use Rattle.history_spec.proofs.Basics.{either, clash, some_inj, upd-at, upd_same, upd_off}
use Rattle.history_spec.proofs.ListTests.{both}
use Rattle.history_linearization.proofs.Simulation.{late, Ghost, renamed, parks}
use Rattle.history_linearization.proofs.Parking.{late_before}
use Rattle.figure.specs.Figure.{World}
use Rattle.figure_moments.specs.Moments.{holds_block, Waiting, Notes, waits, stands, sees}
use Rattle.figure.proofs.Records.{Pending}
use Rattle.figure_cell.proofs.Classes.{figure_line, busy, holding, stored, lies_in}
use Rattle.figure_cell.proofs.Invariant.{Knowledge, TaskOf, line, held}
use Rattle.figure_cell.proofs.Invariant as Local
use Rattle.figure_cell.proofs.Dropping.{renamed_late, renamed_off, kept}
use Rattle.figure.proofs.Views.{view}
use Rattle.figure.proofs.Operations.{busy-line}
use Rattle.figure.proofs.Worlds.{Good, facts}
use Rattle.figure_moments.proofs.Notes.{cond_true, cond_false, with, equal, holds-block, figure_line_is}
use Rattle.figure_moments.proofs.Known.{known}
use Rattle.figure_moments.proofs.Drops.{parked_world, parked_notes, kept_either, record_there, record_other}
use Rattle.figure_moments.proofs.Beyond.{stands_alike, stands-idle}
use Rattle.history_linearization.proofs.Simulation as Sim
use Rattle.figure_moments.proofs.Withdrawn.{Waits, Held, Left, its_record, its-busy, its_held, came_late, its-undecided}

-- A DROP OF TASK t'S CALL, which gets the number behind all others

-- what the drop notes
abbrev pub left_notes : Held → World → Notes → ℕ → Held
left_notes o w p t = record {
  waiting = cond (waits p t (sees w t)) (upd o.waiting (w.records t).cell (some (record { drop = p.now; new = (w.records t).new; inactive = p.inactive t }))) o.waiting;
  withdrawn = upd o.withdrawn p.now (stands p t (sees w t));
}

module _ (n : ℕ) (o : Held) (w : World) (p : Notes) (g : Ghost) (κ : Sim.Knowledge) (G : Good w g (known p κ)) (L : Left n o w p g) (t : ℕ) (low : t < n) (did : List Line) (y : Pending w.cells did (w.records t)) (task : t < w.tasks) (room : w.tasks ≤ n + p.now) (free : w.records (n + p.now) ≡ idle) where
  abbrev q : Record
  q = w.records t

  abbrev k : ℕ
  k = q.cell

  abbrev u : ℕ
  u = n + p.now

  abbrev w₂ : World
  w₂ = parked_world w t u

  abbrev p₂ : Notes
  p₂ = parked_notes p t u

  abbrev g₂ : Ghost
  g₂ = parks g t u

  abbrev o₂ : Held
  o₂ = left_notes o w p t

  f : TaskOf (view w g k) (known p κ) t (line_of q) q
  f = facts w g (known p κ) G t

  b : T (busy (line_of q))
  b = busy-line q y.line

  there-is : w₂.records u ≡ kept q
  there-is = record_there w p g κ G t u did y task room free

  far : (m : ℕ) → n + m ≢ t
  far m e = omega arith

  other : (m : ℕ) → m ≢ p.now → n + m ≢ u
  other m h e = h (omega arith)

  record_kept : (m : ℕ) → m ≢ p.now → w₂.records (n + m) ≡ w.records (n + m)
  record_kept m h = record_other w p g κ G t u did y task room free (n + m) (far m) (other m h)

  -- WHO WAITS

  is-stored : T (within (sees w t).figure_line 24 26) → T (stored (line_of q))
  is-stored z = lies_in (λ ℓ. within (figure_line ℓ) 24 26) stored tt (line_of q) (subst (λ n. T (within n 24 26)) (figure_line_is q y.line) z)

  pub waits_late : T (waits p t (sees w t)) → g.phase k ≡ late t
  unfolding Local.none
  waits_late z =
      let i = both (within (sees w t).figure_line 24 26) _ z in
      let j = both (not (p.stored_active t)) _ i.1 in
      let st = is-stored i.0 in
      let d = eqb→eq _ _ (both (holds_block q) _ j.1).1 in
      f.decided.late_phase st (not_T (g.placed t) (λ h. f.store.late_placed st j.0 h d)) d

  late_waits : g.phase k ≡ late t → T (waits p t (sees w t))
  unfolding Local.none
  late_waits z =
      let st = (its_record w p g κ G k t z).2 in
      with (within (sees w t).figure_line 24 26) _ (subst (λ n. T (within n 24 26)) (sym (figure_line_is q y.line)) (lies_in stored (λ ℓ. within (figure_line ℓ) 24 26) tt (line_of q) st))
      (with (not (p.stored_active t)) _ (came_late w p g κ G k t z) (with (holds_block q) _ (holds-block q y.line (lies_in stored holding tt (line_of q) st))
      (equal _ _ (ap (w.cell k).d (its_held w p g κ G k t z) ∙ its-undecided w p g κ G k t z))))

  its-cell : (j : ℕ) → g.phase j ≡ late t → j ≡ k
  its-cell j z = sym (its_record w p g κ G j t z).1

  abbrev mine : Waiting
  mine = record { drop = p.now; new = q.new; inactive = p.inactive t }

  -- what waits in cell j: t's call, or what waited before
  data Awaits (j : ℕ) : Type 0 where
    it : j ≡ k → g.phase k ≡ late t → o₂.waiting j ≡ some mine → Awaits j
    before : g.phase j ≢ late t → o₂.waiting j ≡ o.waiting j → Awaits j

  awaits : (j : ℕ) → Awaits j
  awaits j = go (waits p t (sees w t)) refl (either j k)
    where
      go : (h : Bool) → waits p t (sees w t) ≡ h → (j ≡ k) ⊎ (j ≢ k) → Awaits j
      go true e (inl i) = it i (waits_late (rw e tt)) (ap (λ (a : ℕ → Option Waiting). a j) (cond_true (waits p t (sees w t)) _ _ (rw e tt)) ∙ upd-at o.waiting k (some mine) j i)
      go true e (inr i) = before (λ z. i (its-cell j z)) (ap (λ (a : ℕ → Option Waiting). a j) (cond_true (waits p t (sees w t)) _ _ (rw e tt)) ∙ upd_off o.waiting k (some mine) j i)
      go false e i = before (λ z. rw e at (late_waits (subst (λ j. g.phase j ≡ late t) (its-cell j z) z))) (ap (λ (a : ℕ → Option Waiting). a j) (cond_false (waits p t (sees w t)) _ _ (λ h. rw e at h)))

  kept-stored : T (stored (line_of q)) → kept q ≡ q
  kept-stored st = cond_true (stored (line_of q)) q idle st

  pub left-dropped : Left n o₂ w₂ p₂ g₂
  left-dropped = record {
    placed = λ m z. placed m z (either m p.now);
    has_stored = λ m. stored_there m (either m p.now);
    spot = λ m. spot m (either m p.now);
    none_waits = λ j e m z. none_there j e m (awaits j) (late_before t u (g.phase j) (n + m) z);
    one_waits = λ j a e. one_there j a e (awaits j);
  }
    where
      placed : (m : ℕ) → T (g₂.placed (n + m)) → (m ≡ p.now) ⊎ (m ≢ p.now) → T (busy (line_of (w₂.records (n + m))))
      placed m z (inl e) =
          let h : T (g.placed t) = subst T (ap (λ j. g₂.placed (n + j)) e ∙ upd_same g.placed u (g.placed t)) z in
          subst (λ (r : Record). T (busy (line_of r))) (sym (ap (λ j. w₂.records (n + j)) e ∙ there-is ∙ kept-stored (f.self.placed-stored b h))) b
      placed m z (inr h) = rw (record_kept m h) (L.placed m (subst T (upd_off g.placed u (g.placed t) (n + m) (other m h)) z))

      stored_there : (m : ℕ) → (m ≡ p.now) ⊎ (m ≢ p.now) → T (busy (line_of (w₂.records (n + m)))) → T (stored (line_of (w₂.records (n + m))))
      stored_there m (inl e) = rw (ap (λ j. w₂.records (n + j)) e ∙ there-is) (go (kept_either q))
        where
          go : (T (stored (line_of q)) × (kept q ≡ q)) ⊎ ((T (stored (line_of q)) → ⊥) × (kept q ≡ idle)) → T (busy (line_of (kept q))) → T (stored (line_of (kept q)))
          go (inl i) h = subst (λ (r : Record). T (stored (line_of r))) (sym i.1) i.0
          go (inr i) h = absurd (subst (λ (r : Record). T (busy (line_of r))) i.1 h)
      stored_there m (inr h) = rw (record_kept m h) (L.has_stored m)

      spot : (m : ℕ) → (m ≡ p.now) ⊎ (m ≢ p.now) → o₂.withdrawn m ≡ stands p₂ (n + m) (sees w₂ (n + m))
      spot m (inl e) = upd-at o.withdrawn p.now (stands p t (sees w t)) m e ∙ go (kept_either q) ∙ ap (λ j. stands p₂ (n + j) (sees w₂ (n + j))) (sym e)
        where
          go : (T (stored (line_of q)) × (kept q ≡ q)) ⊎ ((T (stored (line_of q)) → ⊥) × (kept q ≡ idle)) → stands p t (sees w t) ≡ stands p₂ u (sees w₂ u)
          go (inl i) = stands_alike w w₂ p p₂ t u (sym (there-is ∙ i.1)) refl (sym (upd_same p.stored u (p.stored t))) (sym (upd_same p.stored_active u (p.stored_active t))) (sym (upd_same p.inactive u (p.inactive t)))
          go (inr i) = cond_false (within (sees w t).figure_line 24 26) _ none (λ z. i.0 (is-stored z)) ∙ sym (stands-idle w₂ p₂ u (there-is ∙ i.1))
      spot m (inr h) = upd_off o.withdrawn p.now (stands p t (sees w t)) m h ∙ L.spot m
          ∙ stands_alike w w₂ p p₂ (n + m) (n + m) (sym (record_kept m h)) refl (sym (upd_off p.stored u (p.stored t) (n + m) (other m h))) (sym (upd_off p.stored_active u (p.stored_active t) (n + m) (other m h))) (sym (upd_off p.inactive u (p.inactive t) (n + m) (other m h)))

      none_there : (j : ℕ) → o₂.waiting j ≡ none → (m : ℕ) → Awaits j → ((n + m ≡ u) × (g.phase j ≡ late t)) ⊎ ((n + m ≢ t) × (g.phase j ≡ late (n + m))) → ⊥
      none_there j e m (it i z a) h = clash e a
      none_there j e m (before i a) (inl (h, z)) = i z
      none_there j e m (before i a) (inr (h, z)) = L.none_waits j (sym a ∙ e) m z

      one_there : (j : ℕ) (a : Waiting) → o₂.waiting j ≡ some a → Awaits j → Waits n w₂ p₂ g₂ j a
      one_there j a e (it i z h) = subst (Waits n w₂ p₂ g₂ j) (some_inj h e) (record {
        phase = ap (λ j. renamed t u (g.phase j)) i ∙ ap (renamed t u) z ∙ renamed_late t u;
        new = ap (λ (r : Record). r.new) (sym (there-is ∙ kept-stored (its_record w p g κ G k t z).2));
        inactive = sym (upd_same p.inactive u (p.inactive t));
      })
      one_there j a e (before i h) =
          let ws = L.one_waits j a (sym h ∙ e) in
          let m : a.drop ≢ p.now = λ z. absurd (subst (λ (r : Record). T (busy (line_of r)) → ⊥) (sym (ap (λ j. w.records (n + j)) z ∙ free)) (λ d. d) (its-busy w p g κ G j (n + a.drop) ws.phase)) in
          record {
            phase = renamed_off t u (g.phase j) i ∙ ws.phase;
            new = ws.new ∙ ap (λ (r : Record). r.new) (sym (record_kept a.drop m));
            inactive = ws.inactive ∙ sym (upd_off p.inactive u (p.inactive t) (n + a.drop) (other a.drop m));
          }
