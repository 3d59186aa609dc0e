-- The notes say where each withdrawn swap took effect, as the rule for pending swaps says it of the call that goes on as a halted one; and a
-- swap waits in a cell exactly while that cell's late store is a withdrawn one's.
use mathlib.Core.Path.{◌≡◌, refl, sym, ap, subst, ◌∙◌}
use mathlib.Core.Logic.{◌≢◌, ◌⊎◌, inl, inr}
use mathlib.Core.Bool.{Bool, true, false, not, ◌&&◌, cond}
use mathlib.Core.Option.{Option, none, some}
use mathlib.Core.List.{List, [], ◌∷◌}
use Prim.Native.Nat.{ℕ, ◌+◌, ◌<◌}
use native.Mathlib.Omega.{arith}
use lib.Dec.{eqb, T, T_not, not_T, eqb→eq}
use borrow.Author.Tests.{eqb-true, eqb-false, eq-eqb}
use Rattle.figure_lines.specs.declared.Record.{Record}
use Rattle.figure_lines.specs.declared.Field.TheVariants.{D}
use Rattle.figure_lines.specs.Record.{no_value}
use Rattle.figure_lines.specs.Answers.{Result, Done}
use Rattle.figure_lines.specs.Lines.{Line, Wanted, for13, for25, for28, l2, line_of, access_at, attempt, counted, next_at}
use Rattle.cells_spec.proofs.Numbers.{number, at-number}
use Rattle.history_spec.specs.Basics.{upd}
use Rattle.history_spec.specs.History.{Op}
use Rattle.history_spec.specs.Moments.{Spot, C3, C4}
use Rattle.history_spec.proofs.Basics.{either, clash, upd-at, upd_same, upd_off}
use Rattle.history_spec.proofs.ListTests.{both, has, has_in}
use Rattle.history_spec.specs.Basics.{◌∈◌}
use Rattle.history_linearization.proofs.Simulation.{Phase, settled, frozen, late, Ghost, unplaced}
use Rattle.history_linearization.proofs.Simulation.{Lands}
use Rattle.figure_cell.specs.Memory.{Cell, store, access_cell}
use Rattle.figure.specs.Figure.{World, with_task, first_of}
use Rattle.figure_moments.specs.Moments.{holds_block, Waiting, Notes, nothing_noted, noted, landed, spot_at, stands, sees}
use Rattle.figure.proofs.Records.{Pending, OnPath}
use Rattle.figure.proofs.Tallies.{tally, doing}
use Rattle.figure_cell.proofs.Classes.{is, busy, holding, swapping, stored, lies_in}
use Rattle.figure_cell.proofs.Invariant.{View, Knowledge, Owner, PhaseIs, line, held}
use Rattle.figure_cell.proofs.LineLaws.{same, same-is}
use Rattle.figure_cell.proofs.Invariant as Local
use Rattle.figure_cell.proofs.Frame.{undecided}
use Rattle.figure_cell.proofs.Looking.{settled≢late}
use Rattle.figure_cell.proofs.Steps.{Change, still, act, freeze, delay, settle, land, phase_after, Can}
use Rattle.figure.proofs.Views.{on_in, view}
use Rattle.figure.proofs.Operations.{busy-line, busy_doing}
use Rattle.figure.proofs.Worlds.{Good, facts, there, cell_after, next_after, step_after}
use Rattle.figure_moments.proofs.Attempts.{at_2}
use Rattle.figure_moments.proofs.Notes.{cond_true, cond_false, with, equal, holds-block, keeps_stored, keeps_inactive}
use Rattle.figure_moments.proofs.Known as Known
use Rattle.figure_moments.proofs.Known.{known}
use Rattle.figure_moments.proofs.Dated.{Dated, placed-spot, unplaced_unnamed}
use Rattle.figure_moments.proofs.Beyond.{stands_alike, stands-idle}
use Rattle.history_linearization.proofs.Simulation as Sim

-- the withdrawn swap x waits in cell k
pub record Waits (n : ℕ) (w : World) (o : Notes) (g : Ghost) (k : ℕ) (x : Waiting) : Type 0 where
  pub phase : g.phase k ≡ late (n + x.drop)
  pub new : x.new ≡ (w.records (n + x.drop)).new
  pub inactive : x.inactive ≡ o.inactive (n + x.drop)

-- who waits in each cell, and where the withdrawn swaps stand, by the moments of their drops
pub record Held : Type 0 where
  pub waiting : ℕ → Option Waiting
  pub withdrawn : ℕ → Option Spot

-- w and p are the other figure, and its notes
pub record Left (n : ℕ) (o : Held) (w : World) (p : Notes) (g : Ghost) : Type 0 where
  pub placed : (m : ℕ) → T (g.placed (n + m)) → T (busy (line_of (w.records (n + m))))
  pub has_stored : (m : ℕ) → T (busy (line_of (w.records (n + m)))) → T (stored (line_of (w.records (n + m))))
  pub spot : (m : ℕ) → o.withdrawn m ≡ stands p (n + m) (sees w (n + m))
  pub none_waits : (k : ℕ) → o.waiting k ≡ none → (m : ℕ) → g.phase k ≢ late (n + m)
  pub one_waits : (k : ℕ) (x : Waiting) → o.waiting k ≡ some x → Waits n w p g k x

-- which one waits
pub its-number : (n m j : ℕ) → late (n + m) ≡ late (n + j) → m ≡ j
its-number n m j e = let z : n + m ≡ n + j = cc in omega arith

module _ (n : ℕ) (o : Held) (w : World) (p : Notes) (g : Ghost) (L : Left n o w p g) where
  pub left_passing : Left n o w (nothing_noted p) g
  left_passing = record { placed = L.placed; has_stored = L.has_stored; spot = L.spot; none_waits = L.none_waits; one_waits = λ k x e. let y = L.one_waits k x e in record { phase = y.phase; new = y.new; inactive = y.inactive } }

  -- who waits is awaited: it is the only one
  pub waits_one : (k m : ℕ) → g.phase k ≡ late (n + m) → (x : Waiting) × (o.waiting k ≡ some x) × (x.drop ≡ m)
  waits_one k m e = go (o.waiting k) refl
    where
      go : (y : Option Waiting) → o.waiting k ≡ y → (x : Waiting) × (o.waiting k ≡ some x) × (x.drop ≡ m)
      go none z = absurd (L.none_waits k z m e)
      go (some x) z = (x, z, its-number n x.drop m (sym (L.one_waits k x z).phase ∙ e))

  module _ (t : ℕ) (low : t < n) where
    far : (m : ℕ) → n + m ≢ t
    far m e = omega arith

    pub left-begun : (op : Op) → Left n o (with_task w t (first_of op)) (nothing_noted p) (unplaced g t)
    left-begun op = record {
      placed = λ m z. rw (same m) (L.placed m (subst T (upd_off g.placed t false (n + m) (far m)) z));
      has_stored = λ m. rw (same m) (L.has_stored m);
      spot = λ m. L.spot m ∙ stands_alike w (with_task w t (first_of op)) p (nothing_noted p) (n + m) (n + m) (sym (same m)) refl refl refl refl;
      none_waits = L.none_waits;
      one_waits = λ k x e. let y = L.one_waits k x e in record { phase = y.phase; new = y.new ∙ ap (λ (r : Record). r.new) (sym (same x.drop)); inactive = y.inactive };
    }
      where
        same : (m : ℕ) → (with_task w t (first_of op)).records (n + m) ≡ w.records (n + m)
        same m = upd_off w.records t (first_of op) (n + m) (far m)

-- other notes that say the same of the withdrawn swaps
pub left-with : (n : ℕ) (o o' : Held) (w : World) (p : Notes) (g : Ghost) → o.withdrawn ≡ o'.withdrawn → o.waiting ≡ o'.waiting → Left n o w p g → Left n o' w p g
left-with n o o' w p g e f L = record {
  placed = L.placed;
  has_stored = L.has_stored;
  spot = λ m. sym (ap (λ (h : ℕ → Option Spot). h m) e) ∙ L.spot m;
  none_waits = λ k z. L.none_waits k (ap (λ (h : ℕ → Option Waiting). h k) f ∙ z);
  one_waits = λ k x z. L.one_waits k x (ap (λ (h : ℕ → Option Waiting). h k) f ∙ z);
}

-- WHERE A CALL OF NUMBER u STANDS, by the ghost

module _ (w : World) (p : Notes) (g : Ghost) (κ : Sim.Knowledge) (G : Good w g (known p κ)) (D : Dated w p g) (u : ℕ) (b : T (busy (line_of (w.records u)))) where
  abbrev pub spot_of : Spot
  spot_of = cond (p.stored_active u) (spot_at (p.stored u) C4) (spot_at (p.inactive u) C3)

  pub stands-is : stands p u (sees w u) ≡ cond (g.placed u) (some spot_of) none
  stands-is = go (g.placed u) refl
    where
      d : doing w u ≡ some (tally (w.records u))
      d = busy_doing (w.records u) b

      go : (z : Bool) → g.placed u ≡ z → stands p u (sees w u) ≡ cond z (some spot_of) none
      go true e = placed-spot w p g κ G D u (tally (w.records u)) d (rw e tt)
      go false e = unplaced_unnamed w p g κ G D u (tally (w.records u)) d (rw e tt)

-- whose late store is awaited in cell k
module _ (w : World) (p : Notes) (g : Ghost) (κ : Sim.Knowledge) (G : Good w g (known p κ)) (k v : ℕ) (z : g.phase k ≡ late v) where
  abbrev s : View
  s = view w g k

  pub its_owner : Owner (line s v) (s.task v) (g.placed v) (w.cell k).current (g.cells k) ((w.cell k).v (w.cell k).current)
  its_owner = ((G.cells k).tasks v).owner z

  pub its_record : (s.task v ≡ w.records v) × ((w.records v).cell ≡ k) × T (stored (line_of (w.records v)))
  its_record = there w k v stored tt its_owner.has_stored

  pub its-busy : T (busy (line_of (w.records v)))
  its-busy = lies_in stored busy tt (line_of (w.records v)) its_record.2

  pub its_held : (w.records v).held ≡ (w.cell k).current
  its_held = ap (λ (r : Record). r.held) (sym its_record.0) ∙ its_owner.here

  pub came_late : T (not (p.stored_active v))
  came_late = not_T (p.stored_active v) (λ y. T_not (g.placed v) its_owner.not_placed ((facts w g (known p κ) G v).store.active-placed its_record.2 y))

  pub its-inactive : (w.cell (w.records v).cell).c (w.records v).held ≢ 0
  its-inactive = (facts w g (known p κ) G v).store.late_store_lem its_record.2 came_late

  pub its-undecided : (w.cell k).d (w.cell k).current ≡ Local.none
  its-undecided = go (g.phase k) z (G.cells k).current.phase_is
    where
      go : (f : Phase) → f ≡ late v → PhaseIs f ((w.cell k).c (w.cell k).current) ((w.cell k).v (w.cell k).current) ((w.cell k).d (w.cell k).current) (g.cells k) → (w.cell k).d (w.cell k).current ≡ Local.none
      go settled e x = absurd (settled≢late v e)
      go frozen e x = x.1
      go (late u) e x = x.1

-- A STEP OF TASK t

module _ (n : ℕ) (o : Held) (w : World) (p : Notes) (g : Ghost) (κ : Sim.Knowledge) (G : Good w g (known p κ)) (E : Dated w p g) (L : Left n o w p g) (t : ℕ) (low : t < n) (did : List Line) (y : Pending w.cells did (w.records t)) where
  abbrev q : Record
  q = w.records t

  abbrev k : ℕ
  k = q.cell

  abbrev c : Cell
  c = w.cell k

  abbrev v : View
  v = view w g k

  abbrev w₁ : World
  w₁ = step_after w t

  abbrev p₁ : Notes
  p₁ = noted p t (sees w t)

  abbrev g₁ : Change → Ghost
  g₁ = Known.g' w p g κ G t did y

  -- line 2, where D is none
  abbrev pub deciding : Bool
  deciding = eqb q.line 2 && (holds_block q && eqb (c.d q.held) no_value)

  -- it is decided as its value loaded
  abbrev pub lands_at : Option Waiting → ℕ → Option Spot
  lands_at none = o.withdrawn
  lands_at (some a) = cond (eqb q.loaded a.new) (upd o.withdrawn a.drop (some (spot_at a.inactive C3))) o.withdrawn

  abbrev pub o₁ : Held
  o₁ = record { waiting = cond deciding (upd o.waiting k none) o.waiting; withdrawn = cond deciding (lands_at (o.waiting k)) o.withdrawn }

  here : v.task t ≡ q
  here = on_in w.records k t refl

  record_same : (u : ℕ) → u ≢ t → w₁.records u ≡ w.records u
  record_same u ne = upd_off w.records t _ u ne

  is-deciding : T (is 2 (line v t)) → c.d (held v t) ≡ Local.none → T deciding
  unfolding Local.none
  is-deciding b d =
      let l = subst (λ (r : Record). T (is 2 (line_of r))) here b in
      with (eqb q.line 2) _ (equal _ _ (at-number q y.line ∙ eqb→eq (number (line_of q)) 2 l))
      (with (holds_block q) _ (holds-block q y.line (lies_in (is 2) holding tt (line_of q) l)) (equal _ _ (ap (λ (r : Record). c.d r.held) (sym here) ∙ d)))

  module _ (d : T deciding) where
    at_line_2 : q.line ≡ 2
    at_line_2 = eqb→eq _ _ (both (eqb q.line 2) _ d).0

    was_none : c.d q.held ≡ no_value
    was_none = eqb→eq _ _ (both (holds_block q) _ (both (eqb q.line 2) _ d).1).1

    is_2 : T (is 2 (line_of q))
    is_2 = equal _ _ (sym (at-number q y.line) ∙ at_line_2)

    loaded-some : q.loaded ≢ no_value
    unfolding Local.none
    loaded-some = (facts w g (known p κ) G t).planned.plan_some is_2

    -- so its block is current
    held_current : q.held ≡ c.current
    unfolding Local.none
    held_current = ap (λ (r : Record). r.held) (sym here) ∙ undecided v (known p κ) (G.cells k) t (rw here (lies_in (is 2) holding tt (line_of q) is_2)) (ap (λ (r : Record). c.d r.held) here ∙ was_none)

    -- and it is decided
    cell-decided : cell_after w t ≡ store c q.held D q.loaded
    cell-decided = ap (λ a. (access_cell c a).cell) (at_2 t q y.line at_line_2) ∙ rw (eq-eqb (c.d q.held) no_value was_none) refl

    decision : (b : ℕ) → (w₁.cell k).d b ≡ upd c.d q.held q.loaded b
    decision b = ap (λ (m : Cell). m.d b) (upd_same w.cell k (cell_after w t) ∙ cell-decided)

  module _ (x : Change) (can : Can v (known p κ) t x) where
    -- whose swap takes effect
    takes : (u : ℕ) → u ≢ t → ((g₁ x).placed u ≡ g.placed u) ⊎ ((g.phase k ≡ late u) × T deciding × T ((g₁ x).placed u) × (q.loaded ≡ (w.records u).new))
    takes u ne = go x can
      where
        go : (x : Change) → Can v (known p κ) t x → ((g₁ x).placed u ≡ g.placed u) ⊎ ((g.phase k ≡ late u) × T deciding × T ((g₁ x).placed u) × (q.loaded ≡ (w.records u).new))
        go still a = inl refl
        go act a = inl (upd_off g.placed t true u ne)
        go freeze a = inl refl
        go delay a = inl refl
        go settle a = inl refl
        go (land f) a = at (either u f)
          where
            at : (u ≡ f) ⊎ (u ≢ f) → ((g₁ (land f)).placed u ≡ g.placed u) ⊎ ((g.phase k ≡ late u) × T deciding × T ((g₁ (land f)).placed u) × (q.loaded ≡ (w.records u).new))
            at (inl e) =
                let z : g.phase k ≡ late u = a.0 ∙ ap late (sym e) in
                inr (
                  z,
                  is-deciding a.3 a.4,
                  rw (upd-at g.placed f true u e) tt,
                  ap (λ (r : Record). r.loaded) (sym here) ∙ a.5 ∙ ap (λ u. (v.task u).new) (sym e) ∙ ap (λ (r : Record). r.new) (its_record w p g κ G k u z).0,
                )
            at (inr e) = inl (upd_off g.placed f true u e)

    -- the phase of its cell, if the step does not decide
    phase_kept : (T deciding → ⊥) → (u : ℕ) → u ≢ t → (g.phase k ≡ late u → (g₁ x).phase k ≡ late u) × ((g₁ x).phase k ≡ late u → g.phase k ≡ late u)
    phase_kept n u ne = go x can (Known.phase_here w p g κ G t did y x)
      where
        frozen≢late : frozen ≡ late u → ⊥
        frozen≢late z = let y : ◌≡◌ {A = ℕ} 0 1 = cc in omega arith

        go : (x : Change) → Can v (known p κ) t x → (g₁ x).phase k ≡ phase_after v t x → (g.phase k ≡ late u → (g₁ x).phase k ≡ late u) × ((g₁ x).phase k ≡ late u → g.phase k ≡ late u)
        go still a e = (λ z. z, λ z. z)
        go act a e = (λ z. z, λ z. z)
        go freeze a e = ((λ z. absurd (settled≢late u (sym a.0 ∙ z))), λ z. absurd (frozen≢late (sym e ∙ z)))
        go delay a e = ((λ z. absurd (frozen≢late (sym a.1 ∙ z))), λ z. absurd (ne (let i : late t ≡ late u = sym e ∙ z in let j : t ≡ u = cc in sym j)))
        go settle a e = absurd (n (is-deciding a.0 a.1))
        go (land f) a e = absurd (n (is-deciding a.3 a.4))

    -- which one takes effect
    abbrev pub lands-by : Option Waiting → Option (ℕ × Spot)
    lands-by f = cond deciding (landed f q.loaded) none

    module _ (κ₁ : Sim.Knowledge) (G₁ : Good w₁ (g₁ x) (known p₁ κ₁)) (E₁ : Dated w₁ p₁ (g₁ x)) where
      -- nobody is awaited after a decision
      settles : T deciding → (u : ℕ) → u ≢ t → (g₁ x).phase k ≢ late u
      unfolding Local.none
      settles d u ne z = go (either (w.records u).held q.held)
        where
          own : w₁.records u ≡ w.records u
          own = record_same u ne

          no_d : upd c.d q.held q.loaded (w.records u).held ≡ no_value
          no_d = sym (decision d (w.records u).held) ∙ ap (w₁.cell k).d (ap (λ (r : Record). r.held) (sym own) ∙ its_held w₁ p₁ (g₁ x) κ₁ G₁ k u z) ∙ its-undecided w₁ p₁ (g₁ x) κ₁ G₁ k u z

          on_k : (w.records u).cell ≡ k
          on_k = ap (λ (r : Record). r.cell) (sym own) ∙ (its_record w₁ p₁ (g₁ x) κ₁ G₁ k u z).1

          st : T (stored (line_of (w.records u)))
          st = subst (λ (r : Record). T (stored (line_of r))) own (its_record w₁ p₁ (g₁ x) κ₁ G₁ k u z).2

          there-is : v.task u ≡ w.records u
          there-is = on_in w.records k u on_k

          go : ((w.records u).held ≡ q.held) ⊎ ((w.records u).held ≢ q.held) → ⊥
          go (inl e) = loaded-some d (sym (upd-at c.d q.held q.loaded (w.records u).held e) ∙ no_d)
          go (inr e) = e (ap (λ (r : Record). r.held) (sym there-is) ∙ undecided v (known p κ) (G.cells k) u (rw there-is (lies_in stored holding tt (line_of (w.records u)) st))
              (ap (λ (r : Record). c.d r.held) there-is ∙ sym (upd_off c.d q.held q.loaded (w.records u).held e) ∙ no_d) ∙ sym (held_current d))

      -- THE SPOTS

      module _ (m : ℕ) where
        abbrev u : ℕ
        u = n + m

        ne : u ≢ t
        ne e = omega arith

        -- the notes change only for who is awaited
        unlanded : g.phase k ≢ late u → o₁.withdrawn m ≡ o.withdrawn m
        unlanded h = go deciding
          where
            lands : (f : Option Waiting) → o.waiting k ≡ f → lands_at f m ≡ o.withdrawn m
            lands none e = refl
            lands (some a) e = at (eqb q.loaded a.new)
              where
                off : a.drop ≢ m
                off z = h ((L.one_waits k a e).phase ∙ ap (λ j. late (n + j)) z)

                at : (b : Bool) → cond b (upd o.withdrawn a.drop (some (spot_at a.inactive C3))) o.withdrawn m ≡ o.withdrawn m
                at true = upd_off o.withdrawn a.drop _ m (λ z. off (sym z))
                at false = refl

            go : (b : Bool) → cond b (lands_at (o.waiting k)) o.withdrawn m ≡ o.withdrawn m
            go true = lands (o.waiting k) refl
            go false = refl

        module _ (b : T (busy (line_of (w.records u)))) where
          st : T (stored (line_of (w.records u)))
          st = L.has_stored m b

          b₁ : T (busy (line_of (w₁.records u)))
          b₁ = rw (record_same u ne) b

          same_spot : spot_of w₁ p₁ (g₁ x) κ₁ G₁ E₁ u b₁ ≡ spot_of w p g κ G E u b
          same_spot = go (p.stored_active u) refl
            where
              ks : (p₁.stored u ≡ p.stored u) × (p₁.stored_active u ≡ p.stored_active u)
              ks = keeps_stored w p t y.line u st

              go : (a : Bool) → p.stored_active u ≡ a → cond (p₁.stored_active u) (spot_at (p₁.stored u) C4) (spot_at (p₁.inactive u) C3) ≡ cond (p.stored_active u) (spot_at (p.stored u) C4) (spot_at (p.inactive u) C3)
              go true e = rw (ks.1, e) (ap (λ i. spot_at i C4) ks.0)
              go false e = rw (ks.1, e) (ap (λ i. spot_at i C3) (keeps_inactive w p t y.line u ((facts w g (known p κ) G u).store.late_store_lem st (rw e tt))))

          after_is : stands p₁ u (sees w₁ u) ≡ cond ((g₁ x).placed u) (some (spot_of w p g κ G E u b)) none
          after_is = stands-is w₁ p₁ (g₁ x) κ₁ G₁ E₁ u b₁ ∙ ap (λ (r : Spot). cond ((g₁ x).placed u) (some r) none) same_spot

          before-is : o.withdrawn m ≡ cond (g.placed u) (some (spot_of w p g κ G E u b)) none
          before-is = L.spot m ∙ stands-is w p g κ G E u b

          -- it is awaited in this cell, and the block is decided
          awaited : T deciding → g.phase k ≡ late u → o₁.withdrawn m ≡ cond ((g₁ x).placed u) (some (spot_of w p g κ G E u b)) none
          unfolding Local.none
          awaited d z = ap (λ (f : ℕ → Option Spot). f m) (cond_true deciding (lands_at (o.waiting k)) o.withdrawn d)
              ∙ ap (λ (f : Option Waiting). lands_at f m) one.1 ∙ go (eqb q.loaded a.new) refl (takes u ne)
            where
              one : (f : Waiting) × (o.waiting k ≡ some f) × (f.drop ≡ m)
              one = waits_one n o w p g L k m z

              a : Waiting
              a = one.0

              ws : Waits n w p g k a
              ws = L.one_waits k a one.1

              new_is : a.new ≡ (w.records u).new
              new_is = ws.new ∙ ap (λ j. (w.records (n + j)).new) one.2

              spot_is : spot_at a.inactive C3 ≡ spot_of w p g κ G E u b
              spot_is = ap (λ i. spot_at i C3) (ws.inactive ∙ ap (λ j. p.inactive (n + j)) one.2) ∙ sym (cond_false (p.stored_active u) _ _ (T_not (p.stored_active u) (came_late w p g κ G k u z)))

              -- if the decision is its new value, it takes effect
              r₁ : w₁.records u ≡ w.records u
              r₁ = record_same u ne

              decided_so : (w₁.cell (w₁.records u).cell).d (w₁.records u).held ≡ q.loaded
              decided_so = ap (λ (r : Record). (w₁.cell r.cell).d r.held) r₁ ∙ ap (λ j. (w₁.cell j).d (w.records u).held) (its_record w p g κ G k u z).1 ∙ decision d (w.records u).held
                  ∙ upd-at c.d q.held q.loaded (w.records u).held (its_held w p g κ G k u z ∙ sym (held_current d))

              must : q.loaded ≡ a.new → T (not ((g₁ x).placed u)) → ⊥
              must e f =
                  let i = facts w₁ (g₁ x) (known p₁ κ₁) G₁ u in
                  let st₁ : T (stored (line_of (w₁.records u))) = rw r₁ st in
                  let sw = lies_in stored swapping tt (line_of (w₁.records u)) st₁ in
                  let l : (w₁.cell (w₁.records u).cell).d (w₁.records u).held ≡ (w₁.records u).new = decided_so ∙ e ∙ new_is ∙ ap (λ (r : Record). r.new) (sym r₁) in
                  i.self.differ sw (sym (i.decided.late_decided st₁ f (λ h. i.self.nv_some sw (sym l ∙ h))) ∙ l)

              go : (e : Bool) → eqb q.loaded a.new ≡ e → ((g₁ x).placed u ≡ g.placed u) ⊎ ((g.phase k ≡ late u) × T deciding × T ((g₁ x).placed u) × (q.loaded ≡ (w.records u).new)) →
                  cond e (upd o.withdrawn a.drop (some (spot_at a.inactive C3))) o.withdrawn m ≡ cond ((g₁ x).placed u) (some (spot_of w p g κ G E u b)) none
              go true e (inr f) = upd-at o.withdrawn a.drop (some (spot_at a.inactive C3)) m (sym one.2) ∙ ap (λ (r : Spot). some r) spot_is ∙ sym (cond_true ((g₁ x).placed u) _ _ f.2)
              go true e (inl f) = absurd (must (eqb-true _ _ e) (subst (λ r. T (not r)) (sym f) (its_owner w p g κ G k u z).not_placed))
              go false e (inl f) = before-is ∙ ap (λ r. cond r (some (spot_of w p g κ G E u b)) none) (sym f)
              go false e (inr f) = absurd (eqb-false _ _ e (f.3 ∙ sym new_is))

        late_or_not : (f : Phase) → (f ≡ late u) ⊎ (f ≢ late u)
        late_or_not settled = inr (settled≢late u)
        late_or_not frozen = inr (λ z. let y : ◌≡◌ {A = ℕ} 0 1 = cc in omega arith)
        late_or_not (late j) = go (either j u)
          where
            go : (j ≡ u) ⊎ (j ≢ u) → (late j ≡ late u) ⊎ (late j ≢ late u)
            go (inl e) = inl (ap late e)
            go (inr e) = inr (λ z. e (let i : j ≡ u = cc in i))

        -- nothing changes for it
        unchanged : (b : T (busy (line_of (w.records u)))) → o₁.withdrawn m ≡ o.withdrawn m → ((g₁ x).placed u ≡ g.placed u) → o₁.withdrawn m ≡ stands p₁ u (sees w₁ u)
        unchanged b e f = e ∙ before-is b ∙ ap (λ r. cond r (some (spot_of w p g κ G E u b)) none) (sym f) ∙ sym (after_is b)

        spot-after : o₁.withdrawn m ≡ stands p₁ u (sees w₁ u)
        spot-after = go (G.on_path u).1
          where
            busy-spot : (b : T (busy (line_of (w.records u)))) → (g.phase k ≡ late u) ⊎ (g.phase k ≢ late u) → (d : Bool) → deciding ≡ d → ((g₁ x).placed u ≡ g.placed u) ⊎ ((g.phase k ≡ late u) × T deciding × T ((g₁ x).placed u) × (q.loaded ≡ (w.records u).new)) → o₁.withdrawn m ≡ stands p₁ u (sees w₁ u)
            busy-spot b (inl z) true e f = awaited b (rw e tt) z ∙ sym (after_is b)
            busy-spot b (inl z) false e (inl f) = unchanged b (ap (λ (f : ℕ → Option Spot). f m) (cond_false deciding (lands_at (o.waiting k)) o.withdrawn (λ h. rw e at h))) f
            busy-spot b (inl z) false e (inr f) = absurd (rw e at f.1)
            busy-spot b (inr z) d e (inl f) = unchanged b (unlanded z) f
            busy-spot b (inr z) d e (inr f) = absurd (z f.0)

            go : OnPath w.tasks w.cells u (G.on_path u).0 (w.records u) → o₁.withdrawn m ≡ stands p₁ u (sees w₁ u)
            go (inl (e, i)) = unlanded (λ z. rw e at (its-busy w p g κ G k u z)) ∙ L.spot m ∙ stands-idle w p u e ∙ sym (stands-idle w₁ p₁ u (record_same u ne ∙ e))
            go (inr (l, i)) = busy-spot (busy-line (w.records u) i.line) (late_or_not (g.phase k)) deciding refl (takes u ne)

      -- WHO WAITS

      waiting_off : (j : ℕ) → j ≢ k → o₁.waiting j ≡ o.waiting j
      waiting_off j h = go deciding
        where
          go : (b : Bool) → cond b (upd o.waiting k none) o.waiting j ≡ o.waiting j
          go true = upd_off o.waiting k none j h
          go false = refl

      beyond_t : (m : ℕ) → n + m ≢ t
      beyond_t m e = omega arith

      still-waits : (j : ℕ) (a : Waiting) → Waits n w p g j a → (g₁ x).phase j ≡ late (n + a.drop) → Waits n w₁ p₁ (g₁ x) j a
      still-waits j a ws z = record {
        phase = z;
        new = ws.new ∙ ap (λ (r : Record). r.new) (sym (record_same (n + a.drop) (beyond_t a.drop)));
        inactive = ws.inactive ∙ sym (keeps_inactive w p t y.line (n + a.drop) (its-inactive w p g κ G j (n + a.drop) ws.phase));
      }

      pub left-stepped : Left n o₁ w₁ p₁ (g₁ x)
      left-stepped = record {
        placed = λ m z. rw (record_same (n + m) (beyond_t m)) (placed m z (takes (n + m) (beyond_t m)));
        has_stored = λ m. rw (record_same (n + m) (beyond_t m)) (L.has_stored m);
        spot = spot-after;
        none_waits = λ j e m. none_there j e m (either j k) deciding refl;
        one_waits = λ j a e. one_there j a e (either j k) deciding refl;
      }
        where
          placed : (m : ℕ) → T ((g₁ x).placed (n + m)) → ((g₁ x).placed (n + m) ≡ g.placed (n + m)) ⊎ ((g.phase k ≡ late (n + m)) × T deciding × T ((g₁ x).placed (n + m)) × (q.loaded ≡ (w.records (n + m)).new)) → T (busy (line_of (w.records (n + m))))
          placed m z (inl e) = L.placed m (subst T e z)
          placed m z (inr e) = its-busy w p g κ G k (n + m) e.0

          same_waiting_there : (T deciding → ⊥) → o₁.waiting ≡ o.waiting
          same_waiting_there h = cond_false deciding (upd o.waiting k none) o.waiting h

          none_there : (j : ℕ) → o₁.waiting j ≡ none → (m : ℕ) → (j ≡ k) ⊎ (j ≢ k) → (d : Bool) → deciding ≡ d → (g₁ x).phase j ≢ late (n + m)
          none_there j e m (inr h) d f z = L.none_waits j (sym (waiting_off j h) ∙ e) m (sym (Known.phase_there w p g κ G t did y j h x) ∙ z)
          none_there j e m (inl h) true f z = settles (rw f tt) (n + m) (beyond_t m) (ap (g₁ x).phase (sym h) ∙ z)
          none_there j e m (inl h) false f z =
              let i : T deciding → ⊥ = λ a. rw f at a in
              L.none_waits k (ap (λ (a : ℕ → Option Waiting). a k) (sym (same_waiting_there i)) ∙ ap o₁.waiting (sym h) ∙ e) m ((phase_kept i (n + m) (beyond_t m)).1 (ap (g₁ x).phase (sym h) ∙ z))

          one_there : (j : ℕ) (a : Waiting) → o₁.waiting j ≡ some a → (j ≡ k) ⊎ (j ≢ k) → (d : Bool) → deciding ≡ d → Waits n w₁ p₁ (g₁ x) j a
          one_there j a e (inr h) d f = let ws = L.one_waits j a (sym (waiting_off j h) ∙ e) in still-waits j a ws (Known.phase_there w p g κ G t did y j h x ∙ ws.phase)
          one_there j a e (inl h) true f = absurd (clash (ap (λ (a : ℕ → Option Waiting). a j) (cond_true deciding (upd o.waiting k none) o.waiting (rw f tt)) ∙ upd-at o.waiting k none j h) e)
          one_there j a e (inl h) false f =
              let i : T deciding → ⊥ = λ a. rw f at a in
              let ws = L.one_waits j a (ap (λ (a : ℕ → Option Waiting). a j) (sym (same_waiting_there i)) ∙ e) in
              still-waits j a ws (ap (g₁ x).phase h ∙ (phase_kept i (n + a.drop) (beyond_t a.drop)).0 (ap g.phase (sym h) ∙ ws.phase))

      -- where the withdrawn swaps stand after the step
      pub lands_so : Lands (lands-by (o.waiting k)) (λ m. stands p (n + m) (sees w (n + m))) (λ m. stands p₁ (n + m) (sees w₁ (n + m)))
      lands_so = go deciding refl (o.waiting k) refl
        where
          same_then : (m : ℕ) → o₁.withdrawn m ≡ o.withdrawn m → stands p₁ (n + m) (sees w₁ (n + m)) ≡ stands p (n + m) (sees w (n + m))
          same_then m e = sym (spot-after m) ∙ e ∙ L.spot m

          go : (d : Bool) → deciding ≡ d → (f : Option Waiting) → o.waiting k ≡ f → Lands (cond d (landed f q.loaded) none) (λ m. stands p (n + m) (sees w (n + m))) (λ m. stands p₁ (n + m) (sees w₁ (n + m)))
          go false e f z = λ m. same_then m (ap (λ (h : ℕ → Option Spot). h m) (cond_false deciding (lands_at (o.waiting k)) o.withdrawn (λ i. rw e at i)))
          go true e none z = λ m. same_then m (ap (λ (h : ℕ → Option Spot). h m) (cond_true deciding (lands_at (o.waiting k)) o.withdrawn (rw e tt) ∙ ap lands_at z))
          go true e (some a) z = at (eqb q.loaded a.new) refl
            where
              there-is : (m : ℕ) → o₁.withdrawn m ≡ lands_at (some a) m
              there-is m = ap (λ (h : ℕ → Option Spot). h m) (cond_true deciding (lands_at (o.waiting k)) o.withdrawn (rw e tt) ∙ ap lands_at z)

              ws : Waits n w p g k a
              ws = L.one_waits k a z

              at : (h : Bool) → eqb q.loaded a.new ≡ h → Lands (cond h (some (a.drop, spot_at a.inactive C3)) none) (λ m. stands p (n + m) (sees w (n + m))) (λ m. stands p₁ (n + m) (sees w₁ (n + m)))
              at false f = λ m. same_then m (there-is m ∙ rw f refl)
              at true f = (
                stands-is w p g κ G E (n + a.drop) (its-busy w p g κ G k (n + a.drop) ws.phase) ∙ cond_false (g.placed (n + a.drop)) _ none (T_not (g.placed (n + a.drop)) (its_owner w p g κ G k (n + a.drop) ws.phase).not_placed),
                sym (spot-after a.drop) ∙ there-is a.drop ∙ rw f (upd_same o.withdrawn a.drop _),
                λ m ne. same_then m (there-is m ∙ rw f (upd_off o.withdrawn a.drop _ m ne)),
              )

  -- a step that decides ends no call
  pub goes_on : T deciding → (f : Result) → next_after w t ≡ Done f → ⊥
  goes_on d f e = go (line_2 (line_of q) (is_2 d))
    where
      line_2 : (ℓ : Line) → T (is 2 ℓ) → (x : Wanted) × (ℓ ≡ l2 x)
      line_2 ℓ b = at (has_in same same-is (l2 for13 ∷ l2 for25 ∷ l2 for28 ∷ []) ℓ (lies_in (is 2) (has same (l2 for13 ∷ l2 for25 ∷ l2 for28 ∷ [])) tt ℓ b))
        where
          at : ℓ ∈ (l2 for13 ∷ l2 for25 ∷ l2 for28 ∷ []) → (x : Wanted) × (ℓ ≡ l2 x)
          at (inl e) = (for13, e)
          at (inr (inl e)) = (for25, e)
          at (inr (inr (inl e))) = (for28, e)
          at (inr (inr (inr x3))) = elim x3 [ ]

      go : (x : Wanted) × (line_of q ≡ l2 x) → ⊥
      go (x, z) = absurd (let h = subst (λ ℓ. let m = access_cell c (access_at ℓ t q) in next_at ℓ t (counted q (attempt (access_at ℓ t q) m.value)) m.value ≡ Done f) z e in let i : ◌≡◌ {A = ℕ} 0 1 = cc in omega arith)
