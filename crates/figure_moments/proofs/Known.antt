-- What the tasks know by what is noted: every action of the figure keeps the invariant, makes a move of the sequential cells, and answers with a reason.
use mathlib.Core.Path.{◌≡◌, refl, sym, ap, subst, ◌∙◌}
use mathlib.Core.Logic.{◌≢◌, ◌⊎◌, inl, inr}
use mathlib.Core.Bool.{true}
use mathlib.Core.Option.{Option, some}
use mathlib.Core.List.{List}
use Prim.Native.Nat.{ℕ}
use lib.Dec.{eqb, T}
use Rattle.figure_lines.specs.declared.Record.{Record}
use Rattle.figure_lines.specs.Record.{idle, op_of}
use Rattle.figure_lines.specs.Lines.{Line, line_of, access_of, next_of}
use Rattle.history_spec.specs.Basics.{upd}
use Rattle.history_spec.specs.History.{Op, cell_of, Yes}
use Rattle.history_spec.specs.Linearization.{reply, apply}
use Rattle.history_spec.proofs.Basics.{either, upd-at, upd_off}
use Rattle.history_linearization.proofs.Simulation.{Phase, settled, frozen, late, Ghost, Tally, Move, shift, Grown, May}
use Rattle.figure_cell.specs.Memory.{Cell, access_cell}
use Rattle.figure.specs.Figure.{World, with_both, figure}
use Rattle.figure_moments.specs.Moments.{Notes, noted, names, sees}
use Rattle.figure.proofs.Records.{Pending, AllOnPath, cell-there, cell_elsewhere}
use Rattle.figure_cell.proofs.AsBegun.{cell_of_lem}
use Rattle.figure.proofs.Tallies.{tally, tally_of, doing}
use Rattle.figure_cell.proofs.Classes.{busy, holding, swapping, stored, viewing, lies_in}
use Rattle.figure_cell.proofs.Invariant.{none, View, Knowledge, line, held, Inv}
use Rattle.figure_cell.proofs.Frame.{Grows}
use Rattle.figure_moments.proofs.Notes.{Holder, keeps_loaded, keeps_stored, keeps_decided, keeps_replaced, notes_held, notes_loaded, notes_stored, notes_decided, notes_replaced}
use Rattle.figure_cell.proofs.Steps.{Change, still, act, freeze, delay, settle, land, value_after, placed_after, phase_after, view_after, Can, Future, Out, each}
use Rattle.figure.proofs.Views.{on, on_in, on_it, on_changed, view, placed_changed, on_others}
use Rattle.figure.proofs.Operations.{busy-line, busy_doing, swap-yes, apply-here, apply-there}
use Rattle.figure.proofs.Worlds.{Good, there, doing_on, pending-at, cell_after, next_after}
use Rattle.history_linearization.proofs.Simulation as Sim
use Rattle.figure_cell.proofs.Frame as Frame

-- WHAT THE TASKS KNOW, by the actions that are noted

abbrev pub Noted : Type 0
Noted = World × Notes

abbrev pub doing_in : Noted → ℕ → Option Tally
doing_in x = doing x.0

abbrev pub clock : Noted → ℕ
clock x = x.1.now

abbrev pub known : Notes → Sim.Knowledge → Knowledge
known o κ = record { loaded = λ u v. κ.saw u (o.loaded u) v; decided = λ u v. κ.saw u (o.decided u) v; replaced = λ u v. κ.saw u (o.replaced u) v; early = κ.early; stored_active = o.stored_active }

-- what every task knows more after the action of moment n: in a settled cell, its value then
abbrev pub plus : Sim.Knowledge → ℕ → Phase → ℕ → Sim.Knowledge
plus κ n p v = record { saw = λ u m x. κ.saw u m x ⊎ ((m ≡ n) × (p ≡ settled) × (x ≡ v)); early = κ.early }

-- whatever a busy task knew, it knows
pub knows_more : (s : View) (o : Notes) (κ κ' : Sim.Knowledge) → ((u : ℕ) → T (busy (line s u)) → ((n v : ℕ) → κ.saw u n v → κ'.saw u n v) × (κ.early u → κ'.early u)) → Inv s (known o κ) → Inv s (known o κ')
knows_more s o κ κ' h = Frame.grow s (known o κ) (known o κ') (λ u. record {
  loaded = λ b v. (h u (lies_in viewing busy tt (line s u) b)).0 _ v;
  decided = λ b d v. (h u (lies_in holding busy tt (line s u) b)).0 _ v;
  replaced = λ b d v. (h u (lies_in holding busy tt (line s u) b)).0 _ v;
  early = λ b. (h u b).1;
  stored_active = λ b. refl;
})

-- A STEP OF TASK t

module _ (w : World) (notes : Notes) (g : Ghost) (κ : Sim.Knowledge) (G : Good w g (known notes κ)) (t : ℕ) (did : List Line) (o : Pending w.cells did (w.records t)) where
  abbrev q : Record
  q = w.records t

  abbrev κ₀ : Knowledge
  κ₀ = known notes κ

  -- the notes with what this step notes
  abbrev pub notes' : Notes
  notes' = noted notes t (sees w t)

  abbrev pub κ⁺ : Phase → ℕ → Knowledge
  κ⁺ p v = known notes' (plus κ notes.now p v)

  abbrev k : ℕ
  k = q.cell

  abbrev s : View
  s = view w g k

  abbrev op : Op
  op = op_of q

  here : s.task t ≡ q
  here = on_in w.records k t refl

  is-busy : T (busy (line_of q))
  is-busy = busy-line q o.line

  its-line : line s t ≡ line_of q
  its-line = ap line_of here

  on_k : cell_of op ≡ k
  on_k = cell_of_lem q

  -- the block that the stepper holds, as its cell sees it
  held_is : held s t ≡ q.held
  held_is = ap (λ (r : Record). r.held) here

  -- what is noted leaves what the others know: who has a decision gets no other, and who holds a replaced block does not see it replaced again
  left : (κ'' : Sim.Knowledge) → ((u n v : ℕ) → κ.saw u n v → κ''.saw u n v) → ((u : ℕ) → κ.early u → κ''.early u) → (j u : ℕ) → Grows (view w g j) κ₀ (known notes' κ'') u (line (view w g j) u)
  unfolding none
  left κ'' more early j u = record {
    loaded = λ b x z. kept (keeps_loaded w notes t o.line u (there w j u viewing tt b).2) x z;
    decided = λ b d x z. let i = there w j u holding tt b in kept (keeps_decided w notes t o.line u i.2 (λ e. d (ap (λ (r : Record). (w.cell j).d r.held) i.0 ∙ ap (λ n. (w.cell n).d (w.records u).held) (sym i.1) ∙ e))) x z;
    replaced = λ b n x z. let i = there w j u holding tt b in kept (keeps_replaced w notes t o.line u (λ e. n (ap (λ (r : Record). r.held) i.0 ∙ sym e ∙ ap (λ n. (w.cell n).current) i.1))) x z;
    early = λ b. early u;
    stored_active = λ b. (keeps_stored w notes t o.line u (there w j u stored tt b).2).1;
  }
    where
      kept : {n n' : ℕ} → n' ≡ n → (x : ℕ) → κ.saw u n x → κ''.saw u n' x
      kept e x z = subst (λ n. κ''.saw u n x) (sym e) (more u _ x z)

  -- who holds the stepper's block
  holder : (u : ℕ) → T (holding (line s u)) → held s u ≡ q.held → Holder w notes t o.line u
  holder u b h = let i = there w k u holding tt b in ((pending-at w G.on_path u (lies_in holding busy tt (line_of (w.records u)) i.2)).1.line, i.2, i.1, ap (λ (r : Record). r.held) (sym i.0) ∙ h)

  future : Future s κ₀ κ⁺ t
  unfolding none
  future = record {
    grows = λ p v. left (plus κ notes.now p v) (λ u n v. inl) (λ u z. z) k;
    at-hold = λ b p v z. inr (notes_held w notes t o.line (rw its-line at b), z, refl);
    at_load = λ b p v z. inr (notes_loaded w notes t o.line (rw its-line at b), z, refl);
    at-decide = λ b d u c h p v z. let i = holder u c (h ∙ held_is) in inr (notes_decided w notes t o.line u i (rw its-line at b) (rw held_is at d), z, refl);
    at-replace = λ b e u c h p v z. let l = sym e ∙ held_is in let i = holder u c (h ∙ l) in inr (notes_replaced w notes t o.line u i (rw its-line at b) l, z, refl);
    at_store = λ b p v. (notes_stored w notes t o.line (rw its-line at b)).1 ∙ ap (λ n. eqb ((w.cell k).c n) 0) (sym held_is);
  }

  pub out : Out s κ₀ κ⁺ t (cell_after w t) (next_after w t)
  out = subst (λ (r : Record). let m = access_cell (w.cell k) (access_of t r) in Out s κ₀ κ⁺ t m.cell (next_of t r m.value)) here
      (each s κ₀ κ⁺ t (G.cells k) (λ z. G.eager t (tally q) (busy_doing q is-busy) (ap g.phase on_k ∙ z)) future (line s t) refl (rw its-line is-busy))

  -- THE MOVE

  abbrev pub move_of : Change → Move
  move_of still = Sim.still
  move_of act = Sim.act
  move_of freeze = Sim.freeze
  move_of delay = Sim.store
  move_of settle = Sim.settle
  move_of (land u) = Sim.land u (op_of (w.records u))

  abbrev pub g' : Change → Ghost
  g' x = shift g notes.now t op (move_of x)

  -- a swap succeeds in the sequential cell, and puts its new value there
  succeeds : (u : ℕ) → T (swapping (line s u)) → g.cells k ≡ (s.task u).expected → (reply (g.cells (cell_of (op_of (w.records u)))) (op_of (w.records u)) ≡ Yes) × (apply g.cells (op_of (w.records u)) k ≡ (s.task u).new)
  succeeds u b e =
      let i = there w k u swapping tt b in
      let c : cell_of (op_of (w.records u)) ≡ k = cell_of_lem (w.records u) ∙ i.1 in
      let fit = (pending-at w G.on_path u (lies_in swapping busy tt (line_of (w.records u)) i.2)).1.line in
      let y = swap-yes (w.records u) fit i.2 (g.cells k) (e ∙ ap (λ (r : Record). r.expected) i.0) in
      (ap (λ n. reply (g.cells n) (op_of (w.records u))) c ∙ y.0, apply-here g.cells (op_of (w.records u)) k c ∙ y.1 ∙ sym (ap (λ (r : Record). r.new) i.0))

  pub may : (x : Change) → Can s κ₀ t x → May doing_in (w, notes) g κ t op (move_of x)
  may still c = tt
  may act c = (c.0, ap g.phase on_k ∙ c.1, (succeeds t c.3 c.2).0)
  may freeze c = ap g.phase on_k ∙ c.0
  may delay c = (c.0, ap g.phase on_k ∙ c.1, c.2)
  may settle c = tt
  may (land u) c = (ap g.phase on_k ∙ c.0, (tally (w.records u), busy_doing (w.records u) (lies_in swapping busy tt (line_of (w.records u)) (there w k u swapping tt c.2).2), refl), (succeeds u c.2 c.1).0)

  -- THE VIEWS AFTERWARDS

  value-here : (x : Change) → Can s κ₀ t x → (g' x).cells k ≡ value_after s t x
  value-here still c = refl
  value-here act c = (succeeds t c.3 c.2).1
  value-here freeze c = refl
  value-here delay c = refl
  value-here settle c = refl
  value-here (land u) c = (succeeds u c.2 c.1).1

  placed-is : (x : Change) → (g' x).placed ≡ placed_after s t x
  placed-is still = refl
  placed-is act = refl
  placed-is freeze = refl
  placed-is delay = refl
  placed-is settle = refl
  placed-is (land u) = refl

  phase_put : (p : Phase) → upd g.phase (cell_of op) p k ≡ p
  phase_put p = upd-at g.phase (cell_of op) p k (sym on_k)

  pub phase_here : (x : Change) → (g' x).phase k ≡ phase_after s t x
  phase_here still = refl
  phase_here act = refl
  phase_here freeze = phase_put frozen
  phase_here delay = phase_put (late t)
  phase_here settle = phase_put settled
  phase_here (land u) = phase_put settled

  module _ (j : ℕ) (n : j ≢ k) where
    value_there : (x : Change) → Can s κ₀ t x → (g' x).cells j ≡ g.cells j
    value_there still c = refl
    value_there act c = apply-there g.cells op k j on_k n
    value_there freeze c = refl
    value_there delay c = refl
    value_there settle c = refl
    value_there (land u) c = apply-there g.cells (op_of (w.records u)) k j (cell_of_lem (w.records u) ∙ (there w k u swapping tt c.2).1) n

    phase_off : (p : Phase) → upd g.phase (cell_of op) p j ≡ g.phase j
    phase_off p = upd_off g.phase (cell_of op) p j (λ z. n (z ∙ on_k))

    pub phase_there : (x : Change) → (g' x).phase j ≡ g.phase j
    phase_there still = refl
    phase_there act = refl
    phase_there freeze = phase_off frozen
    phase_there delay = phase_off (late t)
    phase_there settle = phase_off settled
    phase_there (land u) = phase_off settled

    -- whose swap takes effect is on this step's cell
    placed-there : (x : Change) → Can s κ₀ t x → (u : ℕ) → T (busy (line_of (on w.records j u))) → (g' x).placed u ≡ g.placed u
    placed-there still c u b = refl
    placed-there act c u b = upd_off g.placed t true u (λ z. n (sym (on_it w.records j u b) ∙ ap (λ i. (w.records i).cell) z))
    placed-there freeze c u b = refl
    placed-there delay c u b = refl
    placed-there settle c u b = refl
    placed-there (land v) c u b = upd_off g.placed v true u (λ z. n (sym (on_it w.records j u b) ∙ ap (λ i. (w.records i).cell) z ∙ (there w k v swapping tt c.2).1))

  module _ (m : Cell) (q' : Record) (stays : (q'.cell ≡ k) ⊎ (q' ≡ idle)) (x : Change) (c : Can s κ₀ t x) where
    abbrev pub w' : World
    w' = with_both w k m t q'

    view_here : view w' (g' x) k ≡ view_after s t m q' x
    view_here = λ i. record { cell = cell-there w k m t q' i; task = on_changed w.records t q' k stays i; value = value-here x c i; placed = placed-is x i; phase = phase_here x i }

    view_there : (j : ℕ) → j ≢ k → view w' (g' x) j ≡ record { cell = w.cell j; task = on w.records j; value = g.cells j; placed = (g' x).placed; phase = g.phase j }
    view_there j n = λ i. record { cell = cell_elsewhere w k m t q' j n i; task = on_others w.records t q' j n stays i; value = value_there j n x c i; placed = (g' x).placed; phase = phase_there j n x i }

    was_doing : (u : ℕ) (n' : Tally) → doing w' u ≡ some n' → (n : Tally) × (doing w u ≡ some n)
    was_doing u n' e = go (either u t)
      where
        go : (u ≡ t) ⊎ (u ≢ t) → (n : Tally) × (doing w u ≡ some n)
        go (inl z) = (tally q, ap (doing w) z ∙ busy_doing q is-busy)
        go (inr z) = (n', sym (ap tally_of (upd_off w.records t q' u z)) ∙ e)

    -- the invariant holds again with whatever is known by then
    pub kept-all : Inv (view_after s t m q' x) (κ⁺ (phase_after s t x) (value_after s t x)) → AllOnPath w' → (κ' : Sim.Knowledge) → Grown doing_in clock (names figure sees) (w, notes) (w', notes') (g' x) κ κ' → Good w' (g' x) (known notes' κ')
    kept-all kept on_path κ' grown = record { on_path = on_path; eager = grown.fresh_early; cells = λ j. go j (either j k) }
      where
        -- a task that is busy on cell j now
        knows : (j u : ℕ) → T (busy (line_of (on w'.records j u))) → ((n v : ℕ) → κ.saw u n v → κ'.saw u n v) × (κ.early u → κ'.early u)
        knows j u b = let d = doing_on w' j u b in let n = was_doing u _ d.0 in ((λ i v. grown.saw u n.0 _ n.1 d.0 i v), grown.early u n.0 _ n.1 d.0)

        sees_more : (u : ℕ) → T (busy (line_of (on w'.records k u))) → (n v : ℕ) → (plus κ notes.now (phase_after s t x) (value_after s t x)).saw u n v → κ'.saw u n v
        sees_more u b n v (inl z) = (knows k u b).0 n v z
        sees_more u b n v (inr z) =
            let d = doing_on w' k u b in
            let y = was_doing u _ d.0 in
            let i : cell_of (op_of (w'.records u)) ≡ k = cell_of_lem (w'.records u) ∙ d.1 in
            subst (λ i. κ'.saw u i v) (sym z.0) (subst (κ'.saw u notes.now) (ap (g' x).cells i ∙ value-here x c ∙ sym z.2) (grown.sees u y.0 _ y.1 d.0 (ap (g' x).phase i ∙ phase_here x ∙ z.1)))

        go : (j : ℕ) → (j ≡ k) ⊎ (j ≢ k) → Inv (view w' (g' x) j) (known notes' κ')
        go j (inl e) = subst (λ i. Inv (view w' (g' x) i) (known notes' κ')) (sym e)
            (knows_more (view w' (g' x) k) notes' (plus κ notes.now (phase_after s t x) (value_after s t x)) κ' (λ u b. (sees_more u b, (knows k u b).1)) (subst (λ (v : View). Inv v (κ⁺ (phase_after s t x) (value_after s t x))) (sym view_here) kept))
        go j (inr e) =
            knows_more (view w' (g' x) j) notes' κ κ' (knows j) (subst (λ (v : View). Inv v (known notes' κ)) (sym (view_there j e))
            (placed_changed (view w g j) (known notes' κ) (g' x).placed (placed-there j e x c) (λ u z. lies_in stored busy tt (line (view w g j) u) (((G.cells j).tasks u).owner z).has_stored)
            (Frame.grow (view w g j) κ₀ (known notes' κ) (left κ (λ u n v z. z) (λ u z. z) j) (G.cells j))))
