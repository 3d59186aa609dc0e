-- The notes and the ghost agree on moments: when a placed swap took effect, and since when a cell is frozen. So the moments that the figure
-- names are right, of a call that ends and of a pending swap.
use mathlib.Core.Path.{◌≡◌, refl, sym, ap, subst, ◌∙◌}
use mathlib.Core.Logic.{◌≢◌, ◌⊎◌, inl, inr}
use mathlib.Core.Bool.{Bool, true, false, not, ◌&&◌, ◌||◌, cond}
use mathlib.Core.Option.{Option, none, some}
use mathlib.Core.List.{List, [], ◌∷◌}
use Prim.Native.Nat.{ℕ}
use native.Mathlib.Omega.{arith}
use lib.Dec.{eqb, T, T_not, eqb→eq}
use borrow.Author.Tests.{eqb-true, eq-eqb}
use Rattle.figure_lines.specs.declared.Record.{Record}
use Rattle.figure_lines.specs.Answers.{Next}
use Rattle.figure_lines.specs.Basics.{within}
use Rattle.figure_lines.specs.Lines.{Line, l10, l15, l21, l30, line_at, line_of, access_at, access_of, attempt, counted, next_at, read_answer}
use Rattle.cells_spec.specs.Questions.{line_fit}
use Rattle.history_spec.specs.Basics.{upd}
use Rattle.history_spec.specs.History.{Op, read, swap, cell_of, Response, Value, Yes, No}
use Rattle.history_spec.specs.Moments.{before, itself, after, C3, C4, Rule, Spot, changes}
use Rattle.history_spec.proofs.Basics.{either, upd-at, upd_same, upd_off, upd-cases}
use Rattle.history_linearization.proofs.Simulation as Sim
use Rattle.history_linearization.proofs.Simulation.{Phase, settled, frozen, late, Ghost, unplaced, Tally, Why, Sided, Named}
use Rattle.figure_cell.specs.Memory.{Cell, access_cell}
use Rattle.cells_spec.specs.Turn.{record_after}
use Rattle.figure.specs.Figure.{World, with_task, figure_answers, tried_in, figure}
use Rattle.figure_moments.specs.Moments.{Notes, nothing_noted, noted, Sight, holds_block, sees, names, spot_at, effect, line_c6, rules, rule_at, ruled, stands}
use Rattle.history_spec.proofs.ListTests.{both, every, by_test}
use Rattle.figure_cell.proofs.LineLaws.{every_line, lines, same, same-is, extends, Leads, goes, done}
use Rattle.figure_cell.proofs.LineLaws as Laws
use Rattle.figure.proofs.Records.{Pending, led}
use Rattle.figure_cell.proofs.AsBegun.{cell_of_lem}
use Rattle.figure_lines.specs.Record.{op_of}
use Rattle.figure.proofs.Tallies.{doing}
use Rattle.figure_cell.proofs.Classes.{is, figure_line, busy, holding, swapping, stored, storing, replacing, lies_in, are_apart}
use Rattle.figure_cell.proofs.Invariant.{View, Knowledge, Owner, TaskOf, line, held}
use Rattle.figure_cell.proofs.Looking.{settled≢late, active_settled}
use Rattle.figure_moments.proofs.Notes.{cond_true, cond_false, with, equal, holds-block, figure_line_is, keeps_stored, keeps_inactive, notes_stored, notes_inactive}
use Rattle.figure_cell.proofs.Steps.{Change, still, act, freeze, delay, settle, land, phase_after, Can, Saw, loaded12, decided13, loaded22, decided28, replaced30, Reason, acts, acted, reads, declines}
use Rattle.figure.proofs.Views.{on_in, view}
use Rattle.figure.proofs.Operations.{busy-line, reads-right, swap_no}
use Rattle.figure_moments.proofs.Known as Known
use Rattle.figure.proofs.Worlds.{Good, facts, there, pending-at, cell_after, next_after, step_after}
use Rattle.figure_moments.proofs.Known.{doing_in, clock, known}
use Rattle.figure.proofs.Quietly.{is-busy}

pub record Dated (w : World) (o : Notes) (g : Ghost) : Type 0 where
  -- a pending swap that took effect did so where the rule of line 25 says
  pub placed : (u : ℕ) → T (busy (line_of (w.records u))) → T (g.placed u) → g.when u ≡ effect o u
  -- the current block became inactive when its cell froze
  pub since : (u : ℕ) → T (storing (line_of (w.records u))) → (w.records u).held ≡ (w.cell (w.records u).cell).current → g.phase (w.records u).cell ≢ settled → o.inactive u ≡ g.since (w.records u).cell

-- a call begins at a line where it is not storing
pub dated_begun : (w : World) (notes : Notes) (g : Ghost) → Dated w notes g → (t : ℕ) (q : Record) → (T (storing (line_of q)) → ⊥) → Dated (with_task w t q) (nothing_noted notes) (unplaced g t)
dated_begun w notes g D t q h = record {
  placed = λ u. upd-cases (λ a. T (busy (line_of (upd w.records t q u))) → T a → g.when u ≡ effect notes u) g.placed t false u (λ e b z. absurd z) (λ e b. D.placed u (rw (upd_off w.records t q u e) at b));
  since = λ u. upd-cases (λ (r : Record). T (storing (line_of r)) → r.held ≡ (w.cell r.cell).current → g.phase r.cell ≢ settled → notes.inactive u ≡ g.since r.cell) w.records t q u (λ e b. absurd (h b)) (λ e. D.since u);
}

-- who is storing was so before its last line, or at line 21
before_storing : (l k : Line) → T (busy l) → T (storing k) → T (extends l (Laws.before k)) → T (storing l || is 21 l)
before_storing l k a b e = lies_in (λ k. busy l && (storing k && extends l (Laws.before k))) (λ k. storing l || is 21 l)
    (every_line (λ l. every (λ k. not (busy l && (storing k && extends l (Laws.before k))) || (storing l || is 21 l)) lines) tt l) k (with (busy l) _ a (with (storing k) (extends l (Laws.before k)) b e))

-- a rule that is found is one of the list, or the last resort
abbrev Each : (Spot → Type 0) → ℕ → List (ℕ × Spot) → Type 0
Each P n [] = P (rule_at n [])
Each P n (p ∷ l) = (T (eqb n p.0) → P p.1) × Each P n l

found : (P : Spot → Type 0) (n : ℕ) (l : List (ℕ × Spot)) → Each P n l → P (rule_at n l)
found P n [] h = h
found P n (p ∷ l) h = by_test P (eqb n p.0) p.1 (rule_at n l) (λ e. h.0 (rw e tt)) (λ e. found P n l h.1)

module _ (w : World) (notes : Notes) (g : Ghost) (κ : Sim.Knowledge) (G : Good w g (known notes κ)) (D : Dated w notes g) (t : ℕ) where
  abbrev κ₀ : Knowledge
  κ₀ = known notes κ

  abbrev q : Record
  q = w.records t

  abbrev k : ℕ
  k = q.cell

  abbrev ℓ : Line
  ℓ = line_of q

  abbrev m : Cell
  m = w.cell k

  abbrev see : Sight
  see = sees w t

  f : TaskOf (view w g k) κ₀ t ℓ q
  f = facts w g κ₀ G t

  -- WHERE A PENDING SWAP TOOK EFFECT, if it did

  module _ (c : Tally) (d : doing w t ≡ some c) where
    b : T (busy ℓ)
    b = is-busy w G.on_path t c d

    fit : line_fit q ≡ true
    fit = (pending-at w G.on_path t b).1.line

    abbrev spot : Bool → Option Spot
    spot a = cond a (cond (notes.stored_active t) (some (spot_at (notes.stored t) C4)) (cond see.as_new (some (spot_at (notes.inactive t) C3)) none)) none

    -- the rule, and the moment, by what is noted
    pub placed-spot : T (g.placed t) → stands notes t see ≡ some (cond (notes.stored_active t) (spot_at (notes.stored t) C4) (spot_at (notes.inactive t) C3))
    placed-spot z = go (notes.stored_active t) refl
      where
        st : T (stored ℓ)
        st = f.self.placed-stored b z

        stood : stands notes t see ≡ spot true
        stood = cond_true (within see.figure_line 24 26) (spot true) none (subst (λ n. T (within n 24 26)) (sym (figure_line_is q fit)) (lies_in stored (λ ℓ. within (figure_line ℓ) 24 26) tt ℓ st))

        go : (a : Bool) → notes.stored_active t ≡ a → stands notes t see ≡ some (cond (notes.stored_active t) (spot_at (notes.stored t) C4) (spot_at (notes.inactive t) C3))
        go true i = stood ∙ rw i refl
        go false i =
            let e = f.decided.placed-decided st z (f.store.late_placed st (rw i tt) z) in
            let new : T see.as_new = rw e (with (holds_block q) (eqb q.new q.new) (holds-block q fit (lies_in stored holding tt ℓ st)) (equal q.new q.new refl)) in
            stood ∙ rw i (cond_true see.as_new _ _ new)

    pub placed-named : T (g.placed t) → Named (stands notes t see) (g.when t)
    placed-named z = record { spot = _; is = placed-spot z; moment = go (notes.stored_active t) ∙ sym (D.placed t b z); side = itself-there (notes.stored_active t) }
      where
        go : (a : Bool) → (cond a (spot_at (notes.stored t) C4) (spot_at (notes.inactive t) C3)).moment ≡ cond a (notes.stored t) (notes.inactive t)
        go true = refl
        go false = refl

        itself-there : (a : Bool) → (cond a (spot_at (notes.stored t) C4) (spot_at (notes.inactive t) C3)).side ≡ itself
        itself-there true = refl
        itself-there false = refl

    pub unplaced_unnamed : T (not (g.placed t)) → stands notes t see ≡ none
    unplaced_unnamed z = go (within see.figure_line 24 26) (λ b. lies_in (λ ℓ. within (figure_line ℓ) 24 26) stored tt ℓ (subst (λ n. T (within n 24 26)) (figure_line_is q fit) b))
      where
        go : (a : Bool) → (T a → T (stored ℓ)) → spot a ≡ none
        go false h = refl
        go true h =
            let st = h tt in
            let sw = lies_in stored swapping tt ℓ st in
            cond_false (notes.stored_active t) _ _ (λ y. T_not (g.placed t) z (f.store.active-placed st y))
            ∙ cond_false see.as_new _ none (λ y. let i = eqb→eq _ _ (both (holds_block q) _ y).1 in
            f.self.differ sw (sym (f.decided.late_decided st z (λ n. f.self.nv_some sw (sym i ∙ n))) ∙ i))

  -- A STEP

  module _ (did : List Line) (o : Pending w.cells did q) where
    abbrev s : View
    s = view w g k

    abbrev op : Op
    op = op_of q

    abbrev w₁ : World
    w₁ = step_after w t

    abbrev notes₁ : Notes
    notes₁ = noted notes t see

    abbrev g₁ : Change → Ghost
    g₁ = Known.g' w notes g κ G t did o

    here : s.task t ≡ q
    here = on_in w.records k t refl

    at-line : (c : Line → Bool) → T (c (line s t)) → T (c ℓ)
    at-line c = subst (λ (r : Record). T (c (line_of r))) here

    -- WHY IT MAY ANSWER, and that its moment is the one named

    abbrev moment : Response → ℕ
    moment a = (ruled notes t see a).moment

    named : (a : Response) (n : ℕ) → figure_line (line s t) ≡ n → moment a ≡ (rule_at n (rules notes t see a)).moment
    named a n e = ap (λ n. (rule_at n (rules notes t see a)).moment) (figure_line_is q o.line ∙ ap (λ (r : Record). figure_line (line_of r)) (sym here) ∙ e)

    saw_there : (v : ℕ) (a : Response) (n : ℕ) → Saw κ₀ t v a n → κ.saw t (rule_at n (rules notes t see a)).moment v
    saw_there v a n (loaded12 z) = z
    saw_there v a n (decided13 z) = z
    saw_there v a n (loaded22 z) = z
    saw_there v a n (decided28 z) = z
    saw_there v a n (replaced30 z e) = rw e z

    saw_named : (v : ℕ) (a : Response) → Saw κ₀ t v a (figure_line (line s t)) → κ.saw t (moment a) v
    saw_named v a z = subst (λ n. κ.saw t n v) (sym (named a (figure_line (line s t)) refl)) (saw_there v a (figure_line (line s t)) z)

    busy-now : T (busy ℓ)
    busy-now = busy-line q o.line

    pub why : (a : Response) (x : Change) → Reason s κ₀ t a x → Why doing_in clock (names figure sees) (w, notes) g κ t op a (moment a) (Known.move_of w notes g κ G t did o x)
    why a x (acts e i) = Sim.acts e (named a 30 i ∙ ap (λ b. (rule_at 30 (rules notes t see b)).moment) e)
    why a x (acted z b e (inl i)) = Sim.acted z e (named a 25 i ∙ sym (D.placed t busy-now z))
    why a x (acted z b e (inr (i, y))) = Sim.acted z e (named a 26 i ∙ sym (D.placed t busy-now z ∙ cond_true (notes.stored_active t) _ _ y))
    why a x (reads v z n b e u l) =
        let r = reads-right q o.line (at-line (λ ℓ. not (swapping ℓ)) b) v in
        Sim.observes v (saw_named v a z) (r.0 ∙ sym (e ∙ ap (λ (r : Record). read_answer r v) here)) r.1 u (λ y. l (sym (ap g.phase (cell_of_lem q)) ∙ y))
    why a x (declines v z n b e u l) =
        let r = swap_no q o.line (at-line swapping b) v (λ y. n (y ∙ sym (ap (λ (r : Record). r.expected) here))) in
        Sim.observes v (saw_named v a z) (r.0 ∙ sym e) r.1 u (λ y. l (sym (ap g.phase (cell_of_lem q)) ∙ y))

    -- a lost line 30 has found the expected value decided: after the replacement, never before
    pub sided : (a : Response) → Sided op a (ruled notes t see a)
    sided a = found (Sided op a) see.figure_line (rules notes t see a) ((λ z. it a), ((λ z. it a), ((λ z. it a), ((λ z. it a), ((λ z. it a), ((λ z. it a), (last a, it a)))))))
      where
        it : (a : Response) {n : ℕ} {r : Rule} → Sided op a (spot_at n r)
        it a = record { never_before = λ z. let y : ◌≡◌ {A = ℕ} 0 1 = cc in omega arith; change_itself = λ z. refl }

        no_change : (op : Op) → T (changes op No) → ⊥
        no_change (read j) z = z
        no_change (swap j e n) z = z

        expected : T (eqb see.figure_line 30) → T see.as_expected
        expected z =
            let b = lies_in (λ ℓ. eqb (figure_line ℓ) 30) replacing tt ℓ (subst (λ n. T (eqb n 30)) (figure_line_is q o.line) z) in
            with (holds_block q) _ (holds-block q o.line (lies_in replacing holding tt ℓ b)) (equal _ _ (f.decided.expected b))

        last : (a : Response) → T (eqb see.figure_line 30) → Sided op a (line_c6 notes t see a)
        last (Value v) z = it (Value v)
        last Yes z = it Yes
        last No z = record { never_before = λ y. let x : after ≡ before = sym (cond_true see.as_expected after before (expected z)) ∙ y in let e : ◌≡◌ {A = ℕ} 0 1 = cc in omega arith; change_itself = λ y. absurd (no_change op y) }

    -- WHEN A SWAP TOOK EFFECT

    -- one that stored does not store again, and if its block was inactive then, it is not made so now
    effect_stays : (u : ℕ) → T (stored (line_of (w.records u))) → effect notes₁ u ≡ effect notes u
    effect_stays u b = go (notes.stored_active u) refl (keeps_stored w notes t o.line u b)
      where
        go : (a : Bool) → notes.stored_active u ≡ a → (notes₁.stored u ≡ notes.stored u) × (notes₁.stored_active u ≡ notes.stored_active u) → effect notes₁ u ≡ effect notes u
        go true e i = rw (i.1, e) i.0
        go false e i = rw (i.1, e) (keeps_inactive w notes t o.line u ((facts w g κ₀ G u).store.late_store_lem b (rw e tt)))

    placed-before : (u : ℕ) → T (busy (line_of (w₁.records u))) → T (g.placed u) → g.when u ≡ effect notes₁ u
    placed-before u b z = D.placed u y z ∙ sym (effect_stays u ((facts w g κ₀ G u).self.placed-stored y z))
      where
        y : T (busy (line_of (w.records u)))
        y = upd-cases (λ (r : Record). T (busy (line_of r)) → T (busy (line_of (w.records u)))) w.records t _ u (λ e b. subst (λ n. T (busy (line_of (w.records n)))) (sym e) busy-now) (λ e b. b) b

    -- task v's swap takes effect, at the moment n
    placed-now : (v n : ℕ) → (T (busy (line_of (w₁.records v))) → n ≡ effect notes₁ v) → (u : ℕ) → T (busy (line_of (w₁.records u))) → T (upd g.placed v true u) → upd g.when v n u ≡ effect notes₁ u
    placed-now v n h u b z = upd-cases (λ i. i ≡ effect notes₁ u) g.when v n u
        (λ e. h (subst (λ i. T (busy (line_of (w₁.records i)))) e b) ∙ ap (effect notes₁) (sym e)) (λ e. placed-before u b (rw (upd_off g.placed v true u e) at z))

    -- what t's step leads to, by its line; which line it is, by its number
    abbrev next : Line → Next
    next l = let x = access_cell m (access_at l t q) in next_at l t (counted q (attempt (access_at l t q) x.value)) x.value

    line-is : (n : ℕ) (l : Line) → T (every (λ ℓ. not (is n ℓ) || same ℓ l) lines) → T (is n ℓ) → ℓ ≡ l
    line-is n l h b = same-is ℓ l (lies_in (is n) (λ ℓ. same ℓ l) h ℓ b)

    placed-after : (x : Change) → Can s κ₀ t x → (u : ℕ) → T (busy (line_of (w₁.records u))) → T ((g₁ x).placed u) → (g₁ x).when u ≡ effect notes₁ u
    placed-after still c = placed-before
    placed-after act c = placed-now t notes.now (acts-now c.4)
      where
        -- line 30 ends the call
        ends : T (busy (line_of (record_after (next l30)))) → ⊥
        ends = by_test (λ (n : Next). T (busy (line_of (record_after n))) → ⊥) (eqb (access_cell m (access_at l30 t q)).value 1) _ _ (λ z b. b) (λ z b. b)

        acts-now : (T (is 23 (line s t)) × (m.c (held s t) ≡ 0)) ⊎ T (is 30 (line s t)) → T (busy (line_of (w₁.records t))) → notes.now ≡ effect notes₁ t
        acts-now (inl (b, z)) y =
            let i = notes_stored w notes t o.line (at-line (is 23) b) in
            let e : notes₁.stored_active t ≡ true = i.1 ∙ eq-eqb (m.c q.held) 0 (ap (λ (p : Record). m.c p.held) (sym here) ∙ z) in
            rw e (sym i.0)
        acts-now (inr b) y = absurd (ends (subst (λ l. T (busy (line_of (record_after (next l))))) (line-is 30 l30 tt (at-line (is 30) b)) (rw upd_same at y)))
    placed-after freeze c = placed-before
    placed-after delay c = placed-before
    placed-after settle c = placed-before
    placed-after (land v) c = placed-now v (g.since (cell_of op)) (λ y. ap g.since (cell_of_lem q ∙ sym i.1) ∙ sym (effect_stays v i.2 ∙ late_effect ∙ D.since v (lies_in stored storing tt (line_of (w.records v)) i.2) held_is unsettled))
      where
        f : Owner (line s v) (s.task v) (g.placed v) m.current (g.cells k) (m.v m.current)
        f = ((G.cells k).tasks v).owner c.0

        i : (s.task v ≡ w.records v) × ((w.records v).cell ≡ k) × T (stored (line_of (w.records v)))
        i = there w k v stored tt f.has_stored

        late_effect : effect notes v ≡ notes.inactive v
        late_effect = cond_false (notes.stored_active v) _ _ (λ z. T_not (g.placed v) f.not_placed ((facts w g κ₀ G v).store.active-placed i.2 z))

        held_is : (w.records v).held ≡ (w.cell (w.records v).cell).current
        held_is = ap (λ (p : Record). p.held) (sym i.0) ∙ f.here ∙ ap (λ n. (w.cell n).current) (sym i.1)

        unsettled : g.phase (w.records v).cell ≢ settled
        unsettled z = settled≢late v (sym z ∙ ap g.phase i.1 ∙ c.0)

    -- SINCE WHEN A CELL IS FROZEN

    -- an active block that somebody holds: its cell is settled
    active : (u : ℕ) → T (holding (line_of (w.records u))) → (w.cell (w.records u).cell).c (w.records u).held ≡ 0 → g.phase (w.records u).cell ≡ settled
    active u h c = let e = on_in w.records (w.records u).cell u refl in active_settled (view w g (w.records u).cell) κ₀ (G.cells (w.records u).cell) u (rw e h) (ap (λ (r : Record). (w.cell (w.records u).cell).c r.held) e ∙ c)

    -- who is storing after the step has the same block of the same cell, and was storing before, or took line 21 in a settled cell
    abbrev Was : ℕ → Record → Type 0
    Was u r = (r.cell ≡ (w.records u).cell) × (r.held ≡ (w.records u).held) × (T (storing (line_of (w.records u))) ⊎ (T (is 21 ℓ) × (g.phase (w.records u).cell ≡ settled)))

    was_mine : T (storing (line_of (record_after (next_after w t)))) → Was t (record_after (next_after w t))
    was_mine = go (led w.cells did q o t (figure_answers w q (access_of t q))) (λ b e. subst (λ l. T (storing (line_of (record_after (next l)))) → m.c q.held ≡ 0) (sym e) at_21 b)
      where
        at_21 : T (storing (line_of (record_after (next l21)))) → m.c q.held ≡ 0
        at_21 = by_test (λ (n : Next). T (storing (line_of (record_after n))) → m.c q.held ≡ 0) (eqb (m.c q.held) 0) _ _ (λ z b. eqb-true _ _ z) (λ z b. absurd b)

        or_active : (b : Bool) → T (b || is 21 ℓ) → (T (is 21 ℓ) → m.c q.held ≡ 0) → T b ⊎ (T (is 21 ℓ) × (g.phase k ≡ settled))
        or_active true h f = inl h
        or_active false h f = inr (h, active t (lies_in (is 21) holding tt ℓ h) (f h))

        go : {n : Next} → Leads ℓ (counted q (tried_in w t q)) n → (T (storing (line_of (record_after n))) → ℓ ≡ l21 → m.c q.held ≡ 0) → T (storing (line_of (record_after n))) → Was t (record_after n)
        go (goes {n = n} {w = v} f) c b =
            let y = before_storing ℓ (line_at n v) busy-now b f.0 in
            (refl, f.2 (lies_in (λ l. storing l || is 21 l) (λ l. not (same l l10 || same l l15)) tt ℓ y), or_active (storing ℓ) y (λ z. c b (line-is 21 l21 tt z)))
        go (done f) c b = absurd b

    was : (u : ℕ) → T (storing (line_of (w₁.records u))) → Was u (w₁.records u)
    was u = upd-cases (λ (r : Record). T (storing (line_of r)) → Was u r) w.records t (record_after (next_after w t)) u (λ e. rw e was_mine) (λ e b. (refl, refl, inl b))

    -- a cell that is not settled was so before, or froze with this step
    abbrev Turned : Change → ℕ → Type 0
    Turned x j = ((g.phase j ≢ settled) × ((g₁ x).since j ≡ g.since j)) ⊎ (T (is 27 ℓ) × (m.c q.held ≡ 0) × (q.held ≡ m.current) × (j ≡ k) × ((g₁ x).since j ≡ notes.now))

    was_unsettled : (p : Phase) (j : ℕ) → (p ≢ settled → g.phase k ≢ settled) → upd g.phase (cell_of op) p j ≢ settled → g.phase j ≢ settled
    was_unsettled p j h = upd-cases (λ p. p ≢ settled → g.phase j ≢ settled) g.phase (cell_of op) p j (λ e n z. h n (ap g.phase (sym (e ∙ cell_of_lem q)) ∙ z)) (λ e n. n)

    turned : (x : Change) → Can s κ₀ t x → (j : ℕ) → (g₁ x).phase j ≢ settled → Turned x j
    turned still c j n = inl (n, refl)
    turned act c j n = inl (n, refl)
    turned freeze c j n = go (either j (cell_of op))
      where
        go : (j ≡ cell_of op) ⊎ (j ≢ cell_of op) → Turned freeze j
        go (inl e) = inr (at-line (is 27) c.1, ap (λ (p : Record). m.c p.held) (sym here) ∙ c.2, ap (λ (p : Record). p.held) (sym here) ∙ c.3, e ∙ cell_of_lem q, upd-at g.since (cell_of op) notes.now j e)
        go (inr e) = inl (rw (upd_off g.phase (cell_of op) frozen j e) at n, upd_off g.since (cell_of op) notes.now j e)
    turned delay c j n = inl (was_unsettled (late t) j (λ y z. frozen≢settled (sym c.1 ∙ z)) n, refl)
      where
        frozen≢settled : frozen ≡ settled → ⊥
        frozen≢settled z = let y : ◌≡◌ {A = ℕ} 0 1 = cc in omega arith
    turned settle c j n = inl (was_unsettled settled j (λ y. absurd (y refl)) n, refl)
    turned (land v) c j n = inl (was_unsettled settled j (λ y. absurd (y refl)) n, refl)

    module _ (x : Change) (c : Can s κ₀ t x) (same : phase_after s t x ≢ settled → (cell_after w t).current ≡ m.current) where
      -- the current block of an unsettled cell was so before
      current_was : (j : ℕ) → (g₁ x).phase j ≢ settled → (w₁.cell j).current ≡ (w.cell j).current
      current_was j n = upd-cases (λ (a : Cell). a.current ≡ (w.cell j).current) w.cell k (cell_after w t) j
          (λ e. same (λ z. n (ap (g₁ x).phase e ∙ Known.phase_here w notes g κ G t did o x ∙ z)) ∙ ap (λ i. (w.cell i).current) (sym e)) (λ e. refl)

      since_after : (u : ℕ) → T (storing (line_of (w₁.records u))) → (w₁.records u).held ≡ (w₁.cell (w₁.records u).cell).current → (g₁ x).phase (w₁.records u).cell ≢ settled → notes₁.inactive u ≡ (g₁ x).since (w₁.records u).cell
      since_after u b h n =
          let y = was u b in
          let n' : (g₁ x).phase (w.records u).cell ≢ settled = λ z. n (ap (g₁ x).phase y.0 ∙ z) in
          go (sym y.1 ∙ h ∙ ap (λ i. (w₁.cell i).current) y.0 ∙ current_was (w.records u).cell n') y.2 (turned x c (w.records u).cell n') ∙ ap (g₁ x).since (sym y.0)
        where
          go : (w.records u).held ≡ (w.cell (w.records u).cell).current → T (storing (line_of (w.records u))) ⊎ (T (is 21 ℓ) × (g.phase (w.records u).cell ≡ settled)) → Turned x (w.records u).cell → notes₁.inactive u ≡ (g₁ x).since (w.records u).cell
          go h (inl b) (inl (n, e)) = keeps_inactive w notes t o.line u (λ z. n (active u (lies_in storing holding tt (line_of (w.records u)) b) z)) ∙ D.since u b h n ∙ sym e
          go h (inl b) (inr (a, z, i, e, f)) =
              let p = (pending-at w G.on_path u (lies_in storing busy tt (line_of (w.records u)) b)).1.line in
              notes_inactive w notes t o.line u (p, lies_in storing holding tt (line_of (w.records u)) b, e, h ∙ ap (λ i. (w.cell i).current) e ∙ sym i) a z ∙ sym f
          go h (inr (a, z)) (inl (n, e)) = absurd (n z)
          go h (inr (a, z)) (inr y) = absurd (are_apart (is 21) (is 27) tt ℓ a y.0)

      pub dated_after : Dated w₁ notes₁ (g₁ x)
      dated_after = record { placed = placed-after x c; since = since_after }
