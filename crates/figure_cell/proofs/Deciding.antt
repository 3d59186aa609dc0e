-- Line 2 where it finds D none: the block is decided, and the cell is settled; a late swap whose value it is takes effect.
use mathlib.Core.Path.{◌≡◌, refl, sym, ap, ◌∙◌}
use mathlib.Core.Logic.{◌≢◌}
use mathlib.Core.Bool.{Bool, true, not}
use Prim.Native.Nat.{ℕ}
use lib.Dec.{T}
use Rattle.figure_lines.specs.declared.Record.{Record}
use Rattle.figure_lines.specs.declared.Field.TheVariants.{D}
use Rattle.figure_lines.specs.Lines.{Wanted, l2, l3, line_of, at, counted}
use Rattle.history_spec.specs.History.{Attempt}
use Rattle.history_spec.specs.Basics.{upd}
use Rattle.history_spec.proofs.Basics.{upd-at, upd_same, upd_off, upd-cases}
use Rattle.history_linearization.proofs.Simulation.{Phase, settled, frozen, late}
use Rattle.figure_cell.specs.Memory.{store}
use Rattle.figure_cell.proofs.Classes.{is, busy, holding, swapping, won, loaded, stored, replacing, lies_in, are_apart}
use Rattle.figure_cell.proofs.Invariant.{none, View, Knowledge, Decided, Seen, Store, Owner, TaskOf, PhaseIs, line, held, Inv}
use Rattle.figure_cell.proofs.Frame.{moved, Rest, Mine, finish, was, undecided, one_winner, decided-with}
use Rattle.figure_cell.proofs.Looking.{off, same-wins, same_loses, settled≢late}

-- whose swap took effect when t decides its block for what it loaded
pub record Placing (s : View) (t : ℕ) (placed : ℕ → Bool) : Type 0 where
  pub more : (u : ℕ) → T (s.placed u) → T (placed u)
  pub only : (u : ℕ) → T (busy (line s u)) → T (placed u) → T (stored (line s u))
  pub new_is : (u : ℕ) → T (stored (line s u)) → held s u ≡ held s t → T (placed u) → (s.task t).loaded ≡ (s.task u).new
  pub expected_is : (u : ℕ) → T (stored (line s u)) → held s u ≡ held s t → T (not (placed u)) → (s.task t).loaded ≡ (s.task u).expected
  pub elsewhere : (u : ℕ) → T (stored (line s u)) → held s u ≢ held s t → placed u ≡ s.placed u
  pub before-store : (u : ℕ) → T (is 23 (line s u)) → held s u ≡ held s t → (s.task t).loaded ≡ (s.task u).expected

module _ (s : View) (κ : Knowledge) (t : ℕ) (x : Wanted) (i : Inv s κ) (e : line s t ≡ l2 x) (d : s.cell.d (held s t) ≡ none) (a : Attempt) (n w : ℕ) where
  abbrev q : Record
  q = s.task t

  abbrev L : ℕ
  L = s.cell.current

  abbrev next : Record
  next = at (counted q a) n w q.held q.taken q.loaded

  abbrev D' : ℕ → ℕ
  D' = upd s.cell.d q.held q.loaded

  here : Mine s κ t (l2 x) q
  here = was s κ t (l2 x) e i

  pub is-L : q.held ≡ L
  is-L = undecided s κ i t (rw e tt) d

  given : q.loaded ≢ none
  given = here.task.planned.plan_some tt

  now-decided : D' L ≡ q.loaded
  now-decided = upd-at s.cell.d q.held q.loaded L (sym is-L)

  module _ (placed : ℕ → Bool) (y : Placing s t placed) (now : (u : ℕ) → T (holding (line s u)) → held s u ≡ q.held → κ.decided u q.loaded) where
    abbrev pub done : View
    done = record { cell = store s.cell q.held D q.loaded; task = s.task; value = q.loaded; placed = placed; phase = settled }

    -- of those who hold this block
    decided-here : (u : ℕ) → held s u ≡ q.held → Decided u (line s u) (s.task u) (placed u) q.loaded (s.cell.c (held s u)) L q.loaded settled
    decided-here u h =
        let r = (i.tasks u).decided in
        let c : s.cell.c (held s u) ≢ 0 = rw h (here.task.decided.inactive tt) in
        record {
          replaced-decided = λ b z. given;
          decided-inactive = λ b z. c;
          before-store = λ b z. y.before-store u b h;
          placed-value = λ b z g. absurd (given g);
          placed-decided = λ b z g. y.new_is u b h z;
          late_inactive = λ b z. c;
          late_phase = λ b z g. absurd (given g);
          late_decided = λ b z g. y.expected_is u b h z;
          inactive = λ b. c;
          decided = λ b. given;
          expected = λ b. absurd ((i.tasks u).self.ev_some (lies_in replacing swapping tt (line s u) b) (sym (r.expected b) ∙ rw h d));
        }

    -- of the others
    decided-far : (u : ℕ) → held s u ≢ q.held → Decided u (line s u) (s.task u) (placed u) (s.cell.d (held s u)) (s.cell.c (held s u)) L q.loaded settled
    decided-far u h =
        let r = (i.tasks u).decided in
        let z : T (stored (line s u)) → s.cell.d (held s u) ≡ none → ⊥ = λ b g. h (undecided s κ i u (lies_in stored holding tt (line s u) b) g ∙ sym is-L) in
        decided-with r (λ c. c) (λ b. y.elsewhere u b h) r.replaced-decided (λ b g c. absurd (z b c)) (λ b g c. absurd (z b c))

    task' : (u : ℕ) → TaskOf done κ u (line s u) (s.task u)
    task' u = let k = i.tasks u in record {
      split = k.split;
      value = k.value;
      early = k.early;
      self = let r = k.self in record {
        differ = r.differ;
        ev_some = r.ev_some;
        nv_some = r.nv_some;
        loaded-some = r.loaded-some;
        other_loaded = r.other_loaded;
        same-loaded = r.same-loaded;
        yes-placed = λ b. y.more u (r.yes-placed b);
        placed-stored = y.only u;
      };
      decided = upd-cases (λ g. Decided u (line s u) (s.task u) (placed u) g (s.cell.c (held s u)) L q.loaded settled) s.cell.d q.held q.loaded (held s u) (decided-here u) (decided-far u);
      store = let r = k.store in upd-cases (λ g. Store (line s u) (κ.stored_active u) (placed u) g (s.cell.c (held s u))) s.cell.d q.held q.loaded (held s u)
          (λ h. record { active-placed = λ b z. y.more u (r.active-placed b z); late_placed = λ b z g. given; late_store_lem = r.late_store_lem; yes-active = r.yes-active })
          (λ h. record { active-placed = λ b z. y.more u (r.active-placed b z); late_placed = λ b z g. r.late_placed b z (rw (y.elsewhere u b h) at g); late_store_lem = r.late_store_lem; yes-active = r.yes-active });
      seen = let r = k.seen in upd-cases (λ g. Seen (line s u) (held s u) (s.task u).loaded (κ.loaded u) (κ.decided u) (κ.replaced u) g (s.cell.c (held s u)) L) s.cell.d q.held q.loaded (held s u)
          (λ h. record { active-value = r.active-value; refusing = r.refusing; decision = λ b g. now u b h; replaced = λ b g. absurd (g (h ∙ is-L)) }) (λ h. r);
      planned = record {
        plan_some = k.planned.plan_some;
        plan = λ b. upd-cases (λ g. g ≡ none → (s.task u).loaded ≢ q.loaded → s.cell.v L ≡ (s.task u).loaded) s.cell.d q.held q.loaded (held s u)
            (λ h g. absurd (given g)) (λ h g. absurd (h (undecided s κ i u (lies_in (is 2) holding tt (line s u) b) g ∙ sym is-L)));
      };
      fresh = λ b. rw (upd_off s.cell.d q.held q.loaded (s.task u).taken (i.unheld u t b (rw e tt))) (k.fresh b);
      owner = λ z. absurd (settled≢late u z);
    }

    rest-done : Rest done κ t
    rest-done = record {
      rivals = λ u w ne ne'. i.rivals u w;
      apart = λ u w ne ne'. i.apart u w;
      unheld = λ u w ne ne'. i.unheld u w;
      tasks = λ u ne. task' u;
      current = let k = i.current in record {
        low = k.low;
        P-some = given;
        v-some = k.v-some;
        decided-inactive = λ g. rw is-L at (here.task.decided.inactive tt);
        decision = λ g. now-decided;
        phase_is = λ g. absurd (given (sym now-decided ∙ g));
      };
    }

    mine_done : Mine done κ t (l3 x) next
    mine_done =
        let m = here in
        let k : TaskOf done κ t (l2 x) q = rw e at (task' t) in
        let g : D' q.held ≢ none = λ z. given (sym (upd_same s.cell.d q.held q.loaded) ∙ z) in
        let wins = same-wins s κ t (l2 x) (l3 x) q (λ z. z) m in
        let loses = same_loses s κ t (l2 x) (l3 x) q (λ z. z) (λ z. z) m in
        let o : settled ≢ late t = settled≢late t in
        search off

    pub kept-done : line_of next ≡ l3 x → Inv (moved done t next) κ
    kept-done e' = finish done κ t (l3 x) next e' rest-done mine_done

  -- what t loaded is the sequential cell's value: nobody's swap takes effect
  module _ (p : q.loaded ≡ s.value) where
    same-before : (u : ℕ) → T (is 23 (line s u)) → held s u ≡ q.held → q.loaded ≡ (s.task u).expected
    same-before u b h = p ∙ sym (unstored s.phase i.current.phase_is refl) ∙ ap s.cell.v (sym (h ∙ is-L)) ∙ (i.tasks u).value.still_loaded (lies_in (is 23) loaded tt (line s u) b) ∙ (i.tasks u).self.same-loaded b
      where
        -- the winner has not stored, so nobody's store is awaited
        unstored : (f : Phase) → PhaseIs f (s.cell.c L) (s.cell.v L) (s.cell.d L) s.value → s.phase ≡ f → s.cell.v L ≡ s.value
        unstored settled z g = (z (rw is-L at d)).1
        unstored frozen z g = z.2
        unstored (late o) z g =
            let k = (i.tasks o).owner g in
            absurd (are_apart (is 23) stored tt (line s o) (rw (one_winner s κ i u o (lies_in (is 23) won tt (line s u) b) (lies_in stored won tt (line s o) k.has_stored) (h ∙ is-L ∙ sym k.here)) at b) k.has_stored)

    pub same : Placing s t s.placed
    same = record {
      more = λ u b. b;
      only = λ u. (i.tasks u).self.placed-stored;
      elsewhere = λ u b h. refl;
      before-store = same-before;
      new_is = λ u b h z. p ∙ (i.tasks u).decided.placed-value b z (rw h d);
      expected_is = λ u b h z. p ∙ sym ((i.tasks u).owner ((i.tasks u).decided.late_phase b z (rw h d))).expected_is;
    }

  -- it is another: a late swap's
  module _ (p : q.loaded ≢ s.value) where
    stored_late : s.cell.v L ≡ q.loaded
    stored_late = here.task.planned.plan tt d p

    pub who : (o : ℕ) × (s.phase ≡ late o)
    who = find s.phase i.current.phase_is refl
      where
        find : (f : Phase) → PhaseIs f (s.cell.c L) (s.cell.v L) (s.cell.d L) s.value → s.phase ≡ f → (o : ℕ) × (s.phase ≡ late o)
        find settled z g = absurd (p (sym stored_late ∙ (z (rw is-L at d)).1))
        find frozen z g = absurd (p (sym stored_late ∙ z.2))
        find (late o) z g = (o, g)

    pub owner : Owner (line s who.0) (s.task who.0) (s.placed who.0) L s.value (s.cell.v L)
    owner = (i.tasks who.0).owner who.1

    pub its-new : (s.task who.0).new ≡ q.loaded
    its-new = owner.new_is ∙ stored_late

    it_is : (u : ℕ) → T (won (line s u)) → held s u ≡ q.held → u ≡ who.0
    it_is u b h = one_winner s κ i u who.0 b (lies_in stored won tt (line s who.0) owner.has_stored) (h ∙ is-L ∙ sym owner.here)

    pub land : Placing s t (upd s.placed who.0 true)
    land = record {
      more = λ u b. upd-cases T s.placed who.0 true u (λ z. tt) (λ z. b);
      only = λ u b. upd-cases (λ z. T z → T (stored (line s u))) s.placed who.0 true u (λ h z. rw h owner.has_stored) (λ h. (i.tasks u).self.placed-stored b);
      new_is = λ u b h z. rw (it_is u (lies_in stored won tt (line s u) b) h) (sym its-new);
      expected_is = λ u b h z. absurd (rw (upd-at s.placed who.0 true u (it_is u (lies_in stored won tt (line s u) b) h)) at z);
      elsewhere = λ u b h. upd_off s.placed who.0 true u (λ z. h (ap (held s) z ∙ owner.here ∙ sym is-L));
      before-store = λ u b h. absurd (are_apart (is 23) stored tt (line s u) b (rw (it_is u (lies_in (is 23) won tt (line s u) b) h) owner.has_stored));
    }
