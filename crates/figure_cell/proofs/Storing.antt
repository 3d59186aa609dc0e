-- Line 23: the winner stores its new value. In an active block the swap takes effect at once; in an inactive one it comes late.
use mathlib.Core.Path.{◌≡◌, sym, ap, ◌∙◌}
use mathlib.Core.Logic.{◌≢◌}
use mathlib.Core.Bool.{true, not}
use Prim.Native.Nat.{ℕ}
use lib.Dec.{T, T_not, not_T}
use Rattle.figure_lines.specs.declared.Record.{Record}
use Rattle.figure_lines.specs.declared.Field.{Field}
use Rattle.figure_lines.specs.Lines.{l23, l24, line_of, at, counted}
use Rattle.history_spec.specs.History.{Attempt}
use Rattle.history_spec.specs.Basics.{upd}
use Rattle.history_spec.proofs.Basics.{upd-at, upd_same, upd_off, upd-cases}
use Rattle.history_linearization.proofs.Simulation.{Phase, settled, late}
use Rattle.figure_cell.specs.Memory.{store}
use Rattle.figure_cell.proofs.Classes.{is, holding, won, loaded, stored, contended, taking, lies_in, are_apart}
use Rattle.figure_cell.proofs.Invariant.{none, View, Knowledge, Value, Fresh, Owner, Rival, PhaseIs, line, held, Inv}
use Rattle.figure_cell.proofs.Frame.{moved, Rest, Mine, finish, was, undecided, active-undecided, active-current, one_winner}
use Rattle.figure_cell.proofs.Looking.{off, same-wins, same_loses, active_settled, active-value}

module _ (s : View) (κ : Knowledge) (t : ℕ) (i : Inv s κ) (e : line s t ≡ l23) (a : Attempt) (n w : ℕ) where
  abbrev q : Record
  q = s.task t

  abbrev L : ℕ
  L = s.cell.current

  abbrev next : Record
  next = at (counted q a) n w q.held q.taken q.loaded

  abbrev V' : ℕ → ℕ
  V' = upd s.cell.v q.held q.new

  here : Mine s κ t l23 q
  here = was s κ t l23 e i

  -- nobody else has won this block
  nobody : (u : ℕ) → u ≢ t → held s u ≡ q.held → T (won (line s u)) → ⊥
  nobody u ne h b = (here.wins u ne (sym h)).one_won tt b

  pub unplaced : T (not (s.placed t))
  unplaced = not_T (s.placed t) (here.task.self.placed-stored tt)

  value' : (u : ℕ) → u ≢ t → Value (line s u) (s.task u).new (held s u) (s.task u).loaded s.cell.next (V' (held s u))
  value' u ne = let r = (i.tasks u).value in record {
    there = r.there;
    some = λ b. upd-cases (λ x. x ≢ none) s.cell.v q.held q.new (held s u) (λ h. here.task.self.nv_some tt) (λ h. r.some b);
    still_loaded = λ b. upd-cases (λ x. x ≡ (s.task u).loaded) s.cell.v q.held q.new (held s u) (λ h. absurd (nobody u ne h (lies_in loaded won tt (line s u) b))) (λ h. r.still_loaded b);
    still-stored = λ b. upd-cases (λ x. x ≡ (s.task u).new) s.cell.v q.held q.new (held s u) (λ h. absurd (nobody u ne h (lies_in stored won tt (line s u) b))) (λ h. r.still-stored b);
  }

  fresh' : (u : ℕ) → T (taking (line s u)) → Fresh (line s u) (s.task u).taken (s.task u).new s.cell.next (V' (s.task u).taken) (s.cell.d (s.task u).taken) (s.cell.y (s.task u).taken) (s.cell.c (s.task u).taken) L
  fresh' u b = rw (upd_off s.cell.v q.held q.new (s.task u).taken (i.unheld u t b (rw e tt))) ((i.tasks u).fresh b)

  v_some' : V' L ≢ none
  v_some' = upd-cases (λ x. x ≢ none) s.cell.v q.held q.new L (λ h. here.task.self.nv_some tt) (λ h. i.current.v-some)

  stored-now : V' q.held ≡ q.new
  stored-now = upd_same s.cell.v q.held q.new

  some-now : V' q.held ≢ none
  some-now z = here.task.self.nv_some tt (sym stored-now ∙ z)

  still-wins : (w : ℕ) → w ≢ t → q.held ≡ held s w → Rival w l24 (line s w) (s.cell.x (held s w))
  still-wins = same-wins s κ t l23 l24 q (λ x. tt) here

  still_loses : (w : ℕ) → w ≢ t → held s w ≡ q.held → Rival t (line s w) l24 (s.cell.x q.held)
  still_loses = same_loses s κ t l23 l24 q (λ x. tt) (λ x. x) here

  -- nobody's late store is awaited on the winner's own block
  pub none_awaited : q.held ≡ L → (u : ℕ) → s.phase ≢ late u
  none_awaited h u z =
      let o = (i.tasks u).owner z in
      are_apart (is 23) stored tt (line s u) (rw (one_winner s κ i u t (lies_in stored won tt (line s u) o.has_stored) (rw e tt) (o.here ∙ sym h), e) tt) o.has_stored

  -- THE BLOCK IS ACTIVE: the swap takes effect

  module _ (c : s.cell.c q.held ≡ 0) where
    abbrev pub live : View
    live = record { cell = store s.cell q.held Field.V q.new; task = s.task; value = q.new; placed = upd s.placed t true; phase = s.phase }

    open_d : s.cell.d q.held ≡ none
    open_d = active-undecided s κ i t (rw e tt) c

    is-L : q.held ≡ L
    is-L = active-current s κ i t (rw e tt) c

    pub live_settled : s.phase ≡ settled
    live_settled = active_settled s κ i t (rw e tt) c

    -- the sequential cell has the expected value
    pub live_right : s.value ≡ q.expected
    live_right = sym (active-value s κ i t (rw e tt) c) ∙ here.task.value.still_loaded tt ∙ here.task.self.same-loaded tt

    -- nobody else has stored in it
    none_stored : (u : ℕ) → u ≢ t → T (stored (line s u)) → s.cell.d (held s u) ≡ none → ⊥
    none_stored u ne b d = nobody u ne (undecided s κ i u (lies_in stored holding tt (line s u) b) d ∙ sym is-L) (lies_in stored won tt (line s u) b)

    rest_live : Rest live κ t
    rest_live = record {
      rivals = λ u w ne ne'. i.rivals u w;
      apart = λ u w ne ne'. i.apart u w;
      unheld = λ u w ne ne'. i.unheld u w;
      current = let k = i.current in record {
        low = k.low;
        P-some = here.task.self.nv_some tt;
        v-some = v_some';
        decided-inactive = k.decided-inactive;
        decision = λ d. absurd (d (rw is-L at open_d));
        phase_is = rw live_settled (λ d. (rw is-L at c, upd-at s.cell.v q.held q.new L (sym is-L)));
      };
      tasks = λ u ne.
          let k = i.tasks u in
          let v = value' u ne in
          let f = fresh' u in
          let d = none_stored u ne in
          let o = none_awaited is-L u in
          let p : T (is 2 (line s u)) → s.cell.d (held s u) ≡ none → ⊥
          = λ b d. k.decided.inactive (lies_in (is 2) contended tt (line s u) b) (ap s.cell.c (undecided s κ i u (lies_in (is 2) holding tt (line s u) b) d ∙ sym is-L) ∙ c) in
          rw (upd_off s.placed t true u ne) (search (off, k));
    }

    mine_live : T (κ.stored_active t) → Mine live κ t l24 next
    mine_live lv =
        let m = here in
        let placed : T (upd s.placed t true t) = rw upd_same tt in
        let only : T (not (upd s.placed t true t)) → ⊥ = λ x. rw upd_same at x in
        let d = open_d in
        let o : s.phase ≢ late t = none_awaited is-L t in
        let nl : T (not (κ.stored_active t)) → ⊥ = λ z. T_not (κ.stored_active t) z lv in
        search (off, stored-now, some-now, still-wins, still_loses)

    pub kept_live : T (κ.stored_active t) → line_of next ≡ l24 → Inv (moved live t next) κ
    kept_live lv e' = finish live κ t l24 next e' rest_live (mine_live lv)

  -- THE BLOCK IS INACTIVE. The phase becomes p: late, if the block is the current one and not decided, else it stays.

  module _ (c : s.cell.c q.held ≢ 0) (p : Phase) (lates : (u : ℕ) → u ≢ t → (s.phase ≡ late u → p ≡ late u) × (p ≡ late u → (s.phase ≡ late u) × (L ≢ q.held)))
      (is-p : PhaseIs p (s.cell.c L) (V' L) (s.cell.d L) s.value) (mine-p : s.cell.d q.held ≡ none → p ≡ late t)
      (owner-p : p ≡ late t → (q.held ≡ L) × (q.expected ≡ s.value)) (plan-p : s.cell.d L ≡ none → q.held ≡ L → s.cell.v L ≡ s.value) where
    abbrev pub delayed : View
    delayed = record { cell = store s.cell q.held Field.V q.new; task = s.task; value = s.value; placed = s.placed; phase = p }

    rest_delayed : Rest delayed κ t
    rest_delayed = record {
      rivals = λ u w ne ne'. i.rivals u w;
      apart = λ u w ne ne'. i.apart u w;
      unheld = λ u w ne ne'. i.unheld u w;
      current = let k = i.current in record { low = k.low; P-some = k.P-some; v-some = v_some'; decided-inactive = k.decided-inactive; decision = k.decision; phase_is = is-p };
      tasks = λ u ne.
          let k = i.tasks u in
          let v = value' u ne in
          let f = fresh' u in
          let l = (lates u ne).0 in
          let x : T (is 2 (line s u)) → s.cell.d (held s u) ≡ none → (s.task u).loaded ≢ s.value → V' L ≡ (s.task u).loaded
          = λ b d z. let r = k.planned.plan b d z in upd-cases (λ x. x ≡ (s.task u).loaded) s.cell.v q.held q.new L
          (λ h. absurd (z (sym r ∙ plan-p (rw (undecided s κ i u (lies_in (is 2) holding tt (line s u) b) d) at d) (sym h)))) (λ h. r) in
          let o : p ≡ late u → Owner (line s u) (s.task u) (s.placed u) L s.value (V' L)
          = λ z. let r = (lates u ne).1 z in rw (upd_off s.cell.v q.held q.new L r.1) (k.owner r.0) in
          search k.decided.late_phase;
    }

    mine_delayed : T (not (κ.stored_active t)) → Mine delayed κ t l24 next
    mine_delayed lv =
        let m = here in
        let nt : T (s.placed t) → ⊥ = T_not (s.placed t) unplaced in
        let nl : T (κ.stored_active t) → ⊥ = T_not (κ.stored_active t) lv in
        let d : s.cell.d q.held ≢ none → s.cell.d q.held ≡ q.expected = m.task.decided.before-store tt in
        let o : p ≡ late t → Owner l24 next (s.placed t) L s.value (V' L)
        = λ z. let x = owner-p z in record { has_stored = tt; here = x.0; not_placed = unplaced; new_is = sym (upd-at s.cell.v q.held q.new L (sym x.0)); expected_is = x.1 } in
        search (off, stored-now, some-now, still-wins, still_loses)

    pub kept_delayed : T (not (κ.stored_active t)) → line_of next ≡ l24 → Inv (moved delayed t next) κ
    kept_delayed lv e' = finish delayed κ t l24 next e' rest_delayed (mine_delayed lv)
