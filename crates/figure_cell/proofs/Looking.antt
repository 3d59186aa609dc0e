-- The lines that only look: what the stepper knows at its next line.
use mathlib.Core.Path.{◌≡◌, refl, sym, ap, subst, ◌∙◌}
use mathlib.Core.Logic.{◌≢◌}
use mathlib.Core.Bool.{Bool, true, false, not}
use Prim.Native.Nat.{ℕ, ◌<◌}
use native.Mathlib.Omega.{arith}
use lib.Dec.{T}
use Rattle.figure_lines.specs.declared.Record.{Record}
use Rattle.history_spec.specs.History.{Attempt}
use Rattle.history_spec.proofs.Basics.{no_eq, no-T}
use Rattle.figure_lines.specs.Lines.{Wanted, for13, for25, for28, Line, l1, l2, l3, l4, l10, l11, l12, l15, l16, l17, l18, l19, l20, l21, l22, l23, l24, l26, l27, nowhere, at, counted}
use Rattle.history_linearization.proofs.Simulation.{Phase, settled, frozen, late}
use Rattle.figure_cell.proofs.Classes.{holding, racing, won, stored, taking}
use Rattle.figure_cell.proofs.Invariant.{none, View, Knowledge, Fresh, Owner, TaskOf, Rival, PhaseIs, line, held, Inv}
use Rattle.figure_cell.proofs.Frame.{Mine, Unheld, undecided, active-undecided, active-current}

-- NOTHING FOLLOWS FROM A LINE THAT IS NOT THERE: `search` closes each fact whose line it is not

pub no_lt : (a b : ℕ) → ⊥ → a < b
no_lt a b x = absurd x

pub no_phase : (a b : Phase) → ⊥ → a ≡ b
no_phase a b x = absurd x

pub no_fresh : (ℓ : Line) (b nv next v d y c L : ℕ) → ⊥ → Fresh ℓ b nv next v d y c L
no_fresh ℓ b nv next v d y c L x = absurd x

pub no_owner : (ℓ : Line) (q : Record) (placed : Bool) (L P v : ℕ) → ⊥ → Owner ℓ q placed L P v
no_owner ℓ q placed L P v x = absurd x

pub ruleset nothing = (no_eq, no-T, no_lt, no_phase, no_fresh, no_owner)

module _ (κ : Knowledge) (t : ℕ) where
  pub no_loaded : (v : ℕ) → ⊥ → κ.loaded t v
  no_loaded v x = absurd x

  pub no_decided : (v : ℕ) → ⊥ → κ.decided t v
  no_decided v x = absurd x

  pub no_early : ⊥ → κ.early t
  no_early x = absurd x

  pub no_other : (d : ℕ) → ⊥ → (n : ℕ) × κ.replaced t n × (n ≢ d)
  no_other d x = absurd x

module _ (s : View) (κ : Knowledge) (t : ℕ) where
  -- rivals stay while the stepper gets no nearer to the splitter
  pub same-wins : (ℓ ℓ' : Line) (q : Record) → (T (won ℓ') → T (won ℓ)) → Mine s κ t ℓ q → (w : ℕ) → w ≢ t → q.held ≡ held s w → Rival w ℓ' (line s w) (s.cell.x (held s w))
  same-wins ℓ ℓ' q f m w ne h = record { one_won = λ a. (m.wins w ne h).one_won (f a); no_race = λ a. (m.wins w ne h).no_race (f a) }

  pub same_loses : (ℓ ℓ' : Line) (q : Record) → (T (won ℓ') → T (won ℓ)) → (T (racing ℓ') → T (racing ℓ)) → Mine s κ t ℓ q → (w : ℕ) → w ≢ t → held s w ≡ q.held → Rival t (line s w) ℓ' (s.cell.x q.held)
  same_loses ℓ ℓ' q f g m w ne h = record { one_won = λ a b. (m.loses w ne h).one_won a (f b); no_race = λ a b. (m.loses w ne h).no_race a (g b) }

  -- a block taken stays taken, and a block held stays held
  pub same_unheld : (ℓ ℓ' : Line) (q : Record) → (T (taking ℓ') → T (taking ℓ)) → (T (holding ℓ') → T (holding ℓ)) → Mine s κ t ℓ q → Unheld s t ℓ' q.held q.taken
  same_unheld ℓ ℓ' q f g m = let o = m.unheld in record { mine = λ w ne a. o.mine w ne (f a); theirs = λ w ne a b. o.theirs w ne a (g b); own = λ a b. o.own (f a) (g b) }

  pub ruleset off = (nothing, no_loaded, no_decided, no_early, no_other, same-wins, same_loses, same_unheld)

  -- a task that is idle asks for nothing, unless its late store is awaited
  pub idle-task : (q : Record) → s.phase ≢ late t → TaskOf s κ t nowhere q
  idle-task q n = record
      { self = search off; split = search off; value = search off; decided = search off; store = search off; seen = search off; planned = search off; fresh = search off; early = search off; owner = λ e. absurd (n e) }

  pub idle_mine : (q : Record) → s.phase ≢ late t → Mine s κ t nowhere q
  idle_mine q n = record { task = idle-task q n; wins = λ w ne h. search off; loses = λ w ne h. search off; apart = λ w ne. search off; unheld = search off }

  -- who has not stored is not awaited
  pub not_late : (ℓ : Line) (q : Record) → (T (stored ℓ) → ⊥) → TaskOf s κ t ℓ q → s.phase ≢ late t
  not_late ℓ q n k e = n (k.owner e).has_stored

pub T_of : (b : Bool) → (T (not b) → ⊥) → T b
T_of true h = tt
T_of false h = h tt

pub settled≢late : (u : ℕ) → settled ≡ late u → ⊥
settled≢late u e = let z : ◌≡◌ {A = ℕ} 0 1 = cc in omega arith

-- THE PHASE, from C and D of the current block

-- decided or active: settled
pub settled_of : (p : Phase) (c v d P : ℕ) → PhaseIs p c v d P → (d ≡ none → c ≡ 0) → p ≡ settled
settled_of settled c v d P x h = refl
settled_of frozen c v d P x h = absurd (x.0 (h x.1))
settled_of (late u) c v d P x h = absurd (x.0 (h x.1))

pub value_of : (p : Phase) (c v d P : ℕ) → PhaseIs p c v d P → c ≡ 0 → d ≡ none → v ≡ P
value_of settled c v d P x h e = (x e).1
value_of frozen c v d P x h e = absurd (x.0 h)
value_of (late u) c v d P x h e = absurd (x.0 h)

module _ (s : View) (κ : Knowledge) (i : Inv s κ) where
  abbrev L : ℕ
  L = s.cell.current

  pub decided_settled : s.cell.d L ≢ none → s.phase ≡ settled
  decided_settled n = settled_of s.phase (s.cell.c L) (s.cell.v L) (s.cell.d L) s.value i.current.phase_is (λ e. absurd (n e))

  -- an active block that somebody holds: the cell is settled, and V is its value
  pub active_settled : (u : ℕ) → T (holding (line s u)) → s.cell.c (held s u) ≡ 0 → s.phase ≡ settled
  active_settled u h c = settled_of s.phase (s.cell.c L) (s.cell.v L) (s.cell.d L) s.value i.current.phase_is (λ e. rw (active-current s κ i u h c) at c)

  pub active-value : (u : ℕ) → T (holding (line s u)) → s.cell.c (held s u) ≡ 0 → s.cell.v (held s u) ≡ s.value
  active-value u h c =
      let e = active-current s κ i u h c in
      ap s.cell.v e ∙ value_of s.phase (s.cell.c L) (s.cell.v L) (s.cell.d L) s.value i.current.phase_is (rw e at c) (rw e at (active-undecided s κ i u h c))

  -- THE LINES

  module _ (t : ℕ) (a : Attempt) (n w : ℕ) where
    abbrev q : Record
    q = s.task t

    -- to another line, with the record's words as they are; with another block held; with another value loaded
    abbrev pub on : Record
    on = at (counted q a) n w q.held q.taken q.loaded

    abbrev pub held_now : Record
    held_now = at (counted q a) n w L q.taken q.loaded

    abbrev pub loaded-now : Record
    loaded-now = at (counted q a) n w q.held q.taken (s.cell.v q.held)

    -- who stored late and does not leave stays the one awaited
    still_owner : (ℓ ℓ' : Line) (v : ℕ) → (T (stored ℓ) → T (stored ℓ')) → Mine s κ t ℓ q → s.phase ≡ late t →
        Owner ℓ' (at (counted q a) n w q.held q.taken v) (s.placed t) L s.value (s.cell.v L)
    still_owner ℓ ℓ' v f m e =
        let o = m.task.owner e in
        record { has_stored = f o.has_stored; here = o.here; not_placed = o.not_placed; new_is = o.new_is; expected_is = o.expected_is }

    -- at line 3 the block is decided, so nobody is awaited on it
    pub decided_not_late : (x : Wanted) → Mine s κ t (l3 x) q → s.phase ≢ late t
    decided_not_late x m e =
        let o = m.task.owner e in
        let p : PhaseIs (late t) (s.cell.c L) (s.cell.v L) (s.cell.d L) s.value = subst (λ p. PhaseIs p (s.cell.c L) (s.cell.v L) (s.cell.d L) s.value) e i.current.phase_is in
        m.task.decided.decided tt (ap s.cell.d o.here ∙ p.1)

    -- THE LINES BEFORE THE STORE: the task's own late store is not awaited
    module _ (o : s.phase ≢ late t) where
      module _ (now : s.phase ≡ settled → κ.decided t s.value) where
        seen-decision : s.cell.d L ≢ none → κ.decided t (s.cell.d L)
        seen-decision d = rw (i.current.decision d) (now (decided_settled d))

        -- at the first line the block held is the current one
        same : L ≢ L → ⊥
        same e = e refl

        not_other : L ≢ L → (n : ℕ) × κ.replaced t n × (n ≢ s.cell.d L)
        not_other e = absurd (e refl)

        first_held : (ℓ : Line) → (T (taking ℓ) → ⊥) → Unheld s t ℓ L q.taken
        first_held ℓ n = record { mine = λ w ne a. absurd (n a); theirs = λ w ne a b. ((i.tasks w).fresh a).other; own = λ a. absurd (n a) }

        pub from10 : Mine s κ t l10 q → Mine s κ t l11 held_now
        from10 m = let c = i.current in let h = first_held l11 (λ x. x) in search (off, same, not_other, seen-decision)

        pub from15 : Mine s κ t l15 q → Mine s κ t l16 held_now
        from15 m = let c = i.current in let h = first_held l16 (λ x. x) in search (off, same, not_other, seen-decision)

      module _ (now : s.phase ≡ settled → κ.loaded t s.value) where
        seen-active : (ℓ : Line) → line s t ≡ ℓ → T (holding ℓ) → s.cell.c q.held ≡ 0 → κ.loaded t (s.cell.v q.held)
        seen-active ℓ e h c = rw (active-value t (rw e h) c) (now (active_settled t (rw e h) c))

        pub from11 : line s t ≡ l11 → Mine s κ t l11 q → Mine s κ t l12 loaded-now
        from11 e m =
            let c = seen-active l11 e tt in
            search off

        pub from20 : line s t ≡ l20 → Mine s κ t l20 q → Mine s κ t l21 loaded-now
        from20 e m =
            let c = seen-active l20 e tt in
            search off

      pub from12 : Mine s κ t l12 q → s.cell.c q.held ≢ 0 → Mine s κ t (l1 for13) on
      from12 m c = search off

      pub from17_27 : Mine s κ t l17 q → Mine s κ t l27 on
      from17_27 m = search off

      pub from17_18 : Mine s κ t l17 q → s.cell.y q.held ≡ 0 → Mine s κ t l18 on
      from17_18 m y =
          let loses : (u : ℕ) → u ≢ t → held s u ≡ q.held → Rival t (line s u) l18 (s.cell.x q.held)
          = λ u ne h. record { one_won = λ a b. b; no_race = λ a b e. (i.tasks u).split.kept a (ap s.cell.y h ∙ y) } in
          search off

      pub from19_27 : Mine s κ t l19 q → Mine s κ t l27 on
      from19_27 m = search off

      pub from19_20 : Mine s κ t l19 q → s.cell.x q.held ≡ t → Mine s κ t l20 on
      from19_20 m x =
          let y : s.cell.y q.held ≢ 0 = m.task.split.about_to_win tt x in
          let wins : (u : ℕ) → u ≢ t → q.held ≡ held s u → Rival u l20 (line s u) (s.cell.x (held s u))
          = λ u ne h. record { one_won = λ a b. (m.loses u ne (sym h)).no_race b tt x; no_race = λ a b e. ne (sym e ∙ rw h at x) } in
          let loses : (u : ℕ) → u ≢ t → held s u ≡ q.held → Rival t (line s u) l20 (s.cell.x q.held)
          = λ u ne h. record { one_won = λ a b. (m.loses u ne h).no_race a tt x; no_race = λ a b e. b } in
          search off

      pub from21_1 : Mine s κ t l21 q → s.cell.c q.held ≢ 0 → Mine s κ t (l1 for28) on
      from21_1 m c = search off

      pub from21_22 : Mine s κ t l21 q → s.cell.c q.held ≡ 0 → q.loaded ≢ q.expected → Mine s κ t l22 on
      from21_22 m c e =
          let r : κ.loaded t q.loaded = m.task.seen.active-value tt c in
          search off

      pub from21_23 : Mine s κ t l21 q → s.cell.c q.held ≡ 0 → q.loaded ≡ q.expected → κ.early t → Mine s κ t l23 on
      from21_23 m c e r =
          let b : s.cell.d q.held ≢ none → s.cell.d q.held ≡ q.expected = λ d. absurd (m.task.decided.decided-inactive tt d c) in
          search off

    -- THE OTHERS

    pub from1 : (x : Wanted) → line s t ≡ l1 x → Mine s κ t (l1 x) q → Mine s κ t (l2 x) loaded-now
    from1 x e m =
        let o = still_owner (l1 x) (l2 x) (s.cell.v q.held) (λ z. z) m in
        let p : s.cell.d q.held ≡ none → s.cell.v q.held ≢ s.value → s.cell.v L ≡ s.cell.v q.held = λ d z. ap s.cell.v (sym (undecided s κ i t (rw e tt) d)) in
        search off

    pub from2 : (x : Wanted) → Mine s κ t (l2 x) q → s.cell.d q.held ≢ none → Mine s κ t (l3 x) on
    from2 x m d = let o = still_owner (l2 x) (l3 x) q.loaded (λ z. z) m in search off

    pub from3_25 : Mine s κ t (l3 for25) q → s.cell.d q.held ≢ q.new → Mine s κ t (l1 for28) on
    from3_25 m d =
        let o = decided_not_late for25 m in
        let nt : T (s.placed t) → ⊥ = λ x. d (m.task.decided.placed-decided tt x (m.task.decided.decided tt)) in
        search off

    pub from3_28 : Mine s κ t (l3 for28) q → s.cell.d q.held ≡ q.expected → Mine s κ t l4 on
    from3_28 m d = let o = decided_not_late for28 m in search off

    pub from24_1 : Mine s κ t l24 q → s.cell.c q.held ≢ 0 → Mine s κ t (l1 for25) on
    from24_1 m c = let o = still_owner l24 (l1 for25) q.loaded (λ z. z) m in search off

    pub from24_26 : Mine s κ t l24 q → s.cell.c q.held ≡ 0 → Mine s κ t l26 on
    from24_26 m c =
        let o = still_owner l24 l26 q.loaded (λ z. z) m in
        let placed : T (s.placed t) = T_of (s.placed t) (λ n. m.task.decided.late_inactive tt n c) in
        let lv : T (κ.stored_active t) = T_of (κ.stored_active t) (λ n. m.task.store.late_store_lem tt n c) in
        search off
