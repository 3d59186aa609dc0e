-- The lines that change the splitter's words or make a block inactive: 16, 18, 22, 26 and 27.
use mathlib.Core.Path.{◌≡◌, refl, sym}
use mathlib.Core.Logic.{◌≢◌}
use Prim.Native.Nat.{ℕ}
use native.Mathlib.Omega.{arith}
use lib.Dec.{T}
use Rattle.figure_lines.specs.declared.Record.{Record}
use Rattle.figure_lines.specs.declared.Field.TheVariants.{X, Y, C}
use Rattle.figure_lines.specs.Lines.{for28, Line, l1, l16, l17, l18, l19, l27, nowhere, line_of, at, counted}
use Rattle.history_spec.specs.History.{Attempt}
use Rattle.history_spec.specs.Basics.{upd}
use Rattle.history_spec.proofs.Basics.{upd_same, upd_off, upd-cases}
use Rattle.history_linearization.proofs.Simulation.{Phase, late}
use Rattle.figure_cell.specs.Memory.{Cell, store}
use Rattle.figure_cell.proofs.Classes.{is, holding, racing, won, taking, lies_in}
use Rattle.figure_cell.proofs.Invariant.{View, Knowledge, Split, PhaseIs, line, held, Inv}
use Rattle.figure_cell.proofs.Frame.{moved, Rest, finish, forget, was, decided-with}
use Rattle.figure_cell.proofs.Looking.{off, same_loses, idle_mine, not_late}

-- the view with other memory and another phase
abbrev pub in_memory : View → Cell → Phase → View
in_memory s m p = record { cell = m; task = s.task; value = s.value; placed = s.placed; phase = p }

pub not_zero : (f : ℕ → ℕ) (b m : ℕ) → f m ≢ 0 → upd f b 1 m ≢ 0
not_zero f b m h = upd-cases (λ n. n ≢ 0) f b 1 m (λ e z. omega arith) (λ e. h)

-- OF THE OTHERS

module _ (s : View) (κ : Knowledge) (t : ℕ) (r : Rest s κ t) where
  abbrev m : Cell
  m = s.cell

  -- X is the stepper's own number
  rest_x : (b : ℕ) → Rest (in_memory s (store m b X t) s.phase) κ t
  rest_x b = record {
    current = r.current;
    apart = r.apart;
    unheld = r.unheld;
    tasks = λ u ne.
        let k = r.tasks u ne in
        let x : T (is 19 (line s u)) → upd m.x b t (held s u) ≡ u → m.y (held s u) ≢ 0
        = λ a. upd-cases (λ x. x ≡ u → m.y (held s u) ≢ 0) m.x b t (held s u) (λ h e. absurd (ne (sym e))) (λ h. k.split.about_to_win a) in
        search k;
    rivals = λ u w ne ne' n h. let k = r.rivals u w ne ne' n h in record {
      one_won = k.one_won;
      no_race = λ a c. upd-cases (λ x. x ≡ w → ⊥) m.x b t (held s w) (λ z x. ne' (sym x)) (λ z. k.no_race a c);
    };
  }

  module _ (b : ℕ) (far : (u : ℕ) → u ≢ t → T (taking (line s u)) → (s.task u).taken ≢ b) where
    -- Y changes where nobody else relies on it
    rest_y : (n : ℕ) → ((u : ℕ) → u ≢ t → Split u (line s u) (m.x (held s u)) (upd m.y b n (held s u))) → Rest (in_memory s (store m b Y n) s.phase) κ t
    rest_y n split = record {
      current = r.current;
      apart = r.apart;
      unheld = r.unheld;
      rivals = r.rivals;
      tasks = λ u ne. let k = r.tasks u ne in let y = split u ne in search (k.fresh, far u ne, upd_off m.y b n (s.task u).taken);
    }

    -- C is set, and the phase changes in nothing that concerns a late store
    rest_c : (p : Phase) → PhaseIs p (upd m.c b 1 m.current) (m.v m.current) (m.d m.current) s.value
        → ((u : ℕ) → (s.phase ≡ late u → p ≡ late u) × (p ≡ late u → s.phase ≡ late u)) → Rest (in_memory s (store m b C 1) p) κ t
    rest_c p is-p lates = record {
      apart = r.apart;
      unheld = r.unheld;
      rivals = r.rivals;
      current = let k = r.current in record { low = k.low; P-some = k.P-some; v-some = k.v-some; decided-inactive = λ d. not_zero m.c b m.current (k.decided-inactive d); decision = k.decision; phase_is = is-p };
      tasks = λ u ne. let k = r.tasks u ne in record {
        self = k.self;
        split = k.split;
        value = k.value;
        planned = k.planned;
        early = k.early;
        decided = let d = k.decided in decided-with d (not_zero m.c b (held s u)) (λ a. refl) d.replaced-decided d.placed-value (λ a e z. (lates u).0 (d.late_phase a e z));
        store = let d = k.store in record { active-placed = d.active-placed; late_placed = d.late_placed; late_store_lem = λ a z. not_zero m.c b (held s u) (d.late_store_lem a z); yes-active = d.yes-active };
        seen = let d = k.seen in record {
          active-value = λ a. upd-cases (λ c. c ≡ 0 → κ.loaded u (s.task u).loaded) m.c b 1 (held s u) (λ h z. absurd (omega arith)) (λ h. d.active-value a);
          refusing = d.refusing;
          decision = d.decision;
          replaced = d.replaced;
        };
        fresh = λ a. rw (upd_off m.c b 1 (s.task u).taken (far u ne a)) (k.fresh a);
        owner = λ e. k.owner ((lates u).1 e);
      };
    }

-- THE STEPS

module _ (s : View) (κ : Knowledge) (t : ℕ) (i : Inv s κ) (a : Attempt) (n w : ℕ) where
  abbrev q : Record
  q = s.task t

  abbrev next : Record
  next = at (counted q a) n w q.held q.taken q.loaded

  far : T (holding (line s t)) → (u : ℕ) → u ≢ t → T (taking (line s u)) → (s.task u).taken ≢ q.held
  far h u ne c = i.unheld u t c h

  pub keeps16 : line s t ≡ l16 → line_of next ≡ l17 → Inv (moved (in_memory s (store s.cell q.held X t) s.phase) t next) κ
  keeps16 e e' = finish (in_memory s (store s.cell q.held X t) s.phase) κ t l17 next e' (rest_x s κ t (forget s κ t i) q.held)
      (let m = was s κ t l16 e i in
      let o : s.phase ≢ late t = not_late s κ t l16 q (λ x. x) m.task in
      search off)

  pub keeps18 : line s t ≡ l18 → line_of next ≡ l19 → Inv (moved (in_memory s (store s.cell q.held Y 1) s.phase) t next) κ
  keeps18 e e' = finish (in_memory s (store s.cell q.held Y 1) s.phase) κ t l19 next e'
      (rest_y s κ t (forget s κ t i) q.held (far (rw e tt)) 1
      (λ u ne. let k = (i.tasks u).split in record { about_to_win = λ a x. not_zero s.cell.y q.held (held s u) (k.about_to_win a x); kept = λ a. not_zero s.cell.y q.held (held s u) (k.kept a) }))
      (let m = was s κ t l18 e i in
      let o : s.phase ≢ late t = not_late s κ t l18 q (λ x. x) m.task in
      let y : upd s.cell.y q.held 1 q.held ≢ 0 = rw upd_same (λ z. omega arith) in
      let l = same_loses s κ t l18 l19 q (λ x. x) (λ x. x) m in
      search off)

  -- the winner resets the splitter and leaves
  pub keeps_leaving : (ℓ : Line) → line s t ≡ ℓ → T (won ℓ) → s.phase ≢ late t → (q' : Record) → line_of q' ≡ nowhere → Inv (moved (in_memory s (store s.cell q.held Y 0) s.phase) t q') κ
  keeps_leaving ℓ e wn o q' e' = finish (in_memory s (store s.cell q.held Y 0) s.phase) κ t nowhere q' e'
      (rest_y s κ t (forget s κ t i) q.held (far (rw e (lies_in won holding tt ℓ wn))) 0
      (λ u ne. let k = (i.tasks u).split in let m = was s κ t ℓ e i in record {
        about_to_win = λ a x. upd-cases (λ y. y ≢ 0) s.cell.y q.held 0 (held s u) (λ h. absurd ((m.wins u ne (sym h)).no_race wn (lies_in (is 19) racing tt (line s u) a) x)) (λ h. k.about_to_win a x);
        kept = λ a. upd-cases (λ y. y ≢ 0) s.cell.y q.held 0 (held s u) (λ h. absurd ((m.wins u ne (sym h)).one_won wn a)) (λ h. k.kept a);
      }))
      (idle_mine (in_memory s (store s.cell q.held Y 0) s.phase) κ t q' o)

  -- line 27, where the phase becomes p
  pub keeps27 : line s t ≡ l27 → line_of next ≡ l1 for28 → (p : Phase)
      → PhaseIs p (upd s.cell.c q.held 1 s.cell.current) (s.cell.v s.cell.current) (s.cell.d s.cell.current) s.value
      → ((u : ℕ) → (s.phase ≡ late u → p ≡ late u) × (p ≡ late u → s.phase ≡ late u)) → Inv (moved (in_memory s (store s.cell q.held C 1) p) t next) κ
  keeps27 e e' p is-p lates = finish (in_memory s (store s.cell q.held C 1) p) κ t (l1 for28) next e' (rest_c s κ t (forget s κ t i) q.held (far (rw e tt)) p is-p lates)
      (let m = was s κ t l27 e i in
      let o : p ≢ late t = λ z. not_late s κ t l27 q (λ x. x) m.task ((lates t).1 z) in
      let c : upd s.cell.c q.held 1 q.held ≢ 0 = rw upd_same (λ z. omega arith) in
      search off)
