-- A step changes memory and ghost, then one record: what holds of everybody but the stepper, and what holds of the stepper, make the
-- invariant again. The quantifiers over tasks are met here once.
use mathlib.Core.Path.{◌≡◌, refl, sym, subst}
use mathlib.Core.Logic.{◌≢◌, ◌⊎◌, inl, inr}
use mathlib.Core.Bool.{Bool, not}
use Prim.Native.Nat.{ℕ}
use lib.Dec.{T}
use Rattle.figure_lines.specs.declared.Record.{Record}
use Rattle.figure_lines.specs.Lines.{Line, line_of}
use Rattle.history_spec.specs.Basics.{upd}
use Rattle.history_spec.proofs.Basics.{either, upd-cases}
use Rattle.history_linearization.proofs.Simulation.{Phase, late}
use Rattle.figure_cell.proofs.Classes.{is, busy, holding, taking, stored, won, checking, viewing, lies_in}
use Rattle.figure_cell.proofs.Invariant.{none, View, Knowledge, Decided, TaskOf, Rival, CurrentOf, line, held, RivalOf, Inv}

abbrev pub moved : View → ℕ → Record → View
moved s t q = record { cell = s.cell; task = upd s.task t q; value = s.value; placed = s.placed; phase = s.phase }

pub record Rest (s : View) (κ : Knowledge) (t : ℕ) : Type 0 where
  pub current : CurrentOf s
  pub tasks : (u : ℕ) → u ≢ t → TaskOf s κ u (line s u) (s.task u)
  pub rivals : (u w : ℕ) → u ≢ t → w ≢ t → u ≢ w → held s u ≡ held s w → RivalOf s u w
  pub apart : (u w : ℕ) → u ≢ t → w ≢ t → u ≢ w → T (taking (line s u)) → T (taking (line s w)) → (s.task u).taken ≢ (s.task w).taken
  pub unheld : (u w : ℕ) → u ≢ t → w ≢ t → T (taking (line s u)) → T (holding (line s w)) → (s.task u).taken ≢ held s w

-- the stepper's two blocks, held and taken: nobody holds the one, nobody has taken the other
pub record Unheld (s : View) (t : ℕ) (ℓ : Line) (held-block taken : ℕ) : Type 0 where
  pub mine : (w : ℕ) → w ≢ t → T (taking ℓ) → T (holding (line s w)) → taken ≢ held s w
  pub theirs : (w : ℕ) → w ≢ t → T (taking (line s w)) → T (holding ℓ) → (s.task w).taken ≢ held-block
  pub own : T (taking ℓ) → T (holding ℓ) → taken ≢ held-block

-- the stepper at line ℓ with the record q
pub record Mine (s : View) (κ : Knowledge) (t : ℕ) (ℓ : Line) (q : Record) : Type 0 where
  pub task : TaskOf s κ t ℓ q
  pub wins : (w : ℕ) → w ≢ t → q.held ≡ held s w → Rival w ℓ (line s w) (s.cell.x (held s w))
  pub loses : (w : ℕ) → w ≢ t → held s w ≡ q.held → Rival t (line s w) ℓ (s.cell.x q.held)
  pub apart : (w : ℕ) → w ≢ t → T (taking ℓ) → T (taking (line s w)) → q.taken ≢ (s.task w).taken
  pub unheld : Unheld s t ℓ q.held q.taken

-- what holds of the new record and of every old one holds of all
each : (f : ℕ → Record) (t : ℕ) (q : Record) (Q : ℕ → Record → Type 0) → Q t q → ((u : ℕ) → u ≢ t → Q u (f u)) → (u : ℕ) → Q u (upd f t q u)
each f t q Q mine theirs u = upd-cases (Q u) f t q u (λ e. subst (λ n. Q n q) (sym e) mine) (theirs u)

pub finish : (s : View) (κ : Knowledge) (t : ℕ) (ℓ : Line) (q : Record) → line_of q ≡ ℓ → Rest s κ t → Mine s κ t ℓ q → Inv (moved s t q) κ
finish s κ t ℓ q e r o = record {
  current = r.current;
  tasks = each f t q (λ u p. TaskOf s κ u (line_of p) p) (rw e o.task) r.tasks;
  rivals = each f t q (λ u p. (w : ℕ) → u ≢ w → p.held ≡ (upd f t q w).held → Rival w (line_of p) (line_of (upd f t q w)) (s.cell.x (upd f t q w).held))
      (each f t q (λ w p. t ≢ w → q.held ≡ p.held → Rival w (line_of q) (line_of p) (s.cell.x p.held)) (λ n. absurd (n refl)) (λ w ne n h. rw e (o.wins w ne h)))
      (λ u ne. each f t q (λ w p. u ≢ w → held s u ≡ p.held → Rival w (line s u) (line_of p) (s.cell.x p.held)) (λ n h. rw e (o.loses u ne h)) (λ w ne'. r.rivals u w ne ne'));
  apart = each f t q (λ u p. (w : ℕ) → u ≢ w → T (taking (line_of p)) → T (taking (line_of (upd f t q w))) → p.taken ≢ (upd f t q w).taken)
      (each f t q (λ w p. t ≢ w → T (taking (line_of q)) → T (taking (line_of p)) → q.taken ≢ p.taken) (λ n. absurd (n refl)) (λ w ne n. rw e (o.apart w ne)))
      (λ u ne. each f t q (λ w p. u ≢ w → T (taking (line s u)) → T (taking (line_of p)) → (s.task u).taken ≢ p.taken)
      (λ n a b h. o.apart u ne (rw e at b) a (sym h)) (λ w ne'. r.apart u w ne ne'));
  unheld = each f t q (λ u p. (w : ℕ) → T (taking (line_of p)) → T (holding (line_of (upd f t q w))) → p.taken ≢ (upd f t q w).held)
      (each f t q (λ w p. T (taking (line_of q)) → T (holding (line_of p)) → q.taken ≢ p.held) (rw e o.unheld.own) (λ w ne. rw e (o.unheld.mine w ne)))
      (λ u ne. each f t q (λ w p. T (taking (line s u)) → T (holding (line_of p)) → (s.task u).taken ≢ p.held) (rw e (o.unheld.theirs u ne)) (λ w ne'. r.unheld u w ne ne'));
}
  where
    f : ℕ → Record
    f = s.task

pub forget : (s : View) (κ : Knowledge) (t : ℕ) → Inv s κ → Rest s κ t
forget s κ t i = record { current = i.current; tasks = λ u ne. i.tasks u; rivals = λ u w ne ne'. i.rivals u w; apart = λ u w ne ne'. i.apart u w; unheld = λ u w ne ne'. i.unheld u w }

-- a step that changes neither memory nor ghost
pub quiet : (s : View) (κ : Knowledge) (t : ℕ) (ℓ : Line) (q : Record) → line_of q ≡ ℓ → Inv s κ → Mine s κ t ℓ q → Inv (moved s t q) κ
quiet s κ t ℓ q e i o = finish s κ t ℓ q e (forget s κ t i) o

-- what is known of t at its line
pub was : (s : View) (κ : Knowledge) (t : ℕ) (ℓ : Line) → line s t ≡ ℓ → Inv s κ → Mine s κ t ℓ (s.task t)
was s κ t ℓ e i = record {
  task = rw e at (i.tasks t);
  wins = λ w ne h. rw e at (i.rivals t w (λ p. ne (sym p)) h);
  loses = λ w ne h. rw e at (i.rivals w t ne h);
  apart = λ w ne. rw e at (i.apart t w (λ p. ne (sym p)));
  unheld = record { mine = λ w ne. rw e at (i.unheld t w); theirs = λ w ne. rw e at (i.unheld w t); own = rw e at (i.unheld t t) };
}

-- KNOWLEDGE

-- what a task knows goes on where it matters: a load for who may answer by it, a decision where there is one, a replacement where it was
pub record Grows (s : View) (κ κ' : Knowledge) (u : ℕ) (ℓ : Line) : Type 0 where
  pub loaded : T (viewing ℓ) → (v : ℕ) → κ.loaded u v → κ'.loaded u v
  pub decided : T (holding ℓ) → s.cell.d (held s u) ≢ none → (v : ℕ) → κ.decided u v → κ'.decided u v
  pub replaced : T (holding ℓ) → held s u ≢ s.cell.current → (v : ℕ) → κ.replaced u v → κ'.replaced u v
  pub early : T (busy ℓ) → κ.early u → κ'.early u
  pub stored_active : T (stored ℓ) → κ'.stored_active u ≡ κ.stored_active u

pub grown_task : (s : View) (κ κ' : Knowledge) (u : ℕ) (ℓ : Line) → Grows s κ κ' u ℓ → TaskOf s κ u ℓ (s.task u) → TaskOf s κ' u ℓ (s.task u)
grown_task s κ κ' u ℓ m k = record {
  self = k.self;
  split = k.split;
  value = k.value;
  decided = k.decided;
  planned = k.planned;
  fresh = k.fresh;
  owner = k.owner;
  early = λ a. m.early (lies_in (is 23) busy tt ℓ a) (k.early a);
  store = record {
    active-placed = λ a z. k.store.active-placed a (subst T (m.stored_active a) z);
    late_placed = λ a z. k.store.late_placed a (subst (λ b. T (not b)) (m.stored_active a) z);
    late_store_lem = λ a z. k.store.late_store_lem a (subst (λ b. T (not b)) (m.stored_active a) z);
    yes-active = λ a. subst T (sym (m.stored_active (lies_in (is 26) stored tt ℓ a))) (k.store.yes-active a);
  };
  seen = record {
    active-value = λ a c. m.loaded (lies_in checking viewing tt ℓ a) _ (k.seen.active-value a c);
    refusing = λ a. m.loaded (lies_in (is 22) viewing tt ℓ a) _ (k.seen.refusing a);
    decision = λ a d. m.decided a d _ (k.seen.decision a d);
    replaced = λ a h. let r = k.seen.replaced a h in (r.0, m.replaced a h _ r.1, r.2);
  };
}

pub grow : (s : View) (κ κ' : Knowledge) → ((u : ℕ) → Grows s κ κ' u (line s u)) → Inv s κ → Inv s κ'
grow s κ κ' m i = record { current = i.current; tasks = λ u. grown_task s κ κ' u (line s u) (m u) (i.tasks u); rivals = i.rivals; apart = i.apart; unheld = i.unheld }

-- C stays set, and who stored stays placed or not; what is said anew is of the current block, the value and the phase
pub decided-with : {u : ℕ} {ℓ : Line} {q : Record} {placed placed' : Bool} {d c c' L L' P P' : ℕ} {p p' : Phase} → Decided u ℓ q placed d c L P p
    → (c ≢ 0 → c' ≢ 0) → (T (stored ℓ) → placed' ≡ placed) → (T (holding ℓ) → q.held ≢ L' → d ≢ none)
    → (T (stored ℓ) → T placed → d ≡ none → P' ≡ q.new) → (T (stored ℓ) → T (not placed) → d ≡ none → p' ≡ late u) → Decided u ℓ q placed' d c' L' P' p'
decided-with r set same current value phase = record {
  replaced-decided = current;
  decided-inactive = λ b z. set (r.decided-inactive b z);
  before-store = r.before-store;
  placed-value = λ b z. value b (subst T (same b) z);
  placed-decided = λ b z. r.placed-decided b (subst T (same b) z);
  late_inactive = λ b z. set (r.late_inactive b (subst (λ x. T (not x)) (same b) z));
  late_phase = λ b z. phase b (subst (λ x. T (not x)) (same b) z);
  late_decided = λ b z. r.late_decided b (subst (λ x. T (not x)) (same b) z);
  inactive = λ b. set (r.inactive b);
  decided = r.decided;
  expected = r.expected;
}

-- CONSEQUENCES

module _ (s : View) (κ : Knowledge) (i : Inv s κ) where
  -- a held block that is not decided is the current one
  pub undecided : (u : ℕ) → T (holding (line s u)) → s.cell.d (held s u) ≡ none → held s u ≡ s.cell.current
  undecided u h d = go (either (held s u) s.cell.current)
    where
      go : (held s u ≡ s.cell.current) ⊎ (held s u ≢ s.cell.current) → held s u ≡ s.cell.current
      go (inl e) = e
      go (inr e) = absurd ((i.tasks u).decided.replaced-decided h e d)

  -- and so is one that is active; it is not decided
  pub active-undecided : (u : ℕ) → T (holding (line s u)) → s.cell.c (held s u) ≡ 0 → s.cell.d (held s u) ≡ none
  active-undecided u h c = go (either (s.cell.d (held s u)) none)
    where
      go : (s.cell.d (held s u) ≡ none) ⊎ (s.cell.d (held s u) ≢ none) → s.cell.d (held s u) ≡ none
      go (inl e) = e
      go (inr e) = absurd ((i.tasks u).decided.decided-inactive h e c)

  pub active-current : (u : ℕ) → T (holding (line s u)) → s.cell.c (held s u) ≡ 0 → held s u ≡ s.cell.current
  active-current u h c = undecided u h (active-undecided u h c)

  pub one_winner : (u w : ℕ) → T (won (line s u)) → T (won (line s w)) → held s u ≡ held s w → u ≡ w
  one_winner u w a b h = go (either u w)
    where
      go : (u ≡ w) ⊎ (u ≢ w) → u ≡ w
      go (inl e) = e
      go (inr e) = absurd ((i.rivals u w e h).one_won a b)
