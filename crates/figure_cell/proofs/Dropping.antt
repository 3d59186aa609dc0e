-- A drop. Who has not stored leaves nothing that the invariant asks for. Who has stored is kept, as if it had halted, under a number of its own.
use mathlib.Core.Path.{◌≡◌, refl, sym, ap, subst, ◌∙◌}
use mathlib.Core.Logic.{◌≢◌, ◌⊎◌, inl, inr}
use mathlib.Core.Bool.{Bool, true, false, cond}
use Prim.Native.Nat.{ℕ}
use lib.Dec.{eqb, T}
use borrow.Author.Tests.{eq-eqb, ne_eqb}
use Rattle.figure_lines.specs.declared.Record.{Record}
use Rattle.figure_lines.specs.Record.{idle}
use Rattle.figure_lines.specs.Lines.{Line, line_of, nowhere}
use Rattle.history_spec.specs.Basics.{upd}
use Rattle.history_spec.proofs.Basics.{upd_same, upd_off, upd-cases}
use Rattle.history_linearization.proofs.Simulation.{Phase, settled, frozen, late, renamed}
use Rattle.history_linearization.proofs.Parking.{late_before}
use Rattle.figure_cell.proofs.Classes.{is, holding, racing, stored, taking, are_apart}
use Rattle.figure_cell.proofs.Invariant.{View, Knowledge, TaskOf, Rival, PhaseIs, line, held, Inv}
use Rattle.figure_cell.proofs.Frame.{moved, Rest, Mine, finish, Grows, grown_task}
use Rattle.figure_cell.proofs.Looking.{idle-task, idle_mine}

-- PHASES

pub renamed_late : (t u : ℕ) → renamed t u (late t) ≡ late u
renamed_late t u = rw (eq-eqb t t refl) refl

pub renamed_off : (t u : ℕ) (p : Phase) → p ≢ late t → renamed t u p ≡ p
renamed_off t u settled n = refl
renamed_off t u frozen n = refl
renamed_off t u (late v) n = rw (ne_eqb v t (λ e. n (ap late e))) refl

renamed-is : (t u : ℕ) (p : Phase) (c v d P : ℕ) → PhaseIs p c v d P → PhaseIs (renamed t u p) c v d P
renamed-is t u settled c v d P x = x
renamed-is t u frozen c v d P x = x
renamed-is t u (late w) c v d P x = go (eqb w t)
  where
    go : (b : Bool) → PhaseIs (cond b (late u) (late w)) c v d P
    go true = x
    go false = x

-- WHO HAS STORED gets the number u, where nobody is; of who has not, nothing is kept

abbrev pub kept : Record → Record
kept q = cond (stored (line_of q)) q idle

-- what t knew is known under u
pub record Inherits (κ κ' : Knowledge) (t u : ℕ) : Type 0 where
  pub loaded : (v : ℕ) → κ.loaded t v → κ'.loaded u v
  pub decided : (v : ℕ) → κ.decided t v → κ'.decided u v
  pub replaced : (v : ℕ) → κ.replaced t v → κ'.replaced u v
  pub early : κ.early t → κ'.early u
  pub stored_active : κ'.stored_active u ≡ κ.stored_active t

module _ (s : View) (κ κ' : Knowledge) (i : Inv s κ) (t u : ℕ) (ne : t ≢ u) (free : line s u ≡ nowhere) (mine : Inherits κ κ' t u) (theirs : (v : ℕ) → v ≢ t → v ≢ u → Grows s κ κ' v (line s v)) where
  abbrev q : Record
  q = s.task t

  abbrev ℓ : Line
  ℓ = line s t

  -- t is idle, and the ghost has the other number
  abbrev pub without : View
  without = record { cell = s.cell; task = upd s.task t idle; value = s.value; placed = upd s.placed u (s.placed t); phase = renamed t u s.phase }

  -- what u gets: a call that has stored
  abbrev pub parked_view : View
  parked_view = moved without u (kept q)

  was_late : renamed t u s.phase ≡ late u → s.phase ≡ late t
  was_late e = go (late_before t u s.phase u e)
    where
      go : ((u ≡ u) × (s.phase ≡ late t)) ⊎ ((u ≢ t) × (s.phase ≡ late u)) → s.phase ≡ late t
      go (inl z) = z.1
      go (inr z) = absurd (rw free at ((i.tasks u).owner z.1).has_stored)

  not_late : renamed t u s.phase ≢ late t
  not_late e = go (late_before t u s.phase t e)
    where
      go : ((t ≡ u) × (s.phase ≡ late t)) ⊎ ((t ≢ t) × (s.phase ≡ late t)) → ⊥
      go (inl z) = ne z.0
      go (inr z) = z.0 refl

  still_late : (v : ℕ) → v ≢ u → renamed t u s.phase ≡ late v → s.phase ≡ late v
  still_late v n e = go (late_before t u s.phase v e)
    where
      go : ((v ≡ u) × (s.phase ≡ late t)) ⊎ ((v ≢ t) × (s.phase ≡ late v)) → s.phase ≡ late v
      go (inl z) = absurd (n z.0)
      go (inr z) = z.1

  -- another task
  other : (v : ℕ) → v ≢ t → v ≢ u → TaskOf without κ' v (line s v) (s.task v)
  other v n m =
      let k = grown_task s κ κ' v (line s v) (theirs v n m) (i.tasks v) in
      rw (upd_off s.placed u (s.placed t) v m) (record {
        self = k.self;
        split = k.split;
        value = k.value;
        decided = record {
          replaced-decided = k.decided.replaced-decided;
          decided-inactive = k.decided.decided-inactive;
          before-store = k.decided.before-store;
          placed-value = k.decided.placed-value;
          placed-decided = k.decided.placed-decided;
          late_inactive = k.decided.late_inactive;
          late_phase = λ x y z. let e = k.decided.late_phase x y z in renamed_off t u s.phase (λ f. n (let w : v ≡ t = cc in w)) ∙ e;
          late_decided = k.decided.late_decided;
          inactive = k.decided.inactive;
          decided = k.decided.decided;
          expected = k.decided.expected;
        };
        store = k.store;
        seen = k.seen;
        planned = k.planned;
        fresh = k.fresh;
        early = k.early;
        owner = λ e. k.owner (still_late v m e);
      })

  -- everybody but u
  rest : Rest without κ' u
  rest = record {
    current = record { low = i.current.low; P-some = i.current.P-some; v-some = i.current.v-some; decided-inactive = i.current.decided-inactive; decision = i.current.decision; phase_is = renamed-is t u s.phase _ _ _ _ i.current.phase_is };
    tasks = λ v n. upd-cases (λ p. TaskOf without κ' v (line_of p) p) s.task t idle v (λ e. idle-task without κ' v idle (λ z. not_late (subst (λ n. renamed t u s.phase ≡ late n) e z))) (λ e. other v e n);
    rivals = λ v w nv nw n. upd-cases (λ p. p.held ≡ held without w → Rival w (line_of p) (line without w) (s.cell.x (held without w))) s.task t idle v
        (λ e h. record { one_won = λ a. absurd a; no_race = λ a. absurd a })
        (λ e. upd-cases (λ p. held s v ≡ p.held → Rival w (line s v) (line_of p) (s.cell.x p.held)) s.task t idle w (λ e' h. record { one_won = λ a b. absurd b; no_race = λ a b. absurd b }) (λ e'. i.rivals v w n));
    apart = λ v w nv nw n. upd-cases (λ p. T (taking (line_of p)) → T (taking (line without w)) → p.taken ≢ (without.task w).taken) s.task t idle v
        (λ e a. absurd a) (λ e. upd-cases (λ p. T (taking (line s v)) → T (taking (line_of p)) → (s.task v).taken ≢ p.taken) s.task t idle w (λ e' a b. absurd b) (λ e'. i.apart v w n));
    unheld = λ v w nv nw. upd-cases (λ p. T (taking (line_of p)) → T (holding (line without w)) → p.taken ≢ held without w) s.task t idle v
        (λ e a. absurd a) (λ e. upd-cases (λ p. T (taking (line s v)) → T (holding (line_of p)) → (s.task v).taken ≢ p.held) s.task t idle w (λ e' a b. absurd b) (λ e'. i.unheld v w));
  }

  module _ (b : T (stored ℓ)) where
    not_taking : T (taking ℓ) → ⊥
    not_taking = are_apart stored taking tt ℓ b

    own : TaskOf without κ' u ℓ q
    own =
        let k = i.tasks t in
        rw (upd_same s.placed u (s.placed t)) (record {
          self = k.self;
          split = record { about_to_win = λ a. absurd (are_apart stored (is 19) tt ℓ b a); kept = k.split.kept };
          value = k.value;
          decided = record {
            replaced-decided = k.decided.replaced-decided;
            decided-inactive = k.decided.decided-inactive;
            before-store = k.decided.before-store;
            placed-value = k.decided.placed-value;
            placed-decided = k.decided.placed-decided;
            late_inactive = k.decided.late_inactive;
            late_phase = λ x y z. ap (renamed t u) (k.decided.late_phase x y z) ∙ renamed_late t u;
            late_decided = k.decided.late_decided;
            inactive = k.decided.inactive;
            decided = k.decided.decided;
            expected = k.decided.expected;
          };
          store = rw mine.stored_active k.store;
          seen = record {
            active-value = λ a c. mine.loaded _ (k.seen.active-value a c);
            refusing = λ a. mine.loaded _ (k.seen.refusing a);
            decision = λ a d. mine.decided _ (k.seen.decision a d);
            replaced = λ a h. let r = k.seen.replaced a h in (r.0, mine.replaced _ r.1, r.2);
          };
          planned = k.planned;
          fresh = k.fresh;
          early = λ a. mine.early (k.early a);
          owner = λ e. k.owner (was_late e);
        })

    mine_there : Mine without κ' u ℓ q
    mine_there = record {
      task = own;
      wins = λ w n. upd-cases (λ p. q.held ≡ p.held → Rival w ℓ (line_of p) (s.cell.x p.held)) s.task t idle w (λ e h. record { one_won = λ a z. absurd z; no_race = λ a z. absurd z }) (λ e. i.rivals t w (λ z. e (sym z)));
      loses = λ w n. upd-cases (λ p. p.held ≡ q.held → Rival u (line_of p) ℓ (s.cell.x q.held)) s.task t idle w (λ e h. record { one_won = λ a. absurd a; no_race = λ a. absurd a })
          (λ e h. record { one_won = (i.rivals w t e h).one_won; no_race = λ a z. absurd (are_apart stored racing tt ℓ b z) });
      apart = λ w n a. absurd (not_taking a);
      unheld = record {
        mine = λ w n a. absurd (not_taking a);
        theirs = λ w n. upd-cases (λ p. T (taking (line_of p)) → T (holding ℓ) → p.taken ≢ q.held) s.task t idle w (λ e a. absurd a) (λ e. i.unheld w t);
        own = λ a. absurd (not_taking a);
      };
    }

  pub parks_there : Inv parked_view κ'
  parks_there = go (stored ℓ) refl
    where
      go : (x : Bool) → stored ℓ ≡ x → Inv (moved without u (cond x q idle)) κ'
      go true e = finish without κ' u ℓ q refl rest (mine_there (rw e tt))
      go false e = finish without κ' u nowhere idle refl rest (idle_mine without κ' u idle (λ z. rw e at ((i.tasks t).owner (was_late z)).has_stored))
