-- What each action makes of the timeline: a refusal and a begin nothing; a step its move, and if it ends its call, that call's mark.
use mathlib.Core.Path.{◌≡◌, refl, sym, ap, ◌∙◌, subst}
use mathlib.Core.Logic.{◌≢◌, ◌⊎◌, inl, inr}
use mathlib.Core.Bool.{true, false, not}
use mathlib.Core.Option.{Option, none, some}
use mathlib.Core.List.{List, ◌∷◌}
use Prim.Native.Nat.{ℕ, suc, ◌≤◌, ◌<◌}
use native.Mathlib.Omega.{arith}
use lib.Dec.{T, T_not}
use Rattle.history_spec.specs.Basics.{upd}
use Rattle.history_spec.specs.History.{Op, cell_of, begin, step, Attempt, untried, refused, accepted, answered, Response, Yes, Report, CallId, Call, Calls, advance, enter}
use Rattle.history_spec.specs.Linearization.{reply, value_left, Point}
use Rattle.history_spec.specs.Moments.{Spot, Mark, point_of, Names}
use Rattle.history_spec.proofs.Basics.{either, upd-at, upd_same, upd_off, upd-cases, clash, some_inj, point}
use Rattle.history_linearization.proofs.Simulation.{Phase, settled, frozen, late, Ghost, Knowledge, Move, still, act, freeze, store, settle, land, freezes, takes_effect, in_phase, shift, unplaced, Tally, May, Sided, Why, acts, acted, observes}
use Rattle.history_linearization.proofs.Tracks.{Acts}
use Rattle.history_linearization.proofs.MovesOne.{onward, Dated, MovesOne, same-begin, going_pending, steps_on_lem, goes_on, ended-finished, ended-idle, leaves, starts_on, passes_on}
use Rattle.history_linearization.proofs.Timeline.{cell, Timeline}
use Rattle.history_linearization.proofs.Growing.{Joins, regarded, observed, since_other, since_before}
use Rattle.history_linearization.proofs.Kept.{cell_of_lem, Entry, of_finished, of_pending, Late, Kept, settled_late, calls-kept, phases_kept, past⁺, effect-kept}

-- WHAT IS FIRM: in a settled cell all moments so far, else those before the freezing

abbrev pub firm_of : Phase → (now froze : ℕ) → ℕ
firm_of settled now froze = now
firm_of frozen now froze = froze
firm_of (late u) now froze = froze

abbrev pub firm : Ghost → ℕ → ℕ → ℕ
firm g now k = firm_of (g.phase k) now (g.since k)

pub firm_later : (p : Phase) (now froze : ℕ) → firm_of p now froze ≤ now → (firm_of p now froze ≤ firm_of p (suc now) froze) × (firm_of p (suc now) froze ≤ suc now)
firm_later settled now froze h = omega arith
firm_later frozen now froze h = omega arith
firm_later (late u) now froze h = omega arith

-- the timeline after an action, where what was firm stays
pub record Onto (values : ℕ → ℕ) (g' : Ghost) (b' : Calls) (past : ℕ → ℕ → ℕ) (was : ℕ → ℕ) (ms' : List Mark) : Type 0 where
  pub later : ℕ → ℕ → ℕ
  pub kept : Kept values g' b' later (firm g' b'.now) ms'
  pub stays : (k n : ℕ) → n ≤ was k → later k n ≡ past k n
  pub up : (k : ℕ) → was k ≤ firm g' b'.now k

-- WHAT THE PENDING CALLS KNOW

-- the call that began so met the value v in its cell, after the action of a firm moment since its begin
pub record Seen (past : ℕ → ℕ → ℕ) (was : ℕ → ℕ) (s : CallId) (moment v : ℕ) : Type 0 where
  pub after-begin : s.at < moment
  pub is_firm : moment < was (cell_of s.op)
  pub at : past (cell_of s.op) (suc moment) ≡ v

abbrev pub knows : Calls → (ℕ → ℕ → ℕ) → (ℕ → ℕ) → Knowledge
knows b past was = record {
  saw = λ u m v. (c : Call) × (b.pending u ≡ some c) × Seen past was c.start m v;
  early = λ u. (c : Call) × (b.pending u ≡ some c) × (c.start.at < was (cell_of_lem c));
}

module _ {values : ℕ → ℕ} (g : Ghost) {b : Calls} {past : ℕ → ℕ → ℕ} {ms : List Mark} (k : Kept values g b past (firm g b.now) ms) (dated : Dated b) where
  abbrev n : ℕ
  n = b.now

  abbrev was : ℕ → ℕ
  was = firm g n

  later : (j : ℕ) → (was j ≤ firm g (suc n) j) × (firm g (suc n) j ≤ suc n)
  later j = firm_later (g.phase j) n (g.since j) (k.bound j)

  -- A REFUSAL AND A BEGIN

  pub pass_onto : Onto values g (enter b (step 0) (refused 0)) past was ms
  pass_onto =
      let k₁ = calls-kept k (passes_on b dated 0) k.marked (λ c h. (c, h, onward c)) g.placed (λ u c h. refl) (λ u d h i. absurd (clash i h)) in
      record { later = past; kept = phases_kept k₁ g.phase g.since (firm g (suc n)) later k₁.lates; stays = λ j i h. refl; up = λ j. (later j).0 }

  pub start_onto : (t : ℕ) (op : Op) → b.pending t ≡ none → Onto values (unplaced g t) (enter b (begin t op) (accepted untried)) past was ms
  start_onto t op idle =
      let k₁ = calls-kept k m k.marked (λ c h. absurd (clash idle h)) (upd g.placed t false) (λ u c h. upd_off g.placed t false u (λ q. clash idle (rw q at h))) new in
      record { later = past; kept = phases_kept k₁ g.phase g.since (firm g (suc n)) later k₁.lates; stays = λ j i h. refl; up = λ j. (later j).0 }
    where
      m : MovesOne 0 t b (enter b (begin t op) (accepted untried))
      m = starts_on b dated t op idle

      new : (u : ℕ) (d : Call) → (enter b (begin t op) (accepted untried)).pending u ≡ some d → b.pending u ≡ none → T (not (upd g.placed t false u))
      new u d h i = go (either u t)
        where
          go : (u ≡ t) ⊎ (u ≢ t) → T (not (upd g.placed t false u))
          go (inl q) = rw (q, upd_same g.placed t false) tt
          go (inr q) = absurd (clash i (sym (m.others u q) ∙ h))

  -- A STEP of task t's call c

  module _ {S : Type 0} (doing : S → ℕ → Option Tally) (s : S) (same : Acts doing s b) (t : ℕ) (x : Attempt) (c : Call) (busy : b.pending t ≡ some c) where
    abbrev pub going : Calls
    going = enter b (step t) (accepted x)

    abbrev kk : ℕ
    kk = cell_of_lem c

    now-busy : going.pending t ≡ some (advance b x c)
    now-busy = going_pending b dated t x c busy

    goes : MovesOne 0 t b going
    goes = goes_on b dated t x c busy

    k₁ : Kept values g going past was ms
    k₁ = calls-kept k goes k.marked (λ e h. (advance b x c, now-busy, rw (some_inj h busy) (steps_on_lem b dated t x c busy))) g.placed (λ u c h. refl)
        (λ u d h i. absurd (clash i (sym (goes.others u (λ q. clash (rw q at i) busy)) ∙ h)))

    abbrev LateNow : ℕ → ℕ → Type 0
    LateNow = Late g.placed g.since going.pending

    -- its cell gets the phase p
    put_up : (p : Phase) → was kk ≤ firm_of p (suc n) (g.since kk) → firm_of p (suc n) (g.since kk) ≤ suc n → (j : ℕ) → let f = firm (in_phase g kk p) (suc n) j in (was j ≤ f) × (f ≤ suc n)
    put_up p a z j = upd-cases (λ q. (was j ≤ firm_of q (suc n) (g.since j)) × (firm_of q (suc n) (g.since j) ≤ suc n)) g.phase kk p j (λ e. rw e (a, z)) (λ e. later j)

    put_lates : (p : Phase) → ((w : ℕ) → p ≡ late w → LateNow kk w) → (j w : ℕ) → upd g.phase kk p j ≡ late w → LateNow j w
    put_lates p new j w = upd-cases (λ q. q ≡ late w → LateNow j w) g.phase kk p j (λ e. rw e (new w)) (λ e. k₁.lates j w)

    put_phase : (p : Phase) → was kk ≤ firm_of p (suc n) (g.since kk) → firm_of p (suc n) (g.since kk) ≤ suc n → ((w : ℕ) → p ≡ late w → LateNow kk w) →
        Onto values (in_phase g kk p) going past was ms
    put_phase p a z new = record {
      later = past;
      kept = phases_kept k₁ (upd g.phase kk p) g.since (firm (in_phase g kk p) (suc n)) (put_up p a z) (put_lates p new);
      stays = λ j i h. refl;
      up = λ j. (put_up p a z j).0;
    }

    -- task u's swap takes effect at the moment m; its cell is settled
    put_effect : (u : ℕ) (d : Call) (i : going.pending u ≡ some d) (f : T (not (g.placed u))) (m : ℕ) (low : d.start.at < m) (high : m ≤ d.last) (behind : was (cell_of_lem d) ≤ m)
        (says : reply (g.cells (cell_of_lem d)) d.start.op ≡ Yes) (phase : ℕ → Phase) → ((j : ℕ) → (was j ≤ firm_of (phase j) (suc n) (g.since j)) × (firm_of (phase j) (suc n) (g.since j) ≤ suc n)) →
        m ≤ n → phase (cell_of_lem d) ≡ settled → ((j w : ℕ) → phase j ≡ late w → LateNow j w) →
        let g₁ = takes_effect g u d.start.op m in Onto values (record { cells = g₁.cells; placed = g₁.placed; when = g₁.when; phase = phase; since = g.since }) going past was ms
    put_effect u d i f m low high behind says phase ups lasts calm lates = record {
      later = past⁺ past g.cells (point d m);
      kept = effect-kept k₁ u d i f m low high behind says phase (λ j. firm_of (phase j) (suc n) (g.since j)) ups (rw calm (omega arith)) calm lates;
      stays = λ j q h. go j q h (either j (cell_of_lem d));
      up = λ j. (ups j).0;
    }
      where
        go : (j q : ℕ) → q ≤ was j → (j ≡ cell_of_lem d) ⊎ (j ≢ cell_of_lem d) → past⁺ past g.cells (point d m) j q ≡ past j q
        go j q h (inl e) = since_before past (cell_of_lem d) m _ j q (omega (arith, ap was e))
        go j q h (inr e) = since_other past (cell_of_lem d) m _ j q e

    put_freeze : g.phase kk ≡ settled → Onto values (freezes g kk n) going past was ms
    put_freeze f = record { later = past; kept = phases_kept k₁ (upd g.phase kk frozen) (upd g.since kk n) (firm (freezes g kk n) (suc n)) ups lates; stays = λ j i h. refl; up = λ j. (ups j).0 }
      where
        ups : (j : ℕ) → (was j ≤ firm (freezes g kk n) (suc n) j) × (firm (freezes g kk n) (suc n) j ≤ suc n)
        ups j = go (either j kk)
          where
            go : (j ≡ kk) ⊎ (j ≢ kk) → (was j ≤ firm (freezes g kk n) (suc n) j) × (firm (freezes g kk n) (suc n) j ≤ suc n)
            go (inl e) = rw (upd-at g.phase kk frozen j e, upd-at g.since kk n j e, ap g.phase e ∙ f) (omega arith)
            go (inr e) = rw (upd_off g.phase kk frozen j e, upd_off g.since kk n j e) (later j)

        lates : (j w : ℕ) → upd g.phase kk frozen j ≡ late w → Late g.placed (upd g.since kk n) going.pending j w
        lates j w h = go (either j kk)
          where
            go : (j ≡ kk) ⊎ (j ≢ kk) → Late g.placed (upd g.since kk n) going.pending j w
            go (inl e) = absurd (let z : frozen ≡ late w = sym (upd-at g.phase kk frozen j e) ∙ h in let y : ◌≡◌ {A = ℕ} 0 1 = cc in omega arith)
            go (inr e) =
                let p = k₁.lates j w (sym (upd_off g.phase kk frozen j e) ∙ h) in
                let o = upd_off g.since kk n j e in
                record { call = p.call; busy = p.busy; on = p.on; after-begin = omega (arith, p.after-begin); by_last_step = omega (arith, p.by_last_step); unplaced = p.unplaced }

    pub go_onto : (mv : Move) → May doing s g (knows b past was) t c.start.op mv → Onto values (shift g n t c.start.op mv) going past was ms
    go_onto still may = record { later = past; kept = phases_kept k₁ g.phase g.since (firm g (suc n)) later k₁.lates; stays = λ j i h. refl; up = λ j. (later j).0 }
    go_onto act (f, p, y) = put_effect t (advance b x c) now-busy f n (dated.past t c busy).0 (omega arith) (k.bound kk) y g.phase later (omega arith) p k₁.lates
    go_onto freeze p = put_freeze p
    go_onto store (f, p, e) =
        let froze : was kk ≡ g.since kk = rw p refl in
        let was-begun : c.start.at < was kk = subst (λ (c : Call). c.start.at < was (cell_of_lem c)) (some_inj e.1 busy) e.2 in
        put_phase (late t) (omega arith) (omega (arith, k.bound kk)) (λ w h. let q : t ≡ w = cc in rw (← q)
        (record { call = advance b x c; busy = now-busy; on = refl; after-begin = omega arith; by_last_step = omega (arith, k.bound kk); unplaced = f }))
    go_onto settle may = put_phase settled (omega (arith, k.bound kk)) (omega arith) (λ w h. settled_late refl h)
    go_onto (land u o) (p, w, y) =
        subst (λ o. Onto values (in_phase (takes_effect g u o (g.since kk)) kk settled) going past was ms) e
        (put_effect u q.call q.busy q.unplaced (g.since kk) q.after-begin q.by_last_step (omega (arith, ap was q.on, froze)) (subst (λ o. reply (g.cells (cell_of o)) o ≡ Yes) (sym e) y)
        (upd g.phase kk settled) (put_up settled (omega (arith, k.bound kk)) (omega arith)) (omega (arith, k.bound kk, froze)) (rw q.on (upd_same g.phase kk settled)) (put_lates settled (λ w h. settled_late refl h)))
      where
        froze : was kk ≡ g.since kk
        froze = rw p refl

        q : LateNow kk u
        q = k₁.lates kk u p

        e : q.call.start.op ≡ o
        e =
            let d = same u w.0 w.1 in
            let i = same-begin goes u d.0 q.call d.1 q.busy in
            cc (d.2, w.2)

    -- THE CALL ENDS with the answer a, marked at the spot

    module _ (r : Report) (spot : Spot) (sided : Sided c.start.op r.answer spot) where
      abbrev a : Response
      a = r.answer

      abbrev pub ended : Calls
      ended = enter b (step t) (answered x r)

      abbrev mark : Mark
      mark = record { spot = spot; call = c.start; answer = a }

      goes_off : MovesOne 1 t going ended
      goes_off = leaves b dated t x c busy r

      off : (u : ℕ) (d : Call) → ended.pending u ≡ some d → u ≢ t
      off u d j q = ended-idle b dated t x c busy r d (rw q at j)

      was_pending : (u : ℕ) (d : Call) → ended.pending u ≡ some d → going.pending u ≡ some d
      was_pending u d j = sym (goes_off.others u (off u d j)) ∙ j

      module _ (g' : Ghost) (past' : ℕ → ℕ → ℕ) (firm' : ℕ → ℕ) (K : Kept values g' going past' firm' ms) where
        abbrev Before : Point → Response → Type 0
        Before = Entry g'.placed g'.when going.pending ms

        abbrev Thereafter : Point → Response → Type 0
        Thereafter = Entry g'.placed g'.when ended.pending (mark ∷ ms)

        new : Thereafter (point_of mark) a
        new = of_finished mark (inl refl)

        -- who stood there stands there still, if it is not the one that ends
        old : (T (g'.placed t) → Thereafter (point c (g'.when t)) Yes) → (e : Point) (z : Response) → Before e z → Thereafter e z
        old mine e z (of_finished m j) = of_finished m (inr j)
        old mine e z (of_pending u d j p) = go (either u t)
          where
            go : (u ≡ t) ⊎ (u ≢ t) → Thereafter (point d (g'.when u)) Yes
            go (inl q) = subst (λ (d : Call). Thereafter (point d (g'.when u)) Yes) (some_inj now-busy (rw q at j)) (subst (λ u. Thereafter (point c (g'.when u)) Yes) (sym q) (mine (subst (λ u. T (g'.placed u)) q p)))
            go (inr q) = of_pending u d (goes_off.others u q ∙ j) p

        split : (e : Point) (z : Response) → Thereafter e z → ((e ≡ point_of mark) × (z ≡ a)) ⊎ Before e z
        split e z (of_finished m (inl q)) = inl (ap point_of q, ap (λ (m : Mark). m.answer) q)
        split e z (of_finished m (inr j)) = inr (of_finished m j)
        split e z (of_pending u d j p) = inr (of_pending u d (was_pending u d j) p)

        leave_kept : Timeline values past' Thereafter → c.start.at < spot.moment → spot.moment ≤ n → spot.moment < firm' kk → ((j : ℕ) → g'.phase j ≢ late t) → Kept values g' ended past' firm' (mark ∷ ms)
        leave_kept line low high below unlate = record {
          line = line;
          ends = K.ends;
          firmed = λ e z j. firmed e z (split e z j);
          bound = K.bound;
          marked = rw (ended-finished b dated t x c busy r) (record { call = refl; answer = refl; after-begin = low; by_last_step = high; sided = sided }, K.marked);
          stands = λ u d j p. K.stands u d (was_pending u d j) p;
          lates = λ j u q. let p = K.lates j u q in
              record { call = p.call; busy = goes_off.others u (λ e. unlate j (rw e at q)) ∙ p.busy; on = p.on; after-begin = p.after-begin; by_last_step = p.by_last_step; unplaced = p.unplaced };
        }
          where
            firmed : (e : Point) (z : Response) → ((e ≡ point_of mark) × (z ≡ a)) ⊎ Before e z → e.moment < firm' (cell e)
            firmed e z (inl q) = subst (λ (e : Point). e.moment < firm' (cell e)) (sym q.0) below
            firmed e z (inr j) = K.firmed e z j

      -- it took effect before, at its spot
      leave_onto : (g' : Ghost) → Onto values g' going past was ms → T (g'.placed t) → a ≡ Yes → spot.moment ≡ g'.when t → Onto values g' ended past was (mark ∷ ms)
      leave_onto g' o p y m = record { later = o.later; kept = leave_kept g' o.later F K line (omega (arith, stood.0)) (omega (arith, stood.1)) (omega (arith, K.firmed (point c (g'.when t)) Yes there)) unlate; stays = o.stays; up = o.up }
        where
          F : ℕ → ℕ
          F = firm g' (suc n)

          K : Kept values g' going o.later F ms
          K = o.kept

          stood : (c.start.at < g'.when t) × (g'.when t ≤ n)
          stood = K.stands t (advance b x c) now-busy p

          there : Before g' o.later F K (point c (g'.when t)) Yes
          there = of_pending t (advance b x c) now-busy p

          same_point : point_of mark ≡ point c (g'.when t)
          same_point = ap (λ m. point c m) m

          from : (e : Point) (z : Response) → ((e ≡ point_of mark) × (z ≡ a)) ⊎ Before g' o.later F K e z → Before g' o.later F K e z
          from e z (inl q) = subst (λ (e : Point). Before g' o.later F K e z) (sym (q.0 ∙ same_point)) (subst (Before g' o.later F K (point c (g'.when t))) (sym (q.1 ∙ y)) there)
          from e z (inr j) = j

          line : Timeline values o.later (Thereafter g' o.later F K)
          line = regarded K.line (old g' o.later F K (λ p. subst (λ (e : Point). Thereafter g' o.later F K e Yes) same_point (subst (Thereafter g' o.later F K (point_of mark)) y (new g' o.later F K))))
              (λ e z j. from e z (split g' o.later F K e z j))

          unlate : (j : ℕ) → g'.phase j ≢ late t
          unlate j q = T_not (g'.placed t) (K.lates j t q).unplaced p

      -- it changes nothing, and saw at its spot what it answers
      observe_onto : (v : ℕ) → Seen past was c.start spot.moment v → reply v c.start.op ≡ a → value_left v c.start.op ≡ v → T (not (g.placed t)) → g.phase kk ≢ late t → Onto values g ended past was (mark ∷ ms)
      observe_onto v p says calm f unlate = record {
        later = past;
        kept = leave_kept g past F K (observed K.line (point_of mark) a joins v p.at says calm) p.after-begin (omega (arith, p.is_firm, k.bound kk)) (omega (arith, p.is_firm, (later kk).0)) unlates;
        stays = λ j i h. refl;
        up = λ j. (later j).0;
      }
        where
          F : ℕ → ℕ
          F = firm g (suc n)

          K : Kept values g going past F ms
          K = phases_kept k₁ g.phase g.since F later k₁.lates

          joins : Joins (Before g past F K) (Thereafter g past F K) (point_of mark) a
          joins = record { old = old g past F K (λ p. absurd (T_not (g.placed t) f p)); new = new g past F K; split = split g past F K }

          unlates : (j : ℕ) → g.phase j ≢ late t
          unlates j q = let l = K.lates j t q in unlate (rw (ap cell_of_lem (some_inj now-busy l.busy) ∙ l.on) q)

      pub end_onto : {X : Type 0} (tallies : X → ℕ → Option Tally) (clock : X → ℕ) (names : Names X) (y : X) → clock y ≡ n → (mv : Move) → May doing s g (knows b past was) t c.start.op mv →
          Why tallies clock names y g (knows b past was) t c.start.op a spot.moment mv → Onto values (shift g n t c.start.op mv) ended past was (mark ∷ ms)
      end_onto tallies clock names y e act may (acts p m) = leave_onto (shift g n t c.start.op act) (go_onto act may) (rw (upd_same g.placed t true) tt) p (m ∙ e ∙ sym (upd_same g.when t n))
      end_onto tallies clock names y e still may (acted f p m) = leave_onto g (go_onto still may) f p m
      end_onto tallies clock names y e still may (observes v p r q f unlate) = observe_onto v (subst (λ (c : Call). Seen past was c.start spot.moment v) (some_inj p.1 busy) p.2) r q f unlate
      end_onto {X = X} tallies clock names y e freeze may x3 = elim x3 [ ]
      end_onto {X = X} tallies clock names y e store may x4 = elim x4 [ ]
      end_onto {X = X} tallies clock names y e settle may x5 = elim x5 [ ]
      end_onto {X = X} tallies clock names y e (land u _) may x7 = elim x7 [ ]
