-- A call that begins at a cell that is ready for it, and meets no contention, makes no hardware CAS. Its task is quiet as long as it is alone.
use mathlib.Core.Path.{◌≡◌, refl, sym, ap, ◌∙◌, subst}
use mathlib.Core.Logic.{◌≢◌, ◌⊎◌, inl, inr}
use mathlib.Core.Option.{Option, none, some}
use mathlib.Core.List.{◌∷◌}
use Prim.Native.Nat.{ℕ, suc, ◌+◌, ◌≤◌}
use native.Mathlib.Omega.{arith}
use Rattle.history_spec.specs.Basics.{◌∈◌}
use Rattle.history_spec.specs.History.{Op, cell_of, Action, begin, step, drop, Attempt, untried, Event, accepted, answered, CallId, Call, attempts, FinishedCall, WithdrawnCall, Calls, called, advance, advanced, enter, CallOf, finished, pending, withdrawn}
use Rattle.history_spec.specs.History.{run}
use Rattle.history_spec.specs.Demand3.{Unequal, Alone}
use Rattle.history_spec.proofs.Basics.{upd_same, upd_off, clash, some_inj}
use Rattle.history_linearization.proofs.Simulation.{Tally, Free, QuietSteps, Quietly}
use Rattle.history_linearization.proofs.Tracks.{upd-some, tallied, tally_of, call_of_lem, Tracks, Change, refuses, starts, goes, ends, drops}
use Rattle.history_linearization.proofs.MovesOne.{Onward, Dated, MovesOne, continues, last_one, ended-finished, last-withdrawn, dropped-withdrawn, moves_one}

-- a call that is alone was so before
pub alone-before : {t : ℕ} {b b' : Calls} → MovesOne 0 t b b' → (c d : Call) (n n' : ℕ) → c.start ≡ d.start → n ≤ n' → Alone b' d n' → Alone b c n
alone-before {b' = b'} m c d n n' s le alone e k h unequal q ne =
    go (alone r.0 r.1 r.2 (subst (λ (x : CallId). Unequal x.op) r.3.start unequal) (cc r.3.start) (λ z. ne (cc r.3.start)))
  where
    r : (f : Call) × (j : ℕ) × CallOf b' f j × Onward e f × (k ≤ 0 + j)
    r = continues m e k h

    go : (r.1 ≤ d.start.at) ⊎ (n' ≤ r.0.start.at) → (k ≤ c.start.at) ⊎ (n ≤ e.start.at)
    go (inl z) = inl (omega (arith, z, r.4, ap (λ (x : CallId). x.at) s))
    go (inr z) = inr (omega (arith, z, ap (λ (x : CallId). x.at) r.3.start))

-- two calls pending at n are not apart
never_apart : {n k m : ℕ} → k ≤ n → m ≤ n → (suc n ≤ k) ⊎ (suc n ≤ m) → ⊥
never_apart h i (inl z) = omega arith
never_apart h i (inr z) = omega arith

-- who begins alone finds no swap of unequal values pending on its cell
pub alone_free : {S : Type 0} (doing : S → ℕ → Option Tally) (s : S) (b : Calls) → Tracks doing s b → Dated b → (t : ℕ) (op : Op) → b.pending t ≡ none →
    let b' = enter b (begin t op) (accepted untried) in Alone b' (called b t op) b'.now → Free doing s (cell_of op)
alone_free doing s b same dated t op idle l w n i u y =
    let e = call_of_lem (b.pending w) n (sym (same w) ∙ i) in
    let z = (dated.past w e.0 e.1).0 in
    let on = upd_off b.pending t (some (called b t op)) w (λ q. clash (ap b.pending q ∙ idle) e.1) ∙ e.1 in
    never_apart (omega arith) (omega arith) (l e.0 (suc b.now) (pending w e.0 on)
    (subst (λ (n : Tally). Unequal n.op) (sym e.2) u) (ap (λ (n : Tally). cell_of n.op) e.2 ∙ y) (λ q. omega arith))

module _ {S : Type 0} (machine : S → Action → S × Event) (start : S) (ready : S → Op → Type 0) (doing : S → ℕ → Option Tally) (Quiet : S → ℕ → Type 0) where
  -- the call began at a cell that was ready for it, and is alone until n
  abbrev pub Calm : Calls → Call → ℕ → Type 0
  Calm b c n = ready (run machine start c.start.before) c.start.op × Alone b c n

  pub record AllQuiet (s : S) (b : Calls) : Type 0 where
    pub quiet : (t : ℕ) (c : Call) → b.pending t ≡ some c → Calm b c b.now → Quiet s t × (attempts c ≡ 0)
    pub past : (f : FinishedCall) → f ∈ b.finished → Calm b f.call f.call.last → attempts f.call ≡ 0
    pub gone : (w : WithdrawnCall) → w ∈ b.withdrawn → Calm b w.call w.end → attempts w.call ≡ 0

  pub no_hardware : {s : S} {b : Calls} → AllQuiet s b → (c : Call) (n : ℕ) → CallOf b c n → ready (run machine start c.start.before) c.start.op → Alone b c n → attempts c ≡ 0
  no_hardware G c n (finished f i) a l = G.past f i (a, l)
  no_hardware G c n (pending t d h) a l = (G.quiet t c h (a, l)).1
  no_hardware G c n (withdrawn w i) a l = G.gone w i (a, l)

  module _ (s s' : S) (b : Calls) (G : AllQuiet s b) (same : Tracks doing s b) (dated : Dated b) where
    module _ {a : Action} {e : Event} (k : Change s s' b a e) where
      -- calm after the action, a call was quiet before it
      was_quiet : (u : ℕ) (c d : Call) (n : ℕ) → b.pending u ≡ some c → c.start ≡ d.start → b.now ≤ n → Calm (enter b a e) d n → Quiet s u × (attempts c ≡ 0)
      was_quiet u c d n h q le (r, l) =
          G.quiet u c h (subst (λ (s : CallId). ready (run machine start s.before) s.op) (sym q) r, alone-before (moves_one b dated k) c d b.now n q le l)

      was_past : (f : FinishedCall) → f ∈ b.finished → Calm (enter b a e) f.call f.call.last → attempts f.call ≡ 0
      was_past f i (r, l) = G.past f i (r, alone-before (moves_one b dated k) f.call f.call f.call.last f.call.last refl (omega arith) l)

      was_gone : (w : WithdrawnCall) → w ∈ b.withdrawn → Calm (enter b a e) w.call w.end → attempts w.call ≡ 0
      was_gone w i (r, l) = G.gone w i (r, alone-before (moves_one b dated k) w.call w.call w.end w.end refl (omega arith) l)

    -- the stepper's call has made no attempt
    no_attempt : (t : ℕ) (x : Attempt) {e : Event} (k : Change s s' b (step t) e) (c : Call) (n : ℕ) → b.pending t ≡ some c → b.now ≤ n → QuietSteps doing ready Quiet s s' t x →
        Calm (enter b (step t) e) (advance b x c) n → Quiet s t × (attempts (advance b x c) ≡ 0)
    no_attempt t x k c n busy le p l = let r = was_quiet k t c (advance b x c) n busy refl le l in (r.0, rw (p.no_attempt r.0) (omega (arith, r.1)))

    -- another task's call stays as it was
    other_quiet : (t : ℕ) (x : Attempt) {e : Event} (k : Change s s' b (step t) e) → QuietSteps doing ready Quiet s s' t x → Tracks doing s' (enter b (step t) e) → (u : ℕ) (d : Call) →
        (enter b (step t) e).pending u ≡ some d → b.pending u ≡ some d → Calm (enter b (step t) e) d (suc b.now) → Quiet s' u × (attempts d ≡ 0)
    other_quiet t x k p same' u d i h l = let w = was_quiet k u d d (suc b.now) h refl (omega arith) l in (p.kept u (tallied d) (same' u ∙ ap tally_of i) w.0, w.1)

    pub quiet_next : {a : Action} {e : Event} → Change s s' b a e → s ≡ run machine start b.accepted → Tracks doing s' (enter b a e) →
        Quietly doing ready Quiet s a s' e → AllQuiet s' (enter b a e)
    quiet_next (refuses {a} {r} z) reached same' p = record {
      quiet = λ t c h l. rw z (was_quiet (refuses {a = a} {r = r} z) t c c (suc b.now) h refl (omega arith) l);
      past = was_past (refuses {a = a} {r = r} z);
      gone = was_gone (refuses {a = a} {r = r} z);
    }
    quiet_next (starts {t} {op} {x} idle) reached same' p = record { quiet = λ u d h l. quiet u d l (upd-some b.pending t (some c0) u d h); past = was_past (starts {x = x} idle); gone = was_gone (starts {x = x} idle) }
      where
        c0 : Call
        c0 = called b t op

        b' : Calls
        b' = enter b (begin t op) (accepted untried)

        quiet : (u : ℕ) (d : Call) → Calm b' d b'.now → ((u ≡ t) × (some c0 ≡ some d)) ⊎ ((u ≢ t) × (b.pending u ≡ some d)) → Quiet s' u × (attempts d ≡ 0)
        quiet u d l (inl (q, h)) = rw q (subst (λ (d : Call). Calm b' d b'.now → Quiet s' t × (attempts d ≡ 0)) (some_inj {o = some c0} refl h) first l)
          where
            first : Calm b' c0 b'.now → Quiet s' t × (attempts c0 ≡ 0)
            first (r, l) = (p.new (rw reached r) (alone_free doing s b same dated t op idle l), refl)
        quiet u d (r, l) (inr (q, h)) =
            let w = was_quiet (starts {x = x} idle) u d d (suc b.now) h refl (omega arith) (r, l) in
            let z = (dated.past u d h).0 in (
              p.others u (tallied d) (same u ∙ ap tally_of h) (λ x y. never_apart (omega arith) (omega arith)
                  (l c0 b'.now (pending t c0 (upd_same b.pending t (some c0))) x y (λ q. omega arith))) w.0,
              w.1,
            )
    quiet_next (goes {t} {x} c busy) reached same' p =
        record { quiet = λ u d h l. quiet u d h l (upd-some b.pending t (advanced b x (b.pending t)) u d h); past = was_past (goes {x = x} c busy); gone = was_gone (goes {x = x} c busy) }
      where
        b' : Calls
        b' = enter b (step t) (accepted x)

        quiet : (u : ℕ) (d : Call) → b'.pending u ≡ some d → Calm b' d b'.now →
            ((u ≡ t) × (advanced b x (b.pending t) ≡ some d)) ⊎ ((u ≢ t) × (b.pending u ≡ some d)) → Quiet s' u × (attempts d ≡ 0)
        quiet u d h l (inl (q, i)) =
            let z : advance b x c ≡ d = some_inj (ap (advanced b x) busy) i in
            let w = no_attempt t x (goes {x = x} c busy) c (suc b.now) busy (omega arith) p (rw (← z) at l) in
            (p.kept u (tallied d) (same' u ∙ ap tally_of h) (rw q w.0), ap attempts (sym z) ∙ w.1)
        quiet u d h l (inr (q, i)) = other_quiet t x (goes c busy) p same' u d h i l
    quiet_next (ends {t} {x} {r} c busy p q) reached same' p' = record {
      quiet = λ u d i l. quiet u d i l (upd-some b.pending t none u d i);
      past = λ f i l. past f l (rw (ended-finished b dated t x c busy r) at i);
      gone = was_gone (ends {x = x} {r = r} c busy p q);
    }
      where
        b' : Calls
        b' = enter b (step t) (answered x r)

        k : Change s s' b (step t) (answered x r)
        k = ends c busy p q

        quiet : (u : ℕ) (d : Call) → b'.pending u ≡ some d → Calm b' d b'.now → ((u ≡ t) × (none ≡ some d)) ⊎ ((u ≢ t) × (b.pending u ≡ some d)) → Quiet s' u × (attempts d ≡ 0)
        quiet u d i l (inl (z, j)) = absurd (clash refl j)
        quiet u d i l (inr (z, j)) = other_quiet t x k p' same' u d i j l

        past : (f : FinishedCall) → Calm b' f.call f.call.last → f ∈ (last_one b dated t x c busy r ∷ b.finished) → attempts f.call ≡ 0
        past f l (inl z) = rw z (no_attempt t x k c b.now busy (omega arith) p' (rw z at l)).1
        past f l (inr i) = was_past k f i l
    quiet_next (drops {t} {x} c busy) reached same' stays = record {
      quiet = λ u d i l. quiet u d i l (upd-some b.pending t none u d i);
      past = was_past (drops {x = x} c busy);
      gone = λ w i l. gone w l (rw (dropped-withdrawn b dated t x c busy) at i);
    }
      where
        b' : Calls
        b' = enter b (drop t) (accepted x)

        k : Change s s' b (drop t) (accepted x)
        k = drops c busy

        quiet : (u : ℕ) (d : Call) → b'.pending u ≡ some d → Calm b' d b'.now → ((u ≡ t) × (none ≡ some d)) ⊎ ((u ≢ t) × (b.pending u ≡ some d)) → Quiet s' u × (attempts d ≡ 0)
        quiet u d i l (inl (z, j)) = absurd (clash refl j)
        quiet u d i l (inr (z, j)) = let w = was_quiet k u d d (suc b.now) j refl (omega arith) l in (stays u (tallied d) (same' u ∙ ap tally_of i) w.0, w.1)

        gone : (w : WithdrawnCall) → Calm b' w.call w.end → w ∈ (last-withdrawn b dated t x c busy ∷ b.withdrawn) → attempts w.call ≡ 0
        gone w l (inl z) = rw z (was_quiet k t c c b.now busy refl (omega arith) (rw z at l)).1
        gone w l (inr i) = was_gone k w i l
