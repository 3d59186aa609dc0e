-- A timeline from a forward simulation: every action keeps it, with what the pending calls have seen.
use mathlib.Core.Path.{◌≡◌, refl, sym, ap, ◌∙◌, subst}
use mathlib.Core.Logic.{◌≢◌, ◌⊎◌, inl, inr}
use mathlib.Core.Option.{Option, some}
use mathlib.Core.List.{List, [], ◌∷◌, ◌++◌}
use Prim.Native.Nat.{ℕ, suc, ◌+◌, ◌<◌}
use native.Mathlib.Omega.{arith}
use Rattle.history_spec.specs.History.{Op, cell_of, Action, begin, step, drop, untried, Event, refused, accepted, answered, Response, CallId, Call, Calls, no_calls, enter}
use Rattle.history_spec.specs.Moments.{Spot, Mark, mark_of, Names, beside}
use Rattle.history_spec.proofs.Basics.{clash, some_inj}
use Rattle.history_linearization.proofs.Simulation.{settled, Ghost, fresh, Knowledge, Move, shift, unplaced, parks, Tally, May, Sided, Grown, Why, Keeps, Moves, Parks, Forward, Simulation}
use Rattle.history_linearization.proofs.Tracks.{tallied, Acts, Change, refuses, starts, goes, ends, drops}
use Rattle.history_linearization.proofs.MovesOne.{Dated, MovesOne, same-begin, dated_on, goes_on, ends_on, starts_on, passes_on}
use Rattle.history_linearization.proofs.Parked.{Renumbers, comes_from, renumbered_dated}
use Rattle.history_linearization.proofs.Parking.{park_onto}
use Rattle.history_linearization.proofs.Kept.{cell_of_lem, Entry, of_finished, of_pending, Kept, settled_late}
use Rattle.history_linearization.proofs.Moves.{firm, Onto, Seen, knows, pass_onto, start_onto, go_onto, end_onto}

-- the action withdraws no call
abbrev pub Undropped : Action → Event → Type 0
Undropped (begin t op) e = Unit {0}
Undropped (step t) e = Unit {0}
Undropped (drop t) (refused n) = Unit {0}
Undropped (drop t) (accepted x) = ⊥
Undropped (drop t) (answered x r) = Unit {0}

module _ {S N : Type 0} {machine : S → Action → S × Event} {note : N → S → Action → Event → N} {names : Names (S × N)} {start : S} {blank : N} {ready : S → Op → Type 0} {tasks size : ℕ} {values : ℕ → ℕ}
    (M : Simulation machine note names start blank ready tasks size values) where
  abbrev X : Type 0
  X = S × N

  abbrev doing : X → ℕ → Option Tally
  doing = M.acting

  -- the mark of a call that the action ends
  abbrev pub end_marks : X → Calls → Action → Event → List Mark
  end_marks x b (begin t op) e = []
  end_marks x b (step t) (refused n) = []
  end_marks x b (step t) (accepted y) = []
  end_marks x b (step t) (answered y r) = mark_of (beside machine note) names (b.pending t) r.answer (names.ending x t r.answer)
  end_marks x b (drop t) e = []

  -- the machine's invariant holds, with the knowledge that the timeline gives
  pub record Simulated (x : X) (b : Calls) (ms : List Mark) : Type 1 where
    pub ghost : Ghost
    pub past : ℕ → ℕ → ℕ
    pub inv : M.Inv x ghost (knows b past (firm ghost b.now))
    pub kept : Kept values ghost b past (firm ghost b.now) ms
    pub clock : M.clock x ≡ b.now

  pub simulated_start : Simulated (start, blank) no_calls []
  simulated_start = record {
    ghost = fresh values;
    past = λ k n. values k;
    inv = M.opened (knows no_calls (λ k n. values k) (λ k. 0));
    clock = M.first-moment;
    kept = record {
      line = record { first = λ k. refl; right = λ e a i. absurd (nobody e a i); caused = λ k n. inl refl; single = λ e d a c i j. absurd (nobody e a i) };
      ends = λ k n h. refl;
      firmed = λ e a i. absurd (nobody e a i);
      bound = λ k. omega arith;
      marked = tt;
      stands = λ t c h p. absurd p;
      lates = λ k u h. settled_late refl h;
    };
  }
    where
      nobody : (e : _) (a : Response) → Entry (fresh values).placed (fresh values).when no_calls.pending [] e a → ⊥
      nobody e a (of_finished m i) = i
      nobody e a (of_pending t c h p) = p

  module _ (s s' : X) (b : Calls) (ms : List Mark) (G : Simulated s b ms) (same : Acts doing s b) (dated : Dated b) (tick : M.clock s' ≡ suc (M.clock s)) where
    abbrev g : Ghost
    g = G.ghost

    abbrev was : ℕ → ℕ
    was = firm g b.now

    abbrev known : Knowledge
    known = knows b G.past was

    -- what was known is known after an action, and in settled cells the value now
    finish : {t : ℕ} (b' : Calls) (m : MovesOne 0 t b b') → b'.now ≡ suc b.now → Acts doing s' b' → (g' : Ghost) (ms' : List Mark) → Onto values g' b' G.past was ms' →
        Keeps doing M.clock names tasks M.Inv s s' g' known → Simulated s' b' ms'
    finish b' m now same' g' ms' o keeps = record {
      ghost = g';
      past = o.later;
      inv = keeps known' (record { saw = saw; early = early; sees = sees; fresh_early = fresh_early });
      kept = o.kept;
      clock = tick ∙ ap suc G.clock ∙ sym now;
    }
      where
        known' : Knowledge
        known' = knows b' o.later (firm g' b'.now)

        call-now : (u : ℕ) (n : Tally) → doing s' u ≡ some n → (d : Call) × (b'.pending u ≡ some d) × (tallied d ≡ n)
        call-now u n h = same' u n h

        saw : (u : ℕ) (n n' : Tally) → doing s u ≡ some n → doing s' u ≡ some n' → (i v : ℕ) → known.saw u i v → known'.saw u i v
        saw u n n' h h' i v (c, j, p) =
            let d = call-now u n' h' in
            let k = cell_of_lem c in (
              d.0,
              d.1,
              subst (λ (r : CallId). Seen o.later (firm g' b'.now) r i v) (same-begin m u c d.0 j d.1)
                  (record { after-begin = p.after-begin; is_firm = omega (arith, p.is_firm, o.up k); at = o.stays k (suc i) (omega (arith, p.is_firm)) ∙ p.at }),
            )

        early : (u : ℕ) (n n' : Tally) → doing s u ≡ some n → doing s' u ≡ some n' → known.early u → known'.early u
        early u n n' h h' (c, j, p) =
            let d = call-now u n' h' in
            (d.0, d.1, subst (λ (r : CallId). r.at < firm g' b'.now (cell_of r.op)) (same-begin m u c d.0 j d.1) (omega (arith, o.up (cell_of_lem c))))

        sees : (u : ℕ) (n n' : Tally) → doing s u ≡ some n → doing s' u ≡ some n' → g'.phase (cell_of n'.op) ≡ settled → known'.saw u (M.clock s) (g'.cells (cell_of n'.op))
        sees u n n' h h' f = rw G.clock
            (let c = same u n h in
            let d = call-now u n' h' in
            let q = ap (λ (r : CallId). r.at) (same-begin m u c.0 d.0 c.1 d.1) in
            let e = ap (λ (n : Tally). cell_of n.op) d.2 in
            let k = o.kept.bound (cell_of_lem d.0) in (
              d.0,
              d.1,
              record { after-begin = omega (arith, (dated.past u c.0 c.1).0); is_firm = rw (e, f) (omega arith); at = o.kept.ends (cell_of_lem d.0) (suc b.now) (omega arith) ∙ ap g'.cells e },
            ))

        fresh_early : (u : ℕ) (n' : Tally) → doing s' u ≡ some n' → g'.phase (cell_of n'.op) ≡ settled → known'.early u
        fresh_early u n' h' f =
            let d = call-now u n' h' in
            let e = ap (λ (n : Tally). cell_of n.op) d.2 in
            (d.0, d.1, rw (e, f) ((dated_on m dated).past u d.0 d.1).0)

    -- the move that the machine's proof names, of the call that the history has
    is : (t : ℕ) (c : Call) → b.pending t ≡ some c → (v : Moves doing M.clock names tasks M.Inv s s' g known t) → v.now ≡ tallied c
    is t c busy v = let d = same t v.now v.was in sym d.2 ∙ ap tallied (some_inj d.1 busy)

    may : (t : ℕ) (c : Call) (busy : b.pending t ≡ some c) (v : Moves doing M.clock names tasks M.Inv s s' g known t) → May doing s g known t c.start.op v.move
    may t c busy v = subst (λ (n : Tally). May doing s g known t n.op v.move) (is t c busy v) v.may

    keeps : (t : ℕ) (c : Call) (busy : b.pending t ≡ some c) (v : Moves doing M.clock names tasks M.Inv s s' g known t) → Keeps doing M.clock names tasks M.Inv s s' (shift g b.now t c.start.op v.move) known
    keeps t c busy v = subst (λ n. Keeps doing M.clock names tasks M.Inv s s' (shift g n t c.start.op v.move) known) G.clock
        (subst (λ (n : Tally). Keeps doing M.clock names tasks M.Inv s s' (shift g (M.clock s) t n.op v.move) known) (is t c busy v) v.keeps)

    refusing : Acts doing s' (enter b (step 0) (refused 0)) → Keeps doing M.clock names tasks M.Inv s s' g known → Simulated s' (enter b (step 0) (refused 0)) ms
    refusing same' f = finish (enter b (step 0) (refused 0)) (passes_on b dated 0) refl same' g ms (pass_onto g G.kept dated) f

    abbrev marks-after : Action → Event → List Mark
    marks-after a e = end_marks s b a e ++ ms

    pub simulated_drop : (t u : ℕ) (c : Call) (b' : Calls) → Renumbers t u c b b' → u ≡ tasks + b.now → Acts doing s' b' → Parks doing M.clock names tasks M.Inv s s' g known t → Simulated s' b' ms
    simulated_drop t u c b' m e same' f = record {
      ghost = parks g t u;
      past = o.later;
      inv = subst (λ n. M.Inv s' (parks g t n) known') (sym number) (f known' (subst (λ n. Grown doing M.clock names s s' (parks g t n) known known') number (record { saw = saw; early = early; sees = sees; fresh_early = fresh_early }))
          (record { saw = λ i v (d, j, p). (c, subst (λ n. b'.pending n ≡ some c) number m.parked, is_mine d j i v p); early = λ (d, j, p). (c, subst (λ n. b'.pending n ≡ some c) number m.parked, early_mine d j p) }));
      kept = o.kept;
      clock = tick ∙ ap suc G.clock ∙ sym m.later;
    }
      where
        o : Onto values (parks g t u) b' G.past was ms
        o = park_onto g G.kept m

        known' : Knowledge
        known' = knows b' o.later (firm (parks g t u) b'.now)

        number : u ≡ tasks + M.clock s
        number = e ∙ ap (λ n. tasks + n) (sym G.clock)

        later : (r : CallId) (i v : ℕ) → Seen G.past was r i v → Seen o.later (firm (parks g t u) b'.now) r i v
        later r i v p = record { after-begin = p.after-begin; is_firm = omega (arith, p.is_firm, o.up (cell_of r.op)); at = o.stays (cell_of r.op) (suc i) (omega (arith, p.is_firm)) ∙ p.at }

        is_mine : (d : Call) → b.pending t ≡ some d → (i v : ℕ) → Seen G.past was d.start i v → Seen o.later (firm (parks g t u) b'.now) c.start i v
        is_mine d j i v p = later c.start i v (subst (λ (d : Call). Seen G.past was d.start i v) (some_inj j m.was) p)

        early_mine : (d : Call) → b.pending t ≡ some d → d.start.at < was (cell_of_lem d) → c.start.at < firm (parks g t u) b'.now (cell_of_lem c)
        early_mine d j p = let q = subst (λ (d : Call). d.start.at < was (cell_of_lem d)) (some_inj j m.was) p in omega (arith, o.up (cell_of_lem c))

        -- a call that is pending before and after is the same call
        same-call : (v : ℕ) (d d' : Call) → b.pending v ≡ some d → b'.pending v ≡ some d' → d ≡ d'
        same-call v d d' h i = go (comes_from m v d' i)
          where
            go : ((v ≡ u) × (c ≡ d')) ⊎ ((v ≢ u) × (v ≢ t) × (b.pending v ≡ some d')) → d ≡ d'
            go (inl (q, z)) = absurd (clash m.free (subst (λ n. b.pending n ≡ some d) q h))
            go (inr (n, k, j)) = some_inj h j

        saw : (v : ℕ) (n n' : Tally) → doing s v ≡ some n → doing s' v ≡ some n' → (i x : ℕ) → known.saw v i x → known'.saw v i x
        saw v n n' h h' i x (d, j, p) = let d' = same' v n' h' in (d'.0, d'.1, later d'.0.start i x (subst (λ (d : Call). Seen G.past was d.start i x) (same-call v d d'.0 j d'.1) p))

        early : (v : ℕ) (n n' : Tally) → doing s v ≡ some n → doing s' v ≡ some n' → known.early v → known'.early v
        early v n n' h h' (d, j, p) =
            let d' = same' v n' h' in
            (d'.0, d'.1, let q = subst (λ (d : Call). d.start.at < was (cell_of_lem d)) (same-call v d d'.0 j d'.1) p in omega (arith, o.up (cell_of_lem d'.0)))

        sees : (v : ℕ) (n n' : Tally) → doing s v ≡ some n → doing s' v ≡ some n' → (parks g t u).phase (cell_of n'.op) ≡ settled → known'.saw v (M.clock s) ((parks g t u).cells (cell_of n'.op))
        sees v n n' h h' f = rw G.clock
            (let d = same v n h in
            let d' = same' v n' h' in
            let q = ap (λ (d : Call). d.start.at) (same-call v d.0 d'.0 d.1 d'.1) in
            let z = ap (λ (n : Tally). cell_of n.op) d'.2 in
            let y = o.kept.bound (cell_of_lem d'.0) in (
              d'.0,
              d'.1,
              record { after-begin = omega (arith, (dated.past v d.0 d.1).0); is_firm = rw (z, f) (omega (arith, m.later)); at = o.kept.ends (cell_of_lem d'.0) (suc b.now) (omega (arith, m.later)) ∙ ap g.cells z },
            ))

        fresh_early : (v : ℕ) (n' : Tally) → doing s' v ≡ some n' → (parks g t u).phase (cell_of n'.op) ≡ settled → known'.early v
        fresh_early v n' h' f =
            let d' = same' v n' h' in
            let z = ap (λ (n : Tally). cell_of n.op) d'.2 in
            (d'.0, d'.1, rw (z, f) ((renumbered_dated m dated).past v d'.0 d'.1).0)

    pub simulated_next : {a : Action} {e : Event} → Undropped a e → Change s.0 s'.0 b a e → Acts doing s' (enter b a e) → Forward doing M.clock names tasks M.Inv s g known a s' e → Simulated s' (enter b a e) (marks-after a e)
    simulated_next {a = begin t op} z (refuses q) same' f = refusing same' f
    simulated_next {a = step t} z (refuses q) same' f = refusing same' f
    simulated_next {a = drop t} z (refuses q) same' f = refusing same' f
    simulated_next z (starts {t} {op} idle) same' f = finish (enter b (begin t op) (accepted untried)) (starts_on b dated t op idle) refl same' (unplaced g t) ms (start_onto g G.kept dated t op idle) f
    simulated_next z (goes {t} {x} c busy) same' f = finish (enter b (step t) (accepted x)) (goes_on b dated t x c busy) refl same' (shift g b.now t c.start.op f.move) ms
        (go_onto g G.kept dated doing s same t x c busy f.move (may t c busy f)) (keeps t c busy f)
    simulated_next z (drops c busy) same' f = absurd z
    simulated_next z (ends {t} {x} {r} c busy p q) same' f = subst (λ l. Simulated s' (enter b (step t) (answered x r)) (l ++ ms)) (sym (ap (λ o. mark_of (beside machine note) names o r.answer spot) busy))
        (finish (enter b (step t) (answered x r)) (ends_on b dated t x c busy r) refl same' (shift g b.now t c.start.op mv) (record { spot = spot; call = c.start; answer = r.answer } ∷ ms)
        (end_onto g G.kept dated doing s same t x c busy r spot (subst (λ (n : Tally). Sided n.op r.answer spot) tally f.sided) doing M.clock names s G.clock mv (may t c busy f.moves)
        (subst (λ (n : Tally). Why doing M.clock names s g known t n.op r.answer spot.moment mv) tally f.why)) (keeps t c busy f.moves))
      where
        spot : Spot
        spot = names.ending s t r.answer

        mv : Move
        mv = f.moves.move

        tally : f.moves.now ≡ tallied c
        tally = is t c busy f.moves
