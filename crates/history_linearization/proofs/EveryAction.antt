-- One induction over the actions, with all that demand 3's clauses need, and the marks that were made on the way.
use mathlib.Core.Path.{◌≡◌, refl, sym, ap, ◌∙◌, subst}
use mathlib.Core.Logic.{◌≢◌, ◌⊎◌, inl, inr}
use mathlib.Core.Option.{none, some}
use mathlib.Core.List.{List, [], ◌∷◌, ◌++◌}
use Prim.Native.Nat.{ℕ, suc, ◌+◌, ◌<◌}
use native.Mathlib.Omega.{arith}
use Rattle.history_spec.specs.Basics.{◌∈◌}
use Rattle.history_spec.specs.History.{Op, Action, begin, step, drop, Attempt, Event, accepted, history, run, Call, Calls, no_calls, enter, enter_all, WellFormed}
use Rattle.history_spec.specs.Moments.{Mark, Names, withdrawn_at, beside, mark_of, marked, pending_marks, marks}
use Rattle.history_spec.proofs.Basics.{clash, some_inj}
use Rattle.history_linearization.proofs.Simulation.{Knowledge, Tally, Forward, Simulation}
use Rattle.history_linearization.proofs.Tracks.{tallied, tally_of, call_of_lem, Tracks, Acts, Change, refuses, starts, goes, ends, drops, Tracked, tracked}
use Rattle.history_linearization.proofs.MovesOne.{Dated, dropped-withdrawn, dated_on, moves_one}
use Rattle.history_linearization.proofs.Counts.{Within, AllEnded, ended-next, AllWithdrawn, withdrawn-next}
use Rattle.history_linearization.proofs.Distinct.{call_begins, drop_begins, Distinct, distinct_next}
use Rattle.history_linearization.proofs.Parked.{Ordered, ordered-later, everyone, with_parked, task-is, parked_is, task_or_parked, enter-begin, enter_step, enter-end, Renumbers, goes_to, renumbered_dated, renumbers}
use Rattle.history_linearization.proofs.Moves.{firm, knows}
use Rattle.history_linearization.proofs.Linearize.{end_marks, Undropped, Simulated, simulated_start, simulated_next, simulated_drop}
use Rattle.history_linearization.proofs.Kept.{same-begins}
use Rattle.history_linearization.proofs.Emitted.{Emits, emits_next}
use Rattle.history_linearization.proofs.NoHardware.{AllQuiet, quiet_next}

pub run-snoc : {S : Type 0} (act : S → Action → S × Event) (s : S) (l : List Action) (a : Action) → run act s (l ++ (a ∷ [])) ≡ (act (run act s l) a).0
run-snoc act s [] a = refl
run-snoc act s (x ∷ l) a = run-snoc act (act s x).0 l a

module _ {S N : Type 0} {machine : S → Action → S × Event} {note : N → S → Action → Event → N} {names : Names (S × N)} {start : S} {blank : N} {ready : S → Op → Type 0} {tasks size : ℕ} {values : ℕ → ℕ}
    (M : Simulation machine note names start blank ready tasks size values) where
  -- ms are the marks of the finished calls, es all that were made
  pub record Good (x : S × N) (b : Calls) (ms es : List Mark) : Type 1 where
    pub reached : x.0 ≡ run machine start b.accepted
    pub tracks : Tracks M.doing x.0 b
    pub dated : Dated b
    pub distinct : Distinct b
    pub ordered : Ordered b.withdrawn b.now
    pub ended : AllEnded b
    pub gone : AllWithdrawn b
    pub all_dated : Dated (with_parked tasks b)
    pub acts : Acts M.acting x (with_parked tasks b)
    pub simulated : Simulated M x (with_parked tasks b) ms
    pub emits : Emits (M.left x) b ms es
    pub quiet : AllQuiet machine start ready M.doing M.Quiet x.0 b

  nobody : (u : ℕ) → everyone tasks no_calls u ≡ none
  nobody u = go (task_or_parked tasks u)
    where
      go : (u < tasks) ⊎ ((n : ℕ) × (u ≡ tasks + n)) → everyone tasks no_calls u ≡ none
      go (inl h) = task-is tasks no_calls u h
      go (inr (n, e)) = ap (everyone tasks no_calls) e ∙ parked_is tasks no_calls n

  start-with : Simulated M (start, blank) (with_parked tasks no_calls) []
  start-with = subst (λ b. Simulated M (start, blank) b []) (λ i. record { now = 0; accepted = []; pending = λ u. sym (nobody u) i; finished = []; withdrawn = [] }) (simulated_start M)

  pub good_start : Good (start, blank) no_calls [] []
  good_start = record {
    reached = refl;
    tracks = M.idle;
    dated = record { past = λ t c h. absurd (clash refl h); distinct = λ t u c d h i q. absurd (clash refl h) };
    distinct = record { past = λ n i. absurd (none_there n i); once = tt; once-withdrawn = tt; apart = λ t c h i. none_there c.start.at i; apart_withdrawn = λ n i j. i };
    ordered = tt;
    ended = λ f i. absurd i;
    gone = λ w i. absurd i;
    all_dated = record { past = λ t c h. absurd (clash (nobody t) h); distinct = λ t u c d h i q. absurd (clash (nobody t) h) };
    acts = λ u n h. absurd (clash (M.none_acting u) h);
    simulated = start-with;
    emits = record { from = λ m i. absurd i; ended = λ m i. i; left = λ w i p z. i; once = tt; weighs = λ w z. refl };
    quiet = record { quiet = λ t c h l. absurd (clash refl h); past = λ f i l. absurd i; gone = λ w i l. absurd i };
  }
    where
      none_there : (n : ℕ) → (n ∈ call_begins []) ⊎ (n ∈ drop_begins []) → ⊥
      none_there n (inl i) = i
      none_there n (inr i) = i

  -- what the timeline gives
  abbrev known : (x : S × N) (b : Calls) (ms es : List Mark) → Good x b ms es → Knowledge
  known x b ms es G = knows (with_parked tasks b) G.simulated.past (firm G.simulated.ghost b.now)

  pub within : (x : S × N) (b : Calls) (ms es : List Mark) → Good x b ms es → Within b
  within x b ms es G t c h = let m = G.simulated in M.within x m.ghost (known x b ms es G) m.inv t (tallied c) (G.tracks t ∙ ap tally_of h)

  -- refused actions leave the state, so it is the one after the accepted actions
  one_more : {s : S} (l : List Action) (a : Action) → s ≡ run machine start l → (machine s a).0 ≡ run machine start (l ++ (a ∷ []))
  one_more l a r = ap (λ s. (machine s a).0) r ∙ sym (run-snoc machine start l a)

  reached-next : {s : S} {b : Calls} {a : Action} {e : Event} → Change s (machine s a).0 b a e → s ≡ run machine start b.accepted → (machine s a).0 ≡ run machine start (enter b a e).accepted
  reached-next (refuses q) r = q ∙ r
  reached-next {b = b} {a = a} (starts i) r = one_more b.accepted a r
  reached-next {b = b} {a = a} (goes c i) r = one_more b.accepted a r
  reached-next {b = b} {a = a} (ends c i p q) r = one_more b.accepted a r
  reached-next {b = b} {a = a} (drops c i) r = one_more b.accepted a r

  ordered-next : {s s' : S} {b : Calls} {a : Action} {e : Event} → Dated b → Change s s' b a e → Ordered b.withdrawn b.now → Ordered (enter b a e).withdrawn (enter b a e).now
  ordered-next {b = b} dated (refuses q) o = ordered-later b.withdrawn b.now (suc b.now) (omega arith) o
  ordered-next {b = b} dated (starts i) o = ordered-later b.withdrawn b.now (suc b.now) (omega arith) o
  ordered-next {b = b} dated (goes c i) o = ordered-later b.withdrawn b.now (suc b.now) (omega arith) o
  ordered-next {b = b} dated (ends c i p q) o = ordered-later b.withdrawn b.now (suc b.now) (omega arith) o
  ordered-next {b = b} dated (drops {t} {x} c i) o = rw (dropped-withdrawn b dated t x c i) (omega arith, o)

  -- WITH THE WITHDRAWN CALLS

  record Followed (x : S × N) (b : Calls) (ms : List Mark) : Type 1 where
    all_dated : Dated (with_parked tasks b)
    acts : Acts M.acting x (with_parked tasks b)
    simulated : Simulated M x (with_parked tasks b) ms

  module _ (x : S × N) (b : Calls) (ms es : List Mark) (G : Good x b ms es) where
    abbrev B : Calls
    B = with_parked tasks b

    abbrev m : Simulated M x B ms
    m = G.simulated

    abbrev Onward : Action → Event → Type 1
    Onward a e = Forward M.acting M.clock names tasks M.Inv x m.ghost (known x b ms es G) a (beside machine note x a).0 e

    abbrev After : Action → Event → Type 1
    After a e = Followed (beside machine note x a).0 (enter b a e) (end_marks M x b a e ++ ms)

    low : (t : ℕ) (c : Call) → b.pending t ≡ some c → t < tasks
    low t c h = M.low x m.ghost (known x b ms es G) m.inv t (tallied c) (G.tracks t ∙ ap tally_of h)

    module _ (a : Action) (e : Event) (is : (machine x.0 a).1 ≡ e) (tracks : Tracks M.doing (machine x.0 a).0 (enter b a e)) (forward : Onward a e) where
      abbrev b' : Calls
      b' = enter b a e

      abbrev x' : S × N
      x' = (beside machine note x a).0

      -- who acts under a task's number is that task's call
      task-acts : (u : ℕ) (n : Tally) → u < tasks → M.acting x' u ≡ some n → (c : Call) × (everyone tasks b' u ≡ some c) × (tallied c ≡ n)
      task-acts u n h i = let c = call_of_lem (b'.pending u) n (sym (tracks u) ∙ sym (M.present x m.ghost (known x b ms es G) m.inv a u h) ∙ i) in (c.0, task-is tasks b' u h ∙ c.1, c.2)

      acts-with : ((k : ℕ) (n : Tally) → M.acting x' (tasks + k) ≡ some n → (c : Call) × (everyone tasks b' (tasks + k) ≡ some c) × (tallied c ≡ n)) → Acts M.acting x' (with_parked tasks b')
      acts-with f u n i = go (task_or_parked tasks u)
        where
          go : (u < tasks) ⊎ ((k : ℕ) × (u ≡ tasks + k)) → (c : Call) × (everyone tasks b' u ≡ some c) × (tallied c ≡ n)
          go (inl h) = task-acts u n h i
          go (inr (k, z)) = subst (λ u. (c : Call) × (everyone tasks b' u ≡ some c) × (tallied c ≡ n)) (sym z) (f k n (subst (λ u. M.acting x' u ≡ some n) z i))

      -- an action that withdraws nothing
      stays : Undropped a e → Change x.0 (machine x.0 a).0 B a e → with_parked tasks b' ≡ enter B a e → end_marks M x B a e ≡ end_marks M x b a e → b'.withdrawn ≡ b.withdrawn → After a e
      stays z k enters alike same = record {
        all_dated = subst Dated (sym enters) (dated_on (moves_one B G.all_dated k) G.all_dated);
        acts = acts;
        simulated = subst (λ l. Simulated M x' (with_parked tasks b') (l ++ ms)) alike (subst (λ (b : Calls). Simulated M x' b (end_marks M x B a e ++ ms)) (sym enters)
            (simulated_next M x x' B ms m G.acts G.all_dated (M.next-moment x a) z k (subst (Acts M.acting x') enters acts) forward));
      }
        where
          undropped : (t : ℕ) (y : Attempt) → a ≡ drop t → e ≡ accepted y → ⊥
          undropped t y p q = subst (λ (e : Event). Undropped (drop t) e) q (subst (λ (a : Action). Undropped a e) p z)

          acts : Acts M.acting x' (with_parked tasks b')
          acts = acts-with (λ k n i. go k n (M.parked x m.ghost (known x b ms es G) m.inv a k n i))
            where
              go : (k : ℕ) (n : Tally) → (M.acting x (tasks + k) ≡ some n) ⊎ ((t : ℕ) × (y : Attempt) × (a ≡ drop t) × ((machine x.0 a).1 ≡ accepted y) × (k ≡ M.clock x) × (M.doing x.0 t ≡ some n)) →
                  (c : Call) × (everyone tasks b' (tasks + k) ≡ some c) × (tallied c ≡ n)
              go k n (inl i) = let c = G.acts (tasks + k) n i in (c.0, parked_is tasks b' k ∙ ap (λ l. withdrawn_at l k) same ∙ sym (parked_is tasks b k) ∙ c.1, c.2)
              go k n (inr (t, y, p, q, r, h)) = absurd (undropped t y p (sym is ∙ q))

  follow : (x : S × N) (b : Calls) (ms es : List Mark) (G : Good x b ms es) (a : Action) (e : Event) → (machine x.0 a).1 ≡ e → Tracks M.doing (machine x.0 a).0 (enter b a e) → Onward x b ms es G a e →
      Change x.0 (machine x.0 a).0 b a e → After x b ms es G a e
  unfolding everyone
  follow x b ms es G (begin u op) e is tracks forward (refuses q) = stays x b ms es G (begin u op) e is tracks forward tt (refuses q) refl refl refl
  follow x b ms es G (step u) e is tracks forward (refuses q) = stays x b ms es G (step u) e is tracks forward tt (refuses q) refl refl refl
  follow x b ms es G (drop u) e is tracks forward (refuses q) = stays x b ms es G (drop u) e is tracks forward tt (refuses q) refl refl refl
  follow x b ms es G a e is tracks forward (starts {t} {op} {x = y} idle) =
      let l = M.low-begin x G.simulated.ghost (known x b ms es G) G.simulated.inv t op y is in
      stays x b ms es G a e is tracks forward tt (starts (task-is tasks b t l ∙ idle)) (enter-begin tasks b t l op y) refl refl
  follow x b ms es G a e is tracks forward (goes {t} {x = y} c busy) =
      let l = low x b ms es G t c busy in
      stays x b ms es G a e is tracks forward tt (goes c (task-is tasks b t l ∙ busy)) (enter_step tasks b t l y c busy) refl refl
  follow x b ms es G a e is tracks forward (ends {t} {x = y} {r} c busy p q) =
      let l = low x b ms es G t c busy in
      stays x b ms es G a e is tracks forward tt (ends c (task-is tasks b t l ∙ busy) (record { kind = p.kind; cell = p.cell; steps = p.steps; won = p.won; lost = p.lost }) q) (enter-end tasks b t l y c busy r)
      (ap (λ o. mark_of (beside machine note) names o r.answer (names.ending x t r.answer)) (task-is tasks b t l)) refl
  follow x b ms es G a e is tracks forward (drops {t} {x = y} c busy) = record {
    all_dated = renumbered_dated d G.all_dated;
    acts = acts;
    simulated = simulated_drop M x (beside machine note x (drop t)).0 (with_parked tasks b) ms G.simulated G.acts G.all_dated (M.next-moment x (drop t)) t (tasks + b.now) c (with_parked tasks (enter b (drop t) (accepted y))) d refl acts forward;
  }
    where
      l : t < tasks
      l = low x b ms es G t c busy

      d : Renumbers t (tasks + b.now) c (with_parked tasks b) (with_parked tasks (enter b (drop t) (accepted y)))
      d = renumbers tasks b t y c l busy G.ordered

      acts : Acts M.acting (beside machine note x (drop t)).0 (with_parked tasks (enter b (drop t) (accepted y)))
      acts = acts-with x b ms es G (drop t) (accepted y) is tracks forward (λ k n i. go k n (M.parked x G.simulated.ghost (known x b ms es G) G.simulated.inv (drop t) k n i))
        where
          go : (k : ℕ) (n : Tally) → (M.acting x (tasks + k) ≡ some n) ⊎ ((u : ℕ) × (z : Attempt) × (drop t ≡ drop u) × ((machine x.0 (drop t)).1 ≡ accepted z) × (k ≡ M.clock x) × (M.doing x.0 u ≡ some n)) →
              (e : Call) × (everyone tasks (enter b (drop t) (accepted y)) (tasks + k) ≡ some e) × (tallied e ≡ n)
          go k n (inl i) = let e = G.acts (tasks + k) n i in (e.0, on (goes_to d (tasks + k) e.0 e.1), e.2)
            where
              on : {e : Call} → ((tasks + k ≡ t) × (c ≡ e)) ⊎ ((tasks + k ≢ tasks + b.now) × (tasks + k ≢ t) × (everyone tasks (enter b (drop t) (accepted y)) (tasks + k) ≡ some e)) → everyone tasks (enter b (drop t) (accepted y)) (tasks + k) ≡ some e
              on (inl (z, w)) = absurd (omega (arith, l))
              on (inr (z, w, h)) = h
          go k n (inr (u, z, p, q, r, h)) =
              let same : t ≡ u = cc in
              (c, subst (λ n. everyone tasks (enter b (drop t) (accepted y)) (tasks + n) ≡ some c) (sym (r ∙ G.simulated.clock)) d.parked, some_inj (sym (ap (M.doing x.0) same) ∙ (G.tracks t ∙ ap tally_of busy)) h)

  pub tracked_next : (x : S × N) (b : Calls) (ms es : List Mark) → Good x b ms es → (a : Action) → Tracked M.doing size x.0 (machine x.0 a).0 b a (machine x.0 a).1
  tracked_next x b ms es G a = let m = G.simulated in tracked M.doing size x.0 (machine x.0 a).0 b G.tracks a (machine x.0 a).1 (M.follows x m.ghost (known x b ms es G) m.inv a)

  pub good_next : (x : S × N) (b : Calls) (ms es : List Mark) → Good x b ms es → (a : Action) →
      Good (beside machine note x a).0 (enter b a (machine x.0 a).1) (end_marks M x b a (machine x.0 a).1 ++ ms) (marked (beside machine note) names x b a (machine x.0 a).1 ++ es)
  good_next x b ms es G a = let k = tracked_next x b ms es G a in record {
    reached = reached-next k.change G.reached;
    tracks = k.tracks;
    dated = dated_on (moves_one b G.dated k.change) G.dated;
    distinct = distinct_next G.dated G.distinct k.change;
    ordered = ordered-next G.dated k.change G.ordered;
    ended = ended-next G.dated (within x b ms es G) G.ended k.change;
    gone = withdrawn-next G.dated (within x b ms es G) G.gone k.change;
    all_dated = f.all_dated;
    acts = f.acts;
    simulated = f.simulated;
    emits = emits_next M x b G.dated G.distinct G.ordered ms es (same-begins b.finished ms m.kept.marked) (M.left x) (M.left (beside machine note x a).0) G.emits m.clock k.change (M.leaves x m.ghost (known x b ms es G) m.inv a);
    quiet = quiet_next machine start ready M.doing M.Quiet x.0 (machine x.0 a).0 b G.quiet G.tracks G.dated k.change G.reached k.tracks
        (M.quietly x m.ghost (known x b ms es G) m.inv a);
  }
    where
      m : Simulated M x (with_parked tasks b) ms
      m = G.simulated

      f : Followed (beside machine note x a).0 (enter b a (machine x.0 a).1) (end_marks M x b a (machine x.0 a).1 ++ ms)
      f = let k = tracked_next x b ms es G a in follow x b ms es G a (machine x.0 a).1 refl k.tracks (M.forward x m.ghost (known x b ms es G) m.inv a) k.change

  -- after all actions, what holds of the state that they lead to, with its notes; and the marks, those of the finished calls and all
  pub record AtEnd (x : S × N) (b : Calls) (es : List Mark) (l : List Action) : Type 1 where
    pub well_formed : WellFormed size b (history machine x.0 l)
    pub finished : List Mark
    pub emitted : List Mark
    pub good : Good (run (beside machine note) x l) (enter_all b (history machine x.0 l)) finished emitted
    pub all-marks : marks (beside machine note) names tasks x b es l ≡ pending_marks (beside machine note) names (run (beside machine note) x l) (enter_all b (history machine x.0 l)) tasks ++ emitted

  all : (l : List Action) (x : S × N) (b : Calls) (ms es : List Mark) → Good x b ms es → AtEnd x b es l
  all [] x b ms es G = record { well_formed = tt; finished = ms; emitted = es; good = G; all-marks = refl }
  all (a ∷ l) x b ms es G =
      let r = all l (beside machine note x a).0 (enter b a (machine x.0 a).1) (end_marks M x b a (machine x.0 a).1 ++ ms) (marked (beside machine note) names x b a (machine x.0 a).1 ++ es) (good_next x b ms es G a) in
      record { well_formed = ((tracked_next x b ms es G a).allowed, r.well_formed); finished = r.finished; emitted = r.emitted; good = r.good; all-marks = r.all-marks }

  pub at-end : (l : List Action) → AtEnd (start, blank) no_calls [] l
  at-end l = all l (start, blank) no_calls [] [] good_start
