-- An action moves the call of one task at most, and every call goes on: with the same begin, its last step and its end no earlier.
use mathlib.Core.Path.{◌≡◌, refl, sym, ap, ◌∙◌, subst}
use mathlib.Core.Logic.{◌≢◌, ◌⊎◌, inl, inr}
use mathlib.Core.Option.{none, some}
use mathlib.Core.List.{◌∷◌}
use Prim.Native.Nat.{ℕ, suc, ◌+◌, ◌≤◌, ◌<◌}
use native.Mathlib.Omega.{arith}
use Rattle.history_spec.specs.Basics.{◌∈◌}
use Rattle.history_spec.specs.History.{Op, Action, begin, step, drop, task_of, Attempt, untried, Event, refused, accepted, answered, Report, CallId, Call, FinishedCall, WithdrawnCall, Calls, called, advance, advanced, closed, also_withdrawn, enter}
use Rattle.history_spec.specs.History.{CallOf, finished, pending, withdrawn}
use Rattle.history_spec.proofs.Basics.{either, upd_same, upd_off, clash, some_inj}
use Rattle.history_linearization.proofs.Tracks.{Change, refuses, starts, goes, ends, drops}

-- a call and the same call later
pub record Onward (c d : Call) : Type 0 where
  pub start : c.start ≡ d.start
  pub last : c.last ≤ d.last

pub onward : (c : Call) → Onward c c
onward c = record { start = refl; last = omega arith }

-- every call of b goes on in b', and ends at most so much earlier
abbrev pub Continues : ℕ → Calls → Calls → Type 0
Continues slack b b' = (c : Call) (n : ℕ) → CallOf b c n → (d : Call) × (m : ℕ) × CallOf b' d m × Onward c d × (n ≤ slack + m)

-- no moment of a pending call is to come, and no two calls have the same begin
pub record Dated (b : Calls) : Type 0 where
  pub past : (t : ℕ) (c : Call) → b.pending t ≡ some c → (c.start.at < b.now) × (c.last < b.now)
  pub distinct : (t u : ℕ) (c d : Call) → b.pending t ≡ some c → b.pending u ≡ some d → c.start.at ≡ d.start.at → t ≡ u

-- task t's pending call d was pending before, or it begins now
abbrev pub From : Calls → ℕ → Call → Type 0
From b t d = ((c : Call) × (b.pending t ≡ some c) × Onward c d) ⊎ ((b.pending t ≡ none) × (d.start.at ≡ b.now))

-- only task t's call moves
pub record MovesOne (slack t : ℕ) (b b' : Calls) : Type 0 where
  pub later : b.now ≤ b'.now
  pub others : (u : ℕ) → u ≢ t → b'.pending u ≡ b.pending u
  pub kept : (f : FinishedCall) → f ∈ b.finished → f ∈ b'.finished
  pub kept-withdrawn : (w : WithdrawnCall) → w ∈ b.withdrawn → w ∈ b'.withdrawn
  pub on : (c : Call) → b.pending t ≡ some c → (d : Call) × (m : ℕ) × CallOf b' d m × Onward c d × (b.now ≤ slack + m)
  pub from : (d : Call) → b'.pending t ≡ some d → (d.start.at < b'.now) × (d.last < b'.now) × From b t d

module _ {slack t : ℕ} {b b' : Calls} (m : MovesOne slack t b b') where
  pub continues : Continues slack b b'
  continues c n (finished f i) = (f.call, f.call.last, finished f (m.kept f i), onward f.call, omega arith)
  continues c n (withdrawn w i) = (w.call, w.end, withdrawn w (m.kept-withdrawn w i), onward w.call, omega arith)
  continues c n (pending u d h) = go (either u t)
    where
      go : (u ≡ t) ⊎ (u ≢ t) → (d : Call) × (k : ℕ) × CallOf b' d k × Onward c d × (b.now ≤ slack + k)
      go (inl e) = m.on c (subst (λ n. b.pending n ≡ some c) e h)
      go (inr n) = (c, b'.now, pending u c (m.others u n ∙ h), onward c, omega (arith, m.later))

  pub from_where : (u : ℕ) (d : Call) → b'.pending u ≡ some d → From b u d
  from_where u d h = go (either u t)
    where
      go : (u ≡ t) ⊎ (u ≢ t) → From b u d
      go (inl e) = subst (λ n. From b n d) (sym e) (m.from d (subst (λ n. b'.pending n ≡ some d) e h)).2
      go (inr n) = inl (d, sym (m.others u n) ∙ h, onward d)

  -- a call pending before and after is the same call
  pub same-begin : (u : ℕ) (c d : Call) → b.pending u ≡ some c → b'.pending u ≡ some d → c.start ≡ d.start
  same-begin u c d h i = go (from_where u d i)
    where
      go : From b u d → c.start ≡ d.start
      go (inl (p, j, o)) = ap (λ (c : Call). c.start) (some_inj h j) ∙ o.start
      go (inr (j, e)) = absurd (clash j h)

  pub dated_on : Dated b → Dated b'
  dated_on k = record { past = past; distinct = distinct }
    where
      past : (u : ℕ) (d : Call) → b'.pending u ≡ some d → (d.start.at < b'.now) × (d.last < b'.now)
      past u d h = go (either u t)
        where
          go : (u ≡ t) ⊎ (u ≢ t) → (d.start.at < b'.now) × (d.last < b'.now)
          go (inl e) = let p = m.from d (subst (λ n. b'.pending n ≡ some d) e h) in (p.0, p.1)
          go (inr n) = omega (arith, k.past u d (sym (m.others u n) ∙ h), m.later)

      distinct : (u w : ℕ) (d e : Call) → b'.pending u ≡ some d → b'.pending w ≡ some e → d.start.at ≡ e.start.at → u ≡ w
      distinct u w d e h i q = go (from_where u d h) (from_where w e i)
        where
          moment : {c d : Call} → Onward c d → c.start.at ≡ d.start.at
          moment o = ap (λ (s : CallId). s.at) o.start

          only : (w : ℕ) (e : Call) → b'.pending w ≡ some e → b.pending w ≡ none → w ≡ t
          only w e i n = one (either w t)
            where
              one : (w ≡ t) ⊎ (w ≢ t) → w ≡ t
              one (inl z) = z
              one (inr z) = absurd (clash n (sym (m.others w z) ∙ i))

          go : From b u d → From b w e → u ≡ w
          go (inl (c, j, o)) (inl (f, l, p)) = k.distinct u w c f j l (moment o ∙ (q ∙ sym (moment p)))
          go (inl (c, j, o)) (inr (l, z)) = absurd (omega (arith, k.past u c j, moment o))
          go (inr (j, z)) (inl (f, l, p)) = absurd (omega (arith, k.past w f l, moment p))
          go (inr (j, z)) (inr (l, y)) = only u d h j ∙ sym (only w e i l)

-- WHAT THE ACTIONS MOVE

module _ (b : Calls) (dated : Dated b) where
  -- a call becomes longer by a step
  module _ (t : ℕ) (x : Attempt) (c : Call) (busy : b.pending t ≡ some c) where
    pub steps_on_lem : Onward c (advance b x c)
    steps_on_lem = record { start = refl; last = omega (arith, (dated.past t c busy).1) }

    pub going_pending : (enter b (step t) (accepted x)).pending t ≡ some (advance b x c)
    going_pending = upd_same b.pending t (advanced b x (b.pending t)) ∙ ap (advanced b x) busy

    pub goes_on : MovesOne 0 t b (enter b (step t) (accepted x))
    goes_on = record {
      later = omega arith;
      others = upd_off b.pending t (advanced b x (b.pending t));
      kept = λ f i. i;
      kept-withdrawn = λ w i. i;
      on = λ e h. (advance b x c, suc b.now, pending t (advance b x c) going_pending, rw (some_inj h busy) steps_on_lem, omega arith);
      from = λ d h. rw (some_inj h going_pending) (omega (arith, (dated.past t c busy).0), omega arith, inl (c, busy, steps_on_lem));
    }

    module _ (r : Report) where
      abbrev pub last_one : FinishedCall
      last_one = record { call = advance b x c; report = r }

      pub ended-finished : (enter b (step t) (answered x r)).finished ≡ last_one ∷ b.finished
      ended-finished = ap (λ o. closed (advanced b x o) r b.finished) busy

      pub ended-last : CallOf (enter b (step t) (answered x r)) (advance b x c) b.now
      ended-last = finished last_one (rw ended-finished (inl refl))

      pub ended-idle : (d : Call) → (enter b (step t) (answered x r)).pending t ≡ some d → ⊥
      ended-idle d i = clash (upd_same b.pending t none) i

      ended-kept : (f : FinishedCall) → f ∈ b.finished → f ∈ (enter b (step t) (answered x r)).finished
      ended-kept f i = rw ended-finished (inr i)

      pub ends_on : MovesOne 0 t b (enter b (step t) (answered x r))
      ends_on = record {
        later = omega arith;
        others = upd_off b.pending t none;
        kept = ended-kept;
        kept-withdrawn = λ w i. i;
        on = λ e i. (advance b x c, b.now, ended-last, rw (some_inj i busy) steps_on_lem, omega arith);
        from = λ d i. absurd (ended-idle d i);
      }

      -- the last step as one more step after which the call leaves
      pub leaves : MovesOne 1 t (enter b (step t) (accepted x)) (enter b (step t) (answered x r))
      leaves = record {
        later = omega arith;
        others = λ u q. upd_off b.pending t none u q ∙ sym (upd_off b.pending t (advanced b x (b.pending t)) u q);
        kept = ended-kept;
        kept-withdrawn = λ w i. i;
        on = λ e i. (advance b x c, b.now, ended-last, rw (some_inj i going_pending) (onward (advance b x c)), omega arith);
        from = λ d i. absurd (ended-idle d i);
      }

  -- a call is withdrawn
  module _ (t : ℕ) (x : Attempt) (c : Call) (busy : b.pending t ≡ some c) where
    abbrev pub last-withdrawn : WithdrawnCall
    last-withdrawn = record { call = c; end = b.now }

    pub dropped-withdrawn : (enter b (drop t) (accepted x)).withdrawn ≡ last-withdrawn ∷ b.withdrawn
    dropped-withdrawn = ap (λ o. also_withdrawn o b.now b.withdrawn) busy

    pub drops_on : MovesOne 0 t b (enter b (drop t) (accepted x))
    drops_on = record {
      later = omega arith;
      others = upd_off b.pending t none;
      kept = λ f i. i;
      kept-withdrawn = λ w i. rw dropped-withdrawn (inr i);
      on = λ e h. (c, b.now, withdrawn last-withdrawn (rw dropped-withdrawn (inl refl)), rw (some_inj h busy) (onward c), omega arith);
      from = λ d i. absurd (clash (upd_same b.pending t none) i);
    }

  pub starts_on : (t : ℕ) (op : Op) → b.pending t ≡ none → MovesOne 0 t b (enter b (begin t op) (accepted untried))
  starts_on t op idle = record {
    later = omega arith;
    others = upd_off b.pending t (some (called b t op));
    kept = λ f i. i;
    kept-withdrawn = λ w i. i;
    on = λ c h. absurd (clash idle h);
    from = λ d h. rw (some_inj h (upd_same b.pending t (some (called b t op)))) (omega arith, omega arith, inr (idle, refl));
  }

  pub passes_on : (t : ℕ) → MovesOne 0 t b (enter b (step t) (refused 0))
  passes_on t = record {
    later = omega arith;
    others = λ u q. refl;
    kept = λ f i. i;
    kept-withdrawn = λ w i. i;
    on = λ c h. (c, suc b.now, pending t c h, onward c, omega arith);
    from = λ d h. let p = dated.past t d h in (omega arith, omega arith, inl (d, h, onward d));
  }

  pub moves_one : {S : Type 0} {s s' : S} {a : Action} {e : Event} → Change s s' b a e → MovesOne 0 (task_of a) b (enter b a e)
  moves_one (refuses {a} q) = passes_on (task_of a)
  moves_one (starts {t} {op} idle) = starts_on t op idle
  moves_one (goes {t} {x} c busy) = goes_on t x c busy
  moves_one (ends {t} {x} {r} c busy p q) = ends_on t x c busy r
  moves_one (drops {t} {x} c busy) = drops_on t x c busy
