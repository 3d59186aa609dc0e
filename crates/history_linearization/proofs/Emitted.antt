-- The marks that the actions make: those of the finished calls, and of the withdrawn ones that took effect, each once.
use mathlib.Core.Path.{◌≡◌, refl, sym, ap, subst, ◌∙◌}
use mathlib.Core.Logic.{◌≢◌, ◌⊎◌, inl, inr}
use mathlib.Core.Option.{Option, none, some}
use mathlib.Core.List.{List, ◌∷◌, ◌++◌}
use Prim.Native.Nat.{ℕ, ◌+◌}
use native.Mathlib.Omega.{arith}
use Rattle.history_spec.specs.Basics.{◌∈◌, Once}
use Rattle.history_spec.specs.History.{Op, Action, begin, step, drop, Event, refused, accepted, answered, Yes, Call, WithdrawnCall, Calls, enter, Response}
use Rattle.history_spec.specs.Moments.{Spot, Mark, Names, withdrawn_at, beside, mark_of, mark_of_pending, mark_of_landed, marked}
use Rattle.history_spec.proofs.Basics.{either, clash, some_inj}
use Rattle.history_linearization.proofs.Simulation.{Lands, Leaves, Simulation}
use Rattle.history_linearization.proofs.Tracks.{Change, refuses, starts, goes, ends, drops}
use Rattle.history_linearization.proofs.MovesOne.{Dated, last-withdrawn, dropped-withdrawn}
use Rattle.history_linearization.proofs.Distinct.{call_begins, drop_begins, Distinct}
use Rattle.history_linearization.proofs.Order.{begins, from_begins, to_begins, total}
use Rattle.history_linearization.proofs.Parked.{Ordered, is-there, was_there}
use Rattle.history_linearization.proofs.Linearize.{end_marks}

pub in_drops : (l : List WithdrawnCall) (w : WithdrawnCall) → w ∈ l → w.call.start.at ∈ drop_begins l
in_drops (v ∷ l) w (inl e) = inl (ap (λ (w : WithdrawnCall). w.call.start.at) e)
in_drops (v ∷ l) w (inr i) = inr (in_drops l w i)
in_drops mathlib.Core.List.[] w x' = elim x' [ ]

-- two that begin at the same moment are one
pub only_one : (l : List WithdrawnCall) → Once (drop_begins l) → (v w : WithdrawnCall) → v ∈ l → w ∈ l → v.call.start.at ≡ w.call.start.at → v ≡ w
only_one (x ∷ l) o v w (inl e) (inl f) q = e ∙ sym f
only_one (x ∷ l) o v w (inl e) (inr j) q = absurd (o.0 (subst (λ n. n ∈ drop_begins l) (sym (ap (λ (w : WithdrawnCall). w.call.start.at) (sym e) ∙ q)) (in_drops l w j)))
only_one (x ∷ l) o v w (inr i) (inl f) q = absurd (o.0 (subst (λ n. n ∈ drop_begins l) (q ∙ ap (λ (w : WithdrawnCall). w.call.start.at) f) (in_drops l v i)))
only_one (x ∷ l) o v w (inr i) (inr j) q = only_one l o.1 v w i j q
only_one mathlib.Core.List.[] o v w x4 _ q = elim x4 [ ]

abbrev pub mark_at : Call → Spot → Mark
mark_at c p = record { spot = p; call = c.start; answer = Yes }

abbrev pub weight : (Op → Response → ℕ) → List Mark → ℕ
weight w l = total (λ (m : Mark). w m.call.op m.answer) l

abbrev pub Weightless : (Op → Response → ℕ) → List WithdrawnCall → Type 0
Weightless w l = (v : WithdrawnCall) → v ∈ l → w v.call.start.op Yes ≡ 0

-- f says where the withdrawn calls stand
pub record Emits (f : ℕ → Option Spot) (b : Calls) (ms es : List Mark) : Type 0 where
  pub from : (m : Mark) → m ∈ es → (m ∈ ms) ⊎ ((w : WithdrawnCall) × (w ∈ b.withdrawn) × (p : Spot) × (f w.end ≡ some p) × (m ≡ mark_at w.call p))
  pub ended : (m : Mark) → m ∈ ms → m ∈ es
  pub left : (w : WithdrawnCall) → w ∈ b.withdrawn → (p : Spot) → f w.end ≡ some p → mark_at w.call p ∈ es
  pub once : Once (begins es)
  -- where withdrawn calls weigh nothing, the finished ones alone weigh
  pub weighs : (w : Op → Response → ℕ) → Weightless w b.withdrawn → weight w es ≡ weight w ms

module _ (b : Calls) (dated : Dated b) (distinct : Distinct b) (ordered : Ordered b.withdrawn b.now) (ms es : List Mark) (same : begins ms ≡ call_begins b.finished) (f : ℕ → Option Spot) (e : Emits f b ms es) where
  -- no mark is of a call that is pending, nor of a withdrawn one that stood nowhere
  unmarked : (n : ℕ) → (n ∈ call_begins b.finished → ⊥) → ((w : WithdrawnCall) → w ∈ b.withdrawn → n ≡ w.call.start.at → (p : Spot) → f w.end ≡ some p → ⊥) → n ∈ begins es → ⊥
  unmarked n h k i = let m = from_begins es n i in go m.0 m.2 (e.from m.0 m.1)
    where
      go : (m : Mark) → n ≡ m.call.at → (m ∈ ms) ⊎ ((w : WithdrawnCall) × (w ∈ b.withdrawn) × (p : Spot) × (f w.end ≡ some p) × (m ≡ mark_at w.call p)) → ⊥
      go m q (inl j) = h (subst (λ l. n ∈ l) same (subst (λ n. n ∈ begins ms) (sym q) (to_begins ms m j)))
      go m q (inr (w, j, p, z, r)) = k w j (q ∙ ap (λ (m : Mark). m.call.at) r) p z

  unmarked_pending : (t : ℕ) (c : Call) → b.pending t ≡ some c → c.start.at ∈ begins es → ⊥
  unmarked_pending t c h = unmarked c.start.at (λ i. distinct.apart t c h (inl i)) (λ w i q p z. distinct.apart t c h (inr (subst (λ n. n ∈ drop_begins b.withdrawn) (sym q) (in_drops b.withdrawn w i))))

  -- nothing is marked
  stays : (b' : Calls) (h : ℕ → Option Spot) → b'.withdrawn ≡ b.withdrawn → ((n : ℕ) → h n ≡ f n) → Emits h b' ms es
  stays b' h w l = record {
    from = λ m i. go m (e.from m i);
    ended = e.ended;
    left = λ v i p z. e.left v (rw w at i) p (sym (l v.end) ∙ z);
    once = e.once;
    weighs = λ g z. e.weighs g (λ v i. z v (rw w i));
  }
    where
      go : (m : Mark) → (m ∈ ms) ⊎ ((w : WithdrawnCall) × (w ∈ b.withdrawn) × (p : Spot) × (f w.end ≡ some p) × (m ≡ mark_at w.call p)) → (m ∈ ms) ⊎ ((w : WithdrawnCall) × (w ∈ b'.withdrawn) × (p : Spot) × (h w.end ≡ some p) × (m ≡ mark_at w.call p))
      go m (inl i) = inl i
      go m (inr (v, i, p, z, r)) = inr (v, rw w i, p, l v.end ∙ z, r)

  -- a call ends
  ends_there : (b' : Calls) (h : ℕ → Option Spot) → b'.withdrawn ≡ b.withdrawn → ((n : ℕ) → h n ≡ f n) → (x : Mark) → (x.call.at ∈ begins es → ⊥) → Emits h b' (x ∷ ms) (x ∷ es)
  ends_there b' h w l x n = let s = stays b' h w l in record {
    from = from;
    ended = ended;
    left = λ v i p z. inr (s.left v i p z);
    once = (n, e.once);
    weighs = λ g z. ap (λ n. g x.call.op x.answer + n) (s.weighs g z);
  }
    where
      old : (m : Mark) → (m ∈ ms) ⊎ ((w : WithdrawnCall) × (w ∈ b'.withdrawn) × (p : Spot) × (h w.end ≡ some p) × (m ≡ mark_at w.call p)) → (m ∈ (x ∷ ms)) ⊎ ((w : WithdrawnCall) × (w ∈ b'.withdrawn) × (p : Spot) × (h w.end ≡ some p) × (m ≡ mark_at w.call p))
      old m (inl i) = inl (inr i)
      old m (inr i) = inr i

      from : (m : Mark) → m ∈ (x ∷ es) → (m ∈ (x ∷ ms)) ⊎ ((w : WithdrawnCall) × (w ∈ b'.withdrawn) × (p : Spot) × (h w.end ≡ some p) × (m ≡ mark_at w.call p))
      from m (inl i) = inl (inl i)
      from m (inr i) = old m ((stays b' h w l).from m i)

      ended : (m : Mark) → m ∈ (x ∷ ms) → m ∈ (x ∷ es)
      ended m (inl i) = inl i
      ended m (inr i) = inr (e.ended m i)

  -- a withdrawn swap is marked: one that was withdrawn before, or now
  module _ (b' : Calls) (h : ℕ → Option Spot) (c : Call) (n : ℕ) (p : Spot) (here : h n ≡ some p) (others : (m : ℕ) → m ≢ n → h m ≡ f m) (its : (w : WithdrawnCall) → w ∈ b'.withdrawn → w.end ≡ n → w.call ≡ c)
      (now : (w : WithdrawnCall) × (w ∈ b'.withdrawn) × (w.end ≡ n) × (w.call ≡ c)) (was : (w : WithdrawnCall) → w ∈ b'.withdrawn → w.end ≢ n → w ∈ b.withdrawn) (will : (w : WithdrawnCall) → w ∈ b.withdrawn → w ∈ b'.withdrawn)
      (not_yet : (w : WithdrawnCall) → w ∈ b.withdrawn → w.end ≡ n → (q : Spot) → f w.end ≡ some q → ⊥) where
    lands-there : (c.start.at ∈ begins es → ⊥) → Emits h b' ms (mark_at c p ∷ es)
    lands-there u = record { from = from; ended = λ m i. inr (e.ended m i); left = λ w i q z. left w i q z (either w.end n); once = (u, e.once); weighs = weighs }
      where
        weighs : (g : Op → Response → ℕ) → Weightless g b'.withdrawn → weight g (mark_at c p ∷ es) ≡ weight g ms
        weighs g z = omega (arith, sym (ap (λ (c : Call). g c.start.op Yes) now.3) ∙ z now.0 now.1, e.weighs g (λ w i. z w (will w i)))

        old : (m : Mark) → (m ∈ ms) ⊎ ((w : WithdrawnCall) × (w ∈ b.withdrawn) × (p : Spot) × (f w.end ≡ some p) × (m ≡ mark_at w.call p)) → (m ∈ ms) ⊎ ((w : WithdrawnCall) × (w ∈ b'.withdrawn) × (p : Spot) × (h w.end ≡ some p) × (m ≡ mark_at w.call p))
        old m (inl i) = inl i
        old m (inr (w, i, q, z, r)) = inr (w, will w i, q, others w.end (λ k. not_yet w i k q z) ∙ z, r)

        from : (m : Mark) → m ∈ (mark_at c p ∷ es) → (m ∈ ms) ⊎ ((w : WithdrawnCall) × (w ∈ b'.withdrawn) × (p : Spot) × (h w.end ≡ some p) × (m ≡ mark_at w.call p))
        from m (inl i) = inr (now.0, now.1, p, ap h now.2 ∙ here, i ∙ ap (λ (c : Call). mark_at c p) (sym now.3))
        from m (inr i) = old m (e.from m i)

        left : (w : WithdrawnCall) → w ∈ b'.withdrawn → (q : Spot) → h w.end ≡ some q → (w.end ≡ n) ⊎ (w.end ≢ n) → mark_at w.call q ∈ (mark_at c p ∷ es)
        left w i q z (inl k) = inl (λ j. mark_at (its w i k j) (some_inj {o = h n} (sym (ap h k) ∙ z) here j))
        left w i q z (inr k) = inr (e.left w (was w i k) q (sym (others w.end k) ∙ z))

module _ {S N : Type 0} {machine : S → Action → S × Event} {note : N → S → Action → Event → N} {names : Names (S × N)} {start : S} {blank : N} {ready : S → Op → Type 0} {tasks size : ℕ} {values : ℕ → ℕ}
    (M : Simulation machine note names start blank ready tasks size values) (x : S × N) (b : Calls) (dated : Dated b) (distinct : Distinct b) (ordered : Ordered b.withdrawn b.now) (ms es : List Mark) (same : begins ms ≡ call_begins b.finished) (f h : ℕ → Option Spot) (e : Emits f b ms es) (clock : M.clock x ≡ b.now) where
  abbrev made : Action → Event → List Mark
  made a u = marked (beside machine note) names x b a u ++ es

  pub emits_next : {s s' : S} {a : Action} {u : Event} → Change s s' b a u → Leaves names M.clock x a u f h → Emits h (enter b a u) (end_marks M x b a u ++ ms) (made a u)
  emits_next {a = begin t op} (refuses q) l = stays b dated distinct ordered ms es same f e (enter b (begin t op) (refused 0)) h refl l
  emits_next {a = step t} (refuses q) l = stays b dated distinct ordered ms es same f e (enter b (step t) (refused 0)) h refl l
  emits_next {a = drop t} (refuses q) l = stays b dated distinct ordered ms es same f e (enter b (drop t) (refused 0)) h refl l
  emits_next (starts {t} {op} {x = y} idle) l = stays b dated distinct ordered ms es same f e (enter b (begin t op) (accepted y)) h refl l
  emits_next (goes {t} {x = y} c busy) l = go (names.landing x t) l
    where
      b' : Calls
      b' = enter b (step t) (accepted y)

      go : (o : Option (ℕ × Spot)) → Lands o f h → Emits h b' ms (mark_of_landed (beside machine note) names o b.withdrawn ++ es)
      go none l = stays b dated distinct ordered ms es same f e b' h refl l
      go (some (n, p)) l = at (withdrawn_at b.withdrawn n) refl
        where
          at : (o : Option Call) → withdrawn_at b.withdrawn n ≡ o → Emits h b' ms (mark_of (beside machine note) names o Yes p ++ es)
          at none z = record {
            from = λ m i. from m (e.from m i);
            ended = e.ended;
            left = λ w i q k. e.left w i q (sym (l.2 w.end (other w i)) ∙ k);
            once = e.once;
            weighs = e.weighs;
          }
            where
              other : (w : WithdrawnCall) → w ∈ b.withdrawn → w.end ≢ n
              other w i k = clash z (subst (λ n. withdrawn_at b.withdrawn n ≡ some w.call) k (is-there b.withdrawn b.now ordered w i).1)

              from : (m : Mark) → (m ∈ ms) ⊎ ((w : WithdrawnCall) × (w ∈ b.withdrawn) × (p : Spot) × (f w.end ≡ some p) × (m ≡ mark_at w.call p)) → (m ∈ ms) ⊎ ((w : WithdrawnCall) × (w ∈ b.withdrawn) × (p : Spot) × (h w.end ≡ some p) × (m ≡ mark_at w.call p))
              from m (inl i) = inl i
              from m (inr (w, i, q, k, r)) = inr (w, i, q, l.2 w.end (other w i) ∙ k, r)
          at (some d) z =
              let w = was_there b.withdrawn n d z in
              let no : (v : WithdrawnCall) → v ∈ b.withdrawn → v.end ≡ n → (q : Spot) → f v.end ≡ some q → ⊥ = λ v i k q r. clash l.0 (sym (ap f k) ∙ r) in
              lands-there b dated distinct ordered ms es same f e b' h d n p l.1 l.2
              (λ v i k. some_inj (subst (λ n. withdrawn_at b.withdrawn n ≡ some v.call) k (is-there b.withdrawn b.now ordered v i).1) z) w (λ v i k. i) (λ v i. i) no
              (unmarked b dated distinct ordered ms es same f e d.start.at (λ i. distinct.apart_withdrawn d.start.at i (subst (λ (c : Call). c.start.at ∈ drop_begins b.withdrawn) w.3 (in_drops b.withdrawn w.0 w.1)))
              (λ v i q r k. no v i (ap (λ (w : WithdrawnCall). w.end) (only_one b.withdrawn distinct.once-withdrawn v w.0 i w.1 (sym q ∙ ap (λ (c : Call). c.start.at) (sym w.3))) ∙ w.2) r k))
  emits_next (ends {t} {x = y} {r} c busy p q) l = subst (λ (o : Option Call). Emits h (enter b (step t) (answered y r)) (mark_of (beside machine note) names o r.answer (names.ending x t r.answer) ++ ms) (mark_of (beside machine note) names o r.answer (names.ending x t r.answer) ++ es)) (sym busy)
      (ends_there b dated distinct ordered ms es same f e (enter b (step t) (answered y r)) h refl l (record { spot = names.ending x t r.answer; call = c.start; answer = r.answer }) (unmarked_pending b dated distinct ordered ms es same f e t c busy))
  emits_next (drops {t} {x = y} c busy) l = subst (λ (o : Option Call). Emits h (enter b (drop t) (accepted y)) ms (mark_of_pending (beside machine note) names (names.standing x t) o ++ es)) (sym busy) (go (names.standing x t) refl)
    where
      b' : Calls
      b' = enter b (drop t) (accepted y)

      gone : b'.withdrawn ≡ last-withdrawn b dated t y c busy ∷ b.withdrawn
      gone = dropped-withdrawn b dated t y c busy

      before : (w : WithdrawnCall) → w ∈ b.withdrawn → w.end ≢ b.now
      before w i k = omega (arith, (is-there b.withdrawn b.now ordered w i).0)

      was : (w : WithdrawnCall) → w ∈ b'.withdrawn → w.end ≢ b.now → w ∈ b.withdrawn
      was w i k = at (rw gone at i)
        where
          at : w ∈ (last-withdrawn b dated t y c busy ∷ b.withdrawn) → w ∈ b.withdrawn
          at (inl z) = absurd (k (ap (λ (w : WithdrawnCall). w.end) z))
          at (inr j) = j

      its : (w : WithdrawnCall) → w ∈ b'.withdrawn → w.end ≡ b.now → w.call ≡ c
      its w i k = at (rw gone at i)
        where
          at : w ∈ (last-withdrawn b dated t y c busy ∷ b.withdrawn) → w.call ≡ c
          at (inl z) = ap (λ (w : WithdrawnCall). w.call) z
          at (inr j) = absurd (before w j k)

      other : (n : ℕ) → n ≢ b.now → h n ≡ f n
      other n k = l.1 n (λ z. k (z ∙ clock))

      go : (o : Option Spot) → names.standing x t ≡ o → Emits h b' ms (mark_of_pending (beside machine note) names o (some c) ++ es)
      go (some p) z = lands-there b dated distinct ordered ms es same f e b' h c b.now p (ap h (sym clock) ∙ l.0 ∙ z) other its (last-withdrawn b dated t y c busy, rw gone (inl refl), refl, refl) was (λ w i. rw gone (inr i)) (λ w i k. absurd (before w i k))
          (unmarked_pending b dated distinct ordered ms es same f e t c busy)
      go none z = record {
        from = λ m i. from m (e.from m i);
        ended = e.ended;
        left = λ w i q k. left w i q k (either w.end b.now);
        once = e.once;
        weighs = λ g z. e.weighs g (λ w i. z w (rw gone (inr i)));
      }
        where
          from : (m : Mark) → (m ∈ ms) ⊎ ((w : WithdrawnCall) × (w ∈ b.withdrawn) × (p : Spot) × (f w.end ≡ some p) × (m ≡ mark_at w.call p)) → (m ∈ ms) ⊎ ((w : WithdrawnCall) × (w ∈ b'.withdrawn) × (p : Spot) × (h w.end ≡ some p) × (m ≡ mark_at w.call p))
          from m (inl i) = inl i
          from m (inr (w, i, q, k, r)) = inr (w, rw gone (inr i), q, other w.end (before w i) ∙ k, r)

          left : (w : WithdrawnCall) → w ∈ b'.withdrawn → (q : Spot) → h w.end ≡ some q → (w.end ≡ b.now) ⊎ (w.end ≢ b.now) → mark_at w.call q ∈ es
          left w i q k (inl j) = absurd (clash (ap h (j ∙ sym clock) ∙ l.0 ∙ z) k)
          left w i q k (inr j) = e.left w (was w i j) q (sym (other w.end j) ∙ k)
