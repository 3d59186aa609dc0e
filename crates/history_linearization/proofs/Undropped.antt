-- Calls on cells where no swap of unequal values was withdrawn: what the pending swaps keep of a cell is all that a call finds there.
use mathlib.Core.Path.{◌≡◌, refl, sym, ap, ◌∙◌, subst}
use mathlib.Core.Logic.{◌≢◌, ◌⊎◌, inl, inr}
use mathlib.Core.Option.{Option, none, some}
use mathlib.Core.List.{List, [], ◌∷◌}
use Prim.Native.Nat.{ℕ, suc, ◌≤◌}
use native.Mathlib.Omega.{arith}
use Rattle.history_spec.specs.Basics.{upd, ◌∈◌}
use Rattle.history_spec.specs.History.{Op, cell_of, Action, begin, step, drop, untried, Event, refused, accepted, answered, history, run, CallId, Call, FinishedCall, WithdrawnCall, Calls, no_calls, called, advance, advanced, enter, enter_all, calls_of, CallOf, finished, pending, withdrawn}
use Rattle.history_spec.specs.Demand3.{Unequal, Alone, NoneWithdrawn, NoHardwareUndropped, NoDrops, clear_after}
use Rattle.history_spec.specs.Moments.{Mark, Names, beside}
use Rattle.history_spec.proofs.Basics.{upd-cases, clash, some_inj}
use Rattle.history_linearization.proofs.Simulation.{Tally, Ghost, Knowledge, Free, Simulation}
use Rattle.history_linearization.proofs.Tracks.{upd-some, tallied, tally_of, Change, refuses, starts, goes, ends, drops}
use Rattle.history_linearization.proofs.MovesOne.{last_one, ended-finished, last-withdrawn, dropped-withdrawn, moves_one}
use Rattle.history_linearization.proofs.Parked.{is-there}
use Rattle.history_linearization.proofs.NoHardware.{alone-before, alone_free, no_hardware}
use Rattle.history_linearization.proofs.EveryAction.{Good, good_start, good_next, tracked_next, at-end}

-- a list without drops withdraws nothing
pub none_withdrawn : {S : Type 0} (machine : S → Action → S × Event) (s : S) (b : Calls) (l : List Action) → NoDrops l → (enter_all b (history machine s l)).withdrawn ≡ b.withdrawn
none_withdrawn machine s b [] n = refl
none_withdrawn machine s b (a ∷ l) n = none_withdrawn machine (machine s a).0 (enter b a (machine s a).1) l (λ t i. n t (inr i)) ∙ one a (machine s a).1 (λ t e. n t (inl (sym e)))
  where
    one : (a : Action) (e : Event) → ((t : ℕ) → a ≡ drop t → ⊥) → (enter b a e).withdrawn ≡ b.withdrawn
    one a (refused r) n = refl
    one (begin t op) (accepted x) n = refl
    one (begin t op) (answered x r) n = refl
    one (step t) (accepted x) n = refl
    one (step t) (answered x r) n = refl
    one (drop t) (accepted x) n = absurd (n t refl)
    one (drop t) (answered x r) n = refl

-- an action that withdraws no swap of unequal values on cell k
abbrev pub Spares : {S : Type 0} → (S → ℕ → Option Tally) → S → Action → ℕ → Type 0
Spares doing s (begin t op) k = Unit {0}
Spares doing s (step t) k = Unit {0}
Spares doing s (drop t) k = (n : Tally) → doing s t ≡ some n → Unequal n.op → cell_of n.op ≢ k

-- no swap of unequal values was withdrawn on cell k
abbrev Never : Calls → ℕ → Type 0
Never b k = (w : WithdrawnCall) → w ∈ b.withdrawn → Unequal w.call.start.op → cell_of w.call.start.op ≢ k

module _ {S N : Type 0} {machine : S → Action → S × Event} {note : N → S → Action → Event → N} {names : Names (S × N)} {start : S} {blank : N} {ready : S → Op → Type 0} {tasks size : ℕ} {values : ℕ → ℕ}
    (M : Simulation machine note names start blank ready tasks size values) (active : S → ℕ → Type 0) where
  -- what holds of each cell as long as no swap of unequal values is withdrawn there; and it makes a free active cell ready
  pub record Keeping (Kept : S → ℕ → Type 0) : Type 1 where
    pub opened : (k : ℕ) → Kept start k
    pub keeps : (x : S × N) (g : Ghost) (κ : Knowledge) → M.Inv x g κ → (a : Action) (k : ℕ) → Spares M.doing x.0 a k → Kept x.0 k → Kept (machine x.0 a).0 k
    pub found : (x : S × N) (g : Ghost) (κ : Knowledge) → M.Inv x g κ → (op : Op) → Free M.doing x.0 (cell_of op) → Kept x.0 (cell_of op) → active x.0 (cell_of op) → ready x.0 op

  -- a call finds its cell ready if it was active at the begin
  abbrev Finds : CallId → Type 0
  Finds i = active (run machine start i.before) (cell_of i.op) → ready (run machine start i.before) i.op

  module _ (Kept : S → ℕ → Type 0) (K : Keeping Kept) where
    record Holds (s : S) (b : Calls) : Type 0 where
      kept : (k : ℕ) → Never b k → Kept s k
      began : (c : Call) (n : ℕ) → CallOf b c n → NoneWithdrawn b c → Alone b c n → Finds c.start

    module _ (x : S × N) (b : Calls) (ms es : List Mark) (G : Good M x b ms es) (h : Holds x.0 b) where
      abbrev s : S
      s = x.0

      -- a call that went on
      was : {a : Action} {e : Event} → Change s (machine s a).0 b a e → (c d : Call) (n m : ℕ) → CallOf b c n → c.start ≡ d.start → n ≤ m → NoneWithdrawn (enter b a e) d → Alone (enter b a e) d m → Finds d.start
      was k c d n m i q le nv l = let o = moves_one b G.dated k in
          subst Finds q (h.began c n i (λ w j u z. rw q (nv w (o.kept-withdrawn w j) u (z ∙ ap (λ (i : CallId). cell_of i.op) q))) (alone-before o c d n m q le l))

      -- one that did not move, and one of another task than the action's
      same : {a : Action} {e : Event} → Change s (machine s a).0 b a e → (d : Call) (m : ℕ) → CallOf b d m → NoneWithdrawn (enter b a e) d → Alone (enter b a e) d m → Finds d.start
      same k d m i = was k d d m m i refl (omega arith)

      waits : {a : Action} {e : Event} → Change s (machine s a).0 b a e → (u : ℕ) (d : Call) → b.pending u ≡ some d → NoneWithdrawn (enter b a e) d → Alone (enter b a e) d (suc b.now) → Finds d.start
      waits k u d i = was k d d b.now (suc b.now) (pending u d i) refl (omega arith)

      another : (t u : ℕ) (d : Call) → upd b.pending t none u ≡ some d → b.pending u ≡ some d
      another t u d = upd-cases (λ o. o ≡ some d → b.pending u ≡ some d) b.pending t none u (λ e z. absurd (clash refl z)) (λ e z. z)

      kept_next : {a : Action} {e : Event} → Change s (machine s a).0 b a e → (k : ℕ) → Never (enter b a e) k → Kept (machine s a).0 k
      kept_next (refuses q) k nv = subst (λ s. Kept s k) (sym q) (h.kept k nv)
      kept_next (starts {t} {op} idle) k nv = K.keeps x _ _ G.simulated.inv (begin t op) k tt (h.kept k nv)
      kept_next (goes {t} c busy) k nv = K.keeps x _ _ G.simulated.inv (step t) k tt (h.kept k nv)
      kept_next (ends {t} c busy p q) k nv = K.keeps x _ _ G.simulated.inv (step t) k tt (h.kept k nv)
      kept_next (drops {t} {x = y} c busy) k nv = K.keeps x _ _ G.simulated.inv (drop t) k spares (h.kept k (λ w i. nv w (rw gone (inr i))))
        where
          gone : (enter b (drop t) (accepted y)).withdrawn ≡ last-withdrawn b G.dated t y c busy ∷ b.withdrawn
          gone = dropped-withdrawn b G.dated t y c busy

          spares : (n : Tally) → M.doing s t ≡ some n → Unequal n.op → cell_of n.op ≢ k
          spares n d = let e : tallied c ≡ n = some_inj (G.tracks t ∙ ap tally_of busy) d in
              subst (λ (n : Tally). Unequal n.op → cell_of n.op ≢ k) e (nv (last-withdrawn b G.dated t y c busy) (rw gone (inl refl)))

      -- a call that begins
      finds-first : (t : ℕ) (op : Op) → b.pending t ≡ none → let b' = enter b (begin t op) (accepted untried) in let c = called b t op in NoneWithdrawn b' c → Alone b' c b'.now → Finds c.start
      finds-first t op idle nv l = rw (sym G.reached) (K.found x _ _ G.simulated.inv op (alone_free M.doing s b G.tracks G.dated t op idle l) (h.kept (cell_of op) never))
        where
          never : Never b (cell_of op)
          never w i u z = omega (arith, nv w i u z, (is-there b.withdrawn b.now G.ordered w i).0)

      -- every call went on, or begins
      began_next : {a : Action} {e : Event} → Change s (machine s a).0 b a e → (d : Call) (m : ℕ) → CallOf (enter b a e) d m → NoneWithdrawn (enter b a e) d → Alone (enter b a e) d m → Finds d.start
      began_next (refuses {a} {r} z) d m (finished f i) = same (refuses {a = a} {r = r} z) d m (finished f i)
      began_next (refuses {a} {r} z) d m (withdrawn w i) = same (refuses {a = a} {r = r} z) d m (withdrawn w i)
      began_next (refuses {a} {r} z) d m (pending u c i) = waits (refuses {a = a} {r = r} z) u d i
      began_next (starts {x = y} idle) d m (finished f i) = same (starts {x = y} idle) d m (finished f i)
      began_next (starts {x = y} idle) d m (withdrawn w i) = same (starts {x = y} idle) d m (withdrawn w i)
      began_next (starts {t} {op} {x = y} idle) d m (pending u c i) = go (upd-some b.pending t (some (called b t op)) u d i)
        where
          b' : Calls
          b' = enter b (begin t op) (accepted untried)

          go : ((u ≡ t) × (some (called b t op) ≡ some d)) ⊎ ((u ≢ t) × (b.pending u ≡ some d)) → NoneWithdrawn b' d → Alone b' d (suc b.now) → Finds d.start
          go (inl (q, j)) = subst (λ (d : Call). NoneWithdrawn b' d → Alone b' d (suc b.now) → Finds d.start) (some_inj {o = some (called b t op)} refl j) (finds-first t op idle)
          go (inr (q, j)) = waits (starts {x = y} idle) u d j
      began_next (goes {x = y} c busy) d m (finished f i) = same (goes {x = y} c busy) d m (finished f i)
      began_next (goes {x = y} c busy) d m (withdrawn w i) = same (goes {x = y} c busy) d m (withdrawn w i)
      began_next (goes {t} {x = y} c busy) d m (pending u e i) = go (upd-some b.pending t (advanced b y (b.pending t)) u d i)
        where
          b' : Calls
          b' = enter b (step t) (accepted y)

          go : ((u ≡ t) × (advanced b y (b.pending t) ≡ some d)) ⊎ ((u ≢ t) × (b.pending u ≡ some d)) → NoneWithdrawn b' d → Alone b' d (suc b.now) → Finds d.start
          go (inl (q, j)) = was (goes {x = y} c busy) c d b.now (suc b.now) (pending t c busy) (ap (λ (c : Call). c.start) (some_inj (ap (advanced b y) busy) j)) (omega arith)
          go (inr (q, j)) = waits (goes {x = y} c busy) u d j
      began_next (ends {x = y} {r} c busy p q) d m (withdrawn w i) = same (ends {x = y} {r = r} c busy p q) d m (withdrawn w i)
      began_next (ends {t} {x = y} {r} c busy p q) d m (pending u e i) = waits (ends {x = y} {r = r} c busy p q) u d (another t u d i)
      began_next (ends {t} {x = y} {r} c busy p q) d m (finished f i) = go (rw (ended-finished b G.dated t y c busy r) at i)
        where
          b' : Calls
          b' = enter b (step t) (answered y r)

          go : f ∈ (last_one b G.dated t y c busy r ∷ b.finished) → NoneWithdrawn b' f.call → Alone b' f.call f.call.last → Finds f.call.start
          go (inl z) = subst (λ (f : FinishedCall). NoneWithdrawn b' f.call → Alone b' f.call f.call.last → Finds f.call.start) (sym z) (was (ends {x = y} {r = r} c busy p q) c (advance b y c) b.now b.now (pending t c busy) refl (omega arith))
          go (inr j) = same (ends {x = y} {r = r} c busy p q) d m (finished f j)
      began_next (drops {x = y} c busy) d m (finished f i) = same (drops {x = y} c busy) d m (finished f i)
      began_next (drops {t} {x = y} c busy) d m (pending u e i) = waits (drops {x = y} c busy) u d (another t u d i)
      began_next (drops {t} {x = y} c busy) d m (withdrawn w i) = go (rw (dropped-withdrawn b G.dated t y c busy) at i)
        where
          b' : Calls
          b' = enter b (drop t) (accepted y)

          go : w ∈ (last-withdrawn b G.dated t y c busy ∷ b.withdrawn) → NoneWithdrawn b' w.call → Alone b' w.call w.end → Finds w.call.start
          go (inl z) = subst (λ (w : WithdrawnCall). NoneWithdrawn b' w.call → Alone b' w.call w.end → Finds w.call.start) (sym z) (was (drops {x = y} c busy) c c b.now b.now (pending t c busy) refl (omega arith))
          go (inr j) = same (drops {x = y} c busy) d m (withdrawn w j)

    -- after all actions
    all : (l : List Action) (x : S × N) (b : Calls) (ms es : List Mark) → Good M x b ms es → Holds x.0 b → Holds (run machine x.0 l) (enter_all b (history machine x.0 l))
    all [] x b ms es G h = h
    all (a ∷ l) x b ms es G h = let k = (tracked_next M x b ms es G a).change in
        all l (beside machine note x a).0 _ _ _ (good_next M x b ms es G a) (record { kept = kept_next x b ms es G h k; began = began_next x b ms es G h k })

    pub undropped_meet : (l : List Action) → NoHardwareUndropped (clear_after machine start active) (calls_of (history machine start l))
    undropped_meet l c n i nv z alone =
        let h = all l (start, blank) no_calls [] [] (good_start M) (record { kept = λ k u. K.opened k; began = λ c n i. absurd (nobody c n i) }) in
        no_hardware machine start ready M.doing M.Quiet (at-end M l).good.quiet c n i (h.began c n i nv alone z) alone
      where
        nobody : (c : Call) (n : ℕ) → CallOf no_calls c n → ⊥
        nobody c n (finished f i) = i
        nobody c n (pending t d i) = clash refl i
        nobody c n (withdrawn w i) = i
