-- Lists of plain actions, one for each request: their calls are those of the whole list at other moments, by a clock on which each plain action
-- has the number of its request.
use mathlib.Core.Path.{◌≡◌, refl, sym, ap, ◌∙◌, subst}
use mathlib.Core.Logic.{◌≢◌, ◌⊎◌, inl, inr}
use mathlib.Core.Option.{Option, none, some}
use mathlib.Core.List.{List, [], ◌∷◌, ◌++◌, map}
use Prim.Native.Nat.{ℕ, zero, suc, ◌+◌, ◌≤◌, ◌<◌}
use native.Mathlib.Omega.{arith}
use lib.ListN.{length}
use Rattle.history_spec.specs.Basics.{upd, ◌∈◌}
use Rattle.history_spec.specs.History.{Op, Action, begin, step, drop, Event, refused, accepted, answered, Report, Attempt, Call, FinishedCall, WithdrawnCall, Calls, no_calls, called, advanced, closed, also_withdrawn, enter, passed, enter_all, CallOf, finished, pending, withdrawn, IsBusy, Allowed, WellFormed, wins, losses}
use Rattle.history_spec.proofs.Basics.{either, upd-at, upd_off, clash, some_inj}
use Rattle.adds_spec.specs.Demand3.{at_moment, enter_did, enter_dids, AllowedDid, WellFormedDids}
use Rattle.adds_spec.proofs.Images.{call_at, pending_at, finished_at, withdrawn_as, Image, Clock}

-- ENTERING A PLAIN ACTION keeps the image

pub enter-now : (b : Calls) (a : Action) (e : Event) → (enter b a e).now ≡ suc b.now
enter-now b a (refused r) = refl
enter-now b (begin t op) (accepted x) = refl
enter-now b (begin t op) (answered x r) = refl
enter-now b (step t) (accepted x) = refl
enter-now b (step t) (answered x r) = refl
enter-now b (drop t) (accepted x) = refl
enter-now b (drop t) (answered x r) = refl

upd_map : {A B : Type 0} (h : A → B) (f' : ℕ → B) (f : ℕ → A) → ((u : ℕ) → f' u ≡ h (f u)) → (t : ℕ) (a : A) (u : ℕ) → upd f' t (h a) u ≡ h (upd f t a u)
upd_map h f' f same t a u = go (either u t)
  where
    go : (u ≡ t) ⊎ (u ≢ t) → upd f' t (h a) u ≡ h (upd f t a u)
    go (inl e) = upd-at f' t (h a) u e ∙ ap h (sym (upd-at f t a u e))
    go (inr e) = upd_off f' t (h a) u e ∙ same u ∙ ap h (sym (upd_off f t a u e))

module _ (φ : ℕ → ℕ) where
  -- an image says nothing of the moment itself
  pub image_at : {b b' : Calls} (n : ℕ) → Image φ b b' → Image φ b (at_moment n b')
  image_at n i = record { accepted = i.accepted; pending = i.pending; finished = i.finished; withdrawn = i.withdrawn }

  module _ (b b' : Calls) (i : Image φ b b') (now : φ b.now ≡ b'.now) where
    advanced_image : (x : Attempt) (o : Option Call) → advanced b' x (pending_at φ o) ≡ pending_at φ (advanced b x o)
    advanced_image x none = refl
    advanced_image x (some c) = ap (λ n. some (record { start = (call_at φ c).start; last = n; steps = suc c.steps; won = c.won + wins x; lost = c.lost + losses x })) (sym now)

    advances : (t : ℕ) (x : Attempt) → advanced b' x (b'.pending t) ≡ pending_at φ (advanced b x (b.pending t))
    advances t x = ap (advanced b' x) (i.pending t) ∙ advanced_image x (b.pending t)

    closes : (o : Option Call) (r : Report) → closed (pending_at φ o) r b'.finished ≡ map (finished_at φ) (closed o r b.finished)
    closes none r = i.finished
    closes (some c) r = ap (λ l. finished_at φ (record { call = c; report = r }) ∷ l) i.finished

    passed_image : Image φ (passed b) (passed b')
    passed_image = record { accepted = i.accepted; pending = i.pending; finished = i.finished; withdrawn = i.withdrawn }

    leaves : (o : Option Call) → also_withdrawn (pending_at φ o) b'.now b'.withdrawn ≡ map (withdrawn_as φ) (also_withdrawn o b.now b.withdrawn)
    leaves none = i.withdrawn
    leaves (some c) = λ j. record { call = call_at φ c; end = sym now j } ∷ i.withdrawn j

    begun : (t : ℕ) (op : Op) → some (called b' t op) ≡ pending_at φ (some (called b t op))
    begun t op = λ j. some (record { start = record { at = sym now j; task = t; op = op; before = i.accepted j }; last = sym now j; steps = 0; won = 0; lost = 0 })

    pub enter_image : (a : Action) (e : Event) → Image φ (enter b a e) (enter b' a e)
    enter_image a (refused r) = passed_image
    enter_image (begin t op) (accepted x) = record {
      accepted = ap (λ l. l ++ (begin t op ∷ [])) i.accepted;
      pending = λ u. ap (λ o. upd b'.pending t o u) (begun t op) ∙ upd_map (pending_at φ) b'.pending b.pending i.pending t (some (called b t op)) u;
      finished = i.finished;
      withdrawn = i.withdrawn;
    }
    enter_image (begin t op) (answered x r) = passed_image
    enter_image (step t) (accepted x) = record {
      accepted = ap (λ l. l ++ (step t ∷ [])) i.accepted;
      pending = λ u. ap (λ o. upd b'.pending t o u) (advances t x) ∙ upd_map (pending_at φ) b'.pending b.pending i.pending t (advanced b x (b.pending t)) u;
      finished = i.finished;
      withdrawn = i.withdrawn;
    }
    enter_image (step t) (answered x r) = record {
      accepted = ap (λ l. l ++ (step t ∷ [])) i.accepted;
      pending = upd_map (pending_at φ) b'.pending b.pending i.pending t none;
      finished = ap (λ o. closed o r b'.finished) (advances t x) ∙ closes (advanced b x (b.pending t)) r;
      withdrawn = i.withdrawn;
    }
    enter_image (drop t) (accepted x) = record {
      accepted = ap (λ l. l ++ (drop t ∷ [])) i.accepted;
      pending = upd_map (pending_at φ) b'.pending b.pending i.pending t none;
      finished = i.finished;
      withdrawn = ap (λ o. also_withdrawn o b'.now b'.withdrawn) (i.pending t) ∙ leaves (b.pending t);
    }
    enter_image (drop t) (answered x r) = passed_image

  -- what is allowed in one is in the other
  module _ (b b' : Calls) (i : Image φ b b') where
    busy-at : (o : Option Call) → IsBusy o → IsBusy (pending_at φ o)
    busy-at (some c) h = tt
    busy-at none h = elim h [ ]

    idle_too : (t : ℕ) → b.pending t ≡ none → b'.pending t ≡ none
    idle_too t h = i.pending t ∙ ap (pending_at φ) h

    busy_too : (t : ℕ) → IsBusy (b.pending t) → IsBusy (b'.pending t)
    busy_too t h = subst IsBusy (sym (i.pending t)) (busy-at (b.pending t) h)

    allowed_image : (size : ℕ) (a : Action) (e : Event) → Allowed size b a e → Allowed size b' a e
    allowed_image size (begin t op) (refused r) h = tt
    allowed_image size (begin t op) (accepted x) h = (idle_too t h.0, h.1, h.2)
    allowed_image size (step t) (refused r) h = idle_too t h
    allowed_image size (step t) (accepted x) h = busy_too t h
    allowed_image size (step t) (answered x r) h = busy_too t h
    allowed_image size (drop t) (refused r) h = idle_too t h
    allowed_image size (drop t) (accepted x) h = (busy_too t h.0, h.1)
    allowed_image size (begin t op) (answered x r) h = elim h [ ]
    allowed_image size (drop t) (answered x r) h = elim h [ ]

-- THE CALLS' BEGINS: the clock goes on after each

module _ (φ : ℕ → ℕ) where
  abbrev Onwards : Call → Type 0
  Onwards c = φ c.start.at < φ (suc c.start.at)

  record Moving (b : Calls) : Type 0 where
    of_pending : (t : ℕ) (c : Call) → b.pending t ≡ some c → Onwards c
    of_finished : (f : FinishedCall) → f ∈ b.finished → Onwards f.call
    of_withdrawn : (w : WithdrawnCall) → w ∈ b.withdrawn → Onwards w.call

  module _ (b : Calls) (k : Moving b) where
    of_changed : (t : ℕ) (o : Option Call) → ((c : Call) → o ≡ some c → Onwards c) → (u : ℕ) (d : Call) → upd b.pending t o u ≡ some d → Onwards d
    of_changed t o new u d h = go (either u t)
      where
        go : (u ≡ t) ⊎ (u ≢ t) → Onwards d
        go (inl e) = new d (sym (upd-at b.pending t o u e) ∙ h)
        go (inr e) = k.of_pending u d (sym (upd_off b.pending t o u e) ∙ h)

    of_advanced : (x : Attempt) (t : ℕ) (o : Option Call) → b.pending t ≡ o → (c : Call) → advanced b x o ≡ some c → Onwards c
    of_advanced x t none q c h = absurd (clash {o = none} refl h)
    of_advanced x t (some d) q c h = subst Onwards (some_inj {o = advanced b x (some d)} refl h) (k.of_pending t d q)

    of_closed : (o : Option Call) → ((c : Call) → o ≡ some c → Onwards c) → (r : Report) (f : FinishedCall) → f ∈ closed o r b.finished → Onwards f.call
    of_closed none new r f i = k.of_finished f i
    of_closed (some c) new r f (inl e) = rw e (new c refl)
    of_closed (some c) new r f (inr i) = k.of_finished f i

    of_dropped : (o : Option Call) → ((c : Call) → o ≡ some c → Onwards c) → (w : WithdrawnCall) → w ∈ also_withdrawn o b.now b.withdrawn → Onwards w.call
    of_dropped none new w i = k.of_withdrawn w i
    of_dropped (some c) new w (inl e) = rw e (new c refl)
    of_dropped (some c) new w (inr i) = k.of_withdrawn w i

    moving_passed : Moving (passed b)
    moving_passed = record { of_pending = k.of_pending; of_finished = k.of_finished; of_withdrawn = k.of_withdrawn }

    moving_next : (a : Action) (e : Event) → ((t : ℕ) (op : Op) → a ≡ begin t op → φ b.now < φ (suc b.now)) → Moving (enter b a e)
    moving_next a (refused r) on = moving_passed
    moving_next (begin t op) (accepted x) on = record { of_pending = of_changed t (some (called b t op)) (λ d z. subst Onwards (some_inj {o = some (called b t op)} refl z) (on t op refl)); of_finished = k.of_finished; of_withdrawn = k.of_withdrawn }
    moving_next (begin t op) (answered x r) on = moving_passed
    moving_next (step t) (accepted x) on = record { of_pending = of_changed t (advanced b x (b.pending t)) (of_advanced x t (b.pending t) refl); of_finished = k.of_finished; of_withdrawn = k.of_withdrawn }
    moving_next (step t) (answered x r) on = record { of_pending = of_changed t none (λ d z. absurd (clash {o = none} refl z)); of_finished = of_closed (advanced b x (b.pending t)) (of_advanced x t (b.pending t) refl) r; of_withdrawn = k.of_withdrawn }
    moving_next (drop t) (accepted x) on = record { of_pending = of_changed t none (λ d z. absurd (clash {o = none} refl z)); of_finished = k.of_finished; of_withdrawn = of_dropped (b.pending t) (k.of_pending t) }
    moving_next (drop t) (answered x r) on = moving_passed

-- THE CLOCK

-- of the numbers of the first actions, and of an end
abbrev pub tick : List ℕ → (end : ℕ) → ℕ → ℕ
tick [] e j = e + j
tick (x ∷ xs) e zero = x
tick (x ∷ xs) e (suc j) = tick xs e j

-- a number for each action of a list, the same
abbrev pub stamped : {A : Type 0} → ℕ → List A → List ℕ → List ℕ
stamped m [] xs = xs
stamped m (a ∷ l) xs = m ∷ stamped m l xs

abbrev pub stamps : {A : Type 0} → ℕ → List (List A) → List ℕ
stamps m [] = []
stamps m (d ∷ l) = stamped m d (stamps (suc m) l)

abbrev pub joined : {A : Type 0} → List (List A) → List A
joined [] = []
joined (d ∷ l) = d ++ joined l

module _ {A : Type 0} where
  stamped_low : (m : ℕ) (l : List A) (xs : List ℕ) (e : ℕ) → ((j : ℕ) → suc m ≤ tick xs e j) → (j : ℕ) → m ≤ tick (stamped m l xs) e j
  stamped_low m [] xs e h j = omega (arith, h j)
  stamped_low m (a ∷ l) xs e h zero = omega arith
  stamped_low m (a ∷ l) xs e h (suc j) = stamped_low m l xs e h j

  stamped_steady : (m : ℕ) (l : List A) (xs : List ℕ) (e : ℕ) → ((j : ℕ) → suc m ≤ tick xs e j) → ((j : ℕ) → tick xs e j ≤ tick xs e (suc j)) → (j : ℕ) → tick (stamped m l xs) e j ≤ tick (stamped m l xs) e (suc j)
  stamped_steady m [] xs e low h j = h j
  stamped_steady m (a ∷ l) xs e low h zero = stamped_low m l xs e low zero
  stamped_steady m (a ∷ l) xs e low h (suc j) = stamped_steady m l xs e low h j

  pub low : (l : List (List A)) (m e : ℕ) → m + length l ≡ e → (j : ℕ) → m ≤ tick (stamps m l) e j
  low [] m e h j = omega arith
  low (d ∷ l) m e h j = stamped_low m d (stamps (suc m) l) e (low l (suc m) e (omega arith)) j

  steady : (l : List (List A)) (m e : ℕ) → m + length l ≡ e → (j : ℕ) → tick (stamps m l) e j ≤ tick (stamps m l) e (suc j)
  steady [] m e h j = omega arith
  steady (d ∷ l) m e h j = stamped_steady m d (stamps (suc m) l) e (low l (suc m) e (omega arith)) (steady l (suc m) e (omega arith)) j

steady_all : (f : ℕ → ℕ) → ((j : ℕ) → f j ≤ f (suc j)) → (m n : ℕ) → m ≤ n → f m ≤ f n
steady_all f h m zero l = let e : m ≡ 0 = omega arith in rw e (omega arith)
steady_all f h m (suc n) l = go (either m (suc n)) (steady_all f h m n)
  where
    go : (m ≡ suc n) ⊎ (m ≢ suc n) → (m ≤ n → f m ≤ f n) → f m ≤ f (suc n)
    go (inl e) r = rw e (omega arith)
    go (inr e) r = omega (arith, r (omega arith), h n)

-- ALL PLAIN ACTIONS

-- a begin is the last of what its request did
abbrev pub BeginsLast : List (Action × Event) → Type 0
BeginsLast [] = Unit {0}
BeginsLast ((begin t op, e) ∷ d) = d ≡ []
BeginsLast ((step t, e) ∷ d) = BeginsLast d
BeginsLast ((drop t, e) ∷ d) = BeginsLast d

abbrev pub AllBeginsLast : List (List (Action × Event)) → Type 0
AllBeginsLast [] = Unit {0}
AllBeginsLast (d ∷ l) = BeginsLast d × AllBeginsLast l

module _ (φ : ℕ → ℕ) (size end : ℕ) where
  -- from here on the clock reads xs
  abbrev pub Reads : Calls → List ℕ → Type 0
  Reads b xs = (j : ℕ) → φ (b.now + j) ≡ tick xs end j

  pub here : (b : Calls) (m : ℕ) (xs : List ℕ) → Reads b (m ∷ xs) → φ b.now ≡ m
  here b m xs k = ap φ (omega arith) ∙ k 0

  pub further : (b : Calls) (a : Action) (e : Event) (m : ℕ) (xs : List ℕ) → Reads b (m ∷ xs) → Reads (enter b a e) xs
  further b a e m xs k j = ap φ (omega (arith, enter-now b a e)) ∙ k (suc j)

  record Translated (b b' : Calls) (h : List (Action × Event)) (l : List (List (Action × Event))) : Type 0 where
    well_formed : WellFormedDids size b' l
    image : Image φ (enter_all b h) (enter_dids b' l)
    moving : Moving φ (enter_all b h)
    now : (enter_dids b' l).now ≡ φ (enter_all b h).now

  -- the plain actions d of one request, at its moment m; then the rest
  one : (d : List (Action × Event)) (rest : List (Action × Event)) (l : List (List (Action × Event))) (m : ℕ) (b b' : Calls) → BeginsLast d → ((j : ℕ) → suc m ≤ tick (stamps (suc m) l) end j) →
      Reads b (stamped m d (stamps (suc m) l)) → Image φ b b' → Moving φ b → WellFormed size b (d ++ rest) →
      ((c c' : Calls) → c'.now ≡ suc m → Reads c (stamps (suc m) l) → Image φ c c' → Moving φ c → WellFormed size c rest → Translated c c' rest l) →
      AllowedDid size m b' d × WellFormedDids size (enter_did m b' d) l × Image φ (enter_all b (d ++ rest)) (enter_dids (enter_did m b' d) l) × Moving φ (enter_all b (d ++ rest)) × ((enter_dids (enter_did m b' d) l).now ≡ φ (enter_all b (d ++ rest)).now)
  one [] rest l m b b' bl late k i mv w next = let r = next b (at_moment (suc m) b') refl k (image_at φ (suc m) i) mv w in (tt, r.well_formed, r.image, r.moving, r.now)
  one ((a, e) ∷ d) rest l m b b' bl late k i mv w next =
      let q = here b m (stamped m d (stamps (suc m) l)) k in
      let j : Image φ b (at_moment m b') = image_at φ m i in
      let r = one d rest l m (enter b a e) (enter (at_moment m b') a e) (tail a bl) late (further b a e m (stamped m d (stamps (suc m) l)) k) (enter_image φ b (at_moment m b') j q a e)
      (moving_next φ b mv a e (λ t op z. on a bl k t op z)) w.1 next in
      ((allowed_image φ b b' i size a e w.0, r.0), r.1, r.2, r.3, r.4)
    where
      tail : (a : Action) → BeginsLast ((a, e) ∷ d) → BeginsLast d
      tail (begin t op) z = rw z tt
      tail (step t) z = z
      tail (drop t) z = z

      -- a begin is the last, so the next action is of a later request
      on : (a : Action) → BeginsLast ((a, e) ∷ d) → Reads b (m ∷ stamped m d (stamps (suc m) l)) → (t : ℕ) (op : Op) → a ≡ begin t op → φ b.now < φ (suc b.now)
      on (begin u o) z k t op y = omega (arith, here b m (stamped m d (stamps (suc m) l)) k, after)
        where
          after : suc m ≤ φ (suc b.now)
          after = let f : φ (suc b.now) ≡ tick (stamped m d (stamps (suc m) l)) end 0 = ap φ (omega arith) ∙ k 1 in
              let g : tick (stamped m d (stamps (suc m) l)) end 0 ≡ tick (stamps (suc m) l) end 0 = ap (λ (d : List (Action × Event)). tick (stamped m d (stamps (suc m) l)) end 0) z in
              omega (arith, f, g, late 0)
      on (step u) z k t op y = absurd (let q : ◌≡◌ {A = ℕ} 0 1 = cc in omega arith)
      on (drop u) z k t op y = absurd (let q : ◌≡◌ {A = ℕ} 0 1 = cc in omega arith)

  all : (l : List (List (Action × Event))) (b b' : Calls) (m : ℕ) → AllBeginsLast l → b'.now ≡ m → m + length l ≡ end → Reads b (stamps m l) → Image φ b b' → Moving φ b → WellFormed size b (joined l) → Translated b b' (joined l) l
  all [] b b' m bl at h k i mv w = record { well_formed = tt; image = i; moving = mv; now = sym (ap φ (omega arith) ∙ k 0 ∙ (let z : end + 0 ≡ b'.now = omega arith in z)) }
  all (d ∷ l) b b' m bl at h k i mv w =
      let r = one d (joined l) l m b b' bl.0 (low l (suc m) end (omega arith)) k i mv w (λ c c' now k i mv w. all l c c' (suc m) bl.1 now (omega arith) k i mv w) in
      let q = rw (← at) at r in
      record { well_formed = (q.0, q.1); image = q.2; moving = q.3; now = q.4 }

-- the clock of a list: the number of the request that each plain action belongs to
abbrev pub clock_of : {A : Type 0} → List (List A) → ℕ → ℕ
clock_of l = tick (stamps 0 l) (length l)

pub record Retold (size : ℕ) (l : List (List (Action × Event))) : Type 0 where
  pub well_formed : WellFormedDids size no_calls l
  pub image : Image (clock_of l) (enter_all no_calls (joined l)) (enter_dids no_calls l)
  pub now : (enter_dids no_calls l).now ≡ clock_of l (enter_all no_calls (joined l)).now
  pub clock : Clock (clock_of l) (enter_all no_calls (joined l))

pub retold : (size : ℕ) (l : List (List (Action × Event))) → AllBeginsLast l → WellFormed size no_calls (joined l) → Retold size l
retold size l bl w =
    let none_yet : Moving (clock_of l) no_calls = record { of_pending = λ t c h. absurd (clash refl h); of_finished = λ f i. absurd i; of_withdrawn = λ w i. absurd i } in
    let r = all (clock_of l) size (length l) l no_calls no_calls 0 bl refl (omega arith) (λ j. ap (clock_of l) (omega arith)) (record { accepted = refl; pending = λ t. refl; finished = refl; withdrawn = refl }) none_yet w in
    record {
      well_formed = r.well_formed;
      image = r.image;
      now = r.now;
      clock = record { steady = steady_all (clock_of l) (steady l 0 (length l) (omega arith)); moves = λ c n of. moves r.moving of };
    }
  where
    moves : {c : Call} {n : ℕ} → Moving (clock_of l) (enter_all no_calls (joined l)) → CallOf (enter_all no_calls (joined l)) c n → Onwards (clock_of l) c
    moves k (finished f i) = k.of_finished f i
    moves k (pending t c h) = k.of_pending t c h
    moves k (withdrawn w i) = k.of_withdrawn w i
