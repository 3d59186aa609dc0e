-- The calls of a history at other moments: a clock that never goes back, and goes on after every begin, keeps the claims of demand 3.
use mathlib.Core.Path.{◌≡◌, refl, sym, ap, ◌∙◌, subst}
use mathlib.Core.Logic.{◌⊎◌, inl, inr}
use mathlib.Core.Option.{Option, none, some}
use mathlib.Core.List.{List, [], ◌∷◌, map}
use Prim.Native.Nat.{ℕ, suc, ◌≤◌, ◌<◌}
use native.Mathlib.Omega.{arith}
use Rattle.history_spec.specs.Basics.{◌∈◌, Once}
use Rattle.history_spec.specs.History.{Action, cell_of, Response, CallId, Call, attempts, FinishedCall, WithdrawnCall, Calls, CallOf, finished, pending, withdrawn, Complete}
use Rattle.history_spec.specs.Linearization.{apply, Point, Placed, replies, Sorted, Linearizes}
use Rattle.history_spec.specs.Demand3.{Bounds, Alone, NoHardware}
use Rattle.history_spec.proofs.Basics.{clash, some_inj, mem_map}
use Rattle.history_linearization.proofs.Timeline.{le_or_lt}

pub map_out : {A B : Type 0} (f : A → B) (l : List A) (b : B) → b ∈ map f l → (a : A) × (a ∈ l) × (b ≡ f a)
map_out f (x ∷ l) b (inl e) = (x, inl refl, e)
map_out f (x ∷ l) b (inr i) = let r = map_out f l b i in (r.0, inr r.1, r.2)
map_out {A = A} {B = B} f [] b x' = elim x' [ ]

module _ (φ : ℕ → ℕ) where
  abbrev pub begin_at : CallId → CallId
  begin_at s = record { at = φ s.at; task = s.task; op = s.op; before = s.before }

  abbrev pub call_at : Call → Call
  call_at c = record { start = begin_at c.start; last = φ c.last; steps = c.steps; won = c.won; lost = c.lost }

  abbrev pub pending_at : Option Call → Option Call
  pending_at none = none
  pending_at (some c) = some (call_at c)

  abbrev pub finished_at : FinishedCall → FinishedCall
  finished_at f = record { call = call_at f.call; report = f.report }

  abbrev pub withdrawn_as : WithdrawnCall → WithdrawnCall
  withdrawn_as w = record { call = call_at w.call; end = φ w.end }

  abbrev pub point_at : Point → Point
  point_at e = record { moment = φ e.moment; call = begin_at e.call }

  -- b' has the calls of b, at the clock's moments
  pub record Image (b b' : Calls) : Type 0 where
    pub accepted : b'.accepted ≡ b.accepted
    pub pending : (t : ℕ) → b'.pending t ≡ pending_at (b.pending t)
    pub finished : b'.finished ≡ map finished_at b.finished
    pub withdrawn : b'.withdrawn ≡ map withdrawn_as b.withdrawn

  pub record Clock (b : Calls) : Type 0 where
    pub steady : (m n : ℕ) → m ≤ n → φ m ≤ φ n
    pub moves : (c : Call) (n : ℕ) → CallOf b c n → φ c.start.at < φ (suc c.start.at)

  from_pending : (o : Option Call) (d : Call) → pending_at o ≡ some d → (c : Call) × (o ≡ some c) × (d ≡ call_at c)
  from_pending none d h = absurd (clash {o = pending_at none} refl h)
  from_pending (some c) d h = (c, refl, sym (some_inj {o = some (call_at c)} refl h))

  -- the same calls are finished
  pub complete_before : {b b' : Calls} → Image b b' → (cell : ℕ) → Complete b' cell → Complete b cell
  complete_before {b} {b'} i k all = record {
    none_pending = λ t c e. all.none_pending t (call_at c) (i.pending t ∙ ap pending_at e);
    none_withdrawn = λ w j. all.none_withdrawn (withdrawn_as w) (rw i.withdrawn (mem_map withdrawn_as b.withdrawn w j));
  }

  module _ (b b' : Calls) (i : Image b b') (now : b'.now ≡ φ b.now) (clock : Clock b) where
    after-begin : (c : Call) (n m : ℕ) → CallOf b c n → c.start.at < m → φ c.start.at < φ m
    after-begin c n m of h = omega (arith, clock.moves c n of, clock.steady (suc c.start.at) m (omega arith))

    -- what is no later than a begin at the clock is no later
    by-begin : (c : Call) (n m : ℕ) → CallOf b c n → φ m ≤ φ c.start.at → m ≤ c.start.at
    by-begin c n m of h = go (le_or_lt m c.start.at)
      where
        go : (m ≤ c.start.at) ⊎ (c.start.at < m) → m ≤ c.start.at
        go (inl z) = z
        go (inr z) = absurd (omega (arith, after-begin c n m of z))

    same-begin : (c d : Call) (n k : ℕ) → CallOf b c n → CallOf b d k → φ c.start.at ≡ φ d.start.at → c.start.at ≡ d.start.at
    same-begin c d n k of of' e = omega (arith, by-begin c n d.start.at of (omega arith), by-begin d k c.start.at of' (omega arith))

    to_image : (c : Call) (n : ℕ) → CallOf b c n → CallOf b' (call_at c) (φ n)
    to_image c n (finished f j) = finished (finished_at f) (rw i.finished (mem_map finished_at b.finished f j))
    to_image c n (pending t d h) = subst (λ m. CallOf b' (call_at c) m) now (pending t (call_at c) (i.pending t ∙ ap pending_at h))
    to_image c n (withdrawn w j) = withdrawn (withdrawn_as w) (rw i.withdrawn (mem_map withdrawn_as b.withdrawn w j))

    from_image : (d : Call) (m : ℕ) → CallOf b' d m → (c : Call) × (n : ℕ) × CallOf b c n × (d ≡ call_at c) × (m ≡ φ n)
    from_image d m (finished f j) =
        let r = map_out finished_at b.finished f (rw i.finished at j) in
        (r.0.call, r.0.call.last, finished r.0 r.1, ap (λ (f : FinishedCall). f.call) r.2, ap (λ (f : FinishedCall). f.call.last) r.2)
    from_image d m (pending t c h) = let r = from_pending (b.pending t) d (sym (i.pending t) ∙ h) in (r.0, b.now, pending t r.0 r.1, r.2, now)
    from_image d m (withdrawn w j) =
        let r = map_out withdrawn_as b.withdrawn w (rw i.withdrawn at j) in
        (r.0.call, r.0.end, withdrawn r.0 r.1, ap (λ (w : WithdrawnCall). w.call) r.2, ap (λ (w : WithdrawnCall). w.end) r.2)

    -- THE LINEARIZATION

    placed_at : (x : Point) → Placed b x → Placed b' (point_at x)
    placed_at x p = record {
      call = call_at p.call;
      end = φ p.end;
      of_history = to_image p.call p.end p.of_history;
      is = ap begin_at p.is;
      after-begin = after-begin p.call p.end x.moment p.of_history p.after-begin;
      by_last_step = clock.steady x.moment p.call.last p.by_last_step;
    }

    sorted-at : (l : List Point) → Sorted l → Sorted (map point_at l)
    sorted-at [] s = tt
    sorted-at (x ∷ l) s = ((λ y j. let r = map_out point_at l y j in rw r.2 (clock.steady x.moment r.0.moment (s.0 r.0 r.1))), sorted-at l s.1)

    abbrev ats : List Point → List ℕ
    ats l = map (λ (e : Point). e.call.at) l

    once-at : (l : List Point) → ((x : Point) → x ∈ l → Placed b x) → Once (ats l) → Once (ats (map point_at l))
    once-at [] p o = tt
    once-at (x ∷ l) p o = ((λ j. go (map_out (λ (e : Point). e.call.at) (map point_at l) (φ x.call.at) j)), once-at l (λ y j. p y (inr j)) o.1)
      where
        go : (y : Point) × (y ∈ map point_at l) × (φ x.call.at ≡ y.call.at) → ⊥
        go (y, j, e) =
            let r = map_out point_at l y j in
            let u = p x (inl refl) in
            let v = p r.0 (inr r.1) in
            let eu = ap (λ (s : CallId). s.at) u.is in
            let ev = ap (λ (s : CallId). s.at) v.is in
            let q : φ x.call.at ≡ φ r.0.call.at = e ∙ ap (λ (y : Point). y.call.at) r.2 in
            let z = same-begin u.call v.call u.end v.end u.of_history v.of_history (sym (ap φ eu) ∙ q ∙ ap φ ev) in
            o.0 (subst (λ n. n ∈ ats l) (sym (eu ∙ z ∙ sym ev)) (mem_map (λ (e : Point). e.call.at) l r.0 r.1))

    replies-at : (cells : ℕ → ℕ) (l : List Point) (e : Point) (a : Response) → (e, a) ∈ replies cells l → (point_at e, a) ∈ replies cells (map point_at l)
    replies-at cells (x ∷ l) e a (inl q) = inl (ap (λ (p : Point × Response). (point_at p.0, p.1)) q)
    replies-at cells (x ∷ l) e a (inr j) = inr (replies-at (apply cells x.call.op) l e a j)
    replies-at cells [] e a x' = elim x' [ ]

    pub linearizes-at : {values : ℕ → ℕ} {l : List Point} → Linearizes values b l → Linearizes values b' (map point_at l)
    linearizes-at {values} {l} r = record {
      sorted = sorted-at l r.sorted;
      placed = λ e j. let x = map_out point_at l e j in subst (Placed b') (sym x.2) (placed_at x.0 (r.placed x.0 x.1));
      once = once-at l r.placed r.once;
      answers = λ f j. let g = map_out finished_at b.finished f (rw i.finished at j) in
          subst (λ (f : FinishedCall). (e : Point) × (e.call ≡ f.call.start) × (f.call.start.at < e.moment) × (e.moment ≤ f.call.last) × ((e, f.report.answer) ∈ replies values (map point_at l)))
          (sym g.2) (answers g.0 g.1);
    }
      where
        answers : (f : FinishedCall) → f ∈ b.finished → (e : Point) × (e.call ≡ begin_at f.call.start) × (φ f.call.start.at < e.moment) × (e.moment ≤ φ f.call.last) × ((e, f.report.answer) ∈ replies values (map point_at l))
        answers f j =
            let p = r.answers f j in
            (point_at p.0, ap begin_at p.1, after-begin f.call f.call.last p.0.moment (finished f j) p.2, clock.steady p.0.moment f.call.last p.3, replies-at values l p.0 f.report.answer p.4)

    -- THE BOUNDS

    pub bounds-at : Bounds b → Bounds b'
    bounds-at k = record {
      ended = λ f j. let g = map_out finished_at b.finished f (rw i.finished at j) in rw g.2 (k.ended g.0 g.1);
      reported = λ f j. let g = map_out finished_at b.finished f (rw i.finished at j) in rw g.2 (let r = k.reported g.0 g.1 in record { kind = r.kind; cell = r.cell; steps = r.steps; won = r.won; lost = r.lost });
      unended = λ t d h. let c = from_pending (b.pending t) d (sym (i.pending t) ∙ h) in rw c.2 (k.unended t c.0 c.1);
      withdrawn = λ w j. let v = map_out withdrawn_as b.withdrawn w (rw i.withdrawn at j) in rw v.2 (k.withdrawn v.0 v.1);
    }

    -- NO HARDWARE CAS WITHOUT CONTENTION

    alone_at : (c : Call) (n : ℕ) → CallOf b c n → Alone b' (call_at c) (φ n) → Alone b c n
    alone_at c n of alone d m of' unequal same other =
        go (alone (call_at d) (φ m) (to_image d m of') unequal same (λ e. other (same-begin d c m n of' of e)))
      where
        go : (φ m ≤ φ c.start.at) ⊎ (φ n ≤ φ d.start.at) → (m ≤ c.start.at) ⊎ (n ≤ d.start.at)
        go (inl z) = inl (by-begin c n m of z)
        go (inr z) = inr (by-begin d m n of' z)

    pub no_hardware_at : (Clear : List Action → ℕ → Type 0) → NoHardware Clear b → NoHardware Clear b'
    no_hardware_at Clear k d m of =
        let r = from_image d m of in
        subst (λ (x : Call × ℕ). Clear x.0.start.before (cell_of x.0.start.op) → Alone b' x.0 x.1 → attempts x.0 ≡ 0) (λ j. (sym r.3 j, sym r.4 j))
        (λ clear alone. k r.0 r.1 r.2 clear (alone_at r.0 r.1 r.2 alone))
