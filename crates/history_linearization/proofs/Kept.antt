-- What the proof keeps from action to action: a timeline of the calls that took effect. Each cell has a moment, `firm`, before which nothing
-- changes any more, and from which on no call stands yet.
use mathlib.Core.Path.{◌≡◌, refl, sym, ap, ◌∙◌, subst}
use mathlib.Core.Logic.{◌≢◌, ◌⊎◌, inl, inr}
use mathlib.Core.Bool.{Bool, true, not}
use mathlib.Core.Option.{Option, none, some}
use mathlib.Core.List.{List, [], ◌∷◌}
use Prim.Native.Nat.{ℕ, ◌≤◌, ◌<◌}
use native.Mathlib.Omega.{arith}
use lib.Dec.{T, T_not}
use Rattle.history_spec.specs.Basics.{upd, ◌∈◌}
use Rattle.history_spec.specs.History.{Op, cell_of, Response, Yes, CallId, Call, FinishedCall, Calls}
use Rattle.history_spec.specs.Linearization.{reply, value_left, apply, Point}
use Rattle.history_spec.specs.Moments.{Mark, point_of}
use Rattle.history_spec.proofs.Basics.{either, upd-at, upd_same, upd_off, some_inj, point}
use Rattle.history_linearization.proofs.Simulation.{Phase, settled, late, Ghost, Sided}
use Rattle.history_linearization.proofs.MovesOne.{Onward, From, MovesOne, from_where}
use Rattle.history_linearization.proofs.Timeline.{apply_at, apply_off, cell, Timeline}
use Rattle.history_linearization.proofs.Distinct.{call_begins}
use Rattle.history_linearization.proofs.Order.{begins}
use Rattle.history_linearization.proofs.Growing.{Joins, regarded, since, since_other, since_after, changed}

abbrev pub cell_of_lem : Call → ℕ
cell_of_lem c = cell_of c.start.op

-- THE CALLS THAT TOOK EFFECT

-- the finished ones, by their marks, and the pending swaps that are placed
pub data Entry (placed : ℕ → Bool) (when : ℕ → ℕ) (pending : ℕ → Option Call) (ms : List Mark) : Point → Response → Type 0 where
  of_finished : (m : Mark) → m ∈ ms → Entry placed when pending ms (point_of m) m.answer
  of_pending : (t : ℕ) (c : Call) → pending t ≡ some c → T (placed t) → Entry placed when pending ms (point c (when t)) Yes

-- a finished call's mark
pub record MarkOf (f : FinishedCall) (m : Mark) : Type 0 where
  pub call : m.call ≡ f.call.start
  pub answer : m.answer ≡ f.report.answer
  pub after-begin : f.call.start.at < m.spot.moment
  pub by_last_step : m.spot.moment ≤ f.call.last
  pub sided : Sided m.call.op m.answer m.spot

-- the marks are those of the finished calls, one for each
abbrev pub Marked : List FinishedCall → List Mark → Type 0
Marked [] [] = Unit {0}
Marked [] (m ∷ l) = ⊥
Marked (f ∷ k) [] = ⊥
Marked (f ∷ k) (m ∷ l) = MarkOf f m × Marked k l

pub same-begins : (k : List FinishedCall) (l : List Mark) → Marked k l → begins l ≡ call_begins k
same-begins [] [] M = refl
same-begins (f ∷ k) (m ∷ l) M = ap (λ n. n ∷ begins l) (ap (λ s. s.at) M.0.call) ∙ ap (λ n. f.call.start.at ∷ n) (same-begins k l M.1)
same-begins [] (m ∷ l) M = elim M [ ]
same-begins (f ∷ k) [] M = elim M [ ]

-- WHAT IS KEPT

-- the late store on cell k is of a pending call that began before the freezing and has stepped since
pub record Late (placed : ℕ → Bool) (froze : ℕ → ℕ) (pending : ℕ → Option Call) (k u : ℕ) : Type 0 where
  pub call : Call
  pub busy : pending u ≡ some call
  pub on : cell_of_lem call ≡ k
  pub after-begin : call.start.at < froze k
  pub by_last_step : froze k ≤ call.last
  pub unplaced : T (not (placed u))

pub record Kept (values : ℕ → ℕ) (g : Ghost) (b : Calls) (past : ℕ → ℕ → ℕ) (firm : ℕ → ℕ) (ms : List Mark) : Type 0 where
  pub line : Timeline values past (Entry g.placed g.when b.pending ms)
  pub ends : (k n : ℕ) → firm k ≤ n → past k n ≡ g.cells k
  pub firmed : (e : Point) (a : Response) → Entry g.placed g.when b.pending ms e a → e.moment < firm (cell e)
  pub bound : (k : ℕ) → firm k ≤ b.now
  pub marked : Marked b.finished ms
  pub stands : (t : ℕ) (c : Call) → b.pending t ≡ some c → T (g.placed t) → (c.start.at < g.when t) × (g.when t ≤ c.last)
  pub lates : (k u : ℕ) → g.phase k ≡ late u → Late g.placed g.since b.pending k u

pub settled_late : {p : Phase} {u : ℕ} {A : Type 0} → p ≡ settled → p ≡ late u → A
settled_late p q = absurd (let z : ◌≡◌ {A = ℕ} 0 1 = cc in omega arith)

-- the values of the cells, with the call that takes effect there behind all others on its cell
abbrev pub past⁺ : (ℕ → ℕ → ℕ) → (cells : ℕ → ℕ) → Point → ℕ → ℕ → ℕ
past⁺ past cells e = since past (cell e) e.moment (value_left (cells (cell e)) e.call.op)

module _ {values : ℕ → ℕ} {g : Ghost} {b : Calls} {past : ℕ → ℕ → ℕ} {firm : ℕ → ℕ} {ms : List Mark} (k : Kept values g b past firm ms) where
  -- THE CALLS MOVE, and none ends; what begins is not placed

  pub calls-kept : {slack t : ℕ} {b' : Calls} (m : MovesOne slack t b b') → Marked b'.finished ms →
      ((c : Call) → b.pending t ≡ some c → (d : Call) × (b'.pending t ≡ some d) × Onward c d) →
      (placed : ℕ → Bool) → ((u : ℕ) (c : Call) → b.pending u ≡ some c → placed u ≡ g.placed u) →
      ((u : ℕ) (d : Call) → b'.pending u ≡ some d → b.pending u ≡ none → T (not (placed u))) →
      Kept values (record { cells = g.cells; placed = placed; when = g.when; phase = g.phase; since = g.since }) b' past firm ms
  calls-kept {t = t} {b' = b'} m marked stay placed old new = record {
    line = regarded k.line to from;
    ends = k.ends;
    firmed = λ e a i. k.firmed e a (from e a i);
    bound = λ j. omega (arith, k.bound j, m.later);
    marked = marked;
    stands = λ u d h p. let c = was u d h p in let s = k.stands u c.0 c.1 (subst T (old u c.0 c.1) p) in omega (arith, ap (λ (s : CallId). s.at) c.2.start, c.2.last);
    lates = λ j u h. let p = k.lates j u h in let d = is u p.call p.busy in record {
      call = d.0;
      busy = d.1;
      on = subst (λ (s : CallId). cell_of s.op ≡ j) d.2.start p.on;
      after-begin = omega (arith, p.after-begin, ap (λ (s : CallId). s.at) d.2.start);
      by_last_step = omega (arith, p.by_last_step, d.2.last);
      unplaced = subst (λ x. T (not x)) (sym (old u p.call p.busy)) p.unplaced;
    };
  }
    where
      is : (u : ℕ) (c : Call) → b.pending u ≡ some c → (d : Call) × (b'.pending u ≡ some d) × Onward c d
      is u c h = go (either u t)
        where
          go : (u ≡ t) ⊎ (u ≢ t) → (d : Call) × (b'.pending u ≡ some d) × Onward c d
          go (inl e) = let d = stay c (rw e at h) in (d.0, ap b'.pending e ∙ d.1, d.2)
          go (inr n) = (c, m.others u n ∙ h, record { start = refl; last = omega arith })

      was : (u : ℕ) (d : Call) → b'.pending u ≡ some d → T (placed u) → (c : Call) × (b.pending u ≡ some c) × Onward c d
      was u d h p = go (from_where m u d h)
        where
          go : From b u d → (c : Call) × (b.pending u ≡ some c) × Onward c d
          go (inl c) = c
          go (inr i) = absurd (T_not (placed u) (new u d h i.0) p)

      -- a pending call's entry, by its begin
      At : (ℕ → Bool) → (ℕ → Option Call) → ℕ → CallId → Type 0
      At p q u s = Entry p g.when q ms (record { moment = g.when u; call = s }) Yes

      to : (e : Point) (a : Response) → Entry g.placed g.when b.pending ms e a → Entry placed g.when b'.pending ms e a
      to e a (of_finished x i) = of_finished x i
      to e a (of_pending u c h p) = let d = is u c h in subst (At placed b'.pending u) (sym d.2.start) (of_pending u d.0 d.1 (subst T (sym (old u c h)) p))

      from : (e : Point) (a : Response) → Entry placed g.when b'.pending ms e a → Entry g.placed g.when b.pending ms e a
      from e a (of_finished x i) = of_finished x i
      from e a (of_pending u d h p) = let c = was u d h p in subst (At g.placed b.pending u) c.2.start (of_pending u c.0 c.1 (subst T (old u c.0 c.1) p))

  -- THE PHASES MOVE, and moments become firm

  pub phases_kept : (phase : ℕ → Phase) (froze : ℕ → ℕ) (firm' : ℕ → ℕ) → ((j : ℕ) → (firm j ≤ firm' j) × (firm' j ≤ b.now)) →
      ((j u : ℕ) → phase j ≡ late u → Late g.placed froze b.pending j u) →
      Kept values (record { cells = g.cells; placed = g.placed; when = g.when; phase = phase; since = froze }) b past firm' ms
  phases_kept phase froze firm' up lates = record {
    line = k.line;
    ends = λ j n h. k.ends j n (omega (arith, (up j).0));
    firmed = λ e a i. omega (arith, k.firmed e a i, (up (cell e)).0);
    bound = λ j. (up j).1;
    marked = k.marked;
    stands = k.stands;
    lates = lates;
  }

  -- A POINT IS KEPT, of any call: it joins those that took effect, behind all others on its cell

  module _ (e : Point) (a : Response) {placed : ℕ → Bool} {when : ℕ → ℕ} {ms' : List Mark} (joins : Joins (Entry g.placed g.when b.pending ms) (Entry placed when b.pending ms') e a)
      (firm≤ : firm (cell e) ≤ e.moment) (says : reply (g.cells (cell e)) e.call.op ≡ a) where
    pub point_kept : (phase : ℕ → Phase) (firm' : ℕ → ℕ) → ((j : ℕ) → (firm j ≤ firm' j) × (firm' j ≤ b.now)) → e.moment < firm' (cell e) → Marked b.finished ms' →
        ((t : ℕ) (c : Call) → b.pending t ≡ some c → T (placed t) → (c.start.at < when t) × (when t ≤ c.last)) →
        ((j w : ℕ) → phase j ≡ late w → Late placed g.since b.pending j w) →
        Kept values (record { cells = apply g.cells e.call.op; placed = placed; when = when; phase = phase; since = g.since }) b (past⁺ past g.cells e) firm' ms'
    point_kept phase firm' up below marked stands lates = record {
      line = changed k.line e a joins (g.cells (cell e)) (λ n h. k.ends (cell e) n (omega arith)) says (λ x b i q. omega (arith, k.firmed x b i, ap firm q));
      ends = λ j n h. ends j n h (either j (cell e));
      firmed = λ x b i. firmed x b (joins.split x b i);
      bound = λ j. (up j).1;
      marked = marked;
      stands = stands;
      lates = lates;
    }
      where
        ends : (j n : ℕ) → firm' j ≤ n → (j ≡ cell e) ⊎ (j ≢ cell e) → past⁺ past g.cells e j n ≡ apply g.cells e.call.op j
        ends j n h (inl q) = since_after past (cell e) e.moment _ j n q (omega (arith, ap firm' q)) ∙ ap (λ i. value_left (g.cells i) e.call.op) (sym q) ∙ sym (apply_at g.cells e.call.op j q)
        ends j n h (inr q) = since_other past (cell e) e.moment _ j n q ∙ k.ends j n (omega (arith, (up j).0)) ∙ sym (apply_off g.cells e.call.op j q)

        firmed : (x : Point) (b₁ : Response) → ((x ≡ e) × (b₁ ≡ a)) ⊎ Entry g.placed g.when b.pending ms x b₁ → x.moment < firm' (cell x)
        firmed x b₁ (inl q) = subst (λ (x : Point). x.moment < firm' (cell x)) (sym q.0) below
        firmed x b₁ (inr i) = omega (arith, k.firmed x b₁ i, (up (cell x)).0)

  -- A PENDING SWAP TAKES EFFECT: task u's, at the moment m

  module _ (u : ℕ) (c : Call) (busy : b.pending u ≡ some c) (unplaced : T (not (g.placed u))) (m : ℕ) (from-begin : c.start.at < m) (lasts : m ≤ c.last) (firm≤ : firm (cell_of_lem c) ≤ m)
      (says : reply (g.cells (cell_of_lem c)) c.start.op ≡ Yes) where
    abbrev op : Op
    op = c.start.op

    abbrev placed⁺ : ℕ → Bool
    placed⁺ = upd g.placed u true

    abbrev when⁺ : ℕ → ℕ
    when⁺ = upd g.when u m

    other : (t : ℕ) → T (g.placed t) → t ≢ u
    other t p e = T_not (g.placed u) unplaced (subst (λ n. T (g.placed n)) e p)

    joins : Joins (Entry g.placed g.when b.pending ms) (Entry placed⁺ when⁺ b.pending ms) (point c m) Yes
    joins = record { old = old; new = new; split = split }
      where
        old : (e : Point) (a : Response) → Entry g.placed g.when b.pending ms e a → Entry placed⁺ when⁺ b.pending ms e a
        old e a (of_finished x i) = of_finished x i
        old e a (of_pending t d h p) = let n = other t p in subst (λ j. Entry placed⁺ when⁺ b.pending ms (point d j) Yes) (upd_off g.when u m t n) (of_pending t d h (subst T (sym (upd_off g.placed u true t n)) p))

        new : Entry placed⁺ when⁺ b.pending ms (point c m) Yes
        new = subst (λ j. Entry placed⁺ when⁺ b.pending ms (point c j) Yes) (upd_same g.when u m) (of_pending u c busy (subst T (sym (upd_same g.placed u true)) tt))

        split : (e : Point) (a : Response) → Entry placed⁺ when⁺ b.pending ms e a → ((e ≡ point c m) × (a ≡ Yes)) ⊎ Entry g.placed g.when b.pending ms e a
        split e a (of_finished x i) = inr (of_finished x i)
        split e a (of_pending t d h p) = go (either t u)
          where
            go : (t ≡ u) ⊎ (t ≢ u) → ((point d (when⁺ t) ≡ point c m) × (Yes ≡ Yes)) ⊎ Entry g.placed g.when b.pending ms (point d (when⁺ t)) Yes
            go (inl e) = inl (ap (λ j. point d j) (upd-at g.when u m t e) ∙ ap (λ (d : Call). point d m) (some_inj (rw e at h) busy), refl)
            go (inr n) = inr (subst (λ j. Entry g.placed g.when b.pending ms (point d j) Yes) (sym (upd_off g.when u m t n)) (of_pending t d h (subst T (upd_off g.placed u true t n) p)))

    pub effect-kept : (phase : ℕ → Phase) (firm' : ℕ → ℕ) → ((j : ℕ) → (firm j ≤ firm' j) × (firm' j ≤ b.now)) → m < firm' (cell_of_lem c) → phase (cell_of_lem c) ≡ settled →
        ((j w : ℕ) → phase j ≡ late w → Late g.placed g.since b.pending j w) →
        Kept values (record { cells = apply g.cells op; placed = placed⁺; when = when⁺; phase = phase; since = g.since }) b (past⁺ past g.cells (point c m)) firm' ms
    effect-kept phase firm' up below calm lates = point_kept (point c m) Yes joins firm≤ says phase firm' up below k.marked
        (λ t d h p. stands t d h p (either t u))
        (λ j w h. let p = lates j w h in record { call = p.call; busy = p.busy; on = p.on; after-begin = p.after-begin; by_last_step = p.by_last_step; unplaced = subst (λ x. T (not x)) (sym (upd_off g.placed u true w (unlate j w h p))) p.unplaced })
      where
        stands : (t : ℕ) (d : Call) → b.pending t ≡ some d → T (placed⁺ t) → (t ≡ u) ⊎ (t ≢ u) → (d.start.at < when⁺ t) × (when⁺ t ≤ d.last)
        stands t d h p (inl e) = subst (λ (d : Call). (d.start.at < when⁺ t) × (when⁺ t ≤ d.last)) (some_inj busy (rw e at h)) (omega (arith, upd-at g.when u m t e))
        stands t d h p (inr n) = let s = k.stands t d h (subst T (upd_off g.placed u true t n) p) in omega (arith, upd_off g.when u m t n)

        -- a late store is on a cell that is not settled
        unlate : (j w : ℕ) → phase j ≡ late w → Late g.placed g.since b.pending j w → w ≢ u
        unlate j w h p e = settled_late (ap phase (sym (ap cell_of_lem (some_inj busy (rw e at p.busy)) ∙ p.on)) ∙ calm) h
