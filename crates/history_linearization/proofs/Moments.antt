-- The marks of any machine with a simulation, in their order, are a linearization: of all finished calls and of the listed pending swaps.
use mathlib.Core.Path.{◌≡◌, refl, sym, ap, ap₂, ◌∙◌, subst}
use mathlib.Core.Logic.{◌≢◌, ◌⊎◌, inl, inr}
use mathlib.Core.Bool.{Bool, true, false}
use mathlib.Core.Option.{Option, none, some}
use mathlib.Core.List.{List, [], ◌∷◌, ◌++◌, map}
use Prim.Native.Nat.{ℕ, zero, suc, ◌+◌, ◌<◌}
use native.Mathlib.Omega.{arith}
use lib.Dec.{T}
use Rattle.history_spec.specs.Basics.{◌∈◌, Once}
use Rattle.history_spec.specs.History.{Op, Action, Event, history, run, Response, Yes, Call, FinishedCall, WithdrawnCall, Calls, no_calls, calls_of, CallOf, pending, finished, withdrawn, cell_of, CallId, Complete}
use Rattle.history_spec.specs.Linearization.{Point, replies, Placed, Linearizes}
use Rattle.history_spec.specs.Moments.{before, itself, Spot, Mark, point_of, reply_of, Names, beside, mark_of_pending, pending_marks, sort, linearized, ListedExactly}
use Rattle.history_spec.proofs.Basics.{either, clash, some_inj, mem_append, mem_left, mem_right, mem_map, point}
use Rattle.history_linearization.proofs.Simulation.{Knowledge, Sided, Named, Simulation, late, Ghost}
use Rattle.history_linearization.proofs.Tracks.{tallied, tally_of}
use Rattle.history_linearization.proofs.MovesOne.{Dated}
use Rattle.history_linearization.proofs.Distinct.{call_begins, drop_begins}
use Rattle.history_linearization.proofs.Parked.{is-there, was_there, everyone, with_parked, task-is, parked_is, task_or_parked, nobody-there}
use Rattle.history_linearization.proofs.Order.{sort_in, in_sort, begins, from_begins, to_begins, sort-once, total, sort-total}
use Rattle.history_linearization.proofs.Timeline.{left_by, cell, Marks, points_in, sorted-answers, sorted-left, sorted_points}
use Rattle.history_linearization.proofs.Kept.{Entry, of_finished, of_pending, MarkOf, Marked, same-begins}
use Rattle.history_linearization.proofs.Emitted.{in_drops, only_one, mark_at, weight}
use Rattle.history_linearization.proofs.Moves.{firm, knows}
use Rattle.history_linearization.proofs.Linearize.{Simulated}
use Rattle.history_linearization.proofs.EveryAction.{Good, AtEnd, at-end}

-- LISTS

once_both : (a b : List Mark) → Once (begins a) → Once (begins b) → ((m : Mark) → m ∈ a → ¬ (m.call.at ∈ begins b)) → Once (begins (a ++ b))
once_both [] b o p d = p
once_both (x ∷ a) b o p d = ((λ i. let m = from_begins (a ++ b) x.call.at i in go m.0 m.2 (mem_append a b m.0 m.1)), once_both a b o.1 p (λ m i. d m (inr i)))
  where
    go : (m : Mark) → x.call.at ≡ m.call.at → (m ∈ a) ⊎ (m ∈ b) → ⊥
    go m e (inl j) = o.0 (rw e (to_begins a m j))
    go m e (inr j) = d x (inl refl) (rw e (to_begins b m j))

point_begins : (l : List Mark) → map (λ e. e.call.at) (map point_of l) ≡ begins l
point_begins [] = refl
point_begins (m ∷ l) = ap (λ n. m.call.at ∷ n) (point_begins l)

-- MARKS OF FINISHED CALLS

mark_of : (k : List FinishedCall) (l : List Mark) → Marked k l → (f : FinishedCall) → f ∈ k → (m : Mark) × (m ∈ l) × MarkOf f m
mark_of (g ∷ k) (m ∷ l) M f (inl e) = (m, inl refl, rw e M.0)
mark_of (g ∷ k) (m ∷ l) M f (inr i) = let r = mark_of k l M.1 f i in (r.0, inr r.1, r.2)
mark_of [] l M f x'' = elim x'' [ ]
mark_of (g ∷ k) [] M f _ = elim M [ ]

of_mark : (k : List FinishedCall) (l : List Mark) → Marked k l → (m : Mark) → m ∈ l → (f : FinishedCall) × (f ∈ k) × MarkOf f m
of_mark [] (x ∷ l) M m i = absurd M
of_mark (f ∷ k) (x ∷ l) M m (inl e) = (f, inl refl, rw e M.0)
of_mark (f ∷ k) (x ∷ l) M m (inr i) = let r = of_mark k l M.1 m i in (r.0, inr r.1, r.2)
of_mark [] [] M m i = elim i [ ]
of_mark (f ∷ k) [] M m i = elim M [ ]

-- MARKS OF PENDING SWAPS

module _ {S : Type 0} (machine : S → Action → S × Event) (names : Names S) (s : S) (b : Calls) where
  record Listed (t : ℕ) (m : Mark) : Type 0 where
    call : Call
    spot : Spot
    busy : b.pending t ≡ some call
    stands : names.standing s t ≡ some spot
    is : m ≡ mark_at call spot

  one : (t : ℕ) (p : Option Spot) (o : Option Call) → names.standing s t ≡ p → b.pending t ≡ o → (m : Mark) → m ∈ mark_of_pending machine names p o → Listed t m
  one t (some p) (some c) e h m (inl i) = record { call = c; spot = p; busy = h; stands = e; is = i }
  one t (some p) (some c) e h m (inr i) = absurd i
  one t (some p) none e h m i = absurd i
  one t none o e h m i = absurd i

  listed_in : (n : ℕ) (m : Mark) → m ∈ pending_marks machine names s b n → (t : ℕ) × (t < n) × Listed t m
  listed_in zero m i = absurd i
  listed_in (suc t) m i = go (listed_in t m) (mem_append (mark_of_pending machine names (names.standing s t) (b.pending t)) (pending_marks machine names s b t) m i)
    where
      go : (m ∈ pending_marks machine names s b t → (u : ℕ) × (u < t) × Listed u m) → (m ∈ mark_of_pending machine names (names.standing s t) (b.pending t)) ⊎ (m ∈ pending_marks machine names s b t) → (u : ℕ) × (u < suc t) × Listed u m
      go r (inl j) = (t, omega arith, one t (names.standing s t) (b.pending t) refl refl m j)
      go r (inr j) = let u = r j in (u.0, omega (arith, u.1), u.2)

  in_listed : (n t : ℕ) (c : Call) (p : Spot) → t < n → b.pending t ≡ some c → names.standing s t ≡ some p → mark_at c p ∈ pending_marks machine names s b n
  in_listed zero t c p l h e = absurd (omega arith)
  in_listed (suc n) t c p l h e = go (either t n) (in_listed n t c p)
    where
      go : (t ≡ n) ⊎ (t ≢ n) → (t < n → b.pending t ≡ some c → names.standing s t ≡ some p → mark_at c p ∈ pending_marks machine names s b n) → mark_at c p ∈ pending_marks machine names s b (suc n)
      go (inl z) r = rw (← z, e, h) (inl refl)
      go (inr z) r = mem_right (mark_of_pending machine names (names.standing s n) (b.pending n)) (pending_marks machine names s b n) (mark_at c p) (r (omega arith) h e)

  pending-once : Dated b → (n : ℕ) → Once (begins (pending_marks machine names s b n))
  pending-once dated zero = tt
  pending-once dated (suc t) = once_both (mark_of_pending machine names (names.standing s t) (b.pending t)) (pending_marks machine names s b t) (single (names.standing s t) (b.pending t)) (pending-once dated t) apart
    where
      single : (p : Option Spot) (o : Option Call) → Once (begins (mark_of_pending machine names p o))
      single (some p) (some c) = ((λ i. i), tt)
      single (some p) none = tt
      single none o = tt

      apart : (m : Mark) → m ∈ mark_of_pending machine names (names.standing s t) (b.pending t) → ¬ (m.call.at ∈ begins (pending_marks machine names s b t))
      apart m i j =
          let w = from_begins (pending_marks machine names s b t) m.call.at j in
          let x = one t (names.standing s t) (b.pending t) refl refl m i in
          let y = listed_in t w.0 w.1 in
          let at : Mark → ℕ = λ (m : Mark). m.call.at in
          omega (arith, y.1, dated.distinct t y.0 x.call y.2.call x.busy y.2.busy (ap at (sym x.is) ∙ w.2 ∙ ap at y.2.is))

-- ALL OF IT

module _ {S N : Type 0} {machine : S → Action → S × Event} {note : N → S → Action → Event → N} {names : Names (S × N)} {start : S} {blank : N} {ready : S → Op → Type 0} {tasks size : ℕ} {values : ℕ → ℕ}
    (M : Simulation machine note names start blank ready tasks size values) (l : List Action) where
  r : AtEnd M (start, blank) no_calls [] l
  r = at-end M l

  abbrev x : S × N
  x = run (beside machine note) (start, blank) l

  abbrev b : Calls
  b = calls_of (history machine start l)

  abbrev G : Good M x b r.finished r.emitted
  G = r.good

  abbrev m : Simulated M x (with_parked tasks b) r.finished
  m = G.simulated

  abbrev κ : Knowledge
  κ = knows (with_parked tasks b) m.past (firm m.ghost b.now)

  abbrev waiting : List Mark
  waiting = pending_marks (beside machine note) names x b tasks

  abbrev E : Point → Response → Type 0
  E = Entry m.ghost.placed m.ghost.when (everyone tasks b) r.finished

  doing : (t : ℕ) (c : Call) → b.pending t ≡ some c → M.doing x.0 t ≡ some (tallied c)
  doing t c h = G.tracks t ∙ ap tally_of h

  -- a listed swap took effect, where it is listed: under the number u
  record Effect (u : ℕ) (p : Spot) : Type 0 where
    placed : T (m.ghost.placed u)
    when : p.moment ≡ m.ghost.when u
    itself-there : p.side ≡ itself

  effect_of : (u : ℕ) (o : Option Spot) (p : Spot) → o ≡ some p → (T (m.ghost.placed u) → Named o (m.ghost.when u)) → ((m.ghost.placed u ≡ false) → o ≡ none) → Effect u p
  effect_of u o p is named unnamed = go (m.ghost.placed u) refl
    where
      go : (z : Bool) → m.ghost.placed u ≡ z → Effect u p
      go false e = absurd (clash (unnamed e) is)
      go true e =
          let q = named (rw e tt) in
          let s : p ≡ q.spot = some_inj is q.is in
          record { placed = rw e tt; when = ap (λ (p : Spot). p.moment) s ∙ q.moment; itself-there = ap (λ (p : Spot). p.side) s ∙ q.side }

  effect : (t : ℕ) (w : Mark) (y : Listed (beside machine note) names x b t w) → Effect t y.spot
  effect t w y = let d = doing t y.call y.busy in effect_of t (names.standing x t) y.spot y.stands
      (M.listed x m.ghost κ m.inv t (tallied y.call) d) (λ e. M.unlisted x m.ghost κ m.inv t (tallied y.call) d (rw e tt))

  left-effect : (v : WithdrawnCall) → v ∈ b.withdrawn → (p : Spot) → M.left x v.end ≡ some p → Effect (tasks + v.end) p
  left-effect v i p y = let h = subst (λ n. v.end < n) (sym m.clock) (is-there b.withdrawn b.now G.ordered v i).0 in effect_of (tasks + v.end) (M.left x v.end) p y
      (M.listed_withdrawn x m.ghost κ m.inv v.end h) (λ e. M.unlisted_withdrawn x m.ghost κ m.inv v.end h (rw e tt))

  waits : (w : Mark) → w ∈ waiting → (t : ℕ) × (t < tasks) × Listed (beside machine note) names x b t w
  waits = listed_in (beside machine note) names x b tasks

  -- the call has this number, its swap took effect, and the mark says where
  record Stands (w : Mark) : Type 0 where
    call : Call
    end : ℕ
    number : ℕ
    spot : Spot
    of_history : CallOf b call end
    there : everyone tasks b number ≡ some call
    effect-there : Effect number spot
    is : w ≡ record { spot = spot; call = call.start; answer = Yes }

  waits_there : (w : Mark) → w ∈ waiting → Stands w
  waits_there w i =
      let y = waits w i in
      record { call = y.2.call; end = b.now; number = y.0; spot = y.2.spot; of_history = pending y.0 y.2.call y.2.busy; there = task-is tasks b y.0 y.1 ∙ y.2.busy; effect-there = effect y.0 w y.2; is = y.2.is }

  abbrev every_mark : List Mark
  every_mark = waiting ++ r.emitted

  -- whence a mark is
  whence : (w : Mark) → w ∈ every_mark → Stands w ⊎ (w ∈ r.finished)
  whence w i = go (mem_append waiting r.emitted w i)
    where
      made : (w ∈ r.finished) ⊎ ((v : WithdrawnCall) × (v ∈ b.withdrawn) × (p : Spot) × (M.left x v.end ≡ some p) × (w ≡ record { spot = p; call = v.call.start; answer = Yes })) → Stands w ⊎ (w ∈ r.finished)
      made (inl j) = inr j
      made (inr (v, j, p, z, q)) = inl (record {
        call = v.call;
        end = v.end;
        number = tasks + v.end;
        spot = p;
        of_history = withdrawn v j;
        there = parked_is tasks b v.end ∙ (is-there b.withdrawn b.now G.ordered v j).1;
        effect-there = left-effect v j p z;
        is = q;
      })

      go : (w ∈ waiting) ⊎ (w ∈ r.emitted) → Stands w ⊎ (w ∈ r.finished)
      go (inl j) = inl (waits_there w j)
      go (inr j) = made (G.emits.from w j)

  same : begins r.finished ≡ call_begins b.finished
  same = same-begins b.finished r.finished m.kept.marked

  all-marks : Marks E every_mark
  all-marks = record {
    theirs = λ w i. theirs w (whence w i);
    all = all;
    once = once_both waiting r.emitted (pending-once (beside machine note) names x b G.dated tasks) G.emits.once
        (λ w i j. let y = (waits w i).2 in let f = from_begins r.emitted w.call.at j in apart y.call _ y.busy f.0 (sym (ap (λ (w : Mark). w.call.at) y.is) ∙ f.2) (G.emits.from f.0 f.1));
    sided = λ w i. sided w (whence w i);
  }
    where
      apart : (c : Call) (t : ℕ) → b.pending t ≡ some c → (f : Mark) → c.start.at ≡ f.call.at → (f ∈ r.finished) ⊎ ((v : WithdrawnCall) × (v ∈ b.withdrawn) × (p : Spot) × (M.left x v.end ≡ some p) × (f ≡ record { spot = p; call = v.call.start; answer = Yes })) → ⊥
      apart c t h f e (inl j) = G.distinct.apart t c h (inl (subst (λ n. n ∈ call_begins b.finished) (sym e) (subst (λ k. f.call.at ∈ k) same (to_begins r.finished f j))))
      apart c t h f e (inr (v, j, p, z, q)) = G.distinct.apart t c h (inr (subst (λ n. n ∈ drop_begins b.withdrawn) (sym (e ∙ ap (λ (w : Mark). w.call.at) q)) (in_drops b.withdrawn v j)))

      theirs : (w : Mark) → Stands w ⊎ (w ∈ r.finished) → E (point_of w) w.answer
      theirs w (inl y) = subst (λ (w : Mark). E (point_of w) w.answer) (sym y.is) (subst (λ n. E (point y.call n) Yes) (sym y.effect-there.when) (of_pending y.number y.call y.there y.effect-there.placed))
      theirs w (inr i) = of_finished w i

      all : (e : Point) (a : Response) → E e a → (w : Mark) × (w ∈ every_mark) × (e ≡ point_of w) × (a ≡ w.answer)
      all e a (of_finished w i) = (w, mem_right waiting r.emitted w (G.emits.ended w i), refl, refl)
      all e a (of_pending u c h p) = go (task_or_parked tasks u)
        where
          go : (u < tasks) ⊎ ((n : ℕ) × (u ≡ tasks + n)) → (w : Mark) × (w ∈ every_mark) × (point c (m.ghost.when u) ≡ point_of w) × (Yes ≡ w.answer)
          go (inl k) =
              let i : b.pending u ≡ some c = sym (task-is tasks b u k) ∙ h in
              let q = M.listed x m.ghost κ m.inv u (tallied c) (doing u c i) p in
              let w : Mark = record { spot = q.spot; call = c.start; answer = Yes } in
              (w, mem_left waiting r.emitted w (in_listed (beside machine note) names x b tasks u c q.spot k i q.is), ap (λ n. point c n) (sym q.moment), refl)
          go (inr (n, k)) =
              let v = was_there b.withdrawn n c (sym (parked_is tasks b n) ∙ subst (λ u. everyone tasks b u ≡ some c) k h) in
              let f = (is-there b.withdrawn b.now G.ordered v.0 v.1).0 in
              let q = M.listed_withdrawn x m.ghost κ m.inv n (rw (v.2, sym m.clock) at f) (subst (λ u. T (m.ghost.placed u)) k p) in
              let w : Mark = record { spot = q.spot; call = v.0.call.start; answer = Yes } in (
                w,
                mem_right waiting r.emitted w (G.emits.left v.0 v.1 q.spot (ap (M.left x) v.2 ∙ q.is)),
                ap (λ (c : Call). point c (m.ghost.when u)) (sym v.3) ∙ ap (λ n. point v.0.call n) (ap m.ghost.when k ∙ sym q.moment),
                refl,
              )

      itself-is : itself ≡ before → ⊥
      itself-is z = let w : ◌≡◌ {A = ℕ} 0 1 = cc in omega arith

      sided : (w : Mark) → Stands w ⊎ (w ∈ r.finished) → Sided w.call.op w.answer w.spot
      sided w (inl y) =
          let s : w.spot.side ≡ itself = ap (λ (w : Mark). w.spot.side) y.is ∙ y.effect-there.itself-there in
          record { never_before = λ z. itself-is (sym s ∙ z); change_itself = λ z. s }
      sided w (inr i) = (of_mark b.finished r.finished m.kept.marked w i).2.sided

  abbrev sorted : List Mark
  sorted = sort every_mark

  answers-sorted : replies values (map point_of sorted) ≡ map reply_of sorted
  answers-sorted = sorted-answers m.kept.line all-marks

  placed : (w : Mark) → Stands w ⊎ (w ∈ r.finished) → Placed b (point_of w)
  placed w (inl y) =
      let f = y.effect-there in
      let s = m.kept.stands y.number y.call y.there f.placed in
      subst (λ (w : Mark). Placed b (point_of w)) (sym y.is) (record { call = y.call; end = y.end; of_history = y.of_history; is = refl; after-begin = omega (arith, f.when); by_last_step = omega (arith, f.when) })
  placed w (inr i) =
      let f = of_mark b.finished r.finished m.kept.marked w i in
      record { call = f.0.call; end = f.0.call.last; of_history = finished f.0 f.1; is = f.2.call; after-begin = f.2.after-begin; by_last_step = f.2.by_last_step }

  linearizes : Linearizes values b (map point_of sorted)
  linearizes = record {
    sorted = sorted_points m.kept.line all-marks;
    placed = λ e i. let w = points_in sorted e i in subst (Placed b) (sym w.2) (placed w.0 (whence w.0 (sort_in every_mark w.0 w.1)));
    once = subst Once (sym (point_begins sorted)) (sort-once every_mark all-marks.once);
    answers = λ f i. let w = mark_of b.finished r.finished m.kept.marked f i in (
      point_of w.0,
      w.2.call,
      w.2.after-begin,
      w.2.by_last_step,
      subst (λ q. (point_of w.0, f.report.answer) ∈ q) (sym answers-sorted) (subst (λ a. (point_of w.0, a) ∈ map reply_of sorted) w.2.answer
          (mem_map reply_of sorted w.0 (in_sort every_mark w.0 (mem_right waiting r.emitted w.0 (G.emits.ended w.0 w.1))))),
    );
  }

  abbrev pub placing : List Mark
  placing = linearized (beside machine note) names tasks (start, blank) l

  are_sorted : placing ≡ sorted
  are_sorted = ap sort r.all-marks

  -- The marks in their order are a linearization of the history: of every finished call, and of the pending and withdrawn swaps that are listed.
  pub marks_linearize : Linearizes values (calls_of (history machine start l)) (map point_of placing)
  marks_linearize = subst (λ ms. Linearizes values b (map point_of ms)) (sym are_sorted) linearizes

  -- Fed the calls in this order, the sequential cells give each the answer that it had, and yes to the listed pending and withdrawn swaps.
  pub marks-answers : replies values (map point_of placing) ≡ map reply_of placing
  marks-answers = subst (λ ms. replies values (map point_of ms) ≡ map reply_of ms) (sym are_sorted) answers-sorted

  -- No call takes effect immediately before an action.
  pub never_before : (w : Mark) → w ∈ placing → w.spot.side ≢ before
  never_before w i = (all-marks.sided w (sort_in every_mark w (subst (λ ms. w ∈ ms) are_sorted i))).never_before

  -- A withdrawn call is listed exactly where it took effect.
  pub withdrawn_listed : (v : WithdrawnCall) → v ∈ b.withdrawn → ListedExactly placing v.call (M.left x v.end)
  withdrawn_listed v i p = (
    (λ j. there (mem_append waiting r.emitted w (sort_in every_mark w (subst (λ ms. w ∈ ms) are_sorted j)))),
    (λ z. subst (λ ms. w ∈ ms) (sym are_sorted) (in_sort every_mark w (mem_right waiting r.emitted w (G.emits.left v i p z)))),
  )
    where
      w : Mark
      w = mark_at v.call p

      mine : v.call.start.at ∈ drop_begins b.withdrawn
      mine = in_drops b.withdrawn v i

      made : (w ∈ r.finished) ⊎ ((u : WithdrawnCall) × (u ∈ b.withdrawn) × (q : Spot) × (M.left x u.end ≡ some q) × (w ≡ mark_at u.call q)) → M.left x v.end ≡ some p
      made (inl j) = absurd (G.distinct.apart_withdrawn v.call.start.at (subst (λ k. v.call.start.at ∈ k) same (to_begins r.finished w j)) mine)
      made (inr (u, j, q, z, e)) = ap (λ (v : WithdrawnCall). M.left x v.end) (only_one b.withdrawn G.distinct.once-withdrawn v u i j (ap (λ (m : Mark). m.call.at) e)) ∙ z ∙ ap (λ (m : Mark). some m.spot) (sym e)

      there : (w ∈ waiting) ⊎ (w ∈ r.emitted) → M.left x v.end ≡ some p
      there (inl k) = let y = waits w k in absurd (G.distinct.apart y.0 y.2.call y.2.busy (inr (subst (λ n. n ∈ drop_begins b.withdrawn) (ap (λ (m : Mark). m.call.at) y.2.is) mine)))
      there (inr k) = made (G.emits.from w k)

  -- the machine's invariant, with sequential cells as the marks leave them; no late store is awaited on a cell where every call is finished
  pub record Rests : Type 1 where
    pub ghost : Ghost
    pub known : Knowledge
    pub inv : M.Inv x ghost known
    pub left : (k : ℕ) → ghost.cells k ≡ left_by values (map point_of placing) k
    pub nothing_late : (k : ℕ) → Complete b k → (u : ℕ) → ghost.phase k ≢ late u

  pub rests : Rests
  rests = record {
    ghost = m.ghost;
    known = κ;
    inv = m.inv;
    left = λ k. sym (m.kept.ends k b.now (m.kept.bound k)) ∙ sym (sorted-left m.kept.line all-marks k b.now (λ e a i. omega (arith, m.kept.firmed e a i, m.kept.bound (cell e))))
        ∙ ap (λ (ms : List Mark). left_by values (map point_of ms) k) (sym are_sorted);
    nothing_late = λ k all u h. let l = m.kept.lates k u h in nobody-there tasks b k all u l.call l.busy l.on;
  }

  -- A sum over the marks, in which only calls on a cell weigh, is the sum over the finished calls, where every call on that cell is finished.
  pub marks-total : (k : ℕ) → Complete b k → (w : Op → Response → ℕ) → ((op : Op) (a : Response) → cell_of op ≢ k → w op a ≡ 0) →
      total (λ (m : Mark). w m.call.op m.answer) placing ≡ total (λ (f : FinishedCall). w f.call.start.op f.report.answer) b.finished
  marks-total k all w off =
      ap (weight w) are_sorted ∙ sort-total (λ (m : Mark). w m.call.op m.answer) every_mark ∙ nobody-waits tasks
      ∙ G.emits.weighs w (λ v i. off v.call.start.op Yes (all.none_withdrawn v i)) ∙ aligned b.finished r.finished m.kept.marked
    where
      nobody-waits : (n : ℕ) → weight w (pending_marks (beside machine note) names x b n ++ r.emitted) ≡ weight w r.emitted
      nobody-waits zero = refl
      nobody-waits (suc t) = go (names.standing x t) (b.pending t) (all.none_pending t) ∙ nobody-waits t
        where
          go : (p : Option Spot) (o : Option Call) → ((c : Call) → o ≡ some c → cell_of c.start.op ≢ k) →
              weight w ((mark_of_pending (beside machine note) names p o ++ pending_marks (beside machine note) names x b t) ++ r.emitted) ≡ weight w (pending_marks (beside machine note) names x b t ++ r.emitted)
          go none o h = refl
          go (some p) none h = refl
          go (some p) (some c) h = omega (arith, off c.start.op Yes (h c refl))

      aligned : (k : List FinishedCall) (l : List Mark) → Marked k l → weight w l ≡ total (λ (f : FinishedCall). w f.call.start.op f.report.answer) k
      aligned [] [] M = refl
      aligned (f ∷ k) (m ∷ l) M = omega (arith, ap₂ (λ (c : CallId) (a : Response). w c.op a) M.0.call M.0.answer, aligned k l M.1)
      aligned [] (m ∷ l) M = elim M [ ]
      aligned (f ∷ k) [] M = elim M [ ]
