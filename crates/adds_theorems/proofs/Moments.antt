-- The listed calls of a list with adds are those of its plain actions, in the same order, at their requests' moments: a linearization, and
-- every answer is that of the sequential specification.
use mathlib.Core.Path.{◌≡◌, refl, sym, ap, ◌∙◌, subst}
use mathlib.Core.Logic.{◌≢◌, ◌⊎◌, inl, inr}
use mathlib.Core.Bool.{Bool, true, false, cond}
use mathlib.Core.Option.{Option, none, some}
use mathlib.Core.List.{List, [], ◌∷◌, ◌++◌, map}
use Prim.Native.Nat.{ℕ, suc, ◌+◌, ◌<◌}
use native.Mathlib.Omega.{arith}
use lib.ListN.{get_or, length}
use Rattle.figure_lines.specs.Record.{no_value}
use Rattle.cells_spec.specs.declared.State.{State}
use Rattle.cells_spec.specs.Questions.{refusal, open_questions}
use Rattle.history_spec.specs.Basics.{upd, ◌∈◌}
use Rattle.history_spec.specs.History.{Op, read, cell_of, Action, begin, step, drop, Event, refused, accepted, answered, Response, history, run, Call, WithdrawnCall, Calls, no_calls, also_withdrawn, enter, enter_all, calls_of}
use Rattle.history_spec.specs.Linearization.{reply, apply, Point, replies, Linearizes}
use Rattle.history_spec.specs.Demand3.{clear_after}
use Rattle.history_spec.specs.Moments.{Mark, point_of, reply_of, marked, marks, pending_marks, key, not_after, insert, sort}
use Rattle.history_spec.proofs.Basics.{either}
use Rattle.history_linearization.proofs.Order.{sort_in, in_sort}
use Rattle.history_spec.proofs.Basics.{mem_map}
use Rattle.cells_spec.specs.Machine.{Pool, pool}
use Rattle.figure.specs.Figure.{figure, opening, clear}
use Rattle.figure_moments.specs.Moments.{Sight, Notes, no_notes, nothing_noted, note, noting, names}
use Rattle.cells_theorems.specs.Terms.{start}
use Rattle.cells_theorems.specs.Moments.{sees_pool, pool_moments}
use Rattle.cells_theorems.proofs.Demand3.{cells_meet_demand_3}
use Rattle.cells_theorems.proofs.Moments.{cell_moments_linearize, cell_moments_answers}
use Rattle.adds_spec.specs.Requests.{Request, act, add, plain, fresh_add, Ahead, part, end, ahead, tries_ok, handled, onwards, steps_on, add_begins, handles, with_adds, no_adds}
use Rattle.adds_spec.specs.declared.Add.{Add}
use Rattle.adds_spec.specs.Demand3.{dids_of, at_moment, enter_did, enter_dids}
use Rattle.adds_spec.proofs.Images.{point_at, Image, linearizes-at}
use Rattle.adds_spec.proofs.Clock.{enter-now, image_at, enter_image, stamped, stamps, joined, Reads, here, further, clock_of}
use Rattle.adds_spec.proofs.Plays.{actions_of, played, requested, flat, flat_history}
use Rattle.adds_spec.proofs.Meets.{retelling}
use Rattle.adds_theorems.specs.Moments.{note_did, marked_did, request_marks, pool_request_moments}
use Rattle.adds_theorems.proofs.SameNotes.{First, Clocked, Tie, Tied, tied_on, tied_on', note_tied, same_order, FirstDrops, SameMarks, both_marks, mark_at, marked-same, pending-same}

-- WHAT A REQUEST DOES: nothing, one plain action, or a step and a begin
data Shaped : List (Action × Event) → Type 0 where
  nothing : Shaped []
  one : (a : Action) (e : Event) → Shaped ((a, e) ∷ [])
  two : (t u : ℕ) (op : Op) (e e' : Event) → Shaped ((step t, e) ∷ (begin u op, e') ∷ [])

module _ {S : Type 0} (top : ℕ) (machine : S → Action → S × Event) where
  shaped : (s : S) (f : ℕ → Option Add) (q : Request) → Shaped (handles top machine s f q).gave.did
  shaped s f (act (begin t op)) = one (begin t op) _
  shaped s f (act (step t)) = go (f t) (machine s (step t)).1
    where
      go : (o : Option Add) (e : Event) → Shaped (steps_on top machine (machine s (step t)).0 f t o e).gave.did
      go none e = one (step t) e
      go (some a) (refused n) = one (step t) (refused n)
      go (some a) (accepted x) = one (step t) (accepted x)
      go (some a) (answered x r) = next (ahead top a r r.answer)
        where
          next : (w : Ahead) → Shaped (onwards top machine (machine s (step t)).0 f t a x r w).gave.did
          next (end y) = one (step t) (answered x r)
          next (part op n) = two t t op (answered x r) _
  shaped s f (act (drop t)) = one (drop t) _
  shaped s f (add t k d r) = go (machine s (begin t (read k))).1
    where
      go : (e : Event) → Shaped (add_begins top machine s (machine s (begin t (read k))).0 f t k d r e).gave.did
      go (refused n) = one (begin t (read k)) (refused n)
      go (answered x o) = one (begin t (read k)) (answered x o)
      go (accepted x) = test (tries_ok r)
        where
          test : (c : Bool) → Shaped (cond c (handled top machine (machine s (begin t (read k))).0 (upd f t (some (fresh_add d r))) ((begin t (read k), accepted x) ∷ []) (plain (accepted x))) (handled top machine s f [] (plain (refused 23)))).gave.did
          test true = one (begin t (read k)) (accepted x)
          test false = nothing

note-now : {S : Type 0} (machine : S → Action → S × Event) (see : S → ℕ → Sight) (o : Notes) (s : S) (a : Action) (e : Event) → (note machine see o s a e).now ≡ suc o.now
note-now machine see o s (begin t op) e = refl
note-now machine see o s (step t) (refused n) = refl
note-now machine see o s (step t) (accepted x) = refl
note-now machine see o s (step t) (answered x r) = refl
note-now machine see o s (drop t) (refused n) = refl
note-now machine see o s (drop t) (accepted x) = refl
note-now machine see o s (drop t) (answered x r) = refl

-- which calls are withdrawn after an action
pub enter-withdrawn : (b : Calls) (a : Action) (e : Event) (w : WithdrawnCall) → w ∈ (enter b a e).withdrawn → (w ∈ b.withdrawn) ⊎ ((w.end ≡ b.now) × (t : ℕ) × (a ≡ drop t))
enter-withdrawn b a (refused n) w i = inl i
enter-withdrawn b (begin t op) (accepted x) w i = inl i
enter-withdrawn b (begin t op) (answered x r) w i = inl i
enter-withdrawn b (step t) (accepted x) w i = inl i
enter-withdrawn b (step t) (answered x r) w i = inl i
enter-withdrawn b (drop t) (accepted x) w i = go (b.pending t) i
  where
    go : (o : Option Call) → w ∈ also_withdrawn o b.now b.withdrawn → (w ∈ b.withdrawn) ⊎ ((w.end ≡ b.now) × (u : ℕ) × (drop t ≡ drop u))
    go none i = inl i
    go (some c) (inl e) = inr (ap (λ (w : WithdrawnCall). w.end) e, t, refl)
    go (some c) (inr i) = inl i
enter-withdrawn b (drop t) (answered x r) w i = inl i

abbrev first_event : List (Action × Event) → Event
first_event [] = refused 0
first_event (x ∷ l) = x.1

abbrev second_event : List (Action × Event) → Event
second_event [] = refused 0
second_event (x ∷ l) = first_event l

-- ALL REQUESTS

module _ {S : Type 0} (top : ℕ) (machine : S → Action → S × Event) (see : S → ℕ → Sight) (n : ℕ) (φ : ℕ → ℕ) (size last : ℕ) where
  abbrev noted : S × Notes → Action → (S × Notes) × Event
  noted = noting machine see

  record Abreast (b b'' : Calls) (o o' : Notes) (m : ℕ) : Type 0 where
    at : b''.now ≡ m
    flat_now : o.now ≡ b.now
    request_now : o'.now ≡ m
    tied : Tied φ o o'
    image : Image φ b b''
    -- what came before is of earlier requests
    earlier : (j : ℕ) → j < b.now → φ j < m
    drops : FirstDrops φ b.withdrawn

  first-here : (b b'' : Calls) (o o' : Notes) (m : ℕ) → Abreast b b'' o o' m → φ b.now ≡ m → Clocked φ o.now o'.now
  first-here b b'' o o' m A e = ((λ j h. omega (arith, A.earlier j (omega (arith, A.flat_now)), e, ap φ A.flat_now)), A.request_now ∙ sym e ∙ ap φ (sym A.flat_now))

  same-marks : (l : List Request) (s : S) (f : ℕ → Option Add) (b b'' : Calls) (o o' : Notes) (m : ℕ) (ms ms' : List Mark) → Abreast b b'' o o' m → m + length l ≡ last → Reads φ size last b (stamps m (dids_of (requested top machine s f l))) →
      SameMarks φ ms ms' → SameMarks φ (marks noted (names machine see) n (s, o) b ms (flat top machine s f l)) (request_marks top machine see n (s, o') f b'' ms' l)
  same-marks [] s f b b'' o o' m ms ms' A h k i =
      let e : φ b.now ≡ m = ap φ (omega arith) ∙ k 0 ∙ (let z : last + 0 ≡ m = omega arith in z) in
      both_marks φ (pending_marks noted (names machine see) (s, o) b n) (pending_marks noted (names machine see) (s, o') b'' n) ms ms' (pending-same φ machine see s o o' A.tied (first-here b b'' o o' m A e) b b'' A.image A.drops n) i
  same-marks (q ∷ l) s f b b'' o o' m ms ms' A h k i =
      let x = handles top machine s f q in
      let p = played top machine s f q in
      go x.state x.adds x.gave.did (shaped top machine s f q) p.same p.state k (λ b b'' o o' ms ms' A k i. same-marks l x.state x.adds b b'' o o' (suc m) ms ms' A (omega arith) k i)
    where
      go : (s' : S) (f' : ℕ → Option Add) (d : List (Action × Event)) → Shaped d → history machine s (actions_of d) ≡ d → run machine s (actions_of d) ≡ s' → Reads φ size last b (stamped m d (stamps (suc m) (dids_of (requested top machine s' f' l)))) →
          ((c c' : Calls) (r r' : Notes) (ns ns' : List Mark) → Abreast c c' r r' (suc m) → Reads φ size last c (stamps (suc m) (dids_of (requested top machine s' f' l))) → SameMarks φ ns ns' →
          SameMarks φ (marks noted (names machine see) n (s', r) c ns (flat top machine s' f' l)) (request_marks top machine see n (s', r') f' c' ns' l)) →
          SameMarks φ (marks noted (names machine see) n (s, o) b ms (actions_of d ++ flat top machine s' f' l)) (request_marks top machine see n (s', note_did top machine see o' s d) f' (enter_did b''.now b'' d) (marked_did top machine see (s, o') b'' d ++ ms') l)
      go s' f' [] nothing same st k rest = subst (λ (x : S). SameMarks φ (marks noted (names machine see) n (x, o) b ms (flat top machine s' f' l)) (request_marks top machine see n (s', nothing_noted o') f' (at_moment (suc b''.now) b'') ms' l)) (sym st) (rest b (at_moment (suc b''.now) b'') o (nothing_noted o') ms ms' (record {
        at = ap suc A.at;
        flat_now = A.flat_now;
        request_now = ap suc A.request_now;
        tied = tied_on' φ A.tied;
        image = image_at φ (suc b''.now) A.image;
        earlier = λ j z. omega (arith, A.earlier j z);
        drops = A.drops;
      }) k i)
      go s' f' d (one a e) same st k rest =
          let z : (machine s a).1 ≡ e = ap first_event same in
          let at : φ b.now ≡ m = here φ size last b m (stamps (suc m) (dids_of (requested top machine s' f' l))) k in
          let t = first-here b b'' o o' m A at in
          let j = image_at φ b''.now A.image in
          let u = enter_image φ b (at_moment b''.now b'') j (at ∙ sym A.at) a e in
          subst (λ (y : S × Event). SameMarks φ (marks noted (names machine see) n (y.0, note machine see o s a y.1) (enter b a y.1) (marked noted (names machine see) (s, o) b a y.1 ++ ms) (flat top machine s' f' l))
          (request_marks top machine see n (s', note machine see o' s a e) f' (enter_did b''.now b'' ((a, e) ∷ [])) (marked noted (names machine see) (s, o') b'' a e ++ ms') l)) (λ j. (sym st j, sym z j))
          (rest (enter b a e) (enter_did b''.now b'' ((a, e) ∷ [])) (note machine see o s a e) (note machine see o' s a e) (marked noted (names machine see) (s, o) b a e ++ ms) (marked noted (names machine see) (s, o') b'' a e ++ ms') (record {
            at = ap suc A.at;
            flat_now = note-now machine see o s a e ∙ ap suc A.flat_now ∙ sym (enter-now b a e);
            request_now = note-now machine see o' s a e ∙ ap suc A.request_now;
            tied = note_tied φ o o' A.tied t machine see s a e;
            image = image_at φ (suc b''.now) u;
            earlier = λ j z. earlier j (omega (arith, enter-now b a e)) at (either j b.now);
            drops = λ v i. drops at v (enter-withdrawn b a e v i);
          }) (further φ size last b a e m (stamps (suc m) (dids_of (requested top machine s' f' l))) k)
          (both_marks φ (marked noted (names machine see) (s, o) b a e) (marked noted (names machine see) (s, o') b'' a e) ms ms' (marked-same φ machine see s o o' A.tied t b b'' A.image A.drops a e) i))
        where
          drops : φ b.now ≡ m → (v : WithdrawnCall) → (v ∈ b.withdrawn) ⊎ ((v.end ≡ b.now) × (u : ℕ) × (a ≡ drop u)) → First φ v.end
          drops at v (inl i) = A.drops v i
          drops at v (inr (y, u, z)) = rw y (λ j h. omega (arith, A.earlier j h, at))

          earlier : (j : ℕ) → j < suc b.now → φ b.now ≡ m → (j ≡ b.now) ⊎ (j ≢ b.now) → φ j < suc m
          earlier j h at (inl y) = omega (arith, ap φ y, at)
          earlier j h at (inr y) = omega (arith, A.earlier j (omega arith))
      go s' f' d (two t v op e e') same st k rest =
          let z : (machine s (step t)).1 ≡ e = ap first_event same in
          let z' : (machine (machine s (step t)).0 (begin v op)).1 ≡ e' = ap second_event same in
          let xs = stamps (suc m) (dids_of (requested top machine s' f' l)) in
          let at : φ b.now ≡ m = here φ size last b m (m ∷ xs) k in
          let b₁ = enter b (step t) e in
          let k₁ = further φ size last b (step t) e m (m ∷ xs) k in
          let at₁ : φ b₁.now ≡ m = here φ size last b₁ m xs k₁ in
          let w = first-here b b'' o o' m A at in
          let j = image_at φ b''.now A.image in
          let u = enter_image φ b (at_moment b''.now b'') j (at ∙ sym A.at) (step t) e in
          let c' = enter (at_moment b''.now b'') (step t) e in
          let j₁ = image_at φ b''.now u in
          let u₁ = enter_image φ b₁ (at_moment b''.now c') j₁ (at₁ ∙ sym A.at) (begin v op) e' in
          let T = note_tied φ o o' A.tied w machine see s (step t) e in
          subst (λ (y : S × Event × Event). SameMarks φ (marks noted (names machine see) n (y.0, nothing_noted (note machine see o s (step t) y.1)) (enter (enter b (step t) y.1) (begin v op) y.2) (marked noted (names machine see) (s, o) b (step t) y.1 ++ ms) (flat top machine s' f' l))
          (request_marks top machine see n (s', note machine see o' s (step t) e) f' (enter_did b''.now b'' ((step t, e) ∷ (begin v op, e') ∷ [])) (marked noted (names machine see) (s, o') b'' (step t) e ++ ms') l)) (λ j. (sym st j, sym z j, sym z' j))
          (rest (enter b₁ (begin v op) e') (enter_did b''.now b'' ((step t, e) ∷ (begin v op, e') ∷ [])) (nothing_noted (note machine see o s (step t) e)) (note machine see o' s (step t) e)
          (marked noted (names machine see) (s, o) b (step t) e ++ ms) (marked noted (names machine see) (s, o') b'' (step t) e ++ ms') (record {
            at = ap suc A.at;
            flat_now = ap suc (note-now machine see o s (step t) e ∙ ap suc A.flat_now ∙ sym (enter-now b (step t) e)) ∙ sym (enter-now b₁ (begin v op) e');
            request_now = note-now machine see o' s (step t) e ∙ ap suc A.request_now;
            tied = tied_on φ T;
            image = image_at φ (suc b''.now) u₁;
            earlier = λ j y. earlier j (omega (arith, y, enter-now b₁ (begin v op) e', enter-now b (step t) e)) at (ap φ (sym (enter-now b (step t) e)) ∙ at₁) (either j b.now) (either j (suc b.now));
            drops = drops;
          }) (further φ size last b₁ (begin v op) e' m xs k₁)
          (both_marks φ (marked noted (names machine see) (s, o) b (step t) e) (marked noted (names machine see) (s, o') b'' (step t) e) ms ms' (marked-same φ machine see s o o' A.tied w b b'' A.image A.drops (step t) e) i))
        where
          -- a step withdraws no call, nor does a begin
          drops : (x : WithdrawnCall) → x ∈ (enter (enter b (step t) e) (begin v op) e').withdrawn → First φ x.end
          drops x i = of_begin (enter-withdrawn (enter b (step t) e) (begin v op) e' x i)
            where
              of_step : (x ∈ b.withdrawn) ⊎ ((x.end ≡ b.now) × (u : ℕ) × (step t ≡ drop u)) → First φ x.end
              of_step (inl i) = A.drops x i
              of_step (inr (y, u, z)) = absurd (let q : ◌≡◌ {A = ℕ} 0 1 = cc in omega arith)

              of_begin : (x ∈ (enter b (step t) e).withdrawn) ⊎ ((x.end ≡ (enter b (step t) e).now) × (u : ℕ) × (begin v op ≡ drop u)) → First φ x.end
              of_begin (inl i) = of_step (enter-withdrawn b (step t) e x i)
              of_begin (inr (y, u, z)) = absurd (let q : ◌≡◌ {A = ℕ} 0 1 = cc in omega arith)

          earlier : (j : ℕ) → j < suc (suc b.now) → φ b.now ≡ m → φ (suc b.now) ≡ m → (j ≡ b.now) ⊎ (j ≢ b.now) → (j ≡ suc b.now) ⊎ (j ≢ suc b.now) → φ j < suc m
          earlier j h at at₁ (inl y) y' = omega (arith, ap φ y, at)
          earlier j h at at₁ (inr y) (inl y') = omega (arith, ap φ y', at₁)
          earlier j h at at₁ (inr y) (inr y') = omega (arith, A.earlier j (omega arith))

-- THE SAME ORDER: on first actions the clock only goes forward

module _ (φ : ℕ → ℕ) where
  mapped : (F R : List Mark) → SameMarks φ F R → ((m : Mark) → m ∈ F → m.spot.moment ≢ 0) → (R ≡ map (mark_at φ) F) × ((m : Mark) → m ∈ F → First φ m.spot.moment)
  mapped [] [] s z = (refl, λ m i. absurd i)
  mapped (x ∷ F) (y ∷ R) s z =
      let t = clocked s.0.moment in
      let r = mapped F R s.1 (λ m i. z m (inr i)) in
      (λ j. record { spot = record { moment = t.1 j; side = s.0.side j; rule = s.0.rule j }; call = s.0.call j; answer = s.0.answer j } ∷ r.0 j, firsts r.1)
    where
      clocked : Tie φ x.spot.moment y.spot.moment → First φ x.spot.moment × (y.spot.moment ≡ φ x.spot.moment)
      clocked (inl e) = absurd (z x (inl refl) e.0)
      clocked (inr e) = e

      firsts : ((m : Mark) → m ∈ F → First φ m.spot.moment) → (m : Mark) → (m ≡ x) ⊎ (m ∈ F) → First φ m.spot.moment
      firsts r m (inl e) = rw e (clocked s.0.moment).0
      firsts r m (inr i) = r m i
  mapped [] (y ∷ R) s z = elim s [ ]
  mapped (x ∷ F) [] s z = elim s [ ]

  same_keys : (x y : Mark) → First φ x.spot.moment → First φ y.spot.moment → not_after (key (mark_at φ x)) (key (mark_at φ y)) ≡ not_after (key x) (key y)
  same_keys x y p q = let o = same_order φ x.spot.moment y.spot.moment p q in rw (o.0, o.1)

  insert-at : (x : Mark) (l : List Mark) → First φ x.spot.moment → ((m : Mark) → m ∈ l → First φ m.spot.moment) → insert (mark_at φ x) (map (mark_at φ) l) ≡ map (mark_at φ) (insert x l)
  insert-at x [] p q = refl
  insert-at x (y ∷ l) p q = ap (λ (b : Bool). cond b (mark_at φ x ∷ mark_at φ y ∷ map (mark_at φ) l) (mark_at φ y ∷ insert (mark_at φ x) (map (mark_at φ) l))) (same_keys x y p (q y (inl refl))) ∙ go (not_after (key x) (key y)) (insert-at x l p (λ m i. q m (inr i)))
    where
      go : (b : Bool) → insert (mark_at φ x) (map (mark_at φ) l) ≡ map (mark_at φ) (insert x l) →
          cond b (mark_at φ x ∷ mark_at φ y ∷ map (mark_at φ) l) (mark_at φ y ∷ insert (mark_at φ x) (map (mark_at φ) l)) ≡ map (mark_at φ) (cond b (x ∷ y ∷ l) (y ∷ insert x l))
      go true r = refl
      go false r = ap (λ (l : List Mark). mark_at φ y ∷ l) r

  sort-at : (l : List Mark) → ((m : Mark) → m ∈ l → First φ m.spot.moment) → sort (map (mark_at φ) l) ≡ map (mark_at φ) (sort l)
  sort-at [] q = refl
  sort-at (x ∷ l) q = ap (insert (mark_at φ x)) (sort-at l (λ m i. q m (inr i))) ∙ insert-at x (sort l) (q x (inl refl)) (λ m i. q m (inr (sort_in l m i)))

  points_at : (l : List Mark) → map point_of (map (mark_at φ) l) ≡ map (point_at φ) (map point_of l)
  points_at [] = refl
  points_at (x ∷ l) = ap (λ (p : List Point). point_at φ (point_of x) ∷ p) (points_at l)

  replies-at : (c : ℕ → ℕ) (l : List Mark) → replies c (map point_of l) ≡ map reply_of l → replies c (map point_of (map (mark_at φ) l)) ≡ map reply_of (map (mark_at φ) l)
  replies-at c l e = moved c l ∙ ap (map move) e ∙ back l
    where
      move : Point × Response → Point × Response
      move p = (point_at φ p.0, p.1)

      moved : (c : ℕ → ℕ) (l : List Mark) → replies c (map point_of (map (mark_at φ) l)) ≡ map move (replies c (map point_of l))
      moved c [] = refl
      moved c (x ∷ l) = ap (λ (r : List (Point × Response)). (point_at φ (point_of x), reply (c (cell_of x.call.op)) x.call.op) ∷ r) (moved (apply c x.call.op) l)

      back : (l : List Mark) → map move (map reply_of l) ≡ map reply_of (map (mark_at φ) l)
      back [] = refl
      back (x ∷ l) = ap (λ (r : List (Point × Response)). reply_of (mark_at φ x) ∷ r) (back l)

-- THE CELLS

module _ (old : State) (words : List ℕ) (tasks cells blocks : ℕ) (values : List ℕ) (allowed : refusal (open_questions (length words) tasks cells blocks values) ≡ none) (requests : List Request) where
  abbrev x₀ : Pool
  x₀ = start old words tasks cells blocks values

  abbrev did : List Action
  did = flat no_value pool x₀ no_adds requests

  abbrev dids : List (List (Action × Event))
  dids = dids_of (requested no_value pool x₀ no_adds requests)

  abbrev φ : ℕ → ℕ
  φ = clock_of dids

  abbrev F : List Mark
  F = marks (noting pool sees_pool) (names pool sees_pool) tasks (x₀, no_notes) no_calls [] did

  length_dids : (l : List Request) (s : Pool) (f : ℕ → Option Add) → length (dids_of (requested no_value pool s f l)) ≡ length l
  length_dids [] s f = refl
  length_dids (q ∷ l) s f = ap suc (length_dids l (handles no_value pool s f q).state (handles no_value pool s f q).adds)

  listed_alike : SameMarks φ F (request_marks no_value pool sees_pool tasks (x₀, no_notes) no_adds no_calls [] requests)
  listed_alike = same-marks no_value pool sees_pool tasks φ cells (length dids) requests x₀ no_adds no_calls no_calls no_notes no_notes 0 [] []
      (record {
        at = refl;
        flat_now = refl;
        request_now = refl;
        tied = record { loaded = λ u. inl (refl, refl); stored = λ u. inl (refl, refl); stored_active = λ u. refl; inactive = λ u. inl (refl, refl); decided = λ u. inl (refl, refl); replaced = λ u. inl (refl, refl); waiting = λ k. tt };
        image = record { accepted = refl; pending = λ t. refl; finished = refl; withdrawn = refl };
        earlier = λ j h. absurd (omega arith);
        drops = λ v i. absurd i;
      }) (omega (arith, length_dids requests x₀ no_adds)) (λ j. ap φ (omega arith)) tt

  after_its_begin : (m : Mark) → m ∈ F → m.spot.moment ≢ 0
  after_its_begin m i e =
      let p = (cell_moments_linearize old words tasks cells blocks values allowed did).placed (point_of m) (mem_map point_of (sort F) m (in_sort F m i)) in
      omega (arith, p.after-begin, e)

  -- The listed calls are those of the plain actions, in the same order.
  pub in_order : pool_request_moments tasks (start old words tasks cells blocks values) requests ≡ map (mark_at (clock_of (dids_of (requested no_value pool (start old words tasks cells blocks values) no_adds requests)))) (pool_moments tasks (start old words tasks cells blocks values) (flat no_value pool (start old words tasks cells blocks values) no_adds requests))
  in_order = let r = mapped φ F (request_marks no_value pool sees_pool tasks (x₀, no_notes) no_adds no_calls [] requests) listed_alike after_its_begin in ap sort r.0 ∙ sort-at φ F r.1

  -- The listed reads and swaps, those of adds too, are in their order a linearization: of every finished call, and of the listed pending
  -- and withdrawn swaps.
  pub request_moments_linearize : Linearizes (λ k. get_or values k 0) (enter_dids no_calls (dids_of (history (with_adds no_value pool) (start old words tasks cells blocks values, no_adds) requests))) (map point_of (pool_request_moments tasks (start old words tasks cells blocks values) requests))
  request_moments_linearize =
      let r = retelling no_value pool x₀ (clear_after figure (opening tasks cells values) clear) cells (λ k. get_or values k 0) (cells_meet_demand_3 old words tasks cells blocks values allowed) requests in
      subst (Linearizes (λ k. get_or values k 0) (enter_dids no_calls dids)) (sym (ap (map point_of) in_order ∙ points_at φ (pool_moments tasks x₀ did)))
      (linearizes-at φ (enter_all no_calls (joined dids)) (enter_dids no_calls dids) r.image r.now r.clock
      (subst (λ (h : List (Action × Event)). Linearizes (λ k. get_or values k 0) (calls_of h) (map point_of (pool_moments tasks x₀ did))) (sym (flat_history no_value pool requests x₀ no_adds)) (cell_moments_linearize old words tasks cells blocks values allowed did)))

  -- Fed them in this order, the sequential cells give each the answer that it had, and yes to the listed pending and withdrawn swaps.
  pub request_moments_answers : replies (λ k. get_or values k 0) (map point_of (pool_request_moments tasks (start old words tasks cells blocks values) requests)) ≡ map reply_of (pool_request_moments tasks (start old words tasks cells blocks values) requests)
  request_moments_answers = subst (λ (ms : List Mark). replies (λ k. get_or values k 0) (map point_of ms) ≡ map reply_of ms) (sym in_order) (replies-at φ (λ k. get_or values k 0) (pool_moments tasks x₀ did) (cell_moments_answers old words tasks cells blocks values allowed did))
