-- The task's calls as the code follows them are those of the history: the named one, and the answer of the one begun at a moment.
use mathlib.Core.Path.{◌≡◌, refl, sym, ap, subst, ◌∙◌}
use mathlib.Core.Logic.{◌≢◌, ◌⊎◌, inl, inr}
use mathlib.Core.Bool.{Bool, true, false, cond}
use mathlib.Core.Option.{Option, none, some}
use mathlib.Core.List.{List, [], ◌∷◌, ◌++◌, map, append-nil, append_assoc, map-append}
use Prim.Native.Nat.{ℕ, zero, suc, ◌+◌, ◌≤◌, ◌<◌}
use native.Mathlib.Numerals.{add-one}
use native.Mathlib.Omega.{arith}
use lib.Dec.{eqb, ltb}
use borrow.Author.Tests.{eq-eqb, ne_eqb, ltb-true, ltb-false}
use Rattle.history_spec.specs.Basics.{upd, ◌∈◌}
use Rattle.history_spec.specs.History.{Action, begin, step, drop, task_of, Response, Event, refused, accepted, answered, Call, FinishedCall, Calls, no_calls, called, advanced, closed, passed, moved, enter, enter_all, calls_of, IsBusy, Allowed, WellFormed}
use Rattle.history_spec.proofs.Basics.{either, upd-cases, clash, some_inj}
use Rattle.nudge_spec.specs.Exchange.{answer_in}
use Rattle.nudge_spec.specs.Nudge.{finished_by, at_place, named_call}
use Rattle.nudge_spec.proofs.Ledger.{begins, begin_of, answers, ended as ended_by_lem, own_begin, other_begin, begun_at, entered-now, ended_is, Early, early_start, early_next}
use Rattle.nudge_spec.proofs.Finished.{Found, found-start, found-next, ending-cases, kept, kept_on, earlier}
use Rattle.nudge_tool.specs.Calls.{Summary, summary, Note, pending, ended, own_note, note_of, begun_after, listing, calls, answer_of_call}

-- WHAT IS KNOWN between the calls so far and the rest of a history

-- action n is of the task `who n`
abbrev pub TasksOf : (who : ℕ → ℕ) (n : ℕ) → List (Action × Event) → Type 0
TasksOf who n [] = Unit {0}
TasksOf who n (x ∷ h) = (who n ≡ task_of x.0) × TasksOf who (suc n) h

pub record Whose (who : ℕ → ℕ) (b : Calls) : Type 0 where
  pub of_pending : (u : ℕ) (c : Call) → b.pending u ≡ some c → (c.start.task ≡ u) × (who c.start.at ≡ u)
  pub of_finished : (f : FinishedCall) → f ∈ b.finished → who f.call.start.at ≡ f.call.start.task
  pub ended-before : (f : FinishedCall) → f ∈ b.finished → f.call.last < b.now

pub record Between (who : ℕ → ℕ) (size : ℕ) (b : Calls) (h : List (Action × Event)) : Type 0 where
  pub well_formed : WellFormed size b h
  pub tasks_of : TasksOf who b.now h
  pub whose : Whose who b
  pub early : Early b
  pub found : Found b

whose_passed : {who : ℕ → ℕ} {b : Calls} → Whose who b → Whose who (passed b)
whose_passed W = record { of_pending = W.of_pending; of_finished = W.of_finished; ended-before = λ f i. omega (arith, W.ended-before f i) }

-- a task whose call has ended has none
whose_closed : {who : ℕ → ℕ} {b : Calls} → Whose who b → (t u : ℕ) (c : Call) → upd b.pending t none u ≡ some c → (c.start.task ≡ u) × (who c.start.at ≡ u)
whose_closed {who} {b} W t u c = upd-cases (λ (o : Option Call). o ≡ some c → (c.start.task ≡ u) × (who c.start.at ≡ u)) b.pending t none u (λ z h. absurd (clash refl h)) (λ z. W.of_pending u c)

whose_next : (who : ℕ → ℕ) (b : Calls) (a : Action) (e : Event) → who b.now ≡ task_of a → Whose who b → Whose who (enter b a e)
whose_next who b a (refused n) q W = whose_passed W
whose_next who b (begin t op) (accepted x) q W = record {
  of_pending = λ u c. upd-cases (λ (o : Option Call). o ≡ some c → (c.start.task ≡ u) × (who c.start.at ≡ u)) b.pending t (some (called b t op)) u
      (λ z h. let s = ap (λ (c : Call). c.start) (some_inj refl h) in (sym (ap (λ i. i.task) s) ∙ sym z, ap (λ i. who i.at) (sym s) ∙ q ∙ sym z)) (λ z. W.of_pending u c);
  of_finished = W.of_finished;
  ended-before = λ f i. omega (arith, W.ended-before f i);
}
whose_next who b (begin t op) (answered x r) q W = whose_passed W
whose_next who b (step t) (accepted x) q W = record {
  of_pending = λ u c. upd-cases (λ (o : Option Call). o ≡ some c → (c.start.task ≡ u) × (who c.start.at ≡ u)) b.pending t (advanced b x (b.pending t)) u
      (λ z h. go u c z (b.pending t) refl h) (λ z. W.of_pending u c);
  of_finished = W.of_finished;
  ended-before = λ f i. omega (arith, W.ended-before f i);
}
  where
    go : (u : ℕ) (c : Call) → u ≡ t → (o : Option Call) → b.pending t ≡ o → advanced b x o ≡ some c → (c.start.task ≡ u) × (who c.start.at ≡ u)
    go u c z none p h = absurd (clash refl h)
    go u c z (some d) p h =
        let s = ap (λ (c : Call). c.start) (some_inj refl h) in
        let w = W.of_pending t d p in
        (sym (ap (λ i. i.task) s) ∙ w.0 ∙ sym z, ap (λ i. who i.at) (sym s) ∙ w.1 ∙ sym z)
whose_next who b (step t) (answered x r) q W = record {
  of_pending = whose_closed W t;
  of_finished = λ f i. (fin f (b.pending t) refl i).0;
  ended-before = λ f i. (fin f (b.pending t) refl i).1;
}
  where
    fin : (f : FinishedCall) (o : Option Call) → b.pending t ≡ o → f ∈ closed (advanced b x o) r b.finished → (who f.call.start.at ≡ f.call.start.task) × (f.call.last < suc b.now)
    fin f none p i = (W.of_finished f i, omega (arith, W.ended-before f i))
    fin f (some c) p (inl z) =
        let w = W.of_pending t c p in
        (ap (λ (f : FinishedCall). who f.call.start.at) z ∙ w.1 ∙ sym w.0 ∙ sym (ap (λ (f : FinishedCall). f.call.start.task) z), omega (arith, ap (λ (f : FinishedCall). f.call.last) z))
    fin f (some c) p (inr i) = (W.of_finished f i, omega (arith, W.ended-before f i))
whose_next who b (drop t) (accepted x) q W = record {
  of_pending = whose_closed W t;
  of_finished = W.of_finished;
  ended-before = λ f i. omega (arith, W.ended-before f i);
}
whose_next who b (drop t) (answered x r) q W = whose_passed W

module _ {who : ℕ → ℕ} {size : ℕ} where
  pub between_start : (h : List (Action × Event)) → WellFormed size no_calls h → TasksOf who 0 h → Between who size no_calls h
  between_start h w t = record {
    well_formed = w;
    tasks_of = t;
    whose = record { of_pending = λ u c e. absurd (clash refl e); of_finished = λ f i. absurd i; ended-before = λ f i. absurd i };
    early = early_start;
    found = found-start;
  }

  pub between_next : {b : Calls} {x : Action × Event} {h : List (Action × Event)} → Between who size b (x ∷ h) → Between who size (enter b x.0 x.1) h
  between_next {b} {x} {h} B = record {
    well_formed = B.well_formed.1;
    tasks_of = subst (λ (n : ℕ). TasksOf who n h) (sym (entered-now b x.0 x.1)) B.tasks_of.1;
    whose = whose_next who b x.0 x.1 B.tasks_of.0 B.whose;
    early = early_next b x.0 x.1 B.early;
    found = found-next b x.0 x.1 B.early B.found;
  }

  pub between_on : (g : List (Action × Event)) {b : Calls} {h : List (Action × Event)} → Between who size b (g ++ h) → Between who size (enter_all b g) h
  between_on [] B = B
  between_on (x ∷ g) B = between_on g (between_next B)

-- ONE ENTRY

-- the task's pending call, if it has one, was begun at k
abbrev pub BegunAt : Calls → (task k : ℕ) → Type 0
BegunAt b t k = (j : ℕ) → begins b t ≡ some j → j ≡ k

pub begun-next : (b : Calls) (t k : ℕ) (a : Action) (e : Event) → BegunAt b t k → BegunAt (enter b a e) t (begun_after (note_of t k b.now a e) k)
begun-next b t k a e K j h = go (either (task_of a) t)
  where
    own : (a : Action) (e : Event) (p : Option ℕ) → ((j : ℕ) → p ≡ some j → j ≡ k) → begun_at b.now p a e ≡ some j → j ≡ begun_after (own_note k b.now a e) k
    own a (refused n) p K h = K j h
    own (begin u op) (accepted x) p K h = some_inj h refl
    own (begin u op) (answered x r) p K h = K j h
    own (step u) (accepted x) p K h = K j h
    own (step u) (answered x r) p K h = absurd (clash refl h)
    own (drop u) (accepted x) p K h = absurd (clash refl h)
    own (drop u) (answered x r) p K h = K j h

    go : (task_of a ≡ t) ⊎ (task_of a ≢ t) → j ≡ begun_after (note_of t k b.now a e) k
    go (inl q) = rw (eq-eqb (task_of a) t q) (own a e (begins b (task_of a)) (λ j z. K j (ap (begins b) (sym q) ∙ z)) (sym (own_begin b a e) ∙ (ap (begins (enter b a e)) q ∙ h)))
    go (inr n) = rw (ne_eqb (task_of a) t n) (K j (sym (other_begin b a e t (λ z. n (sym z))) ∙ h))

-- what an entry does to the finished calls, by its note for the task
data Entry (b : Calls) (t k : ℕ) (b'' : Calls) : Note → Type 0 where
  goes : {j : ℕ} → b''.finished ≡ b.finished → Entry b t k b'' (pending j)
  other : {j : ℕ} (f : FinishedCall) → f.call.start.task ≢ t → begins b f.call.start.task ≡ some f.call.start.at → b''.finished ≡ f ∷ b.finished → Entry b t k b'' (pending j)
  ends : (f : FinishedCall) → f.call.start.task ≡ t → summary f ≡ record { at = k; last = b.now; answer = f.report.answer } → b''.finished ≡ f ∷ b.finished → Entry b t k b'' (ended f.report.answer)

module _ {who : ℕ → ℕ} (size : ℕ) (b : Calls) (t k : ℕ) (W : Whose who b) (K : BegunAt b t k) where
  own_entry : (a : Action) (e : Event) → Allowed size b a e → task_of a ≡ t → Entry b t k (enter b a e) (own_note k b.now a e)
  own_entry a (refused n) l q = goes refl
  own_entry (begin u op) (accepted x) l q = goes refl
  own_entry (begin u op) (answered x r) l q = absurd l
  own_entry (step u) (accepted x) l q = goes refl
  own_entry (drop u) (accepted x) l q = goes refl
  own_entry (drop u) (answered x r) l q = absurd l
  own_entry (step u) (answered x r) l q = go (b.pending u) refl l
    where
      go : (o : Option Call) → b.pending u ≡ o → IsBusy o → Entry b t k (moved b (step u) (upd b.pending u none) (closed (advanced b x o) r b.finished)) (ended r.answer)
      go none p l = absurd l
      go (some c) p l =
          let z : c.start.at ≡ k = K c.start.at (ap (begins b) (sym q) ∙ ap begin_of p) in
          ends _ ((W.of_pending u c p).0 ∙ q) (ap (λ (m : ℕ). record { at = m; last = b.now; answer = r.answer }) z) refl

  other_entry : (a : Action) (e : Event) → task_of a ≢ t → Entry b t k (enter b a e) (pending k)
  other_entry a (refused n) q = goes refl
  other_entry (begin u op) (accepted x) q = goes refl
  other_entry (begin u op) (answered x r) q = goes refl
  other_entry (step u) (accepted x) q = goes refl
  other_entry (drop u) (accepted x) q = goes refl
  other_entry (drop u) (answered x r) q = goes refl
  other_entry (step u) (answered x r) q = go (b.pending u) refl
    where
      go : (o : Option Call) → b.pending u ≡ o → Entry b t k (moved b (step u) (upd b.pending u none) (closed (advanced b x o) r b.finished)) (pending k)
      go none p = goes refl
      go (some c) p = let z = (W.of_pending u c p).0 in other _ (λ w. q (sym z ∙ w)) (ap (begins b) z ∙ ap begin_of p) refl

  entry : (a : Action) (e : Event) → Allowed size b a e → Entry b t k (enter b a e) (note_of t k b.now a e)
  entry a e l = go (either (task_of a) t)
    where
      go : (task_of a ≡ t) ⊎ (task_of a ≢ t) → Entry b t k (enter b a e) (note_of t k b.now a e)
      go (inl q) = rw (eq-eqb (task_of a) t q) (own_entry a e l q)
      go (inr n) = rw (ne_eqb (task_of a) t n) (other_entry a e n)

-- ALL FINISHED CALLS OF THE TASK

abbrev summaries : ℕ → Calls → List Summary
summaries t b = map summary (finished_by t b.finished)

listed_one : (t k : ℕ) (b b'' : Calls) (n : Note) → Entry b t k b'' n → (later : ℕ → List Summary) → summaries t b'' ++ later (begun_after n k) ≡ summaries t b ++ listing n k b.now later
listed_one t k b b'' (pending j) (goes e) later = ap (λ (l : List FinishedCall). map summary (finished_by t l) ++ later j) e
listed_one t k b b'' (pending j) (other f n p e) later =
    ap (λ (l : List FinishedCall). map summary (finished_by t l) ++ later j) e
    ∙ ap (λ (c : Bool). map summary (finished_by t b.finished ++ cond c (f ∷ []) []) ++ later j) (ne_eqb f.call.start.task t n)
    ∙ ap (λ (l : List FinishedCall). map summary l ++ later j) (append-nil (finished_by t b.finished))
listed_one t k b b'' (ended r) (ends f q s e) later =
    ap (λ (l : List FinishedCall). map summary (finished_by t l) ++ later k) e
    ∙ ap (λ (c : Bool). map summary (finished_by t b.finished ++ cond c (f ∷ []) []) ++ later k) (eq-eqb f.call.start.task t q)
    ∙ ap (λ (l : List Summary). l ++ later k) (map-append summary (finished_by t b.finished) (f ∷ []))
    ∙ append_assoc (summaries t b) (summary f ∷ []) (later k)
    ∙ ap (λ (c : Summary). summaries t b ++ (c ∷ later k)) s

module _ {who : ℕ → ℕ} {size : ℕ} (t : ℕ) where
  listed : (h : List (Action × Event)) (b : Calls) (k : ℕ) → Between who size b h → BegunAt b t k → summaries t (enter_all b h) ≡ summaries t b ++ calls t k b.now h
  listed [] b k B K = sym (append-nil (summaries t b))
  listed (x ∷ h) b k B K =
      let n = note_of t k b.now x.0 x.1 in
      let b'' = enter b x.0 x.1 in
      let e : b''.now ≡ b.now + 1 = entered-now b x.0 x.1 ∙ sym (add-one b.now) in
      listed h b'' (begun_after n k) (between_next B) (begun-next b t k x.0 x.1 K)
      ∙ ap (λ (m : ℕ). summaries t b'' ++ calls t (begun_after n k) m h) e
      ∙ listed_one t k b b'' n (entry size b t k B.whose K x.0 x.1 B.well_formed.0) (λ k. calls t k (b.now + 1) h)

-- THE NAMED ONE

abbrev mapped : Option FinishedCall → Option Summary
mapped none = none
mapped (some f) = some (summary f)

after_map : (n : ℕ) (l : List FinishedCall) → at_place n (map summary l) ≡ mapped (at_place n l)
after_map n [] = refl
after_map zero (f ∷ l) = refl
after_map (suc n) (f ∷ l) = after_map n l

module _ {who : ℕ → ℕ} {size : ℕ} (t n : ℕ) (h : List (Action × Event)) (B : Between who size no_calls h) where
  same-named : mapped (named_call t n h) ≡ at_place n (calls t 0 0 h)
  same-named = sym (after_map n (finished_by t (calls_of h).finished)) ∙ ap (at_place n) (listed t h no_calls 0 B (λ j e. absurd (clash refl e)))

  pub named_none : at_place n (calls t 0 0 h) ≡ none → named_call t n h ≡ none
  named_none e = go (named_call t n h) (same-named ∙ e)
    where
      go : (o : Option FinishedCall) → mapped o ≡ none → o ≡ none
      go none q = refl
      go (some f) q = absurd (clash q refl)

  pub named_some : (c : Summary) → at_place n (calls t 0 0 h) ≡ some c → (f : FinishedCall) × ((named_call t n h ≡ some f) × (summary f ≡ c))
  named_some c e = go (named_call t n h) refl (same-named ∙ e)
    where
      go : (o : Option FinishedCall) → named_call t n h ≡ o → mapped o ≡ some c → (f : FinishedCall) × ((named_call t n h ≡ some f) × (summary f ≡ c))
      go none p q = absurd (clash refl q)
      go (some f) p q = (f, (p, some_inj refl q))

-- THE ONE BEGUN AT A MOMENT, which is a moment of the task

module _ {who : ℕ → ℕ} {size : ℕ} (t m : ℕ) (its : who m ≡ t) where
  pub followed : (h : List (Action × Event)) (b : Calls) (k : ℕ) → Between who size b h → BegunAt b t k → answers b m ≡ none → answers (enter_all b h) m ≡ answer_of_call m (calls t k b.now h)
  followed [] b k B K z = z
  followed (x ∷ h) b k B K z =
      go (note_of t k b.now x.0 x.1) (entry size b t k B.whose K x.0 x.1 B.well_formed.0)
      (λ j K' z'. followed h b'' j (between_next B) K' z' ∙ ap (λ (n : ℕ). answer_of_call m (calls t j n h)) e) (begun-next b t k x.0 x.1 K)
    where
      b'' : Calls
      b'' = enter b x.0 x.1

      e : b''.now ≡ b.now + 1
      e = entered-now b x.0 x.1 ∙ sym (add-one b.now)

      go : (n : Note) → Entry b t k b'' n → ((j : ℕ) → BegunAt b'' t j → answers b'' m ≡ none → answers (enter_all b'' h) m ≡ answer_of_call m (calls t j (b.now + 1) h)) → BegunAt b'' t (begun_after n k)
          → answers (enter_all b'' h) m ≡ answer_of_call m (listing n k b.now (λ k. calls t k (b.now + 1) h))
      go (pending j) (goes q) again K' = again j K' (ap (answer_in m) q ∙ z)
      go (pending j) (other f n p q) again K' = again j K' (ap (answer_in m) q ∙ (ap (λ (c : Bool). cond c (some f.report.answer) (answers b m)) (ne_eqb f.call.start.at m (λ w. n (theirs (b.pending f.call.start.task) refl (p ∙ ap some w)))) ∙ z))
        where
          theirs : (o : Option Call) → b.pending f.call.start.task ≡ o → begin_of o ≡ some m → f.call.start.task ≡ t
          theirs none w l = absurd (clash refl l)
          theirs (some c) w l = sym (B.whose.of_pending f.call.start.task c w).1 ∙ (ap who (some_inj refl l) ∙ its)
      go (ended r) (ends f q s w) again K' = by (either k m)
        where
          here : answers b'' m ≡ cond (eqb k m) (some f.report.answer) (answers b m)
          here = ap (answer_in m) w ∙ ap (λ (c : Summary). cond (eqb c.at m) (some f.report.answer) (answers b m)) s

          by : (k ≡ m) ⊎ (k ≢ m) → answers (enter_all b'' h) m ≡ cond (eqb k m) (some f.report.answer) (answer_of_call m (calls t k (b.now + 1) h))
          by (inl l) = rw (eq-eqb k m l) (kept_on h b'' (between_next B).early (between_next B).found m f.report.answer (rw (eq-eqb k m l) at here))
          by (inr l) = rw (ne_eqb k m l) (again k K' ((rw (ne_eqb k m l) at here) ∙ z))

-- UNTIL ITS LAST STEP a call has no answer
pub unanswered_yet : {who : ℕ → ℕ} {size : ℕ} (h : List (Action × Event)) (b : Calls) → Between who size b h → (f : FinishedCall) → f ∈ (enter_all b h).finished → b.now ≤ f.call.last → answers b f.call.start.at ≡ none
unanswered_yet [] b B f i l = absurd (omega (arith, l, B.whose.ended-before f i))
unanswered_yet (x ∷ h) b B f i l = go (ltb b.now f.call.last) refl (unanswered_yet h b'' (between_next B) f i)
  where
    b'' : Calls
    b'' = enter b x.0 x.1

    before : (o : Option Response) → answers b f.call.start.at ≡ o → answers b'' f.call.start.at ≡ none → answers b f.call.start.at ≡ none
    before none q n = q
    before (some r) q n = absurd (clash n (kept b x.0 x.1 B.found f.call.start.at r q))

    now : f.call.last ≡ b.now → answers b f.call.start.at ≡ none
    now q = by (ending-cases b x.0 x.1 f (earlier h b'' f i (rw (entered-now b x.0 x.1) (omega (arith, q)))))
      where
        by : (f ∈ b.finished) ⊎ ((ended_by_lem (begins b (task_of x.0)) x.0 x.1 ≡ some (f.call.start.at, f.report.answer)) × (f.call.last ≡ b.now)) → answers b f.call.start.at ≡ none
        by (inl i) = absurd (omega (arith, l, B.whose.ended-before f i))
        by (inr (w, n)) = B.found.unanswered (task_of x.0) f.call.start.at (ended_is (begins b (task_of x.0)) x.0 x.1 f.call.start.at f.report.answer w)

    go : (c : Bool) → ltb b.now f.call.last ≡ c → (b''.now ≤ f.call.last → answers b'' f.call.start.at ≡ none) → answers b f.call.start.at ≡ none
    go true q again = before (answers b f.call.start.at) refl (again (rw (entered-now b x.0 x.1) (omega (arith, ltb-true b.now f.call.last q))))
    go false q again = now (omega (arith, l, ltb-false b.now f.call.last q))
