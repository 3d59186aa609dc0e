-- What the events alone show of the adds is what they are, but for their parts.
use mathlib.Core.Path.{◌≡◌, refl, sym, ap, ◌∙◌, subst}
use mathlib.Core.Logic.{◌≢◌, ◌⊎◌, inl, inr}
use mathlib.Core.Option.{Option, none, some}
use mathlib.Core.List.{List, [], ◌∷◌, ◌++◌, map}
use Prim.Native.Nat.{ℕ, suc, ◌+◌, ◌*◌, ◌≤◌}
use lib.ListN.{replicate}
use Rattle.history_spec.specs.Basics.{upd, ◌∈◌}
use Rattle.history_spec.specs.History.{Action, begin, step, drop, task_of, Attempt, Report, Event, refused, accepted, answered}
use Rattle.history_spec.proofs.Basics.{either, upd-at, upd_off, clash, some_inj, mem_map}
use Rattle.adds_spec.specs.Requests.{Request, act, add, AddReport, RequestEvent, plain, summed, Gave, events_of}
use Rattle.adds_spec.specs.Adds.{AddCall, FinishedAdd, AddCalls, no_add_calls, reports_in, add_steps, add_ends, add_called, also_withdrawn_add, enter_add, enter_adds, adds_of, Counted, FewSoFar, RightAdds, AddFinishes}
use Rattle.adds_spec.specs.Sums.{brought_by, brought_to}
use Rattle.adds_spec.specs.Seen.{enter_seen, adds_seen, RightSeen}
use Rattle.adds_spec.proofs.Images.{map_out}

abbrev pub without_parts : AddCall → AddCall
without_parts c = record { start = c.start; steps = c.steps; won = c.won; lost = c.lost; parts = [] }

abbrev pub shown : Option AddCall → Option AddCall
shown none = none
shown (some c) = some (without_parts c)

abbrev pub shown_end : FinishedAdd → FinishedAdd
shown_end f = record { call = without_parts f.call; report = f.report }

-- B is A, without the parts
pub record Shows (A B : AddCalls) : Type 0 where
  pub now : B.now ≡ A.now
  pub pending : (t : ℕ) → B.pending t ≡ shown (A.pending t)
  pub finished : B.finished ≡ map shown_end A.finished
  pub withdrawn : B.withdrawn ≡ map without_parts A.withdrawn

module _ (A B : AddCalls) (S : Shows A B) where
  changed : (t : ℕ) (o p : Option AddCall) → p ≡ shown o → (u : ℕ) → upd B.pending t p u ≡ shown (upd A.pending t o u)
  changed t o p e u = go (either u t)
    where
      go : (u ≡ t) ⊎ (u ≢ t) → upd B.pending t p u ≡ shown (upd A.pending t o u)
      go (inl z) = upd-at B.pending t p u z ∙ e ∙ ap shown (sym (upd-at A.pending t o u z))
      go (inr z) = upd_off B.pending t p u z ∙ S.pending u ∙ ap shown (sym (upd_off A.pending t o u z))

  stepped : (t : ℕ) (x : Attempt) (l : List Report) → add_steps x [] (B.pending t) ≡ shown (add_steps x l (A.pending t))
  stepped t x l = ap (add_steps x []) (S.pending t) ∙ go (A.pending t)
    where
      go : (o : Option AddCall) → add_steps x [] (shown o) ≡ shown (add_steps x l o)
      go none = refl
      go (some c) = refl

  ended : (t : ℕ) (x : Attempt) (l : List Report) (r : AddReport) → add_ends (add_steps x [] (B.pending t)) r B.finished ≡ map shown_end (add_ends (add_steps x l (A.pending t)) r A.finished)
  ended t x l r = ap (λ (o : Option AddCall). add_ends o r B.finished) (stepped t x l) ∙ go (add_steps x l (A.pending t))
    where
      go : (o : Option AddCall) → add_ends (shown o) r B.finished ≡ map shown_end (add_ends o r A.finished)
      go none = S.finished
      go (some c) = ap (λ (l : List FinishedAdd). shown_end (record { call = c; report = r }) ∷ l) S.finished

  left : (t : ℕ) → also_withdrawn_add (B.pending t) B.withdrawn ≡ map without_parts (also_withdrawn_add (A.pending t) A.withdrawn)
  left t = ap (λ (o : Option AddCall). also_withdrawn_add o B.withdrawn) (S.pending t) ∙ go (A.pending t)
    where
      go : (o : Option AddCall) → also_withdrawn_add (shown o) B.withdrawn ≡ map without_parts (also_withdrawn_add o A.withdrawn)
      go none = S.withdrawn
      go (some c) = ap (λ (l : List AddCall). without_parts c ∷ l) S.withdrawn

  passes : Shows (enter_add A (act (step 0)) [] (plain (refused 0))) (enter_add B (act (step 0)) [] (plain (refused 0)))
  passes = record { now = ap suc S.now; pending = S.pending; finished = S.finished; withdrawn = S.withdrawn }

  summing : (t : ℕ) (x : Attempt) (l : List Report) (r : AddReport) →
      Shows (record { now = suc A.now; pending = upd A.pending t none; finished = add_ends (add_steps x l (A.pending t)) r A.finished; withdrawn = A.withdrawn })
      (record { now = suc B.now; pending = upd B.pending t none; finished = add_ends (add_steps x [] (B.pending t)) r B.finished; withdrawn = B.withdrawn })
  summing t x l r = record { now = ap suc S.now; pending = changed t none none refl; finished = ended t x l r; withdrawn = S.withdrawn }

  pub shows-next : (q : Request) (d : List (Action × Event)) (e : RequestEvent) → Shows (enter_add A q d e) (enter_add B q [] e)
  shows-next q d (plain (refused n)) = passes
  shows-next (act (begin t op)) d (plain (accepted x)) = passes
  shows-next (act (step t)) d (plain (accepted x)) = record { now = ap suc S.now; pending = changed t (add_steps x (reports_in d) (A.pending t)) (add_steps x [] (B.pending t)) (stepped t x (reports_in d)); finished = S.finished; withdrawn = S.withdrawn }
  shows-next (act (drop t)) d (plain (accepted x)) = record { now = ap suc S.now; pending = changed t none none refl; finished = S.finished; withdrawn = left t }
  shows-next (add t k m r) d (plain (accepted x)) = record { now = ap suc S.now; pending = changed t (some (add_called A t k m r)) (some (add_called B t k m r)) (ap (λ (n : ℕ). some (record { start = record { at = n; task = t; cell = k; amount = m; tries = r }; steps = 0; won = 0; lost = 0; parts = [] })) S.now); finished = S.finished; withdrawn = S.withdrawn }
  shows-next q d (plain (answered x r)) = passes
  shows-next (act a) d (summed x r) = summing (task_of a) x (reports_in d) r
  shows-next (add t k m n) d (summed x r) = summing t x (reports_in d) r

shows-all : (A B : AddCalls) → Shows A B → (h : List (Request × Gave)) → Shows (enter_adds A h) (enter_seen B (events_of h))
shows-all A B S [] = S
shows-all A B S (x ∷ h) = shows-all (enter_add A x.0 x.1.did x.1.event) (enter_add B x.0 [] x.1.event) (shows-next A B S x.0 x.1.did x.1.event) h

pub seen-shows : (h : List (Request × Gave)) → Shows (adds_of h) (adds_seen (events_of h))
seen-shows = shows-all no_add_calls no_add_calls (record { now = refl; pending = λ t. refl; finished = refl; withdrawn = refl })

-- OF THE ADDS

shown-some : (o : Option AddCall) (c : AddCall) → shown o ≡ some c → (d : AddCall) × (o ≡ some d) × (c ≡ without_parts d)
shown-some none c e = absurd (clash refl e)
shown-some (some d) c e = (d, refl, some_inj {o = some c} refl (sym e))

few-shown : (c : AddCall) → FewSoFar c → FewSoFar (without_parts c)
few-shown c h = record { few-steps = h.few-steps; few-attempts = h.few-attempts }

counted-shown : (f : FinishedAdd) → Counted f → Counted (shown_end f)
counted-shown f h = record { cell = h.cell; steps = h.steps; won = h.won; lost = h.lost; tries = h.tries; few-steps = h.few-steps; few-attempts = h.few-attempts }

pub right-seen : (top : ℕ) (A B : AddCalls) → Shows A B → RightAdds top A → RightSeen B
right-seen top A B S R = record {
  ended = λ f i. let r = map_out shown_end A.finished f (subst (λ (l : List FinishedAdd). f ∈ l) S.finished i) in subst Counted (sym r.2) (counted-shown r.0 (R.ended r.0 r.1).counted);
  unended = λ t c e. let r = shown-some (A.pending t) c (sym (S.pending t) ∙ e) in subst FewSoFar (sym r.2) (few-shown r.0 (R.unended t r.0 r.1).few);
  withdrawn = λ c i. let r = map_out without_parts A.withdrawn c (subst (λ (l : List AddCall). c ∈ l) S.withdrawn i) in subst FewSoFar (sym r.2) (few-shown r.0 (R.withdrawn r.0 r.1).few);
}

-- an add that finishes is seen to finish
pub finish-seen : (adds seen : List Request → AddCalls) → ((l : List Request) → Shows (adds l) (seen l)) → (l : List Request) (t : ℕ) (c : AddCall) → (seen l).pending t ≡ some c →
    ((d : AddCall) → (adds l).pending t ≡ some d → AddFinishes adds l t d (27 * d.start.tries)) → AddFinishes seen l t c (27 * c.start.tries)
finish-seen adds seen S l t c e ends =
    let r = shown-some ((adds l).pending t) c (sym ((S l).pending t) ∙ e) in
    let f = ends r.0 r.1 in
    record {
      steps = f.steps;
      at_most = subst (λ (d : AddCall). f.steps ≤ 27 * d.start.tries) (sym r.2) f.at_most;
      end = shown_end f.end;
      done = subst (λ (l : List FinishedAdd). shown_end f.end ∈ l) (sym (S (l ++ replicate f.steps (act (step t)))).finished) (mem_map shown_end (adds (l ++ replicate f.steps (act (step t)))).finished f.end f.done);
      is = f.is ∙ ap (λ (d : AddCall). d.start) (sym r.2);
    }

-- what they brought is seen
pub brought_seen : (k : ℕ) (l : List FinishedAdd) → brought_to k (map shown_end l) ≡ brought_to k l
brought_seen k [] = refl
brought_seen k (f ∷ l) = ap (λ (n : ℕ). brought_by k f + n) (brought_seen k l)
