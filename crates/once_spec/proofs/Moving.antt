-- An accepted step keeps everything.
use mathlib.Core.Path.{◌≡◌, refl, sym, ap, subst, ◌∙◌}
use mathlib.Core.Logic.{◌≢◌, ◌⊎◌, inl, inr}
use mathlib.Core.Bool.{true, not, cond}
use mathlib.Core.Option.{Option, none, some}
use mathlib.Core.List.{List, [], ◌∷◌, ◌++◌}
use Prim.Native.Nat.{ℕ, suc, ◌+◌, ◌≤◌}
use native.Mathlib.Omega.{arith}
use lib.Dec.{T}
use lib.ListN.{length, length-append}
use Rattle.history_spec.specs.Basics.{upd, ◌∈◌}
use Rattle.history_spec.proofs.Basics.{either, upd-at, upd_off}
use Rattle.history_spec.proofs.OnCell.{on_in, on_changed, on_others}
use Rattle.once_spec.specs.declared.Agreement.{Agreement}
use Rattle.once_spec.specs.declared.OnceCell.{OnceCell}
use Rattle.once_spec.specs.declared.Offer.{Offer}
use Rattle.once_spec.specs.Figure.{Stage, stage_at, stage_of, GoesOn, Ends, idle_offer, Leaves, go_on, agree, stage_does, with_step, leaves}
use Rattle.once_spec.specs.Questions.{has_offered}
use Rattle.once_spec.specs.History.{step, step_event, OnceId, OnceCall, OnceFinished, OnceCalls, gone_on, hard, tally}
use Rattle.once_spec.specs.Paths.{once_paths}
use Rattle.once_spec.specs.Consensus.{offered_cell}
use Rattle.once_spec.proofs.Classes.{busy, tries}
use Rattle.once_spec.proofs.Invariant as I
use Rattle.once_spec.proofs.Keeping.{Kept, keeps}
use Rattle.once_spec.proofs.Lone.{Company, nobody, first, settled, crowded, Company-is, company_after, company_step, lone_calm}
use Rattle.once_spec.proofs.Ways.{Leads, goes, ends, leads, goes_way, ends_path, path-row, way_busy, way_calm, flag_counts}
use Rattle.once_spec.proofs.Sound.{on, OfferedOn, CallsOn, CellSound, Pends, Doing, Ended, Sound, ends_elsewhere}

module _ (n v : ℕ) (cells : ℕ → OnceCell) (offers : ℕ → Offer) (b : OnceCalls) (S : Sound n v cells offers b)
    (t : ℕ) (c : OnceCall) (pending : b.pending t ≡ some c) (P : Pends n v b.ids t c (offers t)) where
  abbrev r : Offer
  r = offers t

  abbrev ℓ : Stage
  ℓ = stage_of r

  abbrev k : ℕ
  k = r.cell

  abbrev m : OnceCell
  m = cells k

  abbrev task : ℕ → Offer
  task = on offers k

  abbrev B : List OnceId
  B = b.ids

  abbrev C : CellSound k m task B b.finished
  C = S.each-cell k

  is-busy : T (busy ℓ)
  is-busy = way_busy ℓ c.done P.way

  mine : task t ≡ r
  mine = on_in (λ (r : Offer). r.cell) idle_offer offers k t refl

  abbrev Holds : Leaves → Type 0
  Holds x = Kept (OfferedOn B k) m task t x × Company-is (company_after C.company x.gives) x.cell (upd task t x.offer)

  held : Holds (stage_does ℓ t (with_step (task t)) m)
  held =
      let e : stage_of (task t) ≡ ℓ = ap stage_of mine in
      let K = keeps (OfferedOn B k) m task C.winner C.fast C.inv t ℓ e is-busy in
      (K, company_step m task t C.company ℓ e is-busy ((C.inv.tasks t).values.some-value (rw e is-busy)) K.same-d C.company_is)

  holds : Holds (leaves t r m)
  holds = subst (λ q. Holds (stage_does ℓ t (with_step q) m)) mine held

  same_company : (d : Company) → company_after d GoesOn ≡ d
  same_company nobody = refl
  same_company (first p) = refl
  same_company settled = refl
  same_company crowded = refl

  -- THE CELL

  module _ (x : Leaves) (H : Holds x) (same-offered : x.cell.offered ≡ m.offered) where
    -- who had ended still has the decision
    kept-agreed : (f : OnceFinished) → f ∈ b.finished → offered_cell f.call ≡ k → (f.agreed.value ≡ x.cell.d) × (x.cell.d ≢ I.none)
    kept-agreed f i e = let a = C.agreed f i e in let d = H.0.same-d a.1 in (a.0 ∙ sym d, subst (λ n. n ≢ I.none) (sym d) a.1)

    kept_notes : (i : OnceId) → i ∈ B → i.cell ≡ k → has_offered x.cell i.task ≡ true
    kept_notes i e on_k = rw same-offered (C.noted-all i e on_k)

  here_goes : (x : Leaves) → x.gives ≡ GoesOn → Holds x → x.cell.offered ≡ m.offered → CellSound k x.cell (upd task t x.offer) B b.finished
  here_goes x g H o = record {
    winner = H.0.winner;
    fast = H.0.fast;
    company = C.company;
    inv = H.0.inv;
    company_is = subst (λ d. Company-is d x.cell (upd task t x.offer)) (ap (company_after C.company) g ∙ same_company C.company) H.1;
    calls_on = C.calls_on;
    agreed = kept-agreed x H o;
    noted-all = kept_notes x H o;
    room = ap length o ∙ C.room;
  }

  module _ (a : Agreement) where
    abbrev f₀ : OnceFinished
    f₀ = record { call = gone_on b ℓ c; agreed = a }

    -- what holds of the call that ends and of those that had
    all-ended : (Q : OnceFinished → Type 0) → Q f₀ → ((f : OnceFinished) → f ∈ b.finished → offered_cell f.call ≡ k → Q f) → (f : OnceFinished) → f ∈ (f₀ ∷ b.finished) → offered_cell f.call ≡ k → Q f
    all-ended Q new old f (inl e) on_k = rw e new
    all-ended Q new old f (inr i) on_k = old f i on_k

    calm : T (not (tries ℓ)) → hard f₀.call ≡ 0
    calm = way_calm ℓ c.done P.way

    calls : (d : Company) → Company-is d m task → CallsOn d k B b.finished → CallsOn (company_after d (Ends a)) k B (f₀ ∷ b.finished)
    calls nobody is h = absurd (subst (λ ℓ. T (busy ℓ)) (sym (ap stage_of mine) ∙ is.0 t) is-busy)
    calls (first p) is h = all-ended (λ f. hard f.call ≡ 0) (calm (subst (λ q. T (not (tries (stage_of q)))) mine (lone_calm m task t p (rw mine is-busy) is))) (λ f i e. absurd (h.1 f i e))
    calls settled is h = all-ended (λ f. hard f.call ≡ 0) (calm (subst (λ q. T (not (tries (stage_of q)))) mine (is.1 t))) h
    calls crowded is h = record {
      one = h.one;
      two = h.two;
      one_in = h.one_in;
      two_in = h.two_in;
      one_on = h.one_on;
      two_on = h.two_on;
      differ = h.differ;
      before_ends = all-ended (λ f. (h.one.at ≤ f.call.last) × (h.two.at ≤ f.call.last)) (omega (arith, S.begun-before h.one h.one_in), omega (arith, S.begun-before h.two h.two_in)) h.before_ends;
    }

    here_ends : (x : Leaves) → x.gives ≡ Ends a → Holds x → x.cell.offered ≡ m.offered → (a.value ≡ x.cell.d) × (x.cell.d ≢ I.none) → CellSound k x.cell (upd task t x.offer) B (f₀ ∷ b.finished)
    here_ends x g H o d = record {
      winner = H.0.winner;
      fast = H.0.fast;
      company = company_after C.company (Ends a);
      inv = H.0.inv;
      company_is = subst (λ g. Company-is (company_after C.company g) x.cell (upd task t x.offer)) g H.1;
      calls_on = calls C.company C.company_is C.calls_on;
      agreed = all-ended (λ f. (f.agreed.value ≡ x.cell.d) × (x.cell.d ≢ I.none)) d (kept-agreed x H o);
      noted-all = kept_notes x H o;
      room = ap length o ∙ C.room;
    }

  -- ALL CELLS: given the finished calls afterwards, and that on another cell than k none has ended

  all-cells : (m' : OnceCell) (q : Offer) (F : List OnceFinished) → (q.cell ≡ k) ⊎ (q ≡ idle_offer) → CellSound k m' (upd task t q) B F → ((j : ℕ) → j ≢ k → CellSound j (cells j) (on offers j) B F)
      → (j : ℕ) → CellSound j (upd cells k m' j) (on (upd offers t q) j) B F
  all-cells m' q F at here there j = go (either j k)
    where
      go : (j ≡ k) ⊎ (j ≢ k) → CellSound j (upd cells k m' j) (on (upd offers t q) j) B F
      go (inl e) = rw (upd-at cells k m' j e, e, on_changed (λ (r : Offer). r.cell) idle_offer offers t q k at) here
      go (inr ne) = rw (upd_off cells k m' j ne, on_others (λ (r : Offer). r.cell) idle_offer offers t q j ne at) (there j ne)

  all-tasks : (o : Option OnceCall) (q : Offer) → Doing n v B t o q → (u : ℕ) → Doing n v B u (upd b.pending t o u) (upd offers t q u)
  all-tasks o q d u = go (either u t)
    where
      go : (u ≡ t) ⊎ (u ≢ t) → Doing n v B u (upd b.pending t o u) (upd offers t q u)
      go (inl e) = rw (upd-at b.pending t o u e, upd-at offers t q u e, e) d
      go (inr ne) = rw (upd_off b.pending t o u ne, upd_off offers t q u ne) (S.each-task u)

  later : (f : OnceFinished) → f ∈ b.finished → Ended (suc b.now) B f
  later f i = let e = S.each-end f i in record { reported = e.reported; is-begun = e.is-begun; over = omega (arith, e.over); valid = e.valid }

  longer : r.steps + 1 ≡ length (c.done ++ (ℓ ∷ []))
  longer = ap (λ n. n + 1) P.all-steps ∙ sym (length-append c.done (ℓ ∷ []))

  -- THE TWO WAYS A STEP GOES

  moves_on : (x : Leaves) → Leads ℓ (with_step r) m x → Holds x → Sound n v (upd cells k x.cell) (upd offers t x.offer) (tally b (step t) (step_event ℓ x.gives))
  moves_on x (goes m' l w o f) H = record {
    each-cell = all-cells m' (go_on m' (with_step r) l w).offer b.finished (inl refl) (here_goes (go_on m' (with_step r) l w) refl H o) (λ j ne. S.each-cell j);
    each-task = rw pending (all-tasks (some (gone_on b ℓ c)) (go_on m' (with_step r) l w).offer
        (record { low-task = P.low-task; low-cell = P.low-cell; on_cell = P.on_cell; way = goes_way ℓ (stage_at l) f c.done P.way; all-steps = longer; all-hard = flag_counts r.tried ℓ c.done P.way P.all-hard; is-begun = P.is-begun }));
    each-end = later;
    begun-before = λ i x. omega (arith, S.begun-before i x);
    one_offer = S.one_offer;
  }
  moves_on x (ends m' w o e) H = rw pending (record {
    each-cell = all-cells m' idle_offer (f₀ a ∷ b.finished) (inr refl) (here_ends a (agree m' (with_step r) w) refl H o H.0.answers)
        (λ j ne. ends_elsewhere j (cells j) (on offers j) B b.finished (S.each-cell j) (f₀ a) (λ z. ne (sym z ∙ sym P.on_cell)));
    each-task = all-tasks none idle_offer refl;
    each-end = ended;
    begun-before = λ i x. omega (arith, S.begun-before i x);
    one_offer = S.one_offer;
  })
    where
      a : Agreement
      a = record { cell = r.cell; value = w; steps = r.steps + 1; hard = cond (with_step r).tried 1 0 }

      is-path : (c.done ++ (ℓ ∷ [])) ∈ once_paths
      is-path = ends_path ℓ e c.done P.way

      ended : (f : OnceFinished) → f ∈ (f₀ a ∷ b.finished) → Ended (suc b.now) B f
      ended f (inl z) = rw z (record {
        reported = record { cell = P.on_cell; all-steps = longer; all-hard = flag_counts r.tried ℓ c.done P.way P.all-hard; path = is-path; row = path-row (c.done ++ (ℓ ∷ [])) is-path };
        is-begun = P.is-begun;
        over = omega arith;
        valid = let i = H.0.inv.words.d_offered H.0.answers.1 in (i.0, i.1, i.2 ∙ P.on_cell, i.3 ∙ sym H.0.answers.0, S.begun-before i.0 i.1);
      })
      ended f (inr i) = later f i

  pub step_sound : Sound n v (upd cells k (leaves t r m).cell) (upd offers t (leaves t r m).offer) (tally b (step t) (step_event ℓ (leaves t r m).gives))
  step_sound = moves_on (leaves t r m) (leads ℓ t (with_step r) m is-busy) holds
