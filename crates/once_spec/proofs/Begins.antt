-- An accepted begin keeps everything.
use mathlib.Core.Path.{◌≡◌, refl, sym, ap, subst, ◌∙◌}
use mathlib.Core.Logic.{◌≢◌, ◌⊎◌, inl, inr}
use mathlib.Core.Bool.{true, false, false≢true}
use mathlib.Core.Option.{Option, none, some}
use mathlib.Core.List.{List, [], ◌∷◌}
use Prim.Native.Nat.{ℕ, suc, ◌≤◌, ◌<◌}
use native.Mathlib.Omega.{arith}
use lib.ListN.{length-set}
use lib.Seq.{get_or-set_same, get_or-set_other}
use borrow.Author.Tests.{eqb-true}
use Rattle.history_spec.specs.Basics.{upd, ◌∈◌}
use Rattle.history_spec.proofs.Basics.{either, upd-at, upd_off, no_eq, no-T}
use Rattle.history_spec.proofs.OnCell.{on_changed, on_elsewhere}
use Rattle.once_spec.specs.declared.OnceCell.{OnceCell}
use Rattle.once_spec.specs.declared.Offer.{Offer}
use Rattle.once_spec.specs.Figure.{write_x, idle_offer}
use Rattle.once_spec.specs.Questions.{is_idle_offer, has_offered}
use Rattle.once_spec.specs.Entries.{first_offer, offer_noted}
use Rattle.once_spec.specs.History.{offer, admitted, OnceId, OnceCall, OnceCalls, id_of, tally}
use Rattle.once_spec.proofs.Invariant as I
use Rattle.once_spec.proofs.Invariant.{Inv, finish}
use Rattle.once_spec.proofs.Keeping.{no_winner}
use Rattle.once_spec.proofs.Lone.{Company, nobody, first, settled, crowded, joined, company_begin}
use Rattle.once_spec.proofs.Sound.{on, OfferedOn, CallsOn, CellSound, Pends, Doing, Sound, grow, begins_elsewhere}

-- whether a task is busy: by its offer, and by its calls
pub idle-offer : (n v : ℕ) (B : List OnceId) (t : ℕ) (o : Option OnceCall) (r : Offer) → Doing n v B t o r → is_idle_offer r ≡ true → (o ≡ none) × (r ≡ idle_offer)
idle-offer n v B t none r d e = (refl, d)
idle-offer n v B t (some c) r d e = absurd (rw (eqb-true r.line 0 e) at d.way)

pub busy-offer : (n v : ℕ) (B : List OnceId) (t : ℕ) (o : Option OnceCall) (r : Offer) → Doing n v B t o r → is_idle_offer r ≡ false → (c : OnceCall) × (o ≡ some c) × Pends n v B t c r
busy-offer n v B t none r d e = absurd (false≢true (sym e ∙ ap is_idle_offer d))
busy-offer n v B t (some c) r d e = (c, refl, d)

module _ (n v : ℕ) (cells : ℕ → OnceCell) (offers : ℕ → Offer) (b : OnceCalls) (S : Sound n v cells offers b)
    (t k w : ℕ) (low-task : t < n) (few : n ≤ 32) (low-cell : k < v) (is-idle : is_idle_offer (offers t) ≡ true) (new : has_offered (cells k) t ≡ false) (some_w : w ≢ I.none) where
  abbrev i₀ : OnceId
  i₀ = id_of b t k w

  abbrev B : List OnceId
  B = b.ids

  pub was_idle : (b.pending t ≡ none) × (offers t ≡ idle_offer)
  was_idle = idle-offer n v B t (b.pending t) (offers t) (S.each-task t) is-idle

  -- THE CELL

  abbrev task : ℕ → Offer
  task = on offers k

  abbrev m : OnceCell
  m = cells k

  abbrev C : CellSound k m task B b.finished
  C = S.each-cell k

  abbrev O : ℕ → Type 0
  O = OfferedOn (i₀ ∷ B) k

  begins_inv : Inv O (offer_noted m t) (upd task t (first_offer k w)) C.winner C.fast
  begins_inv =
      let i = grow (OfferedOn B k) O (λ w o. (o.0, inr o.1, o.2, o.3)) m task C.winner C.fast C.inv in
      let o : O w = (i₀, inl refl, refl, refl) in
      finish O (offer_noted m t) task C.winner C.fast t write_x (first_offer k w) refl i.words
      (λ u ne. let j = i.tasks u in record { splits = j.splits; values = j.values; decides = j.decides })
      (search (no_eq, no-T, no_winner))

  calls : (c : Company) → CallsOn c k B b.finished → CallsOn (joined c t) k (i₀ ∷ B) b.finished
  calls nobody h = ((i₀, inl refl, refl), h.1)
  calls (first p) h = record {
    one = h.0.0;
    two = i₀;
    one_in = inr h.0.1;
    two_in = inl refl;
    one_on = h.0.2;
    two_on = refl;
    differ = λ e. omega (arith, S.begun-before h.0.0 h.0.1);
    before_ends = λ f i e. absurd (h.1 f i e);
  }
  calls settled h = h
  calls crowded h = record { one = h.one; two = h.two; one_in = inr h.one_in; two_in = inr h.two_in; one_on = h.one_on; two_on = h.two_on; differ = h.differ; before_ends = h.before_ends }

  marked : (u : ℕ) → u ≡ t → has_offered (offer_noted m t) u ≡ true
  marked u e = rw e (get_or-set_same m.offered t true false (omega (arith, C.room)))

  still_marked : (u : ℕ) → has_offered m u ≡ true → has_offered (offer_noted m t) u ≡ true
  still_marked u h = go (either u t)
    where
      go : (u ≡ t) ⊎ (u ≢ t) → has_offered (offer_noted m t) u ≡ true
      go (inl e) = marked u e
      go (inr ne) = get_or-set_other m.offered t u true false ne ∙ h

  marks-all : (i : OnceId) → i ∈ (i₀ ∷ B) → i.cell ≡ k → has_offered (offer_noted m t) i.task ≡ true
  marks-all i (inl e) on_k = marked i.task (ap (λ (i : OnceId). i.task) e)
  marks-all i (inr x) on_k = still_marked i.task (C.noted-all i x on_k)

  here : CellSound k (offer_noted m t) (upd task t (first_offer k w)) (i₀ ∷ B) b.finished
  here = record {
    winner = C.winner;
    fast = C.fast;
    company = joined C.company t;
    inv = begins_inv;
    company_is = company_begin C.company m task t k w C.company_is;
    calls_on = calls C.company C.calls_on;
    agreed = C.agreed;
    noted-all = marks-all;
    room = length-set m.offered t true ∙ C.room;
  }

  -- ALL OF IT

  abbrev cells' : ℕ → OnceCell
  cells' = upd cells k (offer_noted m t)

  abbrev offers' : ℕ → Offer
  offers' = upd offers t (first_offer k w)

  cell : (j : ℕ) → (j ≡ k) ⊎ (j ≢ k) → CellSound j (cells' j) (on offers' j) (i₀ ∷ B) b.finished
  cell j (inl e) = rw (upd-at cells k (offer_noted m t) j e, e, on_changed (λ (r : Offer). r.cell) idle_offer offers t (first_offer k w) k (inl refl)) here
  cell j (inr ne) =
      rw (upd_off cells k (offer_noted m t) j ne, on_elsewhere (λ (r : Offer). r.cell) idle_offer offers t (first_offer k w) j (inr was_idle.1) (inl (λ e. ne (sym e))))
      (begins_elsewhere j (cells j) (on offers j) B b.finished (S.each-cell j) i₀ (λ e. ne (sym e)))

  more : (u : ℕ) (o : Option OnceCall) (r : Offer) → Doing n v B u o r → Doing n v (i₀ ∷ B) u o r
  more u none r d = d
  more u (some c) r d = record { low-task = d.low-task; low-cell = d.low-cell; on_cell = d.on_cell; way = d.way; all-steps = d.all-steps; all-hard = d.all-hard; is-begun = inr d.is-begun }

  its-task : (u : ℕ) → (u ≡ t) ⊎ (u ≢ t) → Doing n v (i₀ ∷ B) u ((tally b (offer t k w) admitted).pending u) (offers' u)
  its-task u (inl e) = rw (upd-at b.pending t (some (record { start = i₀; last = b.now; done = [] })) u e, upd-at offers t (first_offer k w) u e, e)
      (record { low-task = low-task; low-cell = low-cell; on_cell = refl; way = inl refl; all-steps = refl; all-hard = refl; is-begun = inl refl })
  its-task u (inr ne) = rw (upd_off b.pending t (some (record { start = i₀; last = b.now; done = [] })) u ne, upd_off offers t (first_offer k w) u ne) (more u (b.pending u) (offers u) (S.each-task u))

  earlier : (i : OnceId) → i ∈ (i₀ ∷ B) → i.at < suc b.now
  earlier i (inl e) = rw e (omega arith)
  earlier i (inr x) = omega (arith, S.begun-before i x)

  clash_new : (i : OnceId) → i ∈ B → i.task ≡ t → i.cell ≡ k → ⊥
  clash_new i x et ek = false≢true (sym new ∙ subst (λ u. has_offered m u ≡ true) et (C.noted-all i x ek))

  one : (i j : OnceId) → i ∈ (i₀ ∷ B) → j ∈ (i₀ ∷ B) → i.task ≡ j.task → i.cell ≡ j.cell → i ≡ j
  one i j (inl e) (inl e') et ek = e ∙ sym e'
  one i j (inl e) (inr x) et ek = absurd (clash_new j x (sym et ∙ ap (λ (i : OnceId). i.task) e) (sym ek ∙ ap (λ (i : OnceId). i.cell) e))
  one i j (inr x) (inl e) et ek = absurd (clash_new i x (et ∙ ap (λ (i : OnceId). i.task) e) (ek ∙ ap (λ (i : OnceId). i.cell) e))
  one i j (inr x) (inr x') et ek = S.one_offer i j x x' et ek

  pub begins_sound : Sound n v cells' offers' (tally b (offer t k w) admitted)
  begins_sound = record {
    each-cell = λ j. cell j (either j k);
    each-task = λ u. its-task u (either u t);
    each-end = λ f x. let e = S.each-end f x in record { reported = e.reported; is-begun = inr e.is-begun; over = omega (arith, e.over); valid = let z = e.valid in (z.0, inr z.1, z.2, z.3, z.4) };
    begun-before = earlier;
    one_offer = one;
  }
