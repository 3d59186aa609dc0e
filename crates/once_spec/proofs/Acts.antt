-- The machine: from a state of which everything holds, every move gives an event that it may give, and everything holds again.
use mathlib.Core.Path.{◌≡◌, refl, sym, ap, subst, ◌∙◌, fun_ext}
use mathlib.Core.Logic.{◌≢◌, ◌⊎◌, inl, inr}
use mathlib.Core.Bool.{Bool, true, false, not, or-true}
use mathlib.Core.Option.{Option, none, some}
use mathlib.Core.List.{List}
use Prim.Native.Nat.{ℕ, ◌≤◌, ◌<◌}
use native.Mathlib.Omega.{arith}
use lib.Dec.{eqb, T}
use lib.ListN.{length, get_or, set, length-set}
use lib.Seq.{get_or-set_same, get_or-set_other}
use borrow.Author.Tests.{eqb-true, not-true, ltb-true, lt-ltb, le-leb}
use Rattle.figure_lines.specs.Record.{no_value}
use Rattle.cells_spec.specs.Questions.{Question, refusal, tasks_ok, cells_ok}
use Rattle.cells_spec.proofs.Tests.{yes_to, all_from_lem, within_true}
use Rattle.history_spec.specs.Basics.{upd}
use Rattle.history_spec.proofs.Basics.{either, upd-at, upd_off, clash}
use Rattle.history_spec.proofs.OnCell.{on_in}
use Rattle.once_spec.specs.declared.OnceCell.{OnceCell}
use Rattle.once_spec.specs.declared.Offer.{Offer}
use Rattle.once_spec.specs.declared.OnceState.{OnceState}
use Rattle.once_spec.specs.Figure.{stage_of, GoesOn, idle_offer, Leaves, with_step, leaves}
use Rattle.once_spec.specs.Questions.{offer_at, fresh_cell, once_at, has_offered, is_idle_offer, is_step, offer_fit, offers_fit, once_fit, offer_questions, turn_questions}
use Rattle.once_spec.specs.Entries.{OnceAfter, once_after, or_refused, replaced, offer_noted, first_offer, offer_begun, stored_back, once_stepped}
use Rattle.once_spec.specs.History.{Move, offer, step, MoveEvent, admitted, offer_event, step_event, once_machine, OnceCall, OnceCalls, once_tallied, tally}
use Rattle.once_spec.specs.Consensus.{May}
use Rattle.once_spec.proofs.Classes.{busy, lies_in}
use Rattle.once_spec.proofs.Invariant as I
use Rattle.once_spec.proofs.Keeping.{not_none}
use Rattle.once_spec.proofs.Ways.{Leads, goes, ends, leads, way_busy, way_short}
use Rattle.once_spec.proofs.Sound.{on, Pends, Doing, Sound}
use Rattle.once_spec.proofs.Begins.{busy-offer, begins_sound, was_idle}
use Rattle.once_spec.proofs.Moving.{step_sound}

pub record Stands (s : OnceState) (b : OnceCalls) : Type 0 where
  pub sound : Sound s.tasks s.cells (once_at s) (offer_at s) b
  pub tasks_ok_lem : tasks_ok s.tasks ≡ true
  pub cells_ok_lem : cells_ok s.cells ≡ true
  pub words_16 : length s.words ≡ 16
  pub offers_32 : length s.offers ≡ 32

-- IT IS FIT

T_true : (b : Bool) → T b → b ≡ true
T_true true x = refl
T_true false x = absurd x

is_not : (n : ℕ) → n ≢ I.none → not (eqb n no_value) ≡ true
unfolding I.none
is_not n h = go (eqb n no_value) refl
  where
    go : (x : Bool) → eqb n no_value ≡ x → not x ≡ true
    go true e = absurd (h (eqb-true n no_value e))
    go false e = refl

module _ (s : OnceState) (b : OnceCalls) (S : Stands s b) where
  fits : (t : ℕ) (o : Option OnceCall) → b.pending t ≡ o → Doing s.tasks s.cells b.ids t o (offer_at s t) → offer_fit (offer_at s t) s.cells ≡ true
  unfolding offer_fit
  fits t none e d = rw d refl
  fits t (some c) e P =
      let r = offer_at s t in
      let is-busy : T (busy (stage_of r)) = way_busy (stage_of r) c.done P.way in
      let at : stage_of (on (offer_at s) r.cell t) ≡ stage_of r = ap stage_of (on_in (λ (r : Offer). r.cell) idle_offer (offer_at s) r.cell t refl) in
      let some-value : r.value ≢ I.none = subst (λ q. q.value ≢ I.none) (on_in (λ (r : Offer). r.cell) idle_offer (offer_at s) r.cell t refl) (((S.sound.each-cell r.cell).inv.tasks t).values.some-value (rw at is-busy)) in
      rw (lt-ltb r.cell s.cells P.low-cell, T_true (is_step (stage_of r)) (lies_in busy is_step tt (stage_of r) is-busy), is_not r.value some-value, le-leb r.steps 9 (omega (arith, P.all-steps, way_short (stage_of r) c.done P.way))) (or-true (is_idle_offer r))

  pub is-fit : once_fit s ≡ true
  unfolding once_fit offers_fit
  is-fit = rw (S.tasks_ok_lem, S.cells_ok_lem, all_from_lem (λ t. offer_fit (offer_at s t) s.cells) 0 s.tasks (λ t l h. fits t (b.pending t) refl (S.sound.each-task t))) refl

  -- A REFUSED MOVE changes nothing but the next one's number
  passes : (n v : ℕ) (cells : ℕ → OnceCell) (offers : ℕ → Offer) → Sound n v cells offers b → Sound n v cells offers (once_tallied b b.ids b.pending b.finished)
  passes n v cells offers G = record {
    each-cell = G.each-cell;
    each-task = G.each-task;
    each-end = λ f x. let e = G.each-end f x in record { reported = e.reported; is-begun = e.is-begun; over = omega (arith, e.over); valid = e.valid };
    begun-before = λ i x. omega (arith, G.begun-before i x);
    one_offer = G.one_offer;
  }

  stays : Stands s (once_tallied b b.ids b.pending b.finished)
  stays = record { sound = passes s.tasks s.cells (once_at s) (offer_at s) S.sound; tasks_ok_lem = S.tasks_ok_lem; cells_ok_lem = S.cells_ok_lem; words_16 = S.words_16; offers_32 = S.offers_32 }

  few-tasks : s.tasks ≤ 32
  few-tasks = (within_true s.tasks 1 32 S.tasks_ok_lem).1

  few-cells : s.cells ≤ 16
  few-cells = (within_true s.cells 1 16 S.cells_ok_lem).1

  -- AN ACCEPTED ONE replaces one cell and one offer

  offers-upd : (k : ℕ) (m : OnceCell) (t : ℕ) (r : Offer) → t < s.tasks → offer_at (replaced s k m t r) ≡ upd (offer_at s) t r
  offers-upd k m t r l = fun_ext (λ u. go u (either u t))
    where
      go : (u : ℕ) → (u ≡ t) ⊎ (u ≢ t) → get_or (set s.offers t r) u idle_offer ≡ upd (offer_at s) t r u
      go u (inl e) = rw (upd-at (offer_at s) t r u e, e) (get_or-set_same s.offers t r idle_offer (omega (arith, S.offers_32, few-tasks)))
      go u (inr ne) = rw (upd_off (offer_at s) t r u ne) (get_or-set_other s.offers t u r idle_offer ne)

  cells-upd : (k : ℕ) (m : OnceCell) (t : ℕ) (r : Offer) → k < s.cells → once_at (replaced s k m t r) ≡ upd (once_at s) k m
  cells-upd k m t r l = fun_ext (λ j. go j (either j k))
    where
      go : (j : ℕ) → (j ≡ k) ⊎ (j ≢ k) → get_or (set s.words k m) j fresh_cell ≡ upd (once_at s) k m j
      go j (inl e) = rw (upd-at (once_at s) k m j e, e) (get_or-set_same s.words k m fresh_cell (omega (arith, S.words_16, few-cells)))
      go j (inr ne) = rw (upd_off (once_at s) k m j ne) (get_or-set_other s.words k j m fresh_cell ne)

  replaces : (k : ℕ) (m : OnceCell) (t : ℕ) (r : Offer) (b'' : OnceCalls) → k < s.cells → t < s.tasks → Sound s.tasks s.cells (upd (once_at s) k m) (upd (offer_at s) t r) b'' → Stands (replaced s k m t r) b''
  replaces k m t r b'' lk lt G = record {
    sound = rw (cells-upd k m t r lk, offers-upd k m t r lt) G;
    tasks_ok_lem = S.tasks_ok_lem;
    cells_ok_lem = S.cells_ok_lem;
    words_16 = length-set s.words k m ∙ S.words_16;
    offers_32 = length-set s.offers t r ∙ S.offers_32;
  }

  -- what a move gives, and what holds after it
  pub record Acts (a : Move) (x : OnceState × MoveEvent) : Type 0 where
    pub may : May s.cells b a x.1
    pub stands : Stands x.0 (tally b a x.1)
    pub same_size : x.0.cells ≡ s.cells

  -- A BEGIN

  module _ (t k w : ℕ) where
    abbrev qs : List Question
    qs = offer_questions s.tasks s.cells (offer_at s t) (once_at s k) t k w

    begun-is : (o : Option ℕ) → refusal qs ≡ o → offer_begun s t k w ≡ or_refused o s (once_after (replaced s k (offer_noted (once_at s k) t) t (first_offer k w)) GoesOn)
    unfolding offer_begun
    begun-is o e = rw (is-fit, e) refl

    begins : (o : Option ℕ) → refusal qs ≡ o → Acts (offer t k w) (once_machine s (offer t k w))
    begins (some n) e = subst (λ (y : OnceAfter). Acts (offer t k w) (y.state, offer_event y.gives)) (sym (begun-is (some n) e)) (record { may = tt; stands = stays; same_size = refl })
    begins none e = subst (λ (y : OnceAfter). Acts (offer t k w) (y.state, offer_event y.gives)) (sym (begun-is none e))
        (record { may = ((was_idle s.tasks s.cells (once_at s) (offer_at s) b S.sound t k w lt few-tasks lk is-idle new some_w).0, lk); stands = replaces k (offer_noted (once_at s k) t) t (first_offer k w) (tally b (offer t k w) admitted) lk lt (begins_sound s.tasks s.cells (once_at s) (offer_at s) b S.sound t k w lt few-tasks lk is-idle new some_w); same_size = refl })
      where
        lt : t < s.tasks
        lt = ltb-true t s.tasks (yes_to qs e 7)

        lk : k < s.cells
        lk = ltb-true k s.cells (yes_to qs e 8)

        is-idle : is_idle_offer (offer_at s t) ≡ true
        is-idle = yes_to qs e 9

        new : has_offered (once_at s k) t ≡ false
        new = not-true (has_offered (once_at s k) t) (yes_to qs e 16)

        some_w : w ≢ I.none
        some_w = not_none w (not-true (eqb w no_value) (yes_to qs e 10))

  -- A STEP

  module _ (t : ℕ) where
    abbrev r : Offer
    r = offer_at s t

    abbrev ts : List Question
    ts = turn_questions s.tasks r t

    abbrev x : Leaves
    x = leaves t r (once_at s r.cell)

    stepped-is : (o : Option ℕ) → refusal ts ≡ o → once_stepped s t ≡ or_refused o s (stored_back s t r.cell x)
    unfolding once_stepped
    stepped-is o e = rw (is-fit, e) refl

    -- a pending call's step is not refused
    goes_through : (c : OnceCall) → Pends s.tasks s.cells b.ids t c r → refusal ts ≡ none
    goes_through c P = rw (lt-ltb t s.tasks P.low-task, not_idle (is_idle_offer r) refl) refl
      where
        not_idle : (i : Bool) → is_idle_offer r ≡ i → is_idle_offer r ≡ false
        not_idle true e = absurd (rw (eqb-true r.line 0 e) at P.way)
        not_idle false e = e

    no_call : (n : ℕ) → refusal ts ≡ some n → b.pending t ≡ none
    no_call n e = go (b.pending t) (S.sound.each-task t)
      where
        go : (o : Option OnceCall) → Doing s.tasks s.cells b.ids t o r → o ≡ none
        go none d = refl
        go (some c) d = absurd (clash (goes_through c d) e)

    steps : (o : Option ℕ) → refusal ts ≡ o → Acts (step t) (once_machine s (step t))
    steps (some n) e = subst (λ (y : OnceAfter). Acts (step t) (y.state, step_event (stage_of r) y.gives)) (sym (stepped-is (some n) e)) (record { may = no_call n e; stands = stays; same_size = refl })
    steps none e = subst (λ (y : OnceAfter). Acts (step t) (y.state, step_event (stage_of r) y.gives)) (sym (stepped-is none e))
        (let p = busy-offer s.tasks s.cells b.ids t (b.pending t) r (S.sound.each-task t) (not-true (is_idle_offer r) (yes_to ts e 11)) in
        acted p.0 p.1 p.2)
      where
        may_go : (c : OnceCall) → b.pending t ≡ some c → (y : Leaves) → Leads (stage_of r) (with_step r) (once_at s r.cell) y → May s.cells b (step t) (step_event (stage_of r) y.gives)
        may_go c h y (goes m' n w o f) = rw h tt
        may_go c h y (ends m' w o f) = rw h tt

        acted : (c : OnceCall) → b.pending t ≡ some c → Pends s.tasks s.cells b.ids t c r → Acts (step t) (replaced s r.cell x.cell t x.offer, step_event (stage_of r) x.gives)
        acted c h P = record {
          may = may_go c h x (leads (stage_of r) t (with_step r) (once_at s r.cell) (way_busy (stage_of r) c.done P.way));
          stands = replaces r.cell x.cell t x.offer (tally b (step t) (step_event (stage_of r) x.gives)) P.low-cell P.low-task (step_sound s.tasks s.cells (once_at s) (offer_at s) b S.sound t c h P);
          same_size = refl;
        }

  pub acts : (a : Move) → Acts a (once_machine s a)
  acts (offer t k w) = begins t k w (refusal (qs t k w)) refl
  acts (step t) = steps t (refusal (ts t)) refl
