-- The once-only cells agree: the theorem about every list of moves.
use mathlib.Core.Path.{◌≡◌, refl, sym, ap, subst, ◌∙◌}
use mathlib.Core.Logic.{◌≢◌, ◌⊎◌, inl, inr}
use mathlib.Core.Bool.{not}
use mathlib.Core.Option.{none, some}
use mathlib.Core.List.{List, [], ◌∷◌, ◌++◌}
use Prim.Native.Nat.{ℕ, zero, suc, ◌+◌, ◌≤◌}
use native.Mathlib.Omega.{arith}
use lib.Dec.{T}
use lib.ListN.{length-append, replicate}
use Rattle.cells_spec.specs.Questions.{refusal}
use Rattle.cells_spec.proofs.Tests.{yes_to}
use Rattle.history_spec.specs.Basics.{◌∈◌}
use Rattle.history_spec.specs.History.{history, run}
use Rattle.history_spec.proofs.Basics.{either, upd_same, clash, history_append}
use Rattle.history_spec.proofs.OnCell.{on_in}
use Rattle.once_spec.specs.declared.Offer.{Offer}
use Rattle.once_spec.specs.declared.OnceState.{OnceState}
use Rattle.once_spec.specs.Figure.{stage_of, idle_offer}
use Rattle.once_spec.specs.Questions.{offer_at, once_at, open_once}
use Rattle.once_spec.specs.Entries.{once_opened, once_start}
use Rattle.once_spec.specs.History.{Move, step, MoveEvent, refused, admitted, did, ended, once_machine, OnceCall, OnceFinished, OnceCalls, no_offers, steps_done, hard, gone_on, went_on, finishing, tally, tally_all, offers_of, IsCall, finished, pending}
use Rattle.once_spec.specs.Consensus.{offered_cell, Lone, Consensus, May, AllMay, RightOnce, OnceEnds}
use Rattle.once_spec.proofs.Classes.{tries}
use Rattle.once_spec.proofs.Lone.{Company, nobody, first, settled, crowded, Company-is}
use Rattle.once_spec.proofs.Ways.{path-short, path-few, way_short, way_few, way_quiet}
use Rattle.once_spec.proofs.Sound.{on, CallsOn, Pends, Doing, Sound}
use Rattle.once_spec.proofs.Opening.{opening_sound}
use Rattle.once_spec.proofs.Acts.{Stands, acts}

-- WHAT HOLDS OF THE CALLS

module _ (s : OnceState) (b : OnceCalls) (S : Sound s.tasks s.cells (once_at s) (offer_at s) b) where
  its : (t : ℕ) (c : OnceCall) → b.pending t ≡ some c → Pends s.tasks s.cells b.ids t c (offer_at s t)
  its t c h = subst (λ o. Doing s.tasks s.cells b.ids t o (offer_at s t)) h (S.each-task t)

  module _ (f : OnceFinished) (is-in : f ∈ b.finished) (lone : Lone b f) where
    abbrev k : ℕ
    k = offered_cell f.call

    -- where a call ended alone, nobody has tried, and nobody will
    no_attempt : (c : OnceCall) → IsCall b c → offered_cell c ≡ k → (d : Company) → Company-is d (once_at s k) (on (offer_at s) k) → CallsOn d k b.ids b.finished → hard c ≡ 0
    no_attempt c i on_k nobody is h = absurd (h.1 f is-in refl)
    no_attempt c i on_k (first p) is h = absurd (h.1 f is-in refl)
    no_attempt c (finished g x) on_k settled is h = h g x on_k
    no_attempt c (pending t c' x) on_k settled is h =
        let P = its t c x in
        way_quiet (stage_of (offer_at s t)) c.done P.way
        (subst (λ q. T (not (tries (stage_of q)))) (on_in (λ (r : Offer). r.cell) idle_offer (offer_at s) k t (P.on_cell ∙ on_k)) (is.1 t))
    no_attempt c i on_k crowded is h = absurd (go (either h.one.at f.call.start.at))
      where
        go : (h.one.at ≡ f.call.start.at) ⊎ (h.one.at ≢ f.call.start.at) → ⊥
        go (inl e) = omega (arith, lone h.two h.two_in h.two_on (λ z. h.differ (e ∙ sym z)), (h.before_ends f is-in refl).1)
        go (inr ne) = omega (arith, lone h.one h.one_in h.one_on ne, (h.before_ends f is-in refl).0)

  calls-agree : Consensus b
  calls-agree = record {
    agreement = λ f g x y e. ((S.each-cell (offered_cell g.call)).agreed f x e).0 ∙ sym ((S.each-cell (offered_cell g.call)).agreed g y refl).0;
    validity = λ f x. let z = (S.each-end f x).valid in record { by = z.0; is-begun = z.1; there = z.2; offers = z.3; in_time = z.4 };
    reported = λ f x. (S.each-end f x).reported;
    few = λ f x. let p = (S.each-end f x).reported.path in (path-short f.call.done p, path-few f.call.done p);
    few-pending = λ t c h. let P = its t c h in (way_short (stage_of (offer_at s t)) c.done P.way, way_few (stage_of (offer_at s t)) c.done P.way);
    no_hardware = λ f x lone c i on_k. let C = S.each-cell (offered_cell f.call) in no_attempt f x lone c i on_k C.company C.company_is C.calls_on;
    one_offer = S.one_offer;
  }

-- EVERY LIST OF MOVES

stands_after : (l : List Move) (s : OnceState) (b : OnceCalls) → Stands s b → Stands (run once_machine s l) (tally_all b (history once_machine s l))
stands_after [] s b S = S
stands_after (a ∷ l) s b S = stands_after l (once_machine s a).0 (tally b a (once_machine s a).1) (acts s b S a).stands

all_may : (l : List Move) (s : OnceState) (b : OnceCalls) (size : ℕ) → s.cells ≡ size → Stands s b → AllMay size b (history once_machine s l)
all_may [] s b size e S = tt
all_may (a ∷ l) s b size e S = let A = acts s b S a in
    (subst (λ n. May n b a (once_machine s a).1) e A.may, all_may l (once_machine s a).0 (tally b a (once_machine s a).1) size (A.same_size ∙ e) A.stands)

-- FROM ANYWHERE A CALL ENDS

tally_append : (b : OnceCalls) (h g : List (Move × MoveEvent)) → tally_all b (h ++ g) ≡ tally_all (tally_all b h) g
tally_append b [] g = refl
tally_append b (x ∷ h) g = tally_append (tally b x.0 x.1) h g

record Within (s : OnceState) (b : OnceCalls) (t : ℕ) (c : OnceCall) (few : ℕ) : Type 0 where
  more : ℕ
  at_most : more ≤ few
  end : OnceFinished
  is-finished : end ∈ (tally_all b (history once_machine s (replicate more (step t)))).finished
  is : end.call.start ≡ c.start

-- each further step is accepted, and the bound leaves room for no more than k that do not end the call
ends_from : (k : ℕ) (s : OnceState) (b : OnceCalls) → Stands s b → (t : ℕ) (c : OnceCall) → b.pending t ≡ some c → 10 ≤ steps_done c + k → Within s b t c k
ends_from zero s b S t c h m = absurd (omega (arith, ((calls-agree s b S.sound).few-pending t c h).0))
ends_from (suc k) s b S t c h m = go (once_machine s (step t)).1 refl (acts s b S (step t)).may (ends_from k (once_machine s (step t)).0 (tally b (step t) (once_machine s (step t)).1) (acts s b S (step t)).stands t)
  where
    b'' : OnceCalls
    b'' = tally b (step t) (once_machine s (step t)).1

    go : (e : MoveEvent) → (once_machine s (step t)).1 ≡ e → May s.cells b (step t) e → ((d : OnceCall) → b''.pending t ≡ some d → 10 ≤ steps_done d + k → Within (once_machine s (step t)).0 b'' t d k) → Within s b t c (suc k)
    go (refused n) e y rec = absurd (clash y h)
    go admitted e y rec = absurd y
    go (did ℓ) e y rec =
        let r = rec (gone_on b ℓ c) (ap (λ e. (tally b (step t) e).pending t) e ∙ (upd_same b.pending t (went_on b ℓ (b.pending t)) ∙ ap (went_on b ℓ) h)) (omega (arith, length-append c.done (ℓ ∷ []))) in
        record { more = suc r.more; at_most = omega (arith, r.at_most); end = r.end; is-finished = r.is-finished; is = r.is }
    go (ended ℓ a) e y rec = record {
      more = 1;
      at_most = omega arith;
      end = record { call = gone_on b ℓ c; agreed = a };
      is-finished = subst (λ l. record { call = gone_on b ℓ c; agreed = a } ∈ l) (sym (ap (λ e. (tally b (step t) e).finished) e ∙ ap (λ o. finishing (went_on b ℓ o) a b.finished) h)) (inl refl);
      is = refl;
    }

-- THE THEOREMS, whatever was in the state before an opening that is not refused

module _ (old : OnceState) (tasks cells : ℕ) (allowed : refusal (open_once tasks cells) ≡ none) where
  opened-is : (once_opened old tasks cells).state ≡ once_start tasks cells
  unfolding once_opened
  opened-is = rw allowed refl

  starts : Stands (once_start tasks cells) no_offers
  starts = record { sound = opening_sound tasks cells; tasks_ok_lem = yes_to (open_once tasks cells) allowed 1; cells_ok_lem = yes_to (open_once tasks cells) allowed 2; words_16 = refl; offers_32 = refl }

  opening : Stands (once_opened old tasks cells).state no_offers
  opening = rw opened-is starts

  -- For every list of begins and steps with any numbers, refused ones included, wherever tasks halt: all finished calls on a cell give the
  -- same value; it was offered on that cell by a call begun before the answer; a call takes at most 10 steps and 1 hardware CAS, on one of the
  -- eleven paths; a pending call's step is never refused; if one call on a cell ends before any other on that cell begins, no call of the
  -- whole list attempts a hardware CAS on it.
  pub once_cells_agree : (moves : List Move) → RightOnce cells (history once_machine (once_opened old tasks cells).state moves)
  once_cells_agree l = record {
    well_formed = all_may l (once_opened old tasks cells).state no_offers cells (ap (λ (s : OnceState). s.cells) opened-is) opening;
    calls = calls-agree (run once_machine (once_opened old tasks cells).state l) (offers_of (history once_machine (once_opened old tasks cells).state l)) (stands_after l (once_opened old tasks cells).state no_offers opening).sound;
  }

  -- From anywhere in any list, at most 10 further steps of its task finish a call.
  pub every_offer_ends : (moves : List Move) (task : ℕ) (call : OnceCall) → (offers_of (history once_machine (once_opened old tasks cells).state moves)).pending task ≡ some call
      → OnceEnds once_machine (once_opened old tasks cells).state moves task call 10
  every_offer_ends l t c h =
      let s = (once_opened old tasks cells).state in
      let w = ends_from 10 (run once_machine s l) (offers_of (history once_machine s l)) (stands_after l s no_offers opening) t c h (omega arith) in
      record {
        more = w.more;
        at_most = w.at_most;
        end = w.end;
        is-finished = subst (λ b. w.end ∈ b.finished) (sym (ap (tally_all no_offers) (history_append once_machine s l (replicate w.more (step t))) ∙ tally_append no_offers (history once_machine s l) (history once_machine (run once_machine s l) (replicate w.more (step t))))) w.is-finished;
        is = w.is;
      }
