-- No hardware CAS: what is known of a cell while nobody has offered, while the first call runs alone, and after it has ended alone.
use mathlib.Core.Path.{◌≡◌, refl, sym, ◌∙◌, subst}
use mathlib.Core.Logic.{◌≢◌, ◌⊎◌, inl, inr}
use mathlib.Core.Bool.{Bool, true, false, not, cond}
use Prim.Native.Nat.{ℕ}
use lib.Dec.{eqb, T}
use borrow.Author.Tests.{eq-eqb, eqb-true}
use Rattle.figure_lines.specs.Basics.{within}
use Rattle.figure_lines.specs.Record.{no_value}
use Rattle.history_spec.specs.Basics.{upd}
use Rattle.history_spec.proofs.Basics.{either, upd_same, upd_off, upd-cases}
use Rattle.once_spec.specs.declared.OnceCell.{OnceCell}
use Rattle.once_spec.specs.declared.Offer.{Offer}
use Rattle.once_spec.specs.Figure.{Stage, write_x, read_y, write_y, read_x, store_v, read_c, store_d, set_c, test_v, load_v, look_d, cas_d, read_d, nowhere, stage_at, stage_of, Given, Refuses, GoesOn, Ends, Leaves, put_x, put_y, put_v, go_on, agree, stage_does, with_step}
use Rattle.once_spec.specs.Entries.{first_offer, offer_noted}
use Rattle.once_spec.proofs.Classes.{number, is, busy, tries, lonely, same_number, lies_in}
use Rattle.once_spec.proofs.Invariant.{none}
use Rattle.once_spec.proofs.Keeping.{is_none}
use Rattle.once_spec.proofs.Ways.{Leads, goes, ends, leads, never_next}

-- how many have come to a cell: nobody; one, whose call is pending; one that ended before the next came; two before any ended
pub data Company : Type 0 where
  nobody : Company
  first : (task : ℕ) → Company
  settled : Company
  crowded : Company

-- the first task, alone, at step ℓ
pub record Runs (p x y c : ℕ) (ℓ : Stage) : Type 0 where
  pub alone : T (lonely ℓ)
  pub own_x : T (within (number ℓ) 2 4) → x ≡ p
  pub clear-y : T (within (number ℓ) 1 3) → y ≡ 0
  pub clear-c : c ≡ 0

abbrev pub Company-is : Company → OnceCell → (ℕ → Offer) → Type 0
Company-is nobody m task = ((u : ℕ) → stage_of (task u) ≡ nowhere) × (m.y ≡ 0) × (m.c ≡ 0)
Company-is (first p) m task = ((u : ℕ) → u ≢ p → stage_of (task u) ≡ nowhere) × Runs p m.x m.y m.c (stage_of (task p))
Company-is settled m task = (m.d ≢ none) × ((u : ℕ) → T (not (tries (stage_of (task u)))))
Company-is crowded m task = Unit {0}

-- A STEP

abbrev pub company_after : Company → Given → Company
company_after nobody g = nobody
company_after (first p) (Refuses n) = first p
company_after (first p) GoesOn = first p
company_after (first p) (Ends a) = settled
company_after settled g = settled
company_after crowded g = crowded

module _ (m : OnceCell) (task : ℕ → Offer) (p : ℕ) where
  abbrev r : Offer
  r = with_step (task p)

  abbrev Afterwards : Company → Leaves → Type 0
  Afterwards c x = Company-is (company_after c x.gives) x.cell (upd task p x.offer)

  module _ (others : (u : ℕ) → u ≢ p → stage_of (task u) ≡ nowhere) where
    still : (q : Offer) (u : ℕ) → u ≢ p → stage_of (upd task p q u) ≡ nowhere
    still q u ne = rw (upd_off task p q u ne) (others u ne)

    runs_on : (m' : OnceCell) (ℓ : Stage) (n w : ℕ) → stage_of (go_on m' r n w).offer ≡ ℓ → Runs p m'.x m'.y m'.c ℓ → Afterwards (first p) (go_on m' r n w)
    runs_on m' ℓ n w e o = (still (go_on m' r n w).offer, rw (upd_same task p (go_on m' r n w).offer, e) o)

    -- alone it finds Y false, its own number in X, and C false
    first_step : (ℓ : Stage) → (task p).value ≢ none → Runs p m.x m.y m.c ℓ → Afterwards (first p) (stage_does ℓ p r m)
    first_step write_x s o = runs_on (put_x m p) read_y 2 r.value refl (record { alone = tt; own_x = λ a. refl; clear-y = λ a. o.clear-y tt; clear-c = o.clear-c })
    first_step read_y s o = rw (eq-eqb m.y 0 (o.clear-y tt)) (runs_on m write_y 3 r.value refl (record { alone = tt; own_x = λ a. o.own_x tt; clear-y = λ a. o.clear-y tt; clear-c = o.clear-c }))
    first_step write_y s o = runs_on (put_y m 1) read_x 4 r.value refl (record { alone = tt; own_x = λ a. o.own_x tt; clear-y = λ a. absurd a; clear-c = o.clear-c })
    first_step read_x s o = rw (eq-eqb m.x p (o.own_x tt)) (runs_on m store_v 5 r.value refl (record { alone = tt; own_x = λ a. absurd a; clear-y = λ a. absurd a; clear-c = o.clear-c }))
    first_step store_v s o = runs_on (put_v m r.value) read_c 6 r.value refl (record { alone = tt; own_x = λ a. absurd a; clear-y = λ a. absurd a; clear-c = o.clear-c })
    first_step read_c s o = rw (eq-eqb m.c 0 o.clear-c) (runs_on m store_d 7 r.value refl (record { alone = tt; own_x = λ a. absurd a; clear-y = λ a. absurd a; clear-c = o.clear-c }))
    first_step store_d s o = (s, λ u. upd-cases (λ q. T (not (tries (stage_of q)))) task p _ u (λ e. tt) (λ ne. rw (others u ne) tt))
    first_step set_c s o = absurd o.alone
    first_step test_v s o = absurd o.alone
    first_step load_v s o = absurd o.alone
    first_step look_d s o = absurd o.alone
    first_step cas_d s o = absurd o.alone
    first_step read_d s o = absurd o.alone
    first_step nowhere s o = absurd o.alone

  at_look : m.d ≢ none → T (not (tries (stage_of (stage_does look_d p r m).offer)))
  at_look s = go (eqb m.d no_value) refl
    where
      go : (b : Bool) → eqb m.d no_value ≡ b → T (not (tries (stage_of (cond b (go_on m r 12 r.value) (agree m r m.d)).offer)))
      go true z = absurd (s (is_none m.d z))
      go false z = tt

  -- where D is there, nobody comes to the hardware CAS: the look before it ends the call
  none_tries : m.d ≢ none → (ℓ : Stage) → T (not (tries ℓ)) → Leads ℓ r m (stage_does ℓ p r m) → T (not (tries (stage_of (stage_does ℓ p r m).offer)))
  none_tries s ℓ n l = go (is 11 ℓ) refl
    where
      by_lead : (x : Leaves) → Leads ℓ r m x → T (not (is 11 ℓ)) → T (not (tries (stage_of x.offer)))
      by_lead x (goes m' k w o f) other = never_next ℓ (stage_at k) f n other
      by_lead x (ends m' w o e) other = tt

      go : (b : Bool) → is 11 ℓ ≡ b → T (not (tries (stage_of (stage_does ℓ p r m).offer)))
      go true z = subst (λ ℓ. T (not (tries (stage_of (stage_does ℓ p r m).offer)))) (sym (same_number ℓ look_d (eqb-true (number ℓ) 11 z))) (at_look s)
      go false z = by_lead (stage_does ℓ p r m) l (rw z tt)

  pub company_step : (c : Company) (ℓ : Stage) → stage_of (task p) ≡ ℓ → T (busy ℓ) → (task p).value ≢ none → (m.d ≢ none → (stage_does ℓ p r m).cell.d ≡ m.d) → Company-is c m task → Afterwards c (stage_does ℓ p r m)
  company_step nobody ℓ e b s d h = absurd (subst (λ ℓ. T (busy ℓ)) (sym e ∙ h.0 p) b)
  company_step (first q) ℓ e b s d h = go (either p q)
    where
      go : (p ≡ q) ⊎ (p ≢ q) → Afterwards (first q) (stage_does ℓ p r m)
      go (inl z) = subst (λ q. Afterwards (first q) (stage_does ℓ p r m)) z
          (first_step (λ u ne. h.0 u (λ x. ne (x ∙ sym z))) ℓ s (subst (λ ℓ. Runs p m.x m.y m.c ℓ) e (subst (λ q. Runs q m.x m.y m.c (stage_of (task q))) (sym z) h.1)))
      go (inr ne) = absurd (subst (λ ℓ. T (busy ℓ)) (sym e ∙ h.0 p ne) b)
  company_step settled ℓ e b s d h = (
    subst (λ n. n ≢ none) (sym (d h.0)) h.0,
    λ u. upd-cases (λ q. T (not (tries (stage_of q)))) task p (stage_does ℓ p r m).offer u (λ z. none_tries h.0 ℓ (subst (λ ℓ. T (not (tries ℓ))) e (h.1 p)) (leads ℓ p r m b)) (λ ne. h.1 u),
  )
  company_step crowded ℓ e b s d h = tt

-- of a call that ends while the cell was not crowded: it has not tried
pub lone_calm : (m : OnceCell) (task : ℕ → Offer) (p : ℕ) (q : ℕ) → T (busy (stage_of (task p))) → Company-is (first q) m task → T (not (tries (stage_of (task p))))
lone_calm m task p q b h = go (either p q)
  where
    go : (p ≡ q) ⊎ (p ≢ q) → T (not (tries (stage_of (task p))))
    go (inl z) = lies_in lonely (λ ℓ. not (tries ℓ)) tt (stage_of (task p)) (subst (λ n. T (lonely (stage_of (task n)))) (sym z) h.1.alone)
    go (inr ne) = rw (h.0 p ne) tt

-- A BEGIN

abbrev pub joined : Company → ℕ → Company
joined nobody t = first t
joined (first p) t = crowded
joined settled t = settled
joined crowded t = crowded

pub company_begin : (c : Company) (m : OnceCell) (task : ℕ → Offer) (t k w : ℕ) → Company-is c m task → Company-is (joined c t) (offer_noted m t) (upd task t (first_offer k w))
company_begin nobody m task t k w h = (
  λ u ne. rw (upd_off task t (first_offer k w) u ne) (h.0 u),
  rw (upd_same task t (first_offer k w)) (record { alone = tt; own_x = λ a. absurd a; clear-y = λ a. h.1; clear-c = h.2 }),
)
company_begin (first p) m task t k w h = tt
company_begin settled m task t k w h = (h.0, λ u. upd-cases (λ q. T (not (tries (stage_of q)))) task t (first_offer k w) u (λ z. tt) (λ ne. h.1 u))
company_begin crowded m task t k w h = tt
