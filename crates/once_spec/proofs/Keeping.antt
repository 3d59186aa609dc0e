-- Every step keeps the invariant of its cell, and the decision.
use mathlib.Core.Path.{◌≡◌, refl, sym, ◌∙◌, subst}
use mathlib.Core.Logic.{◌≢◌}
use mathlib.Core.Bool.{Bool, true, false, not, cond}
use mathlib.Core.Option.{Option, some}
use mathlib.Core.Option as Maybe
use Prim.Native.Nat.{ℕ}
use native.Mathlib.Omega.{arith}
use lib.Dec.{eqb, T}
use borrow.Author.Tests.{eqb-true, eqb-false}
use Rattle.figure_lines.specs.Record.{no_value}
use Rattle.history_spec.specs.Basics.{upd}
use Rattle.history_spec.proofs.ListTests.{by_test}
use Rattle.history_spec.proofs.Basics.{no_eq, no-T, clash, some_inj}
use Rattle.once_spec.specs.declared.OnceCell.{OnceCell}
use Rattle.once_spec.specs.declared.Offer.{Offer}
use Rattle.once_spec.specs.Figure.{Stage, write_x, read_y, write_y, read_x, store_v, read_c, store_d, set_c, test_v, load_v, look_d, cas_d, read_d, nowhere, stage_at, stage_of, Given, Refuses, GoesOn, Ends, idle_offer, Leaves, put_d, go_on, agree, stage_does, with_step}
use Rattle.once_spec.proofs.Classes.{is, busy, winning, stored, past, choosing, lies_in}
use Rattle.once_spec.proofs.Invariant.{none, Task, WordsOf, Inv, finish}

-- what a step answers is the decision that it leaves
abbrev pub Decision : Given → ℕ → Type 0
Decision (Refuses n) d = ⊥
Decision GoesOn d = Unit {0}
Decision (Ends a) d = (a.value ≡ d) × (d ≢ none)

pub record Kept (O : ℕ → Type 0) (m : OnceCell) (task : ℕ → Offer) (p : ℕ) (x : Leaves) : Type 0 where
  pub winner : Option ℕ
  pub fast : Bool
  pub inv : Inv O x.cell (upd task p x.offer) winner fast
  pub same-d : m.d ≢ none → x.cell.d ≡ m.d
  pub answers : Decision x.gives x.cell.d

pub no_winner : (a b : Option ℕ) → ⊥ → a ≡ b
no_winner a b x = absurd x

-- true is written as 1
pub one_set : ◌≢◌ {A = ℕ} 1 0
one_set z = omega arith

pub is_none : (n : ℕ) → eqb n no_value ≡ true → n ≡ none
unfolding none
is_none n e = eqb-true n no_value e

pub not_none : (n : ℕ) → eqb n no_value ≡ false → n ≢ none
unfolding none
not_none n e = eqb-false n no_value e

module _ (O : ℕ → Type 0) (m : OnceCell) (task : ℕ → Offer) (winner : Option ℕ) (fast : Bool) (i : Inv O m task winner fast) (p : ℕ) where
  no_offer : (w : ℕ) → ⊥ → O w
  no_offer w x = absurd x

  ruleset off = (no_eq, no-T, no_winner, no_offer)

  abbrev r : Offer
  r = with_step (task p)

  was : (ℓ : Stage) → stage_of (task p) ≡ ℓ → Task O m winner fast p ℓ (task p).value
  was ℓ e = subst (λ ℓ. Task O m winner fast p ℓ (task p).value) e (i.tasks p)

  -- ONE LEMMA FOR EACH KIND OF STEP

  -- nothing is stored, and the call goes on
  goes_on : (n w : ℕ) → Task O m winner fast p (stage_at n) w → Kept O m task p (go_on m r n w)
  goes_on n w mine = record { winner = winner; fast = fast; inv = finish O m task winner fast p (stage_at n) (go_on m r n w).offer refl i.words (λ u ne. i.tasks u) mine; same-d = λ z. refl; answers = tt }

  -- a word is stored, D not, and the call goes on
  stores : (m' : OnceCell) (winner : Option ℕ) (fast : Bool) (n w : ℕ) → m'.d ≡ m.d → WordsOf O m' winner fast → ((u : ℕ) → u ≢ p → Task O m' winner fast u (stage_of (task u)) (task u).value) → Task O m' winner fast p (stage_at n) w → Kept O m task p (go_on m' r n w)
  stores m' winner fast n w e words others mine = record { winner = winner; fast = fast; inv = finish O m' task winner fast p (stage_at n) (go_on m' r n w).offer refl words others mine; same-d = λ z. e; answers = tt }

  -- what a test picks
  tests : (b : Bool) (n n' w : ℕ) → (b ≡ true → Kept O m task p (go_on m r n w)) → (b ≡ false → Kept O m task p (go_on m r n' w)) → Kept O m task p (go_on m r (cond b n n') w)
  tests b n n' w = by_test (λ n. Kept O m task p (go_on m r n w)) b n n'

  -- of a whole step, and of the value that it stores in D
  picks : {A : Type 0} (P : A → Type 0) (x : A) (b : Bool) (y z : A) → x ≡ cond b y z → (b ≡ true → P y) → (b ≡ false → P z) → P x
  picks P x b y z e f g = subst P (sym e) (by_test P b y z f g)

  -- the call ends with the decision
  answers-d : (w : ℕ) → w ≡ m.d → m.d ≢ none → Kept O m task p (agree m r w)
  answers-d w e x = record { winner = winner; fast = fast; inv = finish O m task winner fast p nowhere idle_offer refl i.words (λ u ne. i.tasks u) (search off); same-d = λ z. refl; answers = (e, x) }

  -- D is n
  words-d : (n : ℕ) → O n → (T (not fast) → m.c ≢ 0) → (T fast → n ≡ m.v) → WordsOf O (put_d m n) winner fast
  words-d n o set follows = let w = i.words in
      record { kept = w.kept; unstored = w.unstored; v_offered = w.v_offered; d_offered = λ x. o; undecided = λ f c. absurd (set f c); fast_stored = w.fast_stored; fast_decided = λ f x. follows f }

  others_d : (n : ℕ) → n ≢ none → (u : ℕ) → Task O (put_d m n) winner fast u (stage_of (task u)) (task u).value
  others_d n x u = let k = i.tasks u in
      record { splits = k.splits; values = k.values; decides = record { contended = k.decides.contended; decided = λ a. x; is_fast = k.decides.is_fast; follows = k.decides.follows } }

  -- IN THE FIGURE'S ORDER

  from_write_x : stage_of (task p) ≡ write_x → Kept O m task p (stage_does write_x p r m)
  from_write_x e = stores _ winner fast _ _ refl i.words
      (λ u ne. let k = i.tasks u in record { splits = record { has_won = k.splits.has_won; is_set = k.splits.is_set; no_race = λ a t z x. ne (sym x) }; values = k.values; decides = k.decides })
      (let k = was write_x e in search off)

  from_read_y : stage_of (task p) ≡ read_y → Kept O m task p (stage_does read_y p r m)
  from_read_y e = tests (eqb m.y 0) _ _ _
      (λ z. goes_on _ _ (let k = was read_y e in let n : (t : ℕ) → winner ≡ some t → m.x ≢ p = λ t w x. i.words.kept t w (eqb-true m.y 0 z) in search off))
      (λ z. goes_on _ _ (let k = was read_y e in search off))

  from_write_y : stage_of (task p) ≡ write_y → Kept O m task p (stage_does write_y p r m)
  from_write_y e = stores _ winner fast _ _ refl
      (let w = i.words in record { kept = λ t z. one_set; unstored = w.unstored; v_offered = w.v_offered; d_offered = w.d_offered; undecided = w.undecided; fast_stored = w.fast_stored; fast_decided = w.fast_decided })
      (λ u ne. let k = i.tasks u in record { splits = record { has_won = k.splits.has_won; is_set = λ a. one_set; no_race = k.splits.no_race }; values = k.values; decides = k.decides })
      (let k = was write_y e in let s = one_set in search off)

  -- who finds its own number in X wins, and nobody has won before
  from_read_x : stage_of (task p) ≡ read_x → Kept O m task p (stage_does read_x p r m)
  from_read_x e = tests (eqb m.x p) _ _ _
      (λ z. let x : m.x ≡ p = eqb-true m.x p z in stores m (some p) fast _ _ refl
      (let w = i.words in record { kept = λ t a. k.splits.is_set tt; unstored = λ a. cc; v_offered = w.v_offered; d_offered = w.d_offered; undecided = w.undecided; fast_stored = w.fast_stored; fast_decided = w.fast_decided })
      (λ u ne. let j = i.tasks u in record { splits = record { has_won = λ a. absurd (none_won x u (j.splits.has_won a)); is_set = j.splits.is_set; no_race = λ a t b y. ne (sym y ∙ x) }; values = j.values; decides = j.decides })
      (let k = was read_x e in let v = i.words.unstored (unwon x winner refl) in search off))
      (λ z. goes_on _ _ (let k = was read_x e in search off))
    where
      k : Task O m winner fast p read_x (task p).value
      k = was read_x e

      none_won : m.x ≡ p → (t : ℕ) → winner ≡ some t → ⊥
      none_won x t w = k.splits.no_race tt t w x

      unwon : m.x ≡ p → (o : Option ℕ) → winner ≡ o → winner ≡ Maybe.none
      unwon x (some t) z = absurd (none_won x t z)
      unwon x Maybe.none z = z

  -- V is stored once: only the winner stores it
  from_store_v : stage_of (task p) ≡ store_v → Kept O m task p (stage_does store_v p r m)
  from_store_v e = stores _ winner fast _ _ refl
      (let w = i.words in record { kept = w.kept; unstored = λ a. absurd (clash a is_winner); v_offered = λ a. k.values.was_offered tt; d_offered = w.d_offered; undecided = w.undecided; fast_stored = λ f. k.values.some-value tt; fast_decided = λ f. absurd (slow f) })
      (λ u ne. let j = i.tasks u in record {
        splits = j.splits;
        values = record { some-value = j.values.some-value; was_offered = j.values.was_offered; not_stored = λ a. absurd (alone u ne (lies_in (is 5) winning tt (stage_of (task u)) a)); has_stored = λ a. absurd (alone u ne (lies_in stored winning tt (stage_of (task u)) a)); finds = λ a. k.values.some-value tt };
        decides = record { contended = j.decides.contended; decided = j.decides.decided; is_fast = j.decides.is_fast; follows = λ a f. absurd (slow f) };
      })
      (let k = was store_v e in let s : T fast → ⊥ = slow in search off)
    where
      k : Task O m winner fast p store_v (task p).value
      k = was store_v e

      is_winner : winner ≡ some p
      is_winner = k.splits.has_won tt

      alone : (u : ℕ) → u ≢ p → T (winning (stage_of (task u))) → ⊥
      alone u ne a = ne (some_inj ((i.tasks u).splits.has_won a) is_winner)

      slow : T fast → ⊥
      slow f = i.words.fast_stored f (k.values.not_stored tt)

  -- C is false: from now on nothing but the winner's value can be decided
  from_read_c : stage_of (task p) ≡ read_c → Kept O m task p (stage_does read_c p r m)
  from_read_c e = tests (eqb m.c 0) _ _ _
      (λ z. let c : m.c ≡ 0 = eqb-true m.c 0 z in stores m winner true _ _ refl
      (let w = i.words in record {
        kept = w.kept;
        unstored = w.unstored;
        v_offered = w.v_offered;
        d_offered = w.d_offered;
        undecided = λ f. absurd f;
        fast_stored = λ f. subst (λ v. v ≢ none) (sym (k.values.has_stored tt)) (k.values.some-value tt);
        fast_decided = λ f. stays fast (λ f. w.undecided f c) w.fast_decided;
      })
      (λ u ne. let j = i.tasks u in record { splits = j.splits; values = j.values; decides = record { contended = j.decides.contended; decided = j.decides.decided; is_fast = λ a. tt; follows = λ a f. absurd (j.decides.contended (lies_in choosing past tt (stage_of (task u)) a) c) } })
      (let k = was read_c e in search off))
      (λ z. goes_on _ _ (let k = was read_c e in let s = eqb-false m.c 0 z in let v : T fast → (task p).value ≡ m.v = λ f. sym (k.values.has_stored tt) in search off))
    where
      k : Task O m winner fast p read_c (task p).value
      k = was read_c e

      stays : (f : Bool) → (T (not f) → m.d ≡ none) → (T f → m.d ≢ none → m.d ≡ m.v) → m.d ≢ none → m.d ≡ m.v
      stays true a b n = b tt n
      stays false a b n = absurd (n (a tt))

  -- the winner stores D: if it is decided, it is so
  from_store_d : stage_of (task p) ≡ store_d → Kept O m task p (stage_does store_d p r m)
  from_store_d e = decides _ _ refl (λ x. sym (i.words.fast_decided is_quick x ∙ v)) (k.values.was_offered tt) (λ f. sym v) (k.values.some-value tt)
    where
      k : Task O m winner fast p store_d (task p).value
      k = was store_d e

      v : m.v ≡ (task p).value
      v = k.values.has_stored tt

      is_quick : T fast
      is_quick = k.decides.is_fast tt

      slow : (f : Bool) → T f → T (not f) → ⊥
      slow true a b = b
      slow false a b = a

      decides : (n w : ℕ) → w ≡ n → (m.d ≢ none → n ≡ m.d) → O n → (T fast → n ≡ m.v) → n ≢ none → Kept O m task p (agree (put_d m n) r w)
      decides n w is same o follows x = record { winner = winner; fast = fast; inv = finish O (put_d m n) task winner fast p nowhere idle_offer refl (words-d n o (λ f. absurd (slow fast is_quick f)) follows) (λ u ne. others_d n x u) (search off); same-d = same; answers = (is, x) }

  from_set_c : stage_of (task p) ≡ set_c → Kept O m task p (stage_does set_c p r m)
  from_set_c e = stores _ winner fast _ _ refl
      (let w = i.words in record { kept = w.kept; unstored = w.unstored; v_offered = w.v_offered; d_offered = w.d_offered; undecided = λ f x. absurd (one_set x); fast_stored = w.fast_stored; fast_decided = w.fast_decided })
      (λ u ne. let k = i.tasks u in record { splits = k.splits; values = k.values; decides = record { contended = λ a. one_set; decided = k.decides.decided; is_fast = k.decides.is_fast; follows = k.decides.follows } })
      (let k = was set_c e in let s = one_set in search off)

  from_test_v : stage_of (task p) ≡ test_v → Kept O m task p (stage_does test_v p r m)
  from_test_v e = tests (eqb m.v no_value) _ _ _
      (λ z. goes_on _ _ (let k = was test_v e in let s : T fast → ⊥ = λ f. i.words.fast_stored f (is_none m.v z) in search off))
      (λ z. goes_on _ _ (let k = was test_v e in let s = not_none m.v z in search off))

  -- the winner's value is taken over
  from_load_v : stage_of (task p) ≡ load_v → Kept O m task p (stage_does load_v p r m)
  from_load_v e = goes_on _ _ (let k = was load_v e in let o = i.words.v_offered (k.values.finds tt) in let s : T fast → m.v ≡ m.v = λ f. refl in search off)

  from_look_d : stage_of (task p) ≡ look_d → Kept O m task p (stage_does look_d p r m)
  from_look_d e = picks (Kept O m task p) (stage_does look_d p r m) _ _ _ refl
      (λ z. goes_on _ _ (let k = was look_d e in search off))
      (λ z. answers-d _ refl (not_none m.d z))

  from_cas_d : stage_of (task p) ≡ cas_d → Kept O m task p (stage_does cas_d p r m)
  from_cas_d e = picks (λ n. Kept O m task p (go_on (put_d m n) r 13 r.value)) (stage_does cas_d p r m).cell.d _ _ _ refl
      (λ z. tries _ (λ x. absurd (x (is_none m.d z))) (k.values.was_offered tt) (k.decides.follows tt) (k.values.some-value tt))
      (λ z. let x = not_none m.d z in tries _ (λ x. refl) (i.words.d_offered x) (λ f. i.words.fast_decided f x) x)
    where
      k : Task O m winner fast p cas_d (task p).value
      k = was cas_d e

      tries : (n : ℕ) → (m.d ≢ none → n ≡ m.d) → O n → (T fast → n ≡ m.v) → n ≢ none → Kept O m task p (go_on (put_d m n) r 13 r.value)
      tries n same o follows x = record { winner = winner; fast = fast; inv = finish O (put_d m n) task winner fast p read_d _ refl (words-d n o (λ f. k.decides.contended tt) follows) (λ u ne. others_d n x u) (let k = was cas_d e in search off); same-d = same; answers = tt }

  pub keeps : (ℓ : Stage) → stage_of (task p) ≡ ℓ → T (busy ℓ) → Kept O m task p (stage_does ℓ p r m)
  keeps write_x e b = from_write_x e
  keeps read_y e b = from_read_y e
  keeps write_y e b = from_write_y e
  keeps read_x e b = from_read_x e
  keeps store_v e b = from_store_v e
  keeps read_c e b = from_read_c e
  keeps store_d e b = from_store_d e
  keeps set_c e b = from_set_c e
  keeps test_v e b = from_test_v e
  keeps load_v e b = from_load_v e
  keeps look_d e b = from_look_d e
  keeps cas_d e b = from_cas_d e
  keeps read_d e b = answers-d _ refl ((was read_d e).decides.decided tt)
  keeps nowhere e b = absurd b
