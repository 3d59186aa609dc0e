-- Each task's record as one cell sees it: those of tasks on other cells are idle to it.
use mathlib.Core.Path.{◌≡◌, sym, ap, subst, ◌∙◌, fun_ext}
use mathlib.Core.Logic.{◌≢◌, ◌⊎◌, inl, inr}
use mathlib.Core.Bool.{cond}
use Prim.Native.Nat.{ℕ}
use lib.Dec.{eqb}
use borrow.Author.Tests.{eq-eqb, ne_eqb}
use Rattle.history_spec.specs.Basics.{upd}
use Rattle.history_spec.proofs.Basics.{either, upd-at, upd_off}

module _ {A : Type 0} (cell : A → ℕ) (idle : A) where
  -- the tasks on cell k; the others are idle to it
  unfoldable pub on : (ℕ → A) → ℕ → ℕ → A
  on f k u = cond (eqb (cell (f u)) k) (f u) idle

  pub on_in : (f : ℕ → A) (k u : ℕ) → cell (f u) ≡ k → on f k u ≡ f u
  unfolding on
  on_in f k u e = rw (eq-eqb (cell (f u)) k e)

  pub on_out : (f : ℕ → A) (k u : ℕ) → cell (f u) ≢ k → on f k u ≡ idle
  unfolding on
  on_out f k u e = rw (ne_eqb (cell (f u)) k e)

  pub on_idle : (f : ℕ → A) (k u : ℕ) → f u ≡ idle → on f k u ≡ idle
  on_idle f k u e = go (either (cell (f u)) k)
    where
      go : (cell (f u) ≡ k) ⊎ (cell (f u) ≢ k) → on f k u ≡ idle
      go (inl z) = on_in f k u z ∙ e
      go (inr z) = on_out f k u z

  -- A RECORD CHANGES

  module _ (f : ℕ → A) (t : ℕ) (q : A) where
    pub on_other : (k u : ℕ) → u ≢ t → on (upd f t q) k u ≡ on f k u
    unfolding on
    on_other k u e = ap (λ r. cond (eqb (cell r) k) r idle) (upd_off f t q u e)

    -- one that is on cell k, or idle
    pub on_changed : (k : ℕ) → (cell q ≡ k) ⊎ (q ≡ idle) → on (upd f t q) k ≡ upd (on f k) t q
    on_changed k h = fun_ext (λ u. go u (either u t))
      where
        go : (u : ℕ) → (u ≡ t) ⊎ (u ≢ t) → on (upd f t q) k u ≡ upd (on f k) t q u
        go u (inl e) = there h ∙ sym (upd-at (on f k) t q u e)
          where
            there : (cell q ≡ k) ⊎ (q ≡ idle) → on (upd f t q) k u ≡ q
            there (inl z) = on_in (upd f t q) k u (ap cell (upd-at f t q u e) ∙ z) ∙ upd-at f t q u e
            there (inr z) = on_idle (upd f t q) k u (upd-at f t q u e ∙ z) ∙ sym z
        go u (inr e) = on_other k u e ∙ sym (upd_off (on f k) t q u e)

    -- on another cell before and after
    pub on_elsewhere : (j : ℕ) → (cell (f t) ≢ j) ⊎ (f t ≡ idle) → (cell q ≢ j) ⊎ (q ≡ idle) → on (upd f t q) j ≡ on f j
    on_elsewhere j h h' = fun_ext (λ u. go u (either u t))
      where
        off : (p : ℕ → A) (u : ℕ) → (cell (p u) ≢ j) ⊎ (p u ≡ idle) → on p j u ≡ idle
        off p u (inl z) = on_out p j u z
        off p u (inr z) = on_idle p j u z

        go : (u : ℕ) → (u ≡ t) ⊎ (u ≢ t) → on (upd f t q) j u ≡ on f j u
        go u (inl e) = off (upd f t q) u (subst (λ r. (cell r ≢ j) ⊎ (r ≡ idle)) (sym (upd-at f t q u e)) h') ∙ sym (off f u (subst (λ n. (cell (f n) ≢ j) ⊎ (f n ≡ idle)) (sym e) h))
        go u (inr e) = on_other j u e

    -- on another cell than the record's, whether it stays there or ends
    pub on_others : (j : ℕ) → j ≢ cell (f t) → (cell q ≡ cell (f t)) ⊎ (q ≡ idle) → on (upd f t q) j ≡ on f j
    on_others j n h = on_elsewhere j (inl (λ z. n (sym z))) (go h)
      where
        go : (cell q ≡ cell (f t)) ⊎ (q ≡ idle) → (cell q ≢ j) ⊎ (q ≡ idle)
        go (inl z) = inl (λ y. n (sym y ∙ z))
        go (inr z) = inr z
