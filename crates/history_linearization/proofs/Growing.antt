-- How a timeline grows: a call that changes nothing joins at any moment where its answer is right; one that changes its cell joins behind all
-- others on that cell.
use mathlib.Core.Path.{◌≡◌, refl, sym, ap, ◌∙◌, subst}
use mathlib.Core.Logic.{◌≢◌, ◌⊎◌, inl, inr}
use mathlib.Core.Bool.{Bool, true, false, cond}
use Prim.Native.Nat.{ℕ, suc, ◌≤◌, ◌<◌}
use native.Mathlib.Omega.{arith}
use lib.Dec.{eqb, ltb, T}
use borrow.Author.Tests.{eq-eqb, ne_eqb, lt-ltb, le-ltb}
use Rattle.history_spec.specs.History.{Response}
use Rattle.history_spec.specs.Linearization.{reply, value_left, Point}
use Rattle.history_spec.specs.Moments.{changes}
use Rattle.history_spec.proofs.Basics.{either}
use Rattle.history_linearization.proofs.Timeline.{le_or_lt, calm_after, after_calm, cell, found, Right, Cause, Timeline}

-- the calls E', with their answers, are E and the call e with the answer a
pub record Joins (E E' : Point → Response → Type 0) (e : Point) (a : Response) : Type 0 where
  pub old : (x : Point) (b : Response) → E x b → E' x b
  pub new : E' e a
  pub split : (x : Point) (b : Response) → E' x b → ((x ≡ e) × (b ≡ a)) ⊎ E x b

module _ {values : ℕ → ℕ} {past : ℕ → ℕ → ℕ} {E E' : Point → Response → Type 0} (L : Timeline values past E) where
  -- the same calls
  pub regarded : ((x : Point) (b : Response) → E x b → E' x b) → ((x : Point) (b : Response) → E' x b → E x b) → Timeline values past E'
  regarded to from = record {
    first = L.first;
    right = λ x b i. L.right x b (from x b i);
    caused = λ k n. go k n (L.caused k n);
    single = λ x y b c i j. L.single x y b c (from x b i) (from y c j);
  }
    where
      go : (k n : ℕ) → (past k (suc n) ≡ past k n) ⊎ Cause E k n → (past k (suc n) ≡ past k n) ⊎ Cause E' k n
      go k n (inl z) = inl z
      go k n (inr c) = inr (record { point = c.point; answer = c.answer; is = to c.point c.answer c.is; change = c.change; on = c.on; at = c.at })

module _ {values : ℕ → ℕ} {past : ℕ → ℕ → ℕ} {E E' : Point → Response → Type 0} (L : Timeline values past E) (e : Point) (a : Response) (J : Joins E E' e a) where
  old_cause : {k n : ℕ} → Cause E k n → Cause E' k n
  old_cause c = record { point = c.point; answer = c.answer; is = J.old c.point c.answer c.is; change = c.change; on = c.on; at = c.at }

  both_ways : (past' : ℕ → ℕ → ℕ) → Right past' e a → ((x : Point) (b : Response) → E x b → Right past' x b) → (x : Point) (b : Response) → E' x b → Right past' x b
  both_ways past' new old x b i = go (J.split x b i)
    where
      go : ((x ≡ e) × (b ≡ a)) ⊎ E x b → Right past' x b
      go (inl (p, q)) = subst (λ (x : Point). Right past' x b) (sym p) (subst (Right past' e) (sym q) new)
      go (inr j) = old x b j

  -- the new call shares its moment and cell with no old change, unless it changes nothing
  one_each : ((x : Point) (b : Response) → E x b → T (changes x.call.op b) → T (changes e.call.op a) → cell x ≡ cell e → x.moment ≡ e.moment → ⊥) →
      (x y : Point) (b c : Response) → E' x b → E' y c → T (changes x.call.op b) → T (changes y.call.op c) → cell x ≡ cell y → x.moment ≡ y.moment → x.call.at ≡ y.call.at
  one_each apart x y b c i j z w q n = go (J.split x b i) (J.split y c j)
    where
      changes_too : (x : Point) (b : Response) → x ≡ e → b ≡ a → T (changes x.call.op b) → T (changes e.call.op a)
      changes_too x b p q z = subst (λ (b : Response). T (changes e.call.op b)) q (subst (λ (x : Point). T (changes x.call.op b)) p z)

      moment : Point → ℕ
      moment x = x.moment

      go : ((x ≡ e) × (b ≡ a)) ⊎ E x b → ((y ≡ e) × (c ≡ a)) ⊎ E y c → x.call.at ≡ y.call.at
      go (inl p) (inl r) = ap (λ (x : Point). x.call.at) (p.0 ∙ sym r.0)
      go (inl p) (inr r) = absurd (apart y c r w (changes_too x b p.0 p.1 z) (sym q ∙ ap cell p.0) (sym n ∙ ap moment p.0))
      go (inr r) (inl p) = absurd (apart x b r z (changes_too y c p.0 p.1 w) (q ∙ ap cell p.0) (n ∙ ap moment p.0))
      go (inr i) (inr j) = L.single x y b c i j z w q n

  -- A CALL THAT CHANGES NOTHING finds v after its moment

  pub observed : (v : ℕ) → past (cell e) (suc e.moment) ≡ v → reply v e.call.op ≡ a → value_left v e.call.op ≡ v → Timeline values past E'
  observed v is says calm = record {
    first = L.first;
    right = both_ways past right L.right;
    caused = λ k n. go k n (L.caused k n);
    single = one_each (λ x b i z w. absurd (subst T still w));
  }
    where
      still : changes e.call.op a ≡ false
      still = ap (changes e.call.op) (sym says) ∙ after_calm v e.call.op calm

      here : past (cell e) (found e a) ≡ v
      here = ap (λ (b : Bool). past (cell e) (cond b e.moment (suc e.moment))) still ∙ is

      right : Right past e a
      right = record { says = ap (λ v. reply v e.call.op) here ∙ says; leaves = ap (λ v. value_left v e.call.op) here ∙ calm ∙ sym is }

      go : (k n : ℕ) → (past k (suc n) ≡ past k n) ⊎ Cause E k n → (past k (suc n) ≡ past k n) ⊎ Cause E' k n
      go k n (inl z) = inl z
      go k n (inr c) = inr (old_cause c)

-- A CALL THAT MAY CHANGE ITS CELL, behind all others on it

-- cell k has the value v after the action m
unfoldable pub since : (ℕ → ℕ → ℕ) → (k m v : ℕ) → ℕ → ℕ → ℕ
since past k m v j n = cond (eqb j k) (cond (ltb m n) v (past j n)) (past j n)

pub since_other : (past : ℕ → ℕ → ℕ) (k m v j n : ℕ) → j ≢ k → since past k m v j n ≡ past j n
unfolding since
since_other past k m v j n h = rw (ne_eqb j k h)

pub since_before : (past : ℕ → ℕ → ℕ) (k m v j n : ℕ) → n ≤ m → since past k m v j n ≡ past j n
unfolding since
since_before past k m v j n h = go (eqb j k)
  where
    go : (b : Bool) → cond b (cond (ltb m n) v (past j n)) (past j n) ≡ past j n
    go true = rw (le-ltb m n h)
    go false = refl

pub since_after : (past : ℕ → ℕ → ℕ) (k m v j n : ℕ) → j ≡ k → m < n → since past k m v j n ≡ v
unfolding since
since_after past k m v j n e h = rw (eq-eqb j k e, lt-ltb m n h)

module _ {values : ℕ → ℕ} {past : ℕ → ℕ → ℕ} {E E' : Point → Response → Type 0} (L : Timeline values past E) (e : Point) (a : Response) (J : Joins E E' e a) (v : ℕ)
    (is : (n : ℕ) → e.moment ≤ n → past (cell e) n ≡ v) (says : reply v e.call.op ≡ a) (last : (x : Point) (b : Response) → E x b → cell x ≡ cell e → x.moment < e.moment) where
  abbrev k : ℕ
  k = cell e

  abbrev m : ℕ
  m = e.moment

  abbrev v⁺ : ℕ
  v⁺ = value_left v e.call.op

  abbrev past⁺ : ℕ → ℕ → ℕ
  past⁺ = since past k m v⁺

  -- what an old call looks at stays
  kept : (x : Point) (b : Response) → E x b → (n : ℕ) → n ≤ suc x.moment → past⁺ (cell x) n ≡ past (cell x) n
  kept x b i n h = go (either (cell x) k)
    where
      go : (cell x ≡ k) ⊎ (cell x ≢ k) → past⁺ (cell x) n ≡ past (cell x) n
      go (inl q) = since_before past k m v⁺ (cell x) n (omega (arith, last x b i q))
      go (inr q) = since_other past k m v⁺ (cell x) n q

  old-right : (x : Point) (b : Response) → E x b → Right past⁺ x b
  old-right x b i =
      let r = L.right x b i in
      let f = kept x b i (found x b) (most (changes x.call.op b)) in
      record { says = ap (λ v. reply v x.call.op) f ∙ r.says; leaves = ap (λ v. value_left v x.call.op) f ∙ r.leaves ∙ sym (kept x b i (suc x.moment) (omega arith)) }
    where
      most : (c : Bool) → cond c x.moment (suc x.moment) ≤ suc x.moment
      most true = omega arith
      most false = omega arith

  here : (c : Bool) → changes e.call.op a ≡ c → past⁺ k (cond c m (suc m)) ≡ v
  here true h = since_before past k m v⁺ k m (omega arith) ∙ is m (omega arith)
  here false h = since_after past k m v⁺ k (suc m) refl (omega arith) ∙ calm_after v e.call.op (ap (changes e.call.op) says ∙ h)

  new-right : Right past⁺ e a
  new-right =
      let f = here (changes e.call.op a) refl in
      record { says = ap (λ v. reply v e.call.op) f ∙ says; leaves = ap (λ v. value_left v e.call.op) f ∙ sym (since_after past k m v⁺ k (suc m) refl (omega arith)) }

  caused⁺ : (j n : ℕ) → (past⁺ j (suc n) ≡ past⁺ j n) ⊎ Cause E' j n
  caused⁺ j n = go (either j k) (le_or_lt m n) (either n m)
    where
      by : past⁺ j (suc n) ≡ past j (suc n) → past⁺ j n ≡ past j n → (past j (suc n) ≡ past j n) ⊎ Cause E j n → (past⁺ j (suc n) ≡ past⁺ j n) ⊎ Cause E' j n
      by p q (inl z) = inl (p ∙ z ∙ sym q)
      by p q (inr c) = inr (old_cause L e a J c)

      own : (c : Bool) → changes e.call.op a ≡ c → j ≡ k → n ≡ m → (past⁺ j (suc n) ≡ past⁺ j n) ⊎ Cause E' j n
      own true h q o = inr (record { point = e; answer = a; is = J.new; change = rw h tt; on = sym q; at = sym o })
      own false h q o = inl (since_after past k m v⁺ j (suc n) q (omega arith) ∙ calm_after v e.call.op (ap (changes e.call.op) says ∙ h)
          ∙ sym (since_before past k m v⁺ j n (omega arith) ∙ ap (λ j. past j n) q ∙ is n (omega arith)))

      go : (j ≡ k) ⊎ (j ≢ k) → (m ≤ n) ⊎ (n < m) → (n ≡ m) ⊎ (n ≢ m) → (past⁺ j (suc n) ≡ past⁺ j n) ⊎ Cause E' j n
      go (inr q) p o = by (since_other past k m v⁺ j (suc n) q) (since_other past k m v⁺ j n q) (L.caused j n)
      go (inl q) (inr p) o = by (since_before past k m v⁺ j (suc n) (omega arith)) (since_before past k m v⁺ j n (omega arith)) (L.caused j n)
      go (inl q) (inl p) (inl o) = own (changes e.call.op a) refl q o
      go (inl q) (inl p) (inr o) = inl (since_after past k m v⁺ j (suc n) q (omega arith) ∙ sym (since_after past k m v⁺ j n q (omega arith)))

  pub changed : Timeline values past⁺ E'
  changed = record {
    first = λ j. since_before past k m v⁺ j 0 (omega arith) ∙ L.first j;
    right = both_ways L e a J past⁺ new-right old-right;
    caused = caused⁺;
    single = one_each L e a J (λ x b i z w q n. omega (arith, last x b i q));
  }
