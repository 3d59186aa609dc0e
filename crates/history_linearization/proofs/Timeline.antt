-- Each cell's values over time. A call that changes nothing has only to name a moment at which its answer is right; so calls that each fit the
-- timeline are, sorted by moment and at one moment the change first, a linearization.
use mathlib.Core.Path.{◌≡◌, refl, sym, ap, ◌∙◌, subst}
use mathlib.Core.Logic.{◌≢◌, ◌⊎◌, inl, inr}
use mathlib.Core.Bool.{Bool, true, false, not, cond}
use mathlib.Core.List.{List, [], ◌∷◌, map}
use Prim.Native.Nat.{ℕ, zero, suc, ◌≤◌, ◌<◌}
use native.Mathlib.Omega.{arith}
use lib.Dec.{eqb, leb, T, leb→le, nleb→lt}
use borrow.Author.Tests.{eqb-true, eq-eqb, ne_eqb}
use Rattle.history_spec.specs.Basics.{upd, ◌∈◌, Once}
use Rattle.history_spec.specs.History.{Op, read, swap, cell_of, Response, Yes, No}
use Rattle.history_spec.specs.Linearization.{reply, value_left, apply, Point, replies, Sorted}
use Rattle.history_spec.specs.Moments.{Mark, point_of, reply_of, changes, changing, sort}
use Rattle.history_spec.proofs.Basics.{either, upd-at, upd_off}
use Rattle.history_linearization.proofs.Simulation.{Sided}
use Rattle.history_linearization.proofs.Order.{Keyed, sort_in, in_sort, sort_keyed, begins, to_begins, sort-once, no_later, before_change}

pub le_or_lt : (a b : ℕ) → (a ≤ b) ⊎ (b < a)
le_or_lt a b = go (leb a b) refl
  where
    go : (t : Bool) → leb a b ≡ t → (a ≤ b) ⊎ (b < a)
    go true h = inl (leb→le a b (rw h tt))
    go false h = inr (nleb→lt a b (rw h tt))

-- THE SEQUENTIAL CELLS

pub apply_at : (c : ℕ → ℕ) (op : Op) (j : ℕ) → j ≡ cell_of op → apply c op j ≡ value_left (c j) op
apply_at c op j h = rw (eq-eqb j (cell_of op) h)

pub apply_off : (c : ℕ → ℕ) (op : Op) (j : ℕ) → j ≢ cell_of op → apply c op j ≡ c j
apply_off c op j h = rw (ne_eqb j (cell_of op) h)

-- a call changes its cell exactly if its answer says so
pub calm_after : (v : ℕ) (op : Op) → changes op (reply v op) ≡ false → value_left v op ≡ v
calm_after v (read k) h = refl
calm_after v (swap k e n) h = go (eqb v e) (eqb e n) refl refl h
  where
    go : (s t : Bool) → eqb v e ≡ s → eqb e n ≡ t → changes (swap k e n) (cond s Yes No) ≡ false → cond s n v ≡ v
    go true true p q h = sym (eqb-true e n q) ∙ sym (eqb-true v e p)
    go true false p q h = absurd (let w : not (eqb e n) ≡ false = h in let r = rw q at w in let z : ◌≡◌ {A = ℕ} 0 1 = cc in omega arith)
    go false t p q h = refl

pub after_calm : (v : ℕ) (op : Op) → value_left v op ≡ v → changes op (reply v op) ≡ false
after_calm v (read k) h = refl
after_calm v (swap k e n) h = go (eqb v e) refl h
  where
    go : (s : Bool) → eqb v e ≡ s → cond s n v ≡ v → changes (swap k e n) (cond s Yes No) ≡ false
    go true p h = rw (eq-eqb e n (sym (eqb-true v e p) ∙ sym h))
    go false p h = refl

-- the cells after the calls, one after another
abbrev pub left_by : (ℕ → ℕ) → List Point → ℕ → ℕ
left_by cells [] = cells
left_by cells (e ∷ l) = left_by (apply cells e.call.op) l

-- CALLS THAT FIT A TIMELINE

abbrev pub cell : Point → ℕ
cell e = cell_of e.call.op

-- `past k n` is the value of cell k before the action n. A call at the moment m that changes its cell finds the value before that action,
-- any other the value after it.
abbrev pub found : Point → Response → ℕ
found e a = cond (changes e.call.op a) e.moment (suc e.moment)

pub record Right (past : ℕ → ℕ → ℕ) (e : Point) (a : Response) : Type 0 where
  pub says : reply (past (cell e) (found e a)) e.call.op ≡ a
  pub leaves : value_left (past (cell e) (found e a)) e.call.op ≡ past (cell e) (suc e.moment)

-- the call that changes cell k at the action n
pub record Cause (E : Point → Response → Type 0) (k n : ℕ) : Type 0 where
  pub point : Point
  pub answer : Response
  pub is : E point answer
  pub change : T (changes point.call.op answer)
  pub on : cell point ≡ k
  pub at : point.moment ≡ n

-- calls E, with their answers, that account for every change
pub record Timeline (values : ℕ → ℕ) (past : ℕ → ℕ → ℕ) (E : Point → Response → Type 0) : Type 0 where
  pub first : (k : ℕ) → past k 0 ≡ values k
  pub right : (e : Point) (a : Response) → E e a → Right past e a
  pub caused : (k n : ℕ) → (past k (suc n) ≡ past k n) ⊎ Cause E k n
  -- at one moment one call at most changes a cell
  pub single : (e d : Point) (a c : Response) → E e a → E d c → T (changes e.call.op a) → T (changes d.call.op c) → cell e ≡ cell d → e.moment ≡ d.moment → e.call.at ≡ d.call.at

-- THE FOLD

steady : (f : ℕ → ℕ) (a b : ℕ) → a ≤ b → ((j : ℕ) → a ≤ j → j < b → f (suc j) ≡ f j) → f b ≡ f a
steady f a zero h s = ap f (omega arith)
steady f a (suc b) h s = go (le_or_lt a b) (steady f a b)
  where
    go : (a ≤ b) ⊎ (b < a) → (a ≤ b → ((j : ℕ) → a ≤ j → j < b → f (suc j) ≡ f j) → f b ≡ f a) → f (suc b) ≡ f a
    go (inl p) r = s b p (omega arith) ∙ r p (λ j x y. s j x (omega arith))
    go (inr p) r = ap f (omega arith)

abbrev cell_m : Mark → ℕ
cell_m m = cell (point_of m)

abbrev found_m : Mark → ℕ
found_m m = found (point_of m) m.answer

-- at its moment or right after it
record Found (b : Bool) (n f : ℕ) : Type 0 where
  least : n ≤ f
  most : f ≤ suc n
  change : T b → f ≡ n
  calm : (T b → ⊥) → f ≡ suc n

found-is : (m : Mark) → Found (changing m) m.spot.moment (found_m m)
found-is m = go (changing m) m.spot.moment
  where
    go : (b : Bool) (n : ℕ) → Found b n (cond b n (suc n))
    go true n = record { least = omega arith; most = omega arith; change = λ z. refl; calm = λ z. absurd (z tt) }
    go false n = record { least = omega arith; most = omega arith; change = λ z. absurd z; calm = λ z. refl }

-- of two calls on one cell the second finds the cell as it was when the first had left it, or later
abbrev Chained : List Mark → Type 0
Chained [] = Unit {0}
Chained (x ∷ l) = ((y : Mark) → y ∈ l → cell_m y ≡ cell_m x → suc x.spot.moment ≤ found_m y) × Chained l

module _ (past : ℕ → ℕ → ℕ) where
  -- if the action n changes cell k, it is by a call of the list
  abbrev Caused : List Mark → (k n : ℕ) → Type 0
  Caused l k n = (past k (suc n) ≡ past k n) ⊎ ((m : Mark) × (m ∈ l) × T (changing m) × (cell_m m ≡ k) × (m.spot.moment ≡ n))

  not_first : (x : Mark) (l : List Mark) (k n : ℕ) → (T (changing x) → cell_m x ≡ k → x.spot.moment ≡ n → ⊥) → Caused (x ∷ l) k n → Caused l k n
  not_first x l k n h (inl e) = inl e
  not_first x l k n h (inr (m, inl i, z, q, o)) = absurd (h (subst (λ (m : Mark). T (changing m)) i z) (ap cell_m (sym i) ∙ q) (ap (λ (m : Mark). m.spot.moment) (sym i) ∙ o))
  not_first x l k n h (inr (m, inr i, z, q, o)) = inr (m, i, z, q, o)

  -- fed the calls one after another, the cells c, which cell by cell stand at the times p, give their answers, and stand in the end as at any
  -- later time
  record InOrder (c p : ℕ → ℕ) (l : List Mark) : Type 0 where
    answers : replies c (map point_of l) ≡ map reply_of l
    left : (k n : ℕ) → p k ≤ n → ((m : Mark) → m ∈ l → m.spot.moment < n) → left_by c (map point_of l) k ≡ past k n

  in_order : (l : List Mark) (c p : ℕ → ℕ) → ((k : ℕ) → c k ≡ past k (p k)) → Chained l → ((m : Mark) → m ∈ l → (p (cell_m m) ≤ found_m m) × Right past (point_of m) m.answer) →
      ((k n : ℕ) → p k ≤ n → Caused l k n) → InOrder c p l
  in_order [] c p at chain right caused = record { answers = refl; left = λ k n h all. at k ∙ sym (steady (past k) (p k) n h (λ j i b. still (caused k j i))) }
    where
      still : {k j : ℕ} → Caused [] k j → past k (suc j) ≡ past k j
      still (inl e) = e
      still (inr (m, i, z, q, o)) = absurd i
  in_order (x ∷ l) c p at chain right caused =
      let r = in_order l c⁺ p⁺ at⁺ chain.1 (λ m i. (low m i (either (cell_m m) k), (right m (inr i)).1)) (λ j n h. caused⁺ j n h (either j k)) in
      record {
        answers = ap (λ (a : Response). (point_of x, a) ∷ replies c⁺ (map point_of l)) says ∙ ap (λ (r : List (Point × Response)). reply_of x ∷ r) r.answers;
        left = λ j n h all. r.left j n (later j n h (all x (inl refl)) (either j k)) (λ m i. all m (inr i));
      }
    where
      k : ℕ
      k = cell_m x

      n⁺ : ℕ
      n⁺ = suc x.spot.moment

      c⁺ : ℕ → ℕ
      c⁺ = apply c x.call.op

      p⁺ : ℕ → ℕ
      p⁺ = upd p k n⁺

      -- between p k and where x finds it, nobody changes x's cell
      unchanged : (j : ℕ) → p k ≤ j → j < found_m x → past k (suc j) ≡ past k j
      unchanged j h b = go (not_first x l k j (λ z q n. omega (arith, (found-is x).change z)) (caused k j h))
        where
          go : Caused l k j → past k (suc j) ≡ past k j
          go (inl e) = e
          go (inr (m, i, z, q, n)) = absurd (omega (arith, chain.0 m i q, (found-is m).change z, (found-is x).most))

      now : c k ≡ past k (found_m x)
      now = at k ∙ sym (steady (past k) (p k) (found_m x) (right x (inl refl)).0 unchanged)

      says : reply (c k) x.call.op ≡ x.answer
      says = ap (λ v. reply v x.call.op) now ∙ (right x (inl refl)).1.says

      at⁺ : (j : ℕ) → c⁺ j ≡ past j (p⁺ j)
      at⁺ j = go (either j k)
        where
          go : (j ≡ k) ⊎ (j ≢ k) → c⁺ j ≡ past j (p⁺ j)
          go (inl e) = apply_at c x.call.op j e ∙ ap (λ j. value_left (c j) x.call.op) e ∙ ap (λ v. value_left v x.call.op) now ∙ (right x (inl refl)).1.leaves
              ∙ ap (λ j. past j n⁺) (sym e) ∙ ap (past j) (sym (upd-at p k n⁺ j e))
          go (inr e) = apply_off c x.call.op j e ∙ at j ∙ ap (past j) (sym (upd_off p k n⁺ j e))

      later : (j n : ℕ) → p j ≤ n → x.spot.moment < n → (j ≡ k) ⊎ (j ≢ k) → p⁺ j ≤ n
      later j n h b (inl e) = omega (arith, upd-at p k n⁺ j e)
      later j n h b (inr e) = omega (arith, upd_off p k n⁺ j e)

      low : (m : Mark) → m ∈ l → (cell_m m ≡ k) ⊎ (cell_m m ≢ k) → p⁺ (cell_m m) ≤ found_m m
      low m i (inl e) = omega (arith, upd-at p k n⁺ (cell_m m) e, chain.0 m i e)
      low m i (inr e) = omega (arith, upd_off p k n⁺ (cell_m m) e, (right m (inr i)).0)

      caused⁺ : (j n : ℕ) → p⁺ j ≤ n → (j ≡ k) ⊎ (j ≢ k) → Caused l j n
      caused⁺ j n h (inl e) = let u = upd-at p k n⁺ j e in not_first x l j n (λ z q o. omega arith) (caused j n (omega (arith, (right x (inl refl)).0, (found-is x).most, ap p e)))
      caused⁺ j n h (inr e) = not_first x l j n (λ z q o. e (sym q)) (caused j n (omega (arith, upd_off p k n⁺ j e)))

-- ALL CALLS SORTED

pub points_in : (l : List Mark) (e : Point) → e ∈ map point_of l → (m : Mark) × (m ∈ l) × (e ≡ point_of m)
points_in (x ∷ l) e (inl h) = (x, inl refl, h)
points_in (x ∷ l) e (inr h) = let r = points_in l e h in (r.0, inr r.1, r.2)
points_in [] e x' = elim x' [ ]

-- the marks are those of the calls E, each once
pub record Marks (E : Point → Response → Type 0) (ms : List Mark) : Type 0 where
  pub theirs : (m : Mark) → m ∈ ms → E (point_of m) m.answer
  pub all : (e : Point) (a : Response) → E e a → (m : Mark) × (m ∈ ms) × (e ≡ point_of m) × (a ≡ m.answer)
  pub once : Once (begins ms)
  pub sided : (m : Mark) → m ∈ ms → Sided m.call.op m.answer m.spot

module _ {values : ℕ → ℕ} {past : ℕ → ℕ → ℕ} {E : Point → Response → Type 0} (L : Timeline values past E) {ms : List Mark} (M : Marks E ms) where
  chained : (l : List Mark) → Keyed l → Once (begins l) → ((m : Mark) → m ∈ l → m ∈ ms) → Chained l
  chained [] k o h = tt
  chained (x ∷ l) k o h = ((λ y i q. go y i q (le_or_lt y.spot.moment x.spot.moment)), chained l k.1 o.1 (λ m i. h m (inr i)))
    where
      go : (y : Mark) → y ∈ l → cell_m y ≡ cell_m x → (y.spot.moment ≤ x.spot.moment) ⊎ (x.spot.moment < y.spot.moment) → suc x.spot.moment ≤ found_m y
      go y i q (inr p) = omega (arith, (found-is y).least)
      go y i q (inl p) = omega (arith, (found-is y).calm calm, same)
        where
          same : x.spot.moment ≡ y.spot.moment
          same = omega (arith, no_later x y (k.0 y i))

          -- a change would be the first at its action, and there is one only
          calm : T (changing y) → ⊥
          calm z =
              let w = before_change x y (M.sided x (h x (inl refl))) (M.sided y (h y (inr i))) (k.0 y i) same z in
              o.0 (rw (L.single (point_of x) (point_of y) x.answer y.answer (M.theirs x (h x (inl refl))) (M.theirs y (h y (inr i))) w z (sym q) same) (to_begins l y i))

  sorted_in_order : InOrder past values (λ k. 0) (sort ms)
  sorted_in_order = in_order past (sort ms) values (λ k. 0) (λ k. sym (L.first k)) (chained (sort ms) (sort_keyed ms) (sort-once ms M.once) (sort_in ms))
      (λ m i. (omega arith, L.right (point_of m) m.answer (M.theirs m (sort_in ms m i)))) (λ k n h. go k n (L.caused k n))
    where
      go : (k n : ℕ) → (past k (suc n) ≡ past k n) ⊎ Cause E k n → Caused past (sort ms) k n
      go k n (inl e) = inl e
      go k n (inr c) =
          let m = M.all c.point c.answer c.is in (
          inr (
            m.0,
            in_sort ms m.0 m.1,
            subst (λ (a : Response). T (changes m.0.call.op a)) m.3 (subst (λ (e : Point). T (changes e.call.op c.answer)) m.2 c.change),
            ap cell (sym m.2) ∙ c.on,
            ap (λ (e : Point). e.moment) (sym m.2) ∙ c.at,
          )
          )

  -- fed the marks in their order, the sequential cells give each call its answer
  pub sorted-answers : replies values (map point_of (sort ms)) ≡ map reply_of (sort ms)
  sorted-answers = sorted_in_order.answers

  -- and stand in the end as at any time after all calls
  pub sorted-left : (k n : ℕ) → ((e : Point) (a : Response) → E e a → e.moment < n) → left_by values (map point_of (sort ms)) k ≡ past k n
  sorted-left k n late = sorted_in_order.left k n (omega arith) (λ m i. late (point_of m) m.answer (M.theirs m (sort_in ms m i)))

  pub sorted_points : Sorted (map point_of (sort ms))
  sorted_points = go (sort ms) (sort_keyed ms)
    where
      go : (l : List Mark) → Keyed l → Sorted (map point_of l)
      go [] k = tt
      go (x ∷ l) k = ((λ e i. let m = points_in l e i in subst (λ (e : Point). x.spot.moment ≤ e.moment) (sym m.2) (no_later x m.0 (k.0 m.0 m.1))), go l k.1)
