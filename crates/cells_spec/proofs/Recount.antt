-- The stored counts follow the uses: recounted gives each block what the law of uses says.
use mathlib.Core.Path.{◌≡◌, refl, ◌∙◌}
use mathlib.Core.Bool.{Bool, true, false, ◌&&◌, not, cond}
use mathlib.Core.List.{List}
use Prim.Native.Nat.{ℕ, ◌+◌, ◌-◌, ◌≤◌, ◌<◌}
use native.Mathlib.Omega.{arith}
use lib.Dec.{eqb}
use lib.ListN.{get_or, length, length-set}
use borrow.Author.Tests.{eqb-true, eq-eqb}
use Rattle.figure_lines.specs.declared.Record.{Record}
use Rattle.figure_lines.specs.Record.{is_idle}
use Rattle.cells_spec.specs.Questions.{holds, has_taken, record_uses}
use Rattle.cells_spec.specs.Counts.{more, claimed, Roomy, Room}
use Rattle.cells_spec.proofs.Sums.{once}
use Rattle.cells_spec.proofs.Tables.{length_if, length_claimed, set_at, more-at, two-uses, claimed-at, record_most}
use Rattle.cells_spec.specs.StoredCounts.{less, released, renamed, recounted, Named, MayRename, Countable}

-- LENGTHS

pub length_released : (l : List ℕ) (r : Record) → length (released l r) ≡ length l
length_released l r =
    let m = cond (not (is_idle r) && holds r) (less l r.held) l in
    length_if (not (is_idle r) && has_taken r) (less m r.taken) m (length-set m r.taken _) ∙ length_if (not (is_idle r) && holds r) (less l r.held) l (length-set l r.held _)

length_renamed : (l : List ℕ) (c d : ℕ) → length (renamed l c d) ≡ length l
length_renamed l c d = go (eqb c d)
  where
    go : (x : Bool) → length (cond x l (more (less l c) d)) ≡ length l
    go true = refl
    go false = length-set (less l c) d _ ∙ length-set l c _

-- as many counts as before
pub length_recounted : (l : List ℕ) (r q : Record) (c d : ℕ) → length (recounted l r q c d) ≡ length l
unfolding recounted
length_recounted l r q c d = length_renamed (claimed (released l r) q) c d ∙ length_claimed (released l r) q ∙ length_released l r

-- ONE BLOCK'S COUNT

module _ (b : ℕ) (l : List ℕ) (h : b < length l) where
  less-at : (m : ℕ) → get_or (less l m) b 0 ≡ get_or l b 0 - once (eqb m b)
  less-at m = set_at b l h m _ ∙ go (eqb m b) refl
    where
      go : (x : Bool) → eqb m b ≡ x → cond x (get_or l m 0 - 1) (get_or l b 0) ≡ get_or l b 0 - once x
      go true e = rw (eqb-true m b e)
      go false e = omega arith

  less_if : (x : Bool) (m : ℕ) → get_or (cond x (less l m) l) b 0 ≡ get_or l b 0 - once (x && eqb m b)
  less_if true m = less-at m
  less_if false m = omega arith

  renamed-at : (c d : ℕ) → once (eqb c b) ≤ get_or l b 0 → get_or (renamed l c d) b 0 + once (eqb c b) ≡ get_or l b 0 + once (eqb d b)
  renamed-at c d n = go (eqb c d) refl
    where
      go : (x : Bool) → eqb c d ≡ x → get_or (cond x l (more (less l c) d)) b 0 + once (eqb c b) ≡ get_or l b 0 + once (eqb d b)
      go true e = rw (eqb-true c d e)
      go false e =
          let i : b < length (less l c) = rw (length-set l c (get_or l c 0 - 1)) h in
          omega (arith, more-at b (less l c) i d, less-at c)

pub released-at : (b : ℕ) (l : List ℕ) → b < length l → (r : Record) → get_or (released l r) b 0 ≡ get_or l b 0 - record_uses r b
released-at b l h r =
    let x = not (is_idle r) && holds r in
    let m = cond x (less l r.held) l in
    let e = length_if x (less l r.held) l (length-set l r.held _) in
    let first = less_if b l h x r.held in
    let second = less_if b m (omega (arith, e)) (not (is_idle r) && has_taken r) r.taken in
    omega (arith, first, second, two-uses b r)

-- Each block's count loses what the old record and the old block named, and gains what the new ones name.
pub recounted-at : (l : List ℕ) (r q : Record) (c d b : ℕ) → b < length l → record_uses r b + cond (eqb c b) 1 0 ≤ get_or l b 0
    → get_or (recounted l r q c d) b 0 + (record_uses r b + cond (eqb c b) 1 0) ≡ get_or l b 0 + (record_uses q b + cond (eqb d b) 1 0)
unfolding recounted
recounted-at l r q c d b h n =
    let m = released l r in
    let i : b < length m = rw (length_released l r) h in
    let j : b < length (claimed m q) = rw (length_claimed m q) i in
    let e = released-at b l h r in
    let f = claimed-at b m i q in
    omega (arith, e, f, renamed-at b (claimed m q) j c d (omega (arith, e, f)))

-- WHAT 8 BITS NEED

hit : (x y : Bool) → x ≡ true → y ≡ true → ◌≡◌ {A = ℕ} (cond (x && y) 1 0) 1
hit x y e g = rw (e, g)

module _ (l : List ℕ) (r : Record) (n : Named l r) where
  -- the held block's count is not 0
  pub held_counted : not (is_idle r) && holds r ≡ true → (r.held < 128) × (0 < get_or l r.held 0)
  held_counted e =
      let h = (n.1.0 e).0 in
      (h, omega (arith, n.2 r.held h, two-uses r.held r, hit (not (is_idle r) && holds r) (eqb r.held r.held) e (eq-eqb r.held r.held refl)))

  -- nor is the taken one's, without the held block
  pub taken_counted : not (is_idle r) && has_taken r ≡ true → (r.taken < 128) × (0 < get_or (cond (not (is_idle r) && holds r) (less l r.held) l) r.taken 0)
  taken_counted e =
      let h = (n.1.1 e).0 in
      let at = less_if r.taken l (omega (arith, n.0, h)) (not (is_idle r) && holds r) r.held in
      (h, omega (arith, at, n.2 r.taken h, two-uses r.taken r, hit (not (is_idle r) && has_taken r) (eqb r.taken r.taken) e (eq-eqb r.taken r.taken refl)))

module _ (l : List ℕ) (r q : Record) (c d : ℕ) (h : Countable l r q c d) where
  pub old-named : Named l r
  old-named = (h.0, h.1, λ b m. omega (arith, h.5 b m))

  lower : (b : ℕ) → Roomy l b → Roomy (released l r) b
  lower b y = (y.0, omega (arith, y.1, released-at b l (omega (arith, y.0, h.0)) r))

  pub new-room : Room (released l r) q
  new-room = (λ e. lower q.held (h.2.0 e), λ e. lower q.taken (h.2.1 e))

  pub block-names : MayRename (claimed (released l r) q) c d
  block-names =
      let m = released l r in
      let at : (b : ℕ) → b < 128 → get_or (claimed m q) b 0 ≡ get_or l b 0 - record_uses r b + record_uses q b = λ b k.
      let i : b < length m = rw (length_released l r) (omega (arith, k, h.0)) in
      claimed-at b m i q ∙ rw (released-at b l (omega (arith, k, h.0)) r) in
      let one : ◌≡◌ {A = ℕ} (cond (eqb c c) 1 0) 1 = rw (eq-eqb c c refl) in
      (h.3.0, omega (arith, at c h.3.0, h.5 c h.3.0, one), h.4.0, omega (arith, at d h.4.0, h.4.1, record_most q d))
