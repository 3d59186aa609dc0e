-- The notes of every task after a step: its own, and those of who holds its block.
use mathlib.Core.Path.{◌≡◌, refl, sym, ap, ◌∙◌}
use mathlib.Core.Logic.{◌≢◌, ◌⊎◌, inl, inr}
use mathlib.Core.Bool.{Bool, true, false, true≢false, ◌&&◌, ◌||◌, cond}
use mathlib.Core.List.{List}
use Prim.Native.Nat.{ℕ, ◌+◌, ◌≤◌, ◌<◌}
use native.Mathlib.Numerals.{add-one}
use native.Mathlib.Omega.{arith}
use native.Mathlib.Decide.{dec_le}
use lib.Dec.{eqb, ltb}
use lib.ListN.{length, get_or, get_or-eq_default, set, length-set}
use lib.Seq.{get_or-set_same, get_or-set_other}
use borrow.Author.Tests.{lt-ltb, le-ltb, ltb-true, eq-eqb, ne_eqb}
use Rattle.history_spec.proofs.Basics.{either}
use Rattle.figure_lines.specs.declared.Record.{Record}
use Rattle.figure_moments.specs.Moments.{noted}
use Rattle.moments_tool.specs.declared.sights.Sight.{Sight}
use Rattle.moments_tool.specs.declared.sights.Own.{Own}
use Rattle.moments_tool.specs.Loop.{spreads}
use Rattle.moments_tool.specs.Notes.{slot, sight_of, nobody_waits, with_waiting, notes_of, no_own, own_at, step_noted, held_noted}

pub slot-below : (n m b : ℕ) → m ≤ b → 0 < b → slot n m < b
slot-below n m b h l = go (ltb n m) refl
  where
    go : (x : Bool) → ltb n m ≡ x → slot n m < b
    go true e = rw e (omega (arith, ltb-true n m e))
    go false e = rw e l

-- one place more is written
pub set_next : {A : Type 0} (l : List A) (f : ℕ → A) (d : A) (u : ℕ) (v : A) → u < length l → ((k : ℕ) → k < u → get_or l k d ≡ f k) → v ≡ f u → (k : ℕ) → k < u + 1 → get_or (set l u v) k d ≡ f k
set_next l f d u v h g e k j = go (either k u)
  where
    go : (k ≡ u) ⊎ (k ≢ u) → get_or (set l u v) k d ≡ f k
    go (inl q) = rw q (get_or-set_same l u v d h ∙ e)
    go (inr q) = get_or-set_other l u k v d q ∙ g k (omega (arith, j, q))

-- ONE FIELD: noted where a test passes, for who steps (e), or for who holds the block (h)

noted_for : {A : Type 0} (a e : Bool) (v o : A) → cond e (cond a v o) o ≡ cond (a && e) v o
noted_for true true v o = refl
noted_for true false v o = refl
noted_for false true v o = refl
noted_for false false v o = refl

noted_twice : (d q e h : Bool) (v o : ℕ) → cond h (cond q v (cond e (cond d v o) o)) (cond e (cond d v o) o) ≡ cond ((d && e) || (q && h)) v o
noted_twice true true true true v o = refl
noted_twice true true true false v o = refl
noted_twice true true false true v o = refl
noted_twice true true false false v o = refl
noted_twice true false true true v o = refl
noted_twice true false true false v o = refl
noted_twice true false false true v o = refl
noted_twice true false false false v o = refl
noted_twice false true true true v o = refl
noted_twice false true true false v o = refl
noted_twice false true false true v o = refl
noted_twice false true false false v o = refl
noted_twice false false true true v o = refl
noted_twice false false true false v o = refl
noted_twice false false false true v o = refl
noted_twice false false false false v o = refl

module _ (n : ℕ) (x : Sight) (i : ℕ) where
  -- ONE TASK

  abbrev step : Own → Own
  step = step_noted n x i

  abbrev held : Own → Own
  held = held_noted n x i

  abbrev both : (h e : Bool) → Own → Own
  both h e o = record {
    loaded = cond ((eqb n 11 || eqb n 20) && e) i o.loaded;
    stored = cond (eqb n 23 && e) i o.stored;
    active = cond (eqb n 23 && e) x.active o.active;
    inactive = cond ((eqb n 27 && x.active) && h) i o.inactive;
    decided = cond (((eqb n 10 || eqb n 15) && e) || ((eqb n 2 && x.undecided) && h)) i o.decided;
    replaced = cond ((eqb n 30 && x.current) && h) i o.replaced;
  }

  one_noted : (h e : Bool) (o : Own) → cond h (held (cond e (step o) o)) (cond e (step o) o) ≡ both h e o
  one_noted true true o = λ j. record { loaded = noted_for (eqb n 11 || eqb n 20) true i o.loaded j; stored = noted_for (eqb n 23) true i o.stored j; active = noted_for (eqb n 23) true x.active o.active j; inactive = noted_for (eqb n 27 && x.active) true i o.inactive j; decided = noted_twice (eqb n 10 || eqb n 15) (eqb n 2 && x.undecided) true true i o.decided j; replaced = noted_for (eqb n 30 && x.current) true i o.replaced j }
  one_noted true false o = λ j. record { loaded = noted_for (eqb n 11 || eqb n 20) false i o.loaded j; stored = noted_for (eqb n 23) false i o.stored j; active = noted_for (eqb n 23) false x.active o.active j; inactive = noted_for (eqb n 27 && x.active) true i o.inactive j; decided = noted_twice (eqb n 10 || eqb n 15) (eqb n 2 && x.undecided) false true i o.decided j; replaced = noted_for (eqb n 30 && x.current) true i o.replaced j }
  one_noted false true o = λ j. record { loaded = noted_for (eqb n 11 || eqb n 20) true i o.loaded j; stored = noted_for (eqb n 23) true i o.stored j; active = noted_for (eqb n 23) true x.active o.active j; inactive = noted_for (eqb n 27 && x.active) false i o.inactive j; decided = noted_twice (eqb n 10 || eqb n 15) (eqb n 2 && x.undecided) true false i o.decided j; replaced = noted_for (eqb n 30 && x.current) false i o.replaced j }
  one_noted false false o = λ j. record { loaded = noted_for (eqb n 11 || eqb n 20) false i o.loaded j; stored = noted_for (eqb n 23) false i o.stored j; active = noted_for (eqb n 23) false x.active o.active j; inactive = noted_for (eqb n 27 && x.active) false i o.inactive j; decided = noted_twice (eqb n 10 || eqb n 15) (eqb n 2 && x.undecided) false false i o.decided j; replaced = noted_for (eqb n 30 && x.current) false i o.replaced j }

  own_stepped : (l : List Own) (t : ℕ) → t < length l → (u : ℕ) → own_at (set l t (step (own_at l t))) u ≡ cond (eqb u t) (step (own_at l u)) (own_at l u)
  own_stepped l t h u = go (either u t)
    where
      go : (u ≡ t) ⊎ (u ≢ t) → own_at (set l t (step (own_at l t))) u ≡ cond (eqb u t) (step (own_at l u)) (own_at l u)
      go (inl q) = rw (eq-eqb u t q, q) (get_or-set_same l t (step (own_at l t)) no_own h)
      go (inr q) = rw (ne_eqb u t q) (get_or-set_other l t u (step (own_at l t)) no_own q)

  -- nothing is noted of the block
  not_spread : spreads n x ≡ false → (h : Bool) (o : Own) → o ≡ cond h (held o) o
  not_spread e false o = refl
  not_spread e true o = go (eqb n 2 && x.undecided) (eqb n 27 && x.active) (eqb n 30 && x.current) e
    where
      go : (q p r : Bool) → (q || (p || r)) ≡ false
          → o ≡ record { loaded = o.loaded; stored = o.stored; active = o.active; inactive = cond p i o.inactive; decided = cond q i o.decided; replaced = cond r i o.replaced }
      go false false false f = refl
      go true p r f = absurd (true≢false f)
      go false true r f = absurd (true≢false f)
      go false false true f = absurd (true≢false f)

  -- THOSE OF EVERY TASK BELOW k THAT HOLDS THE BLOCK

  pub record Spread (who : List Bool) (old new : List Own) (k : ℕ) : Type 0 where
    pub noted_below : (u : ℕ) → own_at new u ≡ cond (ltb u k && get_or who u false) (held (own_at old u)) (own_at old u)
    pub same : length new ≡ length old

  module _ {who : List Bool} {old new : List Own} {k : ℕ} (s : Spread who old new k) where
    -- the test of another does not matter
    other : (u : ℕ) → u ≢ k → ltb u k ≡ ltb u (k + 1)
    other u q = go (dec_le k u)
      where
        go : Dec (k ≤ u) → ltb u k ≡ ltb u (k + 1)
        go (yes h) = le-ltb u k h ∙ sym (le-ltb u (k + 1) (omega (arith, h, q)))
        go (no h) = lt-ltb u k (omega (arith, h)) ∙ sym (lt-ltb u (k + 1) (omega (arith, h)))

    kept : (u : ℕ) → u ≢ k → own_at new u ≡ cond (ltb u (k + 1) && get_or who u false) (held (own_at old u)) (own_at old u)
    kept u q = s.noted_below u ∙ ap (λ (b : Bool). cond (b && get_or who u false) (held (own_at old u)) (own_at old u)) (other u q)

    here : own_at new k ≡ own_at old k
    here = s.noted_below k ∙ rw (le-ltb k k (omega arith))

    pub spread_yes : k < length old → get_or who k false ≡ true → Spread who old (set new k (held (own_at new k))) (k + 1)
    spread_yes h e = record { noted_below = λ u. go u (either u k); same = length-set new k (held (own_at new k)) ∙ s.same }
      where
        go : (u : ℕ) → (u ≡ k) ⊎ (u ≢ k) → own_at (set new k (held (own_at new k))) u ≡ cond (ltb u (k + 1) && get_or who u false) (held (own_at old u)) (own_at old u)
        go u (inl q) = rw (q, lt-ltb k (k + 1) (omega arith), e) (get_or-set_same new k (held (own_at new k)) no_own (omega (arith, h, s.same)) ∙ ap held here)
        go u (inr q) = get_or-set_other new k u (held (own_at new k)) no_own q ∙ kept u q

    pub spread_no : get_or who k false ≡ false → Spread who old new (k + 1)
    spread_no e = record { noted_below = λ u. go u (either u k); same = s.same }
      where
        go : (u : ℕ) → (u ≡ k) ⊎ (u ≢ k) → own_at new u ≡ cond (ltb u (k + 1) && get_or who u false) (held (own_at old u)) (own_at old u)
        go u (inl q) = rw (q, lt-ltb k (k + 1) (omega arith), e) here
        go u (inr q) = kept u q

    spread_end : length who ≤ k → (u : ℕ) → own_at new u ≡ cond (get_or who u false) (held (own_at old u)) (own_at old u)
    spread_end h u = s.noted_below u ∙ go (dec_le k u)
      where
        go : Dec (k ≤ u) → cond (ltb u k && get_or who u false) (held (own_at old u)) (own_at old u) ≡ cond (get_or who u false) (held (own_at old u)) (own_at old u)
        go (yes l) = rw (le-ltb u k l, get_or-eq_default who false {n = u} (omega (arith, l, h))) refl
        go (no l) = rw (lt-ltb u k (omega (arith, l))) refl

  -- EVERY TASK

  module _ (r : Record) (l : List Own) (t : ℕ) (who : List Bool) (inside : t < length l) where
    abbrev pub After : List Own → Type 0
    After new = notes_of (i + 1) new ≡ with_waiting nobody_waits (noted (notes_of i l) t (sight_of n r x who))

    abbrev stepped : List Own
    stepped = set l t (step (own_at l t))

    all_noted : (new : List Own) → ((u : ℕ) → own_at new u ≡ cond (get_or who u false) (held (own_at stepped u)) (own_at stepped u)) → After new
    all_noted new f = λ j. record {
      now = add-one i j;
      loaded = λ u. (at u j).loaded;
      stored = λ u. (at u j).stored;
      stored_active = λ u. (at u j).active;
      inactive = λ u. (at u j).inactive;
      decided = λ u. (at u j).decided;
      replaced = λ u. (at u j).replaced;
      waiting = nobody_waits;
    }
      where
        at : (u : ℕ) → own_at new u ≡ both (get_or who u false) (eqb u t) (own_at l u)
        at u = f u ∙ ap (λ (o : Own). cond (get_or who u false) (held o) o) (own_stepped l t inside u) ∙ one_noted (get_or who u false) (eqb u t) (own_at l u)

    pub noted_alone : spreads n x ≡ false → After stepped
    noted_alone e = all_noted stepped (λ u. not_spread e (get_or who u false) (own_at stepped u))

    pub noted_all : (new : List Own) (k : ℕ) → Spread who stepped new k → length who ≤ k → After new
    noted_all new k s h = all_noted new (spread_end s h)
