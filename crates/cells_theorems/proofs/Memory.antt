-- Loads, stores and hardware CAS: what they do to a block or a cell of the pool they do to the linked one of the figure.
use mathlib.Core.Path.{◌≡◌, refl, sym, ◌∙◌}
use mathlib.Core.Bool.{Bool, true, false, cond}
use mathlib.Core.Logic.{◌⊎◌, inl, inr}
use mathlib.Core.List.{List}
use Prim.Native.Nat.{ℕ, ◌+◌, ◌*◌, ◌<◌}
use native.Mathlib.Omega.{arith}
use lib.Dec.{eqb}
use lib.ListN.{length, length-set}
use lib.Seq.{set-get_or}
use borrow.Author.Tests.{eqb-true, eqb-false, eq-eqb, ne_eqb}
use Rattle.cells_spec.specs.declared.State.{State}
use Rattle.figure_lines.specs.declared.Field.{Field}
use Rattle.figure_lines.specs.declared.Field.TheVariants.{X}
use Rattle.cells_spec.specs.Pool.{offset, word, set_word}
use Rattle.cells_spec.specs.Step.{current, with_blocks}
use Rattle.cells_spec.proofs.Tests.{blocks_true}
use Rattle.cells_spec.proofs.Words.{fields, set_here, set_else}
use Rattle.history_spec.specs.Basics.{upd}
use Rattle.history_spec.proofs.Basics.{either, upd-at, upd-cases}
use Rattle.figure_cell.specs.Memory.{Cell, word_of, store, install}
use Rattle.figure.specs.Figure.{World}
use Rattle.figure_cell.proofs.Stores.{store-here, store_else, store-next, store-current}
use Rattle.cells_theorems.proofs.Agree.{Links, Whole, Blocks, Agree, set_cases, keeps, upd_own}

-- ONE BLOCK CHANGES

-- block i of cell k is block b; the pool's becomes as p' has it and the figure's as m has it
pub words_change : (R : Links) (p p' : List ℕ) (cell : ℕ → Cell) (k i b : ℕ) (m : Cell)
    → ((k' i' : ℕ) (f : Field) → R k' i' b f → (k' ≡ k) × (i' ≡ i)) → ((b'' : ℕ) (f : Field) → R k i b'' f → b'' ≡ b)
    → ((k' i' b'' : ℕ) (f : Field) → R k' i' b'' f → (b'' ≡ b → ⊥) → word p b'' f ≡ word_of (cell k') i' f)
    → ((b'' : ℕ) (f : Field) → (b'' ≡ b → ⊥) → word p' b'' f ≡ word p b'' f)
    → ((i' : ℕ) (f : Field) → (i' ≡ i → ⊥) → word_of m i' f ≡ word_of (cell k) i' f)
    → ((f : Field) → R k i b f → word p' b f ≡ word_of m i f)
    → (k' i' b'' : ℕ) (f : Field) → R k' i' b'' f → word p' b'' f ≡ word_of (upd cell k m k') i' f
words_change R p p' cell k i b m same back old pool-else cell-else here k' i' b'' f r = go (either b'' b)
  where
    go : (b'' ≡ b) ⊎ (b'' ≡ b → ⊥) → word p' b'' f ≡ word_of (upd cell k m k') i' f
    go (inl e) = let q = same k' i' f (rw e at r) in rw (e, upd-at cell k m k' q.0, q.1) (here f (rw (e, q.0, q.1) at r))
    go (inr d) =
        pool-else b'' f d ∙ old k' i' b'' f r d
        ∙ upd-cases (λ c. word_of (cell k') i' f ≡ word_of c i' f) cell k m k' (λ e. rw e (sym (cell-else i' f (λ g. d (back b'' f (rw (e, g) at r)))))) (λ _. refl)

abbrev pub with_cell : World → ℕ → Cell → World
with_cell w k m = record { tasks = w.tasks; cells = w.cells; cell = upd w.cell k m; records = w.records }

-- word f of block i of cell k is stored, in block b
pub data Stored (R : Links) (k i b : ℕ) (f : Field) (k' i' b'' : ℕ) (g : Field) : Type 0 where
  was : R k' i' b'' g → Stored R k i b f k' i' b'' g
  now : k' ≡ k → i' ≡ i → b'' ≡ b → g ≡ f → Stored R k i b f k' i' b'' g

-- other links that say the same
relink : {n v : ℕ} {R S : Links} {s : State} {p : List ℕ} {w : World} → ((k i b : ℕ) (f : Field) → R k i b f → S k i b f) → ((k i b : ℕ) (f : Field) → S k i b f → R k i b f) → Agree n v R s p w → Agree n v S s p w
relink to from a = record {
  sizes = a.sizes;
  last = a.last;
  places = a.places;
  rows = a.rows;
  blocks = let o = a.blocks in record {
    numbers = λ k i b f y. o.numbers k i b f (from k i b f y);
    below = λ k i b f y. o.below k i b f (from k i b f y);
    words = λ k i b f y. o.words k i b f (from k i b f y);
    same = λ k i b k' i' f f' y y'. o.same k i b k' i' f f' (from k i b f y) (from k' i' b f' y');
    back = λ k i b b'' f f' y y'. o.back k i b b'' f f' (from k i b f y) (from k i b'' f' y');
  };
  current = λ k h f. to _ _ _ f (a.current k h f);
  records = λ t h. let y = a.records t h in record { same = y.same; held = λ z f. to _ _ _ f (y.held z f); taken = λ f z. to _ _ _ f (y.taken f z) };
}

module _ {n v : ℕ} {R : Links} {s : State} {p : List ℕ} {w : World} (a : Agree n v R s p w) where
  pub in_pool_lem : (b : ℕ) → b < s.blocks → 5 * b + 4 < length p
  in_pool_lem b h = omega (arith, (blocks_true n v s.blocks (length p) a.sizes.blocks_ok_lem).1)

  -- the state that is put back where nothing changes
  abbrev still : ℕ → State
  still k = with_blocks s k (current s k) s.last

  pub stays : (k : ℕ) → Agree n v R (still k) p (with_cell w k (w.cell k))
  stays k = rw (set-get_or s.current k 0, upd_own w.cell k) a

  -- a store of word f in a linked block, after which word f is linked too
  pub stores : (k i b : ℕ) (f g : Field) (x : ℕ) → R k i b g → Agree n v (Stored R k i b f) (still k) (set_word p b f x) (with_cell w k (store (w.cell k) i f x))
  stores k i b f g₀ x r =
      let old = a.blocks in
      let m = store (w.cell k) i f x in
      rw (set-get_or s.current k 0)
      (record {
        sizes = rw (length-set p (5 * b + offset f) x) a.sizes;
        last = a.last;
        places = a.places;
        rows = a.rows;
        blocks = record {
          numbers = λ j i' b'' g y. rw (keeps (λ c. c.next) w.cell k m (store-next (w.cell k) i x f) j) (by_link (λ j i' b''. i' < (w.cell j).next) (λ j i' b'' g. old.numbers j i' b'' g) j i' b'' g y);
          below = by_link (λ j i' b''. b'' < s.blocks) (λ j i' b'' g. old.below j i' b'' g);
          words = words_change (Stored R k i b f) p (set_word p b f x) w.cell k i b m
              (λ k' i' g y. only k' i' g y) (λ b'' g y. back_only b'' g y) (λ k' i' b'' g y d. old.words k' i' b'' g (elsewhere k' i' b'' g y d))
              (λ b'' g d. set_else p b f x b'' g d) (λ i' g d. store_else (w.cell k) i x i' f g d)
              (λ g y. set_here p b f x g (in_pool_lem b (old.below k i b g₀ r)) ∙ (here g y ∙ sym (store-here (w.cell k) i x f g)));
          same = λ k₁ i₁ b₁ k₂ i₂ g g' y y'. sames k₁ i₁ b₁ k₂ i₂ g g' y y';
          back = λ k₁ i₁ b₁ b₂ g g' y y'. backs k₁ i₁ b₁ b₂ g g' y y';
        };
        current = λ j h g. rw (keeps (λ c. c.current) w.cell k m (store-current (w.cell k) i x f) j) (was (a.current j h g));
        records = λ t h. let y = a.records t h in record { same = y.same; held = λ z g. was (y.held z g); taken = λ g z. was (y.taken g z) };
      })
    where
      old₀ : Blocks R s.blocks p w.cell
      old₀ = a.blocks

      -- what holds of linked blocks
      by_link : (Q : ℕ → ℕ → ℕ → Type 0) → ((j i' b'' : ℕ) (g : Field) → R j i' b'' g → Q j i' b'') → (j i' b'' : ℕ) (g : Field) → Stored R k i b f j i' b'' g → Q j i' b''
      by_link Q h j i' b'' g (was y) = h j i' b'' g y
      by_link Q h j i' b'' g (now ek ei eb ef) = rw (ek, ei, eb) (h k i b g₀ r)

      only : (k' i' : ℕ) (g : Field) → Stored R k i b f k' i' b g → (k' ≡ k) × (i' ≡ i)
      only k' i' g (was y) = old₀.same k' i' b k i g g₀ y r
      only k' i' g (now ek ei eb ef) = (ek, ei)

      back_only : (b'' : ℕ) (g : Field) → Stored R k i b f k i b'' g → b'' ≡ b
      back_only b'' g (was y) = old₀.back k i b'' b g g₀ y r
      back_only b'' g (now ek ei eb ef) = eb

      elsewhere : (k' i' b'' : ℕ) (g : Field) → Stored R k i b f k' i' b'' g → (b'' ≡ b → ⊥) → R k' i' b'' g
      elsewhere k' i' b'' g (was y) d = y
      elsewhere k' i' b'' g (now ek ei eb ef) d = absurd (d eb)

      sames : (k₁ i₁ b₁ k₂ i₂ : ℕ) (g g' : Field) → Stored R k i b f k₁ i₁ b₁ g → Stored R k i b f k₂ i₂ b₁ g' → (k₁ ≡ k₂) × (i₁ ≡ i₂)
      sames k₁ i₁ b₁ k₂ i₂ g g' (was y) y' = by_link (λ j i' b''. b'' ≡ b₁ → (k₁ ≡ j) × (i₁ ≡ i')) (λ j i' b'' h z e. old₀.same k₁ i₁ b₁ j i' g h y (rw e at z)) k₂ i₂ b₁ g' y' refl
      sames k₁ i₁ b₁ k₂ i₂ g g' (now ek ei eb ef) y' = let q = only k₂ i₂ g' (rw eb at y') in (ek ∙ sym q.0, ei ∙ sym q.1)

      backs : (k₁ i₁ b₁ b₂ : ℕ) (g g' : Field) → Stored R k i b f k₁ i₁ b₁ g → Stored R k i b f k₁ i₁ b₂ g' → b₁ ≡ b₂
      backs k₁ i₁ b₁ b₂ g g' (was y) y' = by_link (λ j i' b''. j ≡ k₁ → i' ≡ i₁ → b₁ ≡ b'') (λ j i' b'' h z e e'. old₀.back k₁ i₁ b₁ b'' g h y (rw (e, e') at z)) k₁ i₁ b₂ g' y' refl refl
      backs k₁ i₁ b₁ b₂ g g' (now ek ei eb ef) y' = eb ∙ sym (back_only b₂ g' (rw (ek, ei) at y'))

      here : (g : Field) → Stored R k i b f k i b g → cond (eqb (offset g) (offset f)) x (word p b g) ≡ cond (eqb (offset g) (offset f)) x (word_of (w.cell k) i g)
      here g (was y) = rw (old₀.words k i b g y) refl
      here g (now ek ei eb ef) = rw (ef, eq-eqb (offset f) (offset f) refl) refl

  -- a store in a block of which that word is linked: no more is
  pub stores-again : (k i b : ℕ) (f : Field) (x : ℕ) → R k i b f → Agree n v R (still k) (set_word p b f x) (with_cell w k (store (w.cell k) i f x))
  stores-again k i b f x r = relink (λ j i' b'' g y. back_to j i' b'' g y) (λ j i' b'' g y. was y) (stores k i b f f x r)
    where
      back_to : (j i' b'' : ℕ) (g : Field) → Stored R k i b f j i' b'' g → R j i' b'' g
      back_to j i' b'' g (was y) = y
      back_to j i' b'' g (now ek ei eb ef) = rw (ek, ei, eb, ef) r

  -- a cell gets another current block
  pub installs : (k i b : ℕ) → k < v → Whole R k i b → Agree n v R (with_blocks s k b s.last) p (with_cell w k (install (w.cell k) i))
  installs k i b h r =
      let old = a.blocks in
      let m = install (w.cell k) i in
      record {
        sizes = a.sizes;
        last = a.last;
        places = rw (length-set s.current k b) a.places;
        rows = a.rows;
        blocks = record {
          numbers = λ j i' b'' g y. rw (keeps (λ c. c.next) w.cell k m refl j) (old.numbers j i' b'' g y);
          below = old.below;
          words = λ j i' b'' f y. rw (keeps (λ c. word_of c i' f) w.cell k m (fields (λ f. word_of m i' f ≡ word_of (w.cell k) i' f) refl refl refl refl refl f) j) (old.words j i' b'' f y);
          same = old.same;
          back = old.back;
        };
        current = λ j l. set_cases (λ j b c. Whole R j c.current b) s.current w.cell k b 0 m (omega (arith, a.places)) r j (a.current j l);
        records = a.records;
      }

  -- two blocks of a cell are one in the pool as they are in the figure
  pub one_block : (k i b i' b'' : ℕ) (f f' : Field) → R k i b f → R k i' b'' f' → eqb b b'' ≡ eqb i i'
  one_block k i b i' b'' f f' r r' = go (eqb i i') refl
    where
      go : (x : Bool) → eqb i i' ≡ x → eqb b b'' ≡ x
      go true e = eq-eqb _ _ (a.blocks.back k i' b b'' f f' (rw (eqb-true i i' e) at r) r')
      go false e = ne_eqb _ _ (λ (g : b ≡ b''). eqb-false _ _ e (a.blocks.same k i b'' k i' f f' (rw g at r) r').1)

  -- both cells name the block that the CAS expects, or neither
  pub names : (k i b : ℕ) → k < v → Whole R k i b → eqb (current s k) b ≡ eqb (w.cell k).current i
  names k i b h r = one_block k (w.cell k).current (current s k) i b X X (a.current k h X) (r X)
