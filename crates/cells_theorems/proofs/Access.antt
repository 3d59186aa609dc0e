-- Linked accesses: the pool performs its own as the figure performs its own, and memory answers alike.
use mathlib.Core.Path.{◌≡◌, refl, ap, subst}
use mathlib.Core.Bool.{Bool, true, false, cond}
use mathlib.Core.List.{List}
use Prim.Native.Nat.{ℕ, ◌<◌}
use lib.Dec.{eqb}
use Rattle.cells_spec.specs.declared.State.{State}
use Rattle.figure_lines.specs.declared.Field.{Field}
use Rattle.figure_lines.specs.declared.Field.TheVariants.{X, D}
use Rattle.figure_lines.specs.declared.Access.{Access}
use Rattle.figure_lines.specs.declared.Access.TheVariants.{LoadCell, Load, Store, DecideCas, InstallCas, Allocate, Nothing}
use Rattle.figure_lines.specs.Record.{no_value}
use Rattle.figure_lines.specs.Lines.{found, attempt}
use Rattle.cells_spec.specs.Pool.{set_word}
use Rattle.cells_spec.specs.Blocks.{unused}
use Rattle.cells_spec.specs.Memory.{Touched, touched, performed}
use Rattle.cells_spec.specs.Step.{current, with_blocks}
use Rattle.cells_spec.proofs.Unused.{Found}
use Rattle.figure_cell.specs.Memory.{install, Accessed, access_cell, accessed, store as storeWord}
use Rattle.figure.specs.Figure.{World}
use Rattle.cells_theorems.proofs.Agree.{Links, Whole, Agree}
use Rattle.cells_theorems.proofs.Memory.{with_cell, Stored, was, now, stays, stores, stores-again, installs, names}
use Rattle.cells_theorems.proofs.Allocation.{Link, new, allocates}

-- the pool's access and the figure's, of a task whose cell is k; an allocation finds a block
pub data Linked (R : Links) (s : State) (k : ℕ) : Access → Access → Type 0 where
  load_cell : Linked R s k (LoadCell k) (LoadCell k)
  load : {i b : ℕ} {f : Field} → R k i b f → Linked R s k (Load b f) (Load i f)
  store : {i b : ℕ} {f : Field} {x : ℕ} → R k i b f → Linked R s k (Store b f x) (Store i f x)
  -- a word of a block that is being filled
  fill : {i b : ℕ} {f g : Field} {x : ℕ} → R k i b g → Linked R s k (Store b f x) (Store i f x)
  decide_cas : {i b x : ℕ} → R k i b D → Linked R s k (DecideCas b x) (DecideCas i x)
  install_cas : {i b i' b'' : ℕ} → Whole R k i b → Whole R k i' b'' → Linked R s k (InstallCas k b b'') (InstallCas k i i')
  allocate : Found s (unused s) → Linked R s k Allocate Allocate

-- what memory answers the pool and the figure: linked blocks, or the same value
abbrev pub Answers : Links → ℕ → Access → ℕ → ℕ → Type 0
Answers R k (LoadCell c) b i = Whole R k i b
Answers R k (Load c f) b i = b ≡ i
-- and the word that is stored is linked
Answers R k (Store c f x) b i = (b ≡ i) × ((d : ℕ) → R k c d X → R k c d f)
Answers R k (DecideCas c x) b i = b ≡ i
Answers R k (InstallCas c d e) b i = b ≡ i
Answers R k Allocate b i = R k i b X
Answers R k Nothing b i = b ≡ i

-- so a hardware CAS is won in both, or lost in both
pub same_attempt : {R : Links} (R' : Links) {s : State} {k : ℕ} (b i : ℕ) {x y : Access} → Linked R s k x y → Answers R' k y b i → attempt x b ≡ attempt y i
same_attempt R' b i load_cell h = refl
same_attempt R' b i (load r) h = refl
same_attempt R' b i (store r) h = refl
same_attempt R' b i (fill r) h = refl
same_attempt R' b i (decide_cas r) h = ap found h
same_attempt R' b i (install_cas r r') h = ap found h
same_attempt R' b i (allocate f) h = refl

pub record Performed (n v : ℕ) (s : State) (w : World) (k : ℕ) (y : Access) (m : Touched) (m' : Accessed) : Type 1 where
  pub R : Links
  pub agree : Agree n v R (with_blocks s k m.current m.last) m.pool (with_cell w k m'.cell)
  pub answer : Answers R k y m.value m'.value

module _ {n v : ℕ} {R : Links} {s : State} {p : List ℕ} {w : World} (a : Agree n v R s p w) (k : ℕ) (h : k < v) where
  -- the cell names c, the last block stays
  abbrev left : (pool : List ℕ) (c value : ℕ) → Touched
  left q c x = touched q c s.last x

  pub performs : {x y : Access} → Linked R s k x y → Performed n v s w k y (performed p (current s k) s.last (unused s) x) (access_cell (w.cell k) y)
  performs load_cell = record { R = R; agree = stays a k; answer = a.current k h }
  performs (load {i} {b} {f} r) = record { R = R; agree = stays a k; answer = a.blocks.words k i b f r }
  performs (store {i} {b} {f} {x} r) = record { R = R; agree = stores-again a k i b f x r; answer = (refl, λ d y. subst (λ d. R k i d f) (a.blocks.back k i b d f X r y) r) }
  performs (fill {i} {b} {f} {g} {x} r) = record { R = Stored R k i b f; agree = stores a k i b f g x r; answer = (refl, λ d y. now refl refl (backs d y) refl) }
    where
      backs : (d : ℕ) → Stored R k i b f k i d X → d ≡ b
      backs d (was y) = a.blocks.back k i d b X g y r
      backs d (now ek ei eb ef) = eb
  performs (decide_cas {i} {b} {x} r) = rw (a.blocks.words k i b D r) (go (eqb ((w.cell k).d i) no_value))
    where
      go : (c : Bool) → Performed n v s w k (DecideCas i x) (cond c (left (set_word p b D x) (current s k) 1) (left p (current s k) 0)) (cond c (accessed (storeWord (w.cell k) i D x) 1) (accessed (w.cell k) 0))
      go true = record { R = R; agree = stores-again a k i b D x r; answer = refl }
      go false = record { R = R; agree = stays a k; answer = refl }
  performs (install_cas {i} {b} {i'} {b''} r r') = rw (names a k i b h r) (go (eqb (w.cell k).current i))
    where
      go : (c : Bool) → Performed n v s w k (InstallCas k i i') (cond c (left p b'' 1) (left p (current s k) 0)) (cond c (accessed (install (w.cell k) i') 1) (accessed (w.cell k) 0))
      go true = record { R = R; agree = installs a k i' b'' h r'; answer = refl }
      go false = record { R = R; agree = stays a k; answer = refl }
  performs (allocate f) = rw f.1 (record { R = Link R k (w.cell k).next f.0; agree = allocates a f.0 f.2 f.3 k; answer = new refl refl refl refl })
