-- What a turn names has what its record's names have (that they are blocks of the pool; that the held one is current): a line keeps the held
-- and the taken block, or gets one from the cell or from the search. And its cell names the block that it named, unless its call has ended.
use mathlib.Core.Path.{◌≡◌, refl, sym}
use mathlib.Core.Bool.{Bool, true, false, ◌&&◌, not, cond, false≢true}
use mathlib.Core.Option.{Option, none, some}
use mathlib.Core.List.{List}
use Prim.Native.Nat.{ℕ, ◌<◌}
use lib.Dec.{eqb}
use Rattle.figure_lines.specs.declared.Record.{Record}
use Rattle.figure_lines.specs.declared.Field.TheVariants.{D}
use Rattle.figure_lines.specs.declared.Access.{Access}
use Rattle.figure_lines.specs.declared.Access.TheVariants.{LoadCell, Load, Store, DecideCas, InstallCas, Allocate, Nothing}
use Rattle.figure_lines.specs.Answers.{Next, Go, Done}
use Rattle.figure_lines.specs.Record.{no_value, is_idle}
use Rattle.figure_lines.specs.Lines.{Line, for13, for25, for28, l1, l2, l3, l4, l5, l6, l7, l8, l10, l11, l12, l15, l16, l17, l18, l19, l20, l21, l22, l23, l24, l26, l27, l30, nowhere, line_of, access_at, access_of, next_at, next_of, attempt, counted}
use Rattle.cells_spec.specs.Questions.{holds_before, taken_before, holds, has_taken, of_kind, line_fit, reads, swaps}
use Rattle.cells_spec.proofs.Numbers.{number}
use Rattle.cells_spec.proofs.Accesses.{Keeps, keeps}
use Rattle.cells_spec.specs.Pool.{word}
use Rattle.cells_spec.specs.Memory.{Touched, performed}
use Rattle.history_spec.proofs.Basics.{no_such}
use Rattle.cells_spec.specs.Turn.{ending, turn}

-- P of the block that a task holds, Q of the one that it has taken
abbrev pub Names : (P Q : ℕ → Type 0) → Record → Type 0
Names P Q q = (not (is_idle q) && holds q ≡ true → P q.held) × (not (is_idle q) && has_taken q ≡ true → Q q.taken)

-- and K, unless its call has ended
module _ (P Q : ℕ → Type 0) (K : Type 0) where
  abbrev pub LeavesNamed : Next → Type 0
  LeavesNamed (Go q) = (holds q ≡ true → P q.held) × (has_taken q ≡ true → Q q.taken) × K
  LeavesNamed (Done f) = Prim.Unit

  which : (x : Bool) (a b : Next) → LeavesNamed a → LeavesNamed b → LeavesNamed (cond x a b)
  which true a b h g = h
  which false a b h g = g

  ruleset named = (which, no_such)

  -- of the value that an access answers, if it is a block; and K, but after a hardware CAS of the cell
  abbrev pub GivesNamed : Access → ℕ → Type 0
  GivesNamed (LoadCell k) v = P v × K
  GivesNamed (Load b f) v = K
  GivesNamed (Store b f x) v = K
  GivesNamed (DecideCas b x) v = K
  GivesNamed (InstallCas k b n) v = Prim.Unit
  GivesNamed Allocate v = Q v × K
  GivesNamed Nothing v = K

  -- LINE BY LINE, whatever a line tests: the access was o's, and r is o counted
  module _ (t : ℕ) (o r : Record) (v : ℕ) where
    pub line-named : (ℓ : Line) (a b : Bool) → of_kind ℓ a b ≡ true → (holds_before (number ℓ) ≡ true → P r.held) → (taken_before (number ℓ) ≡ true → Q r.taken) → GivesNamed (access_at ℓ t o) v → LeavesNamed (next_at ℓ t r v)
    line-named (l1 w) a b k h m f = search named
    line-named (l2 w) a b k h m f = search named
    line-named (l3 for13) a b k h m f = search named
    line-named (l3 for25) a b k h m f = search named
    line-named (l3 for28) a b k h m f = search named
    line-named l4 a b k h m f = search named
    line-named l5 a b k h m f = search named
    line-named l6 a b k h m f = search named
    line-named l7 a b k h m f = search named
    line-named l8 a b k h m f = search named
    line-named l10 a b k h m f = search named
    line-named l11 a b k h m f = search named
    line-named l12 a b k h m f = search named
    line-named l15 a b k h m f = search named
    line-named l16 a b k h m f = search named
    line-named l17 a b k h m f = search named
    line-named l18 a b k h m f = search named
    line-named l19 a b k h m f = search named
    line-named l20 a b k h m f = search named
    line-named l21 a b k h m f = search named
    line-named l22 a b k h m f = search named
    line-named l23 a b k h m f = search named
    line-named l24 a b k h m f = search named
    line-named l26 a b k h m f = search named
    line-named l27 a b k h m f = search named
    line-named l30 a b k h m f = search named
    line-named nowhere a b k h m f = search named

  -- the new record's names
  ended : (m : Touched) (o : Next) → LeavesNamed o → Names P Q (ending m o).record × (is_idle (ending m o).record ≡ false → K)
  ended m (Go q) h = ((λ e. h.0 (second (is_idle q) (holds q) e), λ e. h.1 (second (is_idle q) (has_taken q) e)), λ e. h.2)
    where
      second : (i x : Bool) → not i && x ≡ true → x ≡ true
      second true x e = absurd (false≢true e)
      second false x e = e
  ended m (Done x) h = ((λ e. absurd (false≢true e), λ e. absurd (false≢true e)), λ e. absurd (false≢true (sym e)))

module _ (P Q : ℕ → Type 0) (p : List ℕ) (t : ℕ) (r : Record) (c l : ℕ) (f : Option ℕ) (fit : line_fit r ≡ true) (line : r.line ≡ number (line_of r)) (held : holds r ≡ true → P r.held) (taken : has_taken r ≡ true → Q r.taken) where
  taken_at_lem : taken_before (number (line_of r)) ≡ true → Q r.taken
  taken_at_lem e = taken (rw line e)

  either : (S : ℕ → Type 0) (x : Bool) (a b : Touched) → S a.current → S b.current → S (cond x a b).current
  either S true a b h g = h
  either S false a b h g = g

  allocating : (S : ℕ → Type 0) (o : Option ℕ) → S c → S (performed p c l o Allocate).current
  allocating S none h = h
  allocating S (some b) h = h

  module _ (cell : P c) (free : number (line_of r) ≡ 4 → (b : ℕ) × (f ≡ some b) × Q b) where
    answers : (a : Access) → Keeps (line_of r) r a → GivesNamed P Q ((performed p c l f a).current ≡ c) a (performed p c l f a).value
    answers (LoadCell k) h = (cell, refl)
    answers (Load b i) h = refl
    answers (Store b i v) h = refl
    answers (DecideCas b v) h = either (λ d. d ≡ c) (eqb (word p b D) no_value) _ _ refl refl
    answers (InstallCas k b m) h = tt
    answers Allocate h = let y = free h in (rw y.1 y.2, allocating (λ d. d ≡ c) f refl)
    answers Nothing h = refl

    turns : let m = performed p c l f (access_of t r) in Names P Q (turn p t r c l f).record × (is_idle (turn p t r c l f).record ≡ false → m.current ≡ c)
    turns =
        let m = performed p c l f (access_of t r) in
        let q = counted r (attempt (access_of t r) m.value) in
        ended P Q (m.current ≡ c) m (next_of t r m.value)
        (line-named P Q (m.current ≡ c) t r q m.value (line_of r) (reads r) (swaps r) fit (λ e. held (rw line e)) taken_at_lem (answers (access_of t r) (keeps t r (line_of r))))

    pub names-kept : Names P Q (turn p t r c l f).record
    names-kept = turns.0

    -- only line 30 makes a cell name another block, and it ends the call
    pub current_stays : is_idle (turn p t r c l f).record ≡ false → (turn p t r c l f).current ≡ c
    current_stays e = turns.1 e

  -- the block that the cell then names
  module _ (cell : Q c) where
    cell-after : (a : Access) → Keeps (line_of r) r a → Q (performed p c l f a).current
    cell-after (LoadCell k) h = cell
    cell-after (Load b i) h = cell
    cell-after (Store b i v) h = cell
    cell-after (DecideCas b v) h = either Q (eqb (word p b D) no_value) _ _ cell cell
    cell-after (InstallCas k b m) h = either Q (eqb c b) _ _ (rw h.2 (taken_at_lem h.3)) cell
    cell-after Allocate h = allocating Q f cell
    cell-after Nothing h = cell

    pub current-kept : Q (turn p t r c l f).current
    current-kept = cell-after (access_of t r) (keeps t r (line_of r))

abbrev pub Below : (blocks : ℕ) → Record → Type 0
Below n = Names (λ b. b < n) (λ b. b < n)
