-- What a step notes, and for whom it leaves the notes as they are, by the line of the task that takes it.
use mathlib.Core.Path.{◌≡◌, refl, sym, ap, subst, ◌∙◌}
use mathlib.Core.Logic.{◌≢◌}
use mathlib.Core.Bool.{Bool, true, false, not, ◌&&◌, ◌||◌, cond}
use Prim.Native.Nat.{ℕ}
use lib.Dec.{eqb, T, eqb→eq, eqb_refl}
use borrow.Author.Tests.{eq-eqb}
use Rattle.figure_lines.specs.declared.Record.{Record}
use Rattle.figure_lines.specs.Basics.{within}
use Rattle.figure_lines.specs.Record.{no_value}
use Rattle.figure_lines.specs.Lines.{Line, line_of}
use Rattle.cells_spec.specs.Questions.{line_fit}
use Rattle.cells_spec.proofs.Numbers.{number, at-number}
use Rattle.figure_cell.specs.Memory.{Cell}
use Rattle.figure.specs.Figure.{World}
use Rattle.figure_moments.specs.Moments.{Notes, holds_block, noted, sees}
use Rattle.history_spec.proofs.ListTests.{every, both}
use Rattle.figure_cell.proofs.LineLaws.{lines, wanted_by, wanted_is}
use Rattle.figure_cell.proofs.Classes.{is, figure_line, holding, stored, viewing, lies_in, are_apart}

pub cond_true : {A : Type 0} (b : Bool) (x y : A) → T b → cond b x y ≡ x
cond_true true x y h = refl
cond_true {A = A} false x y h = elim h [ ]

pub cond_false : {A : Type 0} (b : Bool) (x y : A) → (T b → ⊥) → cond b x y ≡ y
cond_false true x y h = absurd (h tt)
cond_false false x y h = refl

pub with : (a b : Bool) → T a → T b → T (a && b)
with true b x y = y
with false b x y = elim x [ ]

pub equal : (m n : ℕ) → m ≡ n → T (eqb m n)
equal m n e = rw (eq-eqb m n e) tt

-- A RECORD AND ITS LINE

module _ (r : Record) (fit : line_fit r ≡ true) where
  pub holds-block : T (holding (line_of r)) → T (holds_block r)
  holds-block h = subst (λ n. T (not (eqb n 0) && not (eqb n 10 || eqb n 15))) (sym (at-number r fit)) (go (is 0 (line_of r)) _ h)
    where
      go : (a b : Bool) → T (not (a || b)) → T (not a && not b)
      go false b h = h
      go true b h = elim h [ ]

  pub figure_line_is : cond (within r.line 1 3) r.wanted r.line ≡ figure_line (line_of r)
  figure_line_is = ap (λ n. cond (within n 1 3) r.wanted n) (at-number r fit) ∙ go (within (number (line_of r)) 1 3) (λ b. wanted_is r refl (lies_in (λ ℓ. within (number ℓ) 1 3) (λ ℓ. not (eqb (wanted_by ℓ) 0)) tt (line_of r) b))
    where
      go : (b : Bool) → (T b → r.wanted ≡ wanted_by (line_of r)) → cond b r.wanted (number (line_of r)) ≡ cond b (wanted_by (line_of r)) (number (line_of r))
      go true f = f tt
      go false f = refl

-- A STEP OF TASK t

module _ (w : World) (o : Notes) (t : ℕ) (fit : line_fit (w.records t) ≡ true) where
  abbrev q : Record
  q = w.records t

  abbrev m : Cell
  m = w.cell q.cell

  abbrev ℓ : Line
  ℓ = line_of q

  abbrev o' : Notes
  o' = noted o t (sees w t)

  -- what is noted for t alone, at the lines that pass the test f
  module _ {A : Type 0} (f : ℕ → Bool) (new : A) where
    -- a task at a line of another class is not t
    keeps_own : (c : Line → Bool) → T (every (λ ℓ. not (f (number ℓ) && c ℓ)) lines) → (u : ℕ) (old : A) → T (c (line_of (w.records u))) → cond (f q.line && eqb u t) new old ≡ old
    keeps_own c h u old b = cond_false (f q.line && eqb u t) new old (λ z. let y = both (f q.line) (eqb u t) z in
        are_apart (λ ℓ. f (number ℓ)) c h ℓ (subst (λ n. T (f n)) (at-number q fit) y.0) (subst (λ n. T (c (line_of (w.records n)))) (eqb→eq u t y.1) b))

    notes_own : (old : A) → T (f (number ℓ)) → cond (f q.line && eqb t t) new old ≡ new
    notes_own old b = cond_true (f q.line && eqb t t) new old (with (f q.line) (eqb t t) (subst (λ n. T (f n)) (sym (at-number q fit)) b) (eqb_refl t))

  -- who holds t's block
  abbrev pub Holder : ℕ → Type 0
  Holder u = (line_fit (w.records u) ≡ true) × T (holding (line_of (w.records u))) × ((w.records u).cell ≡ q.cell) × ((w.records u).held ≡ q.held)

  -- what is noted for all of them, at line n if the block passes the test f
  module _ (n : ℕ) (f : Cell → ℕ → Bool) (u old : ℕ) where
    abbrev r : Record
    r = w.records u

    abbrev met : Bool
    met = (eqb q.line n && (holds_block q && f m q.held)) && (sees w t).holders u

    keeps_all : (T (f (w.cell r.cell) r.held) → ⊥) → cond met o.now old ≡ old
    keeps_all h = cond_false met o.now old (λ z. let y = parts (eqb q.line n) (holds_block q) (f m q.held) (holds_block r) (eqb r.cell q.cell) (eqb r.held q.held) z in
        h (rw (eqb→eq r.cell q.cell y.1, eqb→eq r.held q.held y.2) y.0))
      where
        parts : (a h b i c d : Bool) → T ((a && (h && b)) && (h && (i && (c && d)))) → T b × T c × T d
        parts true true true true true true z = (tt, tt, tt)
        parts false _ b i c d z = elim z [ ]
        parts true false b i c d z = elim z [ ]
        parts true true false i c d z = elim z [ ]
        parts true true true false c d z = elim z [ ]
        parts true true true true false d z = elim z [ ]
        parts true true true true true false z = elim z [ ]

    notes_all : T (every (λ ℓ. not (is n ℓ) || holding ℓ) lines) → T (is n ℓ) → T (f m q.held) → Holder u → cond met o.now old ≡ o.now
    notes_all h l b (fit', h', e, e') = cond_true met o.now old (whole (eqb q.line n) (holds_block q) (f m q.held) (holds_block r) (eqb r.cell q.cell) (eqb r.held q.held)
        (subst (λ i. T (eqb i n)) (sym (at-number q fit)) l) (holds-block q fit (lies_in (is n) holding h ℓ l)) b (holds-block r fit' h') (equal _ _ e) (equal _ _ e'))
      where
        whole : (a h b i c d : Bool) → T a → T h → T b → T i → T c → T d → T ((a && (h && b)) && (h && (i && (c && d))))
        whole true true true true true true x h y z u v = tt
        whole false _ _ i c d x h y z u v = elim x [ ]
        whole true false _ i c d x h y z u v = elim h [ ]
        whole true true false i c d x h y z u v = elim y [ ]
        whole true true true false c d x h y z u v = elim z [ ]
        whole true true true true false d x h y z u v = elim u [ ]
        whole true true true true true false x h y z u v = elim v [ ]

  -- FIELD BY FIELD: a block becomes inactive once, is decided once and replaced once

  pub keeps_loaded : (u : ℕ) → T (viewing (line_of (w.records u))) → o'.loaded u ≡ o.loaded u
  keeps_loaded u = keeps_own (λ n. eqb n 11 || eqb n 20) o.now viewing tt u (o.loaded u)

  pub notes_loaded : T (is 11 ℓ || is 20 ℓ) → o'.loaded t ≡ o.now
  notes_loaded = notes_own (λ n. eqb n 11 || eqb n 20) o.now (o.loaded t)

  abbrev pub StoresKept : ℕ → Type 0
  StoresKept u = (o'.stored u ≡ o.stored u) × (o'.stored_active u ≡ o.stored_active u)

  -- who is not at line 23
  pub keeps_elsewhere : (u : ℕ) → T (not (is 23 (line_of (w.records u)))) → StoresKept u
  keeps_elsewhere u b = (keeps_own (λ n. eqb n 23) o.now (λ ℓ. not (is 23 ℓ)) tt u (o.stored u) b, keeps_own (λ n. eqb n 23) (sees w t).active (λ ℓ. not (is 23 ℓ)) tt u (o.stored_active u) b)

  pub keeps_stored : (u : ℕ) → T (stored (line_of (w.records u))) → StoresKept u
  keeps_stored u b = keeps_elsewhere u (lies_in stored (λ ℓ. not (is 23 ℓ)) tt (line_of (w.records u)) b)

  -- nor is another task's store noted
  pub keeps_others : (u : ℕ) → u ≢ t → StoresKept u
  keeps_others u n = (cond_false (eqb q.line 23 && eqb u t) o.now (o.stored u) other, cond_false (eqb q.line 23 && eqb u t) (sees w t).active (o.stored_active u) other)
    where
      other : T (eqb q.line 23 && eqb u t) → ⊥
      other z = n (eqb→eq u t (both (eqb q.line 23) (eqb u t) z).1)

  pub notes_stored : T (is 23 ℓ) → (o'.stored t ≡ o.now) × (o'.stored_active t ≡ eqb (m.c q.held) 0)
  notes_stored b = rw (at-number q fit ∙ eqb→eq (number ℓ) 23 b, eq-eqb t t refl) (refl, refl)

  pub keeps_inactive : (u : ℕ) → (w.cell (w.records u).cell).c (w.records u).held ≢ 0 → o'.inactive u ≡ o.inactive u
  keeps_inactive u h = keeps_all 27 (λ c b. eqb (c.c b) 0) u (o.inactive u) (λ z. h (eqb→eq _ _ z))

  pub notes_inactive : (u : ℕ) → Holder u → T (is 27 ℓ) → m.c q.held ≡ 0 → o'.inactive u ≡ o.now
  notes_inactive u i l e = notes_all 27 (λ c b. eqb (c.c b) 0) u (o.inactive u) tt l (equal _ _ e) i

  pub keeps_replaced : (u : ℕ) → (w.cell (w.records u).cell).current ≢ (w.records u).held → o'.replaced u ≡ o.replaced u
  keeps_replaced u h = keeps_all 30 (λ c b. eqb c.current b) u (o.replaced u) (λ z. h (eqb→eq _ _ z))

  pub notes_replaced : (u : ℕ) → Holder u → T (is 30 ℓ) → m.current ≡ q.held → o'.replaced u ≡ o.now
  notes_replaced u i l e = notes_all 30 (λ c b. eqb c.current b) u (o.replaced u) tt l (equal _ _ e) i

  -- at the first load, and at the decision
  decided_or : (u : ℕ) → o'.decided u ≡ cond ((eqb q.line 10 || eqb q.line 15) && eqb u t) o.now (cond (met 2 (λ c b. eqb (c.d b) no_value) u (o.decided u)) o.now (o.decided u))
  decided_or u = go ((eqb q.line 10 || eqb q.line 15) && eqb u t) (met 2 (λ c b. eqb (c.d b) no_value) u (o.decided u))
    where
      go : (a b : Bool) → cond (a || b) o.now (o.decided u) ≡ cond a o.now (cond b o.now (o.decided u))
      go true b = refl
      go false b = refl

  pub keeps_decided : (u : ℕ) → T (holding (line_of (w.records u))) → (w.cell (w.records u).cell).d (w.records u).held ≢ no_value → o'.decided u ≡ o.decided u
  keeps_decided u b h = decided_or u ∙ keeps_own (λ n. eqb n 10 || eqb n 15) o.now holding tt u _ b ∙ keeps_all 2 (λ c b. eqb (c.d b) no_value) u (o.decided u) (λ z. h (eqb→eq _ _ z))

  pub notes_held : T (is 10 ℓ || is 15 ℓ) → o'.decided t ≡ o.now
  notes_held b = decided_or t ∙ notes_own (λ n. eqb n 10 || eqb n 15) o.now _ b

  pub notes_decided : (u : ℕ) → Holder u → T (is 2 ℓ) → m.d q.held ≡ no_value → o'.decided u ≡ o.now
  notes_decided u i l e = decided_or u ∙ keeps_own (λ n. eqb n 10 || eqb n 15) o.now holding tt u _ i.1 ∙ notes_all 2 (λ c b. eqb (c.d b) no_value) u (o.decided u) tt l (equal _ _ e) i
