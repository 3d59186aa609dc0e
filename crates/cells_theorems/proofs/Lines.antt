-- The lines: with linked blocks, pool and figure make linked accesses, and what follows is alike.
use mathlib.Core.Path.{◌≡◌, refl, sym, subst}
use mathlib.Core.Bool.{Bool, true, false, not, cond, false≢true}
use Prim.Native.Nat.{ℕ}
use lib.Dec.{T, T_not}
use Rattle.figure_lines.specs.declared.Record.{Record}
use Rattle.cells_spec.specs.declared.State.{State}
use Rattle.figure_lines.specs.Answers.{Result, Next, Go, Done}
use Rattle.figure_lines.specs.Lines.{Line, for13, for25, for28, l1, l2, l3, l4, l5, l6, l7, l8, l10, l11, l12, l15, l16, l17, l18, l19, l20, l21, l22, l23, l24, l26, l27, l30, nowhere, at, goto, decide, access_at, next_at}
use Rattle.figure_lines.specs.Lines
use Rattle.cells_spec.specs.Questions.{of_kind, taken_before}
use Rattle.figure_lines.specs.declared.Field.{Field}
use Rattle.figure_lines.specs.declared.Access.TheVariants.{Store}
use Rattle.figure_lines.specs.declared.Field.TheVariants.{X, Y, C, D}
use Rattle.cells_spec.proofs.Words.{fields}
use Rattle.cells_spec.specs.Blocks.{unused}
use Rattle.cells_spec.proofs.Numbers.{number}
use Rattle.cells_spec.proofs.Unused.{Found}
use Rattle.cells_theorems.specs.Terms.{named}
use Rattle.cells_theorems.proofs.Agree.{Links, Whole, Task, holds_at, stored_before, took}
use Rattle.cells_theorems.proofs.Access.{Linked, load_cell, load, store, fill, decide_cas, install_cas, allocate, Answers}

-- what a task at a line has: the links that its access uses
pub record Has (R : Links) (s : State) (q : Record) (h k : ℕ) (l : Line) : Type 0 where
  pub held : T (holds_at (number l)) → Whole R q.cell q.held h
  pub taken : (f : Field) → T (stored_before (number l) f) → R q.cell q.taken k f
  pub found : number l ≡ 4 → Found s (unused s)

module _ (R : Links) (s : State) (q : Record) (h k t : ℕ) (read swap : Bool) where
  -- a block whose X is linked is being filled; at line 30 it is filled
  fills : {i b : ℕ} {f : Field} {x : ℕ} → R q.cell i b X → Linked R s q.cell (Store b f x) (Store i f x)
  fills = fill

  filled : ((f : Field) → T (stored_before 30 f) → R q.cell q.taken k f) → Whole R q.cell q.taken k
  filled z = fields (λ f. R q.cell q.taken k f) (z X tt) (z Y tt) (z C tt) (z Field.V tt) (z D tt)

  ruleset links = (load_cell, load, store, fills, decide_cas, allocate)

  -- line 30 alone asks for a whole block that is filled
  ruleset installs = (install_cas, filled)

  -- whatever a line accesses
  access_linked : (l : Line) → of_kind l read swap ≡ true → (T (holds_at (number l)) → Whole R q.cell q.held h) → ((f : Field) → T (stored_before (number l) f) → R q.cell q.taken k f) → (number l ≡ 4 → Found s (unused s)) → Linked R s q.cell (access_at l t (named q h k)) (access_at l t q)
  access_linked (l1 w) e held taken found = search links
  access_linked (l2 w) e held taken found = search links
  access_linked (l3 w) e held taken found = search links
  access_linked l4 e held taken found = search links
  access_linked l5 e held taken found = search links
  access_linked l6 e held taken found = search links
  access_linked l7 e held taken found = search links
  access_linked l8 e held taken found = search links
  access_linked l10 e held taken found = search links
  access_linked l11 e held taken found = search links
  access_linked l12 e held taken found = search links
  access_linked l15 e held taken found = search links
  access_linked l16 e held taken found = search links
  access_linked l17 e held taken found = search links
  access_linked l18 e held taken found = search links
  access_linked l19 e held taken found = search links
  access_linked l20 e held taken found = search links
  access_linked l21 e held taken found = search links
  access_linked l22 e held taken found = search links
  access_linked l23 e held taken found = search links
  access_linked l24 e held taken found = search links
  access_linked l26 e held taken found = search links
  access_linked l27 e held taken found = search links
  access_linked l30 e held taken found = search installs
  access_linked nowhere e held taken found = absurd (false≢true e)

  pub linked : (l : Line) → of_kind l read swap ≡ true → Has R s q h k l → Linked R s q.cell (access_at l t (named q h k)) (access_at l t q)
  linked l e x = access_linked l e x.held x.taken x.found

-- what follows in the pool and in the figure
pub data Nexts (R : Links) : Next → Next → Type 0 where
  going : {r q : Record} → Task R r q → Nexts R (Go r) (Go q)
  ended : {f : Result} → Nexts R (Done f) (Done f)

which : {R : Links} (c : Bool) {x y x' y' : Next} → Nexts R x x' → Nexts R y y' → Nexts R (cond c x y) (cond c x' y')
which true p q = p
which false p q = q

module _ (R : Links) (q : Record) (h k : ℕ) where
  -- to line n, wherever the blocks are linked
  to : (n w b i x : ℕ) → T (not (taken_before n)) → Whole R q.cell i b → Nexts R (Go (at (named q h k) n w b k x)) (Go (at q n w i q.taken x))
  to n w b i x d r = going (record { same = refl; held = λ _. r; taken = λ f e. absurd (T_not (taken_before n) d (took n f e)) })

  on : (n : ℕ) → T (not (taken_before n)) → Whole R q.cell q.held h → Nexts R (goto (named q h k) n) (goto q n)
  on n d r = to n q.wanted h q.held q.loaded d r

  deciding : (w : ℕ) → Whole R q.cell q.held h → Nexts R (decide (named q h k) w) (decide q w)
  deciding w r = to 1 w h q.held q.loaded tt r

  loading : (n x : ℕ) → T (not (taken_before n)) → Whole R q.cell q.held h → Nexts R (Lines.load (named q h k) n x) (Lines.load q n x)
  loading n x d r = to n q.wanted h q.held x d r

  -- on to line n of the fill, where these words are stored
  filling : (n : ℕ) → Whole R q.cell q.held h → ((f : Field) → T (stored_before n f) → R q.cell q.taken k f) → Nexts R (goto (named q h k) n) (goto q n)
  filling n r s = going (record { same = refl; held = λ _. r; taken = s })

  -- memory answers the pool b and the figure i, to the access of a record o at the same line
  module _ (o : Record) (same : o.taken ≡ q.taken) (t b i : ℕ) (read swap : Bool) where
    -- the word that is stored
    linked_now : (f : Field) → ((d : ℕ) → R q.cell o.taken d X → R q.cell o.taken d f) → R q.cell q.taken k X → R q.cell q.taken k f
    linked_now f g x = subst (λ c. R q.cell c k f) same (g k (subst (λ c. R q.cell c k X) (sym same) x))

    ruleset follows = (which, on, deciding, loading, ended)

    -- whatever a line tests
    pub nexts : (l : Line) → of_kind l read swap ≡ true → (T (holds_at (number l)) → Whole R q.cell q.held h) → ((f : Field) → T (stored_before (number l) f) → R q.cell q.taken k f) → Answers R q.cell (access_at l t o) b i
        → Nexts R (next_at l t (named q h k) b) (next_at l t q i)
    nexts (l1 w) f r z e = rw e (search follows)
    nexts (l2 w) f r z e = search follows
    nexts (l3 for13) f r z e = rw e (search follows)
    nexts (l3 for25) f r z e = rw e (search follows)
    nexts (l3 for28) f r z e = rw e (search follows)
    nexts l4 f r z e = going (record { same = refl; held = λ _. r tt; taken = fields (λ f. T (stored_before 5 f) → R q.cell i b f) (λ _. e) (λ x. absurd x) (λ x. absurd x) (λ x. absurd x) (λ x. absurd x) })
    nexts l5 f r z e = filling 6 (r tt) (fields (λ f. T (stored_before 6 f) → R q.cell q.taken k f) (λ _. z X tt) (λ _. linked_now Y e.1 (z X tt)) (λ x. absurd x) (λ x. absurd x) (λ x. absurd x))
    nexts l6 f r z e = filling 7 (r tt) (fields (λ f. T (stored_before 7 f) → R q.cell q.taken k f) (λ _. z X tt) (λ _. z Y tt) (λ _. linked_now C e.1 (z X tt)) (λ x. absurd x) (λ x. absurd x))
    nexts l7 f r z e = filling 8 (r tt) (fields (λ f. T (stored_before 8 f) → R q.cell q.taken k f) (λ _. z X tt) (λ _. z Y tt) (λ _. z C tt) (λ x. absurd x) (λ _. linked_now D e.1 (z X tt)))
    nexts l8 f r z e = filling 30 (r tt) (fields (λ f. T (stored_before 30 f) → R q.cell q.taken k f) (λ _. z X tt) (λ _. z Y tt) (λ _. z C tt) (λ _. linked_now Field.V e.1 (z X tt)) (λ _. z D tt))
    nexts l10 f r z e = to 11 q.wanted b i q.loaded tt e
    nexts l11 f r z e = rw e (search follows)
    nexts l12 f r z e = rw e (search follows)
    nexts l15 f r z e = to 16 q.wanted b i q.loaded tt e
    nexts l16 f r z e = search follows
    nexts l17 f r z e = rw e (search follows)
    nexts l18 f r z e = search follows
    nexts l19 f r z e = rw e (search follows)
    nexts l20 f r z e = rw e (search follows)
    nexts l21 f r z e = rw e (search follows)
    nexts l22 f r z e = search follows
    nexts l23 f r z e = search follows
    nexts l24 f r z e = rw e (search follows)
    nexts l26 f r z e = search follows
    nexts l27 f r z e = search follows
    nexts l30 f r z e = rw e (search follows)
    nexts nowhere f r z e = absurd (false≢true f)
