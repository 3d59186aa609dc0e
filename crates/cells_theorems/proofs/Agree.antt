-- When the pool's state and the figure's world agree: a relation says which word of which block of which cell of the figure is which of the
-- pool. Of a block that is being filled, only the words stored so far are linked: the others may differ, and nobody reads them. It may keep
-- links to blocks that nobody refers to any more; only lines 4 to 8 change it.
use mathlib.Core.Path.{◌≡◌, refl, fun_ext}
use mathlib.Core.Bool.{Bool, true, false, ◌&&◌, ◌||◌, not}
use mathlib.Core.Logic.{◌⊎◌, inl, inr}
use mathlib.Core.List.{List}
use Prim.Native.Nat.{ℕ, ◌≤◌, ◌<◌}
use native.Mathlib.Omega.{arith}
use lib.Dec.{eqb, leb, T, T_not, eqb→eq, leb→le, lit≤}
use borrow.Author.Tests.{eqb-true, ne_eqb, le-leb}
use lib.ListN.{get_or, set, length, length-set}
use lib.Seq.{get_or-set_same, get_or-set_other}
use Rattle.figure_lines.specs.declared.Record.{Record}
use Rattle.cells_spec.specs.declared.State.{State}
use Rattle.figure_lines.specs.declared.Field.{Field}
use Rattle.figure_lines.specs.declared.Field.TheVariants.{X, Y, C, D}
use Rattle.figure_lines.specs.Basics.{within}
use Rattle.figure_lines.specs.Record.{idle, record_at}
use Rattle.cells_spec.specs.Pool.{word}
use Rattle.cells_spec.specs.Questions.{tasks_ok, cells_ok, blocks_ok, taken_before}
use Rattle.cells_spec.specs.Begin.{with_record}
use Rattle.cells_spec.specs.Step.{current, with_counts}
use Rattle.cells_spec.proofs.Tests.{within_true}
use Rattle.cells_spec.proofs.Words.{fields}
use Rattle.history_spec.specs.Basics.{upd}
use Rattle.history_spec.proofs.Basics.{either, upd-at, upd_off, upd-cases}
use Rattle.history_spec.proofs.ListTests.{both}
use Rattle.figure_cell.specs.Memory.{Cell, word_of}
use Rattle.figure.specs.Figure.{World, with_task}
use Rattle.cells_theorems.specs.Terms.{named}

-- R k i b f: block i of cell k in the figure is block b of the pool, and its word f is stored
abbrev pub Links : Type 1
Links = ℕ → ℕ → ℕ → Field → Type 0

-- every word of it is
abbrev pub Whole : Links → ℕ → ℕ → ℕ → Type 0
Whole R k i b = (f : Field) → R k i b f

-- by the number of its line, a task has done its first load
abbrev pub holds_at : ℕ → Bool
holds_at n = not (eqb n 0) && not (eqb n 10 || eqb n 15)

-- which words of its new block a task has stored before line n: 4 stores X, 5 Y, 6 C, 7 D, 8 V
abbrev pub stored_before : ℕ → Field → Bool
stored_before n X = taken_before n
stored_before n Y = within n 6 8 || eqb n 30
stored_before n C = within n 7 8 || eqb n 30
stored_before n D = eqb n 8 || eqb n 30
stored_before n Field.V = eqb n 30

-- the pool's record r and the figure's record q
pub record Task (R : Links) (r q : Record) : Type 0 where
  pub same : r ≡ named q r.held r.taken
  pub held : T (holds_at q.line) → Whole R q.cell q.held r.held
  pub taken : (f : Field) → T (stored_before q.line f) → R q.cell q.taken r.taken f

-- who has stored a word has taken a block, and who has taken one holds another
pub took : (n : ℕ) (f : Field) → T (stored_before n f) → T (taken_before n)
took n = fields (λ f. T (stored_before n f) → T (taken_before n)) (λ z. z) (wider 6 (lit≤ tt)) (wider 7 (lit≤ tt)) last_line late
  where
    or_map : (a b c : Bool) → (T a → T c) → T (a || b) → T (c || b)
    or_map true b c f h = or_left c b (f tt)
      where
        or_left : (c b : Bool) → T c → T (c || b)
        or_left true b h = tt
        or_left false b h = absurd h
    or_map false true c f h = or_right c
      where
        or_right : (c : Bool) → T (c || true)
        or_right true = tt
        or_right false = tt
    or_map false false c f h = absurd h

    inside : (a : ℕ) → 5 ≤ a → T (within n a 8) → T (within n 5 8)
    inside a l h = let q = both (leb a n) (leb n 8) h in let z : a ≤ n = leb→le a n q.0 in rw (le-leb 5 n (omega arith), le-leb n 8 (leb→le n 8 q.1)) tt

    wider : (a : ℕ) → 5 ≤ a → T (within n a 8 || eqb n 30) → T (taken_before n)
    wider a l = or_map (within n a 8) (eqb n 30) (within n 5 8) (inside a l)

    late : T (eqb n 8 || eqb n 30) → T (taken_before n)
    late = or_map (eqb n 8) (eqb n 30) (within n 5 8) (λ h. rw (eqb→eq n 8 h) tt)

    last_line : T (eqb n 30) → T (taken_before n)
    last_line h = rw (eqb→eq n 30 h) tt

pub took_holds : (n : ℕ) → T (taken_before n) → T (holds_at n)
took_holds n = go (within n 5 8) (eqb n 30) refl refl
  where
    go : (a b : Bool) → within n 5 8 ≡ a → eqb n 30 ≡ b → T (a || b) → T (holds_at n)
    go true b e z h = let q = within_true n 5 8 e in rw (ne_eqb n 0 (λ x. omega (arith, q.0)), ne_eqb n 10 (λ x. omega (arith, q.1)), ne_eqb n 15 (λ x. omega (arith, q.1))) tt
    go false true e z h = rw (eqb-true n 30 z) tt
    go false false e z h = absurd h

-- a record that refers to no block
pub no_blocks : {R : Links} (r : Record) → T (not (holds_at r.line)) → Task R r r
no_blocks r d = record { same = refl; held = λ e. absurd (T_not (holds_at r.line) d e); taken = λ f e. absurd (T_not (holds_at r.line) d (took_holds r.line (took r.line f e))) }

-- the numbers that both have: n tasks and v cells; and a pool of as many words as its blocks have
pub record Sizes (n v tasks cells figure-tasks figure-cells blocks words : ℕ) : Type 0 where
  pub same-tasks : tasks ≡ n
  pub same-cells : cells ≡ v
  pub tasks_too : figure-tasks ≡ n
  pub cells_too : figure-cells ≡ v
  pub tasks_ok_lem : tasks_ok n ≡ true
  pub cells_ok_lem : cells_ok v ≡ true
  pub blocks_ok_lem : blocks_ok n v blocks words ≡ true

-- linked words are the same, and a block is linked to at most one
pub record Blocks (R : Links) (blocks : ℕ) (p : List ℕ) (cell : ℕ → Cell) : Type 0 where
  pub numbers : (k i b : ℕ) (f : Field) → R k i b f → i < (cell k).next
  pub below : (k i b : ℕ) (f : Field) → R k i b f → b < blocks
  pub words : (k i b : ℕ) (f : Field) → R k i b f → word p b f ≡ word_of (cell k) i f
  pub same : (k i b k' i' : ℕ) (f f' : Field) → R k i b f → R k' i' b f' → (k ≡ k') × (i ≡ i')
  pub back : (k i b b'' : ℕ) (f f' : Field) → R k i b f → R k i b'' f' → b ≡ b''

pub record Agree (n v : ℕ) (R : Links) (s : State) (p : List ℕ) (w : World) : Type 0 where
  pub sizes : Sizes n v s.tasks s.cells w.tasks w.cells s.blocks (length p)
  pub last : s.last < s.blocks
  pub places : v ≤ length s.current
  pub rows : n ≤ length s.records
  pub blocks : Blocks R s.blocks p w.cell
  pub current : (k : ℕ) → k < v → Whole R k (w.cell k).current (current s k)
  pub records : (t : ℕ) → t < n → Task R (record_at s.records t) (w.records t)

-- A CHANGED ELEMENT, in the pool's list and in the figure's function

pub set_cases : {A B : Type 0} (Q : ℕ → A → B → Type 0) (l : List A) (f : ℕ → B) (n : ℕ) (a d : A) (b : B) → n < length l → Q n a b
    → (m : ℕ) → Q m (get_or l m d) (f m) → Q m (get_or (set l n a) m d) (upd f n b m)
set_cases Q l f n a d b h here m there = go (either m n)
  where
    go : (m ≡ n) ⊎ (m ≡ n → ⊥) → Q m (get_or (set l n a) m d) (upd f n b m)
    go (inl e) = rw (upd-at f n b m e, e, get_or-set_same l n a d h) here
    go (inr e) = rw (upd_off f n b m e, get_or-set_other l n m a d e) there

-- what a change of one cell leaves alone
pub keeps : {X : Type 0} (f : Cell → X) (g : ℕ → Cell) (k : ℕ) (c : Cell) → f c ≡ f (g k) → (j : ℕ) → f (upd g k c j) ≡ f (g j)
keeps f g k c e j = upd-cases (λ x. f x ≡ f (g j)) g k c j (λ q. rw q e) (λ _. refl)

pub upd_own : (g : ℕ → Cell) (k : ℕ) → upd g k (g k) ≡ g
upd_own g k = fun_ext (keeps (λ c. c) g k (g k) refl)

-- A CHANGED RECORD

pub records_change : {n v : ℕ} {R : Links} {s : State} {p : List ℕ} {w : World} → Agree n v R s p w
    → (t : ℕ) (r q : Record) → t < n → Task R r q → Agree n v R (with_record s t r) p (with_task w t q)
records_change {n} {v} {R} {s} {p} {w} a t r q h x = record {
  sizes = a.sizes;
  last = a.last;
  places = a.places;
  rows = rw (length-set s.records t r) a.rows;
  blocks = a.blocks;
  current = a.current;
  records = λ j l. set_cases (λ m. Task R) s.records w.records t r idle q (omega (arith, a.rows)) x j (a.records j l);
}

-- other counts: the agreement does not look at them
pub counts_change : {n v : ℕ} {R : Links} {s : State} {p : List ℕ} {w : World} → Agree n v R s p w → (counts : List ℕ) → Agree n v R (with_counts s counts) p w
counts_change a counts = record { sizes = a.sizes; last = a.last; places = a.places; rows = a.rows; blocks = a.blocks; current = a.current; records = a.records }
