-- Equality of lines is decided, and which line may follow which is computed from the thirteen paths; the figure's lines keep to it.
use mathlib.Core.Path.{◌≡◌, refl, sym, ap, ◌∙◌, subst}
use mathlib.Core.Logic.{inl, inr}
use mathlib.Core.Bool.{Bool, true, false, ◌&&◌, ◌||◌, not, cond, false≢true}
use mathlib.Core.List.{List, [], ◌∷◌, ◌++◌, map}
use Prim.Native.Nat.{ℕ}
use lib.Dec.{eqb, T, eqb→eq}
use lib.ListN.{get_or}
use borrow.Author.Tests.{eq-eqb, ne_eqb}
use Rattle.figure_lines.specs.declared.Record.{Record}
use Rattle.figure_lines.specs.declared.Access.{Access}
use Rattle.figure_lines.specs.Answers.{Next, Go}
use Rattle.figure_lines.specs.Record.{idle, op_of}
use Rattle.figure_lines.specs.Lines.{Line, Wanted, for13, for25, for28, l1, l2, l3, l4, l5, l6, l7, l8, l10, l11, l12, l15, l16, l17, l18, l19, l20, l21, l22, l23, l24, l26, l27, l30, nowhere, line_at, line_of, access_at, loads, stores, hardware, at, answer, read_answer, next_at}
use Rattle.cells_spec.specs.Questions.{of_kind, reads, swaps}
use Rattle.history_spec.specs.Basics.{◌∈◌}
use Rattle.history_spec.proofs.ListTests.{every, has, both, every_in, every_at, by_test, has_in}
use Rattle.history_spec.specs.History.{Op, read, swap, Response, Value, Yes, No}
use Rattle.figure_cell.specs.Paths.{read_paths, paths, by25, paths_of}
use Rattle.figure_cell.proofs.AsBegun.{swap-op, Reads, read-op}

-- THE LIST OF ALL LINES

abbrev pub lines : List Line
lines =
    nowhere ∷ l1 for13 ∷ l1 for25 ∷ l1 for28 ∷ l2 for13 ∷ l2 for25 ∷ l2 for28 ∷ l3 for13 ∷ l3 for25 ∷ l3 for28 ∷ l10 ∷ l11 ∷ l12 ∷ l15 ∷
    l16 ∷ l17 ∷ l18 ∷ l19 ∷ l20 ∷ l21 ∷ l22 ∷ l23 ∷ l24 ∷ l26 ∷ l27 ∷ l30 ∷ l4 ∷ l5 ∷ l6 ∷ l7 ∷ l8 ∷ []

-- a line's place there
abbrev place : (l : Line) → (n : ℕ) × (get_or lines n nowhere ≡ l)
place nowhere = (0, refl)
place (l1 for13) = (1, refl)
place (l1 for25) = (2, refl)
place (l1 for28) = (3, refl)
place (l2 for13) = (4, refl)
place (l2 for25) = (5, refl)
place (l2 for28) = (6, refl)
place (l3 for13) = (7, refl)
place (l3 for25) = (8, refl)
place (l3 for28) = (9, refl)
place l10 = (10, refl)
place l11 = (11, refl)
place l12 = (12, refl)
place l15 = (13, refl)
place l16 = (14, refl)
place l17 = (15, refl)
place l18 = (16, refl)
place l19 = (17, refl)
place l20 = (18, refl)
place l21 = (19, refl)
place l22 = (20, refl)
place l23 = (21, refl)
place l24 = (22, refl)
place l26 = (23, refl)
place l27 = (24, refl)
place l30 = (25, refl)
place l4 = (26, refl)
place l5 = (27, refl)
place l6 = (28, refl)
place l7 = (29, refl)
place l8 = (30, refl)

-- a test that every line passes, found by computing
pub every_line : (f : Line → Bool) → T (every f lines) → (l : Line) → T (f l)
every_line f h l = subst (λ (k : Line). T (f k)) (place l).1 (every_at f lines h nowhere (both (f nowhere) _ h).0 (place l).0)

abbrev pub same : Line → Line → Bool
same a b = eqb (place a).0 (place b).0

pub same-is : (a b : Line) → T (same a b) → a ≡ b
same-is a b h = sym (place a).1 ∙ ap (λ n. get_or lines n nowhere) (eqb→eq (place a).0 (place b).0 h) ∙ (place b).1

abbrev pub same_lines : List Line → List Line → Bool
same_lines [] [] = true
same_lines [] (b ∷ y) = false
same_lines (a ∷ x) [] = false
same_lines (a ∷ x) (b ∷ y) = same a b && same_lines x y

same_lines_lem : (x y : List Line) → T (same_lines x y) → x ≡ y
same_lines_lem [] [] h = refl
same_lines_lem [] (b ∷ y) h = absurd h
same_lines_lem (a ∷ x) [] h = absurd h
same_lines_lem (a ∷ x) (b ∷ y) h = let k = both (same a b) _ h in rw (same-is a b k.0, same_lines_lem x y k.1)

among : (ys : List (List Line)) (x : List Line) → T (has same_lines ys x) → x ∈ ys
among = has_in same_lines same_lines_lem

-- WHICH LINES MAY FOLLOW

-- what stands before the line in a path that has it
abbrev before_in : Line → List Line → List (List Line)
before_in l [] = []
before_in l (a ∷ x) = cond (same l a) ([] ∷ []) (map (λ d. a ∷ d) (before_in l x))

abbrev before_all : Line → List (List Line) → List (List Line)
before_all l [] = []
before_all l (x ∷ xs) = before_in l x ++ before_all l xs

abbrev pub before : Line → List (List Line)
before l = before_all l paths

-- what stands before the line, with the line, is always one of these
abbrev pub extends : Line → List (List Line) → Bool
extends l ys = every (λ d. has same_lines ys (d ++ (l ∷ []))) (before l)

pub extends_in : (l : Line) (ys : List (List Line)) → T (extends l ys) → (d : List Line) → d ∈ before l → (d ++ (l ∷ [])) ∈ ys
extends_in l ys h d m = among ys _ (every_in (λ d. has same_lines ys (d ++ (l ∷ []))) (before l) h d m)

-- line k may follow line l and is of the same kind; only the first line changes the block held, from b to h
abbrev pub MayFollow : Line → Line → (b h : ℕ) → Type 0
MayFollow l k b h = T (extends l (before k)) × ((read swap : Bool) → of_kind l read swap ≡ of_kind k read swap) × (T (not (same l l10 || same l l15)) → h ≡ b)

-- the paths of an operation with this answer; a swap's with the ninth, which takes an invariant to rule out
abbrev pub ways_of : Op → Response → List (List Line)
ways_of (read k) a = paths_of (read k) a
ways_of (swap k e n) a = by25 ∷ paths_of (swap k e n) a

-- they are among the thirteen, a read's among its two
pub on_paths : (op : Op) (a : Response) (x : List Line) → x ∈ ways_of op a → x ∈ paths
on_paths op a x m = among paths x (every_in (has same_lines paths) (ways_of op a) (all op a) x m)
  where
    Passes : List (List Line) → Type 0
    Passes ps = T (every (has same_lines paths) ps)

    all : (op : Op) (a : Response) → T (every (has same_lines paths) (ways_of op a))
    all (read k) (Value v) = tt
    all (read k) Yes = tt
    all (read k) No = tt
    all (swap k e n) (Value v) = tt
    all (swap k e n) Yes = by_test Passes (eqb e n) _ _ (λ z. tt) (λ z. tt)
    all (swap k e n) No = by_test Passes (eqb e n) _ _ (λ z. tt) (λ z. tt)

pub on_read_paths : (k : ℕ) (a : Response) (x : List Line) → x ∈ ways_of (read k) a → x ∈ read_paths
on_read_paths k (Value v) x m = m
on_read_paths k Yes x m = absurd m
on_read_paths k No x m = absurd m

-- a call of this record may end with the line, and answer so
abbrev pub MayEnd : Line → Record → Response → Type 0
MayEnd l r a = T (extends l (ways_of (op_of r) a))

abbrev wanting_line : Wanted → ℕ
wanting_line for13 = 13
wanting_line for25 = 25
wanting_line for28 = 28

-- the number of the line that wanted the decision; 0 outside the deciding part
abbrev pub wanted_by : Line → ℕ
wanted_by (l1 w) = wanting_line w
wanted_by (l2 w) = wanting_line w
wanted_by (l3 w) = wanting_line w
wanted_by l4 = 0
wanted_by l5 = 0
wanted_by l6 = 0
wanted_by l7 = 0
wanted_by l8 = 0
wanted_by l10 = 0
wanted_by l11 = 0
wanted_by l12 = 0
wanted_by l15 = 0
wanted_by l16 = 0
wanted_by l17 = 0
wanted_by l18 = 0
wanted_by l19 = 0
wanted_by l20 = 0
wanted_by l21 = 0
wanted_by l22 = 0
wanted_by l23 = 0
wanted_by l24 = 0
wanted_by l26 = 0
wanted_by l27 = 0
wanted_by l30 = 0
wanted_by nowhere = 0

abbrev pub suits : ℕ → Line → Bool
suits w l = eqb (wanted_by l) 0 || eqb w (wanted_by l)

-- a line of the deciding part is come to only by the test of who wanted it
module _ (w : ℕ) where
  unfoldable Suits : Line → Type 0
  Suits l = T (suits w l)

  tested : (b : Bool) (x y : Line) → (T b → Suits x) → Suits y → Suits (cond b x y)
  tested true x y p q = p tt
  tested false x y p q = q

  suited : (n : ℕ) → Suits (line_at n w)
  unfolding Suits
  suited n = let passed : Unit {0} = tt in search tested depth 40 fits 4000

-- in the deciding part the record says which line wanted the decision
pub wanted_is : (r : Record) {l : Line} → line_of r ≡ l → T (not (eqb (wanted_by l) 0)) → r.wanted ≡ wanted_by l
unfolding Suits
wanted_is r {l} e h = go (eqb (wanted_by l) 0) h (rw e at (suited r.wanted r.line))
  where
    go : (b : Bool) → T (not b) → T (b || eqb r.wanted (wanted_by l)) → r.wanted ≡ wanted_by l
    go true h s = absurd h
    go false h s = eqb→eq r.wanted (wanted_by l) s

-- WHAT THE FIGURE'S LINES DO

-- what an access counts as does not depend on the task and its record
module _ (l : Line) (p : ℕ) (q : Record) where
  alike : (f : Access → ℕ) → T (every (λ k. eqb (f (access_at k p q)) (f (access_at k 0 idle))) lines) → f (access_at l p q) ≡ f (access_at l 0 idle)
  alike f h = eqb→eq _ _ (every_line (λ k. eqb (f (access_at k p q)) (f (access_at k 0 idle))) h l)

  pub loads_alike : loads (access_at l p q) ≡ loads (access_at l 0 idle)
  loads_alike = alike loads tt

  pub stores_alike : stores (access_at l p q) ≡ stores (access_at l 0 idle)
  stores_alike = alike stores tt

  pub hardware_alike : hardware (access_at l p q) ≡ hardware (access_at l 0 idle)
  hardware_alike = alike hardware tt

-- from line l and record r: on to a line that may follow, with the call's own words as they were; or the call ends where it may
pub data Leads (l : Line) (r : Record) : Next → Type 0 where
  goes : {n w h t v : ℕ} → MayFollow l (line_at n w) r.held h → Leads l r (Go (at r n w h t v))
  done : {a : Response} → MayEnd l r a → Leads l r (answer r a)

module _ {l : Line} {r : Record} where
  either : (b : Bool) {x y : Next} → Leads l r x → Leads l r y → Leads l r (cond b x y)
  either true p q = p
  either false p q = q

  -- a swap of unequal values ends
  swap_ends : swaps r ≡ true → {a : Response} → T (extends l (ways_of (swap 0 0 1) a)) → Leads l r (answer r a)
  swap_ends s {a} h = done {a = a} (rw (swap-op r s).0 (go a h))
    where
      go : (a : Response) → T (extends l (ways_of (swap 0 0 1) a)) → T (extends l (ways_of (swap r.cell r.expected r.new) a))
      go (Value v) h = h
      go Yes h = rw (ne_eqb _ _ (swap-op r s).1) h
      go No h = rw (ne_eqb _ _ (swap-op r s).1) h

  -- a read ends, or a swap of equal values
  read_ends : reads r ≡ true → (v : ℕ) → T (extends l read_paths && extends l (by25 ∷ read_paths)) → Leads l r (answer r (read_answer r v))
  read_ends s v h = done {a = read_answer r v} (go (read-op r s))
    where
      test : (b : Bool) → T (extends l (ways_of (swap r.cell r.expected r.expected) (cond b Yes No)))
      test true = rw (eq-eqb r.expected r.expected refl) (both (extends l read_paths) _ h).1
      test false = rw (eq-eqb r.expected r.expected refl) (both (extends l read_paths) _ h).1

      go : Reads r → MayEnd l r (read_answer r v)
      go (inl (o, k)) = rw (o, k) (both (extends l read_paths) _ h).0
      go (inr (o, k)) = rw (o, k) (test (eqb v r.expected))

pub leads : (l : Line) (p : ℕ) (r : Record) (v : ℕ) → line_of r ≡ l → of_kind l (reads r) (swaps r) ≡ true → Leads l r (next_at l p r v)
leads (l1 for13) p r v e h = goes {n = 2} {w = r.wanted} {h = r.held} (rw (wanted_is r e tt) (tt, (λ a b. refl), λ z. refl))
leads (l1 for25) p r v e h = goes {n = 2} {w = r.wanted} {h = r.held} (rw (wanted_is r e tt) (tt, (λ a b. refl), λ z. refl))
leads (l1 for28) p r v e h = goes {n = 2} {w = r.wanted} {h = r.held} (rw (wanted_is r e tt) (tt, (λ a b. refl), λ z. refl))
leads (l2 for13) p r v e h = goes {n = 3} {w = r.wanted} {h = r.held} (rw (wanted_is r e tt) (tt, (λ a b. refl), λ z. refl))
leads (l2 for25) p r v e h = goes {n = 3} {w = r.wanted} {h = r.held} (rw (wanted_is r e tt) (tt, (λ a b. refl), λ z. refl))
leads (l2 for28) p r v e h = goes {n = 3} {w = r.wanted} {h = r.held} (rw (wanted_is r e tt) (tt, (λ a b. refl), λ z. refl))
leads (l3 for13) p r v e h = read_ends h v tt
leads (l3 for25) p r v e h = either (eqb v r.new) (swap_ends h tt) (goes (tt, (λ a b. refl), λ z. refl))
leads (l3 for28) p r v e h = either (eqb v r.expected) (goes (tt, (λ a b. refl), λ z. refl)) (swap_ends h tt)
leads l4 p r v e h = goes (tt, (λ a b. refl), λ z. refl)
leads l5 p r v e h = goes (tt, (λ a b. refl), λ z. refl)
leads l6 p r v e h = goes (tt, (λ a b. refl), λ z. refl)
leads l7 p r v e h = goes (tt, (λ a b. refl), λ z. refl)
leads l8 p r v e h = goes (tt, (λ a b. refl), λ z. refl)
leads l10 p r v e h = goes (tt, (λ a b. refl), λ z. absurd z)
leads l11 p r v e h = goes (tt, (λ a b. refl), λ z. refl)
leads l12 p r v e h = either (eqb v 0) (read_ends h r.loaded tt) (goes (tt, (λ a b. refl), λ z. refl))
leads l15 p r v e h = goes (tt, (λ a b. refl), λ z. absurd z)
leads l16 p r v e h = goes (tt, (λ a b. refl), λ z. refl)
leads l17 p r v e h = either (eqb v 0) (goes (tt, (λ a b. refl), λ z. refl)) (goes (tt, (λ a b. refl), λ z. refl))
leads l18 p r v e h = goes (tt, (λ a b. refl), λ z. refl)
leads l19 p r v e h = either (eqb v p) (goes (tt, (λ a b. refl), λ z. refl)) (goes (tt, (λ a b. refl), λ z. refl))
leads l20 p r v e h = goes (tt, (λ a b. refl), λ z. refl)
leads l21 p r v e h = either (eqb v 0) (either (eqb r.loaded r.expected) (goes (tt, (λ a b. refl), λ z. refl)) (goes (tt, (λ a b. refl), λ z. refl))) (goes (tt, (λ a b. refl), λ z. refl))
leads l22 p r v e h = swap_ends h tt
leads l23 p r v e h = goes (tt, (λ a b. refl), λ z. refl)
leads l24 p r v e h = either (eqb v 0) (goes (tt, (λ a b. refl), λ z. refl)) (goes (tt, (λ a b. refl), λ z. refl))
leads l26 p r v e h = swap_ends h tt
leads l27 p r v e h = goes (tt, (λ a b. refl), λ z. refl)
leads l30 p r v e h = either (eqb v 1) (swap_ends h tt) (swap_ends h tt)
leads nowhere p r v e h = absurd (false≢true h)
