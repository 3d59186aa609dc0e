-- A step that is not refused: what its turn needs, and that a turn given no unused block where it asks for none does the same.
use mathlib.Core.Path.{◌≡◌, refl, sym, ap, ◌∙◌}
use mathlib.Core.Logic.{◌⊎◌, inl, inr}
use mathlib.Core.Bool.{Bool, true, false, ◌&&◌, ◌||◌, not, false≢true}
use mathlib.Core.Option.{Option, none, some}
use mathlib.Core.List.{List}
use Prim.Native.Nat.{ℕ, ◌≤◌, ◌<◌}
use native.Mathlib.Omega.{arith}
use lib.Dec.{eqb}
use lib.ListN.{get_or, length}
use borrow.Author.Tests.{ltb-true, ne_eqb}
use Rattle.figure_lines.specs.declared.Record.{Record}
use Rattle.cells_spec.specs.declared.State.{State}
use Rattle.figure_lines.specs.Record.{is_idle, record_at}
use Rattle.figure_lines.specs.Lines.{line_of}
use Rattle.cells_spec.specs.Questions.{refusal, holds, has_taken, line_fit, record_fit, busy_tests, records_fit, fit, fit_tests, answers}
use Rattle.cells_spec.specs.Blocks.{is_current, holds_replaced, unused, is_found}
use Rattle.cells_spec.specs.StoredCounts.{Countable}
use Rattle.cells_spec.specs.Step.{current, put_back, ran, step_asks, stepped}
use Rattle.cells_spec.specs.Memory.{There}
use Rattle.cells_spec.specs.Turn.{Turned, turn, Ready}
use Rattle.cells_spec.proofs.Tests.{all_yes, all-at, nth}
use Rattle.cells_spec.proofs.Fits.{sizes, busy_test}
use Rattle.cells_spec.proofs.Numbers.{number, at-number}
use Rattle.cells_spec.proofs.Unused.{named-current, unused-below}
use Rattle.cells_spec.proofs.CountsKept.{Arrays}
use Rattle.cells_spec.proofs.Named.{names-kept, current_stays, current-kept}
use Rattle.cells_spec.proofs.Countable.{names, cell-block, countable_to}
use Rattle.cells_spec.proofs.TurnLaw.{ready, turn_free}

-- the block handed to a turn: what the search finds, where the line is one that asks
abbrev pub Free : State → Record → Option ℕ → Type 0
Free s r f = (f ≡ unused s) ⊎ ((r.line ≡ 4 → ⊥) × (f ≡ none))

-- question 20, of that block
pub same_20 : (s : State) (r : Record) (f : Option ℕ) → Free s r f → (not (eqb r.line 4) || is_found f) ≡ (not (eqb r.line 4) || is_found (unused s))
same_20 s r f (inl g) = rw g
same_20 s r f (inr (l, g)) = rw (ne_eqb r.line 4 l)

is_some : (o : Option ℕ) → is_found o ≡ true → (b : ℕ) × (o ≡ some b)
is_some none e = absurd (false≢true e)
is_some (some b) e = (b, refl)

pub record Acting (s : State) (p : List ℕ) (t : ℕ) (r : Record) : Type 0 where
  pub searches : (s.tasks ≤ 32) × (s.cells ≤ 16) × (s.last < s.blocks)
  pub task : t < 32
  pub cell : r.cell < 16
  pub named : r.cell < s.cells
  pub line : line_fit r ≡ true
  pub ready : Ready (length p) r
  pub there : (f : Option ℕ) → Free s r f → There (length p) f
  pub countable : Arrays s → (f : Option ℕ) → Free s r f → let x = turn p t r (current s r.cell) s.last f in Countable s.counts r x.record (current s r.cell) x.current
  pub acts : (f : Option ℕ) → Free s r f → stepped s p t ≡ put_back s t r (turn p t r (current s r.cell) s.last f)

module _ (s : State) (p : List ℕ) (t : ℕ) where
  abbrev own : Record
  own = record_at s.records t

  module _ (e : refusal (step_asks s p t) ≡ none) where
    is-yes : (k : ℕ) → get_or (answers (step_asks s p t)) k true ≡ true
    is-yes = nth (answers (step_asks s p t)) (all_yes (step_asks s p t) e)

    busy : own.line ≡ 0 → ⊥
    busy z = false≢true (rw z at (is-yes 2))

    below : t < s.tasks
    below = ltb-true t s.tasks (is-yes 1)

    fits : record_fit own s.cells s.blocks ≡ true
    unfolding fit records_fit
    fits = all-at (λ t. record_fit (record_at s.records t) s.cells s.blocks) 0 s.tasks (nth (fit_tests s p) (is-yes 0) 5) t (omega arith) (omega (arith, below))

    test : (k : ℕ) → get_or (busy_tests own s.cells s.blocks) k true ≡ true
    test = busy_test own s.cells s.blocks fits busy

    cell_below : own.cell < s.cells
    cell_below = ltb-true _ _ (test 0)

    there : (f : Option ℕ) → Free s own f → There (length p) f
    there none h = tt
    there (some b) (inl g) =
        let z = sizes s p (is-yes 0) in
        omega (arith, unused-below s b (sym g))
    there (some b) (inr (l, g)) = let z : ◌≡◌ {A = ℕ} 0 1 = cc in omega arith

    is-busy : (x : Bool) → x ≡ true → not (is_idle own) && x ≡ true
    is-busy x e = rw (ne_eqb own.line 0 busy, e)

    found_at_4 : (f : Option ℕ) → Free s own f → number (line_of own) ≡ 4 → (b : ℕ) × (f ≡ some b) × (b < s.blocks)
    found_at_4 f (inl g) e = let y = is_some (unused s) (rw (at-number own (test 1) ∙ e) at (is-yes 3)) in (y.0, g ∙ y.1, unused-below s y.0 y.1)
    found_at_4 f (inr (l, g)) e = absurd (l (at-number own (test 1) ∙ e))

    countable : Arrays s → (f : Option ℕ) → Free s own f → let x = turn p t own (current s own.cell) s.last f in Countable s.counts own x.record (current s own.cell) x.current
    countable a f h =
        let n = s.blocks in
        let c = current s own.cell in
        let named = names s p (is-yes 0) t below in
        let held : holds own ≡ true → own.held < n = λ e. named.0 (is-busy (holds own) e) in
        let taken : has_taken own ≡ true → own.taken < n = λ e. named.1 (is-busy (has_taken own) e) in
        let first = cell-block s p (is-yes 0) own.cell cell_below in
        countable_to s p (is-yes 0) t below own.cell cell_below a
        (turn p t own c s.last f).record (turn p t own c s.last f).current
        (names-kept (λ b. b < n) (λ b. b < n) p t own c s.last f (test 1) (at-number own (test 1)) held taken first (found_at_4 f h))
        (current-kept (λ b. b < n) (λ b. b < n) p t own c s.last f (test 1) (at-number own (test 1)) held taken first)

    -- with the block that the search finds
    abbrev its-turn : Turned
    its-turn = turn p t own (current s own.cell) s.last (unused s)

    found : number (line_of own) ≡ 4 → (b : ℕ) × (unused s ≡ some b) × Prim.Unit {0}
    found g = let y = found_at_4 (unused s) (inl refl) g in (y.0, y.1, tt)

    -- a task that held no replaced block holds none afterwards
    pub holds-current : holds_replaced s own ≡ false → not (is_idle its-turn.record) && holds its-turn.record ≡ true → is_current s its-turn.record.held ≡ true
    holds-current z = (names-kept (λ b. is_current s b ≡ true) (λ b. Prim.Unit {0}) p t own (current s own.cell) s.last (unused s) (test 1) (at-number own (test 1))
        (λ h. is_true (is_current s own.held) (rw (is-busy (holds own) h) at z)) (λ h. tt) (named-current s own.cell cell_below) found).0
      where
        is_true : (x : Bool) → not x ≡ false → x ≡ true
        is_true true h = refl
        is_true false h = sym h

    pub block_stays : is_idle its-turn.record ≡ false → its-turn.current ≡ current s own.cell
    block_stays = current_stays (λ b. Prim.Unit {0}) (λ b. Prim.Unit {0}) p t own (current s own.cell) s.last (unused s) (test 1) (at-number own (test 1)) (λ h. tt) (λ h. tt) tt found

    acts : (f : Option ℕ) → Free s own f → stepped s p t ≡ put_back s t own (turn p t own (current s own.cell) s.last f)
    unfolding stepped ran
    acts f h = rw e (ap (put_back s t own) (go h))
      where
        go : Free s own f → turn p t own (current s own.cell) s.last (unused s) ≡ turn p t own (current s own.cell) s.last f
        go (inl g) = rw g
        go (inr (l, g)) = turn_free p t own (current s own.cell) s.last (unused s) f (λ e. l (at-number own (test 1) ∙ e))

    pub own_acting : Acting s p t own
    own_acting =
        let z = sizes s p (is-yes 0) in
        record {
          searches = (z.tasks, z.cells, z.last);
          task = omega (arith, below);
          cell = omega (arith, cell_below);
          named = cell_below;
          line = test 1;
          ready = ready own s.cells s.blocks (length p) fits busy z.words;
          there = there;
          countable = countable;
          acts = acts;
        }
