-- THE STORED COUNTS ARE TRUE AFTER EVERY ENTRY: a begin, a step, a finishing step, a step over a lent record and a drop, from every state in which it acts.
use mathlib.Core.Path.{◌≡◌, refl, sym, ◌∙◌}
use mathlib.Core.Bool.{Bool, true, false, not, cond, and-eq-true_iff, false≢true}
use mathlib.Core.Option.{Option, none, some}
use mathlib.Core.List.{List, ◌∷◌}
use Prim.Native.Nat.{ℕ, ◌≤◌, ◌<◌}
use native.Mathlib.Omega.{arith}
use lib.Dec.{eqb}
use lib.ListN.{get_or, length, length-set}
use lib.Seq.{set-get_or}
use borrow.Author.Tests.{eq-eqb, ltb-true}
use Rattle.figure_lines.specs.declared.Record.{Record}
use Rattle.cells_spec.specs.declared.State.{State}
use Rattle.figure_lines.specs.Basics.{ands}
use Rattle.figure_lines.specs.Record.{idle, is_idle, record_at, first_read, first_swap}
use Rattle.cells_spec.specs.Questions.{refusal, answers, record_uses, uses, counts_true, record_fit, records_fit, fit, fit_tests, begin_questions, swap_questions, step_questions, pool_step_questions}
use Rattle.cells_spec.specs.Blocks.{unused, is_found}
use Rattle.history_spec.specs.History.{read, swap, Action, begin, step, drop}
use Rattle.cells_spec.specs.Answers.{acts}
use Rattle.cells_spec.specs.Open.{After, leaving, unless}
use Rattle.cells_spec.specs.Begin.{with_record, started, read_begun, swap_begun}
use Rattle.cells_spec.specs.StoredCounts.{released, recounted}
use Rattle.cells_spec.specs.Turn.{turn}
use Rattle.cells_spec.specs.Step.{current, with_blocks, with_counts, ran, step_asks, stepped}
use Rattle.cells_spec.specs.Lent.{is_refused, Lent, lent, stepped_lent}
use Rattle.cells_spec.specs.Drop.{drop_asks, call_withdrawn, dropped}
use Rattle.cells_spec.specs.Machine.{does}
use Rattle.cells_spec.proofs.Tests.{all-at, all_from_lem, nth, within_true, blocks-most, yes-at}
use Rattle.cells_spec.proofs.Fits.{busy_test}
use Rattle.cells_spec.proofs.Uses.{named-used, uses_changed, count-is}
use Rattle.cells_spec.proofs.Recount.{recounted-at}
use Rattle.cells_spec.proofs.Acts.{read-acts, swap-acts, step-acts, drop-acts}

-- the lists are as long as the arrays: so they are in every state of the code, by its type
abbrev pub Arrays : State → Type 0
Arrays s = (length s.current ≡ 16) × (length s.records ≡ 32) × (length s.counts ≡ 128)

-- WHAT A STATE WITH ROOM KEEPS

record Room (s : State) : Type 0 where
  cell : 1 ≤ s.cells
  cells : s.cells ≤ length s.current
  tasks : s.tasks ≤ length s.records
  blocks : s.blocks ≤ length s.counts

room : (s : State) (p : List ℕ) → Arrays s → fit s p ≡ true → Room s
unfolding fit
room s p (a, r, c) e =
    let test = nth (fit_tests s p) e in
    let v = within_true s.cells 1 16 (test 1) in
    let n = within_true s.tasks 1 32 (test 0) in
    let m = blocks-most s.tasks s.cells s.blocks (length p) (test 2) in
    record { cell = v.0; cells = omega (arith, v.1); tasks = omega (arith, n.1); blocks = omega (arith, m) }

module _ (s : State) (z : Room s) (e : counts_true s ≡ true) (t : ℕ) (own : t < s.tasks) where
  -- one task's record and one cell's block
  moved : (k : ℕ) → k < s.cells → (q : Record) (d last : ℕ)
      → counts_true (with_counts (with_record (with_blocks s k d last) t q) (recounted s.counts (record_at s.records t) q (current s k) d)) ≡ true
  unfolding counts_true
  moved k h q d last = all_from_lem _ 0 s.blocks (λ b i j. eq-eqb _ _ (same b (omega arith)))
    where
      same : (b : ℕ) → b < s.blocks → get_or (recounted s.counts (record_at s.records t) q (current s k) d) b 0 ≡ uses (with_counts (with_record (with_blocks s k d last) t q) (recounted s.counts (record_at s.records t) q (current s k) d)) b
      same b l =
          let is = count-is s e b l in
          let among = named-used s t k own z.tasks h z.cells b in
          omega (
            arith,
            is,
            recounted-at s.counts (record_at s.records t) q (current s k) d b (omega (arith, z.blocks)) (rw is among),
            uses_changed s t k own z.tasks h z.cells q d last (recounted s.counts (record_at s.records t) q (current s k) d) b,
          )

  -- a record that names no block, in place of another
  still_true : (q : Record) → ((b : ℕ) → record_uses (record_at s.records t) b ≡ 0) → ((b : ℕ) → record_uses q b ≡ 0) → counts_true (with_record s t q) ≡ true
  unfolding counts_true
  still_true q free free' = all_from_lem _ 0 s.blocks (λ b i j. eq-eqb _ _ (count-is s e b (omega arith) ∙ same b))
    where
      same : (b : ℕ) → uses s b ≡ uses (with_record s t q) b
      same b =
          let law = uses_changed s t 0 own z.tasks (omega (arith, z.cell)) z.cells q (current s 0) s.last s.counts b in
          let law' = rw (set-get_or s.current 0 0) at law in
          omega (arith, law', free b, free' b)

-- EACH ENTRY

unnamed : (r : Record) → is_idle r ≡ true → (b : ℕ) → record_uses r b ≡ 0
unnamed r e b = rw e

first_names_none : (k e n b : ℕ) → record_uses (first_swap k e n) b ≡ 0
first_names_none k e n b = go (eqb e n) refl
  where
    go : (x : Bool) → eqb e n ≡ x → record_uses (first_swap k e n) b ≡ 0
    go true g = rw g
    go false g = rw g

module _ (s : State) (p : List ℕ) (a : Arrays s) (e : counts_true s ≡ true) (t : ℕ) where
  abbrev r : Record
  r = record_at s.records t

  read_keeps : (k : ℕ) → counts_true (read_begun s p t k).state ≡ true
  unfolding read_begun
  read_keeps k = go (refusal ((6, fit s p) ∷ begin_questions s.tasks s.cells r t k)) refl
    where
      go : (o : Option ℕ) → refusal ((6, fit s p) ∷ begin_questions s.tasks s.cells r t k) ≡ o → counts_true (unless o s p (started s p t (first_read k))).state ≡ true
      go none g =
          let yes = yes-at ((6, fit s p) ∷ begin_questions s.tasks s.cells r t k) g in
          still_true s (room s p a (yes 0)) e t (ltb-true t s.tasks (yes 1)) (first_read k) (unnamed r (yes 3)) (λ b. refl)
      go (some n) g = e

  swap_keeps : (k x n : ℕ) → counts_true (swap_begun s p t k x n).state ≡ true
  unfolding swap_begun
  swap_keeps k x n = go (refusal ((6, fit s p) ∷ swap_questions s.tasks s.cells r t k x n)) refl
    where
      go : (o : Option ℕ) → refusal ((6, fit s p) ∷ swap_questions s.tasks s.cells r t k x n) ≡ o → counts_true (unless o s p (started s p t (first_swap k x n))).state ≡ true
      go none g =
          let yes = yes-at ((6, fit s p) ∷ swap_questions s.tasks s.cells r t k x n) g in
          still_true s (room s p a (yes 0)) e t (ltb-true t s.tasks (yes 1)) (first_swap k x n) (unnamed r (yes 3)) (first_names_none k x n)
      go (some m) g = e

  own_cell : fit s p ≡ true → t < s.tasks → not (is_idle r) ≡ true → r.cell < s.cells
  unfolding fit records_fit
  own_cell f own h =
      let fits = all-at (λ t. record_fit (record_at s.records t) s.cells s.blocks) 0 s.tasks (nth (fit_tests s p) f 5) t (omega arith) (omega arith) in
      ltb-true _ _ (busy_test r s.cells s.blocks fits (λ l. false≢true (rw l at h)) 0)

  step_keeps : counts_true (stepped s p t).state ≡ true
  unfolding stepped ran
  step_keeps = go (refusal (step_asks s p t)) refl
    where
      go : (o : Option ℕ) → refusal (step_asks s p t) ≡ o → counts_true (unless o s p (ran s p t r)).state ≡ true
      go none g =
          let yes = yes-at (step_asks s p t) g in
          let own = ltb-true t s.tasks (yes 1) in
          let x = turn p t r (current s r.cell) s.last (unused s) in
          moved s (room s p a (yes 0)) e t own r.cell (own_cell (yes 0) own (yes 2)) x.record x.current x.last
      go (some n) g = e

  drop_keeps : counts_true (dropped s p t).state ≡ true
  unfolding dropped recounted
  drop_keeps = go (refusal (drop_asks s p t)) refl
    where
      -- nothing is named where the record was, and the cell names the same block
      same-counts : recounted s.counts r idle (current s r.cell) (current s r.cell) ≡ released s.counts r
      same-counts = rw (eq-eqb (current s r.cell) (current s r.cell) refl) refl

      go : (o : Option ℕ) → refusal (drop_asks s p t) ≡ o → counts_true (unless o s p (call_withdrawn s p t)).state ≡ true
      go none g =
          let yes = yes-at (drop_asks s p t) g in
          let own = ltb-true t s.tasks (yes 1) in
          let law = moved s (room s p a (yes 0)) e t own r.cell (own_cell (yes 0) own (yes 2)) idle (current s r.cell) s.last in
          rw (same-counts, set-get_or s.current r.cell 0) at law
      go (some n) g = e

-- THE THEOREMS

fits_of : {f : Bool} (l : List Bool) → ands (f ∷ l) ≡ true → f ≡ true
fits_of {f} l e = ((and-eq-true_iff f (ands l)).0 e).0

module _ (s : State) (p : List ℕ) where
  -- who acts was fit
  acts-fit : (a : Action) → acts (does s p a).outcome ≡ true → fit s p ≡ true
  acts-fit (begin t (read k)) h = fits_of (answers (begin_questions s.tasks s.cells (record_at s.records t) t k)) (sym (read-acts s p t k) ∙ h)
  acts-fit (begin t (swap k x n)) h = fits_of (answers (swap_questions s.tasks s.cells (record_at s.records t) t k x n)) (sym (swap-acts s p t k x n) ∙ h)
  acts-fit (step t) h = fits_of (answers (pool_step_questions s.tasks (record_at s.records t) t (is_found (unused s)))) (sym (step-acts s p t) ∙ h)
  acts-fit (drop t) h = fits_of (answers (step_questions s.tasks (record_at s.records t) t)) (sym (drop-acts s p t) ∙ h)

  fit-counts : fit s p ≡ true → counts_true s ≡ true
  unfolding fit
  fit-counts e = nth (fit_tests s p) e 6

  -- True counts stay true, whichever action it is, and whether it is refused or not.
  pub counts_stay : Arrays s → counts_true s ≡ true → (a : Action) → counts_true (does s p a).state ≡ true
  counts_stay sizes e (begin t (read k)) = read_keeps s p sizes e t k
  counts_stay sizes e (begin t (swap k x n)) = swap_keeps s p sizes e t k x n
  counts_stay sizes e (step t) = step_keeps s p sizes e t
  counts_stay sizes e (drop t) = drop_keeps s p sizes e t

-- After every begin, every step that acts, a finishing one included, and every drop, what the state stores for each block is what its table says.
pub counts-kept : (s : State) (p : List ℕ) → (length s.current ≡ 16) × (length s.records ≡ 32) × (length s.counts ≡ 128)
    → (a : Action) → acts (does s p a).outcome ≡ true → counts_true (does s p a).state ≡ true
counts-kept s p sizes a h = counts_stay s p sizes (fit-counts s p (acts-fit s p a h)) a

-- So it is after a step over a lent record.
pub lent_counts_kept : (s : State) (p : List ℕ) → (length s.current ≡ 16) × (length s.records ≡ 32) × (length s.counts ≡ 128)
    → (t : ℕ) (r : Record) → acts (stepped_lent s p t r).entry.outcome ≡ true → counts_true (stepped_lent s p t r).entry.state ≡ true
unfolding stepped_lent
lent_counts_kept s p (a, b, c) t r h = go (stepped (with_record s t r) p t) (is_refused (stepped (with_record s t r) p t).outcome) refl h (counts-kept (with_record s t r) p (a, length-set s.records t r ∙ b, c) (step t))
  where
    lends : After → Bool → Lent
    lends x y = cond y (lent (leaving s p x.outcome) r) (lent x (record_at x.state.records t))

    go : (x : After) (y : Bool) → is_refused x.outcome ≡ y → acts (lends x y).entry.outcome ≡ true → (acts x.outcome ≡ true → counts_true x.state ≡ true) → counts_true (lends x y).entry.state ≡ true
    go x true e h more = absurd (false≢true (rw h at e))
    go x false e h more = more h
