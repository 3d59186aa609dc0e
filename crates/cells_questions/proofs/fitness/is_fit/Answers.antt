use mathlib.Core.Path.{◌≡◌, refl, sym, ap, ◌∙◌}
use mathlib.Core.Bool.{Bool, ◌&&◌}
use Prim.Native.Nat.{ℕ, ◌≤◌, ◌<◌, ◌+◌}
use native.Mathlib.Nat.{sub-zero}
use native.Mathlib.Omega.{arith}
use lib.ListN.{get_or, length, take}
use Rattle.std.proofs.lemmas.List.{get_or-take, length-take-le}
use Rattle.cells_spec.specs.declared.State.{State}
use Rattle.figure_lines.specs.Record.{idle}
use Rattle.cells_spec.specs.Questions.{record_fit, records_fit, counts_true}
use Rattle.cells_spec.proofs.Loops.{all_no, all_yes, all_end}
use Rattle.cells_spec.proofs.Fits.{sizes_below}
use Rattle.cells_spec.proofs.Counted.{has_room, counted_next, compared}
use Rattle.cells_questions.proofs.Fitting.{no_sizes, no_last, no_cells, left, below-128}
use Rattle.cells_questions.proofs.Ranges.{names_listed, all_equal}
use Rattle.cells_questions.proofs.fitness.is_fit.Invariants.{test}
use Rattle.std.proofs.Common.{rules}
use Rattle.cells_questions.proofs.fitness.is_fit.Goals as goal
use Rattle.cells_questions.proofs.fitness.is_fit.Goals.{then-s-via-then-s, then-s-via-else-s+then-not-cells_fit}

plus_zero : (n : ℕ) → n ≡ n + 0
plus_zero n = omega arith

cells-long : (s : State) → s.cells ≤ 16 → length s.current ≡ 16 → s.cells ≤ length s.current
cells-long s h e = omega arith

tasks-long : (s : State) → s.tasks ≤ 32 → length s.records ≡ 32 → length (take s.tasks s.records) ≡ s.tasks
tasks-long s h e = length-take-le s.tasks s.records (omega arith)

its_own : (s : State) (t : ℕ) → t < s.tasks → test s t ≡ record_fit (get_or (take s.tasks s.records) t idle) s.cells s.blocks
its_own s t h = ap (λ r. record_fit r s.cells s.blocks) (sym (get_or-take s.tasks s.records t idle h))

pub returns-then-not-sizes_fit : goal.returns-then-not-sizes_fit
returns-then-not-sizes_fit c = let s = c.args.s.now in no_sizes s c.args.pool.now (sym c.sizes_fit.ensures ∙ c.if-not-sizes_fit.true)

pub returns-then-s : goal.returns-then-s
returns-then-s c =
    let s = c.args.s.now in
    let e = sym c.sizes_fit.ensures ∙ c.if-not-sizes_fit.false in
    elim c.then-s.branch [
      | then-s-via-then-s w ↦ no_last s c.args.pool.now e w.if-s.true
      | then-s-via-else-s+then-not-cells_fit w ↦ no_cells s c.args.pool.now e (sym w.cells_fit.ensures ∙ w.if-not-cells_fit.true)
    ]

pub count_cells-requires : goal.count_cells-requires
count_cells-requires c =
    let s = c.args.s.now in
    let z = sizes_below s c.args.pool.now (sym c.sizes_fit.ensures ∙ c.if-not-sizes_fit.false) in
    let n : length (take s.cells s.current) ≡ s.cells = length-take-le s.cells s.current (cells-long s z.1 (search rules)) in (
      omega (arith, n, z.1),
      λ k l.
          let m : k < s.cells = omega (arith, n, l) in
          rw (get_or-take s.cells s.current k 0 m) (below-128 s (sym c.cells_fit.ensures ∙ c.if-not-cells_fit.false) z.2 k m),
      refl,
    )

pub loop-r-init : goal.loop-r-init
unfolding records_fit
loop-r-init c =
    let s = c.args.s.now in
    let p = c.args.pool.now in
    let e = sym c.sizes_fit.ensures ∙ c.if-not-sizes_fit.false in
    let long = cells-long s (sizes_below s p e).1 (search rules) in (
      omega arith,
      rw sub-zero,
      left s p e c.if-s.false (sym c.cells_fit.ensures ∙ c.if-not-cells_fit.false),
      record { long = c.count_cells.ensures.0; each = λ b m. c.count_cells.ensures.1 b m ∙ (names_listed s.current b s.cells long ∙ plus_zero _) },
    )

pub returns-then-not-record_fit : goal.returns-then-not-record_fit
returns-then-not-record_fit c = let l = c.loop-r in
    let s = c.args.s.now in
    let z = sizes_below s c.args.pool.now (sym c.sizes_fit.ensures ∙ c.if-not-sizes_fit.false) in
    let h : l.r-index < s.tasks = omega (arith, tasks-long s z.0 (search rules), c.loop-r-test.true) in
    let d = all_no (test s) l.r-index s.tasks l.invariant.1 h (its_own s l.r-index h ∙ (sym c.record_fit.ensures ∙ c.if-not-record_fit.true)) in
    ap (λ (x : Bool). x && counts_true s) d ∙ l.invariant.2

pub claim-requires : goal.claim-requires
claim-requires c = let l = c.loop-r in
    let s = c.args.s.now in
    let z = sizes_below s c.args.pool.now (sym c.sizes_fit.ensures ∙ c.if-not-sizes_fit.false) in
    has_room s l.table l.r-index l.invariant.3 _ s.cells s.blocks (sym c.record_fit.ensures ∙ c.if-not-record_fit.false) z.2 z.1 (omega (arith, l.invariant.0, z.0))

pub loop-r-preserved : goal.loop-r-preserved
loop-r-preserved c = let l = c.loop-r in
    let s = c.args.s.now in
    let z = sizes_below s c.args.pool.now (sym c.sizes_fit.ensures ∙ c.if-not-sizes_fit.false) in
    let h : l.r-index < s.tasks = omega (arith, tasks-long s z.0 (search rules), c.loop-r-test.true) in
    let e = sym c.record_fit.ensures ∙ c.if-not-record_fit.false in (
      omega (arith, h),
      all_yes (test s) l.r-index s.tasks l.invariant.1 h (its_own s l.r-index h ∙ e),
      l.invariant.2,
      rw c.claim.ensures (counted_next s l.table l.r-index l.invariant.3 _ s.cells s.blocks e z.2 (sym (get_or-take s.tasks s.records l.r-index idle h))),
    )

pub returns : goal.returns
returns c = let l = c.loop-r in
    let s = c.args.s.now in
    let z = sizes_below s c.args.pool.now (sym c.sizes_fit.ensures ∙ c.if-not-sizes_fit.false) in
    let n : l.r-index ≡ s.tasks = omega (arith, l.invariant.0, tasks-long s z.0 (search rules), c.loop-r-test.false) in
    let d = all_end (test s) l.r-index s.tasks l.invariant.1 (omega (arith, n)) in
    let w : length s.counts ≡ 128 = search rules in
    let same = all_equal _ s.counts l.table s.blocks (omega (arith, w, z.2)) (omega (arith, l.invariant.3.long, z.2)) in
    c.eq.ensures ∙ (sym same ∙ (compared s l.table (rw n at l.invariant.3) z.2 ∙ (ap (λ (x : Bool). x && counts_true s) d ∙ l.invariant.2)))
