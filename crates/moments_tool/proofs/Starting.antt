-- From an opening on: records that fit a word, and the text of the marks.
use mathlib.Core.Path.{◌≡◌, refl, sym, ap, subst}
use mathlib.Core.Logic.{inl, inr}
use mathlib.Core.Bool.{Bool, true, false}
use mathlib.Core.List.{List, []}
use Prim.Native.Nat.{ℕ, ◌≤◌, ◌<◌}
use native.Mathlib.Omega.{arith}
use borrow.Author.Tests.{ltb-true}
use lib.Dec.{ltb}
use lib.ListN.{length}
use Rattle.text.specs.Page.{Written}
use Rattle.text.specs.declared.page.Page.{Page}
use Rattle.figure_lines.specs.declared.Record.{Record}
use Rattle.figure_lines.specs.Record.{record_at}
use Rattle.cells_spec.specs.declared.State.{State}
use Rattle.cells_spec.specs.Questions.{open_questions, answers}
use Rattle.cells_spec.proofs.Tests.{all_yes, nth, within_true}
use Rattle.cells_spec.specs.Machine.{Pool}
use Rattle.figure.proofs.Records.{WellRecord}
use Rattle.cells_theorems.specs.Reached.{Reached}
use Rattle.cells_spec.proofs.Fits.{sizes}
use Rattle.cells_theorems.proofs.Reaching.{reached-fit}
use Rattle.cells_theorems.proofs.Refines.{together}
use Rattle.history_spec.specs.History.{Action}
use Rattle.session_engine.proofs.Turning.{reached-small}
use Rattle.moments_spec.specs.Printed.{moments_text}
use Rattle.moments_tool.specs.Words.{word_lines, Listed}
use Rattle.moments_tool.specs.Notes.{slot}
use Rattle.moments_tool.specs.Loop.{all_marks}
use Rattle.moments_tool.proofs.Encoding.{listed_lines}
use Rattle.moments_tool.proofs.Noting.{slot-below}

pub reached-cell : {n v : ℕ} {s : State} {p : List ℕ} → Reached n v s p → (t : ℕ) → t < n → (record_at s.records t).cell < 16
reached-cell {n} {v} {s} {p} r t h =
    let g = together r.old r.words n v r.blocks r.values r.allowed r.actions in
    subst (λ (x : Pool). (record_at x.0.records t).cell < 16) (sym r.came) (omega (arith, ap (λ (r : Record). r.cell) (g.agree.records t h).same, go (g.well [] t)))
  where
    go : {q : Record} → WellRecord v q → q.cell < 16
    go (inl e) = rw e (omega arith)
    go (inr y) = omega (arith, y.cell, (reached-small r).1)

pub reached-tasks : {n v : ℕ} {s : State} {p : List ℕ} → Reached n v s p → (0 < n) × (s.tasks ≡ n)
unfolding open_questions
reached-tasks {n} {v} r =
    let l = open_questions (length r.words) n v r.blocks r.values in (
      (within_true n 1 32 (nth (answers l) (all_yes l r.allowed) 0)).0,
      subst (λ (x : Pool). x.0.tasks ≡ n) (sym r.came) (together r.old r.words n v r.blocks r.values r.allowed r.actions).agree.sizes.same-tasks,
    )

pub reached_sizes : {n v : ℕ} {s : State} {p : List ℕ} → Reached n v s p → (s.tasks ≤ 32) × (s.cells ≤ 16)
reached_sizes {s = s} {p = p} r = ((sizes s p (reached-fit r)).tasks, (sizes s p (reached-fit r)).cells)

pub task-below : {n v : ℕ} {s : State} {p : List ℕ} → Reached n v s p → {t : ℕ} (u : ℕ) → t ≡ slot u s.tasks → t < 32
task-below {s = s} r u e = rw e (slot-below u s.tasks 32 (reached_sizes r).0 (omega arith))

slot-cell : {n v : ℕ} {s : State} {p : List ℕ} → Reached n v s p → {t : ℕ} (u : ℕ) → t ≡ slot u s.tasks → (record_at s.records t).cell < 16
slot-cell {n} {v} {s} r {t} u e = reached-cell r t (omega (arith, below (ltb u s.tasks) refl, e, (reached-tasks r).1))
  where
    below : (b : Bool) → ltb u s.tasks ≡ b → slot u s.tasks < s.tasks
    below true q = rw q (ltb-true u s.tasks q)
    below false q = rw q (omega (arith, (reached-tasks r).0, (reached-tasks r).1))

-- the record at a task's place
pub task-small : {n v : ℕ} {s : State} {p : List ℕ} → Reached n v s p → {t : ℕ} (u : ℕ) → t ≡ slot u s.tasks → {r : Record} → r ≡ record_at s.records t → (t < 32) × (r.cell < 16)
task-small z u e er = (task-below z u e, omega (arith, ap (λ (r : Record). r.cell) er, slot-cell z u e))

-- THE TEXT

pub printed : {old new : Page} (n : ℕ) (x : Pool) (l : List Action) {words : List ℕ} → Listed words (all_marks n x l) → Written old new (word_lines words) → Written old new (moments_text n x l)
printed {old} {new} n x l h p = subst (Written old new) (listed_lines h) p
