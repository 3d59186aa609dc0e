-- The record of a task whose pending call was begun as a swap says so.
use mathlib.Core.Path.{◌≡◌, refl, sym, ap, ◌∙◌}
use mathlib.Core.Logic.{◌≢◌, inl, inr}
use mathlib.Core.Bool.{Bool, true, false, not, and-eq-true_iff}
use mathlib.Core.Option.{none, some}
use mathlib.Core.List.{List}
use Prim.Native.Nat.{ℕ, ◌<◌}
use native.Mathlib.Omega.{arith}
use lib.Dec.{eqb}
use lib.ListN.{get_or, length}
use borrow.Author.Tests.{eqb-true}
use Rattle.figure_lines.specs.declared.Record.{Record}
use Rattle.figure_lines.specs.Record.{no_value, record_at, op_of}
use Rattle.figure_lines.specs.Lines.{line_of}
use Rattle.cells_spec.specs.declared.State.{State}
use Rattle.cells_spec.specs.Questions.{refusal, open_questions, line_fit}
use Rattle.history_spec.specs.History.{read, swap, Action, history, run, Call, calls_of}
use Rattle.history_spec.proofs.Basics.{clash, some_inj}
use Rattle.history_linearization.proofs.Simulation.{Tally}
use Rattle.history_linearization.proofs.Tracks as Tracks
use Rattle.history_linearization.proofs.EveryAction.{at-end}
use Rattle.cells_spec.specs.Machine.{pool}
use Rattle.figure_cell.proofs.Classes.{swapping}
use Rattle.figure_cell.proofs.AsBegun.{Reads, read-op}
use Rattle.figure.specs.Figure.{World, figure, opening}
use Rattle.figure.proofs.Records.{OnPath, run_on_path, opening_on_path}
use Rattle.figure.proofs.Tallies.{tally_of, doing, was_doing}
use Rattle.figure.proofs.Operations.{is-swap, is_read}
use Rattle.figure_moments.specs.Moments.{no_notes}
use Rattle.figure_moments.proofs.Simulation.{watch, simulation}
use Rattle.figure_moments.proofs.Rests.{noted-run}
use Rattle.cells_theorems.specs.Terms.{start}
use Rattle.cells_theorems.proofs.Refines.{together, same-history}
use Rattle.cells_theorems.proofs.Demand3.{starting_values}

swap-kind : (q : Record) (k e n : ℕ) → line_fit q ≡ true → op_of q ≡ swap k e n → q.kind ≡ 2
swap-kind q k e n f o = go (swapping (line_of q)) refl
  where
    by_read : Reads q → q.kind ≡ 2
    by_read (inl (y, z)) = absurd (let w : read q.cell ≡ swap k e n = sym y ∙ o in let v : ◌≡◌ {A = ℕ} 0 1 = cc in omega arith)
    by_read (inr (y, z)) = z

    go : (b : Bool) → swapping (line_of q) ≡ b → q.kind ≡ 2
    go true z = eqb-true q.kind 2 ((and-eq-true_iff (eqb q.kind 2) (not (eqb q.expected q.new))).0 (is-swap q f (rw z tt))).0
    go false z = by_read (read-op q (is_read q f (rw z tt)))

-- each task's record is of its pending call
records_track : (tasks cells : ℕ) (values : List ℕ) (some-values : (k : ℕ) → get_or values k 0 ≢ no_value) (actions : List Action) → Tracks.Tracks doing (run figure (opening tasks cells values) actions) (calls_of (history figure (opening tasks cells values) actions))
unfolding simulation
records_track tasks cells values some-values actions t =
    ap (λ (w : World). doing w t) (sym (noted-run (watch tasks) actions (opening tasks cells values) (no_notes, (opening tasks cells values, no_notes)))) ∙ (at-end (simulation tasks cells values some-values) actions).good.tracks t

module _ (old : State) (words : List ℕ) (tasks cells blocks : ℕ) (values : List ℕ) (allowed : refusal (open_questions (length words) tasks cells blocks values) ≡ none) (actions : List Action) where
  pub pending_swap_kind : (t : ℕ) (c : Call) (k e n : ℕ) → t < tasks → (calls_of (history pool (start old words tasks cells blocks values) actions)).pending t ≡ some c → c.start.op ≡ swap k e n →
      (record_at (run pool (start old words tasks cells blocks values) actions).0.records t).kind ≡ 2
  pending_swap_kind t c k e n l h o =
      let w = run figure (opening tasks cells values) actions in
      let d : tally_of (w.records t) ≡ some (Tracks.tallied c) = records_track tasks cells values (starting_values old words tasks cells blocks values allowed) actions t
      ∙ ap (λ x. Tracks.tally_of ((calls_of x).pending t)) (sym (same-history old words tasks cells blocks values allowed actions)) ∙ ap Tracks.tally_of h in
      ap (λ (r : Record). r.kind) ((together old words tasks cells blocks values allowed actions).agree.records t l).same ∙ go d (run_on_path (opening tasks cells values) (opening_on_path tasks cells values) actions t).1
    where
      go : {did : _} {m v : ℕ} {q : Record} → tally_of q ≡ some (Tracks.tallied c) → OnPath m v t did q → q.kind ≡ 2
      go {did} {m} {v} {q} d (inl i) = absurd (clash (ap tally_of i.0) d)
      go {did} {m} {v} {q} d (inr (y, p)) = swap-kind q k e n p.line (ap (λ (n : Tally). n.op) (some_inj (was_doing v did q p) d) ∙ o)
