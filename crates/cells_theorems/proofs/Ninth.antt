-- "No from 28 by 25" is not reached: a swap that line 25 did not answer came late, so the decision is the value that it expects, and
-- stays so; then line 28 finds it and goes on to 4.
use mathlib.Core.Path.{◌≡◌, refl, sym, ap, subst, ◌∙◌}
use mathlib.Core.Logic.{◌≢◌, ◌⊎◌, inl, inr}
use mathlib.Core.Bool.{true, false≢true}
use mathlib.Core.List.{List, [], ◌∷◌, ◌++◌}
use Prim.Native.Nat.{ℕ}
use native.Mathlib.Omega.{arith}
use lib.ListN.{get_or, take, drop}
use borrow.Author.Tests.{eq-eqb}
use Rattle.figure_lines.specs.declared.Record.{Record}
use Rattle.figure_lines.specs.Answers.{Result, Next, Go, Done}
use Rattle.figure_lines.specs.Record.{no_value}
use Rattle.figure_lines.specs.Lines.{Line, for25, for28, l3, line_of, access_at, attempt, counted, next_at}
use Rattle.history_spec.specs.Basics.{◌∈◌}
use Rattle.history_spec.specs.History as History
use Rattle.history_spec.specs.History.{Op, read, swap, Action, begin, step, untried, Response, run}
use Rattle.figure_cell.specs.Memory.{access_cell}
use Rattle.cells_spec.specs.Turn.{outcome_of}
use Rattle.figure.specs.Figure.{World, WorldAfter, figure_ran, opening, figure, tried_in}
use Rattle.cells_spec.specs.Events.{event_of}
use Rattle.figure_cell.specs.Paths.{paths, reached, by25, paths_of}
use Rattle.figure.specs.Traces.{Traced, Trace, no_trace, did_line, enter_line, figure_traces}
use Rattle.figure_moments.proofs.Reachable.{Reachable, next_reachable, opening_reachable}
use Rattle.figure_moments.proofs.Late.{through25, one_more, Late, act_late}
use Rattle.figure_cell.proofs.LineLaws.{same, ways_of}
use Rattle.figure.proofs.Records.{Sound, with_first, Begun, starts, begin-cases, Stepped, runs, step-cases, Dropped, leaves, drop-cases, act_sound}
use Rattle.figure.proofs.Worlds.{next_after}
use Rattle.figure.proofs.Paths.{start_sound, last_line}

-- the trace r of the figure, now w
record NotNinth (w : World) (r : Trace) : Type 0 where
  late : Late w r
  done : (x : Traced) → x ∈ r.done → x.lines ≢ by25

goes≢done : {q : Record} {f : Result} → Go q ≡ Done f → ⊥
goes≢done e = let z : ◌≡◌ {A = ℕ} 0 1 = cc in omega arith

module _ (v : ℕ) (w : World) (i : Reachable v w) (r : Trace) (s : Sound w r) (o : NotNinth w r) where
  abbrev now : ℕ → Line
  now t = line_of (w.records t)

  abbrev Done' : Trace → Type 0
  Done' r' = (x : Traced) → x ∈ r'.done → x.lines ≢ by25

  module _ (t : ℕ) where
    abbrev q : Record
    q = w.records t

    -- line 28 finds the expected value, so the call does not end there
    ends : (f : Result) → next_after w t ≡ Done f → did_line now r t ≢ by25
    ends f e z = go (one_more (r.did t) (now t) (ap through25 z))
      where
        at_28 : now t ≡ l3 for28
        at_28 = last_line (r.did t) (now t) z

        go : (through25 (r.did t) ≡ true) ⊎ (now t ≡ l3 for25) → ⊥
        go (inl k) =
            let y = subst (λ ℓ. let x = access_cell (w.cell q.cell) (access_at ℓ t q) in next_at ℓ t (counted q (attempt (access_at ℓ t q) x.value)) x.value ≡ Done f) at_28 e in
            goes≢done (rw (eq-eqb _ _ (o.late t k).is) at y)
        go (inr k) = false≢true (sym (ap (same (l3 for25)) (sym k ∙ at_28)))

    line-done : (n : Next) → next_after w t ≡ n → Done' (enter_line now r (step t) (event_of (tried_in w t (w.records t)) (outcome_of n)))
    line-done (Go p) e = o.done
    line-done (Done f) e = with_first (λ x. x.lines ≢ by25) _ r.done (ends f e) o.done

    step-done : {f : WorldAfter} → Stepped w t (r.did t) f → Done' (enter_line now r (step t) (event_of (tried_in w t (w.records t)) f.outcome))
    unfolding figure_ran
    step-done (Stepped.refuses n e) = o.done
    step-done (runs n p) = line-done (next_after w t) refl

  act-done : (a : Action) → Done' (enter_line now r a (figure w a).1)
  act-done (begin t op) = go (begin-cases w t op)
    where
      go : {f : WorldAfter} → Begun w t op f → Done' (enter_line now r (begin t op) (event_of untried f.outcome))
      go (Begun.refuses n) = o.done
      go (starts a) = o.done
  act-done (step t) = step-done t (step-cases w t (r.did t) (s.pending t))
  act-done (History.drop t) = go (drop-cases w t (r.did t) (s.pending t))
    where
      go : {f : WorldAfter} → Dropped w t (r.did t) f → Done' (enter_line now r (History.drop t) (event_of untried f.outcome))
      go (Dropped.refuses n e) = o.done
      go (leaves n p) = o.done

traces-kept : (v : ℕ) (w : World) → Reachable v w → (r : Trace) → Sound w r → NotNinth w r → (l : List Action) → NotNinth (run figure w l) (figure_traces w r l)
traces-kept v w i r s o [] = o
traces-kept v w i r s o (a ∷ l) = traces-kept v (figure w a).0 (next_reachable v w i a) (enter_line (λ t. line_of (w.records t)) r a (figure w a).1) (act_sound w r s a)
    (record { late = act_late v w i r s o.late a; done = act-done v w i r s o a }) l

at-opening : (w : World) → NotNinth w no_trace
at-opening w = record { late = λ t h. absurd (false≢true h); done = λ x i. absurd i }

-- From an opening whose values are other than none, no finished call did the lines of "no from 28 by 25".
pub never_ninth : (n v : ℕ) (vs : List ℕ) → ((k : ℕ) → get_or vs k 0 ≢ no_value) → (l : List Action) (x : Traced) → x ∈ (figure_traces (opening n v vs) no_trace l).done → x.lines ≢ by25
never_ninth n v vs ok l = (traces-kept v (opening n v vs) (opening_reachable n v vs ok) no_trace (start_sound n v vs) (at-opening (opening n v vs)) l).done

-- so it is on a path that is its own, and on one of the twelve others
pub own_path : (op : Op) (a : Response) (p : List Line) → p ∈ ways_of op a → p ≢ by25 → p ∈ paths_of op a
own_path (read k) a p i n = i
own_path (swap k e m) a p (inl z) n = absurd (n z)
own_path (swap k e m) a p (inr i) n = i

pub one_of_twelve : (p : List Line) → p ∈ paths → p ≢ by25 → p ∈ reached
one_of_twelve p i n = go (take 8 paths) i
  where
    go : (ps : List (List Line)) → p ∈ (ps ++ (by25 ∷ drop 9 paths)) → p ∈ (ps ++ drop 9 paths)
    go [] (inl e) = absurd (n e)
    go [] (inr i) = i
    go (y ∷ ps) (inl e) = inl e
    go (y ∷ ps) (inr i) = inr (go ps i)
