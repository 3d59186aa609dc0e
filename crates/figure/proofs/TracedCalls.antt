-- A trace has the finished calls of its history, one by one: as begun, and with the same answer and counts.
use mathlib.Core.Path.{◌≡◌, refl}
use mathlib.Core.Option.{Option, none, some}
use mathlib.Core.List.{List, [], ◌∷◌, map}
use Prim.Native.Nat.{ℕ}
use Rattle.figure_lines.specs.Lines.{Line}
use Rattle.history_spec.specs.Basics.{upd}
use Rattle.history_spec.specs.History.{Op, Action, begin, step, drop, Attempt, Event, refused, accepted, answered, history, Call, Calls, no_calls, called, advanced, closed, enter, enter_all, calls_of, IsBusy, Allowed, WellFormed}
use Rattle.history_spec.proofs.Basics.{upd-cases}
use Rattle.figure.specs.Traces.{Trace, no_trace, enter_line, traces, finished_report, traced_report}
use Rattle.figure.proofs.Records.{upd_both}

-- a pending call is the one that the trace has as begun
abbrev OfOp : Option Call → Op → Type 0
OfOp none op = Unit {0}
OfOp (some c) op = c.start.op ≡ op

record Same (b : Calls) (r : Trace) : Type 0 where
  pending : (t : ℕ) → OfOp (b.pending t) (r.op t)
  finished : map finished_report b.finished ≡ map traced_report r.done

module _ (next : ℕ → Line) (size : ℕ) (b : Calls) (r : Trace) (s : Same b r) where
  put : (t : ℕ) (o : Option Call) → OfOp o (r.op t) → (u : ℕ) → OfOp (upd b.pending t o u) (r.op u)
  put t o h u = upd-cases (λ o. OfOp o (r.op u)) b.pending t o u (λ e. rw e h) (λ e. s.pending u)

  advances : (o : Option Call) (op : Op) (x : Attempt) → OfOp o op → OfOp (advanced b x o) op
  advances none op x h = tt
  advances (some c) op x h = h

  enters : (a : Action) (e : Event) → Allowed size b a e → Same (enter b a e) (enter_line next r a e)
  enters a (refused n) w = record { pending = s.pending; finished = s.finished }
  enters (begin t op) (accepted x) w = record { pending = upd_both (λ u. OfOp) b.pending r.op t (some (called b t op)) op refl s.pending; finished = s.finished }
  enters (begin t op) (answered x y) w = absurd w
  enters (step t) (accepted x) w = record { pending = put t (advanced b x (b.pending t)) (advances (b.pending t) (r.op t) x (s.pending t)); finished = s.finished }
  enters (drop t) (accepted x) w = record { pending = put t none tt; finished = s.finished }
  enters (drop t) (answered x y) w = absurd w
  enters (step t) (answered x y) w = record { pending = put t none tt; finished = go (b.pending t) (s.pending t) w }
    where
      go : (o : Option Call) → OfOp o (r.op t) → IsBusy o → map finished_report (closed (advanced b x o) y b.finished) ≡ ((r.op t, y) ∷ map traced_report r.done)
      go none k w = absurd w
      go (some c) k w = rw (k, s.finished)

module _ {S : Type 0} (act : S → Action → S × Event) (next : S → ℕ → Line) (size : ℕ) where
  all_same : (l : List Action) (s : S) (b : Calls) (r : Trace) → Same b r → WellFormed size b (history act s l) → Same (enter_all b (history act s l)) (traces act next s r l)
  all_same [] s b r k w = k
  all_same (a ∷ l) s b r k w = all_same l (act s a).0 (enter b a (act s a).1) (enter_line (next s) r a (act s a).1) (enters (next s) size b r k a (act s a).1 w.0) w.1

  pub same-calls : (s : S) (l : List Action) → WellFormed size no_calls (history act s l) → map finished_report (calls_of (history act s l)).finished ≡ map traced_report (traces act next s no_trace l).done
  same-calls s l w = (all_same l s no_calls no_trace (record { pending = λ t. tt; finished = refl }) w).finished
