-- Running what the shaker prints, the session program prints no line of a refusal.
use mathlib.Core.Path.{◌≡◌, refl, ap, ◌∙◌}
use mathlib.Core.Logic.{inl, inr}
use mathlib.Core.Option.{none}
use mathlib.Core.List.{List, [], ◌∷◌, ◌++◌}
use Prim.Native.Nat.{ℕ, ◌+◌}
use lib.ListN.{replicate}
use Rattle.history_spec.specs.Basics.{◌∈◌}
use Rattle.history_spec.specs.History.{Action, task_of, Event, refused, accepted, answered, history, run}
use Rattle.cells_spec.specs.Questions.{refusal}
use Rattle.cells_spec.specs.Answers.{Acted}
use Rattle.cells_spec.specs.Open.{opened, blank}
use Rattle.cells_spec.specs.Machine.{pool}
use Rattle.session_spec.specs.Lines.{event_line}
use Rattle.session_spec.specs.Printed.{event_lines, totals, add_events, end_text, played, after_open, pool_words, played_from, verdict_text, printed}
use Rattle.shake_spec.specs.Actions.{zero_start, zero_opening}
use Rattle.shake_spec.specs.Shaken.{shake_questions, shaken_actions, shaken}
use Rattle.shake_spec.specs.Played.{done_text, done_lines}
use Rattle.shake_spec.proofs.Allowed.{opening-accepted}
use Rattle.shake_spec.proofs.Accepted.{none_refused}
use Rattle.shake_spec.proofs.ReadShaken.{shaken_is_read}

-- an event that is no refusal
one_line : (i t : ℕ) (e : Event) → ((m : ℕ) → ¬ (refused m ≡ e)) → event_line i t e ≡ done_text t e
unfolding event_line
one_line i t (refused n) h = absurd (h n refl)
one_line i t (accepted x) h = refl
one_line i t (answered x r) h = refl

same_lines_lem : (i : ℕ) (h : List (Action × Event)) → ((a : Action) (m : ℕ) → ¬ ((a, refused m) ∈ h)) → event_lines i h ≡ done_lines h
unfolding event_lines done_lines
same_lines_lem i [] f = refl
same_lines_lem i ((a, e) ∷ h) f =
    rw (one_line i (task_of a) e (λ m q. f a m (inl (ap (λ (y : Event). (a, y)) q))), same_lines_lem (i + 1) h (λ b m x. f b m (inr x)))

plays : (n v b : ℕ) (l : List Action) → (opened blank (replicate (pool_words b) 0) n v b (replicate v 0)).outcome ≡ Acted → played_from (zero_opening n v b) l ≡ played n v (zero_start n v b) l
unfolding after_open zero_start
plays n v b l e = rw e

-- So the session program prints for it the lines of the finished calls, then the cells and the end, and no `(no ..)` line.
pub no_no_line : (seed tasks cells blocks length : ℕ) → refusal (shake_questions tasks cells blocks length) ≡ none →
    let start = zero_start tasks cells blocks in
    let actions = shaken_actions seed tasks cells blocks length in
    let events = history pool start actions in
    let end = run pool start actions in
    printed (shaken seed tasks cells blocks length) ≡ done_lines events ++ end_text tasks cells (add_events (totals 0 0) events) end.0 end.1
unfolding printed played
no_no_line g n v b k e =
    let l = shaken_actions g n v b k in
    let h = history pool (zero_start n v b) l in
    let y = run pool (zero_start n v b) l in
    ap verdict_text (shaken_is_read g n v b k e) ∙ plays n v b l (opening-accepted n v b k e)
    ∙ ap (λ (t : List ℕ). t ++ end_text n v (add_events (totals 0 0) h) y.0 y.1) (same_lines_lem 0 h (none_refused g n v b k e))
