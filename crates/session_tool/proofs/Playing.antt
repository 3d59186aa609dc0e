-- The loop over the actions, the opening before it, and the whole.
use mathlib.Core.Path.{◌≡◌, refl, sym, ap, ◌∙◌}
use mathlib.Core.List.{List, ◌∷◌, ◌++◌, map, append_assoc}
use Prim.Native.Nat.{ℕ, ◌+◌, ◌≤◌, ◌<◌}
use lib.ListN.{length, drop, get_or, replicate}
use Rattle.cells_spec.specs.declared.State.{State}
use Rattle.cells_spec.specs.Answers.{Said, Refused, Acted, Ended}
use Rattle.cells_spec.specs.Open.{After, leaving, blank}
use Rattle.history_spec.specs.History.{Action, task_of, Attempt, untried, history, run}
use Rattle.cells_spec.specs.Events.{event_of}
use Rattle.cells_spec.specs.Machine.{does, tried_by, pool}
use Rattle.session_engine.proofs.Listed.{action_then, no_action as no_more}
use Rattle.session_spec.specs.Session.{Verdict, bad, session, verdict}
use Rattle.session_engine.specs.Start.{start_after, start_of}
use Rattle.session_engine.specs.Tool.{text_within}
use Rattle.session_engine.proofs.Starting.{opened-cases}
use Rattle.session_spec.specs.Lines.{event_line}
use Rattle.session_spec.specs.Printed.{Totals, event_lines, add_event, add_events, end_text, after_open, pool_words, verdict_text, printed, printed_within}
use Rattle.session_tool.specs.Loop.{start_text, played_on}

-- THE LOOP

-- a line and a count do not depend on the hardware CAS of the action
same_line : (i t : ℕ) (x : Attempt) (o : Said) → event_line i t (event_of x o) ≡ event_line i t (event_of untried o)
unfolding event_line
same_line i t x (Refused n) = refl
same_line i t x Acted = refl
same_line i t x (Ended f) = refl

same_count : (z : Totals) (x : Attempt) (o : Said) → add_event z (event_of x o) ≡ add_event z (event_of untried o)
same_count z x (Refused n) = refl
same_count z x Acted = refl
same_count z x (Ended f) = refl

module _ (n v : ℕ) (f : ℕ → Action) (l : List ℕ) (i : ℕ) (z : Totals) (s : State) (p : List ℕ) where
  first : (a : Action) (r : List Action) → let x = does s p a in
      played_on n v i z (s, p) (a ∷ r) ≡ event_line i (task_of a) (event_of untried x.outcome) ++ played_on n v (i + 1) (add_event z (event_of untried x.outcome)) (x.state, x.pool) r
  unfolding played_on event_lines
  first a r =
      let x = does s p a in
      let e = event_of (tried_by s p a) x.outcome in
      let h = history pool (x.state, x.pool) r in
      let y = run pool (x.state, x.pool) r in
      let rest : Totals → List ℕ = λ z. event_lines (i + 1) h ++ end_text n v (add_events z h) y.0 y.1 in
      append_assoc (event_line i (task_of a) e) (event_lines (i + 1) h) (end_text n v (add_events (add_event z e) h) y.0 y.1)
      ∙ ap (λ (t : List ℕ). t ++ rest (add_event z e)) (same_line i (task_of a) (tried_by s p a) x.outcome)
      ∙ ap (λ (z : Totals). event_line i (task_of a) (event_of untried x.outcome) ++ rest z) (same_count z (tried_by s p a) x.outcome)

  pub one_action : {z' : Totals} {s' : State} {p' : List ℕ} {o : Said} {a : Action} {t : ℕ} → i < length l → a ≡ f (get_or l i 0) → leaving s' p' o ≡ does s p a → t ≡ task_of a → z' ≡ add_event z (event_of untried o) →
      played_on n v i z (s, p) (drop i (map f l)) ≡ event_line i t (event_of untried o) ++ played_on n v (i + 1) z' (s', p') (drop (i + 1) (map f l))
  one_action {a = a} h ea ed et ez =
      let rest = drop (i + 1) (map f l) in
      let prints-on : After → List ℕ = λ x. event_line i (task_of a) (event_of untried x.outcome) ++ played_on n v (i + 1) (add_event z (event_of untried x.outcome)) (x.state, x.pool) rest in
      rw (action_then f l i h, ← ea, et, ez) (first a rest ∙ ap prints-on (sym ed))

  pub no_action : length l ≤ i → played_on n v i z (s, p) (drop i (map f l)) ≡ end_text n v z s p
  unfolding played_on event_lines
  no_action h = rw (no_more f l i h)

-- THE OPENING

started : (v : Verdict) → start_text (start_of v) ≡ verdict_text v
unfolding start_after after_open
started (bad n) = refl
started (session o l) = opened-cases (λ r. start_text (start_after o.tasks o.cells l r) ≡ after_open o.tasks o.cells l r) blank (replicate (pool_words o.blocks) 0) o.tasks o.cells o.blocks o.values (λ q. refl) refl

-- THE WHOLE: what `run_tool` promises is the definition

pub text-is : (room : ℕ) (s : List ℕ) → text_within 921000 (start_text (start_of (verdict s))) room ≡ printed_within room s
unfolding text_within printed_within printed
text-is room s = rw started
