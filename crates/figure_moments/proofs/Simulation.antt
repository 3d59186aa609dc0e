-- The figure is simulated by the sequential specification: all that demand 3 asks of it, put together. The proof watches a second figure, in
-- which withdrawn calls that have stored halt instead; what is proved of a step there is what holds here.
use mathlib.Core.Path.{◌≡◌, refl, sym, ap, subst, ◌∙◌}
use mathlib.Core.Logic.{◌≢◌, ◌⊎◌, inl, inr}
use mathlib.Core.Bool.{Bool, true, false, not, cond, false≢true}
use mathlib.Core.Option.{Option, none, some}
use mathlib.Core.List.{List, map}
use Prim.Native.Nat.{ℕ, suc, ◌+◌, ◌<◌}
use native.Mathlib.Omega.{arith}
use lib.Dec.{eqb, T}
use lib.ListN.{get_or}
use Rattle.figure_lines.specs.declared.Record.{Record}
use Rattle.figure_lines.specs.Answers.{Next, Go, Done, Result}
use Rattle.figure_lines.specs.Record.{no_value, first, idle, op_of}
use Rattle.figure_lines.specs.Lines.{Line, line_of, access_of, next_of}
use Rattle.history_spec.specs.History.{Op, read, swap, Action, begin, step, drop, Attempt, untried, Event, refused, accepted, answered, history, run, WithdrawnCall, Calls, calls_of, Response}
use Rattle.history_spec.specs.Basics.{upd, ◌∈◌}
use Rattle.history_spec.specs.Linearization.{replies, Linearizes}
use Rattle.history_spec.specs.Demand3.{Meets, NoHardwareReads, clear_after}
use Rattle.history_spec.specs.Moments.{before, Spot, Mark, point_of, reply_of, Names, beside, ListedExactly}
use Rattle.history_spec.proofs.Basics.{either, clash, upd_same, upd_off}
use Rattle.history_linearization.proofs.Meets.{meets, reads_meet}
use Rattle.history_linearization.proofs.Moments as Placing
use Rattle.history_linearization.proofs.Moments.{marks_linearize, marks-answers}
use Rattle.history_linearization.proofs.Unnamed.{note_both, names_both, same-run, same-linearized}
use Rattle.history_linearization.proofs.Tracks.{Tracks}
use Rattle.history_linearization.proofs.MovesOne as Placed
use Rattle.history_linearization.proofs.Parked.{with_parked}
use Rattle.history_linearization.proofs.Moves.{firm, knows}
use Rattle.history_linearization.proofs.EveryAction as Every
use Rattle.history_linearization.proofs.EveryAction.{at-end}
use Rattle.history_linearization.proofs.Simulation.{Phase, late, Ghost, unplaced, parks, Knowledge, Tally, Move, Grown, Why, Sided, Named, Lands, Leaves, Keeps, Forward, Quietly, QuietSteps}
use Rattle.history_linearization.proofs.Simulation as Sim
use Rattle.figure_cell.specs.Memory.{access_cell}
use Rattle.cells_spec.specs.Turn.{record_after, outcome_of}
use Rattle.figure.specs.Figure.{World, with_task, with_both, WorldAfter, figure_ran, opening, figure, active, clear, tried_in, first_of}
use Rattle.cells_spec.specs.Events.{event_of}
use Rattle.figure_moments.specs.Moments.{Waiting, Notes, no_notes, nothing_noted, noted, drop_noted, ruled, stands, landed, lands, waits, note, noting, names, sees, moments}
use Rattle.figure.proofs.Records.{Pending, OnPath, AllOnPath, Accepted, Begun, starts, begin-cases, Stepped, runs, step-cases, Dropped, leaves, drop-cases, act_on_path, begun_on_path, next_on_path}
use Rattle.figure.proofs.Tallies.{tally, tally_of, doing, follows, within}
use Rattle.history_spec.proofs.ListTests.{by_test}
use Rattle.figure_cell.proofs.Classes.{stored, storing}
use Rattle.figure_cell.proofs.Invariant.{View}
use Rattle.figure_cell.proofs.Invariant as Local
use Rattle.figure_cell.proofs.Steps.{Step, Reason, Out}
use Rattle.figure_cell.proofs.Dropping.{kept}
use Rattle.figure.proofs.Views.{view}
use Rattle.figure.proofs.Operations.{busy-line, busy_doing}
use Rattle.figure.proofs.Worlds.{Good, pending-at, cell_after, next_after, step_after}
use Rattle.figure_moments.proofs.Known.{doing_in, clock, known, κ⁺, out, move_of, may, kept-all}
use Rattle.figure_moments.proofs.Dated.{Dated, dated_begun, placed-named, unplaced_unnamed, why, sided, dated_after}
use Rattle.figure_moments.proofs.Begins.{begun_good, opening_good, good_grown}
use Rattle.figure_moments.proofs.Drops.{parked_world, parked_notes, kept_either, parked_good, parked_dated}
use Rattle.figure_moments.proofs.Beyond.{Beyond, beyond, sight_by, Same, same_passing, same-begun, same-stepped, same-dropped, same-ruled, same-stands, same-lands, same-waiting, same-waits, same_awaited, stands-idle}
use Rattle.figure_moments.proofs.Withdrawn.{Held, Left, left_passing, left-begun, left-with, deciding, left-stepped, lands_so, goes_on}
use Rattle.figure_moments.proofs.Leaving.{left_notes, waits_late, left-dropped}
use Rattle.figure.proofs.Quietly.{QuietIn, ready, clear-ready, reads-ready, is-busy, stays, step_quietly, begin_quietly, drop_quietly}

-- THE FIGURE WITH ITS NOTES, and the other one with its own

abbrev pub Watched : Type 0
Watched = World × (Notes × Beyond)

abbrev pub acting_in : Watched → ℕ → Option Tally
acting_in x = doing x.1.1.0

abbrev pub clock_of : Watched → ℕ
clock_of x = x.1.1.1.now

module _ (n : ℕ) where
  abbrev pub watch : Notes × Beyond → World → Action → Event → Notes × Beyond
  watch = note_both figure (note figure sees) (names figure sees) (beyond n)

  abbrev pub watch_names : Names Watched
  watch_names = names_both figure (note figure sees) (names figure sees) (beyond n)

-- who waits by the figure's notes; and where the withdrawn calls stand that halted in the other one
abbrev pub held_of : (n : ℕ) → Notes → World → Notes → Held
held_of n o w p = record { waiting = o.waiting; withdrawn = λ m. stands p (n + m) (sees w (n + m)) }

held_again : (n : ℕ) (h : Held) (o : Notes) (w : World) (p : Notes) (g : Ghost) → h.waiting ≡ o.waiting → Left n h w p g → Left n (held_of n o w p) w p g
held_again n h o w p g e L = left-with n h (held_of n o w p) w p g (λ j m. L.spot m j) e L

abbrev pub stands_in : (n : ℕ) → Watched → ℕ → Option Spot
stands_in n x m = stands x.1.1.1 (n + m) (sees x.1.1.0 (n + m))

-- nobody asks what the tasks have seen
abbrev all_known : Knowledge
all_known = record { saw = λ u m v. Unit {0}; early = λ u. Unit {0} }

-- what holds of the figure, with n tasks and v cells, from an opening on
pub record Invariant (n v : ℕ) (x : Watched) (g : Ghost) (κ : Knowledge) : Type 0 where
  pub size : x.0.cells ≡ v
  pub tasks : x.0.tasks ≡ n
  pub on_path : AllOnPath x.0
  pub good : Good x.1.1.0 g (known x.1.1.1 κ)
  pub dated : Dated x.1.1.0 x.1.1.1 g
  pub same : Same n x.0 x.1.0 x.1.1.0 x.1.1.1
  pub left : Left n (held_of n x.1.0 x.1.1.0 x.1.1.1) x.1.1.0 x.1.1.1 g

-- FORWARD

module _ (n v : ℕ) (w : World) (o : Notes) (w⁺ : World) (p : Notes) (g : Ghost) (κ : Knowledge) (i : Invariant n v (w, (o, (w⁺, p))) g κ) where
  abbrev Inv : Watched → Ghost → Knowledge → Type 0
  Inv = Invariant n v

  abbrev x : Watched
  x = (w, (o, (w⁺, p)))

  abbrev κ₀ : Local.Knowledge
  κ₀ = known p κ

  abbrev Forwards : Action → Watched → Event → Type 1
  Forwards a x' e = Forward acting_in clock_of (watch_names n) n Inv x g κ a x' e

  -- the same, of the other figure alone
  beyond_grown : {x' : Watched} {g' : Ghost} {κ' : Knowledge} → Grown acting_in clock_of (watch_names n) x x' g' κ κ' → Grown doing_in clock (names figure sees) (w⁺, p) x'.1.1 g' κ κ'
  beyond_grown r = record { saw = r.saw; early = r.early; sees = r.sees; fresh_early = r.fresh_early }

  as_may : (t : ℕ) (op : Op) (m : Move) → Sim.May doing_in (w⁺, p) g κ t op m → Sim.May acting_in x g κ t op m
  as_may t op Sim.still e = e
  as_may t op Sim.act e = e
  as_may t op Sim.freeze e = e
  as_may t op Sim.store e = e
  as_may t op Sim.settle e = e
  as_may t op (Sim.land u a) e = e

  -- a step of task t
  module _ (t : ℕ) (did : List Line) (task : t < w.tasks) (q : Pending w.cells did (w.records t)) where
    low : t < n
    low = subst (λ n. t < n) i.tasks task

    low⁺ : t < w⁺.tasks
    low⁺ = omega (arith, low, i.same.least)

    pub q⁺ : Pending w⁺.cells did (w⁺.records t)
    q⁺ = subst (λ (r : Record). Pending w⁺.cells did r) (sym (i.same.records t low)) (subst (λ n. Pending n did (w.records t)) (sym i.same.cells) q)

    abbrev s : View
    s = view w⁺ g (w⁺.records t).cell

    abbrev later : Phase → ℕ → Local.Knowledge
    later = κ⁺ w⁺ p g κ i.good t did q⁺

    abbrev x₁ : Watched
    x₁ = (step_after w t, (noted o t (sees w t), (step_after w⁺ t, noted p t (sees w⁺ t))))

    pub same_next : next_after w⁺ t ≡ next_after w t
    same_next = λ j. let r = i.same.records t low j in next_of t r (access_cell (i.same.cell j r.cell) (access_of t r)).value

    abbrev moves : (z : Step s κ₀ later t (cell_after w⁺ t) (record_after (next_after w⁺ t))) → AllOnPath (step_after w t) → Sim.Moves acting_in clock_of (watch_names n) n Inv x x₁ g κ t
    moves z path = record {
      now = tally (w⁺.records t);
      was = busy_doing (w⁺.records t) (busy-line (w⁺.records t) q⁺.line);
      move = move_of w⁺ p g κ i.good t did q⁺ z.change;
      may = as_may t (op_of (w⁺.records t)) (move_of w⁺ p g κ i.good t did q⁺ z.change) (may w⁺ p g κ i.good t did q⁺ z.change z.can);
      keeps = λ κ' grown.
          let G = kept-all w⁺ p g κ i.good t did q⁺ (cell_after w⁺ t) (record_after (next_after w⁺ t)) (stays w⁺ t did q⁺).0 z.change z.can z.kept
          (next_on_path w⁺ i.good.on_path t did low⁺ q⁺ (w⁺.records t).cell (cell_after w⁺ t) _) κ' (beyond_grown grown) in
          let E = dated_after w⁺ p g κ i.good i.dated t did q⁺ z.change z.can z.current in
          record {
            size = i.size;
            tasks = i.tasks;
            on_path = path;
            good = G;
            dated = E;
            same = same-stepped n w o w⁺ p i.same t low;
            left = held_again n _ (noted o t (sees w t)) (step_after w⁺ t) (noted p t (sees w⁺ t)) _ (same-waiting n w o w⁺ p i.same t low)
                (left-stepped n (held_of n o w⁺ p) w⁺ p g κ i.good i.dated i.left t low did q⁺ z.change z.can κ' G E);
          };
    }

    as_why : (a : Response) (m m' : ℕ) (mv : Move) → m ≡ m' → Why doing_in clock (names figure sees) (w⁺, p) g κ t (op_of (w⁺.records t)) a m mv → Why acting_in clock_of (watch_names n) x g κ t (op_of (w⁺.records t)) a m' mv
    as_why a m m' mv e (Sim.acts y h) = Sim.acts y (sym e ∙ h)
    as_why a m m' mv e (Sim.acted f y h) = Sim.acted f y (sym e ∙ h)
    as_why a m m' mv e (Sim.observes v c r l f u) = Sim.observes v (subst (λ m. κ.saw t m v) e c) r l f u

    -- the line's move, and why it may answer
    line_forward : (y : Next) → next_after w t ≡ y → Out s κ₀ later t (cell_after w⁺ t) y → AllOnPath (step_after w t) → let e = event_of (tried_in w t (w.records t)) (outcome_of y) in
        Forwards (step t) (with_both w (w.records t).cell (cell_after w t) t (record_after y), watch n (o, (w⁺, p)) w (step t) e) e
    line_forward (Go r) e z path = subst (λ (y : Next). Sim.Moves acting_in clock_of (watch_names n) n Inv x (with_both w (w.records t).cell (cell_after w t) t (record_after y), (noted o t (sees w t), (step_after w⁺ t, noted p t (sees w⁺ t)))) g κ t) e
        (moves (subst (λ (y : Next). Step s κ₀ later t (cell_after w⁺ t) (record_after y)) (sym (same_next ∙ e)) z) path)
    line_forward (Done f) e z path = subst (λ (y : Next). Sim.Answers acting_in clock_of (watch_names n) n Inv x (with_both w (w.records t).cell (cell_after w t) t (record_after y), (noted o t (sees w t), (step_after w⁺ t, noted p t (sees w⁺ t)))) g κ t f.answer) e
        (go (subst (λ (y : Next). (z : Step s κ₀ later t (cell_after w⁺ t) (record_after y)) × Reason s κ₀ t f.answer z.change) (sym (same_next ∙ e)) z))
      where
        named : ruled p t (sees w⁺ t) f.answer ≡ ruled o t (sees w t) f.answer
        named = same-ruled n w o w⁺ p i.same t low f.answer

        go : (z : Step s κ₀ later t (cell_after w⁺ t) (record_after (next_after w⁺ t))) × Reason s κ₀ t f.answer z.change → Sim.Answers acting_in clock_of (watch_names n) n Inv x x₁ g κ t f.answer
        go z = record {
          moves = moves z.0 path;
          why = as_why f.answer _ _ _ (ap (λ (r : Spot). r.moment) named) (why w⁺ p g κ i.good i.dated t did q⁺ f.answer z.0.change z.1);
          sided = subst (Sided (op_of (w⁺.records t)) f.answer) named (sided w⁺ p g κ i.good i.dated t did q⁺ f.answer);
        }

    -- a drop
    abbrev u : ℕ
    u = n + p.now

    free : w⁺.records u ≡ idle
    free = i.same.ahead p.now (omega arith)

    left_there : Left n (left_notes (held_of n o w⁺ p) w⁺ p t) (parked_world w⁺ t u) (parked_notes p t u) (parks g t u)
    left_there = left-dropped n (held_of n o w⁺ p) w⁺ p g κ i.good i.left t low did q⁺ low⁺ i.same.most free

    drop_forward : AllOnPath (with_task w t idle) → Forwards (drop t) (with_task w t idle, (drop_noted o t (sees w t), (parked_world w⁺ t u, parked_notes p t u))) (accepted untried)
    drop_forward path κ' grown passes = record {
      size = i.size;
      tasks = i.tasks;
      on_path = path;
      good = parked_good w⁺ p g κ i.good t u did q⁺ low⁺ i.same.most free κ' (beyond_grown grown) (record { saw = passes.saw; early = passes.early });
      dated = parked_dated w⁺ p g κ i.good t u did q⁺ low⁺ i.same.most free i.dated;
      same = same-dropped n w o w⁺ p i.same t low;
      left = held_again n _ (drop_noted o t (sees w t)) (parked_world w⁺ t u) (parked_notes p t u) (parks g t u) (same_awaited n w o w⁺ p i.same t low) left_there;
    }

    -- a swap that would wait finds none waiting: its late store is the only one that is awaited in its cell
    pub waits-alone : waits o t (sees w t) ≡ true → o.waiting (w.records t).cell ≡ none
    waits-alone e = go (o.waiting (w.records t).cell) refl
      where
        its : g.phase (w.records t).cell ≡ late t
        its = subst (λ (r : Record). g.phase r.cell ≡ late t) (i.same.records t low) (waits_late n (held_of n o w⁺ p) w⁺ p g κ i.good i.left t low did q⁺ low⁺ i.same.most free (rw (same-waits n w o w⁺ p i.same t low ∙ e) tt))

        go : (y : Option Waiting) → o.waiting (w.records t).cell ≡ y → o.waiting (w.records t).cell ≡ none
        go none z = z
        go (some a) z = let m : t ≡ n + a.drop = let k : late t ≡ late (n + a.drop) = sym its ∙ (i.left.one_waits (w.records t).cell a z).phase in cc in absurd (omega (arith, low))

    -- WHERE THE WITHDRAWN SWAPS STAND AFTER IT

    step_of : (y : Next) → Out s κ₀ later t (cell_after w⁺ t) y → Step s κ₀ later t (cell_after w⁺ t) (record_after y)
    step_of (Go r) z = z
    step_of (Done f) z = z.0

    lands-after : Lands (lands o (sees w⁺ t)) (λ m. stands p (n + m) (sees w⁺ (n + m))) (λ m. stands (noted p t (sees w⁺ t)) (n + m) (sees (step_after w⁺ t) (n + m)))
    lands-after =
        let z = step_of (next_after w⁺ t) (out w⁺ p g κ i.good t did q⁺) in
        let G = kept-all w⁺ p g κ i.good t did q⁺ (cell_after w⁺ t) (record_after (next_after w⁺ t)) (stays w⁺ t did q⁺).0 z.change z.can z.kept
        (next_on_path w⁺ i.good.on_path t did low⁺ q⁺ (w⁺.records t).cell (cell_after w⁺ t) _) all_known (record { saw = λ u a c d e m v h. tt; early = λ u a c d e h. tt; sees = λ u a c d e h. tt; fresh_early = λ u a d h. tt }) in
        let E = dated_after w⁺ p g κ i.good i.dated t did q⁺ z.change z.can z.current in
        lands_so n (held_of n o w⁺ p) w⁺ p g κ i.good i.dated i.left t low did q⁺ z.change z.can all_known G E

    leaves_going : Lands (lands o (sees w t)) (λ m. stands p (n + m) (sees w⁺ (n + m))) (λ m. stands (noted p t (sees w⁺ t)) (n + m) (sees (step_after w⁺ t) (n + m)))
    leaves_going = subst (λ (r : Option (ℕ × Spot)). Lands r (λ m. stands p (n + m) (sees w⁺ (n + m))) (λ m. stands (noted p t (sees w⁺ t)) (n + m) (sees (step_after w⁺ t) (n + m)))) (same-lands n w o w⁺ p i.same t low) lands-after

    leaves-ending : (f : Result) → next_after w t ≡ Done f → (m : ℕ) → stands (noted p t (sees w⁺ t)) (n + m) (sees (step_after w⁺ t) (n + m)) ≡ stands p (n + m) (sees w⁺ (n + m))
    leaves-ending f e = go (deciding n (held_of n o w⁺ p) w⁺ p g κ i.good i.dated i.left t low did q⁺) refl
      where
        go : (d : Bool) → deciding n (held_of n o w⁺ p) w⁺ p g κ i.good i.dated i.left t low did q⁺ ≡ d → (m : ℕ) → stands (noted p t (sees w⁺ t)) (n + m) (sees (step_after w⁺ t) (n + m)) ≡ stands p (n + m) (sees w⁺ (n + m))
        go true d = absurd (goes_on n (held_of n o w⁺ p) w⁺ p g κ i.good i.dated i.left t low did q⁺ (rw d tt) f (same_next ∙ e))
        go false d = subst (λ (h : Bool). Lands (cond h (landed (o.waiting (w⁺.records t).cell) (w⁺.records t).loaded) none) (λ m. stands p (n + m) (sees w⁺ (n + m))) (λ m. stands (noted p t (sees w⁺ t)) (n + m) (sees (step_after w⁺ t) (n + m)))) d lands-after

    leaves-dropped : (stands (parked_notes p t u) (n + p.now) (sees (parked_world w⁺ t u) (n + p.now)) ≡ stands o t (sees w t)) × ((m : ℕ) → m ≢ p.now → stands (parked_notes p t u) (n + m) (sees (parked_world w⁺ t u) (n + m)) ≡ stands p (n + m) (sees w⁺ (n + m)))
    leaves-dropped = (
      sym (left_there.spot p.now) ∙ upd_same (λ m. stands p (n + m) (sees w⁺ (n + m))) p.now (stands p t (sees w⁺ t)) ∙ same-stands n w o w⁺ p i.same t low,
      λ m h. sym (left_there.spot m) ∙ upd_off (λ m. stands p (n + m) (sees w⁺ (n + m))) p.now (stands p t (sees w⁺ t)) m h,
    )

  -- a refused action
  passing : Keeps acting_in clock_of (watch_names n) n Inv x (w, (nothing_noted o, (w⁺, nothing_noted p))) g κ
  passing κ' grown = record {
    size = i.size;
    tasks = i.tasks;
    on_path = i.on_path;
    good = good_grown w⁺ p g κ κ' i.good (beyond_grown grown);
    dated = record { placed = i.dated.placed; since = i.dated.since };
    same = same_passing n w o w⁺ p i.same;
    left = left_passing n (held_of n o w⁺ p) w⁺ p g i.left;
  }

  step_forward : (t : ℕ) (did : List Line) {f : WorldAfter} → Stepped w t did f → AllOnPath f.world → let e = event_of (tried_in w t (w.records t)) f.outcome in Forwards (step t) (f.world, watch n (o, (w⁺, p)) w (step t) e) e
  unfolding figure_ran
  step_forward t did (Stepped.refuses m e) path = passing
  step_forward t did (runs m q) path = line_forward t did m q (next_after w t) refl (subst (Out (s t did m q) κ₀ (later t did m q) t (cell_after w⁺ t)) (same_next t did m q) (out w⁺ p g κ i.good t did (q⁺ t did m q))) path

  drop_cases_forward : (t : ℕ) (did : List Line) {f : WorldAfter} → Dropped w t did f → AllOnPath f.world → let e = event_of untried f.outcome in Forwards (drop t) (f.world, watch n (o, (w⁺, p)) w (drop t) e) e
  drop_cases_forward t did (Dropped.refuses m e) path = passing
  drop_cases_forward t did (leaves m q) path = drop_forward t did m q path

  begin_forward : (t : ℕ) (op : Op) {f : WorldAfter} → Begun w t op f → AllOnPath f.world → let e = event_of untried f.outcome in Forwards (begin t op) (f.world, watch n (o, (w⁺, p)) w (begin t op) e) e
  begin_forward t op (Begun.refuses m) path = passing
  begin_forward t op (starts a) path = λ κ' grown. record {
    size = i.size;
    tasks = i.tasks;
    on_path = path;
    good = begun_good w⁺ p g κ i.good t op a⁺ (begun_on_path w⁺ i.good.on_path t op a⁺) κ' (beyond_grown grown);
    dated = dated_begun w⁺ p g i.dated t (first_of op) (not_storing op);
    same = same-begun n w o w⁺ p i.same t l op;
    left = held_again n _ (nothing_noted o) (with_task w⁺ t (first_of op)) (nothing_noted p) (unplaced g t) refl (left-begun n (held_of n o w⁺ p) w⁺ p g i.left t l op);
  }
    where
      l : t < n
      l = subst (λ n. t < n) i.tasks a.task

      a⁺ : Accepted w⁺ t op
      a⁺ = record { task = omega (arith, l, i.same.least); cell = rw i.same.cells a.cell; free = rw (i.same.records t l) a.free; values = a.values }

      not_storing : (op : Op) → T (storing (line_of (first_of op))) → ⊥
      not_storing (read k) b = b
      not_storing (swap k e n) b = by_test (λ l. T (storing (line_of (first l 2 k e n))) → ⊥) (eqb e n) 10 15 (λ z b. b) (λ z b. b) b

  pub forward : (a : Action) → Forwards a ((figure w a).0, watch n (o, (w⁺, p)) w a (figure w a).1) (figure w a).1
  forward (begin t op) = begin_forward t op (begin-cases w t op) (act_on_path w i.on_path (begin t op))
  forward (step t) = step_forward t (i.on_path t).0 (step-cases w t (i.on_path t).0 (i.on_path t).1) (act_on_path w i.on_path (step t))
  forward (drop t) = drop_cases_forward t (i.on_path t).0 (drop-cases w t (i.on_path t).0 (i.on_path t).1) (act_on_path w i.on_path (drop t))

  -- THE TASKS ARE THE SAME, and the others move only where a call gets a number

  abbrev pub Records : Action → Watched → Type 0
  Records a x' = ((t : ℕ) → t < n → x'.1.1.0.records t ≡ x'.0.records t)
      × ((m : ℕ) (y : Tally) → acting_in x' (n + m) ≡ some y → (acting_in x (n + m) ≡ some y) ⊎ ((t : ℕ) × (a ≡ drop t) × (m ≡ p.now) × (doing w t ≡ some y)))

  unmoved : (a : Action) → Records a (w, (nothing_noted o, (w⁺, nothing_noted p)))
  unmoved a = (i.same.records, λ m y e. inl e)

  -- a task's record changes
  moved-task : (a : Action) (t : ℕ) → t < n → (r : Record) (w₁ w⁺₁ : World) (o₁ p₁ : Notes) → Same n w₁ o₁ w⁺₁ p₁ → w⁺₁.records ≡ upd w⁺.records t r → Records a (w₁, (o₁, (w⁺₁, p₁)))
  moved-task a t l r w₁ w⁺₁ o₁ p₁ s e = (s.records, λ m y h. inl (sym (ap tally_of (ap (λ (f : ℕ → Record). f (n + m)) e ∙ upd_off w⁺.records t r (n + m) (λ z. omega arith))) ∙ h))

  step-records : (t : ℕ) (did : List Line) {f : WorldAfter} → Stepped w t did f → let e = event_of (tried_in w t (w.records t)) f.outcome in Records (step t) (f.world, watch n (o, (w⁺, p)) w (step t) e)
  unfolding figure_ran
  step-records t did (Stepped.refuses m e) = unmoved (step t)
  step-records t did (runs m q) = go (next_after w t) refl
    where
      l : t < n
      l = subst (λ n. t < n) i.tasks m

      go : (y : Next) → next_after w t ≡ y → let e = event_of (tried_in w t (w.records t)) (outcome_of y) in Records (step t) (with_both w (w.records t).cell (cell_after w t) t (record_after y), watch n (o, (w⁺, p)) w (step t) e)
      go (Go r) e = subst (λ (y : Next). Records (step t) (with_both w (w.records t).cell (cell_after w t) t (record_after y), (noted o t (sees w t), (step_after w⁺ t, noted p t (sees w⁺ t))))) e
          (moved-task (step t) t l _ (step_after w t) (step_after w⁺ t) (noted o t (sees w t)) (noted p t (sees w⁺ t)) (same-stepped n w o w⁺ p i.same t l) refl)
      go (Done f) e = subst (λ (y : Next). Records (step t) (with_both w (w.records t).cell (cell_after w t) t (record_after y), (noted o t (sees w t), (step_after w⁺ t, noted p t (sees w⁺ t))))) e
          (moved-task (step t) t l _ (step_after w t) (step_after w⁺ t) (noted o t (sees w t)) (noted p t (sees w⁺ t)) (same-stepped n w o w⁺ p i.same t l) refl)

  begin-records : (t : ℕ) (op : Op) {f : WorldAfter} → Begun w t op f → let e = event_of untried f.outcome in Records (begin t op) (f.world, watch n (o, (w⁺, p)) w (begin t op) e)
  begin-records t op (Begun.refuses m) = unmoved (begin t op)
  begin-records t op (starts a) = let l = subst (λ n. t < n) i.tasks a.task in
      moved-task (begin t op) t l (first_of op) (with_task w t (first_of op)) (with_task w⁺ t (first_of op)) (nothing_noted o) (nothing_noted p) (same-begun n w o w⁺ p i.same t l op) refl

  drop-records : (t : ℕ) (did : List Line) {f : WorldAfter} → Dropped w t did f → let e = event_of untried f.outcome in Records (drop t) (f.world, watch n (o, (w⁺, p)) w (drop t) e)
  drop-records t did (Dropped.refuses m e) = unmoved (drop t)
  drop-records t did (leaves m q) = ((same-dropped n w o w⁺ p i.same t l).records, λ j y e. go j y e (either j p.now))
    where
      l : t < n
      l = subst (λ n. t < n) i.tasks m

      free : w⁺.records (n + p.now) ≡ idle
      free = i.same.ahead p.now (omega arith)

      is-kept : {r : Record} {y : Tally} → (T (stored (line_of (w⁺.records t))) × (kept (w⁺.records t) ≡ w⁺.records t)) ⊎ ((T (stored (line_of (w⁺.records t))) → ⊥) × (kept (w⁺.records t) ≡ idle)) → r ≡ kept (w⁺.records t) → tally_of r ≡ some y → doing w t ≡ some y
      is-kept (inl k) e h = ap tally_of (sym (i.same.records t l)) ∙ sym (ap tally_of (e ∙ k.1)) ∙ h
      is-kept (inr k) e h = absurd (clash (ap tally_of (e ∙ k.1)) h)

      go : (j : ℕ) (y : Tally) → doing (parked_world w⁺ t (n + p.now)) (n + j) ≡ some y → (j ≡ p.now) ⊎ (j ≢ p.now) → (acting_in x (n + j) ≡ some y) ⊎ ((u : ℕ) × (drop t ≡ drop u) × (j ≡ p.now) × (doing w u ≡ some y))
      go j y e (inl z) = inr (t, refl, z, is-kept (kept_either (w⁺.records t)) (ap (λ j. (parked_world w⁺ t (n + p.now)).records (n + j)) z ∙ upd_same (upd w⁺.records t idle) (n + p.now) (kept (w⁺.records t))) e)
      go j y e (inr z) = inl (sym (ap tally_of (upd_off (upd w⁺.records t idle) (n + p.now) (kept (w⁺.records t)) (n + j) (λ h. z (omega arith)) ∙ upd_off w⁺.records t idle (n + j) (λ h. omega arith))) ∙ e)

  pub records-after : (a : Action) → Records a ((figure w a).0, watch n (o, (w⁺, p)) w a (figure w a).1)
  records-after (begin t op) = begin-records t op (begin-cases w t op)
  records-after (step t) = step-records t (i.on_path t).0 (step-cases w t (i.on_path t).0 (i.on_path t).1)
  records-after (drop t) = drop-records t (i.on_path t).0 (drop-cases w t (i.on_path t).0 (i.on_path t).1)

  -- WHERE THE WITHDRAWN SWAPS STAND

  step-leaves : (t : ℕ) (did : List Line) {f : WorldAfter} → Stepped w t did f → let e = event_of (tried_in w t (w.records t)) f.outcome in Leaves (watch_names n) clock_of x (step t) e (stands_in n x) (stands_in n (f.world, watch n (o, (w⁺, p)) w (step t) e))
  unfolding figure_ran
  step-leaves t did (Stepped.refuses m e) = λ j. refl
  step-leaves t did (runs m q) = go (next_after w t) refl
    where
      go : (y : Next) → next_after w t ≡ y → let e = event_of (tried_in w t (w.records t)) (outcome_of y) in Leaves (watch_names n) clock_of x (step t) e (stands_in n x) (stands_in n (with_both w (w.records t).cell (cell_after w t) t (record_after y), watch n (o, (w⁺, p)) w (step t) e))
      go (Go r) e = leaves_going t did m q
      go (Done f) e = leaves-ending t did m q f e

  drop-leaves : (t : ℕ) (did : List Line) {f : WorldAfter} → Dropped w t did f → let e = event_of untried f.outcome in Leaves (watch_names n) clock_of x (drop t) e (stands_in n x) (stands_in n (f.world, watch n (o, (w⁺, p)) w (drop t) e))
  drop-leaves t did (Dropped.refuses m e) = λ j. refl
  drop-leaves t did (leaves m q) = leaves-dropped t did m q

  begin-leaves : (t : ℕ) (op : Op) {f : WorldAfter} → Begun w t op f → let e = event_of untried f.outcome in (m : ℕ) → stands_in n (f.world, watch n (o, (w⁺, p)) w (begin t op) e) m ≡ stands_in n x m
  begin-leaves t op (Begun.refuses m) = λ j. refl
  begin-leaves t op (starts a) = λ j. sym ((left-begun n (held_of n o w⁺ p) w⁺ p g i.left t (subst (λ n. t < n) i.tasks a.task) op).spot j)

  pub leaves_after : (a : Action) → Leaves (watch_names n) clock_of x a (figure w a).1 (stands_in n x) (stands_in n ((figure w a).0, watch n (o, (w⁺, p)) w a (figure w a).1))
  leaves_after (begin t op) = begin-leaves t op (begin-cases w t op)
  leaves_after (step t) = step-leaves t (i.on_path t).0 (step-cases w t (i.on_path t).0 (i.on_path t).1)
  leaves_after (drop t) = drop-leaves t (i.on_path t).0 (drop-cases w t (i.on_path t).0 (i.on_path t).1)

  -- QUIET TASKS

  step_quiet : (t : ℕ) (did : List Line) {f : WorldAfter} → Stepped w t did f → Quietly doing ready QuietIn w (step t) f.world (event_of (tried_in w t (w.records t)) f.outcome)
  unfolding figure_ran
  step_quiet t did (Stepped.refuses m e) = tt
  step_quiet t did (runs m q) = go (next_after w t) (step_quietly w t did q)
    where
      go : (y : Next) {w'' : World} → QuietSteps doing ready QuietIn w w'' t (tried_in w t (w.records t)) → Quietly doing ready QuietIn w (step t) w'' (event_of (tried_in w t (w.records t)) (outcome_of y))
      go (Go r) z = z
      go (Done f) z = z

  begin_quiet : (t : ℕ) (op : Op) {f : WorldAfter} → Begun w t op f → Quietly doing ready QuietIn w (begin t op) f.world (event_of untried f.outcome)
  begin_quiet t op (Begun.refuses m) = tt
  begin_quiet t op (starts a) = begin_quietly w i.on_path t op a

  drop_quiet : (t : ℕ) (did : List Line) {f : WorldAfter} → Dropped w t did f → Quietly doing ready QuietIn w (drop t) f.world (event_of untried f.outcome)
  drop_quiet t did (Dropped.refuses m e) = tt
  drop_quiet t did (leaves m q) = drop_quietly w t

  pub quietly : (a : Action) → Quietly doing ready QuietIn w a (figure w a).0 (figure w a).1
  quietly (begin t op) = begin_quiet t op (begin-cases w t op)
  quietly (step t) = step_quiet t (i.on_path t).0 (step-cases w t (i.on_path t).0 (i.on_path t).1)
  quietly (drop t) = drop_quiet t (i.on_path t).0 (drop-cases w t (i.on_path t).0 (i.on_path t).1)

  -- WHERE SWAPS ARE NAMED

  pub task-low : (t : ℕ) (c : Tally) → doing w t ≡ some c → t < n
  task-low t c d = subst (λ (n : ℕ). t < n) i.tasks (pending-at w i.on_path t (is-busy w i.on_path t c d)).2

  as_there : (t : ℕ) (c : Tally) → doing w t ≡ some c → doing w⁺ t ≡ some c
  as_there t c d = ap tally_of (i.same.records t (task-low t c d)) ∙ d

  pub named : (t : ℕ) (c : Tally) → doing w t ≡ some c → T (g.placed t) → Named (stands o t (sees w t)) (g.when t)
  named t c d z = subst (λ (r : Option Spot). Named r (g.when t)) (same-stands n w o w⁺ p i.same t (task-low t c d)) (placed-named w⁺ p g κ i.good i.dated t c (as_there t c d) z)

  pub unnamed : (t : ℕ) (c : Tally) → doing w t ≡ some c → T (not (g.placed t)) → stands o t (sees w t) ≡ none
  unnamed t c d z = sym (same-stands n w o w⁺ p i.same t (task-low t c d)) ∙ unplaced_unnamed w⁺ p g κ i.good i.dated t c (as_there t c d) z

  pub named-withdrawn : (m : ℕ) → T (g.placed (n + m)) → Named (stands_in n x m) (g.when (n + m))
  named-withdrawn m z = placed-named w⁺ p g κ i.good i.dated (n + m) (tally (w⁺.records (n + m))) (busy_doing (w⁺.records (n + m)) (i.left.placed m z)) z

  pub unnamed_withdrawn : (m : ℕ) → T (not (g.placed (n + m))) → stands_in n x m ≡ none
  unnamed_withdrawn m z = go (i.good.on_path (n + m)).1
    where
      go : OnPath w⁺.tasks w⁺.cells (n + m) (i.good.on_path (n + m)).0 (w⁺.records (n + m)) → stands p (n + m) (sees w⁺ (n + m)) ≡ none
      go (inl (e, h)) = stands-idle w⁺ p (n + m) e
      go (inr (l, q)) = unplaced_unnamed w⁺ p g κ i.good i.dated (n + m) (tally (w⁺.records (n + m))) (busy_doing (w⁺.records (n + m)) (busy-line (w⁺.records (n + m)) q.line)) z

-- ALL OF IT

module _ (tasks cells : ℕ) (values : List ℕ) (some-values : (cell : ℕ) → get_or values cell 0 ≢ no_value) where
  pub opened : (κ : Knowledge) → Invariant tasks cells (opening tasks cells values, (no_notes, (opening tasks cells values, no_notes))) (Sim.fresh (λ k. get_or values k 0)) κ
  unfolding Local.none
  opened κ = record {
    size = refl;
    tasks = refl;
    on_path = (opening_good tasks cells values some-values (known no_notes κ)).on_path;
    good = opening_good tasks cells values some-values (known no_notes κ);
    dated = record { placed = λ u b z. absurd z; since = λ u b h z. absurd (z refl) };
    same = record {
      cells = refl;
      cell = refl;
      records = λ u l. refl;
      now = refl;
      notes = λ u l. record { loaded = refl; stored = refl; stored_active = refl; inactive = refl; decided = refl; replaced = refl };
      least = omega arith;
      most = omega arith;
      ahead = λ m h. refl;
    };
    left = record { placed = λ m z. absurd z; has_stored = λ m b. absurd b; spot = λ m. refl; none_waits = λ k e m z. settled_is_not m z; one_waits = λ k a e. absurd (clash refl e) };
  }
    where
      settled_is_not : (m : ℕ) → Sim.settled ≡ Sim.late (tasks + m) → ⊥
      settled_is_not m z = let y : ◌≡◌ {A = ℕ} 0 1 = cc in omega arith

  unfoldable pub simulation : Sim.Simulation figure (watch tasks) (watch_names tasks) (opening tasks cells values) (no_notes, (opening tasks cells values, no_notes)) ready tasks cells (λ k. get_or values k 0)
  simulation = record {
    doing = doing;
    clock = clock_of;
    acting = acting_in;
    left = stands_in tasks;
    Inv = Invariant tasks cells;
    Quiet = QuietIn;
    idle = λ t. refl;
    none_acting = λ t. refl;
    first-moment = refl;
    next-moment = λ x a. ticks x a (figure x.0 a).1;
    opened = opened;
    within = λ x g κ i. within x.0 i.on_path;
    follows = λ x g κ i a. subst (λ (size : ℕ). Sim.Follows doing size x.0 a (figure x.0 a).0 (figure x.0 a).1) i.size (follows x.0 i.on_path a);
    forward = λ x g κ i. forward tasks cells x.0 x.1.0 x.1.1.0 x.1.1.1 g κ i;
    quietly = λ x g κ i. quietly tasks cells x.0 x.1.0 x.1.1.0 x.1.1.1 g κ i;
    low = λ x g κ i. task-low tasks cells x.0 x.1.0 x.1.1.0 x.1.1.1 g κ i;
    low-begin = λ x g κ i t op y e. subst (λ n. t < n) i.tasks (begins x.0 t op y (begin-cases x.0 t op) e);
    present = λ x g κ i a t l. ap tally_of ((records-after tasks cells x.0 x.1.0 x.1.1.0 x.1.1.1 g κ i a).0 t l);
    parked = λ x g κ i a m y e. its-drop x a m y (follows x.0 i.on_path a) ((records-after tasks cells x.0 x.1.0 x.1.1.0 x.1.1.1 g κ i a).1 m y e);
    listed = λ x g κ i. named tasks cells x.0 x.1.0 x.1.1.0 x.1.1.1 g κ i;
    unlisted = λ x g κ i. unnamed tasks cells x.0 x.1.0 x.1.1.0 x.1.1.1 g κ i;
    listed_withdrawn = λ x g κ i m l. named-withdrawn tasks cells x.0 x.1.0 x.1.1.0 x.1.1.1 g κ i m;
    leaves = λ x g κ i. leaves_after tasks cells x.0 x.1.0 x.1.1.0 x.1.1.1 g κ i;
    unlisted_withdrawn = λ x g κ i m l. unnamed_withdrawn tasks cells x.0 x.1.0 x.1.1.0 x.1.1.1 g κ i m;
  }
    where
      ticks : (x : Watched) (a : Action) (e : Event) → (beyond tasks x.1.1 x.0 a e).1.now ≡ suc x.1.1.1.now
      ticks x a (refused r) = refl
      ticks x (begin t op) (accepted y) = refl
      ticks x (begin t op) (answered y r) = refl
      ticks x (step t) (accepted y) = refl
      ticks x (step t) (answered y r) = refl
      ticks x (drop t) (accepted y) = refl
      ticks x (drop t) (answered y r) = refl

      begins : (w : World) (t : ℕ) (op : Op) (y : Attempt) {f : WorldAfter} → Begun w t op f → event_of untried f.outcome ≡ accepted y → t < w.tasks
      begins w t op y (Begun.refuses m) e = absurd (let z : ◌≡◌ {A = ℕ} 0 1 = cc in omega arith)
      begins w t op y (starts a) e = a.task

      -- a drop of a pending call is accepted
      its-drop : (x : Watched) (a : Action) (m : ℕ) (y : Tally) → Sim.Follows doing x.0.cells x.0 a (figure x.0 a).0 (figure x.0 a).1 →
          (acting_in x (tasks + m) ≡ some y) ⊎ ((t : ℕ) × (a ≡ drop t) × (m ≡ x.1.1.1.now) × (doing x.0 t ≡ some y)) →
          (acting_in x (tasks + m) ≡ some y) ⊎ ((t : ℕ) × (z : Attempt) × (a ≡ drop t) × ((figure x.0 a).1 ≡ accepted z) × (m ≡ clock_of x) × (doing x.0 t ≡ some y))
      its-drop x a m y f (inl e) = inl e
      its-drop x a m y f (inr (t, e, k, d)) = go (figure x.0 a).1 refl (subst (λ (b : Action). Sim.Follows doing x.0.cells x.0 b (figure x.0 a).0 (figure x.0 a).1) e f)
        where
          go : (h : Event) → (figure x.0 a).1 ≡ h → Sim.Follows doing x.0.cells x.0 (drop t) (figure x.0 a).0 h → (acting_in x (tasks + m) ≡ some y) ⊎ ((t : ℕ) × (z : Attempt) × (a ≡ drop t) × ((figure x.0 a).1 ≡ accepted z) × (m ≡ clock_of x) × (doing x.0 t ≡ some y))
          go (refused r) h f = absurd (clash f.1 d)
          go (accepted z) h f = inr (t, z, e, h, k, d)
          go (answered z r) h f = absurd f

  -- demand 3, of figure 2 with a new block each time: from any opening whose starting values are other than none, for every list of
  -- actions, the calls can be linearized, keep their bounds, and attempt no hardware CAS without contention
  pub figure_meets_demand_3 : Meets figure (opening tasks cells values) (clear_after figure (opening tasks cells values) clear) cells (λ k. get_or values k 0)
  figure_meets_demand_3 = meets simulation clear clear-ready

  -- A read, and a swap of equal values, attempts no hardware CAS if it meets no contention and the block was active at its begin. Y may be true.
  pub figure_reads_quietly : (actions : List Action) → NoHardwareReads (clear_after figure (opening tasks cells values) active) (calls_of (history figure (opening tasks cells values) actions))
  figure_reads_quietly = reads_meet simulation active reads-ready

  -- notes of the other figure change no mark
  pub same-moments : (actions : List Action) → Placing.placing simulation actions ≡ moments tasks cells values actions
  same-moments actions = same-linearized figure (note figure sees) (names figure sees) (beyond tasks) tasks (opening tasks cells values) no_notes (opening tasks cells values, no_notes) actions

  -- The source's linearization points, in their order, are a linearization: of every finished call, and of the listed pending and withdrawn swaps.
  pub moments_linearize : (actions : List Action) → Linearizes (λ k. get_or values k 0) (calls_of (history figure (opening tasks cells values) actions)) (map point_of (moments tasks cells values actions))
  moments_linearize actions = subst (λ (m : List Mark). Linearizes (λ k. get_or values k 0) (calls_of (history figure (opening tasks cells values) actions)) (map point_of m)) (same-moments actions) (marks_linearize simulation actions)

  -- Fed the calls in this order, the sequential cells give each the answer that it had, and yes to the listed pending and withdrawn swaps.
  pub moments-answers : (actions : List Action) → replies (λ k. get_or values k 0) (map point_of (moments tasks cells values actions)) ≡ map reply_of (moments tasks cells values actions)
  moments-answers actions = subst (λ (m : List Mark). replies (λ k. get_or values k 0) (map point_of m) ≡ map reply_of m) (same-moments actions) (marks-answers simulation actions)

  -- The source's "immediately before" is never taken.
  pub never_before : (actions : List Action) (mark : Mark) → mark ∈ moments tasks cells values actions → mark.spot.side ≢ before
  never_before actions mark e = Placing.never_before simulation actions mark (subst (λ (m : List Mark). mark ∈ m) (sym (same-moments actions)) e)

  -- WHAT HOLDS ON THE WAY, after any actions

  pub record Watching (x : Watched) (b : Calls) : Type 1 where
    pub ghost : Ghost
    pub known : Knowledge
    pub inv : Invariant tasks cells x ghost known
    pub clock : clock_of x ≡ b.now
    pub tracks : Tracks doing x.0 b
    pub dated : Placed.Dated b

  pub watching : (x : Watched) (b : Calls) (ms es : List Mark) → Every.Good simulation x b ms es → Watching x b
  unfolding simulation
  watching x b ms es G = let m = G.simulated in record { ghost = m.ghost; known = knows (with_parked tasks b) m.past (firm m.ghost b.now); inv = m.inv; clock = m.clock; tracks = G.tracks; dated = G.dated }

  -- Who waits is never overwritten: a drop that makes a swap wait finds none waiting in its cell. So in each cell at most one waits.
  pub one_waits : (actions : List Action) (t : ℕ) → let x = run (noting figure sees) (opening tasks cells values, no_notes) actions in waits x.1 t (sees x.0 t) ≡ true → x.1.waiting (x.0.records t).cell ≡ none
  one_waits actions t = subst (λ (x : World × Notes). waits x.1 t (sees x.0 t) ≡ true → x.1.waiting (x.0.records t).cell ≡ none)
      (same-run figure (note figure sees) (names figure sees) (beyond tasks) (opening tasks cells values) no_notes (opening tasks cells values, no_notes) actions)
      (go (watching _ _ _ _ (at-end simulation actions).good).inv)
    where
      go : {x : Watched} {g : Ghost} {κ : Knowledge} → Invariant tasks cells x g κ → waits x.1.0 t (sees x.0 t) ≡ true → x.1.0.waiting (x.0.records t).cell ≡ none
      go {x} {g} {κ} i e = on (i.on_path t).1
        where
          on : OnPath x.0.tasks x.0.cells t (i.on_path t).0 (x.0.records t) → x.1.0.waiting (x.0.records t).cell ≡ none
          on (inl (h, z)) = absurd (false≢true (subst (λ (r : Record). waits x.1.0 t (sight_by r r x.0.cell) ≡ true) h e))
          on (inr (m, q)) = waits-alone tasks cells x.0 x.1.0 x.1.1.0 x.1.1.1 g κ i t (i.on_path t).0 m q e

  -- a withdrawn call is listed exactly where it takes effect in the other figure
  pub withdrawn_listed : (actions : List Action) (v : WithdrawnCall) → v ∈ (calls_of (history figure (opening tasks cells values) actions)).withdrawn →
      ListedExactly (moments tasks cells values actions) v.call (stands_in tasks (run (beside figure (watch tasks)) (opening tasks cells values, (no_notes, (opening tasks cells values, no_notes))) actions) v.end)
  unfolding simulation
  withdrawn_listed actions v i = subst (λ (ms : List Mark). ListedExactly ms v.call (stands_in tasks (run (beside figure (watch tasks)) (opening tasks cells values, (no_notes, (opening tasks cells values, no_notes))) actions) v.end)) (same-moments actions) (Placing.withdrawn_listed simulation actions v i)
