-- From a fresh opening, action by action: pool and figure stay in agreement, so their histories, records and looks are the same.
use mathlib.Core.Path.{◌≡◌, refl, ap₂}
use mathlib.Core.Bool.{Bool, true, false, cond}
use mathlib.Core.Option.{none, some}
use mathlib.Core.List.{List, [], ◌∷◌}
use Prim.Native.Nat.{ℕ, ◌<◌}
use native.Mathlib.Omega.{arith}
use lib.Dec.{ltb}
use lib.ListN.{length}
use borrow.Author.Tests.{ltb-true}
use Rattle.cells_spec.specs.declared.State.{State}
use Rattle.figure_lines.specs.declared.Field.{Field}
use Rattle.figure_lines.specs.declared.Field.TheVariants.{C, D}
use Rattle.figure_lines.specs.Record.{record_at}
use Rattle.cells_spec.specs.Pool.{word}
use Rattle.cells_spec.specs.Questions.{refusal, counts_true, fit, open_questions}
use Rattle.cells_spec.specs.Blocks.{Spare}
use Rattle.cells_spec.specs.Open.{opened}
use Rattle.cells_spec.specs.Step.{current}
use Rattle.cells_spec.specs.Look.{looked, shown, shown_value}
use Rattle.history_spec.specs.History.{Action, begin, step, drop, Event, history, run}
use Rattle.figure_cell.specs.Memory.{word_of}
use Rattle.figure.specs.Figure.{World, figure, opening, figure_looked}
use Rattle.cells_spec.specs.Machine.{Pool, pool}
use Rattle.cells_spec.proofs.CountsKept.{Arrays, counts_stay}
use Rattle.cells_spec.proofs.CountedOpen.{open_counts, open_arrays, arrays_stay}
use Rattle.cells_spec.proofs.Spare.{spare_stay, open_spare}
use Rattle.cells_theorems.specs.Terms.{start, named}
use Rattle.figure.proofs.Records.{WellRecord, well}
use Rattle.cells_theorems.proofs.Agree.{Links, Agree}
use Rattle.cells_theorems.proofs.Fits.{fits}
use Rattle.cells_spec.proofs.Tests.{within_true}
use Rattle.cells_theorems.proofs.Steps.{Same, steps, begins, drops}
use Rattle.cells_theorems.proofs.Opening.{Opened, opens}

-- agreement, with the figure's records well for as long as it runs on, the stored counts true, and some task that holds no replaced block
pub record Together (n v : ℕ) (x : Pool) (w : World) : Type 1 where
  pub R : Links
  pub agree : Agree n v R x.0 x.1 w
  pub well : (l : List Action) (t : ℕ) → WellRecord v ((run figure w l).records t)
  pub arrays : Arrays x.0
  pub counts : counts_true x.0 ≡ true
  pub spare : Spare x.0

module _ {n v : ℕ} where
  pub acts : {x : Pool} {w : World} → Together n v x w → (a : Action) → Same n v (pool x a) (figure w a)
  acts g (begin t op) = begins g.agree (g.well []) g.counts g.spare t op
  acts g (step t) = steps g.agree (g.well []) g.counts g.spare t
  acts g (drop t) = drops g.agree (g.well []) g.counts g.spare t

  further : {x : Pool} {w : World} → Together n v x w → (a : Action) → Together n v (pool x a).0 (figure w a).0
  further {x} g a =
      let b = acts g a in
      record {
        R = b.R;
        agree = b.agree;
        well = λ l. g.well (a ∷ l);
        arrays = arrays_stay x.0 x.1 g.arrays a;
        counts = counts_stay x.0 x.1 g.arrays g.counts a;
        spare = spare_stay x.0 x.1 (omega (arith, g.agree.rows, g.agree.sizes.same-tasks)) g.spare a;
      }

  all_together : (l : List Action) {x : Pool} {w : World} → Together n v x w → Together n v (run pool x l) (run figure w l)
  all_together [] g = g
  all_together (a ∷ l) g = all_together l (further g a)

  pub histories : (l : List Action) {x : Pool} {w : World} → Together n v x w → history pool x l ≡ history figure w l
  histories [] g = refl
  histories (a ∷ l) g = ap₂ (λ (e : Event) (h : List (Action × Event)). (a, e) ∷ h) (acts g a).event (histories l (further g a))

  is-fit : {x : Pool} {w : World} → Together n v x w → fit x.0 x.1 ≡ true
  is-fit g = fits g.agree (g.well []) g.counts

  pub same-words : {x : Pool} {w : World} → Together n v x w → (k : ℕ) → k < v → (f : Field) → word x.1 (current x.0 k) f ≡ word_of (w.cell k) (w.cell k).current f
  same-words {x} {w} g k h f = g.agree.blocks.words k (w.cell k).current (current x.0 k) f (g.agree.current k h f)

  pub looks : {x : Pool} {w : World} → Together n v x w → (k : ℕ) → looked x.0 x.1 k ≡ figure_looked w k
  unfolding looked figure_looked
  looks {x} {w} g k = rw (is-fit g, g.agree.sizes.same-cells, g.agree.sizes.cells_too) (go (ltb k v) refl)
    where
      value : (Field → ℕ) → ℕ
      value f = shown_value (f C) (f Field.V) (f D)

      go : (c : Bool) → ltb k v ≡ c → shown (cond c none (some 8)) (value (word x.1 (current x.0 k))) ≡ shown (cond c none (some 8)) (value (word_of (w.cell k) (w.cell k).current))
      go false e = refl
      go true e = let same = same-words g k (ltb-true k v e) in rw (same C, same Field.V, same D)

-- AN OPENING THAT IS NOT REFUSED, whatever was in the state and in the pool before, then any list of actions
module _ (old : State) (words : List ℕ) (tasks cells blocks : ℕ) (values : List ℕ) (allowed : refusal (open_questions (length words) tasks cells blocks values) ≡ none) where
  fresh-opening : Agree tasks cells (Opened cells) (start old words tasks cells blocks values).0 (start old words tasks cells blocks values).1 (opening tasks cells values)
  unfolding opened
  fresh-opening = rw allowed (opens words tasks cells blocks values allowed)

  fresh : Together tasks cells (start old words tasks cells blocks values) (opening tasks cells values)
  unfolding opened
  fresh = record {
    R = Opened cells;
    agree = fresh-opening;
    well = well tasks cells values;
    arrays = rw allowed (open_arrays words values tasks cells blocks allowed);
    counts = rw allowed (open_counts words values tasks cells blocks allowed);
    spare = rw allowed (open_spare tasks cells blocks (within_true tasks 1 32 fresh-opening.sizes.tasks_ok_lem).0);
  }

  module _ (actions : List Action) where
    pub together : Together tasks cells (run pool (start old words tasks cells blocks values) actions) (run figure (opening tasks cells values) actions)
    together = all_together actions fresh

    -- Action by action, the pool gives the events of figure 2 with a new block each time: refusals, answers, steps and hardware CAS attempts.
    pub same-history : history pool (start old words tasks cells blocks values) actions ≡ history figure (opening tasks cells values) actions
    same-history = histories actions fresh

    -- The record of each task is the figure's but for the numbers of the blocks that it holds and has taken.
    pub same-records : (task : ℕ) → task < tasks
        → (held taken : ℕ) × (record_at (run pool (start old words tasks cells blocks values) actions).0.records task ≡ named ((run figure (opening tasks cells values) actions).records task) held taken)
    same-records task h = let r = record_at (run pool (start old words tasks cells blocks values) actions).0.records task in (r.held, r.taken, (together.agree.records task h).same)

    -- The state is fit after any actions: question 6 is never answered no.
    pub always_fit : let now = run pool (start old words tasks cells blocks values) actions in fit now.0 now.1 ≡ true
    always_fit = is-fit together

    -- What the state stores for each block is what its table says, after any actions.
    pub always_counted : counts_true (run pool (start old words tasks cells blocks values) actions).0 ≡ true
    always_counted = together.counts

    -- A look shows, or is refused, what the figure's look is.
    pub same_look : (cell : ℕ) → let now = run pool (start old words tasks cells blocks values) actions in looked now.0 now.1 cell ≡ figure_looked (run figure (opening tasks cells values) actions) cell
    same_look cell = looks together cell
