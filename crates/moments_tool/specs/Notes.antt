-- What the code keeps beside the cells: each task's notes, who waits in each cell, and what a task sees of the block that it holds.
use Rattle.std.specs.Prelude.{Bool, false, cond, ◌&&◌, ◌||◌, List, ℕ, eqb, ltb, get_or, Option, None}
use Rattle.std.proofs.Math.Option as Math
use Rattle.figure_lines.specs.declared.Record.{Record}
use Rattle.figure_lines.specs.declared.Field.TheVariants.{C, D}
use Rattle.figure_lines.specs.Basics.{within}
use Rattle.figure_lines.specs.Record.{no_value}
use Rattle.cells_spec.specs.Pool.{word}
use Rattle.history_spec.specs.Moments as Moments
use Rattle.figure_moments.specs.Moments.{holds_block, Notes, Waiting}
use Rattle.figure_moments.specs.Moments as Figure
use Rattle.moments_tool.specs.declared.sights.Sight.{Sight}
use Rattle.moments_tool.specs.declared.sights.Own.{Own}
use Rattle.moments_tool.specs.declared.sights.Waiter.{Waiter}
use Rattle.moments_tool.specs.declared.spots.Spot.{Spot}
use Rattle.moments_tool.specs.declared.spots.Side.{Side}
use Rattle.moments_tool.specs.declared.spots.Side.TheVariants as side
use Rattle.moments_tool.specs.declared.spots.Rule.{Rule}
use Rattle.moments_tool.specs.declared.spots.Rule.TheVariants as rule

-- the place of one of m; the first for a number that is none of them
abbrev pub slot : ℕ → ℕ → ℕ
slot n m = cond (ltb n m) n 0

-- the record q holds the block of the record r
abbrev pub holds_with : (q r : Record) → Bool
holds_with q r = holds_block q && (eqb q.cell r.cell && eqb q.held r.held)

-- of the words of the pool, a record, and the block that its cell names
abbrev pub sight_in : List ℕ → Record → (current : ℕ) → Sight
sight_in p r c = let h = holds_block r in record {
  active = h && eqb (word p r.held C) 0;
  undecided = h && eqb (word p r.held D) no_value;
  current = h && eqb c r.held;
  as_expected = h && eqb (word p r.held D) r.expected;
  as_new = h && eqb (word p r.held D) r.new;
}

-- with the number of the line, and a list that says of each task whether it holds the block
abbrev pub sight_of : (line : ℕ) → Record → Sight → List Bool → Figure.Sight
sight_of n r x who = record {
  line = n;
  figure_line = cond (within r.line 1 3) r.wanted r.line;
  swaps = eqb r.kind 2;
  active = x.active;
  undecided = x.undecided;
  current = x.current;
  as_expected = x.as_expected;
  as_new = x.as_new;
  holders = λ u. get_or who u false;
  cell = r.cell;
  loaded = r.loaded;
  new = r.new;
}

-- WHO WAITS in each cell: the code keeps it apart from the tasks' notes

abbrev pub waiter_at : List (Option Waiter) → ℕ → Option Waiter
waiter_at l k = get_or l k None

abbrev pub nobody_waits : ℕ → Math.Option Waiting
nobody_waits k = Math.none

abbrev pub with_waiting : (ℕ → Math.Option Waiting) → Notes → Notes
with_waiting f o =
    record { now = o.now; loaded = o.loaded; stored = o.stored; stored_active = o.stored_active; inactive = o.inactive; decided = o.decided; replaced = o.replaced; waiting = f }

-- THE TASKS' NOTES

abbrev pub no_own : Own
no_own = record { loaded = 0; stored = 0; active = false; inactive = 0; decided = 0; replaced = 0 }

-- one task's
abbrev pub own_at : List Own → (task : ℕ) → Own
own_at l t = get_or l t no_own

abbrev pub notes_of : (now : ℕ) → List Own → Notes
notes_of n l = record {
  now = n;
  loaded = λ u. (own_at l u).loaded;
  stored = λ u. (own_at l u).stored;
  stored_active = λ u. (own_at l u).active;
  inactive = λ u. (own_at l u).inactive;
  decided = λ u. (own_at l u).decided;
  replaced = λ u. (own_at l u).replaced;
  waiting = nobody_waits;
}

abbrev pub own_notes : (now : ℕ) → Own → Notes
own_notes n o = record {
  now = n;
  loaded = λ _. o.loaded;
  stored = λ _. o.stored;
  stored_active = λ _. o.active;
  inactive = λ _. o.inactive;
  decided = λ _. o.decided;
  replaced = λ _. o.replaced;
  waiting = nobody_waits;
}

-- at action i, a step at that line by one that sees x: what its own task notes, and what who holds the block notes
abbrev pub step_noted : (line : ℕ) → Sight → (i : ℕ) → Own → Own
step_noted n x i o = record {
  loaded = cond (eqb n 11 || eqb n 20) i o.loaded;
  stored = cond (eqb n 23) i o.stored;
  active = cond (eqb n 23) x.active o.active;
  inactive = o.inactive;
  decided = cond (eqb n 10 || eqb n 15) i o.decided;
  replaced = o.replaced;
}

abbrev pub held_noted : (line : ℕ) → Sight → (i : ℕ) → Own → Own
held_noted n x i o = record {
  loaded = o.loaded;
  stored = o.stored;
  active = o.active;
  inactive = cond (eqb n 27 && x.active) i o.inactive;
  decided = cond (eqb n 2 && x.undecided) i o.decided;
  replaced = cond (eqb n 30 && x.current) i o.replaced;
}

-- WHAT THE CODE'S ENUMS SAY

abbrev pub side_meant : Side → Moments.Side
side_meant side.Before = Moments.before
side_meant side.Itself = Moments.itself
side_meant side.After = Moments.after

abbrev pub rule_meant : Rule → Moments.Rule
rule_meant rule.R1 = Moments.R1
rule_meant rule.R2 = Moments.R2
rule_meant rule.C1 = Moments.C1
rule_meant rule.C2 = Moments.C2
rule_meant rule.C3 = Moments.C3
rule_meant rule.C4 = Moments.C4
rule_meant rule.C5 = Moments.C5
rule_meant rule.C6 = Moments.C6

abbrev pub spot_meant : Spot → Moments.Spot
spot_meant q = record { moment = q.moment; side = side_meant q.side; rule = rule_meant q.rule }
