-- Where each call of figure 2 takes effect: the source's linearization points (document 003, section 5, R1 to C6), and beside the machine the
-- actions that they look back at. The same for any machine that runs the figure's lines: it has only to say what a task sees.
use Rattle.std.specs.Prelude.{Bool, false, not, ◌&&◌, ◌||◌, cond, List, [], ◌∷◌, ℕ, suc, eqb}
use Rattle.std.proofs.Math.Option.{Option, none, some}
use Rattle.figure_lines.specs.Basics.{within}
use Rattle.figure_lines.specs.declared.Record.{Record}
use Rattle.figure_lines.specs.declared.Field.{Field}
use Rattle.figure_lines.specs.declared.Field.TheVariants.{C, D}
use Rattle.figure_lines.specs.Record.{no_value, is_idle}
use Rattle.cells_spec.specs.Questions.{holds}
use Rattle.history_spec.specs.Basics.{upd}
use Rattle.history_spec.specs.History.{Action, begin, step, drop, Response, Value, Yes, No, Event, refused, accepted, answered}
use Rattle.history_spec.specs.Moments.{itself, before, after, Rule, R1, R2, C1, C2, C3, C4, C5, C6, Spot, Mark, Names, beside, linearized}
use Rattle.figure_cell.specs.Memory.{word_of}
use Rattle.figure.specs.Figure.{World, figure, opening}

-- WHAT A TASK SEES BEFORE ITS STEP

abbrev pub holds_block : Record → Bool
holds_block r = not (is_idle r) && holds r

pub record Sight : Type 0 where
  -- the number of its next line
  pub line : ℕ
  -- its line in the figure's list, where lines 13, 25 and 28 run the deciding part
  pub figure_line : ℕ
  -- its call was begun as a swap
  pub swaps : Bool
  -- it holds a block, and that is active; not decided; current; decided as the expected value; as the new one
  pub active : Bool
  pub undecided : Bool
  pub current : Bool
  pub as_expected : Bool
  pub as_new : Bool
  -- who holds this block
  pub holders : ℕ → Bool
  -- its cell, the value loaded, which line 2 decides, and its new value
  pub cell : ℕ
  pub loaded : ℕ
  pub new : ℕ

-- of all records, each cell's current block, and the words of its blocks
abbrev pub sight : (ℕ → Record) → (ℕ → ℕ) → (ℕ → ℕ → Field → ℕ) → ℕ → Sight
sight records current words t = let r = records t in let h = holds_block r in let word = words r.cell r.held in record {
  line = r.line;
  figure_line = cond (within r.line 1 3) r.wanted r.line;
  swaps = eqb r.kind 2;
  active = h && eqb (word C) 0;
  undecided = h && eqb (word D) no_value;
  current = h && eqb (current r.cell) r.held;
  as_expected = h && eqb (word D) r.expected;
  as_new = h && eqb (word D) r.new;
  holders = λ u. h && (holds_block (records u) && (eqb (records u).cell r.cell && eqb (records u).held r.held));
  cell = r.cell;
  loaded = r.loaded;
  new = r.new;
}

-- WHAT IS NOTED

-- a withdrawn swap that stored late in a block that is not decided yet: the drop's number, its new value, and the action that made the block inactive
pub record Waiting : Type 0 where
  pub drop : ℕ
  pub new : ℕ
  pub inactive : ℕ

-- the next action's number, and of each task's call o, with the block o.b that it holds, the actions that
pub record Notes : Type 0 where
  pub now : ℕ
  -- was o.11 or o.20
  pub loaded : ℕ → ℕ
  -- was o.23; and whether o.b was active then
  pub stored : ℕ → ℕ
  pub stored_active : ℕ → Bool
  -- made o.b inactive, the source's δC(o.b)
  pub inactive : ℕ → ℕ
  -- decided o.b, the source's δD(o.b); o.10 or o.15, if it was decided then
  pub decided : ℕ → ℕ
  -- replaced o.b
  pub replaced : ℕ → ℕ
  -- for each cell, the withdrawn swap that waits for the decision of its block
  pub waiting : ℕ → Option Waiting

abbrev pub no_notes : Notes
no_notes = record { now = 0; loaded = λ t. 0; stored = λ t. 0; stored_active = λ t. false; inactive = λ t. 0; decided = λ t. 0; replaced = λ t. 0; waiting = λ k. none }

abbrev pub nothing_noted : Notes → Notes
nothing_noted o = record { now = suc o.now; loaded = o.loaded; stored = o.stored; stored_active = o.stored_active; inactive = o.inactive; decided = o.decided; replaced = o.replaced; waiting = o.waiting }

-- a, of those for whom it is noted
abbrev pub note_for : {A : Type 0} → (ℕ → Bool) → A → (ℕ → A) → ℕ → A
note_for who a old u = cond (who u) a (old u)

abbrev pub spot_at : ℕ → Rule → Spot
spot_at n r = record { moment = n; side = itself; rule = r }

-- at a step of task t that saw x
abbrev pub noted : Notes → ℕ → Sight → Notes
noted o t x = let at : ℕ → Bool = λ n. eqb x.line n in let own : ℕ → Bool = λ u. eqb u t in record {
  now = suc o.now;
  loaded = note_for (λ u. (at 11 || at 20) && own u) o.now o.loaded;
  stored = note_for (λ u. at 23 && own u) o.now o.stored;
  stored_active = note_for (λ u. at 23 && own u) x.active o.stored_active;
  inactive = note_for (λ u. (at 27 && x.active) && x.holders u) o.now o.inactive;
  decided = note_for (λ u. ((at 10 || at 15) && own u) || ((at 2 && x.undecided) && x.holders u)) o.now o.decided;
  replaced = note_for (λ u. (at 30 && x.current) && x.holders u) o.now o.replaced;
  waiting = cond (at 2 && x.undecided) (upd o.waiting x.cell none) o.waiting;
}

-- THE RULES

-- C6: who installs its block takes effect there. Who fails: o.b was replaced; before that, if another value than the expected was decided,
-- else after it.
abbrev pub line_c6 : Notes → ℕ → Sight → Response → Spot
line_c6 o t x (Value v) = spot_at o.now C6
line_c6 o t x Yes = spot_at o.now C6
line_c6 o t x No = record { moment = o.replaced t; side = cond x.as_expected after before; rule = C6 }

-- where C3 is linearized: at o.23 if o.b was active then, else at δC(o.b)
abbrev pub effect : Notes → ℕ → ℕ
effect o t = cond (o.stored_active t) (o.stored t) (o.inactive t)

-- by the line of the figure's list from which the call returns. C1: a swap of equal values is linearized where its read is.
abbrev pub rules : Notes → ℕ → Sight → Response → List (ℕ × Spot)
rules o t x a =
    (12, spot_at (o.loaded t) (cond x.swaps C1 R1)) ∷
    (13, spot_at (o.decided t) (cond x.swaps C1 R2)) ∷
    (22, spot_at (o.loaded t) C2) ∷
    (25, spot_at (effect o t) C3) ∷
    (26, spot_at (o.stored t) C4) ∷
    (28, spot_at (o.decided t) C5) ∷
    (30, line_c6 o t x a) ∷ []

-- the first clause stands for every other line: no call returns from one
abbrev pub rule_at : ℕ → List (ℕ × Spot) → Spot
rule_at n [] = spot_at 0 R1
rule_at n (p ∷ l) = cond (eqb n p.0) p.1 (rule_at n l)

abbrev pub ruled : Notes → ℕ → Sight → Response → Spot
ruled o t x a = rule_at x.figure_line (rules o t x a)

-- PENDING SWAPS: one that has stored, so at line 24, 25 or 26 (who went on to 28 found another value decided). It is listed if its block was
-- active then; or if not, and its block's decision is its new value.
abbrev pub stands : Notes → ℕ → Sight → Option Spot
stands o t x = cond (within x.figure_line 24 26)
    (cond (o.stored_active t) (some (spot_at (o.stored t) C4)) (cond x.as_new (some (spot_at (o.inactive t) C3)) none)) none

-- WITHDRAWN SWAPS: by the rule for pending ones. What it says at the drop stays, but of a swap that stored late in a block that is not decided
-- yet: that one waits for the decision, which comes in the same life of the block, for nobody replaces a block that is not decided. In each
-- cell at most one waits: theorem `one_waits`.

-- the block is decided as v: who waited for it takes effect, where the block became inactive, if v is its new value
abbrev pub landed : Option Waiting → (v : ℕ) → Option (ℕ × Spot)
landed none v = none
landed (some w) v = cond (eqb v w.new) (some (w.drop, spot_at w.inactive C3)) none

-- at a step that saw x
abbrev pub lands : Notes → Sight → Option (ℕ × Spot)
lands o x = cond (eqb x.line 2 && x.undecided) (landed (o.waiting x.cell) x.loaded) none

abbrev pub waits : Notes → ℕ → Sight → Bool
waits o t x = within x.figure_line 24 26 && (not (o.stored_active t) && x.undecided)

-- at a drop of task t that saw x
abbrev pub drop_noted : Notes → ℕ → Sight → Notes
drop_noted o t x = record {
  now = suc o.now;
  loaded = o.loaded;
  stored = o.stored;
  stored_active = o.stored_active;
  inactive = o.inactive;
  decided = o.decided;
  replaced = o.replaced;
  waiting = cond (waits o t x) (upd o.waiting x.cell (some (record { drop = o.now; new = x.new; inactive = o.inactive t }))) o.waiting;
}

-- BESIDE A MACHINE, by what its tasks see

abbrev pub note_drop : Event → Notes → ℕ → Sight → Notes
note_drop (refused n) o t x = nothing_noted o
note_drop (accepted y) o t x = drop_noted o t x
note_drop (answered y r) o t x = nothing_noted o

-- a refused step notes nothing, nor does a begin
abbrev pub note_step : Event → Notes → ℕ → Sight → Notes
note_step (refused n) o t x = nothing_noted o
note_step (accepted y) o t x = noted o t x
note_step (answered y r) o t x = noted o t x

module _ {S : Type 0} (machine : S → Action → S × Event) (see : S → ℕ → Sight) where
  abbrev pub note : Notes → S → Action → Event → Notes
  note o s (begin t op) e = nothing_noted o
  note o s (step t) e = note_step e o t (see s t)
  note o s (drop t) e = note_drop e o t (see s t)

  abbrev pub noting : S × Notes → Action → (S × Notes) × Event
  noting = beside machine note

  abbrev pub names : Names (S × Notes)
  names = record { ending = λ x t a. ruled x.1 t (see x.0 t) a; standing = λ x t. stands x.1 t (see x.0 t); landing = λ x t. lands x.1 (see x.0 t) }

-- THE FIGURE

abbrev pub sees : World → ℕ → Sight
sees w t = sight w.records (λ k. (w.cell k).current) (λ k. word_of (w.cell k)) t

-- the marks of a list of actions, from an opening
abbrev pub moments : (tasks cells : ℕ) → List ℕ → List Action → List Mark
moments n v vs l = linearized (noting figure sees) (names figure sees) n (opening n v vs, no_notes) l
