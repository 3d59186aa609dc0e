-- One action, in numbers: what it did, the word that it makes, what is noted, for whom, and who waits.
use Rattle.std.specs.Prelude.{Bool, true, false, ◌&&◌, ◌||◌, cond, List, [], ℕ, zero, suc, eqb, Option, Some, None}
use Rattle.std.proofs.Math.Option as Math
use Rattle.figure_lines.specs.Answers.{answer_of}
use Rattle.figure_lines.specs.declared.Record.{Record}
use Rattle.figure_lines.specs.Record.{record_at, op_of}
use Rattle.cells_spec.specs.Answers.{Said, Refused, Acted, Ended}
use Rattle.cells_spec.specs.Machine.{Pool, pool}
use Rattle.history_spec.specs.History.{Op, Action, begin, step, drop, Response, Yes, no_calls}
use Rattle.history_spec.specs.Moments.{Spot, C3, Mark, marks}
use Rattle.figure_moments.specs.Moments.{Notes, no_notes, nothing_noted, noted, noting, names, spot_at, ruled, stands, waits}
use Rattle.figure_moments.specs.Moments as Figure
use Rattle.cells_theorems.specs.Moments.{sees_pool}
use Rattle.moments_tool.specs.declared.sights.Sight.{Sight}
use Rattle.moments_tool.specs.declared.sights.Own.{Own}
use Rattle.moments_tool.specs.declared.sights.Waiter.{Waiter}
use Rattle.moments_tool.specs.declared.sights.Deed as sights
use Rattle.moments_tool.specs.declared.sights.Deed.TheVariants as deed
use Rattle.moments_tool.specs.Words.{mark_word, entered, IsMade}
use Rattle.moments_tool.specs.Notes.{sight_of, own_notes, nobody_waits, with_waiting}

-- WHAT AN ACTION DID TO ITS TASK'S CALL

pub data Deed : Type 0 where
  Nothing Moved Dropped : Deed
  Answered : Response → Deed

abbrev pub deed_of : Action → Said → Deed
deed_of (begin t op) u = Nothing
deed_of (step t) (Refused n) = Nothing
deed_of (step t) Acted = Moved
deed_of (step t) (Ended f) = Answered f.answer
deed_of (drop t) (Refused n) = Nothing
deed_of (drop t) Acted = Dropped
deed_of (drop t) (Ended f) = Nothing

-- what the code's enum says
abbrev pub deed_meant : sights.Deed → Deed
deed_meant deed.Nothing = Nothing
deed_meant deed.Moved = Moved
deed_meant (deed.Answered a) = Answered (answer_of a)
deed_meant deed.Dropped = Dropped

-- the action was a step that is done
abbrev pub deed_is_step : Deed → Bool
deed_is_step Nothing = false
deed_is_step Moved = true
deed_is_step (Answered a) = true
deed_is_step Dropped = false

-- the tasks' notes after it; who waits is kept apart
abbrev pub notes_after : Deed → Notes → (task : ℕ) → Figure.Sight → Notes
notes_after d o t x = cond (deed_is_step d) (with_waiting nobody_waits (noted o t x)) (nothing_noted o)

abbrev pub decides : ℕ → Sight → Bool
decides n x = eqb n 2 && x.undecided

-- it is noted for everybody who holds the block
abbrev pub spreads : ℕ → Sight → Bool
spreads n x = decides n x || ((eqb n 27 && x.active) || (eqb n 30 && x.current))

-- THE WORD THAT IT MAKES, if any: of a task with that record and those notes, in whose cell w waits

-- where its call takes effect
abbrev pub ending_spot : ℕ → Own → Record → Sight → Response → Spot
ending_spot i o r x a = ruled (own_notes i o) 0 (sight_of 0 r x []) a

abbrev pub standing_spot : Own → Record → Sight → Math.Option Spot
standing_spot o r x = stands (own_notes 0 o) 0 (sight_of 0 r x [])

abbrev pub stand_word : Math.Option Spot → Op → (task : ℕ) → Option ℕ
stand_word Math.none op t = None
stand_word (Math.some p) op t = Some (mark_word p op t Yes)

abbrev pub landed_word : Record → Sight → Option Waiter → Option ℕ
landed_word r x None = None
landed_word r x (Some w) = cond (decides r.line x && eqb r.loaded w.new) (Some w.mark) None

abbrev pub made_word : Deed → (now task : ℕ) → Record → Sight → Own → Option Waiter → Option ℕ
made_word Nothing i t r x o w = None
made_word Moved i t r x o w = landed_word r x w
made_word (Answered a) i t r x o w = Some (mark_word (ending_spot i o r x a) (op_of r) t a)
made_word Dropped i t r x o w = stand_word (standing_spot o r x) (op_of r) t

-- WHO WAITS IN ITS CELL AFTER THE ACTION

abbrev pub decided_waiter : Record → Sight → Option Waiter → Option Waiter
decided_waiter r x w = cond (decides r.line x) None w

abbrev pub dropped_waiter : (task : ℕ) → Record → Sight → Own → Option Waiter → Option Waiter
dropped_waiter t r x o w = cond (waits (own_notes 0 o) 0 (sight_of 0 r x [])) (Some (record { mark = mark_word (spot_at o.inactive C3) (op_of r) t Yes; new = r.new })) w

abbrev pub next_waiter : Deed → (task : ℕ) → Record → Sight → Own → Option Waiter → Option Waiter
next_waiter Nothing t r x o w = w
next_waiter Moved t r x o w = decided_waiter r x w
next_waiter (Answered a) t r x o w = decided_waiter r x w
next_waiter Dropped t r x o w = dropped_waiter t r x o w

-- AFTER THE LAST ACTION: the words of the pending swaps of tasks below n that took effect

module _ (x : Pool) (o : Notes) where
  abbrev pub pending_word : ℕ → Option ℕ
  pending_word t = stand_word (stands o t (sees_pool x t)) (op_of (record_at x.0.records t)) t

  unfoldable pub closing : ℕ → List ℕ → List ℕ
  closing zero l = l
  closing (suc t) l = entered (pending_word t) (closing t l)

  unfoldable pub Closing : ℕ → Type 0
  Closing zero = Unit {0}
  Closing (suc t) = IsMade (pending_word t) × Closing t

-- THE WHOLE

abbrev pub all_marks : (tasks : ℕ) → Pool → List Action → List Mark
all_marks n x l = marks (noting pool sees_pool) (names pool sees_pool) n (x, no_notes) no_calls [] l
