-- The rule for withdrawn swaps as CR 8 and CR 12 say it. It is looked up when the list is over, by what was kept at each drop. In the figure
-- every block is new and a decision stays, so D of the block that the swap held is found there.
use Rattle.std.specs.Prelude.{Bool, cond, List, [], ◌∷◌, ◌++◌, ℕ, eqb, ltb}
use Rattle.std.proofs.Math.Option.{Option, none, some}
use Rattle.history_spec.specs.History.{Action, begin, step, drop, Event, refused, accepted, answered, Call, Calls, enter}
use Rattle.history_spec.specs.Moments.{C3, C4, Spot}
use Rattle.figure.specs.Figure.{World, figure}
use Rattle.figure_moments.specs.Moments.{Notes, spot_at, note, sees}

-- a withdrawn call, and what its drop found: its cell, the block that it held, and its new value; then the action of its line 23, whether the
-- block was active at that, and the action that made the block inactive
pub record Withdrawal : Type 0 where
  pub call : Call
  pub cell : ℕ
  pub block : ℕ
  pub new : ℕ
  pub stored : ℕ
  pub stored_active : Bool
  pub inactive : ℕ

-- of task t's pending call
abbrev pub kept_of : World → Notes → ℕ → Option Call → List Withdrawal
kept_of w o t none = []
kept_of w o t (some c) = let r = w.records t in record { call = c; cell = r.cell; block = r.held; new = r.new; stored = o.stored t; stored_active = o.stored_active t; inactive = o.inactive t } ∷ []

abbrev pub withdraws : World → Notes → Calls → Action → Event → List Withdrawal
withdraws w o b (begin t op) e = []
withdraws w o b (step t) e = []
withdraws w o b (drop t) (refused n) = []
withdraws w o b (drop t) (accepted x) = kept_of w o t (b.pending t)
withdraws w o b (drop t) (answered x r) = []

-- those so far, and those of the actions to come, the last one first
abbrev pub withdrawals : World → Notes → Calls → List Withdrawal → List Action → List Withdrawal
withdrawals w o b l [] = l
withdrawals w o b l (a ∷ r) = let e = (figure w a).1 in withdrawals (figure w a).0 (note figure sees o w a e) (enter b a e) (withdraws w o b a e ++ l) r

-- THE RULE. w is the figure at the end.

-- of a call that has stored: at its store, if its block was active then. Else where the block became inactive, if its decided value is the new one
abbrev pub effect_of : World → Withdrawal → Option Spot
effect_of w x = cond x.stored_active (some (spot_at x.stored C4)) (cond (eqb ((w.cell x.cell).d x.block) x.new) (some (spot_at x.inactive C3)) none)

-- a call has stored if its line 23 came after its begin; no other is listed
abbrev pub withdrawn_spot : World → Withdrawal → Option Spot
withdrawn_spot w x = cond (ltb x.call.start.at x.stored) (effect_of w x) none
