-- The sequential specification (document 01: plain cells) and linearizations.
use Rattle.std.specs.Prelude.{◌≡◌, cond, List, [], ◌∷◌, map, ℕ, ◌≤◌, ◌<◌, eqb}
use Rattle.history_spec.specs.Basics.{◌∈◌, Once}
use Rattle.history_spec.specs.History.{Op, read, swap, cell_of, Response, Value, Yes, No, CallId, Call, FinishedCall, Calls, CallOf}

-- THE SEQUENTIAL SPECIFICATION

-- of a cell's value: what an operation answers, and the value after it
abbrev pub reply : ℕ → Op → Response
reply v (read k) = Value v
reply v (swap k e n) = cond (eqb v e) Yes No

abbrev pub value_left : ℕ → Op → ℕ
value_left v (read k) = v
value_left v (swap k e n) = cond (eqb v e) n v

-- the cells after an operation
abbrev pub apply : (ℕ → ℕ) → Op → ℕ → ℕ
apply cells op k = cond (eqb k (cell_of op)) (value_left (cells k) op) (cells k)

-- LINEARIZATIONS

-- a call at the moment where it takes effect, its linearization point
pub record Point : Type 0 where
  pub moment : ℕ
  pub call : CallId

-- the calls with the sequential specification's answers
abbrev pub replies : (ℕ → ℕ) → List Point → List (Point × Response)
replies cells [] = []
replies cells (e ∷ l) = (e, reply (cells (cell_of e.call.op)) e.call.op) ∷ replies (apply cells e.call.op) l

abbrev pub Sorted : List Point → Type 0
Sorted [] = Unit {0}
Sorted (e ∷ l) = ((x : Point) → x ∈ l → e.moment ≤ x.moment) × Sorted l

-- a point is of a call of the history, at a moment after its begin and no later than its last step
pub record Placed (b : Calls) (e : Point) : Type 0 where
  pub call : Call
  pub end : ℕ
  pub of_history : CallOf b call end
  pub is : e.call ≡ call.start
  pub after-begin : call.start.at < e.moment
  pub by_last_step : e.moment ≤ call.last

-- every finished call stands there once, with its own answer; some pending ones and some withdrawn ones stand there once each
pub record Linearizes (values : ℕ → ℕ) (b : Calls) (l : List Point) : Type 0 where
  pub sorted : Sorted l
  pub placed : (e : Point) → e ∈ l → Placed b e
  pub once : Once (map (λ e. e.call.at) l)
  pub answers : (f : FinishedCall) → f ∈ b.finished →
      (e : Point) × (e.call ≡ f.call.start) × (f.call.start.at < e.moment) × (e.moment ≤ f.call.last) × ((e, f.report.answer) ∈ replies values l)
