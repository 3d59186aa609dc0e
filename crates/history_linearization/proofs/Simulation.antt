-- What a machine's own proof has to give for demand 3: a forward simulation by the sequential specification, with counts and quiet tasks, and
-- that the moments which the machine names are right.
use mathlib.Core.Path.{◌≡◌}
use mathlib.Core.Logic.{◌≢◌, ◌⊎◌, Lift}
use mathlib.Core.Bool.{Bool, true, false, not, cond}
use mathlib.Core.Option.{Option, none, some}
use Prim.Native.Nat.{ℕ, suc, ◌+◌, ◌≤◌, ◌<◌}
use lib.Dec.{eqb, T}
use Rattle.history_spec.specs.Basics.{upd}
use Rattle.history_spec.specs.History.{Op, cell_of, kind_of, Action, begin, step, drop, Attempt, untried, wins, losses, Event, refused, accepted, answered, Response, Yes, Report}
use Rattle.history_spec.specs.Linearization.{reply, value_left, apply}
use Rattle.history_spec.specs.Demand3.{most, most_hard, Unequal}
use Rattle.history_spec.specs.Moments.{before, itself, Spot, changes, Names, beside}

-- WHAT THE PROOF FOLLOWS BESIDE THE MACHINE

-- of each cell, whether a change may yet be put into its past. Settled: no. Frozen: since its block became inactive its value is not
-- known, for a swap that had begun before may still store. Late t: task t did store, and its swap may yet take effect at the freezing.
pub data Phase : Type 0 where
  settled frozen : Phase
  late : (task : ℕ) → Phase

pub record Ghost : Type 0 where
  -- the sequential cells now
  pub cells : ℕ → ℕ
  -- whether a task's pending swap took effect already, and at which moment
  pub placed : ℕ → Bool
  pub when : ℕ → ℕ
  -- each cell's phase, and the moment when it froze
  pub phase : ℕ → Phase
  pub since : ℕ → ℕ

abbrev pub fresh : (ℕ → ℕ) → Ghost
fresh values = record { cells = values; placed = λ t. false; when = λ t. 0; phase = λ k. settled; since = λ k. 0 }

-- what a task's pending call knows of its cell's past: the value that it held after the action of a moment since the begin, at which nothing
-- can change any more; and that the begin comes before the last freezing, or that the cell is settled
pub record Knowledge : Type 1 where
  pub saw : (task moment value : ℕ) → Type 0
  pub early : ℕ → Type 0

-- what a step does to the sequential cells: nothing; its swap takes effect; its cell is frozen; its swap stored late; its cell is
-- settled with no effect; its cell is settled, and the late swap of task u takes effect at the freezing
pub data Move : Type 0 where
  still act freeze store settle : Move
  land : (u : ℕ) → Op → Move

abbrev pub in_phase : Ghost → ℕ → Phase → Ghost
in_phase g k p = record { cells = g.cells; placed = g.placed; when = g.when; phase = upd g.phase k p; since = g.since }

abbrev pub freezes : Ghost → (cell moment : ℕ) → Ghost
freezes g k n = record { cells = g.cells; placed = g.placed; when = g.when; phase = upd g.phase k frozen; since = upd g.since k n }

-- task u's swap, at the moment n
abbrev pub takes_effect : Ghost → (u : ℕ) → Op → (n : ℕ) → Ghost
takes_effect g u op n = record { cells = apply g.cells op; placed = upd g.placed u true; when = upd g.when u n; phase = g.phase; since = g.since }

-- the step is of task t, in the operation op, at the moment n
abbrev pub shift : Ghost → (n t : ℕ) → Op → Move → Ghost
shift g n t op still = g
shift g n t op act = takes_effect g t op n
shift g n t op freeze = freezes g (cell_of op) n
shift g n t op store = in_phase g (cell_of op) (late t)
shift g n t op settle = in_phase g (cell_of op) settled
shift g n t op (land u o) = in_phase (takes_effect g u o (g.since (cell_of op))) (cell_of op) settled

-- a call that begins has taken no effect yet
abbrev pub unplaced : Ghost → ℕ → Ghost
unplaced g t = record { cells = g.cells; placed = upd g.placed t false; when = g.when; phase = g.phase; since = g.since }

-- task t's call is withdrawn: its place is kept under the number u, for its swap took effect, or may yet
abbrev pub renamed : (t u : ℕ) → Phase → Phase
renamed t u settled = settled
renamed t u frozen = frozen
renamed t u (late v) = cond (eqb v t) (late u) (late v)

abbrev pub parks : Ghost → (t u : ℕ) → Ghost
parks g t u = record { cells = g.cells; placed = upd g.placed u (g.placed t); when = upd g.when u (g.when t); phase = λ k. renamed t u (g.phase k); since = g.since }

-- what a machine counts of a task's pending call
pub record Tally : Type 0 where
  pub op : Op
  pub steps : ℕ
  pub won : ℕ
  pub lost : ℕ

abbrev pub first : Op → Tally
first op = record { op = op; steps = 0; won = 0; lost = 0 }

abbrev pub further : Tally → Attempt → Tally
further n x = record { op = n.op; steps = suc n.steps; won = n.won + wins x; lost = n.lost + losses x }

module _ {S : Type 0} (doing : S → ℕ → Option Tally) where
  -- COUNTS: what an action makes of the pending calls

  pub record Goes (s s' : S) (t : ℕ) (x : Attempt) : Type 0 where
    pub now : Tally
    pub was : doing s t ≡ some now
    pub rest : (u : ℕ) → doing s' u ≡ upd (doing s) t (some (further now x)) u

  pub record Ends (s s' : S) (t : ℕ) (x : Attempt) (r : Report) : Type 0 where
    pub now : Tally
    pub was : doing s t ≡ some now
    pub rest : (u : ℕ) → doing s' u ≡ upd (doing s) t none u
    pub kind : r.kind ≡ kind_of now.op
    pub cell : r.cell ≡ cell_of now.op
    pub steps : r.steps ≡ suc now.steps
    pub won : r.won ≡ now.won + wins x
    pub lost : r.lost ≡ now.lost + losses x
    pub few : r.won + r.lost ≤ most_hard now.op

  pub record Starts (size : ℕ) (s s' : S) (t : ℕ) (op : Op) (x : Attempt) : Type 0 where
    pub idle : doing s t ≡ none
    pub cell : cell_of op < size
    pub rest : (u : ℕ) → doing s' u ≡ upd (doing s) t (some (first op)) u
    pub no_attempt : x ≡ untried

  pub record Drops (s s' : S) (t : ℕ) (x : Attempt) : Type 0 where
    pub now : Tally
    pub was : doing s t ≡ some now
    pub rest : (u : ℕ) → doing s' u ≡ upd (doing s) t none u
    pub no_attempt : x ≡ untried

  -- a refused action changes nothing; a step or a drop is refused only where no call is pending
  abbrev pub Follows : ℕ → S → Action → S → Event → Type 0
  Follows size s (begin t op) s' (refused n) = s' ≡ s
  Follows size s (begin t op) s' (accepted x) = Starts size s s' t op x
  Follows size s (begin t op) s' (answered x r) = ⊥
  Follows size s (step t) s' (refused n) = (s' ≡ s) × (doing s t ≡ none)
  Follows size s (step t) s' (accepted x) = Goes s s' t x
  Follows size s (step t) s' (answered x r) = Ends s s' t x r
  Follows size s (drop t) s' (refused n) = (s' ≡ s) × (doing s t ≡ none)
  Follows size s (drop t) s' (accepted x) = Drops s s' t x
  Follows size s (drop t) s' (answered x r) = ⊥

  -- FORWARD SIMULATION: what an action makes of the ghost

  -- when a step of task t may make a move
  abbrev pub May : S → Ghost → Knowledge → ℕ → Op → Move → Type 0
  May s g κ t op still = Unit {0}
  May s g κ t op act = T (not (g.placed t)) × (g.phase (cell_of op) ≡ settled) × (reply (g.cells (cell_of op)) op ≡ Yes)
  May s g κ t op freeze = g.phase (cell_of op) ≡ settled
  May s g κ t op store = T (not (g.placed t)) × (g.phase (cell_of op) ≡ frozen) × κ.early t
  May s g κ t op settle = Unit {0}
  May s g κ t op (land u o) = (g.phase (cell_of op) ≡ late u) × ((n : Tally) × (doing s u ≡ some n) × (n.op ≡ o)) × (reply (g.cells (cell_of o)) o ≡ Yes)

  -- QUIET TASKS: those that meet no contention

  -- no swap of unequal values is pending on cell k
  abbrev pub Free : S → ℕ → Type 0
  Free s k = (u : ℕ) (n : Tally) → doing s u ≡ some n → Unequal n.op → cell_of n.op ≢ k

  -- `ready s op`: nothing that was left in its cell makes a call of op attempt a hardware CAS
  module _ (ready : S → Op → Type 0) (Quiet : S → ℕ → Type 0) where
    pub record QuietStarts (s s' : S) (t : ℕ) (op : Op) : Type 0 where
      pub new : ready s op → Free s (cell_of op) → Quiet s' t
      pub others : (u : ℕ) (n : Tally) → doing s u ≡ some n → (Unequal op → cell_of op ≢ cell_of n.op) → Quiet s u → Quiet s' u

    pub record QuietSteps (s s' : S) (t : ℕ) (x : Attempt) : Type 0 where
      pub no_attempt : Quiet s t → x ≡ untried
      pub kept : (u : ℕ) (n : Tally) → doing s' u ≡ some n → Quiet s u → Quiet s' u

    abbrev pub Quietly : S → Action → S → Event → Type 0
    Quietly s a s' (refused n) = Unit {0}
    Quietly s (begin t op) s' (accepted x) = QuietStarts s s' t op
    Quietly s (begin t op) s' (answered x r) = ⊥
    Quietly s (step t) s' (accepted x) = QuietSteps s s' t x
    Quietly s (step t) s' (answered x r) = QuietSteps s s' t x
    Quietly s (drop t) s' (accepted x) = (u : ℕ) (n : Tally) → doing s' u ≡ some n → Quiet s u → Quiet s' u
    Quietly s (drop t) s' (answered x r) = ⊥

-- never before an action, and who changes its cell at the action itself
pub record Sided (op : Op) (a : Response) (p : Spot) : Type 0 where
  pub never_before : p.side ≢ before
  pub change_itself : T (changes op a) → p.side ≡ itself

-- of a machine's state with its notes, by the number of the next action and the moments that are named
module _ {X : Type 0} (doing : X → ℕ → Option Tally) (clock : X → ℕ) (names : Names X) where
  -- what is known stays known while the call is pending; in a settled cell its value after the action is seen, and every pending call is early
  pub record Grown (x x' : X) (g' : Ghost) (κ κ' : Knowledge) : Type 0 where
    pub saw : (u : ℕ) (n n' : Tally) → doing x u ≡ some n → doing x' u ≡ some n' → (m v : ℕ) → κ.saw u m v → κ'.saw u m v
    pub early : (u : ℕ) (n n' : Tally) → doing x u ≡ some n → doing x' u ≡ some n' → κ.early u → κ'.early u
    pub sees : (u : ℕ) (n n' : Tally) → doing x u ≡ some n → doing x' u ≡ some n' → g'.phase (cell_of n'.op) ≡ settled → κ'.saw u (clock x) (g'.cells (cell_of n'.op))
    pub fresh_early : (u : ℕ) (n' : Tally) → doing x' u ≡ some n' → g'.phase (cell_of n'.op) ≡ settled → κ'.early u

  -- why a call of task t, in the operation op, may answer a and be placed at m: its swap takes effect with this step; it did before; or it
  -- changes nothing and saw a value for which a is the answer
  pub data Why (x : X) (g : Ghost) (κ : Knowledge) (t : ℕ) (op : Op) (a : Response) (m : ℕ) : Move → Type 0 where
    acts : a ≡ Yes → m ≡ clock x → Why x g κ t op a m act
    acted : T (g.placed t) → a ≡ Yes → m ≡ g.when t → Why x g κ t op a m still
    observes : (v : ℕ) → κ.saw t m v → reply v op ≡ a → value_left v op ≡ v → T (not (g.placed t)) → g.phase (cell_of op) ≢ late t → Why x g κ t op a m still

  -- what task t knew is known under the number u
  pub record Passes (κ κ' : Knowledge) (t u : ℕ) : Type 0 where
    pub saw : (m v : ℕ) → κ.saw t m v → κ'.saw u m v
    pub early : κ.early t → κ'.early u

  module _ (tasks : ℕ) (Inv : X → Ghost → Knowledge → Type 0) where
    -- the invariant holds again, whatever more is known by then
    abbrev pub Keeps : X → X → Ghost → Knowledge → Type 1
    Keeps x x' g' κ = (κ' : Knowledge) → Grown x x' g' κ κ' → Inv x' g' κ'

    pub record Moves (x x' : X) (g : Ghost) (κ : Knowledge) (t : ℕ) : Type 1 where
      pub now : Tally
      pub was : doing x t ≡ some now
      pub move : Move
      pub may : May doing x g κ t now.op move
      pub keeps : Keeps x x' (shift g (clock x) t now.op move) κ

    pub record Answers (x x' : X) (g : Ghost) (κ : Knowledge) (t : ℕ) (a : Response) : Type 1 where
      pub moves : Moves x x' g κ t
      pub why : Why x g κ t moves.now.op a (names.ending x t a).moment moves.move
      pub sided : Sided moves.now.op a (names.ending x t a)

    -- the number of a call that is withdrawn now: those below `tasks` are the tasks'
    abbrev pub Parks : X → X → Ghost → Knowledge → ℕ → Type 1
    Parks x x' g κ t = let u = tasks + clock x in (κ' : Knowledge) → Grown x x' (parks g t u) κ κ' → Passes κ κ' t u → Inv x' (parks g t u) κ'

    abbrev pub Forward : X → Ghost → Knowledge → Action → X → Event → Type 1
    Forward x g κ a x' (refused n) = Keeps x x' g κ
    Forward x g κ (begin t op) x' (accepted y) = Keeps x x' (unplaced g t) κ
    Forward x g κ (begin t op) x' (answered y r) = Lift {0, 1} ⊥
    Forward x g κ (step t) x' (accepted y) = Moves x x' g κ t
    Forward x g κ (step t) x' (answered y r) = Answers x x' g κ t r.answer
    Forward x g κ (drop t) x' (accepted y) = Parks x x' g κ t
    Forward x g κ (drop t) x' (answered y r) = Lift {0, 1} ⊥

-- a pending swap that took effect is named, with its moment
pub record Named (names : Option Spot) (when : ℕ) : Type 0 where
  pub spot : Spot
  pub is : names ≡ some spot
  pub moment : spot.moment ≡ when
  pub side : spot.side ≡ itself

-- WITHDRAWN SWAPS: f says where those stand that were withdrawn before an action, h after it

abbrev pub Lands : Option (ℕ × Spot) → (f h : ℕ → Option Spot) → Type 0
Lands none f h = (n : ℕ) → h n ≡ f n
Lands (some (m, p)) f h = (f m ≡ none) × (h m ≡ some p) × ((n : ℕ) → n ≢ m → h n ≡ f n)

abbrev pub Leaves : {X : Type 0} → Names X → (clock : X → ℕ) → X → Action → Event → (f h : ℕ → Option Spot) → Type 0
Leaves names clock x (begin t op) e f h = (n : ℕ) → h n ≡ f n
Leaves names clock x (step t) (refused r) f h = (n : ℕ) → h n ≡ f n
Leaves names clock x (step t) (accepted y) f h = Lands (names.landing x t) f h
Leaves names clock x (step t) (answered y r) f h = (n : ℕ) → h n ≡ f n
Leaves names clock x (drop t) (refused r) f h = (n : ℕ) → h n ≡ f n
Leaves names clock x (drop t) (accepted y) f h = (h (clock x) ≡ names.standing x t) × ((n : ℕ) → n ≢ clock x → h n ≡ f n)
Leaves names clock x (drop t) (answered y r) f h = (n : ℕ) → h n ≡ f n

-- ALL OF IT, of a machine with notes beside it

pub record Simulation {S N : Type 0} (machine : S → Action → S × Event) (note : N → S → Action → Event → N) (names : Names (S × N)) (start : S) (blank : N)
    (ready : S → Op → Type 0) (tasks size : ℕ) (values : ℕ → ℕ) : Type 1 where
  pub doing : S → ℕ → Option Tally
  pub clock : S × N → ℕ
  -- the pending calls; and, under the numbers from `tasks` on, those withdrawn calls that took effect or may yet: by the moments of their drops
  pub acting : S × N → ℕ → Option Tally
  -- where the call stands that was withdrawn at a moment, if it took effect
  pub left : S × N → ℕ → Option Spot
  pub Inv : S × N → Ghost → Knowledge → Type 0
  pub Quiet : S → ℕ → Type 0
  pub idle : (t : ℕ) → doing start t ≡ none
  pub none_acting : (u : ℕ) → acting (start, blank) u ≡ none
  pub first-moment : clock (start, blank) ≡ 0
  pub next-moment : (x : S × N) (a : Action) → clock (beside machine note x a).0 ≡ suc (clock x)
  pub opened : (κ : Knowledge) → Inv (start, blank) (fresh values) κ
  pub within : (x : S × N) (g : Ghost) (κ : Knowledge) → Inv x g κ → (t : ℕ) (n : Tally) → doing x.0 t ≡ some n → (n.steps < most n.op) × (n.won + n.lost ≤ most_hard n.op)
  pub follows : (x : S × N) (g : Ghost) (κ : Knowledge) → Inv x g κ → (a : Action) → Follows doing size x.0 a (machine x.0 a).0 (machine x.0 a).1
  pub forward : (x : S × N) (g : Ghost) (κ : Knowledge) → Inv x g κ → (a : Action) → Forward acting clock names tasks Inv x g κ a (beside machine note x a).0 (machine x.0 a).1
  pub quietly : (x : S × N) (g : Ghost) (κ : Knowledge) → Inv x g κ → (a : Action) → Quietly doing ready Quiet x.0 a (machine x.0 a).0 (machine x.0 a).1
  -- the tasks have the numbers below `tasks`
  pub low : (x : S × N) (g : Ghost) (κ : Knowledge) → Inv x g κ → (t : ℕ) (n : Tally) → doing x.0 t ≡ some n → t < tasks
  pub low-begin : (x : S × N) (g : Ghost) (κ : Knowledge) → Inv x g κ → (t : ℕ) (op : Op) (y : Attempt) → (machine x.0 (begin t op)).1 ≡ accepted y → t < tasks
  pub present : (x : S × N) (g : Ghost) (κ : Knowledge) → Inv x g κ → (a : Action) (t : ℕ) → t < tasks → acting (beside machine note x a).0 t ≡ doing (machine x.0 a).0 t
  pub parked : (x : S × N) (g : Ghost) (κ : Knowledge) → Inv x g κ → (a : Action) (n : ℕ) (y : Tally) → acting (beside machine note x a).0 (tasks + n) ≡ some y →
      (acting x (tasks + n) ≡ some y) ⊎ ((t : ℕ) × (z : Attempt) × (a ≡ drop t) × ((machine x.0 a).1 ≡ accepted z) × (n ≡ clock x) × (doing x.0 t ≡ some y))
  -- where the pending swaps of the tasks are named, and where the withdrawn ones stand
  pub listed : (x : S × N) (g : Ghost) (κ : Knowledge) → Inv x g κ → (t : ℕ) (n : Tally) → doing x.0 t ≡ some n → T (g.placed t) → Named (names.standing x t) (g.when t)
  pub unlisted : (x : S × N) (g : Ghost) (κ : Knowledge) → Inv x g κ → (t : ℕ) (n : Tally) → doing x.0 t ≡ some n → T (not (g.placed t)) → names.standing x t ≡ none
  pub listed_withdrawn : (x : S × N) (g : Ghost) (κ : Knowledge) → Inv x g κ → (n : ℕ) → n < clock x → T (g.placed (tasks + n)) → Named (left x n) (g.when (tasks + n))
  pub unlisted_withdrawn : (x : S × N) (g : Ghost) (κ : Knowledge) → Inv x g κ → (n : ℕ) → n < clock x → T (not (g.placed (tasks + n))) → left x n ≡ none
  pub leaves : (x : S × N) (g : Ghost) (κ : Knowledge) → Inv x g κ → (a : Action) → Leaves names clock x a (machine x.0 a).1 (left x) (left (beside machine note x a).0)
