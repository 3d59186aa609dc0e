-- Opening.
use Rattle.std.specs.Prelude.{◌≡◌, List, [], ◌∷◌, ◌++◌, ℕ, ◌+◌, ◌-◌, length, replicate}
use Rattle.std.proofs.Math.Option.{Option, none, some}
use Rattle.cells_spec.specs.declared.State.{State}
use Rattle.cells_spec.specs.Answers.{Said, Refused, Acted}
use Rattle.figure_lines.specs.Record.{idle}
use Rattle.cells_spec.specs.Pool.{fill}
use Rattle.cells_spec.specs.Questions.{refusal, open_questions}

-- what an entry leaves and answers
pub record After : Type 0 where
  pub state : State
  pub pool : List ℕ
  pub outcome : Said

abbrev pub leaving : State → List ℕ → Said → After
leaving s p o = record { state = s; pool = p; outcome = o }

-- a refusal returns the number alone: state, records and pool stay
abbrev pub unless : Option ℕ → State → List ℕ → After → After
unless none s p acted = acted
unless (some n) s p acted = record { state = s; pool = p; outcome = Refused n }

-- refused, an entry leaves nothing but the number
abbrev pub Untouched : State → List ℕ → After → Type 0
Untouched s p a = (n : ℕ) → a.outcome ≡ Refused n → a ≡ leaving s p (Refused n)

-- block k starts with the k-th value
abbrev pub filled : List ℕ → List ℕ → ℕ → List ℕ
filled p [] k = p
filled p (v ∷ vs) k = filled (fill p k v) vs (k + 1)

-- a state to open
abbrev pub blank : State
blank = record { tasks = 0; cells = 0; blocks = 0; last = 0; current = replicate 16 0; records = replicate 32 idle; counts = replicate 128 0 }

-- cell k names block k, so that each of the first V blocks is used once; the last taken is block V - 1; every record is idle
abbrev pub open_state : (tasks cells blocks : ℕ) → State
open_state n v b = record { tasks = n; cells = v; blocks = b; last = v - 1; current = 0 ∷ 1 ∷ 2 ∷ 3 ∷ 4 ∷ 5 ∷ 6 ∷ 7 ∷ 8 ∷ 9 ∷ 10 ∷ 11 ∷ 12 ∷ 13 ∷ 14 ∷ 15 ∷ []; records = replicate 32 idle; counts = replicate v 1 ++ replicate (128 - v) 0 }

abbrev pub open_pool : List ℕ → List ℕ → List ℕ
open_pool p vs = filled (replicate (length p) 0) vs 0

unfoldable pub opened : State → List ℕ → (tasks cells blocks : ℕ) → List ℕ → After
opened s p n v b vs = unless (refusal (open_questions (length p) n v b vs)) s p (record { state = open_state n v b; pool = open_pool p vs; outcome = Acted })
