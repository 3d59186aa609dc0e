-- An action on the pool, taken apart: it is refused and leaves all as it was, or it stores a first record, or it runs its task's line.
use mathlib.Core.Path.{◌≡◌, refl, ap}
use mathlib.Core.Logic.{◌⊎◌, inl, inr}
use mathlib.Core.Bool.{Bool, true, false, not, cond}
use mathlib.Core.Option.{Option, none, some}
use mathlib.Core.List.{List, [], ◌∷◌}
use Prim.Native.Nat.{ℕ, zero, suc, ◌<◌}
use lib.Dec.{eqb, T}
use lib.ListN.{get_or, set}
use borrow.Author.Tests.{ltb-true}
use Rattle.figure_lines.specs.declared.Record.{Record}
use Rattle.cells_spec.specs.declared.State.{State}
use Rattle.cells_spec.specs.Answers.{Refused}
use Rattle.figure_lines.specs.Answers.{Next}
use Rattle.figure_lines.specs.Record.{record_at, first_read, first_swap}
use Rattle.figure_lines.specs.Lines.{Line, line_of, access_at, attempt, counted, next_at}
use Rattle.cells_spec.specs.Questions.{refusal, fit, taken_before, has_taken, begin_questions, swap_questions}
use Rattle.cells_spec.proofs.Tests.{yes_to}
use Rattle.cells_spec.proofs.Numbers.{number, at-number}
use Rattle.cells_spec.specs.Blocks.{unused}
use Rattle.cells_spec.specs.Open.{After, leaving, unless}
use Rattle.cells_spec.specs.Begin.{started, read_begun, swap_begun}
use Rattle.cells_spec.specs.Memory.{Touched, performed}
use Rattle.cells_spec.specs.Turn.{ending}
use Rattle.cells_spec.specs.Step.{current, put_back, ran, step_asks, stepped}
use Rattle.cells_spec.specs.Drop.{drop_asks, call_withdrawn, dropped}
use Rattle.cells_spec.proofs.Stepping.{own_acting}
use Rattle.history_spec.specs.History.{Op, read, swap, Attempt}
use Rattle.cells_spec.specs.Machine.{begins}

-- a changed element is the new one, at its place, or the old one
pub set_either : {A : Type 0} (l : List A) (n : ℕ) (a d : A) (m : ℕ) → ((m ≡ n) × (get_or (set l n a) m d ≡ a)) ⊎ (get_or (set l n a) m d ≡ get_or l m d)
set_either [] n a d m = inr refl
set_either (x ∷ l) zero a d zero = inl (refl, refl)
set_either (x ∷ l) zero a d (suc m) = inr refl
set_either (x ∷ l) (suc n) a d zero = inr refl
set_either (x ∷ l) (suc n) a d (suc m) = go (set_either l n a d m)
  where
    go : ((m ≡ n) × (get_or (set l n a) m d ≡ a)) ⊎ (get_or (set l n a) m d ≡ get_or l m d) → ((suc m ≡ suc n) × (get_or (set l n a) m d ≡ a)) ⊎ (get_or (set l n a) m d ≡ get_or l m d)
    go (inl (e, g)) = inl (ap suc e, g)
    go (inr e) = inr e

module _ (s : State) (p : List ℕ) (t : ℕ) where
  abbrev r : Record
  r = record_at s.records t

  -- at line ℓ: its access, what becomes of its attempt, and what follows
  abbrev pub touched_at : Line → Touched
  touched_at ℓ = performed p (current s r.cell) s.last (unused s) (access_at ℓ t r)

  abbrev pub tries_at : Line → Attempt
  tries_at ℓ = attempt (access_at ℓ t r) (touched_at ℓ).value

  abbrev pub following : Line → Next
  following ℓ = next_at ℓ t (counted r (tries_at ℓ)) (touched_at ℓ).value

  -- what is left of it, whether its call goes on or is finished
  abbrev pub ran_at : Line → After
  ran_at ℓ = put_back s t r (ending (touched_at ℓ) (following ℓ))

  -- there is such a task, and its record has its line's number
  pub record Runs : Type 0 where
    pub task : t < s.tasks
    pub line : r.line ≡ number (line_of r)

  pub data Stepped : After → Type 0 where
    refuses : (n : ℕ) → Stepped (leaving s p (Refused n))
    runs : Runs → Stepped (ran_at (line_of r))

  pub step-cases : Stepped (stepped s p t)
  unfolding stepped ran
  step-cases = go (refusal (step_asks s p t)) refl
    where
      go : (o : Option ℕ) → refusal (step_asks s p t) ≡ o → Stepped (unless o s p (ran s p t r))
      go none e = runs (record { task = ltb-true t s.tasks (yes_to (step_asks s p t) e 7); line = at-number r (own_acting s p t e).line })
      go (some n) e = refuses n

  -- the record that a begin stores refers to no taken block
  pub data Began : After → Type 0 where
    declines : (n : ℕ) → Began (leaving s p (Refused n))
    starts : (q : Record) → T (not (has_taken q)) → Began (started s p t q)

  pub begin-cases : (op : Op) → Began (begins s p t op)
  unfolding read_begun swap_begun
  begin-cases op = go op
    where
      by : (o : Option ℕ) (q : Record) → T (not (has_taken q)) → Began (unless o s p (started s p t q))
      by none q h = starts q h
      by (some n) q h = declines n

      at_first : (c : Bool) → T (not (taken_before (cond c 10 15)))
      at_first true = tt
      at_first false = tt

      go : (op : Op) → Began (begins s p t op)
      go (read k) = by (refusal ((6, fit s p) ∷ begin_questions s.tasks s.cells r t k)) (first_read k) tt
      go (swap k e n) = by (refusal ((6, fit s p) ∷ swap_questions s.tasks s.cells r t k e n)) (first_swap k e n) (at_first (eqb e n))

  -- a drop leaves an idle record
  pub data Dropped : After → Type 0 where
    keeps : (n : ℕ) → Dropped (leaving s p (Refused n))
    leaves : Dropped (call_withdrawn s p t)

  pub drop-cases : Dropped (dropped s p t)
  unfolding dropped
  drop-cases = go (refusal (drop_asks s p t))
    where
      go : (o : Option ℕ) → Dropped (unless o s p (call_withdrawn s p t))
      go none = leaves
      go (some n) = keeps n
