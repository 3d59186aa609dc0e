-- An action prints 14 bytes, if what a call prints at its end is shared among its begin and its first two steps.
use mathlib.Core.Path.{◌≡◌, refl}
use mathlib.Core.Bool.{Bool, true, false, cond, ◌&&◌, ◌||◌, and-eq-true_iff}
use mathlib.Core.Option.{Option, none}
use mathlib.Core.List.{List, [], ◌∷◌}
use Prim.Native.Nat.{ℕ, zero, suc, ◌+◌, ◌*◌, ◌≤◌, ◌<◌}
use native.Mathlib.Omega.{arith}
use lib.Dec.{eqb, ltb}
use lib.ListN.{length, set, get_or}
use borrow.Author.Tests.{eqb-true, ne_eqb, ltb-true}
use Rattle.figure_lines.specs.declared.Record.{Record}
use Rattle.figure_lines.specs.Answers.{Next, Go, Done}
use Rattle.figure_lines.specs.Record.{idle, record_at, first_read, first_swap}
use Rattle.figure_lines.specs.Lines.{access_of, next_of}
use Rattle.cells_spec.specs.declared.State.{State}
use Rattle.cells_spec.specs.Questions.{Question, refusal, fit, begin_questions, swap_questions}
use Rattle.cells_spec.specs.Blocks.{unused}
use Rattle.cells_spec.specs.Answers.{Said}
use Rattle.cells_spec.specs.Open.{After, unless}
use Rattle.cells_spec.specs.Begin.{started, read_begun, swap_begun}
use Rattle.cells_spec.specs.Step.{current, ran, step_asks, stepped}
use Rattle.cells_spec.specs.Drop.{drop_asks, call_withdrawn, dropped}
use Rattle.cells_spec.specs.Memory.{Touched, performed}
use Rattle.cells_spec.specs.Turn.{ending, turn}
use Rattle.cells_spec.specs.Events.{event_of}
use Rattle.cells_spec.specs.Machine.{does}
use Rattle.cells_spec.proofs.Stepping.{Acting, own_acting}
use Rattle.history_spec.specs.History.{read, swap, Action, begin, step, drop, untried}
use Rattle.session_spec.specs.Lines.{event_line}
use Rattle.session_tool.proofs.Lengths.{no_length}

-- what a pending call has put by for the line of its end
abbrev weight_at : ℕ → ℕ
weight_at n = cond (eqb n 0) 0 (cond (eqb n 10 || eqb n 15) 14 28)

abbrev weight : Record → ℕ
weight r = weight_at r.line

unfoldable pub weights : List Record → ℕ
weights [] = 0
weights (r ∷ l) = weight r + weights l

at_most : (n : ℕ) → weight_at n ≤ 28
at_most n = go (eqb n 0) (eqb n 10 || eqb n 15)
  where
    go : (x y : Bool) → cond x 0 (cond y 14 28) ≤ 28
    go true y = omega arith
    go false true = omega arith
    go false false = omega arith

pub all_at_most : (l : List Record) → weights l ≤ 28 * length l
unfolding weights
all_at_most [] = omega arith
all_at_most (r ∷ l) = omega (arith, at_most r.line, all_at_most l)

weights_set : (l : List Record) (t : ℕ) (q : Record) → weights (set l t q) + weight (get_or l t idle) ≤ weights l + weight q
unfolding weights
weights_set [] t q = omega arith
weights_set (r ∷ l) zero q = omega arith
weights_set (r ∷ l) (suc t) q = omega (arith, weights_set l t q)

-- every question has a number of two digits
abbrev two_digits : List Question → Bool
two_digits [] = true
two_digits (q ∷ l) = ltb q.0 100 && two_digits l

module _ (i t : ℕ) (h : i < 100000) where
  abbrev pub cost : Said → ℕ
  cost o = length (event_line i t (event_of untried o))

  -- the line of a finished call is known to take at most 36 bytes
  abbrev pub Paid : State → After → Type 0
  Paid s x = cost x.outcome ≤ 36 → cost x.outcome + weights x.state.records ≤ 14 + weights s.records

  asked : (l : List Question) (s : State) (p : List ℕ) (x : After) → two_digits l ≡ true → (refusal l ≡ none → Paid s x) → Paid s (unless (refusal l) s p x)
  unfolding event_line
  asked [] s p x e f = f refl
  asked ((n, true) ∷ l) s p x e f = asked l s p x ((and-eq-true_iff (ltb n 100) (two_digits l)).0 e).1 f
  asked ((n, false) ∷ l) s p x e f = λ _. omega (arith, no_length i n h (ltb-true n 100 ((and-eq-true_iff (ltb n 100) (two_digits l)).0 e).0))

  begins : (s : State) (p : List ℕ) (k : ℕ) (q : Record) → weight q ≤ 14 → Paid s (started s p k q)
  unfolding event_line
  begins s p k q w = λ _. omega (arith, weights_set s.records k q, w)

  first-swap : (k e n : ℕ) → weight (first_swap k e n) ≤ 14
  first-swap k e n = go (eqb e n)
    where
      go : (x : Bool) → weight_at (cond x 10 15) ≤ 14
      go true = omega arith
      go false = omega arith

  -- what a line leaves to be paid
  abbrev Left : Record → (outcome : Said) → (before : ℕ) → Type 0
  Left q o w = cost o ≤ 36 → cost o + weight q ≤ 14 + w

  any : (m : Touched) (x : Next) → Left (ending m x).record (ending m x).outcome 28
  unfolding event_line
  any m (Go q) = λ _. omega (arith, at_most q.line)
  any m (Done f) = λ z. omega (arith, z)

  -- no call ends at its first line
  turns : (p : List ℕ) (k : ℕ) (r : Record) (c l : ℕ) (f : Option ℕ) → (r.line ≡ 0 → ⊥) → Left (turn p k r c l f).record (turn p k r c l f).outcome (weight r)
  unfolding event_line
  turns p k r c l f busy = go (eqb r.line 10) (eqb r.line 15) refl refl
    where
      go : (x y : Bool) → eqb r.line 10 ≡ x → eqb r.line 15 ≡ y → Left (turn p k r c l f).record (turn p k r c l f).outcome (weight r)
      go true y e g = rw (eqb-true r.line 10 e) (λ _. omega arith)
      go false true e g = rw (eqb-true r.line 15 g) (λ _. omega arith)
      go false false e g =
          let m = performed p c l f (access_of k r) in
          let w : weight r ≡ 28 = rw (ne_eqb _ _ busy, e, g) in
          λ z. omega (arith, any m (next_of k r m.value) z, w)

  steps : (s : State) (p : List ℕ) (k : ℕ) → Paid s (stepped s p k)
  unfolding stepped ran
  steps s p k =
      let r = record_at s.records k in
      asked (step_asks s p k) s p (ran s p k r) refl (λ g.
      let a : Acting s p k r = own_acting s p k g in
      let u = turn p k r (current s r.cell) s.last (unused s) in
      let busy : r.line ≡ 0 → ⊥ = λ e. let z : ◌≡◌ {A = Bool} false true = rw e at a.line in let y : ◌≡◌ {A = ℕ} 0 1 = cc in omega arith in
      λ z. omega (arith, turns p k r (current s r.cell) s.last (unused s) busy z, weights_set s.records k u.record))

  -- what a withdrawn call had put by is not needed
  drops : (s : State) (p : List ℕ) (k : ℕ) → Paid s (dropped s p k)
  unfolding dropped event_line
  drops s p k = asked (drop_asks s p k) s p (call_withdrawn s p k) refl (λ _ _. omega (arith, weights_set s.records k idle))

  pub paid : (s : State) (p : List ℕ) (a : Action) → Paid s (does s p a)
  unfolding read_begun swap_begun
  paid s p (begin k (read c)) = asked ((6, fit s p) ∷ begin_questions s.tasks s.cells (record_at s.records k) k c) s p (started s p k (first_read c)) refl (λ _. begins s p k (first_read c) (omega arith))
  paid s p (begin k (swap c e n)) = asked ((6, fit s p) ∷ swap_questions s.tasks s.cells (record_at s.records k) k c e n) s p (started s p k (first_swap c e n)) refl (λ _. begins s p k (first_swap c e n) (first-swap c e n))
  paid s p (step k) = steps s p k
  paid s p (drop k) = drops s p k
