-- None of the actions drawn is refused.
use mathlib.Core.Path.{◌≡◌, refl, sym, ap, ◌∙◌}
use mathlib.Core.Logic.{inl, inr}
use mathlib.Core.Bool.{Bool, true, false, cond, false≢true}
use mathlib.Core.Option.{none}
use mathlib.Core.List.{List}
use Prim.Native.Nat.{ℕ, zero, suc, ◌<◌}
use native.Mathlib.Omega.{arith}
use borrow.Author.Tests.{lt-ltb, ne_eqb}
use lib.Dec.{eqb, ltb}
use Rattle.history_spec.specs.Basics.{◌∈◌}
use Rattle.history_spec.specs.History.{Action, begin, step, read, swap, Attempt, Event, refused, history}
use Rattle.figure_lines.specs.Record.{no_value, is_idle, record_at}
use Rattle.cells_spec.specs.declared.State.{State}
use Rattle.cells_spec.specs.Questions.{refusal}
use Rattle.cells_spec.specs.Answers.{Said, Refused, Acted, Ended, acts}
use Rattle.cells_spec.specs.Events.{event_of}
use Rattle.cells_spec.specs.Machine.{Pool, does, tried_by, pool}
use Rattle.cells_spec.proofs.Acts.{read-acts, swap-acts, step-acts}
use Rattle.cells_theorems.specs.Reached.{Reached}
use Rattle.cells_theorems.proofs.Refines.{together}
use Rattle.cells_theorems.proofs.Reaching.{reached-next, reached-fit, reached_20}
use Rattle.shake_spec.specs.Generator.{next, below}
use Rattle.shake_spec.specs.Drawn.{Drawn, drawn, drawn_begin, drawn_action}
use Rattle.shake_spec.specs.Actions.{drawn_actions, zero_start}
use Rattle.shake_spec.specs.Shaken.{shake_questions, shaken_actions}
use Rattle.shake_spec.proofs.Writing.{below_lt}
use Rattle.shake_spec.proofs.Shaking.{sizes}
use Rattle.shake_spec.proofs.Allowed.{start-reached}

-- the sizes stay those of the opening
module _ {n v : ℕ} {s : State} {p : List ℕ} (r : Reached n v s p) where
  reached_sizes : (s.tasks ≡ n) × (s.cells ≡ v)
  reached_sizes =
      let z = (together r.old r.words n v r.blocks r.values r.allowed r.actions).agree.sizes in
      (ap (λ (x : Pool). x.0.tasks) r.came ∙ z.same-tasks, ap (λ (x : Pool). x.0.cells) r.came ∙ z.same-cells)

-- AN ACTION, of a task that is free or busy as it must be

module _ {n v : ℕ} {s : State} {p : List ℕ} (r : Reached n v s p) (t : ℕ) (h : t < n) where
  in_tasks : ltb t s.tasks ≡ true
  in_tasks = rw (reached_sizes r).0 (lt-ltb t n h)

  in_cells : (k : ℕ) → k < v → ltb k s.cells ≡ true
  in_cells k g = rw (reached_sizes r).1 (lt-ltb k v g)

  module _ (idle : is_idle (record_at s.records t) ≡ true) (k : ℕ) (g : k < v) where
    read-accepted : acts (does s p (begin t (read k))).outcome ≡ true
    read-accepted = read-acts s p t k ∙ rw (reached-fit r, in_tasks, in_cells k g, idle)

    swap-accepted : (x y : ℕ) → x < 4 → y < 4 → acts (does s p (begin t (swap k x y))).outcome ≡ true
    swap-accepted x y i j =
        swap-acts s p t k x y ∙ rw (reached-fit r, in_tasks, in_cells k g, idle, ne_eqb x no_value (λ z. omega (arith, z)), ne_eqb y no_value (λ z. omega (arith, z)))

  step-accepted : is_idle (record_at s.records t) ≡ false → acts (does s p (step t)).outcome ≡ true
  step-accepted busy = step-acts s p t ∙ rw (reached-fit r, in_tasks, busy, reached_20 r t h)

-- AN ACTION THAT IS DRAWN

either_way : (P : Action → Type 0) (b : Bool) (x y : Drawn) → (b ≡ true → P x.action) → (b ≡ false → P y.action) → P (cond b x y).action
either_way P true x y h g = h refl
either_way P false x y h g = g refl

module _ {n v : ℕ} {s : State} {p : List ℕ} (r : Reached n v s p) (hn : 0 < n) (hv : 0 < v) where
  abbrev Accepts : Action → Type 0
  Accepts a = acts (does s p a).outcome ≡ true

  begin-accepted : (t g : ℕ) → t < n → is_idle (record_at s.records t) ≡ true → Accepts (drawn_begin t v g).action
  unfolding drawn_begin
  begin-accepted t g h e =
      let g₁ = next g in
      let g₂ = next g₁ in
      let g₃ = next g₂ in
      let g₄ = next g₃ in
      let cell = below_lt v g₂ hv in
      let reads = drawn (begin t (read (below v g₂))) g₂ in
      let swaps = drawn (begin t (swap (below v g₂) (below 4 g₃) (below 4 g₄))) g₄ in
      either_way Accepts (eqb (below 2 g₁) 0) reads swaps
      (λ _. read-accepted r t h e (below v g₂) cell)
      (λ _. swap-accepted r t h e (below v g₂) cell (below 4 g₃) (below 4 g₄) (below_lt 4 g₃ (omega arith)) (below_lt 4 g₄ (omega arith)))

  drawn-accepted : (g : ℕ) → Accepts (drawn_action n v s g).action
  unfolding drawn_action
  drawn-accepted g =
      let t = below n (next g) in
      let task = below_lt n (next g) hn in
      either_way Accepts (is_idle (record_at s.records t)) (drawn_begin t v (next g)) (drawn (step t) (next g))
      (begin-accepted t (next g) task) (step-accepted r t task)

-- ALL OF THEM

not_refused : (x : Attempt) (m : ℕ) (o : Said) → acts o ≡ true → event_of x o ≡ refused m → ⊥
not_refused x m (Refused k) a e = false≢true a
not_refused x m Acted a e = let z : ◌≡◌ {A = ℕ} 0 1 = cc in omega arith
not_refused x m (Ended f) a e = let z : ◌≡◌ {A = ℕ} 0 1 = cc in omega arith

all-accepted : {n v : ℕ} → 0 < n → 0 < v → (k g : ℕ) {s : State} {p : List ℕ} → Reached n v s p → (a : Action) (m : ℕ) → ¬ ((a, refused m) ∈ history pool (s, p) (drawn_actions n v k g (s, p)))
unfolding drawn_actions
all-accepted hn hv zero g r a m x = x
all-accepted {n} {v} hn hv (suc k) g {s} {p} r a m (inl e) =
    let d = (drawn_action n v s g).action in
    not_refused (tried_by s p d) m (does s p d).outcome (drawn-accepted r hn hv g) (sym (ap (λ (y : Action × Event). y.1) e))
all-accepted {n} {v} hn hv (suc k) g {s} {p} r a m (inr x) =
    let d = drawn_action n v s g in
    all-accepted hn hv k d.generator (reached-next r d.action) a m x

-- No action of a session that is drawn is refused when it is run.
pub none_refused : (seed tasks cells blocks length : ℕ) → refusal (shake_questions tasks cells blocks length) ≡ none
    → (action : Action) (number : ℕ) → ¬ ((action, refused number) ∈ history pool (zero_start tasks cells blocks) (shaken_actions seed tasks cells blocks length))
none_refused seed tasks cells blocks length e =
    let h = sizes tasks cells blocks length e in
    all-accepted h.0 h.2 length seed (start-reached tasks cells blocks length e)
