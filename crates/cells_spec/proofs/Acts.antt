-- Each entry acts exactly when every question is answered yes; where it does not act, state and pool stay.
use mathlib.Core.Path.{◌≡◌, refl, sym, ap, ◌∙◌}
use mathlib.Core.Logic.{◌↔◌}
use mathlib.Core.Bool.{true, false, false≢true}
use mathlib.Core.Option.{Option, none, some}
use mathlib.Core.List.{List, [], ◌∷◌}
use Prim.Native.Nat.{ℕ}
use lib.ListN.{length}
use Rattle.cells_spec.specs.declared.State.{State}
use Rattle.cells_spec.specs.Answers.{Acted, acts, shows}
use Rattle.figure_lines.specs.declared.Field.{Field}
use Rattle.figure_lines.specs.declared.Field.TheVariants.{C, D}
use Rattle.figure_lines.specs.Answers.{Next, Go, Done}
use Rattle.figure_lines.specs.Basics.{ands}
use Rattle.figure_lines.specs.Record.{record_at}
use Rattle.figure_lines.specs.Lines.{access_of, next_of}
use Rattle.cells_spec.specs.Pool.{word}
use Rattle.cells_spec.specs.Questions.{Question, refusal, fit, open_questions, begin_questions, swap_questions, look_questions, answers}
use Rattle.cells_spec.specs.Open.{After, leaving, unless, Untouched, open_state, open_pool, opened}
use Rattle.figure_lines.specs.Record.{first_read, first_swap}
use Rattle.cells_spec.specs.Begin.{started, read_begun, swap_begun}
use Rattle.cells_spec.specs.Blocks.{unused}
use Rattle.cells_spec.specs.Memory.{Touched, performed}
use Rattle.cells_spec.specs.Turn.{ending}
use Rattle.cells_spec.specs.Step.{current, ran, step_asks, stepped}
use Rattle.cells_spec.specs.Drop.{drop_asks, call_withdrawn, dropped}
use Rattle.cells_spec.specs.Look.{shown_value, shown, looked}
use Rattle.cells_spec.proofs.Tests.{all_yes}

-- QUESTIONS

all_none : (l : List Question) → ands (answers l) ≡ true → refusal l ≡ none
all_none [] e = refl
all_none ((n, true) ∷ l) e = all_none l e
all_none ((n, false) ∷ l) e = absurd (false≢true e)

-- nothing is refused exactly when every question is answered yes
pub acts_iff : (l : List Question) → (refusal l ≡ none) ↔ (ands (answers l) ≡ true)
acts_iff l = (all_yes l, all_none l)

module _ (s : State) (p : List ℕ) (a : After) (acted : acts a.outcome ≡ true) where
  asked : (l : List Question) → acts (unless (refusal l) s p a).outcome ≡ ands (answers l)
  asked [] = acted
  asked ((n, true) ∷ l) = asked l
  asked ((n, false) ∷ l) = refl

  untouched : (o : Option ℕ) → Untouched s p (unless o s p a)
  untouched none n e = absurd (false≢true (sym (ap acts e) ∙ acted))
  untouched (some m) n e = ap (leaving s p) e

-- THE ENTRIES

module _ (s : State) (p : List ℕ) (tasks cells blocks : ℕ) (values : List ℕ) where
  pub open_acts : acts (opened s p tasks cells blocks values).outcome ≡ ands (answers (open_questions (length p) tasks cells blocks values))
  unfolding opened
  open_acts = asked s p (leaving (open_state tasks cells blocks) (open_pool p values) Acted) refl (open_questions (length p) tasks cells blocks values)

  pub open_allowed : (opened s p tasks cells blocks values).outcome ≡ Acted → refusal (open_questions (length p) tasks cells blocks values) ≡ none
  open_allowed e = (acts_iff (open_questions (length p) tasks cells blocks values)).1 (sym open_acts ∙ ap acts e)

  pub open_untouched : Untouched s p (opened s p tasks cells blocks values)
  unfolding opened
  open_untouched = untouched s p (leaving (open_state tasks cells blocks) (open_pool p values) Acted) refl (refusal (open_questions (length p) tasks cells blocks values))

module _ (s : State) (p : List ℕ) (t : ℕ) where
  module _ (k : ℕ) where
    pub read-acts : acts (read_begun s p t k).outcome ≡ ands (answers ((6, fit s p) ∷ begin_questions s.tasks s.cells (record_at s.records t) t k))
    unfolding read_begun
    read-acts = asked s p (started s p t (first_read k)) refl ((6, fit s p) ∷ begin_questions s.tasks s.cells (record_at s.records t) t k)

    pub read_untouched : Untouched s p (read_begun s p t k)
    unfolding read_begun
    read_untouched = untouched s p (started s p t (first_read k)) refl (refusal ((6, fit s p) ∷ begin_questions s.tasks s.cells (record_at s.records t) t k))

  module _ (k e n : ℕ) where
    pub swap-acts : acts (swap_begun s p t k e n).outcome ≡ ands (answers ((6, fit s p) ∷ swap_questions s.tasks s.cells (record_at s.records t) t k e n))
    unfolding swap_begun
    swap-acts = asked s p (started s p t (first_swap k e n)) refl ((6, fit s p) ∷ swap_questions s.tasks s.cells (record_at s.records t) t k e n)

    pub swap_untouched : Untouched s p (swap_begun s p t k e n)
    unfolding swap_begun
    swap_untouched = untouched s p (started s p t (first_swap k e n)) refl (refusal ((6, fit s p) ∷ swap_questions s.tasks s.cells (record_at s.records t) t k e n))

  follows : (m : Touched) (x : Next) → acts (ending m x).outcome ≡ true
  follows m (Go r) = refl
  follows m (Done f) = refl

  runs : acts (ran s p t (record_at s.records t)).outcome ≡ true
  unfolding ran
  runs = let m = performed p (current s (record_at s.records t).cell) s.last (unused s) (access_of t (record_at s.records t)) in follows m (next_of t (record_at s.records t) m.value)

  pub step-acts : acts (stepped s p t).outcome ≡ ands (answers (step_asks s p t))
  unfolding stepped
  step-acts = asked s p (ran s p t (record_at s.records t)) runs (step_asks s p t)

  pub step_untouched : Untouched s p (stepped s p t)
  unfolding stepped
  step_untouched = untouched s p (ran s p t (record_at s.records t)) runs (refusal (step_asks s p t))

  pub drop-acts : acts (dropped s p t).outcome ≡ ands (answers (drop_asks s p t))
  unfolding dropped
  drop-acts = asked s p (call_withdrawn s p t) refl (drop_asks s p t)

  pub drop_untouched : Untouched s p (dropped s p t)
  unfolding dropped
  drop_untouched = untouched s p (call_withdrawn s p t) refl (refusal (drop_asks s p t))

-- a look hands back no state and no pool
shown_as : (l : List Question) (v : ℕ) → shows (shown (refusal l) v) ≡ ands (answers l)
shown_as [] v = refl
shown_as ((n, true) ∷ l) v = shown_as l v
shown_as ((n, false) ∷ l) v = refl

pub look_shows : (s : State) (p : List ℕ) (k : ℕ) → shows (looked s p k) ≡ ands (answers ((6, fit s p) ∷ look_questions s.cells k))
unfolding looked
look_shows s p k =
    let b = current s k in
    shown_as ((6, fit s p) ∷ look_questions s.cells k) (shown_value (word p b C) (word p b Field.V) (word p b D))
