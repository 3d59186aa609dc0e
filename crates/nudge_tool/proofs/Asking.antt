-- What an opening leaves, in the words of the theorems; then question 19.
use mathlib.Core.Path.{◌≡◌, sym, ap, ◌∙◌}
use mathlib.Core.Option.{none}
use mathlib.Core.Bool.{Bool}
use mathlib.Core.List.{List}
use Prim.Native.Nat.{ℕ, ◌≤◌, ◌<◌}
use lib.Dec.{leb}
use lib.ListN.{length}
use borrow.Author.Tests.{le-leb, lt-leb}
use Rattle.cells_spec.specs.declared.State.{State}
use Rattle.cells_spec.specs.Questions.{refusal, open_questions}
use Rattle.cells_spec.specs.Machine.{Pool, pool}
use Rattle.history_spec.specs.History.{Action, history, run}
use Rattle.cells_theorems.specs.Terms.{start}
use Rattle.session_engine.specs.Tool.{Fresh}
use Rattle.text.specs.Lines.{bad_line}
use Rattle.nudge_spec.specs.Nudge.{named_call, asked18, asked19}

-- newly opened: no action was done
pub record Started (s : State) (p : List ℕ) : Type 0 where
  pub old : State
  pub words : List ℕ
  pub blocks : ℕ
  pub values : List ℕ
  pub allowed : refusal (open_questions (length words) s.tasks s.cells blocks values) ≡ none
  pub came : (s, p) ≡ start old words s.tasks s.cells blocks values

pub started : {s : State} {p : List ℕ} → Fresh s p → Started s p
started {s} {p} h = let r = h.reached in record {
  old = r.old;
  words = r.words;
  blocks = r.blocks;
  values = r.values;
  allowed = r.allowed;
  came = r.came ∙ ap (run pool (start r.old r.words s.tasks s.cells r.blocks r.values)) h.no_actions;
}

-- QUESTION 19

module _ (t n : ℕ) (x : Pool) (l : List Action) where
  pub too_many : 2000 < length l → bad_line 19 ≡ asked19 (leb (length l) 2000) t n x l
  too_many h = ap (λ (c : Bool). asked19 c t n x l) (sym (lt-leb (length l) 2000 h))

  pub few_enough : length l ≤ 2000 → asked18 x l (named_call t n (history pool x l)) ≡ asked19 (leb (length l) 2000) t n x l
  few_enough h = ap (λ (c : Bool). asked19 c t n x l) (sym (le-leb (length l) 2000 h))
