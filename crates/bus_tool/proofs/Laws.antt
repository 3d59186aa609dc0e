-- What the code's answers say of questions 21 and 22, of the row that it found, and of the longest call.
use mathlib.Core.Path.{◌≡◌, refl, sym, ◌∙◌}
use mathlib.Core.Bool.{Bool, true, false, ◌||◌, false≢true}
use mathlib.Core.Option.{Option, none, some}
use Rattle.std.proofs.Common.{Ok, Err}
use Prim.Native.Nat.{ℕ, ◌+◌, ◌≤◌, ◌<◌}
use native.Mathlib.Omega.{arith}
use lib.Dec.{ltb}
use borrow.Author.Tests.{ltb-true}
use Rattle.figure_lines.specs.Paths.{row_of}
use Rattle.text.specs.Lines.{bad_line}
use mathlib.Core.List.{List}
use Rattle.cells_spec.proofs.Tests.{yes_to}
use Rattle.cells_spec.specs.Questions.{refusal}
use Rattle.cells_spec.specs.Machine.{Pool}
use Rattle.history_spec.specs.History.{Action, Report}
use Rattle.bus_spec.specs.Bus.{PerKind, per_kind, Times, ordered, short_times, bus_questions, in_row, counts_of, Timed, timed, bus_calls, calls_text, bus_text}
use Rattle.bus_spec.proofs.Fits.{row-found, few-accesses, call_fits}
use Rattle.bus_spec.proofs.Printed.{text-accepted}
use Rattle.bus_tool.specs.declared.kinds.Kinds.{Kinds}
use Rattle.bus_tool.specs.declared.ranges.Ranges.{Ranges}
use Rattle.bus_tool.specs.declared.refusal.TimesRefusal.{TimesRefusal}
use Rattle.bus_tool.specs.Kinds.{times_between}
use Rattle.bus_tool.specs.Refusals.{number}
use Rattle.bus_tool.specs.Structs.{times_of, AskedTimes}

module _ (w : Times) {x : Bool} (in_order : x ≡ ordered w) where
  pub refused-21 : x ≡ false → refusal (bus_questions w) ≡ some 21
  refused-21 e = rw (sym in_order ∙ e)

  module _ (yes-21 : x ≡ true) {y : Bool} (short : y ≡ short_times w) where
    pub refused-22 : y ≡ false → refusal (bus_questions w) ≡ some 22
    refused-22 e = rw (sym in_order ∙ yes-21, sym short ∙ e)

    pub none_refused : y ≡ true → refusal (bus_questions w) ≡ none
    none_refused e = rw (sym in_order ∙ yes-21, sym short ∙ e)

-- no row has more hardware CAS attempts than accesses
module _ (r : Report) where
  pub too_many : (ltb 21 r.won || ltb 21 r.lost) ≡ true → per_kind 0 0 0 ≡ counts_of r
  too_many e = go (row_of r.steps (r.won + r.lost)) refl
    where
      more : (x y : Bool) → ltb 21 r.won ≡ x → ltb 21 r.lost ≡ y → (x || y) ≡ true → 21 < r.won + r.lost
      more true y p q e = omega (arith, ltb-true 21 r.won p)
      more false true p q e = omega (arith, ltb-true 21 r.lost q)
      more false false p q e = absurd (false≢true e)

      go : (o : Option (ℕ × ℕ)) → row_of r.steps (r.won + r.lost) ≡ o → per_kind 0 0 0 ≡ in_row (r.won + r.lost) o
      go none q = refl
      go (some (l, s)) q = absurd (omega (arith, row-found r.steps (r.won + r.lost) l s q, more (ltb 21 r.won) (ltb 21 r.lost) refl refl e))

-- a call that has the counts of a report does few accesses
pub few_of : (c : PerKind) (r : Report) → c ≡ counts_of r → c.load + c.store + c.hardware ≤ 21
few_of c r e = rw e (few-accesses r)

-- a call with short times
pub call_known : (w : Times) → short_times w ≡ true → (n : ℕ) (f : ℕ × Report) {c : Timed} → c ≡ timed w n f → (c.least ≤ 21000000) × (c.greatest ≤ 21000000)
call_known w h n f e = rw e (call_fits w h n f)

-- WHAT IS PRINTED of the ranges, and of the question that refuses them

module _ (w : Ranges) where
  pub are_short : short_times (times_of w) ≡ true
  are_short = yes_to (bus_questions (times_of w)) w.allowed 22

  pub calls_printed : (l h : Kinds) → AskedTimes l h (Ok w) → (tasks : ℕ) (x : Pool) (k : List Action) → calls_text (bus_calls (times_of w) x k) ≡ bus_text (times_between l h) tasks x k
  calls_printed l h a tasks x k = rw (← a.0, ← a.1) (sym (text-accepted (times_of w) w.allowed tasks x k))

pub refusal-printed : (l h : Kinds) (e : TimesRefusal) → AskedTimes l h (Err e) → {n : ℕ} → n ≡ number e → (tasks : ℕ) (x : Pool) (k : List Action) → bad_line n ≡ bus_text (times_between l h) tasks x k
unfolding bus_text
refusal-printed l h e a i tasks x k = rw (a, i, bus_text)
