-- The named call, sought on newly opened cells.
use mathlib.Core.Path.{◌≡◌, sym, ap, subst, ◌∙◌}
use mathlib.Core.Option.{none, some}
use mathlib.Core.List.{List}
use Prim.Native.Nat.{ℕ}
use lib.ListN.{length}
use Rattle.cells_spec.specs.declared.State.{State}
use Rattle.cells_spec.specs.Machine.{Pool, pool}
use Rattle.history_spec.specs.History.{Action, FinishedCall, no_calls, history}
use Rattle.text.specs.Lines.{bad_line}
use Rattle.nudge_spec.specs.Nudge.{at_place, named_call, nudges, earliest, nudge, nudge_line, asked18}
use Rattle.nudge_spec.proofs.Nudge.{named_is_finished}
use Rattle.nudge_tool.specs.Calls.{Summary, summary, calls, Summarizes}
use Rattle.nudge_tool.proofs.Asking.{Started}
use Rattle.nudge_tool.proofs.Following.{Between, named_none, named_some}
use Rattle.nudge_tool.proofs.Exchanging.{who_of, between}

module _ {s : State} {p : List ℕ} (F : Started s p) (l : List Action) (t n : ℕ) where
  known : Between (who_of l) s.cells no_calls (history pool (s, p) l)
  known = subst (λ (x : Pool). Between (who_of l) s.cells no_calls (history pool x l)) (sym F.came) (between F.old F.words s.tasks s.cells F.blocks F.values F.allowed l l)

  pub sought_none : at_place n (calls t 0 0 (history pool (s, p) l)) ≡ none → bad_line 18 ≡ asked18 (s, p) l (named_call t n (history pool (s, p) l))
  sought_none e = ap (asked18 (s, p) l) (sym (named_none t n (history pool (s, p) l) known e))

  module _ (c : Summary) (e : at_place n (calls t 0 0 (history pool (s, p) l)) ≡ some c) where
    abbrev f : FinishedCall
    f = (named_some t n (history pool (s, p) l) known c e).0

    is : named_call t n (history pool (s, p) l) ≡ some f
    is = (named_some t n (history pool (s, p) l) known c e).1.0

    same : summary f ≡ c
    same = (named_some t n (history pool (s, p) l) known c e).1.1

    pub sought_finishes : Summarizes (history pool (s, p) l) t c
    sought_finishes = let d = named_is_finished t n (history pool (s, p) l) f is in record { call = f; finished = d.0; its-task = d.1; kept = same }

    pub sought_nudge : nudge_line (earliest (nudges (s, p) l c.at c.answer) 0 (length l)) ≡ asked18 (s, p) l (named_call t n (history pool (s, p) l))
    unfolding nudge
    sought_nudge = ap (λ (c : Summary). nudge_line (earliest (nudges (s, p) l c.at c.answer) 0 (length l))) (sym same) ∙ ap (asked18 (s, p) l) (sym is)
