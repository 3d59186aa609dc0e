-- The finished calls that bus prints are those of the history, and those whose lines are traced, one by one.
use mathlib.Core.Path.{◌≡◌, refl, sym, ap, ◌∙◌}
use mathlib.Core.Option.{Option, none, some}
use mathlib.Core.List.{List, [], ◌∷◌, map, reverse, reverse_aux, reverse-reverse}
use Prim.Native.Nat.{ℕ}
use Rattle.history_spec.specs.Basics.{upd}
use Rattle.history_spec.specs.History.{Op, Action, begin, step, drop, Attempt, Report, Event, refused, accepted, answered, Call, FinishedCall, Calls, no_calls, called, advanced, closed, passed, enter, enter_all, calls_of, IsBusy, WellFormed}
use Rattle.history_spec.proofs.Basics.{upd-cases}
use Rattle.figure.specs.Traces.{Traced, finished_report, traced_report}
use Rattle.bus_spec.specs.Bus.{finished_calls}
use Rattle.bus_spec.specs.Choices.{task_and_report}

-- OF A HISTORY

abbrev OfTask : (task : ℕ) → Option Call → Type 0
OfTask t none = Unit {0}
OfTask t (some c) = c.start.task ≡ t

abbrev Own : Calls → Type 0
Own b = (t : ℕ) → OfTask t (b.pending t)

put : (b : Calls) → Own b → (t : ℕ) (o : Option Call) → OfTask t o → (u : ℕ) → OfTask u (upd b.pending t o u)
put b own t o h u = upd-cases (OfTask u) b.pending t o u (λ e. rw e h) (λ e. own u)

advances : (b : Calls) (x : Attempt) (t : ℕ) (o : Option Call) → OfTask t o → OfTask t (advanced b x o)
advances b x t none h = tt
advances b x t (some c) h = h

closes : (b : Calls) (x : Attempt) (r : Report) (t : ℕ) (o : Option Call) → OfTask t o → IsBusy o → map task_and_report (closed (advanced b x o) r b.finished) ≡ ((t, r) ∷ map task_and_report b.finished)
closes b x r t none h busy = absurd busy
closes b x r t (some c) h busy = rw h

all_finished : (size : ℕ) (h : List (Action × Event)) (b : Calls) → Own b → WellFormed size b h → map task_and_report (enter_all b h).finished ≡ reverse_aux (finished_calls h) (map task_and_report b.finished)
all_finished size [] b own w = refl
all_finished size ((a, refused n) ∷ h) b own w = all_finished size h (passed b) own w.1
all_finished size ((begin t op, accepted x) ∷ h) b own w = all_finished size h (enter b (begin t op) (accepted x)) (put b own t (some (called b t op)) refl) w.1
all_finished size ((begin t op, answered x r) ∷ h) b own w = absurd w.0
all_finished size ((step t, accepted x) ∷ h) b own w = all_finished size h (enter b (step t) (accepted x)) (put b own t (advanced b x (b.pending t)) (advances b x t (b.pending t) (own t))) w.1
all_finished size ((step t, answered x r) ∷ h) b own w =
    all_finished size h (enter b (step t) (answered x r)) (put b own t none tt) w.1 ∙
    ap (reverse_aux (finished_calls h)) (closes b x r t (b.pending t) (own t) w.0)
all_finished size ((drop t, accepted x) ∷ h) b own w = all_finished size h (enter b (drop t) (accepted x)) (put b own t none tt) w.1
all_finished size ((drop t, answered x r) ∷ h) b own w = absurd w.0

-- the history's calls, which have the last one first
pub finished-calls : (size : ℕ) (h : List (Action × Event)) → WellFormed size no_calls h → map task_and_report (calls_of h).finished ≡ reverse (finished_calls h)
finished-calls size h w = all_finished size h no_calls (λ t. tt) w

-- OF A TRACE

abbrev pub report_of : Traced → Report
report_of x = x.report

abbrev pub second : {A B : Type 0} → A × B → B
second p = p.1

module _ {A B C : Type 0} where
  map_map : (g : B → C) (f : A → B) (l : List A) → map g (map f l) ≡ map (λ a. g (f a)) l
  map_map g f [] = refl
  map_map g f (a ∷ l) = ap (λ m. g (f a) ∷ m) (map_map g f l)

module _ {A B : Type 0} (f : A → B) where
  map_onto : (l r : List A) → map f (reverse_aux l r) ≡ reverse_aux (map f l) (map f r)
  map_onto [] r = refl
  map_onto (a ∷ l) r = map_onto l (a ∷ r)

  map_reverse : (l : List A) → map f (reverse l) ≡ reverse (map f l)
  map_reverse l = map_onto l []

-- the traced calls, first to finish first, report what the finished calls do
pub traced_reports : (done : List Traced) (finished : List FinishedCall) (calls : List (ℕ × Report)) → map finished_report finished ≡ map traced_report done → map task_and_report finished ≡ reverse calls
    → map report_of (reverse done) ≡ map (second {A = ℕ}) calls
traced_reports done finished calls traced reported =
    let same : map report_of done ≡ map second (reverse calls) = sym (map_map (second {A = Op}) traced_report done) ∙ (ap (map second) (sym traced) ∙ (map_map second finished_report finished ∙ (sym (map_map second task_and_report finished) ∙ ap (map second) reported))) in
    map_reverse report_of done ∙ (ap reverse same ∙ (sym (map_reverse second (reverse calls)) ∙ ap (map second) (reverse-reverse calls)))
