-- Notes change no state; and those that only the proof looks at change no other note, and no mark.
use mathlib.Core.Path.{◌≡◌, refl, ap, ◌∙◌}
use mathlib.Core.List.{List, [], ◌∷◌, ◌++◌}
use Prim.Native.Nat.{ℕ, zero, suc}
use Rattle.history_spec.specs.History.{Action, begin, step, drop, Event, refused, accepted, answered, run, Calls, no_calls, enter}
use Rattle.history_spec.specs.Moments.{Mark, Names, beside, marked, mark_of_pending, pending_marks, marks, sort, linearized}

pub same_states : {S N : Type 0} (machine : S → Action → S × Event) (note : N → S → Action → Event → N) (s : S) (o : N) (l : List Action) → (run (beside machine note) (s, o) l).0 ≡ run machine s l
same_states machine note s o [] = refl
same_states machine note s o (a ∷ l) = same_states machine note (machine s a).0 (note o s a (machine s a).1) l

module _ {S N P : Type 0} (machine : S → Action → S × Event) (note : N → S → Action → Event → N) (names : Names (S × N)) (more : P → S → Action → Event → P) where
  abbrev pub note_both : N × P → S → Action → Event → N × P
  note_both q s a e = (note q.0 s a e, more q.1 s a e)

  abbrev pub names_both : Names (S × (N × P))
  names_both = record { ending = λ x t a. names.ending (x.0, x.1.0) t a; standing = λ x t. names.standing (x.0, x.1.0) t; landing = λ x t. names.landing (x.0, x.1.0) t }

  pub same-run : (s : S) (o : N) (p : P) (l : List Action) → let x = run (beside machine note_both) (s, (o, p)) l in ◌≡◌ {A = S × N} (x.0, x.1.0) (run (beside machine note) (s, o) l)
  same-run s o p [] = refl
  same-run s o p (a ∷ l) = let e = (machine s a).1 in same-run (machine s a).0 (note o s a e) (more p s a e) l

  same-pending : (s : S) (o : N) (p : P) (b : Calls) (n : ℕ) → pending_marks (beside machine note_both) names_both (s, (o, p)) b n ≡ pending_marks (beside machine note) names (s, o) b n
  same-pending s o p b zero = refl
  same-pending s o p b (suc n) = ap (λ l. mark_of_pending (beside machine note) names (names.standing (s, o) n) (b.pending n) ++ l) (same-pending s o p b n)

  same-marked : (s : S) (o : N) (p : P) (b : Calls) (a : Action) (e : Event) → marked (beside machine note_both) names_both (s, (o, p)) b a e ≡ marked (beside machine note) names (s, o) b a e
  same-marked s o p b (begin t op) e = refl
  same-marked s o p b (step t) (refused n) = refl
  same-marked s o p b (step t) (accepted x) = refl
  same-marked s o p b (step t) (answered x r) = refl
  same-marked s o p b (drop t) (refused n) = refl
  same-marked s o p b (drop t) (accepted x) = refl
  same-marked s o p b (drop t) (answered x r) = refl

  same-marks : (n : ℕ) (l : List Action) (s : S) (o : N) (p : P) (b : Calls) (ms : List Mark) → marks (beside machine note_both) names_both n (s, (o, p)) b ms l ≡ marks (beside machine note) names n (s, o) b ms l
  same-marks n [] s o p b ms = ap (λ (l : List Mark). l ++ ms) (same-pending s o p b n)
  same-marks n (a ∷ l) s o p b ms =
      let e = (machine s a).1 in
      ap (λ k. marks (beside machine note_both) names_both n (beside machine note_both (s, (o, p)) a).0 (enter b a e) (k ++ ms) l) (same-marked s o p b a e)
      ∙ same-marks n l (machine s a).0 (note o s a e) (more p s a e) (enter b a e) (marked (beside machine note) names (s, o) b a e ++ ms)

  pub same-linearized : (n : ℕ) (s : S) (o : N) (p : P) (l : List Action) → linearized (beside machine note_both) names_both n (s, (o, p)) l ≡ linearized (beside machine note) names n (s, o) l
  same-linearized n s o p l = ap sort (same-marks n l s o p no_calls [])
