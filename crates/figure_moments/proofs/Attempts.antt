-- A step's attempt is won or lost by the memory before it: of any memory that answers a hardware CAS by what it finds.
use mathlib.Core.Path.{◌≡◌, refl, sym, ap, ◌∙◌, subst}
use mathlib.Core.Logic.{◌≢◌, ◌⊎◌, inl, inr, ⊎_elim}
use mathlib.Core.Bool.{Bool, true, false, ◌&&◌, ◌||◌, not, cond}
use mathlib.Core.List.{List, []}
use Prim.Native.Nat.{ℕ}
use lib.Dec.{eqb, T, eqb→eq}
use borrow.Author.Tests.{eq-eqb, ne_eqb}
use Rattle.figure_lines.specs.declared.Record.{Record}
use Rattle.figure_lines.specs.declared.Field.{Field}
use Rattle.figure_lines.specs.declared.Field.TheVariants.{D}
use Rattle.figure_lines.specs.declared.Access.{Access}
use Rattle.figure_lines.specs.declared.Access.TheVariants.{DecideCas, InstallCas}
use Rattle.figure_lines.specs.Record.{no_value}
use Rattle.figure_lines.specs.Lines.{Line, for13, for25, for28, l2, l30, line_of, access_at, access_of, hardware, found, attempt}
use Rattle.figure_lines.proofs.Cas.{decide-value, install-value}
use Rattle.figure_cell.proofs.Tries.{none_tried}
use Rattle.cells_spec.specs.Questions.{line_fit}
use Rattle.cells_spec.proofs.Numbers.{number, at-number}
use Rattle.cells_spec.specs.Events.{tried}
use Rattle.history_spec.specs.History.{success, failure, untried, Action, run}
use Rattle.history_spec.proofs.Basics.{either}
use Rattle.history_spec.proofs.ListTests.{or_either}
use Rattle.figure_cell.specs.Memory.{Cell, word_of, cell_keeping}
use Rattle.figure.specs.Figure.{World, figure_answers, tried_in, opening, figure}
use Rattle.figure_moments.specs.Moments.{sight, sees}
use Rattle.figure_moments.specs.Attempts.{judged}
use Rattle.figure_cell.proofs.Classes.{is, lies_in}
use Rattle.figure_cell.proofs.LineLaws.{same, same-is}
use Rattle.figure.proofs.Records.{OnPath, AllOnPath, run_on_path}

found-is : (b : Bool) → found (cond b 1 0) ≡ cond b success failure
found-is true = refl
found-is false = refl

-- THE LINES THAT ATTEMPT

module _ (t : ℕ) (r : Record) (fits : line_fit r ≡ true) where
  is-line : (n : ℕ) → r.line ≡ n → T (is n (line_of r))
  is-line n e = rw (eq-eqb (number (line_of r)) n (sym (at-number r fits) ∙ e)) tt

  at-line : (l : Line) → T (same (line_of r) l) → access_of t r ≡ access_at l t r
  at-line l h = ap (λ l. access_at l t r) {x = line_of r} (same-is (line_of r) l h)

  pub at_2 : r.line ≡ 2 → access_of t r ≡ DecideCas r.held r.loaded
  at_2 e =
      ⊎_elim (at-line (l2 for13)) (λ h. ⊎_elim (at-line (l2 for25)) (at-line (l2 for28)) (or_either (same (line_of r) (l2 for25)) (same (line_of r) (l2 for28)) h))
      (or_either (same (line_of r) (l2 for13)) (same (line_of r) (l2 for25) || same (line_of r) (l2 for28))
      (lies_in (is 2) (λ l. same l (l2 for13) || (same l (l2 for25) || same l (l2 for28))) tt (line_of r) (is-line 2 e)))

  at_30 : r.line ≡ 30 → access_of t r ≡ InstallCas r.cell r.held r.taken
  at_30 e = at-line l30 (lies_in (is 30) (λ l. same l l30) tt (line_of r) (is-line 30 e))

  at_others : r.line ≢ 2 → r.line ≢ 30 → (v : ℕ) → attempt (access_of t r) v ≡ untried
  at_others a b v =
      let e = at-number r fits in
      let h : T (not (is 2 (line_of r)) && not (is 30 (line_of r))) = rw (ne_eqb (number (line_of r)) 2 (λ z. a (e ∙ z)), ne_eqb (number (line_of r)) 30 (λ z. b (e ∙ z))) tt in
      none_tried (access_of t r) v (eqb→eq _ _ (lies_in (λ l. not (is 2 l) && not (is 30 l)) (λ l. eqb (hardware (access_at l t r)) 0) tt (line_of r) h))

-- ANY MEMORY, whose words and current blocks a task sees

module _ (records : ℕ → Record) (current : ℕ → ℕ) (words : ℕ → ℕ → Field → ℕ) (t : ℕ) (answer : Access → ℕ) where
  abbrev r : Record
  r = records t

  pub judge : line_fit r ≡ true → ((b n : ℕ) → answer (DecideCas b n) ≡ cond (eqb (words r.cell b D) no_value) 1 0) → ((k b n : ℕ) → answer (InstallCas k b n) ≡ cond (eqb (current r.cell) b) 1 0)
      → tried t r answer ≡ judged (sight records current words t)
  judge fits decides installs = go (either r.line 2) (either r.line 30)
    where
      go : (r.line ≡ 2) ⊎ (r.line ≢ 2) → (r.line ≡ 30) ⊎ (r.line ≢ 30) → tried t r answer ≡ judged (sight records current words t)
      go (inl e) z =
          ap (λ a. attempt a (answer a)) (at_2 t r fits e) ∙ (ap found (decides r.held r.loaded) ∙ (found-is (eqb (words r.cell r.held D) no_value) ∙ rw e))
      go (inr n) (inl e) =
          ap (λ a. attempt a (answer a)) (at_30 t r fits e) ∙ (ap found (installs r.cell r.held r.taken) ∙ (found-is (eqb (current r.cell) r.held) ∙ rw e))
      go (inr n) (inr m) = at_others t r fits n m (answer (access_of t r)) ∙ rw (ne_eqb r.line 2 n, ne_eqb r.line 30 m)

-- THE FIGURE

figure-attempts : (w : World) → AllOnPath w → (task : ℕ) → tried_in w task (w.records task) ≡ judged (sees w task)
figure-attempts w p t = go (p t).1
  where
    m : Cell
    m = w.cell (w.records t).cell

    go : OnPath w.tasks w.cells t (p t).0 (w.records t) → tried_in w t (w.records t) ≡ judged (sees w t)
    go (inl e) = subst (λ (f : Record). tried t f (figure_answers w f) ≡ judged (sight (λ u. f) (λ k. (w.cell k).current) (λ k. word_of (w.cell k)) t)) (sym e.0) refl
    go (inr (l, o)) =
        judge w.records (λ k. (w.cell k).current) (λ k. word_of (w.cell k)) t (figure_answers w (w.records t)) o.line
        (decide-value cell_keeping m (λ a. a.value) (λ c v. refl)) (install-value cell_keeping m (λ a. a.value) (λ c v. refl))

-- A step's attempt is won exactly if the memory before it had D none, at line 2, or the held block current, at line 30; neither is guessed.
pub attempts-judged : (tasks cells : ℕ) (values : List ℕ) (actions : List Action) (task : ℕ) → let now = run figure (opening tasks cells values) actions in
    tried_in now task (now.records task) ≡ judged (sees now task)
attempts-judged n v vs l t = figure-attempts (run figure (opening n v vs) l) (run_on_path (opening n v vs) (λ u. ([], inl (refl, refl))) l) t
