-- A written file is answered yes by question 13.
use mathlib.Core.Path.{◌≡◌, refl, ap, ◌∙◌}
use mathlib.Core.Bool.{Bool, true, ◌||◌}
use mathlib.Core.List.{List, [], ◌∷◌, ◌++◌, append_assoc}
use Prim.Native.Nat.{ℕ, zero, suc, ◌+◌, ◌-◌, ◌≤◌, ◌<◌}
use native.Mathlib.Omega.{arith}
use borrow.Author.Tests.{lt-ltb}
use lib.Dec.{eqb}
use Rattle.history_spec.specs.History.{read, swap, Action, begin, step, drop}
use Rattle.text.specs.Bytes.{bytes, decimal}
use Rattle.text.specs.Lines.{numbers}
use Rattle.session_spec.specs.Shape.{starts_item, fits, deeper, shaped_after, shaped}
use Rattle.session_spec.specs.Session.{Opening, Form, act, again, Forms, empty, with}
use Rattle.session_spec.specs.Written.{written, written_forms, written_values, opening_line, form_lines, file_text}
use Rattle.session_spec.specs.Proper.{Each, Proper, ProperLines}
use Rattle.session_spec.proofs.FormsBack.{no_form, last-form}
use Rattle.session_spec.proofs.OpeningBack.{parts}
use Rattle.session_spec.proofs.ShapedItems.{above, item-shaped, after-space, decimal-shaped, numbers-shaped}

-- BRACKETS

-- right before a form: the line's start, a bracket that opens, or a space
abbrev starts : ℕ → Bool
starts p = eqb p 10 || starts_item p

opened : (d p : ℕ) (s : List ℕ) → d < 8 → starts p ≡ true → shaped_after d p (40 ∷ s) ≡ shaped_after (d + 1) 40 s
unfolding shaped_after fits deeper
opened d p s h e = rw (lt-ltb d 8 h, e)

closed : (d : ℕ) (s : List ℕ) → shaped_after (d + 1) 48 (41 ∷ s) ≡ shaped_after d 41 s
unfolding shaped_after fits deeper
closed d s = let e : d + 1 - 1 ≡ d = omega arith in rw (lt-ltb 0 (d + 1) (omega arith), e)

-- a bracket and its word: all but the last byte, and that one
word-shaped : (d p : ℕ) (w : List ℕ) (b : ℕ) (s : List ℕ) → d < 8 → starts p ≡ true → above w ≡ true → 41 < b → shaped_after d p (40 ∷ (w ++ (b ∷ s))) ≡ shaped_after (d + 1) 48 s
word-shaped d p w b s h e a k = opened d p (w ++ (b ∷ s)) h e ∙ item-shaped (d + 1) (omega arith) w 40 b s refl a k

-- FORMS

-- what follows a form may as well follow an item
abbrev Follows : ℕ → List ℕ → Type 0
Follows d s = shaped_after d 41 s ≡ shaped_after d 48 s

follows_space : (d : ℕ) (s : List ℕ) → Follows d (32 ∷ s)
unfolding shaped_after fits
follows_space d s = refl

follows_close : (d : ℕ) (s : List ℕ) → Follows d (41 ∷ s)
unfolding shaped_after fits
follows_close d s = refl

module _ (d : ℕ) (inside : 0 < d) (P : Form → Type 0) (each : (f : Form) (s : List ℕ) → P f → shaped_after d 32 (written f ++ s) ≡ shaped_after d 41 s) where
  forms-shaped : (l : Forms) (s : List ℕ) → Each P l → Follows d s → shaped_after d 48 (written_forms l ++ s) ≡ shaped_after d 48 s
  forms-shaped empty s h e = rw (no_form s)
  forms-shaped (with l f) s h e =
      rw (last-form l f s) (forms-shaped l (32 ∷ (written f ++ s)) h.0 (follows_space d (written f ++ s))
      ∙ after-space d inside (written f ++ s) ∙ each f s h.1 ∙ e)

module _ (d p : ℕ) (s : List ℕ) (h : d < 8) (e : starts p ≡ true) where
  plain-shaped : (w : List ℕ) (b : ℕ) (l : List ℕ) → above w ≡ true → 41 < b → shaped_after d p (40 ∷ (w ++ (b ∷ ((numbers l ++ bytes ")") ++ s)))) ≡ shaped_after d 41 s
  plain-shaped w b l a k =
      word-shaped d p w b ((numbers l ++ bytes ")") ++ s) h e a k ∙ ap (shaped_after (d + 1) 48) (append_assoc (numbers l) (bytes ")") s)
      ∙ numbers-shaped (d + 1) (omega arith) l (41 ∷ s) ∙ closed d s

  action-shaped : (a : Action) → shaped_after d p (written (act a) ++ s) ≡ shaped_after d 41 s
  unfolding written
  action-shaped (begin t (read k)) = plain-shaped (bytes "rea") 100 (t ∷ k ∷ []) refl (omega arith)
  action-shaped (begin t (swap k x n)) = plain-shaped (bytes "swa") 112 (t ∷ k ∷ x ∷ n ∷ []) refl (omega arith)
  action-shaped (step t) = plain-shaped (bytes "ste") 112 (t ∷ []) refl (omega arith)
  action-shaped (drop t) = plain-shaped (bytes "dro") 112 (t ∷ []) refl (omega arith)

  again-shaped : (c : ℕ) (l : Forms) → shaped_after (d + 1) 48 (written_forms l ++ (41 ∷ s)) ≡ shaped_after (d + 1) 48 (41 ∷ s) → shaped_after d p (written (again c l) ++ s) ≡ shaped_after d 41 s
  unfolding written
  again-shaped c l g =
      let t = ((numbers (c ∷ []) ++ written_forms l) ++ bytes ")") ++ s in
      word-shaped d p (bytes "agai") 110 t h e refl (omega arith)
      ∙ ap (shaped_after (d + 1) 48) (append_assoc (numbers (c ∷ []) ++ written_forms l) (bytes ")") s ∙ append_assoc (numbers (c ∷ [])) (written_forms l) (41 ∷ s))
      ∙ numbers-shaped (d + 1) (omega arith) (c ∷ []) (written_forms l ++ (41 ∷ s)) ∙ g ∙ closed d s

-- a form within d brackets, with at most k of its own
form-shaped : (k d p : ℕ) (f : Form) (s : List ℕ) → Proper k f → d + k ≤ 8 → starts p ≡ true → shaped_after d p (written f ++ s) ≡ shaped_after d 41 s
unfolding Proper
form-shaped zero d p f s h g e = absurd h
form-shaped (suc k) d p (act a) s h g e = action-shaped d p s (omega arith) e a
form-shaped (suc k) d p (again c l) s h g e =
    again-shaped d p s (omega arith) e c l
    (forms-shaped (d + 1) (omega arith) (Proper k) (λ f t q. form-shaped k (d + 1) 32 f t q (omega arith) refl) l (41 ∷ s) h.1 (follows_close (d + 1) s))

-- LINES

ended : (s : List ℕ) → shaped_after 0 41 (10 ∷ s) ≡ shaped_after 0 10 s
unfolding shaped_after fits deeper
ended s = refl

lines-shaped : (l : List Form) → ProperLines l → shaped (form_lines l) ≡ true
unfolding ProperLines form_lines shaped_after
lines-shaped [] h = refl
lines-shaped (f ∷ l) h =
    ap (shaped_after 0 10) (append_assoc (written f) (bytes "\n") (form_lines l))
    ∙ form-shaped 8 0 10 f (10 ∷ form_lines l) h.0 (omega arith) refl ∙ ended (form_lines l) ∙ lines-shaped l h.1

no_value_lem : (d : ℕ) (s : List ℕ) → shaped_after d 40 (41 ∷ s) ≡ shaped_after d 48 (41 ∷ s)
unfolding shaped_after fits
no_value_lem d s = refl

values-shaped : (d : ℕ) → 0 < d → (l s : List ℕ) → shaped_after d 40 (written_values l ++ (41 ∷ s)) ≡ shaped_after d 48 (41 ∷ s)
unfolding written_values
values-shaped d h [] s = no_value_lem d s
values-shaped d h (v ∷ l) s =
    ap (shaped_after d 40) (append_assoc (decimal v) (numbers l) (41 ∷ s))
    ∙ decimal-shaped d h 40 v (numbers l ++ (41 ∷ s)) refl ∙ numbers-shaped d h l (41 ∷ s)

opening-shaped : (o : Opening) (s : List ℕ) → shaped_after 0 10 (opening_line o ++ s) ≡ shaped_after 0 10 s
unfolding opening_line
opening-shaped o s =
    let three = o.tasks ∷ o.cells ∷ o.blocks ∷ [] in
    let t : List ℕ = written_values o.values ++ (41 ∷ 41 ∷ 10 ∷ s) in
    word-shaped 0 10 (bytes "ope") 110 _ (omega arith) refl refl (omega arith)
    ∙ ap (shaped_after 1 48) (parts (numbers three) (bytes " (") (written_values o.values) (bytes "))\n") s)
    ∙ numbers-shaped 1 (omega arith) three (32 ∷ 40 ∷ t) ∙ after-space 1 (omega arith) (40 ∷ t) ∙ opened 1 32 t (omega arith) refl
    ∙ values-shaped 2 (omega arith) o.values (41 ∷ 10 ∷ s) ∙ closed 1 (41 ∷ 10 ∷ s) ∙ follows_close 1 (10 ∷ s) ∙ closed 0 (10 ∷ s) ∙ ended s

pub file_shaped : (o : Opening) (l : List Form) → ProperLines l → shaped (file_text o l) ≡ true
unfolding file_text
file_shaped o l h = opening-shaped o (form_lines l) ∙ lines-shaped l h
