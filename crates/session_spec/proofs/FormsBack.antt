-- Forms, however nested, are read back as they were written.
use mathlib.Core.Path.{◌≡◌, refl, ap, ◌∙◌}
use mathlib.Core.Bool.{false}
use mathlib.Core.List.{List, [], ◌∷◌, ◌++◌, append_assoc}
use mathlib.Core.Option.{some}
use Prim.Native.Nat.{ℕ, zero, suc, ◌+◌, ◌-◌, ◌≤◌}
use native.Mathlib.Omega.{arith}
use lib.ListN.{length, length-append}
use Rattle.history_spec.specs.History.{read, swap, Action, begin, step, drop}
use Rattle.text.specs.Bytes.{bytes}
use Rattle.text.specs.Lines.{numbers as spaced}
use Rattle.text.specs.Readers.{Reader, ◌>>◌, literal, is_digit}
use Rattle.text.proofs.ReadBack.{starts_digit}
use Rattle.session_spec.specs.Session.{Form, act, again, Forms, empty, with, space, close, many_within, keyword, head, body, list, form}
use Rattle.session_spec.specs.Written.{action_start, written, written_forms}
use Rattle.session_spec.specs.Proper.{Small, numbers_of, Each, Proper}
use Rattle.session_spec.proofs.NumbersBack.{numbers_back}

-- A LIST OF FORMS, each after a space

abbrev size : Forms → ℕ
size empty = 0
size (with l f) = size l + 1

-- the last form of a list, and what follows
pub last-form : (l : Forms) (f : Form) (s : List ℕ) → written_forms (with l f) ++ s ≡ written_forms l ++ (32 ∷ (written f ++ s))
unfolding written
last-form l f s = append_assoc (written_forms l ++ bytes " ") (written f) s ∙ append_assoc (written_forms l) (bytes " ") (written f ++ s)

pub no_form : (s : List ℕ) → written_forms empty ++ s ≡ s
unfolding written
no_form s = refl

forms_apart : (l : Forms) (b : ℕ) (s : List ℕ) → is_digit b ≡ false → starts_digit (written_forms l ++ (b ∷ s)) ≡ false
forms_apart empty b s e = rw (no_form (b ∷ s)) e
forms_apart (with l f) b s e = rw (last-form l f (b ∷ s)) (forms_apart l 32 (written f ++ (b ∷ s)) refl)

forms-room : (l : Forms) → size l ≤ length (written_forms l)
unfolding written
forms-room empty = omega arith
forms-room (with l f) = omega (arith, forms-room l, length-append (written_forms l ++ bytes " ") (written f), length-append (written_forms l) (bytes " "))

module _ (one : Reader Form) (P : Form → Type 0) (back : (f : Form) (s : List ℕ) → P f → one (written f ++ s) ≡ some (f, s)) where
  one_more : (l : Forms) (f : Form) (s : List ℕ) (k : ℕ) → P f → many_within with (space >> one) close (suc k) l (32 ∷ (written f ++ s)) ≡ many_within with (space >> one) close k (with l f) s
  unfolding many_within literal
  one_more l f s k h = rw (back f s h)

  forms_back : (l : Forms) (s : List ℕ) (k : ℕ) → Each P l → many_within with (space >> one) close (size l + k) empty (written_forms l ++ s) ≡ many_within with (space >> one) close k l s
  forms_back empty s k h = let z : 0 + k ≡ k = omega arith in rw (z, no_form s)
  forms_back (with l f) s k h =
      let e : size l + 1 + k ≡ size l + suc k = omega arith in
      rw (last-form l f s, e) (forms_back l (32 ∷ (written f ++ s)) (suc k) h.0 ∙ one_more l f s k h.1)

  pub list_back : (l : Forms) (s : List ℕ) → Each P l → list one (written_forms l ++ (41 ∷ s)) ≡ some (l, s)
  unfolding many_within literal
  list_back l s h =
      let t = written_forms l ++ (41 ∷ s) in
      let e : suc (length t) ≡ size l + suc (length t - size l) = omega (arith, forms-room l, length-append (written_forms l) (41 ∷ s)) in
      ap (λ (k : ℕ). many_within with (space >> one) close k empty t) e ∙ forms_back l (41 ∷ s) (suc (length t - size l)) h

-- A FORM

action_back : (d : ℕ) (a : Action) (s : List ℕ) → Small (numbers_of a) → form (suc d) ((action_start a ++ bytes ")") ++ s) ≡ some (act a, s)
unfolding form head body keyword literal
action_back d (begin t (read k)) s h = rw (append_assoc (spaced (t ∷ k ∷ [])) (bytes ")") s, numbers_back (t ∷ k ∷ []) (41 ∷ s) h refl)
action_back d (begin t (swap k e n)) s h = rw (append_assoc (spaced (t ∷ k ∷ e ∷ n ∷ [])) (bytes ")") s, numbers_back (t ∷ k ∷ e ∷ n ∷ []) (41 ∷ s) h refl)
action_back d (step t) s h = rw (append_assoc (spaced (t ∷ [])) (bytes ")") s, numbers_back (t ∷ []) (41 ∷ s) h refl)
action_back d (drop t) s h = rw (append_assoc (spaced (t ∷ [])) (bytes ")") s, numbers_back (t ∷ []) (41 ∷ s) h refl)

parts : (a b c s : List ℕ) → (a ++ b) ++ c ++ s ≡ a ++ (b ++ (c ++ s))
parts a b c s = append_assoc (a ++ b) c s ∙ append_assoc a b (c ++ s)

again_back : (d c : ℕ) (l : Forms) (s : List ℕ) → c ≤ 4294967295 → list (form d) (written_forms l ++ (41 ∷ s)) ≡ some (l, s) → form (suc d) (written (again c l) ++ s) ≡ some (again c l, s)
unfolding form head body keyword literal written
again_back d c l s h e = rw (parts (spaced (c ∷ [])) (written_forms l) (bytes ")") s, numbers_back (c ∷ []) (written_forms l ++ (41 ∷ s)) (h, tt) (forms_apart l 41 s refl), e)

pub form_back : (d : ℕ) (f : Form) (s : List ℕ) → Proper d f → form d (written f ++ s) ≡ some (f, s)
unfolding Proper written
form_back zero f s h = absurd h
form_back (suc d) (act a) s h = action_back d a s h
form_back (suc d) (again c l) s h = again_back d c l s h.0 (list_back (form d) (Proper d) (form_back d) l s h.1)
