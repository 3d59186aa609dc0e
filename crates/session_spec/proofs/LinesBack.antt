-- A file's lines are read back as they were written, and the actions of its forms are counted as they are made.
use mathlib.Core.Path.{◌≡◌, refl, sym, ap, ◌∙◌}
use mathlib.Core.List.{List, [], ◌∷◌, ◌++◌, append_assoc, append-nil}
use mathlib.Core.Option.{Option, none, some}
use Prim.Native.Nat.{ℕ, zero, suc, ◌+◌, ◌-◌, ◌*◌, ◌≤◌}
use native.Mathlib.Nat.{suc-mul}
use native.Mathlib.Omega.{arith}
use lib.ListN.{length, length-append}
use Rattle.history_spec.specs.History.{Action}
use Rattle.text.specs.Bytes.{bytes}
use Rattle.text.specs.Readers.{literal}
use Rattle.session_spec.specs.Session.{Opening, Form, act, again, Forms, empty, with, many_within, keyword, head, form, read_line, finish, lines, times, count, counts, actions, actions_of, formed}
use Rattle.session_spec.specs.Written.{written, form_line, form_lines, file_text}
use Rattle.session_spec.specs.Proper.{Proper, ProperLines, ProperOpening, actions_in}
use Rattle.session_spec.proofs.FormsBack.{form_back}
use Rattle.session_spec.proofs.OpeningBack.{opening_back}

-- LINES

line_back : (f : Form) (s : List ℕ) → Proper 8 f → read_line (form_line f ++ s) ≡ some (f, s)
unfolding read_line literal
line_back f s h = rw (append_assoc (written f) (bytes "\n") s, form_back 8 f (10 ∷ s) h)

-- where a line stands, the file does not end
not_finish : (s : List ℕ) {f : Form} {t : List ℕ} → read_line s ≡ some (f, t) → finish s ≡ none
unfolding read_line form head keyword literal
not_finish [] {f} {t} e = absurd (none_some e)
  where
    none_some : ◌≡◌ {A = Option (Form × List ℕ)} none (some (f, t)) → ⊥
    none_some x = let z : ◌≡◌ {A = ℕ} 0 1 = cc in omega arith
not_finish (b ∷ s) e = refl

-- forms, added to those before
abbrev pub adds : Forms → List Form → Forms
adds a [] = a
adds a (f ∷ l) = adds (with a f) l

lines_from : (l : List Form) (a : Forms) (k : ℕ) → ProperLines l → many_within with read_line finish (length l + suc k) a (form_lines l) ≡ some (adds a l, [])
unfolding many_within form_lines ProperLines
lines_from [] a k h = let e : length {A = Form} [] + suc k ≡ suc k = omega arith in rw e
lines_from (f ∷ l) a k h =
    let e : length (f ∷ l) + suc k ≡ suc (length l + suc k) = omega arith in
    let b = line_back f (form_lines l) h.0 in
    rw (e, not_finish (form_line f ++ form_lines l) b, b) (lines_from l (with a f) k h.1)

lines-room : (l : List Form) → length l ≤ length (form_lines l)
unfolding form_lines
lines-room [] = omega arith
lines-room (f ∷ l) = omega (arith, lines-room l, length-append (form_line f) (form_lines l), length-append (written f) (bytes "\n"))

pub lines_back : (l : List Form) → ProperLines l → lines (form_lines l) ≡ some (adds empty l, [])
lines_back l h =
    let t = form_lines l in
    let e : suc (length t) ≡ length l + suc (length t - length l) = omega (arith, lines-room l) in
    ap (λ (k : ℕ). many_within with read_line finish k empty t) e ∙ lines_from l empty (length t - length l) h

pub formed_back : (o : Opening) (l : List Form) → ProperOpening o → ProperLines l → formed (file_text o l) ≡ some ((o, adds empty l), [])
unfolding formed file_text
formed_back o l h g = rw (opening_back o (form_lines l) h, lines_back l g)

-- ACTIONS

with-actions : (a : Forms) (f : Form) (l : List Action) → actions_of (with a f) ++ l ≡ actions_of a ++ (actions f ++ l)
unfolding actions
with-actions a f l = append_assoc (actions_of a) (actions f) l

pub adds-actions : (l : List Form) (a : Forms) → actions_of (adds a l) ≡ actions_of a ++ actions_in l
unfolding actions_in
adds-actions [] a = sym (append-nil (actions_of a))
adds-actions (f ∷ l) a = adds-actions l (with a f) ∙ with-actions a f (actions_in l)

times_length : (c : ℕ) (l : List Action) → length (times c l) ≡ c * length l
unfolding times
times_length c [] = omega arith
times_length zero (a ∷ l) = omega arith
times_length (suc c) (a ∷ l) = length-append (a ∷ l) (times c (a ∷ l)) ∙ rw (suc-mul, times_length c (a ∷ l)) (omega arith)

mutual
  unfolding count actions

  count_length : (f : Form) → count f ≡ length (actions f)
  count_length (act a) = refl
  count_length (again zero l) = omega arith
  count_length (again (suc c) l) = rw (counts_length l) (sym (times_length (suc c) (actions_of l)))

  pub counts_length : (l : Forms) → counts l ≡ length (actions_of l)
  counts_length empty = refl
  counts_length (with l f) = omega (arith, counts_length l, count_length f, length-append (actions_of l) (actions f))
