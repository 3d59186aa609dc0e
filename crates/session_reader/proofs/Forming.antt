-- The cases of a form, at a place of the text.
use mathlib.Core.Path.{◌≡◌, refl, sym, ap, ◌∙◌}
use mathlib.Core.List.{List, [], ◌∷◌}
use mathlib.Core.Option.{none}
use Prim.Native.Nat.{ℕ, suc, ◌+◌, ◌-◌}
use native.Mathlib.Omega.{arith}
use lib.ListN.{length, take, drop, get_or, replicate}
use lib.Seq.{get_or-take, get_or-drop}
use Rattle.text.specs.Readers.{Reader, Reads, pure, ◌>>=◌, ◌>>◌}
use Rattle.session_spec.specs.Session.{FormKind, reading, swapping, stepping, dropping, repeating, arity, head, close, Forms, act, again, body, list, form}
use Rattle.session_reader.specs.Reading.{acted}
use Rattle.session_reader.specs.Tables.{table_of, done}
use Rattle.session_reader.specs.Answers.{form_number}

-- a number that a kind does not have is what it was
unread : (k i : ℕ) (o p : List ℕ) → drop k p ≡ drop k o → get_or p (k + i) 0 ≡ get_or o (k + i) 0
unread k i o p e = sym (get_or-drop k p i 0) ∙ ap (λ (l : List ℕ). get_or l i 0) e ∙ get_or-drop k o i 0

four : (l : List ℕ) → length l ≡ 4 → l ≡ get_or l 0 0 ∷ get_or l 1 0 ∷ get_or l 2 0 ∷ get_or l 3 0 ∷ []
four [] h = absurd (omega arith)
four (a ∷ []) h = absurd (omega arith)
four (a ∷ b ∷ []) h = absurd (omega arith)
four (a ∷ b ∷ c ∷ []) h = absurd (omega arith)
four (a ∷ b ∷ c ∷ d ∷ []) h = refl
four (a ∷ b ∷ c ∷ d ∷ e ∷ l) h = absurd (omega arith)

-- so with zeros at first the five words are those of the action
act_words : (k : FormKind) (out : List ℕ) → (form_number k ≡ 0 → ⊥) → drop (arity k) out ≡ drop (arity k) (replicate {A = ℕ} 4 0) → table_of (done (act (acted (form_number k) out))) ≡ form_number k ∷ get_or out 0 0 ∷ get_or out 1 0 ∷ get_or out 2 0 ∷ get_or out 3 0 ∷ []
unfolding done table_of
act_words reading out h e = rw (unread 2 0 (replicate {A = ℕ} 4 0) out e, unread 2 1 (replicate {A = ℕ} 4 0) out e)
act_words swapping out h e = refl
act_words stepping out h e =
    rw (unread 1 0 (replicate {A = ℕ} 4 0) out e, unread 1 1 (replicate {A = ℕ} 4 0) out e, unread 1 2 (replicate {A = ℕ} 4 0) out e)
act_words dropping out h e =
    rw (unread 1 0 (replicate {A = ℕ} 4 0) out e, unread 1 1 (replicate {A = ℕ} 4 0) out e, unread 1 2 (replicate {A = ℕ} 4 0) out e)
act_words repeating out h e = absurd (h refl)

pub act-table : (k : FormKind) (n : ℕ) (out : List ℕ) → n ≡ form_number k → length out ≡ 4 → (form_number k ≡ 0 → ⊥) → drop (arity k) out ≡ drop (arity k) (replicate {A = ℕ} 4 0) → table_of (done (act (acted (form_number k) out))) ≡ n ∷ out
act-table k n out q l h e = act_words k out h e ∙ sym (rw q (ap (λ (w : List ℕ). form_number k ∷ w) (four out l)))

again-body : (k : FormKind) (out : List ℕ) (inner : Reader Forms) → form_number k ≡ 0 → body inner k (take (arity k) out) ≡ (inner >>= λ l. pure (again (get_or out 0 0) l))
unfolding body
again-body reading out inner e = absurd (let z : ◌≡◌ {A = ℕ} 0 1 = omega arith in omega arith)
again-body swapping out inner e = absurd (omega arith)
again-body stepping out inner e = absurd (omega arith)
again-body dropping out inner e = absurd (omega arith)
again-body repeating out inner e = rw (get_or-take 1 out 0 0 (omega arith))

act-body : (k : FormKind) (out : List ℕ) (inner : Reader Forms) → (form_number k ≡ 0 → ⊥) → body inner k (take (arity k) out) ≡ (close >> pure (act (acted (form_number k) out)))
unfolding body
act-body reading out inner e = rw (get_or-take 2 out 0 0 (omega arith), get_or-take 2 out 1 0 (omega arith))
act-body swapping out inner e = rw (get_or-take 4 out 0 0 (omega arith), get_or-take 4 out 1 0 (omega arith), get_or-take 4 out 2 0 (omega arith), get_or-take 4 out 3 0 (omega arith))
act-body stepping out inner e = rw (get_or-take 1 out 0 0 (omega arith))
act-body dropping out inner e = rw (get_or-take 1 out 0 0 (omega arith))
act-body repeating out inner e = absurd (e refl)

pub form_none : (d : ℕ) (t : List ℕ) → d ≡ 0 → form d t ≡ none
unfolding form
form_none d t e = rw e

module _ (s : List ℕ) (at d : ℕ) (h : d ≡ 0 → ⊥) where
  deep : d ≡ suc (d - 1)
  deep = omega arith

  pub form_no : head (drop at s) ≡ none → form d (drop at s) ≡ none
  unfolding form
  form_no e = ap (λ (i : ℕ). form i (drop at s)) deep ∙ rw e

  module _ {k : FormKind} (out : List ℕ) {a : ℕ} (x : Reads head s at 7 (k, take (arity k) out) a) where
    goes : form d (drop at s) ≡ body (list (form (d - 1))) k (take (arity k) out) (drop a s)
    unfolding form
    goes = ap (λ (i : ℕ). form i (drop at s)) deep ∙ rw x.finds

    module _ (e : form_number k ≡ 0) where
      pub again_no : list (form (d - 1)) (drop a s) ≡ none → form d (drop at s) ≡ none
      again_no f = goes ∙ rw (again-body k out (list (form (d - 1))) e, f)

      pub again-at : {l : Forms} {next : ℕ} → Reads (list (form (d - 1))) s a 1 l next → Reads (form d) s at 8 (again (get_or out 0 0) l) next
      again-at y = record { finds = goes ∙ rw (again-body k out (list (form (d - 1))) e, y.finds); past = omega (arith, x.past, y.past); within = y.within }

    module _ (e : form_number k ≡ 0 → ⊥) where
      pub act_no : close (drop a s) ≡ none → form d (drop at s) ≡ none
      act_no f = goes ∙ rw (act-body k out (list (form (d - 1))) e, f)

      pub act-at : {next : ℕ} → Reads close s a 1 tt next → Reads (form d) s at 8 (act (acted (form_number k) out)) next
      act-at y = record { finds = goes ∙ rw (act-body k out (list (form (d - 1))) e, y.finds); past = omega (arith, x.past, y.past); within = y.within }
