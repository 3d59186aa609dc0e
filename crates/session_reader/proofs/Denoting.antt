-- Words that number forms of a table, and the actions they make.
use mathlib.Core.Path.{◌≡◌, refl, sym, ap, ◌∙◌}
use mathlib.Core.List.{List, [], ◌∷◌, ◌++◌, map, append_assoc, append-nil}
use Prim.Native.Nat.{ℕ, zero, suc, ◌+◌, ◌*◌, ◌≤◌}
use native.Mathlib.Omega.{arith}
use lib.ListN as list
use lib.ListN.{length, take, length-append, length-drop, get_or-append}
use lib.Seq.{drop-append-le, take-append-le, get_or_at, drop-append-add, take_at}
use Rattle.session_spec.specs.Session.{Form, act, again, Forms, empty, with, times, actions, actions_of, counts}
use Rattle.session_spec.proofs.LinesBack.{counts_length}
use Rattle.history_spec.specs.History.{Action, read, swap, step, drop, begin}
use Rattle.session_reader.specs.Reading.{act_at}
use Rattle.session_reader.specs.Kept.{FormNumbers}
use Rattle.session_reader.specs.Tables.{words_of, table_of, done, done_of, form_names, form_names_of, over}

-- THE TABLE

pub length_table : (l : List Action) → length (table_of l) ≡ 5 * length l
unfolding table_of
length_table [] = refl
length_table (begin t (read c) ∷ l) = omega (arith, length_table l)
length_table (begin t (swap c e n) ∷ l) = omega (arith, length_table l)
length_table (step t ∷ l) = omega (arith, length_table l)
length_table (drop t ∷ l) = omega (arith, length_table l)

pub table_append : (k l : List Action) → table_of (k ++ l) ≡ table_of k ++ table_of l
unfolding table_of
table_append [] l = refl
table_append (a ∷ k) l = ap (λ (t : List ℕ). words_of a ++ t) (table_append k l) ∙ sym (append_assoc (words_of a) (table_of k) (table_of l))

-- WORDS AND ACTIONS, ONE BY ONE

pub data Denotes (table : List ℕ) : List ℕ → List Action → Type 0 where
  none_denoted : Denotes table [] []
  one_denoted : {i : ℕ} {w : List ℕ} {a : Action} {l : List Action} → 5 * i + 5 ≤ length table → act_at table i ≡ a → Denotes table w l → Denotes table (i ∷ w) (a ∷ l)

module _ {table : List ℕ} where
  denotes_append : {v w : List ℕ} {k l : List Action} → Denotes table v k → Denotes table w l → Denotes table (v ++ w) (k ++ l)
  denotes_append none_denoted y = y
  denotes_append (one_denoted h e x) y = one_denoted h e (denotes_append x y)

  denotes_times : (c : ℕ) {w : List ℕ} {l : List Action} → Denotes table w l → Denotes table (times c w) (times c l)
  unfolding times
  denotes_times zero none_denoted = none_denoted
  denotes_times (suc c) none_denoted = none_denoted
  denotes_times zero (one_denoted h e x) = none_denoted
  denotes_times (suc c) (one_denoted h e x) = denotes_append (one_denoted h e x) (denotes_times c (one_denoted h e x))

  denotes_actions : {w : List ℕ} {l : List Action} → Denotes table w l → map (act_at table) w ≡ l
  denotes_actions none_denoted = refl
  denotes_actions (one_denoted {w = w} {a = a} h e x) = ap (λ (b : Action). b ∷ map (act_at table) w) e ∙ ap (λ (k : List Action). a ∷ k) (denotes_actions x)

  denotes_named : {w : List ℕ} {l : List Action} → Denotes table w l → FormNumbers (length table) w
  denotes_named none_denoted j h = absurd (omega arith)
  denotes_named (one_denoted h e x) zero k = h
  denotes_named (one_denoted h e x) (suc j) k = denotes_named x j (omega arith)

  denotes_length : {w : List ℕ} {l : List Action} → Denotes table w l → length w ≡ length l
  denotes_length none_denoted = refl
  denotes_length (one_denoted h e x) = ap suc (denotes_length x)

-- a form stays where the table grows behind it
act_at_grown : (table more : List ℕ) (i : ℕ) → 5 * i + 5 ≤ length table → act_at (table ++ more) i ≡ act_at table i
unfolding act_at
act_at_grown table more i h =
    let d = drop-append-le (5 * i + 1) table more (omega arith) in
    let t = take-append-le 4 (list.drop (5 * i + 1) table) more (omega (arith, length-drop (5 * i + 1) table)) in
    rw (get_or-append table more 0 (5 * i) (omega arith), d, t)

denotes_grown : {table w : List ℕ} {l : List Action} (more : List ℕ) → Denotes table w l → Denotes (table ++ more) w l
denotes_grown more none_denoted = none_denoted
denotes_grown {table} more (one_denoted {i = i} h e x) =
    one_denoted {i = i} (omega (arith, length-append table more)) (act_at_grown table more i h ∙ e) (denotes_grown more x)

-- a form's words behind P are the form
module _ (P : List ℕ) (n : ℕ) (p : length P ≡ 5 * n) where
  made : (k : ℕ) (m : List ℕ) → act_at (P ++ k ∷ m) n ≡ act_at (k ∷ m) 0
  unfolding act_at
  made k m =
      let i : 5 * n + 1 ≡ length P + 1 = omega arith in
      rw (get_or_at P k m 0 (5 * n) p, i, drop-append-add P (k ∷ m) 1)

  words_denoted : (a : Action) → Denotes (P ++ words_of a) (n ∷ []) (a ∷ [])
  unfolding act_at
  words_denoted (begin t (read c)) = one_denoted {i = n} (omega (arith, p, length-append P (words_of (begin t (read c))))) (made 1 _) none_denoted
  words_denoted (begin t (swap c e m)) = one_denoted {i = n} (omega (arith, p, length-append P (words_of (begin t (swap c e m))))) (made 2 _) none_denoted
  words_denoted (step t) = one_denoted {i = n} (omega (arith, p, length-append P (words_of (step t)))) (made 3 _) none_denoted
  words_denoted (drop t) = one_denoted {i = n} (omega (arith, p, length-append P (words_of (drop t)))) (made 4 _) none_denoted

-- THE NAMES OF FORMS

-- with n forms before them, in P
mutual
  unfolding done form_names actions table_of

  form_denoted : (f : Form) (P : List ℕ) (n : ℕ) → length P ≡ 5 * n → Denotes (P ++ table_of (done f)) (form_names n f) (actions f)
  form_denoted (act a) P n p = rw (append-nil (words_of a)) (words_denoted P n p a)
  form_denoted (again zero l) P n p = none_denoted
  form_denoted (again (suc c) l) P n p = denotes_times (suc c) (forms_denoted l P n p)

  forms_denoted : (l : Forms) (P : List ℕ) (n : ℕ) → length P ≡ 5 * n → Denotes (P ++ table_of (done_of l)) (form_names_of n l) (actions_of l)
  forms_denoted empty P n p = none_denoted
  forms_denoted (with l f) P n p =
      let q : length (P ++ table_of (done_of l)) ≡ 5 * (n + length (done_of l)) = omega (arith, p, length-append P (table_of (done_of l)), length_table (done_of l)) in
      let x = denotes_grown (table_of (done f)) (forms_denoted l P n p) in
      let y = form_denoted f (P ++ table_of (done_of l)) (n + length (done_of l)) q in
      rw (table_append (done_of l) (done f), ← append_assoc P (table_of (done_of l)) (table_of (done f))) (denotes_append x y)

-- all forms, whatever stands behind them in the buffers
module _ (l : Forms) where
  abbrev table : List ℕ
  table = table_of (done_of l)

  pub length_names : length (form_names_of 0 l) ≡ counts l
  length_names = denotes_length (forms_denoted l [] 0 refl) ∙ sym (counts_length l)

  pub kept-actions : (F A : List ℕ) (n : ℕ) → n ≡ counts l → (map (act_at (over table F)) (take n (over (form_names_of 0 l) A)) ≡ actions_of l) × FormNumbers (length (over table F)) (take n (over (form_names_of 0 l) A))
  kept-actions F A n e =
      let x = denotes_grown (list.drop (length table) F) (forms_denoted l [] 0 refl) in
      rw (take_at (form_names_of 0 l) (list.drop (length (form_names_of 0 l)) A) n (length_names ∙ sym e)) (denotes_actions x, denotes_named x)
