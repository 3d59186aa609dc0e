-- What the reader leaves in its three buffers, every word.
use Rattle.std.specs.Prelude.{Bool, true, false, cond, List, [], ◌∷◌, ◌++◌, ℕ, zero, suc, ◌+◌, leb, length, replicate}
use Rattle.std.proofs.Math.Option.{Option, none, some}
use Rattle.std.proofs.Math.ListN as list
use Rattle.history_spec.specs.History.{Action, read, swap, step, drop, begin}
use Rattle.session_spec.specs.Shape.{shaped}
use Rattle.session_spec.specs.Session.{Opening, Form, act, again, Forms, empty, with, times, counts, short, formed}
use Rattle.session_reader.specs.Reading.{sized}

-- a form's five words: its kind, its numbers, and zeros
abbrev pub words_of : Action → List ℕ
words_of (begin t (read c)) = 1 ∷ t ∷ c ∷ 0 ∷ 0 ∷ []
words_of (begin t (swap c e n)) = 2 ∷ t ∷ c ∷ e ∷ n ∷ []
words_of (step t) = 3 ∷ t ∷ 0 ∷ 0 ∷ 0 ∷ []
words_of (drop t) = 4 ∷ t ∷ 0 ∷ 0 ∷ 0 ∷ []

unfoldable pub table_of : List Action → List ℕ
table_of [] = []
table_of (a ∷ l) = words_of a ++ table_of l

-- the forms that are done at least once, in their order
unfoldable mutual
  pub done : Form → List Action
  done (act a) = a ∷ []
  done (again zero l) = []
  done (again (suc c) l) = done_of l

  pub done_of : Forms → List Action
  done_of empty = []
  done_of (with l f) = done_of l ++ done f

-- each action as the number of its form, with n forms before these
unfoldable mutual
  pub form_names : ℕ → Form → List ℕ
  form_names n (act a) = n ∷ []
  form_names n (again zero l) = []
  form_names n (again (suc c) l) = times (suc c) (form_names_of n l)

  pub form_names_of : ℕ → Forms → List ℕ
  form_names_of n empty = []
  form_names_of n (with l f) = form_names_of n l ++ form_names (n + length (done_of l)) f

-- words written over the start of a buffer
abbrev pub over : List ℕ → List ℕ → List ℕ
over l b = l ++ list.drop (length l) b

-- all of it set to 0
abbrev pub wiped : List ℕ → List ℕ
wiped b = replicate (length b) 0

pub record Buffers : Type 0 where
  pub values : List ℕ
  pub forms : List ℕ
  pub actions : List ℕ

abbrev pub buffers : (values forms actions : List ℕ) → Buffers
buffers v f a = record { values = v; forms = f; actions = a }

abbrev pub cleared : Buffers → Buffers
cleared b = buffers (wiped b.values) (wiped b.forms) (wiped b.actions)

-- refused with 14 or 15: zeros; before that nothing is written
unfoldable pub after_reading15 : Bool → Opening → Forms → Buffers → Buffers
after_reading15 true o l b = buffers (over o.values b.values) (over (table_of (done_of l)) b.forms) (over (form_names_of 0 l) b.actions)
after_reading15 false o l b = cleared b

unfoldable pub after_reading14 : Option ((Opening × Forms) × List ℕ) → Buffers → Buffers
after_reading14 none b = cleared b
after_reading14 (some ((o, l), s)) b = after_reading15 (leb (counts l) 65535) o l b

unfoldable pub after_reading : List ℕ → Buffers → Buffers
after_reading s b = cond (short s) (cond (shaped s) (after_reading14 (formed s) b) b) b

-- also buffers of other sizes stay as they were
unfoldable pub after_reading_into : List ℕ → Buffers → Buffers
after_reading_into s b = cond (sized (length b.values) (length b.forms) (length b.actions)) (after_reading s b) b
