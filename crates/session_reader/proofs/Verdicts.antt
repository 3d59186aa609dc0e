-- The verdict, question by question; and which sizes of buffers give it.
use mathlib.Core.Path.{◌≡◌, refl, sym, ap, ◌∙◌}
use mathlib.Core.Bool.{Bool, true, false, not, ◌&&◌}
use mathlib.Core.List.{List, ◌++◌}
use mathlib.Core.Option.{none}
use Prim.Native.Nat.{ℕ, ◌≤◌, ◌<◌}
use borrow.Author.Tests.{le-leb, lt-leb, not-true, not-false}
use lib.Dec.{eqb}
use lib.ListN.{length, take, drop, take-append-drop}
use lib.Seq.{length-take-le}
use Rattle.text.specs.Readers.{Reads}
use Rattle.session_spec.specs.Shape.{shaped}
use Rattle.session_spec.specs.Session.{Opening, Forms, Verdict, bad, session, read_opening, lines, counts, actions_of, formed, asked15, asked14, verdict}
use Rattle.session_reader.specs.Reading.{sized, verdict_in}
use Rattle.session_reader.specs.Tables.{Buffers, buffers, cleared, over, table_of, done_of, form_names_of, after_reading15, after_reading14, after_reading, after_reading_into}

-- the three buffers, one by one
pub alike : {v v' f f' a a' : List ℕ} → v ≡ v' → f ≡ f' → a ≡ a' → buffers v f a ≡ buffers v' f' a'
alike p q r = λ i. record { values = p i; forms = q i; actions = r i }

-- so many words stored, and what was there behind them
pub written_over : (o p : List ℕ) (n : ℕ) → (n ≤ length p) × (drop n p ≡ drop n o) → p ≡ over (take n p) o
written_over o p n x =
    sym (take-append-drop n p) ∙ ap (λ (l : List ℕ). take n p ++ l) x.1 ∙ ap (λ (k : ℕ). take n p ++ drop k o) (sym (length-take-le n p x.0))

module _ (s : List ℕ) where
  -- what is answered, and what is left in the buffers
  abbrev pub Judged : Buffers → Verdict → Buffers → Type 0
  Judged b v c = (verdict s ≡ v) × (after_reading s b ≡ c)

  -- the same of a file of the right shape
  abbrev pub Parsed : Buffers → Verdict → Buffers → Type 0
  Parsed b v c = (asked14 (formed s) ≡ v) × (after_reading14 (formed s) b ≡ c)

  module _ (b : Buffers) where
    pub is_12 : 65536 < length s → Judged b (bad 12) b
    unfolding verdict after_reading
    is_12 h = let e = lt-leb (length s) 65536 h in (rw e, rw e)

    module _ (h : length s ≤ 65536) where
      pub is_13 : shaped s ≡ false → Judged b (bad 13) b
      unfolding verdict after_reading
      is_13 e = let f = le-leb (length s) 65536 h in (rw (f, e), rw (f, e))

      pub asked : shaped s ≡ true → Judged b (asked14 (formed s)) (after_reading14 (formed s) b)
      unfolding verdict after_reading
      asked e = let f = le-leb (length s) 65536 h in (rw (f, e), rw (f, e))

    pub unopened : read_opening s ≡ none → Parsed b (bad 14) (cleared b)
    unfolding asked14 formed after_reading14
    unopened f = (rw f, rw f)

    module _ {o : Opening} {a : ℕ} (x : Reads read_opening s 0 0 o a) where
      pub unformed : lines (drop a s) ≡ none → Parsed b (bad 14) (cleared b)
      unfolding asked14 formed after_reading14
      unformed f = (rw (x.finds, f), rw (x.finds, f))

      module _ {l : Forms} {d : ℕ} (y : Reads lines s a 0 l d) where
        pub is_15 : 65535 < counts l → Parsed b (bad 15) (cleared b)
        unfolding asked14 formed asked15 after_reading14 after_reading15
        is_15 k = let f = lt-leb (counts l) 65535 k in (rw (x.finds, y.finds, f), rw (x.finds, y.finds, f))

        pub is-session : counts l ≤ 65535 → Parsed b (session o (actions_of l)) (buffers (over o.values b.values) (over (table_of (done_of l)) b.forms) (over (form_names_of 0 l) b.actions))
        unfolding asked14 formed asked15 after_reading14 after_reading15
        is-session k = let f = le-leb (counts l) 65535 k in (rw (x.finds, y.finds, f), rw (x.finds, y.finds, f))

-- with buffers of the right sizes the promise is the verdict
pub right_sizes : (v f a : ℕ) (s : List ℕ) → v ≡ 32768 → f ≡ 40960 → a ≡ 65535 → verdict_in v f a s ≡ verdict s
unfolding verdict_in
right_sizes v f a s p q r = rw (p, q, r)

pub right-left : (s : List ℕ) (b : Buffers) → length b.values ≡ 32768 → length b.forms ≡ 40960 → length b.actions ≡ 65535 → after_reading_into s b ≡ after_reading s b
unfolding after_reading_into
right-left s b p q r = rw (p, q, r)

-- a test of three sizes, whichever two are joined first
all_yes : (x y z : Bool) → ((x && y) && z) ≡ (x && (y && z))
all_yes false y z = refl
all_yes true y z = refl

module _ (v f a : ℕ) where
  pub other_sizes : true ≡ not ((eqb v 32768 && eqb f 40960) && eqb a 65535) → sized v f a ≡ false
  other_sizes e = sym (all_yes (eqb v 32768) (eqb f 40960) (eqb a 65535)) ∙ not-true _ (sym e)

  pub same_sizes : false ≡ not ((eqb v 32768 && eqb f 40960) && eqb a 65535) → sized v f a ≡ true
  same_sizes e = sym (all_yes (eqb v 32768) (eqb f 40960) (eqb a 65535)) ∙ not-false _ (sym e)
