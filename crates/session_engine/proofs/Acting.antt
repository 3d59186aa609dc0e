-- Actions and their outcomes.
use mathlib.Core.Path.{◌≡◌, ap, ◌∙◌}
use mathlib.Core.List.{List}
use Prim.Native.Nat.{ℕ, ◌+◌, ◌*◌, ◌<◌}
use native.Mathlib.Omega.{arith}
use borrow.Author.Tests.{ne_eqb}
use lib.ListN as list
use lib.ListN.{take, get_or}
use lib.Seq.{get_or-take, get_or-drop}
use Rattle.history_spec.specs.History.{read, swap, begin, step, drop}
use Rattle.session_reader.specs.Reading.{act_at}

field : (l : List ℕ) (a j k : ℕ) → j < 4 → a + j ≡ k → get_or (take 4 (list.drop a l)) j 0 ≡ get_or l k 0
field l a j k h e = get_or-take 4 (list.drop a l) j 0 h ∙ get_or-drop a l j 0 ∙ ap (λ (n : ℕ). get_or l n 0) e

module _ (l : List ℕ) (i : ℕ) where
  one : get_or (take 4 (list.drop (5 * i + 1) l)) 0 0 ≡ get_or l (5 * i + 1) 0
  one = field l (5 * i + 1) 0 (5 * i + 1) (omega arith) (omega arith)

  two : get_or (take 4 (list.drop (5 * i + 1) l)) 1 0 ≡ get_or l (5 * i + 2) 0
  two = field l (5 * i + 1) 1 (5 * i + 2) (omega arith) (omega arith)

  pub reads : get_or l (5 * i) 0 ≡ 1 → begin (get_or l (5 * i + 1) 0) (read (get_or l (5 * i + 2) 0)) ≡ act_at l i
  unfolding act_at
  reads e = rw (e, one, two)

  pub swaps : get_or l (5 * i) 0 ≡ 2 → begin (get_or l (5 * i + 1) 0) (swap (get_or l (5 * i + 2) 0) (get_or l (5 * i + 3) 0) (get_or l (5 * i + 4) 0)) ≡ act_at l i
  unfolding act_at
  swaps e = rw (e, one, two, field l (5 * i + 1) 2 (5 * i + 3) (omega arith) (omega arith), field l (5 * i + 1) 3 (5 * i + 4) (omega arith) (omega arith))

  pub steps : get_or l (5 * i) 0 ≡ 3 → step (get_or l (5 * i + 1) 0) ≡ act_at l i
  unfolding act_at
  steps e = rw (e, one)

  pub drops : (get_or l (5 * i) 0 ≡ 1 → ⊥) → (get_or l (5 * i) 0 ≡ 2 → ⊥) → (get_or l (5 * i) 0 ≡ 3 → ⊥) → drop (get_or l (5 * i + 1) 0) ≡ act_at l i
  unfolding act_at
  drops e f g = rw (ne_eqb _ _ e, ne_eqb _ _ f, ne_eqb _ _ g, one)
