-- A word of a part of a list, from a place to the end, that is lent, written and put back.
use mathlib.Core.Path.{◌≡◌}
use mathlib.Core.List.{List, append-nil}
use Prim.Native.Nat.{ℕ, ◌+◌, ◌*◌, ◌-◌, ◌≤◌}
use native.Mathlib.Omega.{arith}
use lib.ListN.{length, take, drop, set, length-drop, take-append-drop, drop_of_length-le}
use lib.Seq.{take_all, take-set-le, drop-set-add}
use borrow.Rule.Slice.PartMut.{put_mid}
use Rattle.figure_lines.specs.declared.Field.{Field}
use Rattle.cells_spec.specs.Pool.{offset, set_word}

module _ (a : ℕ) (xs : List ℕ) where
  whole : length (drop a xs) ≤ length xs - a
  whole = simp length-drop (omega arith)

  pub stored : (f v : ℕ) → put_mid a (length xs - a) xs (set (take (length xs - a) (drop a xs)) f v) ≡ set xs (a + f) v
  stored f v =
      let h : a ≤ a + f = omega arith in
      let start = take-set-le a xs (a + f) v h in
      let rest = drop-set-add a xs f v in
      rw (take_all (length xs - a) (drop a xs) whole, drop_of_length-le (drop a xs) whole, append-nil, ← start, ← rest) (take-append-drop a (set xs (a + f) v))

-- by its field
pub stored_word : (b : ℕ) (xs : List ℕ) (f : Field) (n v : ℕ) → n ≡ offset f → put_mid (5 * b) (length xs - 5 * b) xs (set (take (length xs - 5 * b) (drop (5 * b) xs)) n v) ≡ set_word xs b f v
stored_word b xs f n v e = rw e (stored (5 * b) xs (offset f) v)
