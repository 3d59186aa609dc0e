-- A session's values and actions lie within the buffers, and each action numbers a form that was kept.
use Rattle.std.specs.Prelude.{◌≡◌, List, ℕ, ◌+◌, ◌*◌, ◌≤◌, ◌<◌, length, take, drop, get_or, Option, Some, None, Ok, Err}
use Rattle.std.specs.declared.result.Result.{Result}
use Rattle.session_reader.specs.declared.reading.Session.{Session}
use Rattle.session_reader.specs.declared.reading.ReadError.{ReadError}
use Rattle.session_reader.specs.declared.reading.Opened.{Opened}

-- so many values fit their buffer, and what stands behind them is what stood there
abbrev pub ListedWithin : (old new : List ℕ) → Option (ℕ × ℕ) → Type 0
ListedWithin o p None = Unit {0}
ListedWithin o p (Some (n, next)) = (n ≤ length p) × (drop n p ≡ drop n o)

-- the same of the first line
abbrev pub OpenedWithin : (old new : List ℕ) → Option Opened → Type 0
OpenedWithin o p None = Unit {0}
OpenedWithin o p (Some x) = (x.values ≤ length p) × (drop x.values p ≡ drop x.values o)

-- each of the actions numbers a form of a table of so many words
abbrev pub FormNumbers : (words : ℕ) → (actions : List ℕ) → Type 0
FormNumbers n l = (j : ℕ) → j < length l → 5 * get_or l j 0 + 5 ≤ n

pub record Held (values forms actions : List ℕ) (i n : ℕ) : Type 0 where
  pub some : i ≤ length values
  pub many : n ≤ length actions
  pub named : FormNumbers (length forms) (take n actions)

abbrev pub InBuffers : Result Session ReadError → (values forms actions : List ℕ) → Type 0
InBuffers (Err e) v f a = Unit {0}
InBuffers (Ok o) v f a = Held v f a o.values o.actions
