-- Text appended to a lent buffer at a place.
use Rattle.std.specs.Prelude.{◌≡◌, List, ◌++◌, ℕ, ◌+◌, length, take, drop}

-- what stands before r is what stood before at, and then txt
pub record Stored (old new : List ℕ) (at r : ℕ) (txt : List ℕ) : Type 0 where
  pub words : take r new ≡ take at old ++ txt
  pub next : r ≡ at + length txt

-- and what stands from r on is what stood there
pub record Appended (old new : List ℕ) (at r : ℕ) (txt : List ℕ) : Type 0 where
  pub stored : Stored old new at r txt
  pub rest : drop r new ≡ drop r old
