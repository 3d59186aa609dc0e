-- The nearest whole number.
use Rattle.std.specs.Prelude.{◌≡◌, ℕ, ◌+◌, ◌-◌, ◌*◌, ◌%◌, ◌≤◌}

abbrev pub distance : ℕ → ℕ → ℕ
distance a b = a - b + (b - a)

-- no whole number is nearer to n divided by d than r; if another is as near, r is even
pub record Nearest (n d r : ℕ) : Type 0 where
  pub near : 2 * distance n (d * r) ≤ d
  pub even : 2 * distance n (d * r) ≡ d → r % 2 ≡ 0
