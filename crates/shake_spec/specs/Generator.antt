-- The generator: its state is a 32-bit number, and the seed is the state before the first draw.
use Rattle.std.specs.Prelude.{ℕ, ◌+◌, ◌*◌, ◌/◌, ◌%◌}

-- the state after a draw
unfoldable pub next : ℕ → ℕ
next g = (1664525 * g + 1013904223) % 4294967296

-- what a draw that left the state g yields, mod m
unfoldable pub below : (m g : ℕ) → ℕ
below m g = g / 65536 % m
