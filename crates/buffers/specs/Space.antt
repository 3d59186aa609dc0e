-- What a new buffer holds.
use Rattle.std.specs.Prelude.{List, ℕ, replicate}

-- shut, so that nobody writes out millions of them
unfoldable pub zeros : ℕ → List ℕ
zeros n = replicate n 0
