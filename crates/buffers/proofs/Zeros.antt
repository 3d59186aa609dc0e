-- A new buffer is zeros, and has its length, by laws: nobody writes them out, not even where a promise fails.
use mathlib.Core.Path.{◌≡◌, refl, sym}
use Prim.Native.Nat.{ℕ}
use lib.ListN.{length, replicate, length-replicate}
use Rattle.buffers.specs.Space.{zeros}

pub all-zeros : (n : ℕ) → replicate n 0 ≡ zeros n
unfolding zeros
all-zeros n = refl

pub as_long : (n : ℕ) → n ≡ length {A = ℕ} (replicate n 0)
as_long n = sym (length-replicate {A = ℕ} n 0)
