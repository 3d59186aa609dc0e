use mathlib.Core.Path.{◌≡◌, refl}
use mathlib.Core.List.{List, ◌++◌}
use Prim.Native.Nat.{ℕ, ◌-◌, ◌≤◌}
use native.Mathlib.Omega.{arith}
use lib.ListN.{length, take, drop, replicate, length-replicate}
use Rattle.std.proofs.lemmas.List.{length-take-le, drop-replicate}
use Rattle.cells.proofs.opening_state.open_counts.Goals as goal

-- the first n of 128 zeros become ones
filled : (l m : List ℕ) (n : ℕ) → n ≤ 16 → m ≡ replicate 128 0 → l ≡ replicate (length (take n m)) 1 → l ++ drop n m ≡ replicate n 1 ++ replicate (128 - n) 0
filled l m n h e g =
    let long : length m ≡ 128 = rw e (length-replicate {A = ℕ} 128 0) in
    rw (g, length-take-le n m (omega (arith, long, h)), e, drop-replicate {X = ℕ} n 128 0)

pub returns : goal.returns
returns c = filled _ _ c.args.cells c.requires refl (c.fill.ensures.after (λ y h. h))
