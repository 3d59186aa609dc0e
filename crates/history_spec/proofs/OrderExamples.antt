-- The order of marks at one action: before, itself, after; who changes its cell first; then lower tasks. Computed.
use mathlib.Core.Path.{◌≡◌, refl}
use mathlib.Core.List.{[], ◌∷◌}
use Prim.Native.Nat.{ℕ}
use Rattle.history_spec.specs.History.{Op, read, swap, Response, Value, Yes}
use Rattle.history_spec.specs.Moments.{Side, before, itself, after, C4, Mark, sort}

abbrev call : ℕ → Op → Response → Side → Mark
call t op a side = record { spot = record { moment = 5; side = side; rule = C4 }; call = record { at = 0; task = t; op = op; before = [] }; answer = a }

abbrev seen : ℕ → Side → Mark
seen t side = call t (read 0) (Value 7) side

pub ordered : sort (seen 2 itself ∷ seen 0 after ∷ seen 1 itself ∷ call 3 (swap 0 5 7) Yes itself ∷ seen 4 before ∷ [])
    ≡ seen 4 before ∷ call 3 (swap 0 5 7) Yes itself ∷ seen 1 itself ∷ seen 2 itself ∷ seen 0 after ∷ []
ordered = refl
