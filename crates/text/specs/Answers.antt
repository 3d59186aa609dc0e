-- What the reading functions answer, against the readers.
use Rattle.std.specs.Prelude.{◌≡◌, List, ℕ, ◌*◌, take, drop, Option, Some, None}
use Rattle.std.proofs.Math.Option.{none}
use Rattle.text.specs.Readers.{Reader, Reads, several}

-- p finds nothing, or something at least so many bytes long
abbrev pub PlaceIs : Reader (Unit {0}) → List ℕ → (at long : ℕ) → Option ℕ → Type 0
PlaceIs p s at long None = p (drop at s) ≡ none
PlaceIs p s at long (Some next) = Reads p s at long tt next

abbrev pub NumeralIs : Reader ℕ → List ℕ → (at long : ℕ) → Option (ℕ × ℕ) → Type 0
NumeralIs p s at long None = p (drop at s) ≡ none
NumeralIs p s at long (Some (v, next)) = Reads p s at long v next

-- k of them, each two bytes long or more, and out has them at its start
abbrev pub SeveralIs : Reader ℕ → List ℕ → (at k : ℕ) → List ℕ → Option ℕ → Type 0
SeveralIs p s at k out None = several p k (drop at s) ≡ none
SeveralIs p s at k out (Some next) = Reads (several p k) s at (2 * k) (take k out) next
