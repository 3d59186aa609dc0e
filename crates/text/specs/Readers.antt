-- Readers of a text: what stands at its start, and the text after that.
use Rattle.std.specs.Prelude.{◌≡◌, Bool, cond, ◌&&◌, List, [], ◌∷◌, ℕ, zero, suc, ◌+◌, ◌-◌, ◌*◌, ◌≤◌, leb, eqb, length, drop}
use Rattle.std.proofs.Math.Option.{Option, none, some}

infixl 1 ◌>>=◌
infixl 1 ◌>>◌
abbrev pub Reader : Type 0 → Type 0
Reader A = List ℕ → Option (A × List ℕ)

module _ {A : Type 0} where
  -- nothing is read
  abbrev pub pure : A → Reader A
  pure a s = some (a, s)

  abbrev pub either : Option A → Option A → Option A
  either none y = y
  either (some a) y = some a

module _ {A B : Type 0} where
  -- what is read after what was found
  abbrev pub onward : Option (A × List ℕ) → (A → Reader B) → Option (B × List ℕ)
  onward none f = none
  onward (some (a, s)) f = f a s

  abbrev pub ◌>>=◌ : Reader A → (A → Reader B) → Reader B
  ◌>>=◌ p f s = onward (p s) f

  abbrev pub ◌>>◌ : Reader A → Reader B → Reader B
  ◌>>◌ p q s = onward (p s) λ _. q

-- k of them, one after another
unfoldable pub several : {A : Type 0} → Reader A → ℕ → Reader (List A)
several p zero = pure []
several p (suc k) = do
  a ← p
  l ← several p k
  pure (a ∷ l)

-- what was found, and then the rest, over what stood there; nothing found leaves it
abbrev pub overwritten : Option (ℕ × List ℕ) → (List ℕ → List ℕ) → List ℕ → List ℕ
overwritten none rest old = old
overwritten (some (v, t)) rest old = v ∷ rest t

-- a buffer after at most k of them were stored from its start, one after another until one is missing
unfoldable pub stored : Reader ℕ → ℕ → (s old : List ℕ) → List ℕ
stored p zero s old = old
stored p (suc k) s [] = []
stored p (suc k) s (o ∷ old) = overwritten (p s) (λ t. stored p k t old) (o ∷ old)

-- just these bytes
unfoldable pub literal : List ℕ → Reader (Unit {0})
literal [] s = some (tt, s)
literal (x ∷ w) [] = none
literal (x ∷ w) (y ∷ s) = cond (eqb y x) (literal w s) none

abbrev pub is_digit : ℕ → Bool
is_digit d = leb 48 d && leb d 57

-- a number whose digits so far make v
unfoldable pub digits_after : ℕ → Reader ℕ
digits_after v [] = some (v, [])
digits_after v (d ∷ s) =
    cond (is_digit d)
    (cond (leb (v * 10 + (d - 48)) 4294967295) (digits_after (v * 10 + (d - 48)) s) none)
    (some (v, d ∷ s))

-- a decimal number of at most 4,294,967,295, with no leading zero
unfoldable pub number : Reader ℕ
number [] = none
number (d ∷ s) = cond (eqb d 48) (some (0, s)) (cond (is_digit d) (digits_after (d - 48) s) none)

-- at a place of s the reader p finds a, at least so many bytes long, and next is the place after it
pub record Reads {A : Type 0} (p : Reader A) (s : List ℕ) (at long : ℕ) (a : A) (next : ℕ) : Type 0 where
  pub finds : p (drop at s) ≡ some (a, drop next s)
  pub past : at + long ≤ next
  pub within : next ≤ length s
