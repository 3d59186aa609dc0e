-- Classes of lines, as tests of their numbers, and which class lies in which: each inclusion is one test computed over all lines.
use mathlib.Core.Bool.{Bool, true, false, not, ◌&&◌, ◌||◌, cond}
use mathlib.Core.List.{[], ◌∷◌}
use Prim.Native.Nat.{ℕ}
use lib.Dec.{eqb, T, not_T}
use Rattle.figure_lines.specs.Basics.{within}
use Rattle.figure_lines.specs.Lines.{Line, l10, l15, nowhere}
use Rattle.cells_spec.specs.Questions.{of_kind}
use Rattle.history_spec.specs.Basics.{◌∈◌}
use Rattle.cells_spec.proofs.Numbers.{number}
use Rattle.history_spec.proofs.ListTests.{every, has, has_in, implies, excludes}
use Rattle.figure_cell.proofs.LineLaws.{every_line, lines, same, same-is, wanted_by}

-- CLASSES

abbrev pub is : ℕ → Line → Bool
is n ℓ = eqb (number ℓ) n

-- its number in the figure's own list, where the line that wanted the decision stands for the deciding part
abbrev pub figure_line : Line → ℕ
figure_line ℓ = cond (within (number ℓ) 1 3) (wanted_by ℓ) (number ℓ)

abbrev pub busy : Line → Bool
busy ℓ = not (is 0 ℓ)

-- the first load is done
abbrev pub holding : Line → Bool
holding ℓ = not (is 0 ℓ || (is 10 ℓ || is 15 ℓ))

-- of a swap of unequal values
abbrev pub swapping : Line → Bool
swapping ℓ = of_kind ℓ false true

-- has set Y and is about to look at X, or is about to set it
abbrev pub racing : Line → Bool
racing ℓ = within (number ℓ) 18 19

-- has won the splitter and has not reset it
abbrev pub won : Line → Bool
won ℓ = within (number ℓ) 20 24 || (is 26 ℓ || eqb (wanted_by ℓ) 25)

-- has won and loaded, and has not stored yet; has stored its new value
abbrev pub loaded : Line → Bool
loaded ℓ = within (number ℓ) 21 23

abbrev pub stored : Line → Bool
stored ℓ = is 24 ℓ || (is 26 ℓ || eqb (wanted_by ℓ) 25)

-- has found its block active after its load, and may yet take effect, or did
abbrev pub storing : Line → Bool
storing ℓ = is 23 ℓ || stored ℓ

-- knows that its block is inactive
abbrev pub contended : Line → Bool
contended ℓ = within (number ℓ) 1 8 || is 30 ℓ

-- replaces its block
abbrev pub replacing : Line → Bool
replacing ℓ = within (number ℓ) 4 8 || is 30 ℓ

-- has taken a new block; has stored its Y; and its C; and its D
abbrev pub taking : Line → Bool
taking ℓ = within (number ℓ) 5 8 || is 30 ℓ

abbrev pub filled_y : Line → Bool
filled_y ℓ = within (number ℓ) 6 8 || is 30 ℓ

abbrev pub filled_c : Line → Bool
filled_c ℓ = within (number ℓ) 7 8 || is 30 ℓ

abbrev pub filled_d : Line → Bool
filled_d ℓ = is 8 ℓ || is 30 ℓ

-- has loaded V and is about to load C
abbrev pub checking : Line → Bool
checking ℓ = is 12 ℓ || is 21 ℓ

-- has loaded V and may yet answer by it
abbrev pub viewing : Line → Bool
viewing ℓ = is 12 ℓ || within (number ℓ) 21 22

-- set Y and has not reset it
abbrev pub marking : Line → Bool
marking ℓ = is 19 ℓ || (is 27 ℓ || won ℓ)

-- attempts no hardware CAS and leads to none, in an active block that nobody else swaps on
abbrev pub uncontended : Line → Bool
uncontended ℓ = busy ℓ && not (contended ℓ || is 27 ℓ)

-- INCLUSIONS

-- one class lies in another: `lies_in a b tt`, where the test computes
pub lies_in : (a b : Line → Bool) → T (every (λ ℓ. not (a ℓ) || b ℓ) lines) → (ℓ : Line) → T (a ℓ) → T (b ℓ)
lies_in a b h ℓ = implies (a ℓ) (b ℓ) (every_line (λ ℓ. not (a ℓ) || b ℓ) h ℓ)

-- two classes have no line in common
pub are_apart : (a b : Line → Bool) → T (every (λ ℓ. not (a ℓ && b ℓ)) lines) → (ℓ : Line) → T (a ℓ) → T (b ℓ) → ⊥
are_apart a b h ℓ = excludes (a ℓ) (b ℓ) (every_line (λ ℓ. not (a ℓ && b ℓ)) h ℓ)

-- who holds no block yet
pub holds_not : (ℓ : Line) → (T (holding ℓ) → ⊥) → ℓ ∈ (nowhere ∷ l10 ∷ l15 ∷ [])
holds_not ℓ n = has_in same same-is (nowhere ∷ l10 ∷ l15 ∷ []) ℓ (lies_in (λ ℓ. not (holding ℓ)) (has same (nowhere ∷ l10 ∷ l15 ∷ [])) tt ℓ (not_T (holding ℓ) n))
