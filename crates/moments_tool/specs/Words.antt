-- A mark as one number of 32 bits: moment 16, side 2, no change 1, task 5, kind 1, cell 4, rule 3. Its first 24 bits are its place in the order.
use Rattle.std.specs.Prelude.{◌≡◌, cond, List, [], ◌∷◌, ◌++◌, map, ℕ, ◌+◌, ◌*◌, ◌/◌, ◌%◌, ◌≤◌, ◌<◌, eqb, leb, ltb, Option, Some, None}
use Rattle.history_spec.specs.History.{Op, cell_of, Kind, a_read, a_swap, kind_of, Response}
use Rattle.history_spec.specs.Moments.{Side, before, itself, after, Rule, R1, R2, C1, C2, C3, C4, C5, C6, Spot, Mark, changes, side_number, sort}
use Rattle.moments_spec.specs.Lines.{at_line}

abbrev pub rule_number : Rule → ℕ
rule_number R1 = 0
rule_number R2 = 1
rule_number C1 = 2
rule_number C2 = 3
rule_number C3 = 4
rule_number C4 = 5
rule_number C5 = 6
rule_number C6 = 7

abbrev pub kind_number : Kind → ℕ
kind_number a_read = 0
kind_number a_swap = 1

abbrev pub rank : (moment side still task : ℕ) → ℕ
rank m s c t = m * 256 + (s * 64 + (c * 32 + t))

abbrev pub joined : (rank kind cell rule : ℕ) → ℕ
joined q d k r = q * 256 + (d * 128 + (k * 8 + r))

abbrev pub word_with : (moment side rule : ℕ) → Op → (task : ℕ) → Response → ℕ
word_with m s r op t a = joined (rank m s (cond (changes op a) 0 1) t) (kind_number (kind_of op)) (cell_of op) r

abbrev pub mark_word : Spot → Op → (task : ℕ) → Response → ℕ
mark_word p op t a = word_with p.moment (side_number p.side) (rule_number p.rule) op t a

abbrev pub encode : Mark → ℕ
encode m = mark_word m.spot m.call.op m.call.task m.answer

-- IN THEIR ORDER

abbrev pub insert_word : ℕ → List ℕ → List ℕ
insert_word w [] = w ∷ []
insert_word w (y ∷ l) = cond (leb (w / 256) (y / 256)) (w ∷ y ∷ l) (y ∷ insert_word w l)

-- with the word that is made, if one is
abbrev pub entered : Option ℕ → List ℕ → List ℕ
entered None l = l
entered (Some w) l = insert_word w l

-- a number of 32 bits
abbrev pub IsWord : ℕ → Type 0
IsWord w = w ≤ 4294967295

abbrev pub IsMade : Option ℕ → Type 0
IsMade None = Unit {0}
IsMade (Some w) = IsWord w

-- none stands before n
abbrev pub From : ℕ → List ℕ → Type 0
From n [] = Unit {0}
From n (y ∷ l) = (n ≤ y / 256) × From n l

abbrev pub SortedWords : List ℕ → Type 0
SortedWords [] = Unit {0}
SortedWords (y ∷ l) = From (y / 256) l × SortedWords l

-- a mark that fits a word
pub record FitsWord (m : Mark) : Type 0 where
  pub moment : m.spot.moment ≤ 65535
  pub task : m.call.task < 32
  pub cell : cell_of m.call.op < 16

abbrev pub AllFit : List Mark → Type 0
AllFit [] = Unit {0}
AllFit (m ∷ l) = FitsWord m × AllFit l

-- the words are those of the marks, in their order
pub record Listed (words : List ℕ) (l : List Mark) : Type 0 where
  pub same : words ≡ map encode (sort l)
  pub fit : AllFit (sort l)
  pub sorted : SortedWords words

-- THEIR LINES

abbrev pub side_at : ℕ → Side
side_at n = cond (eqb n 0) before (cond (eqb n 1) itself after)

abbrev pub kind_bit : ℕ → Kind
kind_bit n = cond (eqb n 0) a_read a_swap

abbrev pub rule_numbered : ℕ → Rule
rule_numbered n =
    cond (ltb n 4) (cond (eqb n 0) R1 (cond (eqb n 1) R2 (cond (eqb n 2) C1 C2)))
    (cond (eqb n 4) C3 (cond (eqb n 5) C4 (cond (eqb n 6) C5 C6)))

abbrev pub word_line : ℕ → List ℕ
word_line w = at_line (record { moment = w / 65536; side = side_at (w / 16384 % 4); rule = rule_numbered (w % 8) }) (w / 256 % 32) (kind_bit (w / 128 % 2)) (w / 8 % 16)

unfoldable pub word_lines : List ℕ → List ℕ
word_lines [] = []
word_lines (w ∷ l) = word_line w ++ word_lines l
