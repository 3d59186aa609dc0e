-- The session file, after document 01's "Session file" and "Sessions in brackets": refusals 12 to 15, or a session.
use Rattle.std.specs.Prelude.{Bool, true, false, cond, List, [], ◌∷◌, ◌++◌, ℕ, zero, suc, ◌+◌, ◌*◌, leb, length, get_or}
use Rattle.std.proofs.Math.Option.{Option, none, some}
use Rattle.history_spec.specs.History.{read, swap, Action, begin, step, drop}
use Rattle.session_spec.specs.Shape.{shaped}
use Rattle.text.specs.Bytes.{bytes}
use Rattle.text.specs.Readers.{Reader, pure, either, ◌>>=◌, ◌>>◌, literal, number, several}

pub record Opening : Type 0 where
  pub tasks : ℕ
  pub cells : ℕ
  pub blocks : ℕ
  pub values : List ℕ

pub data Verdict : Type 0 where
  bad : (number : ℕ) → Verdict
  session : (opening : Opening) (actions : List Action) → Verdict

-- 12. Is it at most 65,536 bytes?
abbrev pub short : List ℕ → Bool
short s = leb (length s) 65536

-- 13. specs/Shape.antt

-- 14. Is each form one of those below with exactly its items, with numbers of at most 4,294,967,295 and no leading
-- zeros, and open first and only there?

abbrev pub space : Reader (Unit {0})
space = literal (bytes " ")

abbrev pub close : Reader (Unit {0})
close = literal (bytes ")")

-- a number after a space, and k of them
abbrev pub item : Reader ℕ
item = space >> number

abbrev pub several_items : ℕ → Reader (List ℕ)
several_items = several item

module _ {A B : Type 0} (add : B → A → B) (each : Reader A) (end : Reader (Unit {0})) where
  -- items up to what ends them, added to those before; fuel bounds how many
  unfoldable pub many_within : ℕ → B → Reader B
  many_within zero l s = none
  many_within (suc fuel) l s =
      either ((end >> pure l) s) ((each >>= λ a. many_within fuel (add l a)) s)

  -- each takes a byte or more
  abbrev pub many : B → Reader B
  many l s = many_within (suc (length s)) l s

abbrev pub snoc : List ℕ → ℕ → List ℕ
snoc l v = l ++ (v ∷ [])

-- the values of open, up to their bracket
unfoldable pub values : Reader (List ℕ)
values s =
    either ((close >> pure []) s)
    ((number >>= λ v. many snoc item close (v ∷ [])) s)

-- (open N V B (values)) and its line's end
unfoldable pub read_opening : Reader Opening
read_opening = do
  literal (bytes "(open")
  n ← several_items 3
  literal (bytes " (")
  v ← values
  literal (bytes ")\n")
  pure (record { tasks = get_or n 0 0; cells = get_or n 1 0; blocks = get_or n 2 0; values = v })

-- the other forms, each a word, its numbers and, of again, forms
pub data FormKind : Type 0 where
  reading : FormKind
  swapping : FormKind
  stepping : FormKind
  dropping : FormKind
  repeating : FormKind

abbrev pub means : List ℕ → FormKind → Reader FormKind
means w k = literal w >> pure k

unfoldable pub keyword : Reader FormKind
keyword s =
    either (means (bytes "(read") reading s)
    (either (means (bytes "(swap") swapping s)
    (either (means (bytes "(step") stepping s)
    (either (means (bytes "(drop") dropping s)
    (means (bytes "(again") repeating s))))

abbrev pub arity : FormKind → ℕ
arity reading = 2
arity swapping = 4
arity stepping = 1
arity dropping = 1
arity repeating = 1

-- a form up to the last of its numbers
unfoldable pub head : Reader (FormKind × List ℕ)
head = do
  k ← keyword
  n ← several_items (arity k)
  pure (k, n)

mutual
  pub data Form : Type 0 where
    act : Action → Form
    again : ℕ → Forms → Form

  pub data Forms : Type 0 where
    empty : Forms
    with : Forms → Form → Forms

-- the rest of a form
unfoldable pub body : Reader Forms → FormKind → List ℕ → Reader Form
body forms reading n = close >> pure (act (begin (get_or n 0 0) (read (get_or n 1 0))))
body forms swapping n = close >> pure (act (begin (get_or n 0 0) (swap (get_or n 1 0) (get_or n 2 0) (get_or n 3 0))))
body forms stepping n = close >> pure (act (step (get_or n 0 0)))
body forms dropping n = close >> pure (act (drop (get_or n 0 0)))
body forms repeating n = forms >>= λ l. pure (again (get_or n 0 0) l)

abbrev pub list : Reader Form → Reader Forms
list form = many with (space >> form) close empty

-- a form at most so many brackets deep
unfoldable pub form : ℕ → Reader Form
form zero = λ s. none
form (suc d) = do
  (k, n) ← head
  body (list (form d)) k n

unfoldable pub read_line : Reader Form
read_line = do
  f ← form 8
  literal (bytes "\n")
  pure f

abbrev pub finish : Reader (Unit {0})
finish [] = some (tt, [])
finish (b ∷ s) = none

abbrev pub lines : Reader Forms
lines = many with read_line finish empty

-- 15. Are there at most 65,535 actions after repeating?

-- how many actions forms make
unfoldable mutual
  pub count : Form → ℕ
  count (act a) = 1
  count (again c l) = c * counts l

  pub counts : Forms → ℕ
  counts empty = 0
  counts (with l f) = counts l + count f

module _ {A : Type 0} where
  -- l, c times; nothing again and again is nothing at once
  unfoldable pub times : ℕ → List A → List A
  times c [] = []
  times zero (a ∷ l) = []
  times (suc c) (a ∷ l) = (a ∷ l) ++ times c (a ∷ l)

-- the actions of forms, in order
unfoldable mutual
  pub actions : Form → List Action
  actions (act a) = a ∷ []
  actions (again zero l) = []
  actions (again (suc c) l) = times (suc c) (actions_of l)

  pub actions_of : Forms → List Action
  actions_of empty = []
  actions_of (with l f) = actions_of l ++ actions f

unfoldable pub formed : Reader (Opening × Forms)
formed = do
  o ← read_opening
  l ← lines
  pure (o, l)

-- The first no gives its number: 15, after 14, after 13 and 12.
unfoldable pub asked15 : Bool → Opening → Forms → Verdict
asked15 true o l = session o (actions_of l)
asked15 false o l = bad 15

unfoldable pub asked14 : Option ((Opening × Forms) × List ℕ) → Verdict
asked14 none = bad 14
asked14 (some ((o, l), s)) = asked15 (leb (counts l) 65535) o l

unfoldable pub verdict : List ℕ → Verdict
verdict s = cond (short s) (cond (shaped s) (asked14 (formed s)) (bad 13)) (bad 12)
