-- What the parts of the reader answer, against the definition's readers.
use Rattle.std.specs.Prelude.{◌≡◌, Bool, true, false, List, ℕ, ◌+◌, ◌*◌, ◌≤◌, ◌<◌, length, take, drop}
use Rattle.std.specs.Prelude as code
use Rattle.std.specs.declared.result.Result as result
use Rattle.std.proofs.Math.Option.{none}
use Rattle.text.specs.Append.{Appended}
use Rattle.text.specs.Bytes.{bytes}
use Rattle.text.specs.Readers.{Reader, Reads, literal}
use Rattle.session_spec.specs.Session.{FormKind, reading, swapping, stepping, dropping, repeating, several_items, values, read_opening, keyword, arity, head, Form, Forms, counts, lines, bad, formed, asked14}
use Rattle.session_reader.specs.Reading.{question, verdict_of}
use Rattle.session_reader.specs.Tables.{table_of, done, done_of, form_names, form_names_of, over, Buffers, cleared, after_reading14}
use Rattle.session_reader.specs.Kept.{Held}
use Rattle.session_reader.specs.declared.reading.Opened.{Opened}
use Rattle.session_reader.specs.declared.reading.Keyword.{Keyword}
use Rattle.session_reader.specs.declared.reading.Keyword.TheVariants as word
use Rattle.session_reader.specs.declared.keeping.Tables.{Tables}
use Rattle.session_reader.specs.declared.reading.Session.{Session}
use Rattle.session_reader.specs.declared.reading.ReadError.{ReadError}
use Rattle.session_reader.specs.declared.reading.ReadError.TheVariants as error

-- the values, stored in the buffer from its start
abbrev pub ValuesAre : List ℕ → ℕ → List ℕ → code.Option (ℕ × ℕ) → Type 0
ValuesAre s at out code.None = values (drop at s) ≡ none
ValuesAre s at out (code.Some (n, next)) = Reads values s at 1 (take n out) next

-- the first line up to its values
pub record Led (s out : List ℕ) (next : ℕ) : Type 0 where
  pub a : ℕ
  pub b : ℕ
  pub opens : Reads (literal (bytes "(open")) s 0 5 tt a
  pub three : Reads (several_items 3) s a 6 (take 3 out) b
  pub starts : Reads (literal (bytes " (")) s b 2 tt next

abbrev pub LeadIs : List ℕ → List ℕ → code.Option ℕ → Type 0
LeadIs s out code.None = read_opening s ≡ none
LeadIs s out (code.Some next) = Led s out next

abbrev pub OpenedIs : List ℕ → List ℕ → code.Option Opened → Type 0
OpenedIs s out code.None = read_opening s ≡ none
OpenedIs s out (code.Some o) =
    Reads read_opening s 0 0 (record { tasks = o.tasks; cells = o.cells; blocks = o.blocks; values = take o.values out }) o.next

-- a word of the code, as the definition has it
abbrev pub kind_of : Keyword → FormKind
kind_of word.Read = reading
kind_of word.Swap = swapping
kind_of word.Step = stepping
kind_of word.Drop = dropping
kind_of word.Again = repeating

abbrev pub form_number : FormKind → ℕ
form_number reading = 1
form_number swapping = 2
form_number stepping = 3
form_number dropping = 4
form_number repeating = 0

abbrev pub KeywordIs : List ℕ → ℕ → code.Option (Keyword × ℕ) → Type 0
KeywordIs s at code.None = keyword (drop at s) ≡ none
KeywordIs s at (code.Some (w, next)) = Reads keyword s at 5 (kind_of w) next

-- behind its numbers the buffer is as it was
abbrev pub HeadIs : List ℕ → ℕ → (old new : List ℕ) → code.Option (Keyword × ℕ) → Type 0
HeadIs s at o p code.None = head (drop at s) ≡ none
HeadIs s at o p (code.Some (w, next)) =
    Reads head s at 7 (kind_of w, take (arity (kind_of w)) p) next × (drop (arity (kind_of w)) p ≡ drop (arity (kind_of w)) o)

-- more actions than there is room for, or just these forms and actions appended
abbrev pub Far : Bool → (F F' A A' : List ℕ) → (f n g m : ℕ) → (table words : List ℕ) → Type 0
Far true F F' A A' f n g m table words = length A < n + length words
Far false F F' A A' f n g m table words = Appended F F' (5 * f) (5 * g) table × Appended A A' n m words

-- more actions than fit, or not, and how many forms and actions are kept
pub record Kept : Type 0 where
  pub over : Bool
  pub forms : ℕ
  pub actions : ℕ

abbrev pub kept : Bool → (forms actions : ℕ) → Kept
kept o f n = record { over = o; forms = f; actions = n }

-- a table and actions that number its forms, read with f forms and n actions kept before them, and what is kept then of
-- the buffers F and A; nothing is changed where there is no room
pub record Stands (F F' A A' : List ℕ) (f n : ℕ) (b : Kept) (table words : List ℕ) : Type 0 where
  pub more-forms : f ≤ b.forms
  pub more-actions : n ≤ b.actions
  pub fits : 5 * b.forms ≤ length F
  pub room : b.actions ≤ length A
  pub far : Far b.over F F' A A' f n b.forms b.actions table words
  pub still : length A ≤ n → (F' ≡ F) × (A' ≡ A)

-- the same of both buffers, with more actions than fit or not, and at most so many forms
abbrev pub KeptIs : (b c : Tables) → (f n most : ℕ) → (table words : List ℕ) → Bool → Type 0
KeptIs b c f n most table words over =
    Stands b.forms.now c.forms.now b.actions.now c.actions.now f n (kept over c.f c.n) table words × (c.f ≤ most)

-- the buffers are the same, whatever they hold
pub record SameBuffers (old new : Tables) : Type 0 where
  pub forms : length new.forms.now ≡ length old.forms.now
  pub actions : length new.actions.now ≡ length old.actions.now
  pub forms_name : new.forms.ghost_name ≡ old.forms.ghost_name
  pub actions_name : new.actions.ghost_name ≡ old.actions.ghost_name

-- each form takes at least 8 bytes of s
pub record HasRoom (s : List ℕ) (at : ℕ) (F : List ℕ) (f : ℕ) (A : List ℕ) (n : ℕ) : Type 0 where
  pub here : at ≤ length s
  pub small : length s ≤ 65536
  pub table : 5 * length s ≤ 8 * length F
  pub few : 8 * f ≤ at
  pub room : n ≤ length A
  pub limit : length A ≤ 65535

-- what is kept of one form, and of several
pub record Account (X : Type 0) : Type 0 where
  pub table : X → List ℕ
  pub words : ℕ → X → List ℕ

abbrev pub of_form : Account Form
of_form = record { table = λ x. table_of (done x); words = form_names }

abbrev pub of_forms : Account Forms
of_forms = record { table = λ l. table_of (done_of l); words = form_names_of }

module _ {X : Type 0} (a : Account X) (p : Reader X) where
  abbrev pub GotIs : List ℕ → (at long : ℕ) → (b c : Tables) → code.Option (Bool × ℕ) → Type 0
  GotIs s at long b c code.None = p (drop at s) ≡ none
  GotIs s at long b c (code.Some (over, next)) =
      (x : X) × Reads p s at long x next × Stands b.forms.now c.forms.now b.actions.now c.actions.now b.f b.n (kept over c.f c.n) (a.table x) (a.words b.f x) × (8 * c.f ≤ next)

-- forms read with no room for an action leave both buffers as they were
abbrev pub SkippedIs : Reader Forms → List ℕ → (at : ℕ) → (F F' A A' : List ℕ) → code.Option ℕ → Type 0
SkippedIs p s at F F' A A' code.None = p (drop at s) ≡ none
SkippedIs p s at F F' A A' (code.Some next) = (l : Forms) × Reads p s at 1 l next × (F' ≡ F) × (A' ≡ A)

-- room for the forms from a place on
abbrev pub RoomIn : List ℕ → ℕ → Tables → Type 0
RoomIn s at t = HasRoom s at t.forms.now t.f t.actions.now t.n

-- the lines after the first
abbrev pub RestIs : List ℕ → (at : ℕ) → (F F' A A' : List ℕ) → result.Result ℕ ReadError → Type 0
RestIs s at F F' A A' (code.Ok n) =
    (l : Forms) × (next : ℕ) × Reads lines s at 0 l next × (n ≡ counts l) × (n ≤ length A) × (F' ≡ over (table_of (done_of l)) F) × (A' ≡ over (form_names_of 0 l) A)
RestIs s at F F' A A' (code.Err error.Form) = lines (drop at s) ≡ none
RestIs s at F F' A A' (code.Err error.TooMany) = (l : Forms) × (next : ℕ) × Reads lines s at 0 l next × (length A < counts l)
RestIs s at F F' A A' (code.Err e) = ⊥

-- a file of the right shape, with the buffers b before and c after: a session in them, or a refusal after which b is to be cleared
abbrev pub ParsedIs : List ℕ → (b c : Buffers) → result.Result Session ReadError → Type 0
ParsedIs s b c (code.Ok o) =
    (verdict_of (code.Ok o) c.values c.forms c.actions ≡ asked14 (formed s))
    × Held c.values c.forms c.actions o.values o.actions
    × (c ≡ after_reading14 (formed s) b)
ParsedIs s b c (code.Err e) = (bad (question e) ≡ asked14 (formed s)) × (cleared b ≡ after_reading14 (formed s) b)
