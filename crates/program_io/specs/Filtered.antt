-- What a program around a tool does: it reads its input, lends it to the tool, and writes the text that the tool leaves.
use Rattle.std.specs.Prelude.{◌≡◌, ◌⊎◌, Bool, true, false, ℕ, Option, List, length, take}
use Rattle.std.specs.Io.KnownBytes.{Appends, Keeps, Consumes, IsAtEnd}
use Rattle.std.specs.Fn.{Once}
use Rattle.io.specs.Counts.{IsPrefixLen}
use denote.Ref.{Bor, MutBor}

-- the input that is left, the tool's buffer, and the output so far; a reader or a writer need not tell its bytes
pub record Around : Type 0 where
  pub input : Option (List ℕ)
  pub buffer : List ℕ
  pub output : Option (List ℕ)

abbrev pub around : Option (List ℕ) → List ℕ → Option (List ℕ) → Around
around i b o = record { input = i; buffer = b; output = o }

-- the tool, lent a file and a buffer, may leave a text of n bytes in it, with the buffer then as left
pub record MayLeave {F : Type 0} (calls : Once F (Bor (List ℕ) × (MutBor (List ℕ) × Unit {0})) (ℕ × (MutBor (List ℕ) × Unit {0}))) (tool : F) (file buffer : List ℕ) (n : ℕ) (left : List ℕ) : Type 0 where
  pub file_lent : Bor (List ℕ)
  pub file_is : file_lent.now ≡ file
  pub buffer_lent : MutBor (List ℕ)
  pub buffer_is : buffer_lent.now ≡ buffer
  pub buffer_back : MutBor (List ℕ)
  pub left_is : buffer_back.now ≡ left
  pub answers : calls.post tool (file_lent, (buffer_lent, tt)) (n, (buffer_back, tt))

-- it gave up, as where reading failed: nothing was written, the tool's buffer is as it was, and the answer is no
pub record Stopped (before after : Around) (answer : Bool) : Type 0 where
  pub failed : answer ≡ false
  pub buffer_kept : after.buffer ≡ before.buffer
  pub output_kept : Keeps before.output after.output

module _ (Tool : (file buffer : List ℕ) (n : ℕ) (left : List ℕ) → Type 0) where
  -- all that was to be read was lent to the tool; its text was written, or where that failed a part from its start
  pub record Ran (before after : Around) (input : List ℕ) (room : ℕ) (answer : Bool) : Type 0 where
    pub whole : (length input ≡ room) ⊎ IsAtEnd after.input
    pub text : ℕ
    pub tool : Tool input before.buffer text after.buffer
    pub count : ℕ
    pub part : Appends before.output after.output (take count (take text after.buffer))
    pub all : answer ≡ true → Appends before.output after.output (take text after.buffer)

  -- what was read is the start of the file; the answer is yes only where all of it was lent and all of the text written
  pub record Filtered (before after : Around) (file : List ℕ) (answer : Bool) : Type 0 where
    pub count : ℕ
    pub within : IsPrefixLen count file
    pub read : Consumes before.input after.input (take count file)
    pub outcome : Stopped before after answer ⊎ Ran before after (take count file) (length file) answer
