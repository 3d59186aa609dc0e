-- With which of the code's answers a read ends, and a swap of equal values, which reads: computed.
use mathlib.Core.Path.{◌≡◌, refl}
use Prim.Native.Nat.{ℕ}
use Rattle.figure_lines.specs.declared.Record.{Record}
use Rattle.figure_lines.specs.declared.Answer.{Answer}
use Rattle.figure_lines.specs.declared.Answer.TheVariants.{Value, Yes, No}
use Rattle.figure_lines.specs.Answers.{Done, result_of}
use Rattle.figure_lines.specs.Lines.{answer, read_answer}

-- a call of that kind on cell 3, after six steps: 1 is a read, 2 a swap, from 5 to 5
abbrev call : (kind : ℕ) → Record
call k = record { line = 3; wanted = 13; kind = k; cell = 3; expected = 5; new = 5; held = 1; taken = 0; loaded = 9; steps = 6; won = 0; lost = 1 }

-- it found that value, and ends with that answer
abbrev Ends : (kind found : ℕ) → Answer → Type 0
Ends k v a = answer (call k) (read_answer (call k) v) ≡ Done (result_of (record { kind = k; cell = 3; answer = a; steps = 6; won = 0; lost = 1 }))

examples : Ends 2 5 Yes × Ends 2 9 No × Ends 1 9 (Value 9)
examples = (refl, refl, refl)
