-- What the reader answers, as a verdict.
use Rattle.std.specs.Prelude.{Bool, cond, ◌&&◌, List, map, ℕ, ◌+◌, ◌*◌, eqb, take, get_or, Ok, Err}
use Rattle.std.specs.declared.result.Result.{Result}
use Rattle.std.proofs.Math.ListN as list
use Rattle.session_spec.specs.Session.{Verdict, bad, session, verdict}
use Rattle.history_spec.specs.History.{Action, read, swap, step, drop, begin}
use Rattle.session_reader.specs.declared.reading.Session.{Session}
use Rattle.session_reader.specs.declared.reading.ReadError.{ReadError}
use Rattle.session_reader.specs.declared.reading.ReadError.TheVariants.{BufferSizes, TooLong, Shape, Form, TooMany}

-- an action by its kind, 1 read, 2 swap, 3 step, 4 drop, and its numbers
abbrev pub acted : ℕ → List ℕ → Action
acted kind n =
    cond (eqb kind 1) (begin (get_or n 0 0) (read (get_or n 1 0)))
    (cond (eqb kind 2) (begin (get_or n 0 0) (swap (get_or n 1 0) (get_or n 2 0) (get_or n 3 0)))
    (cond (eqb kind 3) (step (get_or n 0 0))
    (drop (get_or n 0 0))))

-- form i of a table of five words each
unfoldable pub act_at : List ℕ → ℕ → Action
act_at table i = acted (get_or table (5 * i) 0) (take 4 (list.drop (5 * i + 1) table))

-- the question's number; 0, the number of no question, for buffers of other sizes
abbrev pub question : ReadError → ℕ
question BufferSizes = 0
question TooLong = 12
question Shape = 13
question Form = 14
question TooMany = 15

abbrev pub verdict_of : Result Session ReadError → (values forms actions : List ℕ) → Verdict
verdict_of (Err e) v f a = bad (question e)
verdict_of (Ok o) v f a =
    session (record { tasks = o.tasks; cells = o.cells; blocks = o.blocks; values = take o.values v }) (map (act_at f) (take o.actions a))

abbrev pub sized : (values forms actions : ℕ) → Bool
sized v f a = eqb v 32768 && (eqb f 40960 && eqb a 65535)

-- buffers of other sizes: 0, the number of no question
unfoldable pub verdict_in : (values forms actions : ℕ) → List ℕ → Verdict
verdict_in v f a s = cond (sized v f a) (verdict s) (bad 0)
