-- A step over a record that the caller lends: it stands in place of the state's record of the task.
use Rattle.std.specs.Prelude.{Bool, not, cond, List, ℕ}
use Rattle.figure_lines.specs.declared.Record.{Record}
use Rattle.cells_spec.specs.declared.State.{State}
use Rattle.cells_spec.specs.Answers.{Said, acts}
use Rattle.figure_lines.specs.Record.{record_at}
use Rattle.cells_spec.specs.Open.{After, leaving}
use Rattle.cells_spec.specs.Begin.{with_record}
use Rattle.cells_spec.specs.Step.{stepped}

abbrev pub is_refused : Said → Bool
is_refused o = not (acts o)

-- what the entry leaves and answers, and the lent record
pub record Lent : Type 0 where
  pub entry : After
  pub «record» : Record

abbrev pub lent : After → Record → Lent
lent a r = record { entry = a; «record» = r }

-- refused: all as handed in, the state without the lent record; otherwise the lent record is the state's
unfoldable pub stepped_lent : State → List ℕ → (task : ℕ) → Record → Lent
stepped_lent s p t r =
    let a = stepped (with_record s t r) p t in
    cond (is_refused a.outcome) (lent (leaving s p a.outcome) r) (lent a (record_at a.state.records t))
