-- What becomes of a step's hardware CAS, by the memory before the step.
use Rattle.std.specs.Prelude.{cond, eqb}
use Rattle.history_spec.specs.History.{Attempt, success, failure, untried}
use Rattle.figure_moments.specs.Moments.{Sight}

-- line 2 wins where D of the held block is none, line 30 where the held block is current
abbrev pub judged : Sight → Attempt
judged x =
    cond (eqb x.line 2) (cond x.undecided success failure)
    (cond (eqb x.line 30) (cond x.current success failure)
    untried)
