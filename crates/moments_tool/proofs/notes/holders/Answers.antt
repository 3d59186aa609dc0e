use Rattle.std.proofs.Common.{false, Bool, arith, rules}
use Rattle.figure_lines.specs.Record.{record_at}
use Rattle.history_spec.proofs.Basics.{replicate_at}
use Rattle.moments_tool.specs.Notes.{holds_with}
use Rattle.moments_tool.proofs.Noting.{set_next}
use Rattle.moments_tool.proofs.notes.holders.Goals as goal

pub loop-u-preserved : goal.loop-u-preserved
loop-u-preserved c =
    let l = c.loop-u in
    (set_next l.who (λ k. holds_with (record_at c.args.s.now.records k) c.args.r) false l.u _ (omega arith) l.invariant.0 c.holds_with.ensures, search rules)

pub returns-else-asked-clause-by_index : goal.returns-else-asked-clause-by_index
returns-else-asked-clause-by_index c = λ u h. rw c.if-asked.false (replicate_at {A = Bool} false 32 u)
