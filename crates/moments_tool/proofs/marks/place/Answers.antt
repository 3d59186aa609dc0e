use Rattle.std.proofs.Common.{rules, tests}
use Rattle.moments_tool.proofs.Sorting.{found_last, insert_at}
use Rattle.moments_tool.proofs.marks.place.Goals as goal

pub returns-clause-at_place : goal.returns-clause-at_place
returns-clause-at_place c =
    let words = c.args.words.now in
    insert_at c.args.w words c.map_or.result (search rules) (found_last c.args.w words c.rposition.result c.map_or.result c.requires (search rules) (search (rules, tests)))
