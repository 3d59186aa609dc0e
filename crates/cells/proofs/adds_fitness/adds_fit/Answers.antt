use Rattle.std.proofs.Common.{◌≡◌, ◌∙◌, length, take, arith, rules, tests}
use Rattle.std.specs.List.{list_all, zip}
use Rattle.std.proofs.lemmas.Iterator.{YieldsList-from_slice, YieldsList-from_zip, YieldsList-from_take}
use Rattle.std.proofs.lemmas.Iterator.Consumers.{YieldsList-at}
use Rattle.std.proofs.lemmas.Iterator.Search.{all_from_yields_List}
use Rattle.adds_spec.specs.Adding.{add_fit, adds_fit}
use Rattle.adds_spec.proofs.Entries.{pairs_fit}
use Rattle.cells.proofs.adds_fitness.adds_fit.Goals as goal

-- Every pair of an add and a record below the tasks is tested; beyond them nobody has an add.
pub returns : goal.returns
unfolding adds_fit
returns c = let s = c.args.s.now in
    let adds : length s.adds ≡ 32 = search rules in
    let records : length s.cells.records ≡ 32 = search rules in
    let long : length s.adds ≡ length s.cells.records = omega (arith, adds, records) in
    let all : c.all.result ≡ list_all (λ x. add_fit x.0 x.1) (take s.cells.tasks (zip s.adds s.cells.records)) =
    all_from_yields_List (λ x. add_fit x.0 x.1) c.all.new.self _ _ c.all.ensures.ran
    (YieldsList-from_take _ (YieldsList-at c.take.ensures.source (YieldsList-from_zip (YieldsList-from_slice s.adds cc) (YieldsList-from_slice s.cells.records cc))) c.take.ensures.count)
    (λ x b q k. search (rules, tests)) in
    all ∙ pairs_fit s.adds s.cells.records long s.cells.tasks
