use Rattle.std.proofs.Common.{◌≤◌, sym, ap, ◌∙◌, length, arith}
use lib.ListN.{length-map}
use Rattle.cells_spec.specs.Machine.{Pool}
use Rattle.figure_lines.specs.Answers.{answer_of}
use Rattle.session_engine.specs.Tool.{all_of}
use Rattle.session_reader.specs.Reading.{act_at}
use Rattle.nudge_spec.specs.Nudge.{nudges, earliest, nudge_line}
use Rattle.nudge_tool.specs.Calls.{summary_of, sought_of}
use Rattle.nudge_tool.proofs.Asking.{started, few_enough}
use Rattle.nudge_tool.proofs.Naming.{sought_none, sought_finishes, sought_nudge}
use Rattle.nudge_tool.proofs.Nudge.find.Goals as goal

pub returns-in_default : goal.returns-in_default
returns-in_default c = let a = c.args in
    let l = all_of a.actions in
    let few : length l ≤ 2000 = omega (arith, length-map a.actions.kept.now (act_at a.actions.forms.now), c.len.ensures, c.if-len-gt2000.false) in
    sought_none (started c.requires) l a.self.task a.self.n (sym c.find_call.ensures ∙ ap sought_of c.in_default.is) ∙ few_enough a.self.task a.self.n (a.first, a.pool.now) l few

pub first_nudge-requires-clause-summarizes : goal.first_nudge-requires-clause-summarizes
first_nudge-requires-clause-summarizes c = let a = c.args in sought_finishes (started c.requires) (all_of a.actions) a.self.task a.self.n _ (sym c.find_call.ensures ∙ ap sought_of c.in-Some.is)

pub returns : goal.returns
returns c = let a = c.args in
    let l = all_of a.actions in
    let x : Pool = (a.first, a.pool.now) in
    let call = c.in-Some.call in
    let size = length-map a.actions.kept.now (act_at a.actions.forms.now) in
    let few : length l ≤ 2000 = omega (arith, size, c.len.ensures, c.if-len-gt2000.false) in
    ap nudge_line (c.first_nudge.ensures ∙ ap (earliest (nudges x l call.at (answer_of call.answer)) 0) (sym size))
    ∙ sought_nudge (started c.requires) l a.self.task a.self.n (summary_of call) (sym c.find_call.ensures ∙ ap sought_of c.in-Some.is) ∙ few_enough a.self.task a.self.n x l few
