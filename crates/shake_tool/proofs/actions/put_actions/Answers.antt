use Rattle.std.proofs.Common.{sym, ap, ◌∙◌, subst, arith}
use Rattle.text.proofs.Pages.{onward_more, onward_end}
use Rattle.shake_spec.specs.Drawn.{Drawn}
use Rattle.shake_spec.specs.Actions.{Short}
use Rattle.shake_spec.proofs.Writing.{short-drawn, one_line, no_line_lem, one_done, none_done}
use Rattle.cells_spec.specs.Answers.{act_of}
use Rattle.cells_spec.specs.Machine.{Pool}
use Rattle.cells_theorems.specs.Reached.{Reached}
use Rattle.cells_theorems.proofs.Reaching.{reached-next}
use Rattle.shake_tool.proofs.Acting.{moves}
use Rattle.shake_tool.proofs.Sizing.{fits}
use Rattle.shake_tool.proofs.actions.put_actions.Goals as goal

pub put_action-requires-clause-short : goal.put_action-requires-clause-short
put_action-requires-clause-short c = let w = c.args.sizes in
    let h = fits w in
    let l = c.loop-i in
    subst Short (ap (λ (y : Drawn). y.action) (sym c.draw_action-a.ensures)) (short-drawn w.tasks w.cells l.s l.g.state h.0 h.1 h.2 h.3)

pub put_action-requires-clause-in_bounds : goal.put_action-requires-clause-in_bounds
put_action-requires-clause-in_bounds c = let l = c.loop-i in omega (arith, l.invariant.0.written.size, l.invariant.1, c.loop-i-test.true, fits c.args.sizes, c.requires.in_bounds)

pub loop-i-preserved : goal.loop-i-preserved
loop-i-preserved c = let l = c.loop-i in
    let w = c.args.sizes in
    let h = c.loop-i-test.true in
    let d = c.draw_action-a.ensures in
    let p = c.put_action.ensures in
    let x = moves c.act.ensures in
    (onward_more l.invariant.0 p.written (one_line w.tasks w.cells w.count l._i l.g.state l.s l.pool h d x), omega (arith, l.invariant.1, p.upper_bound), λ r. subst (λ (y : Pool). Reached w.tasks w.cells y.0 y.1) (sym x) (reached-next (l.invariant.2 r) (act_of c.draw_action-a.result)), sym (one_done w.tasks w.cells w.count l._i l.g.state l.s l.pool h d x) ∙ l.invariant.3)

pub returns-clause-written : goal.returns-clause-written
returns-clause-written c = let l = c.loop-i in
    let w = c.args.sizes in
    onward_end l.invariant.0 (no_line_lem w.tasks w.cells w.count l._i l.g.state l.s l.pool c.loop-i-test.false)

pub returns-clause-cells_after : goal.returns-clause-cells_after
returns-clause-cells_after c = let l = c.loop-i in
    let w = c.args.sizes in
    sym (none_done w.tasks w.cells w.count l._i l.g.state l.s l.pool c.loop-i-test.false) ∙ l.invariant.3
