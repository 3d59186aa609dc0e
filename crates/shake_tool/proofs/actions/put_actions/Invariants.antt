use Rattle.std.proofs.Common.{◌≡◌, ◌+◌, ◌-◌, ◌*◌, ◌≤◌, map}
use Rattle.cells_spec.specs.Machine.{pool as machine}
use Rattle.cells_theorems.specs.Reached.{Reached}
use Rattle.history_spec.specs.History.{run}
use Rattle.text.proofs.Pages.{Onward}
use Rattle.session_spec.specs.Session.{act}
use Rattle.session_spec.specs.Written.{form_lines}
use Rattle.shake_spec.specs.Actions.{drawn_actions}
use Rattle.shake_tool.proofs.actions.put_actions.Given as goal

abbrev pub invariant-loop-i : goal.invariant-loop-i
invariant-loop-i l =
    let w = l.sizes in
    let all = drawn_actions w.tasks w.cells w.count l.seed (l.initial.s, l.initial.pool) in
    let left = drawn_actions w.tasks w.cells (w.count - l._i) l.g.state (l.s, l.pool) in
    Onward l.initial.page l.page (form_lines (map act left)) (form_lines (map act all))
    × (l.page.at ≤ l.initial.page.at + 17 * l._i)
    -- from a reached state, as an opening's is, to reached states alone
    × (Reached w.tasks w.cells l.initial.s l.initial.pool → Reached w.tasks w.cells l.s l.pool)
    × (run machine (l.s, l.pool) left ≡ run machine (l.initial.s, l.initial.pool) all)
