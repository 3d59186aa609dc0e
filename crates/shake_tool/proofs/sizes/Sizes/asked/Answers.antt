use Rattle.std.proofs.Common.{sym, ◌∙◌}
use Rattle.shake_spec.proofs.Shaking.{refused-1, refused-2, refused-3, refused-17, none_refused}
use Rattle.shake_tool.proofs.sizes.Sizes.asked.Goals as goal

pub returns-then-not-tasks_ok : goal.returns-then-not-tasks_ok
returns-then-not-tasks_ok c = let a = c.args in
    refused-1 a.tasks a.cells a.blocks a.count (sym c.tasks_ok.ensures ∙ c.if-not-tasks_ok.true)

pub returns-then-not-cells_ok : goal.returns-then-not-cells_ok
returns-then-not-cells_ok c = let a = c.args in
    refused-2 a.tasks a.cells a.blocks a.count (sym c.tasks_ok.ensures ∙ c.if-not-tasks_ok.false) (sym c.cells_ok.ensures ∙ c.if-not-cells_ok.true)

pub returns-then-not-blocks_ok : goal.returns-then-not-blocks_ok
returns-then-not-blocks_ok c = let a = c.args in
    refused-3 a.tasks a.cells a.blocks a.count (sym c.tasks_ok.ensures ∙ c.if-not-tasks_ok.false) (sym c.cells_ok.ensures ∙ c.if-not-cells_ok.false) (sym c.blocks_ok.ensures ∙ c.if-not-blocks_ok.true)

pub returns-then-not-count_ok : goal.returns-then-not-count_ok
returns-then-not-count_ok c = let a = c.args in
    refused-17 a.tasks a.cells a.blocks a.count (sym c.tasks_ok.ensures ∙ c.if-not-tasks_ok.false) (sym c.cells_ok.ensures ∙ c.if-not-cells_ok.false) (sym c.blocks_ok.ensures ∙ c.if-not-blocks_ok.false) (sym c.count_ok.ensures ∙ c.if-not-count_ok.true)

pub invariant_of-result : goal.invariant_of-result
invariant_of-result c = let a = c.args in
    record { allowed = none_refused a.tasks a.cells a.blocks a.count (sym c.tasks_ok.ensures ∙ c.if-not-tasks_ok.false) (sym c.cells_ok.ensures ∙ c.if-not-cells_ok.false) (sym c.blocks_ok.ensures ∙ c.if-not-blocks_ok.false) (sym c.count_ok.ensures ∙ c.if-not-count_ok.false) }
