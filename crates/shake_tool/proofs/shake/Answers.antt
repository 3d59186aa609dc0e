use Rattle.shake_spec.proofs.Shaking.{none_shaken, all-printed}
use Rattle.shake_tool.proofs.shake.Goals as goal

pub returns-then-out-lt-ROOM : goal.returns-then-out-lt-ROOM
returns-then-out-lt-ROOM c = let w = none_shaken _ _ _ _ _ _ c.if-out-lt-ROOM.true in record { out_after = w.0; value = w.1.0; prefix_len = w.1.1 }

pub returns : goal.returns
returns c = let a = c.args in
    let w = all-printed a.seed a.tasks a.cells a.blocks a.count c.print_at_start.ensures c.if-out-lt-ROOM.false in
    record { out_after = w.0; value = w.1.0; prefix_len = w.1.1 }
