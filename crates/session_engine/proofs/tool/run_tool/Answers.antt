use Rattle.session_engine.proofs.Texts.{none_within, all_within}
use Rattle.session_engine.proofs.tool.run_tool.Goals as goal

pub returns-then-out-ROOM : goal.returns-then-out-ROOM
returns-then-out-ROOM g c = let w = none_within _ _ _ (rw (← c.ROOM.ensures) c.if-out-ROOM.true) in record { out_after = w.0; value = w.1.0; prefix_len = w.1.1 }

pub returns : goal.returns
returns g c = let w = all_within _ _ _ (rw (← c.ROOM.ensures) c.if-out-ROOM.false) c.print_file.ensures in record { out_after = w.0; value = w.1.0; prefix_len = w.1.1 }
