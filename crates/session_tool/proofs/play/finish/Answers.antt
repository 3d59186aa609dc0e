use Rattle.text.proofs.Pages.{written_then}
use Rattle.session_spec.specs.Printed.{end_text}
use Rattle.session_tool.proofs.play.finish.Goals as goal

pub returns : goal.returns
unfolding end_text
returns c = rw (← c.pending.ensures) (written_then c.put_cells.ensures.written c.put_end.ensures)
