use Rattle.text.proofs.Pages.{written_then}
use Rattle.session_spec.specs.Lines.{done_start}
use Rattle.session_tool.proofs.printing.put_done_start.Goals as goal

pub returns-clause-written : goal.returns-clause-written
unfolding done_start
returns-clause-written c = written_then (written_then (written_then (written_then (written_then c.put.ensures c.put_small.ensures.written) c.put_kind.ensures.written) c.put_small-2.ensures.written) c.put-2.ensures) c.put_answer.ensures.written
