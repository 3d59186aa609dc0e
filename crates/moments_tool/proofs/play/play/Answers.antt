use Rattle.session_engine.specs.Tool.{all_of}
use Rattle.moments_tool.proofs.Starting.{printed}
use Rattle.moments_tool.proofs.play.play.Goals as goal

pub returns : goal.returns
returns c = let a = c.args in printed a.first.tasks (a.first, a.pool.now) (all_of a.actions) c.list_marks.ensures (rw c.words.ensures.value at c.put_marks.ensures)
