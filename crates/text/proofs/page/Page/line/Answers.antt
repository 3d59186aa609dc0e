use Rattle.text.proofs.Pages.{written_then}
use Rattle.text.proofs.page.Page.line.Goals as goal

pub returns : goal.returns
returns c = written_then (written_then c.put.ensures c.numbers.ensures) c.put-2.ensures
