-- Each part is put behind the one before it.
use Rattle.output.proofs.Laws.{adds_append}
use Rattle.output.proofs.Answer.put_pair.Goals as goal

pub returns : goal.returns
returns c = adds_append (adds_append (adds_append (adds_append c.put.ensures c.put_number.ensures) c.put-2.ensures) c.put_number-2.ensures) c.put-3.ensures
