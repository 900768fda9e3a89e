-- The line of the rows is put part by part.
use Rattle.std.proofs.Common.{arith, eq-eqb}
use Rattle.output.proofs.Laws.{adds_append}
use Rattle.output.proofs.Answer.put_built.Goals as goal

pub returns : goal.returns
returns c = rw (eq-eqb c.args.number 0 (omega arith)) (adds_append (adds_append c.put.ensures c.put_number.ensures) c.put-2.ensures)
