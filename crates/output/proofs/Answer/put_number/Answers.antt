-- What `io` spells, and what is put, are the number's digits.
use Rattle.std.proofs.Common.{arith, ◌∙◌}
use Rattle.output.proofs.Laws.{spelt}
use Rattle.output.proofs.Answer.put_number.Goals as goal

pub returns : goal.returns
returns c =
    let d = c.decimal-k in
    rw (d.ensures.digits ∙ spelt d.result c.args.n (omega arith) d.ensures.len) at c.put.ensures
