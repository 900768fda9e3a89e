-- The last line is put behind those of the reports.
use Rattle.output.proofs.Laws.{adds_append}
use Rattle.shown.proofs.Laws.{shown-length}
use Rattle.shown.proofs.put_walk.Goals as goal

pub returns-clause-bounded : goal.returns-clause-bounded
returns-clause-bounded c = shown-length c.args.reports.now c.args.falls c.args.held (λ i. (c.type_inv.reports i).fits)

pub returns-clause-puts : goal.returns-clause-puts
returns-clause-puts c = adds_append c.put_reports.ensures (rw c.from.ensures at c.put_pair.ensures)
