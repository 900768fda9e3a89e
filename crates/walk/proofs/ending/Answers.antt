-- The words lent are those of the row.
use Rattle.std.proofs.Common.{sym}
use Rattle.sets.proofs.Table.{part_row}
use Rattle.walk.proofs.Rows.{reported_row}
use Rattle.walk.proofs.ending.Goals as goal

pub returns-clause-members : goal.returns-clause-members
returns-clause-members c = let a = c.args in rw (part_row a.out.now a.row) (sym (reported_row a.out.now a.row c.requires))
