-- The part of row s is lent to the row filler and comes back filled.
use native.Mathlib.Omega.{arith}
use Rattle.build.proofs.Sanity.{leads_below, built}
use Rattle.build.proofs.Rows.build_row.Goals as goal

pub fill_row-requires-clause-via_in : goal.fill_row-requires-clause-via_in
fill_row-requires-clause-via_in c = λ k h. leads_below c.requires.sane (omega arith) (c.via_row-via.ensures k h)

pub returns-clause-course : goal.returns-clause-course
returns-clause-course c = built c.via_row-via.result c.fill_row.new.row c.via_row-via.ensures c.fill_row.ensures.course
