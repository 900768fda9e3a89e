-- Each way is one case of the definition.
use Rattle.build.specs.Course.{there, made, full}
use Rattle.build.proofs.Rows.row_of.Goals as goal

pub returns-in-Some-clause-course : goal.returns-in-Some-clause-course
returns-in-Some-clause-course c = let (l, k) = c.in-Some.ensures in there _ l k

pub returns-then-self-clause-course : goal.returns-then-self-clause-course
returns-then-self-clause-course c = full c.in_default.ensures c.if-self.true

pub returns-clause-course : goal.returns-clause-course
returns-clause-course c =
    let (row, used) = c.add.ensures.row in
    rw (row, used) (made c.in_default.ensures c.if-self.false c.add.ensures.added)
