-- By what its calls ensure: tables of zeros, then filled, and of zeros again where there is no room.
use Rattle.lent.specs.Lent.{buffers_of}
use Rattle.build.specs.Course.{made_all, empty, refused}
use Rattle.build.proofs.Laws.{short_in}
use Rattle.build.proofs.Sanity.{crowded-long}
use Rattle.build.proofs.Zeroed.{zero_sane, zero_again}
use Rattle.build.proofs.make.Goals as goal

pub returns-then-lent-eq0-clause-course : goal.returns-then-lent-eq0-clause-course
returns-then-lent-eq0-clause-course c = rw c.zero.ensures.zeros (empty (rw c.lent-lent.ensures at c.if-lent-eq0.true))

pub returns-in-Some-clause-course : goal.returns-in-Some-clause-course
returns-in-Some-clause-course c =
    made_all (rw c.lent-lent.ensures at c.if-lent-eq0.false) (rw (c.lent-lent.ensures, c.zero.ensures.zeros) at c.in-Some.ensures.course)

pub returns-in-None-clause-course : goal.returns-in-None-clause-course
returns-in-None-clause-course c =
    let old = buffers_of c.args.buffers.now in
    let ne = rw c.lent-lent.ensures at c.if-lent-eq0.false in
    let course = rw (c.lent-lent.ensures, c.zero.ensures.zeros) at c.in-None.ensures.course in
    let long = crowded-long (short_in _ c.requires) (zero_sane old ne) course in
    rw (c.zero-in-None.ensures.zeros, zero_again old _ long, c.lent-lent.ensures) (refused ne course)
