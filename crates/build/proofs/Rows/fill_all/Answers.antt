-- One row more; at the end every row.
use native.Mathlib.Nat.{le_antisymm}
use native.Mathlib.Omega.{arith}
use Rattle.build.specs.Course.{start, grow, stuck}
use Rattle.build.proofs.Laws.{short_in}
use Rattle.build.proofs.Steps.{same_refl, same_more}
use Rattle.build.proofs.Sanity.{grown, rising, row_keeps, all-at}
use Rattle.build.proofs.Rows.fill_all.Goals as goal

pub loop-s-init : goal.loop-s-init
loop-s-init c = record { so_far = omega arith; building = rw c.requires.one start; ready = c.requires.ready; same = same_refl _ }

pub build_row-requires-clause-sane : goal.build_row-requires-clause-sane
build_row-requires-clause-sane c =
    let inv = c.loop-s.invariant in
    rw inv.same.lent_same ((grown (short_in _ c.requires.ready.within) (rw c.requires.one at c.requires.sane) inv.building).sane)

pub build_row-requires-clause-rising : goal.build_row-requires-clause-rising
build_row-requires-clause-rising c = rising c.loop-s.invariant.building c.loop-s-test.true

pub returns-in_err-build_row-clause-course : goal.returns-in_err-build_row-clause-course
returns-in_err-build_row-clause-course c =
    let inv = c.loop-s.invariant in
    rw c.from_residual.ensures (stuck inv.building c.loop-s-test.true (rw (inv.same.lent_same, inv.same.book_same) at c.in_err-build_row.ensures.course))

pub loop-s-preserved : goal.loop-s-preserved
loop-s-preserved c =
    let inv = c.loop-s.invariant in
    let small = short_in _ c.requires.ready.within in
    let k = grown small (rw c.requires.one at c.requires.sane) inv.building in
    let course = rw (inv.same.lent_same, inv.same.book_same) at c.in_ok-build_row.ensures.course in
    record {
      so_far = omega (arith, c.loop-s-test.true, (row_keeps small k.sane c.loop-s-test.true course).grown);
      building = grow inv.building c.loop-s-test.true course;
      ready = c.in_ok-build_row.ensures.ready;
      same = same_more inv.same c.in_ok-build_row.ensures.same;
    }

pub returns-clause-course : goal.returns-clause-course
returns-clause-course c = all-at (le_antisymm c.loop-s.invariant.so_far c.loop-s-test.false) c.loop-s.invariant.building
