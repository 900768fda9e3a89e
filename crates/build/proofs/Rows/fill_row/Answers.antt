-- One entry more; at the end all 256.
use native.Mathlib.Nat.{lt_of_lt_of_le}
use native.Mathlib.Omega.{arith}
use Rattle.build.specs.Course.{begin, next, short}
use Rattle.build.proofs.Steps.{filling-keeps, filling_in_hand, whole_at, same_refl, same_more}
use Rattle.build.proofs.Rows.fill_row.Goals as goal

pub loop-c-init : goal.loop-c-init
loop-c-init c = record { filling = begin; ready = c.requires.ready; same = same_refl _ }

pub place-requires-clause-in_hand : goal.place-requires-clause-in_hand
place-requires-clause-in_hand c = filling_in_hand c.requires.in_hand c.loop-c.invariant.filling

pub place-requires-clause-via_in : goal.place-requires-clause-via_in
place-requires-clause-via_in c = lt_of_lt_of_le (c.requires.via_in _ c.loop-c-test.true) (filling-keeps c.loop-c.invariant.filling).grown

pub returns-in_err-row-clause-course : goal.returns-in_err-row-clause-course
returns-in_err-row-clause-course c =
    let inv = c.loop-c.invariant in
    rw c.from_residual.ensures (short c.loop-c-test.true inv.filling (rw (inv.same.lent_same, inv.same.book_same) at c.in_err-row.ensures.course))

pub loop-c-preserved : goal.loop-c-preserved
loop-c-preserved c =
    let inv = c.loop-c.invariant in
    record {
      filling = next inv.filling (rw (inv.same.lent_same, inv.same.book_same) at c.in_ok-row.ensures.course);
      ready = c.in_ok-row.ensures.ready;
      same = same_more inv.same c.in_ok-row.ensures.same;
    }

pub returns-clause-course : goal.returns-clause-course
returns-clause-course c = whole_at (omega arith) c.loop-c.invariant.filling
