-- A turn takes a field, which ends further on, or the book stops there.
use Rattle.std.proofs.Common.{refl, arith}
use Rattle.std.proofs.lemmas.Result.{err_from_is_err_and}
use Rattle.reader.proofs.Readings.{turns, halts}
use Rattle.reader.proofs.take_all.Goals as goal

pub loop-at-smaller : goal.loop-at-smaller
loop-at-smaller c = omega (arith, (turns c.args.bytes.now c.loop-at.at c.loop-at-test.true c.loop-at.invariant c.field.new.book c.in_ok-at.ensures).1)

pub returns-in_err-at : goal.returns-in_err-at
returns-in_err-at c =
    let p = err_from_is_err_and c.from_residual.result c.from_residual.ensures.1 in
    rw (p.1, p.2, halts c.args.bytes.now c.loop-at.at c.loop-at-test.true c.loop-at.invariant c.field.new.book c.in_err-at.ensures) refl
