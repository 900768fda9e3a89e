-- The line of the next sum is put behind those in front of it, and at the end no sum is left.
use Rattle.std.proofs.Common.{arith}
use Rattle.shown.proofs.Laws.{front_next, front_all, sums_next, sums_end, sums-length}
use Rattle.shown.proofs.put_sums.Goals as goal

pub loop-rule-preserved : goal.loop-rule-preserved
loop-rule-preserved c =
    let front = rw (sums_next c.args.sums.now c.loop-rule.rule (omega arith)) at c.loop-rule.invariant in
    front_next front c.put_sum.ensures

pub returns-clause-bounded : goal.returns-clause-bounded
returns-clause-bounded c = sums-length 0 c.args.sums.now

pub returns-clause-puts : goal.returns-clause-puts
returns-clause-puts c =
    let front = rw (sums_end c.args.sums.now c.loop-rule.rule (omega arith)) at c.loop-rule.invariant in
    front_all front
