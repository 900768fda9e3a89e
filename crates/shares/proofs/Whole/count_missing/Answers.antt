-- A turn takes one floor away: the floors up to it are at most 1,000.
use Rattle.shares.proofs.Wholes.{floor_taken}
use Rattle.shares.proofs.Whole.count_missing.Goals as goal

pub overflow_sub-left : goal.overflow_sub-left
overflow_sub-left c = (floor_taken c.args.self.now.to_share c.loop-i.i c.loop-i-test.true c.floor-left.ensures c.loop-i.invariant).0

pub loop-i-preserved : goal.loop-i-preserved
loop-i-preserved c = (floor_taken c.args.self.now.to_share c.loop-i.i c.loop-i-test.true c.floor-left.ensures c.loop-i.invariant).1
