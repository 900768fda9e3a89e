-- A turn writes the share at i, and at the end all are written.
use Rattle.std.proofs.Common.{arith}
use Rattle.shares.proofs.Tables.{filled_next, filled-all}
use Rattle.shares.proofs.Whole.share_out.Goals as goal

pub loop-i-preserved : goal.loop-i-preserved
loop-i-preserved c = filled_next c.loop-i-test.true c.part.ensures c.loop-i.invariant

pub returns : goal.returns
returns c = filled-all c.loop-i.invariant (omega arith)
