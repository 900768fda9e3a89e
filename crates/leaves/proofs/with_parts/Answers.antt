-- At the end every total has its part, and unnamed has its own.
use Rattle.std.proofs.Common.{arith}
use Rattle.leaves.proofs.Records.{with_filled}
use Rattle.leaves.proofs.with_parts.Goals as goal

pub returns : goal.returns
returns c = with_filled c.args.old c.args.parts.now c.loop-i.invariant (omega arith)
