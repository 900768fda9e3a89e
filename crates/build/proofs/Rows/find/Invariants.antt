-- The search is at row i of the chain.
use Rattle.build.specs.Course.{others_of}
use Prim.Native.Nat.{◌<◌}
use Rattle.build.proofs.InChains.{Searched}
use Rattle.sets.specs.Sets.{set_of}
use Rattle.build.proofs.Rows.find.Given as goal

abbrev pub invariant-loop-i : goal.invariant-loop-i
invariant-loop-i l = (l.i < l.self.used) × Searched (others_of l.self) l.self.used l.key.held (set_of l.key.live) l.key.fall l.i

abbrev pub decreases-loop-i : goal.decreases-loop-i
decreases-loop-i l = l.i
