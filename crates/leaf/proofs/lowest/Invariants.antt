-- The lowest from here on is the lowest of all.
use Rattle.std.proofs.Common.{◌≡◌}
use Rattle.sets.specs.Sets.{set_of}
use Rattle.leaf.specs.Leaf.{lowest_of}
use Rattle.leaf.proofs.InBoth.{lowest_from}
use Rattle.leaf.proofs.lowest.Given as goal

abbrev pub invariant-loop-i : goal.invariant-loop-i
invariant-loop-i l = lowest_from (set_of l.live) (set_of l.out) l.i ≡ lowest_of (set_of l.live) (set_of l.out)
