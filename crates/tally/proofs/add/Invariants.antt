-- What the loop keeps: to add for the words left makes of the sums what to add for all makes of the sums at entry, and there is room for those left.
use Prim.Native.Nat.{◌*◌}
use mathlib.Core.Path.{◌≡◌}
use lib.ListN.{length, drop}
use Rattle.sets.specs.Sets.{members_of, plus_each}
use Rattle.tally.specs.Tally.{add_all}
use Rattle.tally.specs.Passes.{Room}
use Rattle.tally.proofs.add.Given as goal

abbrev pub invariant-loop-i : goal.invariant-loop-i
invariant-loop-i l = record {
  room : Room (length (members_of (drop l.i l.set))) l.sums;
  adds : add_all l.count (plus_each (64 * l.i) (members_of (drop l.i l.set))) l.sums ≡ add_all l.count (members_of l.set) l.fn.sums;
}
