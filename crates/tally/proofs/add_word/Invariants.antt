-- What the loop keeps: to add for the rules left makes of the sums what to add for all makes of the sums at entry, and there is room for those left.
use mathlib.Core.Path.{◌≡◌}
use lib.ListN.{length}
use Rattle.sets.specs.Sets.{members, plus_each}
use Rattle.tally.specs.Tally.{add_all}
use Rattle.tally.specs.Passes.{Room}
use Rattle.tally.proofs.add_word.Given as goal

abbrev pub invariant-loop-k : goal.invariant-loop-k
invariant-loop-k l = record {
  room : Room (length (members 64 l.k-iterator.0)) l.sums;
  adds : add_all l.count (plus_each l.base (members 64 l.k-iterator.0)) l.sums ≡ add_all l.count (plus_each l.base (members 64 l.word)) l.fn.sums;
}
