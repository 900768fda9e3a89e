-- To store the pairs of the words left after those of the words passed is to store them all, and they fill the same places.
use Rattle.std.proofs.Common.{◌≡◌, ◌+◌, ◌*◌, length, drop}
use lib.Seq.{sets as stored}
use Rattle.sets.specs.Sets.{members_of, reports as pairs, plus_each}
use Rattle.walk.proofs.report.Given as goal

abbrev pub invariant-loop-i : goal.invariant-loop-i
invariant-loop-i l = (length l.reports ≡ length l.initial.reports) × (l.to + 2 * length (members_of (drop l.i l.set)) ≡ l.at + 2 * length (members_of l.set))
    × (stored l.reports l.to (pairs l.end (plus_each (64 * l.i) (members_of (drop l.i l.set)))) ≡ stored l.initial.reports l.at (pairs l.end (members_of l.set)))
