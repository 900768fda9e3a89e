-- What is counted, with the members of the words left, is the members of all.
use Rattle.std.proofs.Common.{◌≡◌, ◌+◌, ◌*◌, ◌≤◌, length, drop}
use Rattle.sets.specs.Sets.{members_of}
use Rattle.walk.proofs.many.Given as goal

abbrev pub invariant-loop-word : goal.invariant-loop-word
invariant-loop-word l = (l.all ≤ 64 * l.word-index) × (l.all + length (members_of (drop l.word-index l.set)) ≡ length (members_of l.set))
