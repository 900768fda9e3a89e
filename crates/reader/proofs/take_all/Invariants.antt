-- At the loop's head the book holds what was read, and the fields ahead give the meaning of the whole.
use Rattle.std.proofs.Common.{◌-◌, length}
use Rattle.reader.proofs.Readings.{Reading}
use Rattle.reader.proofs.take_all.Given as goal

abbrev pub invariant-loop-at : goal.invariant-loop-at
invariant-loop-at l = Reading l.bytes l.at l.book

abbrev pub decreases-loop-at : goal.decreases-loop-at
decreases-loop-at l = length l.bytes - l.at
