-- The places passed are those of the widened buffer, the others as they were.
use Rattle.sets.proofs.Writing.{Writing}
use Rattle.widen.specs.Widen.{widened_at}
use Rattle.widen.proofs.spread.Given as goal

abbrev pub invariant-loop-i : goal.invariant-loop-i
invariant-loop-i l = Writing (widened_at l.old) l.fn.new 0 l.i l.new
