-- The first i words of the set are those of the row, the others still 0.
use Rattle.std.proofs.Common.{◌+◌, ◌*◌, get_or, replicate}
use Rattle.sets.specs.Table.{row_words}
use Rattle.sets.proofs.Writing.{Writing}
use Rattle.one_byte.proofs.rules.Given as goal

abbrev pub invariant-loop-i : goal.invariant-loop-i
invariant-loop-i l = Writing (λ j. get_or l.out (row_words * l.row + j) 0) (replicate row_words 0) 0 l.i l.set
