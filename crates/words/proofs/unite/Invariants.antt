-- The words passed are united, the others as they were; the words at entry are words of 64 bits.
use Rattle.std.proofs.Common.{get_or}
use Rattle.std.specs.Int.Bits.{bit_or}
use Rattle.sets.proofs.InWords.{Words}
use Rattle.sets.proofs.Writing.{Writing}
use Rattle.words.proofs.unite.Given as goal

abbrev pub invariant-loop-i : goal.invariant-loop-i
invariant-loop-i l = Writing (λ j. bit_or (get_or l.fn.words j 0) (get_or l.more j 0)) l.fn.words 0 l.i l.words × Words l.fn.words
