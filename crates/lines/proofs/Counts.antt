-- The counts of a profile that is not too long, added up, fit 64 bits. Assumes nothing.
use mathlib.Core.List.{[]}
use native.Mathlib.Omega.{arith}
use lib.ListN.{length}
use Rattle.sets.specs.Sums.{sum_over}
use Rattle.sets.proofs.Sums.{sum_within}
use Rattle.lines.specs.Lines.{lf, most_count, lines_of}
use Rattle.lines.specs.Profile.{count_in, CountsFit}
use Rattle.lines.proofs.Lines.{split-bytes, count_right}

pub counts-fit : CountsFit
unfolding sum_over
counts-fit profile h = omega (arith, sum_within most_count count_in length (λ l. (count_right l).1) (lines_of profile), split-bytes lf [] profile)
