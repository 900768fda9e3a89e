-- No bit from 64 on is set, and a mask of one bit is a remainder by 2.
use borrow.Author.Tests.{le-ltb}
use Rattle.std.proofs.Common.{arith, sym, ap, ◌∙◌, ◌/◌, nat_eq}
use Prim.Native.Nat.{◌^◌}
use lib.Bits.{and_mask}
use Rattle.sets.specs.Sets.{has}
use Rattle.sets.proofs.Laws.{has_above}
use Rattle.bits.proofs.has.Goals as goal

pub returns-else-k-lt64 : goal.returns-else-k-lt64
returns-else-k-lt64 c = le-ltb c.args.k 64 (omega arith) ∙ sym (has_above 64 c.args.k c.ranges.set.fits (omega arith))

pub returns-then-k-lt64 : goal.returns-then-k-lt64
unfolding has
returns-then-k-lt64 c = ap (λ x. nat_eq x 1) (and_mask (c.args.set / 2 ^ c.args.k) 1)
