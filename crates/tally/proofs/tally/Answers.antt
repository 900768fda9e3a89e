-- At first there is room for all that a profile may count, and there are as many sums as places.
use Rattle.std.proofs.Common.{arith, ◌∙◌, sym, length-take-le}
use Rattle.tally.proofs.Adding.{room_zeros}
use Rattle.tally.proofs.tally.Goals as goal

pub walk_lines-requires : goal.walk_lines-requires
walk_lines-requires c = (omega arith, room_zeros _ (omega arith))

pub copy_from_slice-requires : goal.copy_from_slice-requires
copy_from_slice-requires c = length-take-le _ _ c.if-sums-lt-RULES.false ∙ sym c.walk_lines.array_long
