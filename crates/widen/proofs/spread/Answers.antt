-- At the end every place is that of the widened buffer.
use Rattle.std.proofs.Common.{arith}
use native.Mathlib.Nat.{zero-add}
use Rattle.book.proofs.Tables.{is_table}
use Rattle.widen.specs.Widen.{widened}
use Rattle.widen.proofs.spread.Goals as goal

pub returns : goal.returns
unfolding widened
returns c =
    let w = c.loop-i.invariant in
    is_table _ _ _ w.long (λ j h. rw zero-add at (w.done j (omega (arith, w.long))))
